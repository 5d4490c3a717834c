-- The symbols of every problem that is read have names that may be printed and read back.
use Rattle.std.proofs.Common.{◌≡◌, ◌∙◌, sym, ap, subst, refl, ℕ, zero, suc, Bool, true, false, List, [], ◌∷◌, ◌++◌, map, drop, length, cond, not, ◌⊎◌, inl, inr, Result, Ok, Err, None, Some, Option}
use Rattle.std.specs.Prelude.{codes, filter, flat_map, if◌then◌else◌}
use Rattle.std.specs.List.{AllByRecursion, list_any}
use Rattle.sc_term.proofs.SubstitutionLaws.{all_split, all_join}
use Rattle.sc_term.specs.declared.symbol.Symbol.{Symbol}
use Rattle.sc_term.specs.Symbol.{same_symbol, equality}
use Rattle.sc_term.proofs.SymbolLaws.{same_as_itself}
use Rattle.sc_input_rules.specs.declared.fault.Place.{Place}
use Rattle.sc_input_rules.specs.declared.settings.Home.{Home}
use Rattle.sc_input_rules.specs.declared.token.Token.{Token}
use Rattle.sc_input_rules.specs.declared.token.Token.TheVariants.{Punctuation}
use Rattle.sc_input_rules.specs.declared.token.Sign.TheVariants.{Open, Close, Comma, Stop}
use Rattle.sc_input_rules.specs.declared.written.Occurrence.{Occurrence}
use Rattle.sc_input_rules.specs.declared.written.WrittenLiteral.{WrittenLiteral}
use Rattle.sc_input_rules.specs.Token.{same_text}
use Rattle.sc_input_rules.specs.Reader.{Read, ◌>>=◌, unexpected, the_sign, the_word, a_listed_name, repeated}
use Rattle.sc_input_rules.specs.Settings.{item_words, unsupported_items, list_words, unsupported_lists, flag_words, unsupported_flags, parameter_words, unsupported_parameters}
use Rattle.sc_input_rules.specs.Syntax.{WrittenClause}
use Rattle.sc_input_rules.specs.ClauseGrammar.{clause}
use Rattle.sc_input_rules.specs.ProblemGrammar.{Item, Setting, Assignment, Listing, number, the_close, setting, assignment, listing, ended_clause, next_is_word, item, at_end, problem, at_proof_or_end, items}
use Rattle.sc_input_rules.specs.Numbering.{once, is_variable, Found, function_at, predicate_at, found_in}
use Rattle.sc_input_rules.specs.Problem.{Stated, home_of, listed, listed_clauses, stated}
use Rattle.sc_input_rules.specs.Reading.{problem_tokens, judged_items, problem_of, StatedItems, items_of}
use Rattle.sc_input_rules.specs.ProblemLimits.{problem_bounds, problem_fault_at}
use Rattle.sc_input_rules.specs.Faults.{first_passed, before, place_of, judged}
use Rattle.sc_input_rules.proofs.ReadProblems.{read_problem, read_items}
use Rattle.sc_input_rules.proofs.Booleans.{neither}
use Rattle.sc_input_rules.proofs.Spelling.{Head, Sides, Empty, Entry, in_brackets, behind_comma, tokens_of, side_tokens, occurrences, side_of, IsName, AreNames}
use Rattle.sc_input_rules.proofs.ClauseSpelling.{Atom, Plain, Equation, Wrapping, Bare, Negative, Brackets, NegativeBrackets, LiteralTree, ClauseTree, Falsum, Literals, equal_sign, atom_tokens, opening_tokens, closing_tokens, literal_tokens, behind_bar, clause_tokens, atom_written, wrapped, literal_written, clause_written, HasNames, IsSpelt, IsSpeltClause}
use Rattle.sc_input_rules.proofs.Taken.{Gives, both, same, sign_taken}
use Rattle.sc_input_rules.proofs.ClausesRead.{clause_read}
use Rattle.sc_input_rules.proofs.ItemWords.{listed_taken, close_taken}
use Rattle.sc_input_rules.proofs.ProblemRead.{item_read}
use Rattle.sc_text_laws.specs.Printable.{is_name, IsNamed, AreNamed}
use Rattle.sc_text_laws.proofs.TokenNames.{IsNameToken, problem_tokens_names}

abbrev AreNameTokens : List Token → Type 0
AreNameTokens ts = AllByRecursion IsNameToken ts

abbrev HasName : Occurrence → Type 0
HasName o = is_name o.name ≡ true

-- ---- sides

within_brackets : (h : Head) (args : Sides) → AreNameTokens (in_brackets h args (tokens_of args)) → AreNameTokens (tokens_of args)
within_brackets h Empty k = tt
within_brackets h (Entry g args comma others) k = (all_split IsNameToken (tokens_of (Entry g args comma others)) (Punctuation h.closing Close ∷ []) k.1).0

behind_the_comma : (at : ℕ) (others : Sides) → AreNameTokens (behind_comma at others (tokens_of others)) → AreNameTokens (tokens_of others)
behind_the_comma at Empty k = tt
behind_the_comma at (Entry g args comma others) k = k.1

sides_names : (f : Sides) → AreNameTokens (tokens_of f) → AreNames f → AllByRecursion HasName (occurrences f)
sides_names Empty k names = tt
sides_names (Entry h args comma others) k names =
    let s = all_split IsNameToken (in_brackets h args (tokens_of args)) (behind_comma comma others (tokens_of others)) k.1 in (
      k.0 names.0,
      all_join HasName (occurrences args) (occurrences others) (sides_names args (within_brackets h args s.0) names.1) (sides_names others (behind_the_comma comma others s.1) names.2),
    )

side_names : (h : Head) (args : Sides) → AreNameTokens (side_tokens h args) → IsName h → AreNames args → AllByRecursion HasName (side_of h args)
side_names h args k name names = (k.0 name, sides_names args (within_brackets h args k.1) names)

-- ---- literals and clauses

record LiteralNames (l : WrittenLiteral) : Type 0 where
  predicate : ((predicate_at l.predicate).symbol ≡ equality) ⊎ HasName l.predicate
  arguments : AllByRecursion HasName l.arguments

atom_names : (a : Atom) → AreNameTokens (atom_tokens a) → HasNames a → LiteralNames (atom_written a)
atom_names (Plain h args) k names = let s = side_names h args k names.0 names.1 in record { predicate = inr s.0; arguments = s.1 }
atom_names (Equation e) k names =
    let s = all_split IsNameToken (side_tokens e.left_head e.left_args) (Punctuation e.at (equal_sign e.positive) ∷ side_tokens e.right_head e.right_args) k in
    record {
      predicate = inl refl;
      arguments = all_join HasName (side_of e.left_head e.left_args) (side_of e.right_head e.right_args)
          (side_names e.left_head e.left_args s.0 names.0.0 names.0.1) (side_names e.right_head e.right_args s.1.1 names.1.0 names.1.1);
    }

wrapped_names : (w : Wrapping) (l : WrittenLiteral) → LiteralNames l → LiteralNames (wrapped w l)
wrapped_names Bare l h = h
wrapped_names (Negative at) l h = record { predicate = h.predicate; arguments = h.arguments }
wrapped_names (Brackets o c) l h = h
wrapped_names (NegativeBrackets at o c) l h = record { predicate = h.predicate; arguments = h.arguments }

literal_names : (l : LiteralTree) → AreNameTokens (literal_tokens l) → IsSpelt l → LiteralNames (literal_written l)
literal_names l k spelt =
    let s = all_split IsNameToken (opening_tokens l.wrapping) (atom_tokens l.atom ++ closing_tokens l.wrapping) k in
    let t = all_split IsNameToken (atom_tokens l.atom) (closing_tokens l.wrapping) s.1 in
    wrapped_names l.wrapping (atom_written l.atom) (atom_names l.atom t.0 spelt.1)

others_names : (bs : List (ℕ × LiteralTree)) → AreNameTokens (flat_map behind_bar bs) → AllByRecursion (λ (b : ℕ × LiteralTree). IsSpelt b.1) bs
    → AllByRecursion LiteralNames (map (λ (b : ℕ × LiteralTree). literal_written b.1) bs)
others_names [] k spelt = tt
others_names (b ∷ bs) k spelt =
    let s = all_split IsNameToken (literal_tokens b.1) (flat_map behind_bar bs) k.1 in
    (literal_names b.1 s.0 spelt.0, others_names bs s.1 spelt.1)

tree_names : (c : ClauseTree) → AreNameTokens (clause_tokens c) → IsSpeltClause c → AllByRecursion LiteralNames (clause_written c)
tree_names (Falsum at) k spelt = tt
tree_names (Literals l bs) k spelt =
    let s = all_split IsNameToken (literal_tokens l) (flat_map behind_bar bs) k in
    (literal_names l s.0 spelt.0, others_names bs s.1 spelt.1)

abbrev ClauseNames : WrittenClause → Type 0
ClauseNames c = AllByRecursion LiteralNames c

record Named {A : Type 0} (P : A → Type 0) (a : A) (left : List Token) : Type 0 where
  value : P a
  rest : AreNameTokens left

ended_clause_names : (ts : List Token) (c : WrittenClause) (left : List Token) → Gives (ended_clause ts) c left → AreNameTokens ts → Named ClauseNames c left
ended_clause_names ts c left e k =
    let b = both (clause ts) _ c left e in
    let r = clause_read ts b.value b.left b.first in
    let d = both (the_sign Stop b.left) _ c left b.second in
    let q = sign_taken Stop b.left d.value d.left d.first in
    let z = same b.value c d.left left d.second in
    let s = all_split IsNameToken (clause_tokens r.tree) b.left (subst AreNameTokens r.tokens k) in
    let after = subst AreNameTokens q.tokens s.1 in
    record { value = subst ClauseNames (sym r.written ∙ z.value) (tree_names r.tree s.0 r.spelt); rest = subst AreNameTokens z.left after.1 }

-- ---- several

module _ {A : Type 0} (P : A → Type 0) (ends : List Token → Bool) (one : List Token → Read A) (h : (ts : List Token) (a : A) (left : List Token) → Gives (one ts) a left → AreNameTokens ts → Named P a left) where
  repeated_names : (n : ℕ) (ts : List Token) (xs : List A) (left : List Token) → Gives (repeated ends one n ts) xs left → AreNameTokens ts → Named (AllByRecursion P) xs left
  repeated_names zero ts xs left e k = by (ends ts) e
    where
      by : (b : Bool) → Gives (elim b [ true ↦ Ok ([], ts) | false ↦ unexpected ts ]) xs left → Named (AllByRecursion P) xs left
      by true e = let z = same [] xs ts left e in record { value = subst (AllByRecursion P) z.value tt; rest = subst AreNameTokens z.left k }
      by false e = absurd cc
  repeated_names (suc n) ts xs left e k = by (ends ts) e (repeated_names n)
    where
      by : (b : Bool) → Gives (elim b [ true ↦ Ok ([], ts) | false ↦ one ts >>= λ first. repeated ends one n first.1 >>= λ others. Ok (first.0 ∷ others.0, others.1) ]) xs left
          → ((ts : List Token) (xs : List A) (left : List Token) → Gives (repeated ends one n ts) xs left → AreNameTokens ts → Named (AllByRecursion P) xs left) → Named (AllByRecursion P) xs left
      by true e ih = let z = same [] xs ts left e in record { value = subst (AllByRecursion P) z.value tt; rest = subst AreNameTokens z.left k }
      by false e ih =
          let b = both (one ts) _ xs left e in
          let d = both (repeated ends one n b.left) _ xs left b.second in
          let z = same (b.value ∷ d.value) xs d.left left d.second in
          let f = h ts b.value b.left b.first k in
          let r = ih b.left d.value d.left d.first f.rest in
          record { value = subst (AllByRecursion P) z.value (f.value, r.value); rest = subst AreNameTokens z.left r.rest }

-- ---- items

abbrev ListedNames : List (Home × WrittenClause) → Type 0
ListedNames cs = AllByRecursion (λ (c : Home × WrittenClause). ClauseNames c.1) cs

abbrev ItemNames : Item → Type 0
ItemNames i = ListedNames (listed i)

all_at_home : (h : Home) (cs : List WrittenClause) → AllByRecursion ClauseNames cs → ListedNames (map (λ c. (h, c)) cs)
all_at_home h [] k = tt
all_at_home h (c ∷ cs) k = (k.0, all_at_home h cs k.1)

setting_names : (positive : Bool) (ts : List Token) (i : Item) (left : List Token) → Gives (setting positive ts) i left → ItemNames i
setting_names positive ts i left g =
    let b = both (the_sign Open ts) _ i left g in
    let c = both (a_listed_name flag_words unsupported_flags b.left) _ i left b.second in
    let d = both (the_close c.left) _ i left c.second in
    let z = same (Setting c.value positive) i d.left left d.second in
    subst ItemNames z.value tt

assignment_names : (ts : List Token) (i : Item) (left : List Token) → Gives (assignment ts) i left → ItemNames i
assignment_names ts i left g =
    let b = both (the_sign Open ts) _ i left g in
    let c = both (a_listed_name parameter_words unsupported_parameters b.left) _ i left b.second in
    let o = both (the_sign Comma c.left) _ i left c.second in
    let n = both (number o.left) _ i left o.second in
    let d = both (the_close n.left) _ i left n.second in
    let z = same (Assignment c.value n.value) i d.left left d.second in
    subst ItemNames z.value tt

listing_names : (ts : List Token) (i : Item) (left : List Token) → Gives (listing ts) i left → AreNameTokens ts → ItemNames i
listing_names ts i left g k =
    let b = both (the_sign Open ts) _ i left g in
    let o = sign_taken Open ts b.value b.left b.first in
    let c = both (a_listed_name list_words unsupported_lists b.left) _ i left b.second in
    let n = listed_taken list_words unsupported_lists b.left c.value c.left c.first in
    let d = both (the_close c.left) _ i left c.second in
    let q = close_taken c.left d.value d.left d.first in
    let f = both (repeated (next_is_word (codes "end_of_list")) ended_clause (length d.left) d.left) _ i left d.second in
    let w = both (the_word (codes "end_of_list") f.left) _ i left f.second in
    let l = both (the_sign Stop w.left) _ i left w.second in
    let z = same (Listing c.value f.value) i l.left left l.second in
    let ka = subst AreNameTokens o.tokens k in
    let kb = subst AreNameTokens n.tokens ka.1 in
    let kc = subst AreNameTokens q.tokens kb.1 in
    let r = repeated_names ClauseNames (next_is_word (codes "end_of_list")) ended_clause ended_clause_names (length d.left) d.left f.value f.left f.first kc.1.1 in
    subst ItemNames z.value (all_at_home (home_of c.value.text) f.value r.value)

item_names : (ts : List Token) (i : Item) (left : List Token) → Gives (item ts) i left → AreNameTokens ts → Named ItemNames i left
item_names ts i left e k =
    let b = both (a_listed_name item_words unsupported_items ts) _ i left e in
    let w = listed_taken item_words unsupported_items ts b.value b.left b.first in
    let r = item_read ts i left e in
    let kb = subst AreNameTokens w.tokens k in
    let s = all_split IsNameToken r.taken left (subst AreNameTokens r.tokens k) in
    record { value = by b.value.text b.left kb.1 (same_text b.value.text (codes "set")) (same_text b.value.text (codes "clear")) (same_text b.value.text (codes "assign")) b.second; rest = s.1 }
  where
    by : (text : List ℕ) (us : List Token) → AreNameTokens us → (a b c : Bool) → Gives (elim a [
      | true ↦ setting true us
      | false ↦ elim b [ true ↦ setting false us | false ↦ elim c [ true ↦ assignment us | false ↦ listing us ] ]
    ]) i left → ItemNames i
    by text us k true b c e = setting_names true us i left e
    by text us k false true c e = setting_names false us i left e
    by text us k false false true e = assignment_names us i left e
    by text us k false false false e = listing_names us i left e k

all_listed : (is : List Item) → AllByRecursion ItemNames is → ListedNames (listed_clauses is)
all_listed [] h = tt
all_listed (i ∷ is) h = all_join (λ (c : Home × WrittenClause). ClauseNames c.1) (listed i) (listed_clauses is) h.0 (all_listed is h.1)

-- ---- symbols

abbrev IsFit : Found → Type 0
IsFit f = (f.symbol ≡ equality) ⊎ IsNamed f.symbol

functions_fit : (os : List Occurrence) → AllByRecursion HasName os → AllByRecursion IsFit (map function_at (filter (λ o. not (is_variable o)) os))
functions_fit [] h = tt
functions_fit (o ∷ os) h = by (is_variable o) refl (functions_fit os h.1)
  where
    rest : List Occurrence
    rest = filter (λ o. not (is_variable o)) os

    by : (b : Bool) → is_variable o ≡ b → AllByRecursion IsFit (map function_at (filter (λ o. not (is_variable o)) os))
        → AllByRecursion IsFit (map function_at (cond (not b) (o ∷ filter (λ o. not (is_variable o)) os) (filter (λ o. not (is_variable o)) os)))
    by true e ih = ih
    by false e ih = (inr (record { name = h.0; constant = e }), ih)

predicate_fit : (o : Occurrence) → ((predicate_at o).symbol ≡ equality) ⊎ HasName o → IsFit (predicate_at o)
predicate_fit o (inl e) = inl e
predicate_fit o (inr h) = inr (record { name = h; constant = refl })

clause_fit : (c : WrittenClause) → ClauseNames c → AllByRecursion IsFit (flat_map found_in c)
clause_fit [] h = tt
clause_fit (l ∷ ls) h =
    let k = h.0 in
    all_join IsFit (found_in l) (flat_map found_in ls) (predicate_fit l.predicate k.predicate, functions_fit l.arguments k.arguments) (clause_fit ls h.1)

clauses_fit : (cs : List (Home × WrittenClause)) → ListedNames cs → AllByRecursion IsFit (flat_map (λ c. flat_map found_in c) (map (λ (c : Home × WrittenClause). c.1) cs))
clauses_fit [] h = tt
clauses_fit (c ∷ cs) h = all_join IsFit (flat_map found_in c.1) (flat_map (λ c. flat_map found_in c) (map (λ (c : Home × WrittenClause). c.1) cs)) (clause_fit c.1 h.0) (clauses_fit cs h.1)

abbrev same_found : Found → Found → Bool
same_found f g = same_symbol f.symbol g.symbol

first_found : Found
first_found = record { symbol = equality; at = 0 }

-- behind `=` each has a name
others_named : (before xs : List Found) → ((x : Found) → list_any (same_found x) before ≡ false → same_symbol x.symbol equality ≡ false) → AllByRecursion IsFit xs
    → AllByRecursion IsNamed (map (λ (f : Found). f.symbol) (once same_found before xs))
others_named before [] other h = tt
others_named before (x ∷ xs) other h =
    by (list_any (same_found x) before) refl (others_named before xs other h.1)
    (others_named (x ∷ before) xs (λ y e. other y (neither (same_found y x) (list_any (same_found y) before) e).1) h.1)
  where
    named : list_any (same_found x) before ≡ false → IsFit x → IsNamed x.symbol
    named e (inl is) =
        let differs = other x e in
        let same : same_symbol x.symbol equality ≡ true = ap (λ (s : Symbol). same_symbol s equality) is ∙ same_as_itself equality in
        absurd cc
    named e (inr n) = n

    by : (b : Bool) → list_any (same_found x) before ≡ b → AllByRecursion IsNamed (map (λ (f : Found). f.symbol) (once same_found before xs))
        → AllByRecursion IsNamed (map (λ (f : Found). f.symbol) (once same_found (x ∷ before) xs))
        → AllByRecursion IsNamed (map (λ (f : Found). f.symbol) (if b then once same_found before xs else (x ∷ once same_found (x ∷ before) xs)))
    by true e k m = k
    by false e k m = (named e h.0, m)

-- the symbols of a problem's items have names
abbrev pub HasNamedSymbols : Stated → Type 0
HasNamedSymbols p = AllByRecursion IsNamed (drop 1 p.symbols)

items_named : (is : List Item) → AllByRecursion ItemNames is → HasNamedSymbols (stated is)
items_named is h =
    let cs = listed_clauses is in
    others_named (record { symbol = equality; at = 0 } ∷ []) (flat_map (λ c. flat_map found_in c) (map (λ (c : Home × WrittenClause). c.1) cs))
    (λ x e. (neither (same_symbol x.symbol equality) false e).0) (clauses_fit cs (all_listed is h))

-- ---- problems

when_none : {A : Type 0} → Option Place → A × List Token → Result (A × List Token) Place
when_none o r = elim o [ None ↦ Ok r | Some p ↦ Err p ]

given : {A : Type 0} (o : Option Place) (w v : A × List Token) → when_none o w ≡ Ok v → w ≡ v
unfolding when_none
given None w v e = cc
given (Some p) w v e = absurd cc

production_ok : {A : Type 0} (fault_at : List Token → Option Place) (end : ℕ) (ts : List Token) (r : Read A) (v : A × List Token) → judged fault_at end ts r ≡ Ok v → r ≡ Ok v
unfolding when_none
production_ok fault_at end ts (Ok w) v e = ap Ok (given (first_passed fault_at (before w.1 ts)) w v e)
production_ok fault_at end ts (Err f) v e = absurd cc

as_stated : Result (List Item × List Token) Place → Result Stated Place
as_stated r = elim r [ Ok r ↦ Ok (stated r.0) | Err p ↦ Err p ]

-- the symbols of a problem that is read may be printed and read back
pub problem_symbols : (bytes : List ℕ) (p : Stated) → problem_of bytes ≡ Ok p → AreNamed p.symbols
unfolding as_stated
problem_symbols bytes p e =
    let is = read_problem bytes p e in
    record { signature = is.signature; names = by (judged_items problem_bounds problem bytes) refl e }
  where
    by : (r : Result (List Item × List Token) Place) → judged_items problem_bounds problem bytes ≡ r → as_stated r ≡ Ok p → HasNamedSymbols p
    by (Ok v) h e =
        let ts = problem_tokens bytes in
        let read = production_ok (problem_fault_at problem_bounds) (length bytes) ts (problem ts) v h in
        let same : stated v.0 ≡ p = cc in
        let r = repeated_names ItemNames at_end item item_names (length ts) ts v.0 v.1 read (problem_tokens_names bytes) in
        subst HasNamedSymbols same (items_named v.0 r.value)
    by (Err q) h e = absurd cc

with_rest : List ℕ → Result (List Item × List Token) Place → Result StatedItems Place
with_rest bytes r = elim r [ Ok r ↦ Ok (record { problem = stated r.0; rest = place_of (length bytes) r.1 }) | Err p ↦ Err p ]

-- the same of a problem before a proof or a run
pub items_symbols : (bytes : List ℕ) (p : StatedItems) → items_of bytes ≡ Ok p → AreNamed p.problem.symbols
unfolding with_rest
items_symbols bytes p e =
    let is = read_items bytes p e in
    record { signature = is.signature; names = by (judged_items problem_bounds items bytes) refl e }
  where
    by : (r : Result (List Item × List Token) Place) → judged_items problem_bounds items bytes ≡ r → with_rest bytes r ≡ Ok p → HasNamedSymbols p.problem
    by (Ok v) h e =
        let ts = problem_tokens bytes in
        let read = production_ok (problem_fault_at problem_bounds) (length bytes) ts (items ts) v h in
        let all : record { problem = stated v.0; rest = place_of (length bytes) v.1 } ≡ p = cc in
        let r = repeated_names ItemNames at_proof_or_end item item_names (length ts) ts v.0 v.1 read (problem_tokens_names bytes) in
        subst HasNamedSymbols (ap (λ (p : StatedItems). p.problem) all) (items_named v.0 r.value)
    by (Err q) h e = absurd cc

-- The tokens of the text of a term are those of a tree, which is read as that term.
use Rattle.std.proofs.Common.{◌≡◌, ◌∙◌, sym, ap, subst, refl, ℕ, ◌+◌, ◌<◌, ◌≤◌, ◌^◌, Bool, true, List, [], ◌∷◌, ◌++◌, map, length, append_assoc, Option, Some, None, arith}
use Rattle.std.specs.Prelude.{◌&&◌, codes, decimal}
use Rattle.std.specs.List.{AllByRecursion, list_all}
use Rattle.std.proofs.lemmas.List.{append-nil, length-map}
use Rattle.sc_term.specs.declared.SymId.{SymId}
use Rattle.sc_term.specs.declared.Term.{Term}
use Rattle.sc_term.specs.declared.Term.TheVariants.{Var, App}
use Rattle.sc_term.specs.Term.{largest, term_width}
use Rattle.sc_term.proofs.TermLaws.{term_ind, fold-App, width-Var, width-App}
use Rattle.sc_term.specs.declared.symbol.Role.TheVariants.{Function}
use Rattle.sc_term.specs.declared.symbol.Symbol.{Symbol}
use Rattle.sc_input_rules.specs.declared.token.Token.{Token}
use Rattle.sc_input_rules.specs.declared.token.Token.TheVariants.{Word, Punctuation}
use Rattle.sc_input_rules.specs.declared.token.Sign.TheVariants.{Open, Close, Comma}
use Rattle.sc_input_rules.specs.Numbering.{function_at, symbol_number}
use Rattle.sc_input_rules.specs.WellFormed.{is_used_as, over_step, term_is_over}
use Rattle.sc_input_rules.proofs.Booleans.{parts_hold}
use Rattle.sc_input_rules.proofs.Spelling.{Head, Sides, Empty, Entry, in_brackets, tokens_of, side_tokens, count, occurrence, occurrences, side_of, IsName, AreNames}
use Rattle.sc_input_rules.proofs.Terms.{term_from, terms, terms-length}
use Rattle.sc_input_rules.proofs.DepthLaw.{largest-cons}
use Rattle.sc_text_rules.specs.ClauseText.{joined_by, applied, term_text}
use Rattle.sc_text_rules.specs.TextWords.{text_variable}
use Rattle.sc_text_laws.specs.Printable.{is_name, AreNamed}
use Rattle.sc_text_rules.proofs.TextLaws.{text-Var, text-App}
use Rattle.sc_text_laws.proofs.WordTokens.{tokens_at, Breaks, past, word_token, open_token, close_token, comma_token, name_is_not_falsum}
use Rattle.sc_text_laws.proofs.NumberTexts.{variable_is_name, variable_back, no_variable}
use Rattle.sc_term.proofs.SubstitutionLaws.{all_join}
use Rattle.sc_text_laws.proofs.KnownNames.{KnownTerm, variable_known, symbol_known}
use Rattle.sc_text_laws.proofs.SymbolTexts.{symbol_is, name_is, symbol_back, function_named}

-- the tree of a term's text, which stands before the rest of a text
pub record TermSpelt (symbols : List Symbol) (t : Term) (at : ℕ) (rest : List ℕ) : Type 0 where
  pub head : Head
  pub args : Sides
  pub next : ℕ
  pub tokens : tokens_at at (term_text symbols t ++ rest) ≡ side_tokens head args ++ tokens_at next rest
  pub term : term_from text_variable symbols (occurrence head args) (terms text_variable symbols args) ≡ t
  pub name : IsName head
  pub names : AreNames args
  pub known : AllByRecursion (KnownTerm symbols) (side_of head args)

-- the trees of terms with commas between them
pub record TermsSpelt (symbols : List Symbol) (ts : List Term) (at : ℕ) (rest : List ℕ) : Type 0 where
  pub head : Head
  pub args : Sides
  pub comma : ℕ
  pub others : Sides
  pub next : ℕ
  pub tokens : tokens_at at (joined_by (codes ",") (map (term_text symbols) ts) ++ rest) ≡ tokens_of (Entry head args comma others) ++ tokens_at next rest
  pub terms : terms text_variable symbols (Entry head args comma others) ≡ ts
  pub names : AreNames (Entry head args comma others)
  pub known : AllByRecursion (KnownTerm symbols) (occurrences (Entry head args comma others))

-- what is known of a term
pub record MayStand (symbols : List Symbol) (t : Term) : Type 0 where
  pub over : term_is_over symbols t ≡ true
  pub narrow : term_width t ≤ 65536

-- ---- variables

variable_spelt : (symbols : List Symbol) (n at : ℕ) (rest : List ℕ) → n < 65536 → Breaks rest → TermSpelt symbols (Var n) at rest
variable_spelt symbols n at rest h breaks =
    let w = codes "x" ++ decimal n in
    let fits : n < 2 ^ 64 = omega arith in
    let named = variable_is_name n fits in
    record {
      head = record { at = at; text = w; opening = 0; closing = 0 };
      args = Empty;
      next = past w at;
      tokens = ap (λ (s : List ℕ). tokens_at at (s ++ rest)) (text-Var symbols n) ∙ word_token at w rest named breaks;
      term = ap (λ (v : Option ℕ). elim v [ Some n ↦ Var n | None ↦ App (symbol_number symbols (function_at (record { at = at; name = w; arity = 0 })).symbol) [] ]) (variable_back at n fits);
      name = name_is_not_falsum w named;
      names = tt;
      known = (variable_known symbols at n h, tt);
    }

-- ---- terms in a row

last_spelt : (symbols : List Symbol) (t : Term) (at : ℕ) (rest : List ℕ) → TermSpelt symbols t at rest → TermsSpelt symbols (t ∷ []) at rest
last_spelt symbols t at rest s =
    record {
      head = s.head;
      args = s.args;
      comma = 0;
      others = Empty;
      next = s.next;
      tokens = s.tokens ∙ ap (λ (us : List Token). Word s.head.at s.head.text ∷ (us ++ tokens_at s.next rest)) (sym (append-nil (in_brackets s.head s.args (tokens_of s.args))));
      terms = ap (λ (t : Term). t ∷ []) s.term;
      names = (s.name, s.names, tt);
      known = (s.known.0, all_join (KnownTerm symbols) (occurrences s.args) [] s.known.1 tt);
    }

more_spelt : (symbols : List Symbol) (t u : Term) (us : List Term) (at : ℕ) (rest : List ℕ)
    → (s : TermSpelt symbols t at (44 ∷ (joined_by (codes ",") (map (term_text symbols) (u ∷ us)) ++ rest))) → TermsSpelt symbols (u ∷ us) (s.next + 1) rest → TermsSpelt symbols (t ∷ u ∷ us) at rest
more_spelt symbols t u us at rest s m =
    let others = joined_by (codes ",") (map (term_text symbols) (u ∷ us)) in
    let inside = in_brackets s.head s.args (tokens_of s.args) in
    let behind = tokens_of (Entry m.head m.args m.comma m.others) in
    record {
      head = s.head;
      args = s.args;
      comma = s.next;
      others = Entry m.head m.args m.comma m.others;
      next = m.next;
      tokens =
          ap (tokens_at at) (append_assoc (term_text symbols t ++ codes ",") others rest ∙ append_assoc (term_text symbols t) (codes ",") (others ++ rest))
          ∙ s.tokens
          ∙ ap (λ (ts : List Token). side_tokens s.head s.args ++ ts) (comma_token s.next (others ++ rest) ∙ ap (λ (ts : List Token). Punctuation s.next Comma ∷ ts) m.tokens)
          ∙ ap (λ (ts : List Token). Word s.head.at s.head.text ∷ ts) (sym (append_assoc inside (Punctuation s.next Comma ∷ behind) (tokens_at m.next rest)));
      terms = (λ i. s.term i ∷ m.terms i);
      names = (s.name, s.names, m.names);
      known = (s.known.0, all_join (KnownTerm symbols) (occurrences s.args) (occurrences (Entry m.head m.args m.comma m.others)) s.known.1 m.known);
    }

abbrev IsSpelt : List Symbol → Term → Type 0
IsSpelt symbols t = (at : ℕ) (rest : List ℕ) → MayStand symbols t → Breaks rest → TermSpelt symbols t at rest

pub terms_spelt : (symbols : List Symbol) (t : Term) (ts : List Term) (at : ℕ) (rest : List ℕ) → AllByRecursion (IsSpelt symbols) (t ∷ ts) → AllByRecursion (MayStand symbols) (t ∷ ts) → Breaks rest
    → TermsSpelt symbols (t ∷ ts) at rest
terms_spelt symbols t [] at rest h may breaks = last_spelt symbols t at rest (h.0 at rest may.0 breaks)
terms_spelt symbols t (u ∷ us) at rest h may breaks =
    let s = h.0 at (44 ∷ (joined_by (codes ",") (map (term_text symbols) (u ∷ us)) ++ rest)) may.0 refl in
    more_spelt symbols t u us at rest s (terms_spelt symbols u us (s.next + 1) rest h.1 may.1 breaks)

-- ---- names with their arguments

-- the tree of a name with arguments, which stands before the rest of a text
pub record ApplicationSpelt (symbols : List Symbol) (name : List ℕ) (ts : List Term) (at : ℕ) (rest : List ℕ) : Type 0 where
  pub head : Head
  pub args : Sides
  pub next : ℕ
  pub tokens : tokens_at at (applied name (map (term_text symbols) ts) ++ rest) ≡ side_tokens head args ++ tokens_at next rest
  pub text : head.text ≡ name
  pub terms : terms text_variable symbols args ≡ ts
  pub named : IsName head
  pub names : AreNames args
  pub known : AllByRecursion (KnownTerm symbols) (occurrences args)

name_spelt : (symbols : List Symbol) (name : List ℕ) (at : ℕ) (rest : List ℕ) → is_name name ≡ true → Breaks rest → ApplicationSpelt symbols name [] at rest
name_spelt symbols name at rest named breaks =
    record {
      head = record { at = at; text = name; opening = 0; closing = 0 };
      args = Empty;
      next = past name at;
      tokens = word_token at name rest named breaks;
      text = refl;
      terms = refl;
      named = name_is_not_falsum name named;
      names = tt;
      known = tt;
    }

arguments_spelt : (symbols : List Symbol) (name : List ℕ) (t : Term) (ts : List Term) (at : ℕ) (rest : List ℕ) → is_name name ≡ true
    → AllByRecursion (IsSpelt symbols) (t ∷ ts) → AllByRecursion (MayStand symbols) (t ∷ ts) → ApplicationSpelt symbols name (t ∷ ts) at rest
arguments_spelt symbols w t ts at rest named spelt may =
    let inside = joined_by (codes ",") (map (term_text symbols) (t ∷ ts)) in
    let o = past w at in
    let m = terms_spelt symbols t ts (o + 1) (41 ∷ rest) spelt may refl in
    let args = Entry m.head m.args m.comma m.others in
    let tail = tokens_at (m.next + 1) rest in
    record {
      head = record { at = at; text = w; opening = o; closing = m.next };
      args = Entry m.head m.args m.comma m.others;
      next = m.next + 1;
      tokens =
          ap (tokens_at at) (append_assoc w (40 ∷ (inside ++ codes ")")) rest ∙ ap (λ (us : List ℕ). w ++ (40 ∷ us)) (append_assoc inside (codes ")") rest))
          ∙ word_token at w (40 ∷ (inside ++ (41 ∷ rest))) named refl
          ∙ ap (λ (us : List Token). Word at w ∷ us) (open_token o (inside ++ (41 ∷ rest)))
          ∙ ap (λ (us : List Token). Word at w ∷ Punctuation o Open ∷ us) (m.tokens ∙ ap (λ (us : List Token). tokens_of args ++ us) (close_token m.next rest))
          ∙ ap (λ (us : List Token). Word at w ∷ Punctuation o Open ∷ us) (sym (append_assoc (tokens_of args) (Punctuation m.next Close ∷ []) tail));
      text = refl;
      terms = m.terms;
      named = name_is_not_falsum w named;
      names = m.names;
      known = m.known;
    }

application_spelt : (symbols : List Symbol) (name : List ℕ) (ts : List Term) (at : ℕ) (rest : List ℕ) → is_name name ≡ true
    → AllByRecursion (IsSpelt symbols) ts → AllByRecursion (MayStand symbols) ts → Breaks rest → ApplicationSpelt symbols name ts at rest
application_spelt symbols name [] at rest named spelt may breaks = name_spelt symbols name at rest named breaks
application_spelt symbols name (t ∷ ts) at rest named spelt may breaks = arguments_spelt symbols name t ts at rest named spelt may

pub application_count : (symbols : List Symbol) (name : List ℕ) (ts : List Term) (at : ℕ) (rest : List ℕ) (a : ApplicationSpelt symbols name ts at rest) → count a.args ≡ length ts
application_count symbols name ts at rest a = sym (terms-length text_variable symbols a.args) ∙ ap (λ (ts : List Term). length ts) a.terms

-- ---- terms

pub all_may_stand : (symbols : List Symbol) (ts : List Term) → list_all (λ b. b) (map (term_is_over symbols) ts) ≡ true → largest (map term_width ts) ≤ 65536 → AllByRecursion (MayStand symbols) ts
all_may_stand symbols [] e le = tt
all_may_stand symbols (t ∷ ts) e le =
    let p = parts_hold (term_is_over symbols t) (list_all (λ b. b) (map (term_is_over symbols) ts)) e in
    let l = largest-cons (term_width t) (map term_width ts) in
    (record { over = p.0; narrow = omega arith }, all_may_stand symbols ts p.1 (omega arith))

symbol_spelt : (symbols : List Symbol) (f : SymId) (ts : List Term) → AreNamed symbols → AllByRecursion (IsSpelt symbols) ts → IsSpelt symbols (App f ts)
symbol_spelt symbols f ts h spelt at rest may breaks =
    let bs = map (term_is_over symbols) ts in
    let n = length ts in
    let over : (is_used_as symbols Function f (length bs) && list_all (λ b. b) bs) ≡ true = sym (fold-App Bool (over_step symbols) f ts) ∙ may.over in
    let p = parts_hold (is_used_as symbols Function f (length bs)) (list_all (λ b. b) bs) over in
    let s = symbol_is symbols Function f n (ap (λ (n : ℕ). is_used_as symbols Function f n) (sym (length-map ts (term_is_over symbols))) ∙ p.0) in
    let symbol : Symbol = record { name = s.name; arity = n; role = Function } in
    let named = function_named symbols f s.name n h s.here in
    let width = width-App f ts in
    let all = all_may_stand symbols ts p.1 (let n = may.narrow in omega arith) in
    let a = application_spelt symbols s.name ts at rest named.name spelt all breaks in
    let many = application_count symbols s.name ts at rest a in
    record {
      head = a.head;
      args = a.args;
      next = a.next;
      tokens = ap (λ (us : List ℕ). tokens_at at (us ++ rest)) (text-App symbols f ts ∙ ap (λ (name : List ℕ). applied name (map (term_text symbols) ts)) (name_is symbols f symbol s.here)) ∙ a.tokens;
      term =
          (λ i. term_from text_variable symbols (record { at = a.head.at; name = a.text i; arity = many i }) (a.terms i))
          ∙ ap (λ (v : Option ℕ). elim v [ Some n ↦ Var n | None ↦ App (symbol_number symbols symbol) ts ]) (no_variable (record { at = a.head.at; name = s.name; arity = n }) named.constant)
          ∙ ap (λ (g : SymId). App g ts) (symbol_back symbols f symbol h.signature s.here);
      name = a.named;
      names = a.names;
      known = (
        subst (KnownTerm symbols) (λ i. record { at = a.head.at; name = sym a.text i; arity = sym many i }) (symbol_known symbols f.0 a.head.at n s.name h.signature s.here named),
        a.known,
      );
    }

pub term_spelt : (symbols : List Symbol) → AreNamed symbols → (t : Term) (at : ℕ) (rest : List ℕ) → MayStand symbols t → Breaks rest → TermSpelt symbols t at rest
term_spelt symbols h t =
    term_ind (IsSpelt symbols)
    (λ n at rest may breaks. let w = width-Var n in let le = may.narrow in variable_spelt symbols n at rest (omega arith) breaks)
    (λ f ts spelt. symbol_spelt symbols f ts h spelt) t

all_spelt : (symbols : List Symbol) → AreNamed symbols → (ts : List Term) → AllByRecursion (IsSpelt symbols) ts
all_spelt symbols h [] = tt
all_spelt symbols h (t ∷ ts) = (term_spelt symbols h t, all_spelt symbols h ts)

pub row_spelt : (symbols : List Symbol) → AreNamed symbols → (t : Term) (ts : List Term) (at : ℕ) (rest : List ℕ) → AllByRecursion (MayStand symbols) (t ∷ ts) → Breaks rest → TermsSpelt symbols (t ∷ ts) at rest
row_spelt symbols h t ts at rest may breaks = terms_spelt symbols t ts at rest (all_spelt symbols h (t ∷ ts)) may breaks

pub atom_spelt : (symbols : List Symbol) → AreNamed symbols → (name : List ℕ) (ts : List Term) (at : ℕ) (rest : List ℕ) → is_name name ≡ true → AllByRecursion (MayStand symbols) ts → Breaks rest
    → ApplicationSpelt symbols name ts at rest
atom_spelt symbols h name ts at rest named may breaks = application_spelt symbols name ts at rest named (all_spelt symbols h ts) may breaks

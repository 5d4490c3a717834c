-- No limit is passed at any token of a term of an instance step that is within them, nor at the token behind it.
use Rattle.std.proofs.Common.{◌≡◌, ◌∙◌, sym, ap, subst, refl, ℕ, zero, suc, ◌+◌, ◌≤◌, Bool, true, false, List, [], ◌∷◌, ◌++◌, append_assoc, arith}
use Rattle.std.specs.Prelude.{◌&&◌, ◌==◌, if◌then◌else◌}
use Rattle.std.specs.List.{AllByRecursion, list_any}
use Rattle.std.proofs.lemmas.List.{append-nil, reverse-append}
use Rattle.std.proofs.Math.Dec.{eqb-suc-zero}
use Rattle.sc_term.proofs.SubstitutionLaws.{all_join}
use Rattle.sc_term.specs.declared.Term.{Term}
use Rattle.sc_term.specs.Term.{term_weight, term_depth}
use Rattle.sc_term.specs.declared.symbol.Symbol.{Symbol}
use Rattle.sc_input_rules.specs.declared.token.Token.{Token}
use Rattle.sc_input_rules.specs.declared.token.Token.TheVariants.{Word, Punctuation}
use Rattle.sc_input_rules.specs.declared.token.Sign.TheVariants.{Close, Comma, Bar}
use Rattle.sc_input_rules.specs.Token.{is_sign}
use Rattle.sc_input_rules.specs.ClauseGrammar.{is_equality}
use Rattle.sc_input_rules.specs.Measures.{weight_so_far, greatest_level, depth_of_atom}
use Rattle.sc_input_rules.proofs.Spelling.{Head, Sides, Empty, Entry, in_brackets, behind_comma, tokens_of, side_tokens, occurrence, side_of, IsName, AreNames}
use Rattle.sc_input_rules.proofs.ClauseSpelling.{Plain}
use Rattle.sc_input_rules.proofs.ArityLaw.{side-commas}
use Rattle.sc_input_rules.proofs.Terms.{term_from, terms}
use Rattle.sc_input_rules.proofs.WeightLaw.{weight-append, side-weight}
use Rattle.sc_text_rules.specs.TextWords.{text_variable}
use Rattle.sc_text_rules.specs.TextPosition.{around, last_term, name_before}
use Rattle.sc_text_laws.proofs.Walks.{Walk}
use Rattle.sc_text_laws.proofs.Prefixes.{Along, along_one}
use Rattle.sc_text_laws.proofs.KnownNames.{KnownTerm}
use Rattle.sc_text_laws.proofs.EndedNames.{EndsNoName, counts_inside}
use Rattle.sc_text_laws.proofs.NamesKnown.{NameClear, InnerPlaces, term_name, side_clear, side_ends_known}
use Rattle.sc_text_laws.proofs.CommasWithin.{FewDeep, at_once, join_even, side_few}
use Rattle.sc_text_laws.proofs.LastLiterals.{IsAtomFront, at_first, bare, depth_more}
use Rattle.sc_text_laws.proofs.TreeMeasures.{sides_heavy, term_heavy, term_deep, one_nests}
use Rattle.sc_text_laws.proofs.AtomMeasures.{no_equality_join, side_no_equality, atom_no_bar, along_front}
use Rattle.sc_text_laws.proofs.LiteralClear.{small}
use Rattle.sc_text_laws.proofs.ClauseClear.{Measured}

-- ---- the last term so far

-- behind the tokens, how many parentheses are open
abbrev level : ℕ → List Token → ℕ
level n [] = n
level n (t ∷ ts) = level (around n t) ts

-- no comma stands outside of the parentheses
abbrev pub NoOuter : ℕ → List Token → Type 0
NoOuter n [] = Unit {0}
NoOuter n (t ∷ ts) = ((n == 0 && is_sign Comma t) ≡ false) × NoOuter (around n t) ts

level_join : (n : ℕ) (xs ys : List Token) → level n (xs ++ ys) ≡ level (level n xs) ys
level_join n [] ys = refl
level_join n (x ∷ xs) ys = level_join (around n x) xs ys

outer_join : (n : ℕ) (xs ys : List Token) → NoOuter n xs → NoOuter (level n xs) ys → NoOuter n (xs ++ ys)
outer_join n [] ys h k = k
outer_join n (x ∷ xs) ys h k = (h.0, outer_join (around n x) xs ys h.1 k)

outer_front : (n : ℕ) (xs ys : List Token) → NoOuter n (xs ++ ys) → NoOuter n xs
outer_front n [] ys h = tt
outer_front n (x ∷ xs) ys h = (h.0, outer_front (around n x) xs ys h.1)

-- tokens that stand within parentheses
record IsInner (n : ℕ) (ts : List Token) : Type 0 where
  even : level n ts ≡ n
  inner : NoOuter n ts

inner_join : (n : ℕ) (xs ys : List Token) → IsInner n xs → IsInner n ys → IsInner n (xs ++ ys)
inner_join n xs ys h k =
    record { even = level_join n xs ys ∙ ap (λ (m : ℕ). level m ys) h.even ∙ k.even; inner = outer_join n xs ys h.inner (subst (λ (m : ℕ). NoOuter m ys) (sym h.even) k.inner) }

not_outer : (n : ℕ) (b : Bool) → (suc n == 0 && b) ≡ false
not_outer n b = ap (λ (c : Bool). c && b) (eqb-suc-zero n)

not_comma : (n : ℕ) → (n == 0 && false) ≡ false
not_comma n = by (n == 0)
  where
    by : (c : Bool) → (c && false) ≡ false
    by true = refl
    by false = refl

in_brackets_inner : (n : ℕ) (h : Head) (args : Sides) → IsInner (suc n) (tokens_of args) → IsInner n (in_brackets h args (tokens_of args))
in_brackets_inner n h Empty k = record { even = refl; inner = tt }
in_brackets_inner n h (Entry g args comma others) k =
    let ts = tokens_of (Entry g args comma others) in
    let close = Punctuation h.closing Close in
    let one : n + 1 ≡ suc n = omega arith in
    let both : IsInner (n + 1) ts = subst (λ (m : ℕ). IsInner m ts) (sym one) (k_at one) in
    record {
      even = level_join (n + 1) ts (close ∷ []) ∙ ap (λ (m : ℕ). level m (close ∷ [])) (both.even ∙ one);
      inner = (not_comma n, outer_join (n + 1) ts (close ∷ []) both.inner (subst (λ (m : ℕ). NoOuter m (close ∷ [])) (sym (both.even ∙ one)) (not_comma (suc n), tt)));
    }
  where
    k_at : n + 1 ≡ suc n → IsInner (suc n) (tokens_of (Entry g args comma others))
    k_at e = k

comma_inner : (n comma : ℕ) (others : Sides) → IsInner (suc n) (tokens_of others) → IsInner (suc n) (behind_comma comma others (tokens_of others))
comma_inner n comma Empty k = record { even = refl; inner = tt }
comma_inner n comma (Entry g args comma' others) k = record { even = k.even; inner = (not_outer n true, k.inner) }

word_inner : (n at : ℕ) (text : List ℕ) → IsInner n (Word at text ∷ [])
word_inner n at text = record { even = by n; inner = (not_comma n, tt) }
  where
    by : (n : ℕ) → around n (Word at text) ≡ n
    by zero = refl
    by (suc n) = refl

sides_inner : (n : ℕ) (f : Sides) → IsInner (suc n) (tokens_of f)
sides_inner n Empty = record { even = refl; inner = tt }
sides_inner n (Entry h args comma others) =
    inner_join (suc n) (Word h.at h.text ∷ []) (in_brackets h args (tokens_of args) ++ behind_comma comma others (tokens_of others)) (word_inner (suc n) h.at h.text)
    (inner_join (suc n) (in_brackets h args (tokens_of args)) (behind_comma comma others (tokens_of others))
    (in_brackets_inner (suc n) h args (sides_inner (suc n) args)) (comma_inner n comma others (sides_inner n others)))

side_inner : (h : Head) (args : Sides) → IsInner 0 (side_tokens h args)
side_inner h args = inner_join 0 (Word h.at h.text ∷ []) (in_brackets h args (tokens_of args)) (word_inner 0 h.at h.text) (in_brackets_inner 0 h args (sides_inner 0 args))

last_term_keeps : (n : ℕ) (so xs ys : List Token) → NoOuter n xs → last_term n so (xs ++ ys) ≡ last_term (level n xs) (so ++ xs) ys
last_term_keeps n so [] ys h = ap (λ (us : List Token). last_term n us ys) (sym (append-nil so))
last_term_keeps n so (x ∷ xs) ys h =
    ap (λ (b : Bool). last_term (around n x) (if b then [] else (so ++ x ∷ [])) (xs ++ ys)) h.0
    ∙ last_term_keeps (around n x) (so ++ x ∷ []) xs ys h.1
    ∙ ap (λ (us : List Token). last_term (level (around n x) xs) us ys) (append_assoc so (x ∷ []) xs)

-- the last term so far is the tokens of a term so far
pub term_so_far : (h : Head) (args : Sides) → Along (λ us. last_term 0 [] us ≡ us) (side_tokens h args)
term_so_far h args us more e =
    let inner : NoOuter 0 us = outer_front 0 us more (subst (NoOuter 0) e (side_inner h args).inner) in
    ap (last_term 0 []) (sym (append-nil us)) ∙ last_term_keeps 0 [] us [] inner

pub term_and : (h : Head) (args : Sides) (ts : List Token) → last_term 0 [] (side_tokens h args ++ ts) ≡ last_term 0 (side_tokens h args) ts
term_and h args ts =
    let s = side_inner h args in
    last_term_keeps 0 [] (side_tokens h args) ts s.inner ∙ ap (λ (n : ℕ). last_term n (side_tokens h args) ts) s.even

-- what follows them begins a term
pub record BeginsTerm (front : List Token) : Type 0 where
  pub law : (ts : List Token) → last_term 0 [] (front ++ ts) ≡ last_term 0 [] ts

pub first_term : BeginsTerm []
first_term = record { law = λ ts. refl }

pub next_term : (front : List Token) (h : Head) (args : Sides) (comma : ℕ) → BeginsTerm front → BeginsTerm ((front ++ side_tokens h args) ++ Punctuation comma Comma ∷ [])
next_term front h args comma b =
    record {
      law = λ ts.
          ap (last_term 0 []) (append_assoc (front ++ side_tokens h args) (Punctuation comma Comma ∷ []) ts ∙ append_assoc front (side_tokens h args) (Punctuation comma Comma ∷ ts))
          ∙ b.law (side_tokens h args ++ Punctuation comma Comma ∷ ts) ∙ term_and h args (Punctuation comma Comma ∷ ts);
    }

-- ---- what is counted

module _ (symbols : List Symbol) (h : Head) (args : Sides) (close : ℕ) where
  abbrev term : Term
  term = term_from text_variable symbols (occurrence h args) (terms text_variable symbols args)

  abbrev ended : List Token
  ended = side_tokens h args ++ Punctuation close Close ∷ []

  ended_weight : term_weight term ≤ 10000 → weight_so_far ended ≤ 10000
  ended_weight light =
      let a = weight-append (side_tokens h args) (Punctuation close Close ∷ []) in
      let none : weight_so_far (Punctuation close Close ∷ []) ≡ 0 = refl in
      let s = side-weight h args in
      let w = sides_heavy symbols args in
      let t = term_heavy symbols h args in
      omega arith

  ended_depth : term_depth term ≤ 256 → depth_of_atom ended ≤ 256
  ended_depth shallow =
      let end = Punctuation close Close ∷ [] in
      let n = one_nests symbols 0 h args end in
      let none : list_any is_equality ended ≡ false = no_equality_join (side_tokens h args) end (side_no_equality h args) refl in
      let e : depth_of_atom ended ≡ greatest_level 0 ended + 0 = ap (λ (b : Bool). greatest_level 0 ended + (if b then 1 else 0)) none in
      let last : greatest_level 0 end ≡ 0 = refl in
      let t = term_deep symbols h args in
      omega arith

  ended_front : IsAtomFront ended
  ended_front = all_join (λ t. is_sign Bar t ≡ false) (in_brackets h args (tokens_of args)) (Punctuation close Close ∷ []) (atom_no_bar (Plain h args)).1 (refl, tt)

  ended_few : AllByRecursion (KnownTerm symbols) (side_of h args) → Along (FewDeep []) ended
  ended_few known =
      join_even [] (side_tokens h args) (Punctuation close Close ∷ []) (side-commas h args []) (side_few [] h args (omega arith) (small symbols (side_of h args) known))
      (along_one (FewDeep []) (Punctuation close Close) (at_once [] [] (omega arith) refl) (at_once [] (Punctuation close Close ∷ []) (omega arith) refl))

  pub term_measured : AllByRecursion (KnownTerm symbols) (side_of h args) → term_weight term ≤ 10000 → term_depth term ≤ 256 → Along Measured ended
  term_measured known light shallow us more e =
      let few = ended_few known us more e in
      let heavy = ended_weight light in
      let same = ap weight_so_far e in
      let parts = weight-append us more in
      let deep = ended_depth shallow in
      let whole = ap depth_of_atom e in
      let part = depth_more us more in
      let last = ap depth_of_atom ((bare [] at_first).law us (along_front ended ended_front us more e)) in
      record { arity = few.few; weight = omega arith; depth = omega arith }

-- ---- names

inner_places : (symbols : List Symbol) (front : List Token) (h : Head) (args : Sides) → InnerPlaces symbols true front h args
inner_places symbols front h Empty = tt
inner_places symbols front h (Entry g args comma others) = λ us more t e. refl

pub term_names : (symbols : List Symbol) (h : Head) (args : Sides) → AllByRecursion (KnownTerm symbols) (side_of h args) → AreNames args → Walk (NameClear symbols true) [] (side_tokens h args)
term_names symbols h args known names = side_clear symbols true [] h args refl (inner_places symbols [] h args) known.1 names

pub behind_term : (symbols : List Symbol) (h : Head) (args : Sides) (t : Token) → KnownTerm symbols (occurrence h args) → IsName h → NameClear symbols true (side_tokens h args) t
behind_term symbols h args t known name = term_name symbols true (side_tokens h args) t (occurrence h args) (side_ends_known [] h args name) refl known

-- behind the parenthesis that closes the terms no name ends
pub behind_terms : (h : Head) (args : Sides) (close : ℕ) → EndsNoName (side_tokens h args ++ Punctuation close Close ∷ [])
behind_terms h args close =
    let inner = in_brackets h args (tokens_of args) in
    ap name_before (reverse-append (side_tokens h args) (Punctuation close Close ∷ []) ∙ ap (λ (us : List Token). Punctuation close Close ∷ us) (reverse-append (Word h.at h.text ∷ []) inner))
    ∙ counts_inside h args 1 (Word h.at h.text ∷ [])

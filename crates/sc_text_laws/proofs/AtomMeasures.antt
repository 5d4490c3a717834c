-- Weight and depth of the tokens of atoms and literals, against those of the literals that are read of them.
use Rattle.std.proofs.Common.{◌≡◌, ◌∙◌, sym, ap, subst, refl, ℕ, ◌+◌, ◌≤◌, sum, Bool, true, false, List, [], ◌∷◌, ◌++◌, map, append_assoc, arith}
use Rattle.std.specs.Prelude.{◌||◌, if◌then◌else◌}
use Rattle.std.specs.List.{list_any}
use Rattle.std.proofs.lemmas.List.{append-nil}
use Rattle.std.proofs.lemmas.List.Folds.{list_any-append}
use Rattle.sc_term.specs.declared.Term.{Term}
use Rattle.sc_term.specs.Term.{largest, term_weight, term_depth}
use Rattle.sc_term.specs.Clause.{literal_weight, literal_depth}
use Rattle.sc_term.proofs.SubstitutionLaws.{all_split, all_join}
use Rattle.sc_term.specs.declared.symbol.Symbol.{Symbol}
use Rattle.sc_input_rules.specs.declared.token.Token.{Token}
use Rattle.sc_input_rules.specs.declared.token.Token.TheVariants.{Word, Punctuation, Refused}
use Rattle.sc_input_rules.specs.declared.token.Sign.TheVariants.{Stop, Bar, Minus}
use Rattle.sc_input_rules.specs.Token.{is_sign}
use Rattle.sc_input_rules.specs.ClauseGrammar.{is_equality}
use Rattle.sc_input_rules.specs.Measures.{has_weight, weight_so_far, greatest_level, depth_of_atom, depth_so_far}
use Rattle.sc_input_rules.specs.Numbering.{literal_of}
use Rattle.sc_input_rules.proofs.Spelling.{Head, Sides, Empty, Entry, in_brackets, behind_comma, tokens_of, side_tokens, occurrence}
use Rattle.sc_input_rules.proofs.ClauseSpelling.{Atom, Plain, Equation, Wrapping, Bare, Negative, Brackets, NegativeBrackets, LiteralTree, equal_sign, atom_tokens, opening_tokens, closing_tokens, literal_tokens, literal_written}
use Rattle.sc_input_rules.proofs.ClauseParts.{literal-args}
use Rattle.sc_input_rules.proofs.NoStop.{literal_no_bar}
use Rattle.sc_input_rules.proofs.Terms.{term_from, terms, sides_under}
use Rattle.sc_input_rules.proofs.WeightLaw.{weight-append, sign-weight, side-weight, sides-weight}
use Rattle.sc_input_rules.proofs.DepthLaw.{largest-cons, depth_of}
use Rattle.sc_text_rules.specs.TextWords.{text_variable}
use Rattle.sc_text_laws.proofs.Prefixes.{Along, along_none}
use Rattle.sc_text_laws.proofs.LastLiterals.{HasNoBar, BeginsLiteral, IsAtomFront, BeginsAtom, bare, behind_minus, depth_more}
use Rattle.sc_text_laws.proofs.KnownTrees.{IsPlainWrapping}
use Rattle.sc_text_laws.proofs.TreeMeasures.{sides_heavy, term_deep, one_nests}

-- ---- no `=` in a side

pub no_equality_join : (xs ys : List Token) → list_any is_equality xs ≡ false → list_any is_equality ys ≡ false → list_any is_equality (xs ++ ys) ≡ false
no_equality_join xs ys h k = list_any-append is_equality xs ys ∙ (λ i. h i || k i)

brackets_no_equality : (h : Head) (args : Sides) → list_any is_equality (tokens_of args) ≡ false → list_any is_equality (in_brackets h args (tokens_of args)) ≡ false
brackets_no_equality h Empty e = refl
brackets_no_equality h (Entry g args comma others) e = no_equality_join (tokens_of (Entry g args comma others)) (Punctuation h.closing _ ∷ []) e refl

comma_no_equality : (at : ℕ) (others : Sides) → list_any is_equality (tokens_of others) ≡ false → list_any is_equality (behind_comma at others (tokens_of others)) ≡ false
comma_no_equality at Empty e = refl
comma_no_equality at (Entry g args comma others) e = e

sides_no_equality : (f : Sides) → list_any is_equality (tokens_of f) ≡ false
sides_no_equality Empty = refl
sides_no_equality (Entry h args comma others) =
    no_equality_join (in_brackets h args (tokens_of args)) (behind_comma comma others (tokens_of others))
    (brackets_no_equality h args (sides_no_equality args)) (comma_no_equality comma others (sides_no_equality others))

pub side_no_equality : (h : Head) (args : Sides) → list_any is_equality (side_tokens h args) ≡ false
side_no_equality h args = brackets_no_equality h args (sides_no_equality args)

-- ---- first tokens of an atom

pub atom_no_bar : (a : Atom) → HasNoBar (atom_tokens a)
atom_no_bar a = (all_split (λ t. is_sign Bar t ≡ false) (atom_tokens a) [] (literal_no_bar (record { wrapping = Bare; atom = a }))).0

-- with a full stop behind it
pub atom_front : (a : Atom) (stop : ℕ) → IsAtomFront (atom_tokens a ++ Punctuation stop Stop ∷ [])
atom_front (Plain h args) stop = all_join (λ t. is_sign Bar t ≡ false) (in_brackets h args (tokens_of args)) (Punctuation stop Stop ∷ []) (atom_no_bar (Plain h args)).1 (refl, tt)
atom_front (Equation e) stop =
    let inner = in_brackets e.left_head e.left_args (tokens_of e.left_args) in
    let right = Punctuation e.at (equal_sign e.positive) ∷ side_tokens e.right_head e.right_args in
    all_join (λ t. is_sign Bar t ≡ false) (inner ++ right) (Punctuation stop Stop ∷ []) (atom_no_bar (Equation e)).1 (refl, tt)

pub along_front : (ts : List Token) → IsAtomFront ts → Along IsAtomFront ts
along_front [] h = along_none IsAtomFront tt
along_front (Word at text ∷ ts) h = λ us more e. by us more e
  where
    by : (us more : List Token) → Word at text ∷ ts ≡ us ++ more → IsAtomFront us
    by [] more e = tt
    by (u ∷ us) more e =
        let first : Word at text ≡ u = cc in
        let others : ts ≡ us ++ more = cc in
        let p = all_split (λ t. is_sign Bar t ≡ false) us more (subst HasNoBar others h) in
        subst (λ (u : Token). IsAtomFront (u ∷ us)) first p.0
along_front (Punctuation at s ∷ ts) h = absurd h
along_front (Refused at kind ∷ ts) h = absurd h

module _ (symbols : List Symbol) where
  -- ---- weight

  sign_counts : (positive : Bool) (at : ℕ) → has_weight (Punctuation at (equal_sign positive)) ≡ true
  sign_counts true at = refl
  sign_counts false at = refl

  abbrev under : Atom → List Term
  under a = terms text_variable symbols (sides_under a)

  atom_weight : (a : Atom) → weight_so_far (atom_tokens a) ≡ 1 + weight_so_far (tokens_of (sides_under a))
  atom_weight (Plain h args) = side-weight h args
  atom_weight (Equation e) =
      let right = side_tokens e.right_head e.right_args in
      let sign = Punctuation e.at (equal_sign e.positive) in
      let a = weight-append (side_tokens e.left_head e.left_args) (sign ∷ right) in
      let s = sign-weight sign right (sign_counts e.positive e.at) in
      let l = side-weight e.left_head e.left_args in
      let r = side-weight e.right_head e.right_args in
      let both = sides-weight e.left_head e.left_args 0 (Entry e.right_head e.right_args 0 Empty) in
      let last = sides-weight e.right_head e.right_args 0 Empty in
      let none : weight_so_far (tokens_of Empty) ≡ 0 = refl in
      omega arith

  opening_weight : (w : Wrapping) → weight_so_far (opening_tokens w) ≡ 0
  opening_weight Bare = refl
  opening_weight (Negative at) = refl
  opening_weight (Brackets o c) = refl
  opening_weight (NegativeBrackets at o c) = refl

  closing_weight : (w : Wrapping) → weight_so_far (closing_tokens w) ≡ 0
  closing_weight Bare = refl
  closing_weight (Negative at) = refl
  closing_weight (Brackets o c) = refl
  closing_weight (NegativeBrackets at o c) = refl

  pub literal_heavy : (l : LiteralTree) → weight_so_far (literal_tokens l) ≤ literal_weight (literal_of text_variable symbols (literal_written l))
  literal_heavy l =
      let e = ap (λ (ts : List Term). sum (map term_weight ts)) (literal-args text_variable symbols l) in
      let a = weight-append (opening_tokens l.wrapping) (atom_tokens l.atom ++ closing_tokens l.wrapping) in
      let b = weight-append (atom_tokens l.atom) (closing_tokens l.wrapping) in
      let o = opening_weight l.wrapping in
      let c = closing_weight l.wrapping in
      let k = atom_weight l.atom in
      let s = sides_heavy symbols (sides_under l.atom) in
      omega arith

  -- ---- depth

  sign_level : (positive : Bool) (at : ℕ) (ts : List Token) → greatest_level 0 (Punctuation at (equal_sign positive) ∷ ts) ≡ greatest_level 0 ts
  sign_level true at ts = refl
  sign_level false at ts = refl

  at_most_one : (b : Bool) (n : ℕ) → n + (if b then 1 else 0) ≤ n + 1
  at_most_one true n = omega arith
  at_most_one false n = omega arith

  atom_shallow : (a : Atom) (stop : ℕ) → depth_of_atom (atom_tokens a ++ Punctuation stop Stop ∷ []) ≤ 1 + depth_of text_variable symbols (sides_under a)
  atom_shallow (Plain h args) stop =
      let end = Punctuation stop Stop ∷ [] in
      let n = one_nests symbols 0 h args end in
      let none : list_any is_equality (side_tokens h args ++ end) ≡ false = no_equality_join (side_tokens h args) end (side_no_equality h args) refl in
      let e : depth_of_atom (side_tokens h args ++ end) ≡ greatest_level 0 (side_tokens h args ++ end) + 0 = ap (λ (b : Bool). greatest_level 0 (side_tokens h args ++ end) + (if b then 1 else 0)) none in
      let last : greatest_level 0 end ≡ 0 = refl in
      omega arith
  atom_shallow (Equation e) stop =
      let end = Punctuation stop Stop ∷ [] in
      let left = side_tokens e.left_head e.left_args in
      let right = side_tokens e.right_head e.right_args in
      let sign = Punctuation e.at (equal_sign e.positive) in
      let whole : greatest_level 0 ((left ++ sign ∷ right) ++ end) ≡ greatest_level 0 (left ++ sign ∷ (right ++ end)) = ap (greatest_level 0) (append_assoc left (sign ∷ right) end) in
      let l = one_nests symbols 0 e.left_head e.left_args (sign ∷ (right ++ end)) in
      let s = sign_level e.positive e.at (right ++ end) in
      let r = one_nests symbols 0 e.right_head e.right_args end in
      let last : greatest_level 0 end ≡ 0 = refl in
      let dl = term_deep symbols e.left_head e.left_args in
      let dr = term_deep symbols e.right_head e.right_args in
      let one = at_most_one (list_any is_equality ((left ++ sign ∷ right) ++ end)) (greatest_level 0 ((left ++ sign ∷ right) ++ end)) in
      let x = term_depth (term_from text_variable symbols (occurrence e.left_head e.left_args) (terms text_variable symbols e.left_args)) in
      let y = term_depth (term_from text_variable symbols (occurrence e.right_head e.right_args) (terms text_variable symbols e.right_args)) in
      let a = largest-cons x (y ∷ []) in
      let b = largest-cons y [] in
      let none : largest [] ≡ 0 = refl in
      omega arith

  literal_depth_is : (l : LiteralTree) → literal_depth (literal_of text_variable symbols (literal_written l)) ≡ 1 + depth_of text_variable symbols (sides_under l.atom)
  literal_depth_is l = ap (λ (ts : List Term). 1 + largest (map term_depth ts)) (literal-args text_variable symbols l)

  -- at each of the first tokens of an atom
  atom_along : (front : List Token) (a : Atom) (stop : ℕ) → BeginsAtom front → 1 + depth_of text_variable symbols (sides_under a) ≤ 256
      → Along (λ us. depth_so_far (front ++ us) ≤ 256) (atom_tokens a ++ Punctuation stop Stop ∷ [])
  atom_along front a stop b le us more e =
      let f = along_front (atom_tokens a ++ Punctuation stop Stop ∷ []) (atom_front a stop) us more e in
      let all = atom_shallow a stop in
      let whole = ap depth_of_atom e in
      let part = depth_more us more in
      let last = ap depth_of_atom (b.law us f) in
      omega arith

module _ (symbols : List Symbol) where
  literal_along_by : (front : List Token) (w : Wrapping) (a : Atom) (stop : ℕ) → IsPlainWrapping w → BeginsLiteral front → 1 + depth_of text_variable symbols (sides_under a) ≤ 256
      → Along (λ us. depth_so_far (front ++ us) ≤ 256) (literal_tokens (record { wrapping = w; atom = a }) ++ Punctuation stop Stop ∷ [])
  literal_along_by front Bare a stop plain b le =
      subst (λ ts. Along (λ us. depth_so_far (front ++ us) ≤ 256) (ts ++ Punctuation stop Stop ∷ [])) (sym (append-nil (atom_tokens a))) (atom_along symbols front a stop (bare front b) le)
  literal_along_by front (Negative at) a stop plain b le =
      let behind : BeginsAtom (front ++ Punctuation at Minus ∷ []) = behind_minus front at b in
      let along = subst (λ ts. Along (λ us. depth_so_far ((front ++ Punctuation at Minus ∷ []) ++ us) ≤ 256) (ts ++ Punctuation stop Stop ∷ [])) (sym (append-nil (atom_tokens a)))
      (atom_along symbols (front ++ Punctuation at Minus ∷ []) a stop behind le) in
      λ us more e. by along us more e
    where
      by : Along (λ us. depth_so_far ((front ++ Punctuation at Minus ∷ []) ++ us) ≤ 256) ((atom_tokens a ++ []) ++ Punctuation stop Stop ∷ []) → (us more : List Token)
          → Punctuation at Minus ∷ ((atom_tokens a ++ []) ++ Punctuation stop Stop ∷ []) ≡ us ++ more → depth_so_far (front ++ us) ≤ 256
      by along [] more e = let none = ap depth_of_atom ((bare front b).law [] tt) in omega arith
      by along (u ∷ us) more e =
          let first : Punctuation at Minus ≡ u = cc in
          let others : (atom_tokens a ++ []) ++ Punctuation stop Stop ∷ [] ≡ us ++ more = cc in
          subst (λ (u : Token). depth_so_far (front ++ u ∷ us) ≤ 256) first
          (subst (λ (ts : List Token). depth_so_far ts ≤ 256) (append_assoc front (Punctuation at Minus ∷ []) us) (along us more others))
  literal_along_by front (Brackets o c) a stop plain b le = absurd plain
  literal_along_by front (NegativeBrackets at o c) a stop plain b le = absurd plain

  pub literal_along : (front : List Token) (l : LiteralTree) (stop : ℕ) → IsPlainWrapping l.wrapping → BeginsLiteral front → literal_depth (literal_of text_variable symbols (literal_written l)) ≤ 256
      → Along (λ us. depth_so_far (front ++ us) ≤ 256) (literal_tokens l ++ Punctuation stop Stop ∷ [])
  literal_along front l stop plain b le = let is = literal_depth_is symbols l in literal_along_by front l.wrapping l.atom stop plain b (omega arith)

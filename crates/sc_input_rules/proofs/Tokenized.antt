-- What the tokens of every text keep: they stand in order, and no word is `=`.
use Rattle.std.proofs.Common.{◌≡◌, ◌<◌, false, List, [], ◌∷◌, ◌++◌}
use Rattle.std.specs.Prelude.{codes}
use Rattle.std.specs.List.{AllByRecursion}
use Rattle.sc_term.proofs.SubstitutionLaws.{all_split}
use Rattle.sc_input_rules.specs.declared.token.Token.{Token}
use Rattle.sc_input_rules.specs.Token.{at_of, is_word}

-- each begins before those behind it
abbrev pub Ascend : List Token → Type 0
Ascend [] = Unit {0}
Ascend (t ∷ ts) = AllByRecursion (λ u. at_of t < at_of u) ts × Ascend ts

pub record AreTokenized (ts : List Token) : Type 0 where
  pub order : Ascend ts
  pub words : AllByRecursion (λ t. is_word (codes "=") t ≡ false) ts

pub ascend_split : (xs ys : List Token) → Ascend (xs ++ ys) → Ascend xs × Ascend ys × AllByRecursion (λ x. AllByRecursion (λ y. at_of x < at_of y) ys) xs
ascend_split [] ys h = (tt, h, tt)
ascend_split (x ∷ xs) ys h =
    let a = all_split (λ u. at_of x < at_of u) xs ys h.0 in
    let r = ascend_split xs ys h.1 in
    ((a.0, r.0), r.1, (a.1, r.2))

pub tokenized_split : (xs ys : List Token) → AreTokenized (xs ++ ys) → AreTokenized xs × AreTokenized ys
tokenized_split xs ys h =
    let a = ascend_split xs ys h.order in
    let w = all_split (λ t. is_word (codes "=") t ≡ false) xs ys h.words in
    (record { order = a.0; words = w.0 }, record { order = a.1; words = w.1 })

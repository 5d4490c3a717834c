-- Weight and commas of a clause with one token more.
use Rattle.std.proofs.Common.{◌≡◌, ◌∙◌, sym, ap, ℕ, ◌+◌, Bool, true, false, List, [], ◌∷◌, ◌++◌, reverse, arith}
use Rattle.std.proofs.lemmas.List.Sums.{sum_by-append}
use Rattle.std.specs.Prelude.{cond}
use Rattle.sc_input_rules.specs.declared.token.Token.{Token}
use Rattle.sc_input_rules.specs.Measures.{has_weight, weight_so_far, open_commas, commas_behind}
use Rattle.sc_input_rules.proofs.OneMore.{open_commas-one_more}
use Rattle.sc_input_limits.specs.Counted.{low}

pub weight-yes : (tokens : List Token) (t : Token) → has_weight t ≡ true → weight_so_far (tokens ++ t ∷ []) ≡ weight_so_far tokens + 1
weight-yes tokens t e = let one : ◌≡◌ {A = ℕ} (cond (has_weight t) 1 0) 1 = ap (λ (b : Bool). cond b 1 0) e in omega (arith, sum_by-append (λ x. cond (has_weight x) 1 0) tokens (t ∷ []), one)

pub weight-no : (tokens : List Token) (t : Token) → has_weight t ≡ false → weight_so_far (tokens ++ t ∷ []) ≡ weight_so_far tokens
weight-no tokens t e = let none : ◌≡◌ {A = ℕ} (cond (has_weight t) 1 0) 0 = ap (λ (b : Bool). cond b 1 0) e in omega (arith, sum_by-append (λ x. cond (has_weight x) 1 0) tokens (t ∷ []), none)

pub counted : (tokens : List Token) (t : Token) (commas : List ℕ) → commas ≡ reverse (low (commas_behind t (open_commas [] tokens))) → commas ≡ reverse (low (open_commas [] (tokens ++ t ∷ [])))
counted tokens t commas e = e ∙ ap (λ (ns : List ℕ). reverse (low ns)) (sym (open_commas-one_more [] tokens t))

-- Terms and literals weigh something, so that a list of them is no longer than its weight.
use Rattle.std.proofs.Common.{◌≡◌, ap, ℕ, ◌<◌, ◌≤◌, List, [], ◌∷◌, length, map, sum, get_or, arith}
use Rattle.std.proofs.lemmas.List.Sums.{sum_by-cons, sum-map, get_or-le-sum_by}
use Rattle.sc_term.specs.declared.SymId.{SymId}
use Rattle.sc_term.specs.declared.Term.{Term}
use Rattle.sc_term.specs.declared.Term.TheVariants.{App}
use Rattle.sc_term.specs.declared.Literal.{Literal}
use Rattle.sc_term.specs.Term.{term_weight}
use Rattle.sc_term.specs.Clause.{literal_weight}
use Rattle.sc_term.proofs.TermLaws.{weight-App}
use Rattle.sc_unify.proofs.Costs.{weight-positive}

pub one_of_sum : {X : Type 0} (w : X → ℕ) (xs : List X) (i : ℕ) (x : X) → i < length xs → x ≡ get_or xs i x → w x ≤ sum (map w xs)
one_of_sum w xs i x less at = omega (arith, get_or-le-sum_by w xs i x less, sum-map w xs, ap w at)

few : {X : Type 0} (w : X → ℕ) → ((x : X) → 0 < w x) → (xs : List X) → length xs ≤ sum (map w xs)
few w some [] = omega arith
few w some (x ∷ xs) = omega (arith, few w some xs, some x, sum_by-cons (λ n. n) (w x) (map w xs))

pub few_terms : (ts : List Term) → length ts ≤ sum (map term_weight ts)
few_terms = few term_weight weight-positive

pub few_literals : (ls : List Literal) → length ls ≤ sum (map literal_weight ls)
few_literals = few literal_weight (λ l. omega arith)

pub arguments_lighter : (t : Term) (f : SymId) (args : List Term) → t ≡ App f args → sum (map term_weight args) ≤ term_weight t
arguments_lighter t f args e = omega (arith, ap term_weight e, weight-App f args)

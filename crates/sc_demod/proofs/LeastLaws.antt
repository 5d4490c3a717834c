-- In a list whose numbers rise the first is the least.
use Rattle.std.proofs.Common.{◌≡◌, ◌∙◌, sym, ap, subst, ℕ, ◌<◌, ◌⊎◌, inl, inr, List, length, get_or, arith}
use Rattle.std.proofs.lemmas.List.{get_or_default}
use Rattle.std.specs.List.{AllWithin, AllPairs, Contains}
use Rattle.sc_term.specs.declared.Numbered.{Numbered}
use Rattle.sc_core_rules.specs.Order.{IsBefore, IsLeast}
use Rattle.sc_core_rules.specs.Rewriting.{number_of}
use Rattle.sc_core_rules.proofs.DerivationLaws.{compared}

pub least_of_first : (P : Numbered → Type 0) (ps : List Numbered) (i : ℕ) (d : Numbered) → AllPairs (λ p q. p.number < q.number) ps → i < length ps → d ≡ get_or ps i d → P d
    → AllWithin (λ p. ¬ P p) ps 0 i → IsLeast number_of P ps d
least_of_first P ps i d rising less at holds first = record { listed = (i, less, sym at); holds = holds; least = least }
  where
    at_index : (y : Numbered) (k : ℕ) → k < length ps → get_or ps k y ≡ y → P y → y.number < d.number → (k < i) ⊎ (k ≡ i) ⊎ (i < k) → ⊥
    at_index y k within here p before (inl smaller) = first k y (omega arith) smaller (subst P (sym here) p)
    at_index y k within here p before (inr (inl same)) = clash (read y here)
      where
        clash : (y.number ≡ d.number) → ⊥
        clash e = omega (arith, e, before)

        read : (y : Numbered) → get_or ps k y ≡ y → y.number ≡ d.number
        read y here = ap (λ (q : Numbered). q.number) (sym here ∙ ap (λ n. get_or ps n y) same ∙ default y ∙ sym at)
          where
            default : (y : Numbered) → get_or ps i y ≡ get_or ps i d
            default y = get_or_default ps i y d less
    at_index y k within here p before (inr (inr greater)) =
        let more = rising i k y greater within in
        let here_number : (get_or ps k y).number ≡ y.number = ap (λ (q : Numbered). q.number) here in
        let there_number : (get_or ps i y).number ≡ d.number = ap (λ (q : Numbered). q.number) (get_or_default ps i y d less ∙ sym at) in
        omega (arith, more, here_number, there_number, before)

    least : (y : Numbered) → Contains ps y → P y → ¬ IsBefore (number_of y) (number_of d)
    least y there p (inl before) = at_index y there.0 there.1 there.2 p before (compared there.0 i)
    least y there p (inr e) = absurd e.1

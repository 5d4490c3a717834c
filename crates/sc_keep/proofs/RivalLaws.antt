-- The rival of least number among clauses of which one more is looked at.
use Rattle.std.proofs.Common.{◌≡◌, ◌≢◌, subst, refl, ◌<◌, List, [], ◌∷◌, ◌++◌, Option, Some, None}
use Rattle.sc_term.specs.declared.Numbered.{Numbered}
use Rattle.sc_steps.specs.declared.derivations.derivation.Derived.{Derived}
use Rattle.sc_core_rules.specs.Conflict.{Conflicts}
use Rattle.sc_core_rules.specs.Processing.{IsRival}
use Rattle.sc_keep.specs.declared.rival.Rival.{Rival}
use Rattle.sc_keep.specs.Rivals.{IsBelowRival, IsLeastRival}
use Rattle.sc_keep.proofs.LeastLaws.{keeps, still_none, takes_least}

module _ (n p : Numbered) (front : List Numbered) where
  pub itself_stays : (best : Option Rival) → p.number ≡ n.number → IsLeastRival n front best → IsLeastRival n (front ++ p ∷ []) best
  itself_stays None same h = still_none (IsRival n) front p (λ rival. rival.0 same) h
  itself_stays (Some r) same h = (h.0, keeps (IsRival n) front p h.0 h.1 (λ rival less. rival.0 same), h.2, h.3)

  pub greater_stays : (best : Option Rival) → ¬ IsBelowRival p.number best → IsLeastRival n front best → IsLeastRival n (front ++ p ∷ []) best
  greater_stays None never h = absurd (never tt)
  greater_stays (Some r) never h = (h.0, keeps (IsRival n) front p h.0 h.1 (λ rival less. never (subst (λ k. p.number < k) h.2 less)), h.2, h.3)

  pub no_rival : (best : Option Rival) → ((made : Derived) → ¬ Conflicts n p made) → IsLeastRival n front best → IsLeastRival n (front ++ p ∷ []) best
  no_rival None never h = still_none (IsRival n) front p (λ rival. never rival.1.0 rival.1.1) h
  no_rival (Some r) never h = (h.0, keeps (IsRival n) front p h.0 h.1 (λ rival less. never rival.1.0 rival.1.1), h.2, h.3)

  pub new_rival : (best : Option Rival) (made : Derived) → p.number ≢ n.number → IsBelowRival p.number best → Conflicts n p made → IsLeastRival n front best
      → IsLeastRival n (front ++ p ∷ []) (Some (record { number = p.number; made = made }))
  new_rival None made differ below h before = (p, takes_least (IsRival n) front p None tt (differ, (made, h)) before, refl, h)
  new_rival (Some r) made differ below h before = (p, takes_least (IsRival n) front p (Some r.number) below (differ, (made, h)) (before.0, before.1, before.2), refl, h)

-- The earliest rival, and the first clause that ends the start, where one more clause is looked at.
use Rattle.std.proofs.Common.{◌≡◌, sym, subst, refl, ◌<◌, inl, inr, List, [], ◌∷◌, ◌++◌, Option, Some, None, Contains}
use Rattle.std.specs.Prelude.{MatchOption}
use Rattle.sc_term.specs.declared.Numbered.{Numbered}
use Rattle.sc_term.specs.Numbering.{numbered}
use Rattle.sc_input_rules.specs.declared.settings.Home.{Home}
use Rattle.sc_input_rules.specs.declared.settings.Home.TheVariants.{Demodulators}
use Rattle.sc_input_rules.specs.Problem.{Stated}
use Rattle.sc_steps.specs.declared.derivations.derivation.Derived.{Derived}
use Rattle.sc_core_rules.specs.Conflict.{Conflicts}
use Rattle.sc_core_rules.specs.Start.{EndsStart, IsEarlierRival}
use Rattle.sc_keep.specs.declared.rival.Rival.{Rival}
use Rattle.sc_keep.specs.declared.start.Ending.{Ending}
use Rattle.sc_keep.specs.Start.{EndsBy, HasInput, IsBelowEnding, IsFirstEnding, IsLeastEarlier}
use Rattle.sc_keep.specs.Rivals.{IsBelowRival}
use Rattle.sc_keep.proofs.LeastLaws.{keeps, still_none, takes_least}

-- ---- one pair

abbrev pub Pair : Stated → Numbered → Numbered → Option Derived → Type 0
Pair problem n m found = MatchOption found (¬ IsEarlierRival problem n m) (λ made. IsEarlierRival problem n m × Conflicts n m made)

pub pair_found : (problem : Stated) (homes : List Home) (n m : Numbered) → problem.homes ≡ homes → m.number < n.number
    → ¬ (numbered homes n.number ≡ Some Demodulators) → ¬ (numbered homes m.number ≡ Some Demodulators)
    → (found : Option Derived) → MatchOption found ((made : Derived) → ¬ Conflicts n m made) (λ made. Conflicts n m made) → Pair problem n m found
pair_found problem homes n m e less n_no m_no None never = λ rival. never rival.made rival.conflicts
pair_found problem homes n m e less n_no m_no (Some made) h = (
  record {
    earlier = less;
    n_no_demodulator = λ at. n_no (subst (λ hs. numbered hs n.number ≡ Some Demodulators) e at);
    m_no_demodulator = λ at. m_no (subst (λ hs. numbered hs m.number ≡ Some Demodulators) e at);
    made = made;
    conflicts = h;
  },
  h,
)

-- ---- the earliest rival

module _ (problem : Stated) (n p : Numbered) (front : List Numbered) where
  pub greater_rival : (best : Option Rival) → ¬ IsBelowRival p.number best → IsLeastEarlier problem n front best → IsLeastEarlier problem n (front ++ p ∷ []) best
  greater_rival None never h = absurd (never tt)
  greater_rival (Some r) never h = (h.0, keeps (IsEarlierRival problem n) front p h.0 h.1 (λ rival less. never (subst (λ k. p.number < k) h.2 less)), h.2, h.3)

  pub no_rival : (best : Option Rival) → ¬ IsEarlierRival problem n p → IsLeastEarlier problem n front best → IsLeastEarlier problem n (front ++ p ∷ []) best
  no_rival None never h = still_none (IsEarlierRival problem n) front p never h
  no_rival (Some r) never h = (h.0, keeps (IsEarlierRival problem n) front p h.0 h.1 (λ rival less. never rival), h.2, h.3)

  pub new_rival : (best : Option Rival) (made : Derived) → IsBelowRival p.number best → IsEarlierRival problem n p × Conflicts n p made → IsLeastEarlier problem n front best
      → IsLeastEarlier problem n (front ++ p ∷ []) (Some (record { number = p.number; made = made }))
  new_rival None made below h before = (p, takes_least (IsEarlierRival problem n) front p None tt h.0 before, refl, h.1)
  new_rival (Some r) made below h before = (p, takes_least (IsEarlierRival problem n) front p (Some r.number) below h.0 (before.0, before.1, before.2), refl, h.1)

-- ---- one clause

abbrev EndsIt : Stated → Numbered → Ending → Type 0
EndsIt problem n e = EndsStart problem n × (n.number ≡ e.number) × EndsBy problem n e.made

abbrev pub EndsOrNot : Stated → Numbered → Option Ending → Type 0
EndsOrNot problem n found = MatchOption found (¬ EndsStart problem n) (λ e. EndsIt problem n e)

module _ (problem : Stated) (n : Numbered) (homes : List Home) (all : List Numbered) (has : HasInput homes all problem) (some : ¬ (n.clause.literals ≡ [])) where
  pub rival_ends : (rival : Rival) → IsLeastEarlier problem n all (Some rival) → EndsIt problem n (record { number = n.number; made = Some rival.made })
  rival_ends rival h =
      let in_all = subst (λ ps. IsLeastEarlier problem n ps (Some rival)) (sym has.clauses_are) h in
      (inr (in_all.0, in_all.1.listed, in_all.1.holds), refl, (some, (in_all.0, in_all.1, in_all.3)))

  pub none_ends : IsLeastEarlier problem n all None → ¬ EndsStart problem n
  none_ends h (inl empty) = some empty
  none_ends h (inr k) = h k.0 (subst (λ ps. Contains ps k.0) has.clauses_are k.1) k.2

-- ---- the first ending

module _ (problem : Stated) (p : Numbered) (front : List Numbered) where
  pub greater_ending : (best : Option Ending) → ¬ IsBelowEnding p.number best → IsFirstEnding problem front best → IsFirstEnding problem (front ++ p ∷ []) best
  greater_ending None never h = absurd (never tt)
  greater_ending (Some e) never h = (h.0, keeps (EndsStart problem) front p h.0 h.1 (λ ends less. never (subst (λ k. p.number < k) h.2 less)), h.2, h.3)

  pub no_ending : (best : Option Ending) → ¬ EndsStart problem p → IsFirstEnding problem front best → IsFirstEnding problem (front ++ p ∷ []) best
  no_ending None never h = still_none (EndsStart problem) front p never h
  no_ending (Some e) never h = (h.0, keeps (EndsStart problem) front p h.0 h.1 (λ ends less. never ends), h.2, h.3)

  pub new_ending : (best : Option Ending) (found : Ending) → IsBelowEnding p.number best → EndsIt problem p found → IsFirstEnding problem front best → IsFirstEnding problem (front ++ p ∷ []) (Some found)
  new_ending None found below h before = (p, takes_least (EndsStart problem) front p None tt h.0 before, h.1, h.2)
  new_ending (Some e) found below h before = (p, takes_least (EndsStart problem) front p (Some e.number) below h.0 (before.0, before.1, before.2), h.1, h.2)

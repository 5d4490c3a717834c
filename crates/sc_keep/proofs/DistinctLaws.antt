-- Numbers that differ, over lists that are put together.
use Rattle.std.proofs.Common.{◌≡◌, ◌≢◌, subst, refl, ℕ, inl, inr, Bool, true, false, List, [], ◌∷◌, ◌++◌, nat_eq, arith}
use Rattle.std.specs.List.{Contains, AllByRecursion, IsDistinct}
use Rattle.std.proofs.lemmas.Bool.{eqb-true}
use Rattle.std.proofs.lemmas.Map.Keys.{IsDistinct-cons, IsDistinct-head, IsDistinct-tail}
use Rattle.sc_term.specs.declared.Numbered.{Numbered}
use Rattle.sc_term.proofs.ContainsLaws.{first_or_later, at_first, later}
use Rattle.sc_keep.specs.Sweep.{HaveDistinctNumbers, numbers}

-- the number is that of none of the clauses
abbrev pub Differ : ℕ → List Numbered → Type 0
Differ m ps = AllByRecursion (λ k. nat_eq m k ≡ false) (numbers ps)

pub none_distinct : HaveDistinctNumbers []
unfolding IsDistinct
none_distinct = tt

pub differ_both : (m : ℕ) (us ss : List Numbered) → Differ m (us ++ ss) → Differ m us × Differ m ss
differ_both m [] ss h = (tt, h)
differ_both m (u ∷ us) ss h = let rest = differ_both m us ss h.1 in ((h.0, rest.0), rest.1)

pub differ_joined : (m : ℕ) (us ss : List Numbered) → Differ m us → Differ m ss → Differ m (us ++ ss)
differ_joined m [] ss h k = k
differ_joined m (u ∷ us) ss h k = (h.0, differ_joined m us ss h.1 k)

pub differs_from : (m : ℕ) (ps : List Numbered) (p : Numbered) → Differ m ps → Contains ps p → nat_eq m p.number ≡ false
differs_from m [] p h there = absurd (omega (arith, there.1))
differs_from m (q ∷ ps) p h there = elim (first_or_later p q ps there) [
  | inl e ↦ subst (λ (r : Numbered). nat_eq m r.number ≡ false) e h.0
  | inr later ↦ differs_from m ps p h.1 later
]

not_equal : (m n : ℕ) → m ≢ n → nat_eq m n ≡ false
not_equal m n differ = by (nat_eq m n) refl
  where
    by : (b : Bool) → nat_eq m n ≡ b → nat_eq m n ≡ false
    by true e = absurd (differ (eqb-true m n e))
    by false e = e

pub differ_each : (m : ℕ) (ps : List Numbered) → ((p : Numbered) → Contains ps p → m ≢ p.number) → Differ m ps
differ_each m [] h = tt
differ_each m (p ∷ ps) h = (not_equal m p.number (h p (at_first p ps)), differ_each m ps (λ q k. h q (later q p ps k)))

-- ---- two lists

pub distinct_joined : (us ss : List Numbered) → HaveDistinctNumbers us → HaveDistinctNumbers ss → ((p : Numbered) → Contains us p → Differ p.number ss) → HaveDistinctNumbers (us ++ ss)
distinct_joined [] ss h k apart = k
distinct_joined (u ∷ us) ss h k apart =
    IsDistinct-cons nat_eq u.number (numbers (us ++ ss)) (differ_joined u.number us ss (IsDistinct-head nat_eq u.number (numbers us) h) (apart u (at_first u us)))
    (distinct_joined us ss (IsDistinct-tail nat_eq u.number (numbers us) h) k (λ p m. apart p (later p u us m)))

pub distinct_first : (us ss : List Numbered) → HaveDistinctNumbers (us ++ ss) → HaveDistinctNumbers us
distinct_first [] ss h = none_distinct
distinct_first (u ∷ us) ss h =
    IsDistinct-cons nat_eq u.number (numbers us) (differ_both u.number us ss (IsDistinct-head nat_eq u.number (numbers (us ++ ss)) h)).0
    (distinct_first us ss (IsDistinct-tail nat_eq u.number (numbers (us ++ ss)) h))

pub distinct_second : (us ss : List Numbered) → HaveDistinctNumbers (us ++ ss) → HaveDistinctNumbers ss
distinct_second [] ss h = h
distinct_second (u ∷ us) ss h = distinct_second us ss (IsDistinct-tail nat_eq u.number (numbers (us ++ ss)) h)

pub distinct_apart : (us ss : List Numbered) → HaveDistinctNumbers (us ++ ss) → (p : Numbered) → Contains us p → Differ p.number ss
distinct_apart [] ss h p there = absurd (omega (arith, there.1))
distinct_apart (u ∷ us) ss h p there = elim (first_or_later p u us there) [
  | inl e ↦ subst (λ (q : Numbered). Differ q.number ss) e (differ_both u.number us ss (IsDistinct-head nat_eq u.number (numbers (us ++ ss)) h)).1
  | inr further ↦ distinct_apart us ss (IsDistinct-tail nat_eq u.number (numbers (us ++ ss)) h) p further
]

-- A prover that sees one version more after another of a finder's list.
use Rattle.std.proofs.Common.{◌≡◌, ◌∙◌, sym, ap, subst, refl, ℕ, zero, suc, ◌+◌, ◌-◌, ◌<◌, ◌≤◌, ◌^◌, List, [], ◌∷◌, ◌++◌, length, slice_get, take, Option, Some, None, arith}
use Rattle.std.specs.Prelude.{slice_set, IsSomeAnd}
use Rattle.std.proofs.lemmas.List.{length-take-le}
use Rattle.sc_term.specs.Numbering.{numbered, with_element}
use Rattle.sc_interp.specs.Versions.{ClaimedStructure}
use Rattle.sc_core_rules.specs.Selection.{Seen}
use Rattle.sc_core_rules.proofs.NumberLaws.{numbered-suc}
use Rattle.sc_core.specs.State.{ProverState}
use Rattle.sc_guide.specs.Guided.{grown}
use Rattle.sc_world.specs.World.{SeesUpTo}

-- at that place, the prover sees all versions before it
pub record IsSeeing (f : ℕ) (versions : List ClaimedStructure) (from place : ℕ) (old new : ProverState) : Type 0 where
  pub after : from ≤ place
  pub within : place ≤ length versions
  pub sees : SeesUpTo f versions place old new

none_there : (versions : List ClaimedStructure) → {B : Type 0} → ◌≡◌ {A = Option (List ClaimedStructure)} None (Some versions) → B
none_there versions {B} e = absurd cc

-- ---- one list set, by its place from 0

set_back : {X : Type 0} (xs : List X) (k : ℕ) (x : X) → slice_get xs k ≡ Some x → slice_set xs k x ≡ xs
set_back [] k x e = refl
set_back (y ∷ ys) zero x e =
    let some : Some y ≡ Some x = e in
    let same : x ≡ y = cc in
    ap (λ z. z ∷ ys) same
set_back (y ∷ ys) (suc k) x e = ap (λ zs. y ∷ zs) (set_back ys k x e)

set_there : {X : Type 0} (xs : List X) (k : ℕ) (x y : X) → slice_get xs k ≡ Some y → slice_get (slice_set xs k x) k ≡ Some x
set_there {X} [] k x y e = let bad : ◌≡◌ {A = Option X} None (Some y) = e in absurd cc
set_there (z ∷ zs) zero x y e = refl
set_there (z ∷ zs) (suc k) x y e = set_there zs k x y e

set_twice : {X : Type 0} (xs : List X) (k : ℕ) (x y : X) → slice_set (slice_set xs k x) k y ≡ slice_set xs k y
set_twice [] k x y = refl
set_twice (z ∷ zs) zero x y = refl
set_twice (z ∷ zs) (suc k) x y = ap (λ all. z ∷ all) (set_twice zs k x y)

-- ---- the same by its number, from 1

less_one : (i : ℕ) → i ≡ suc i - 1
less_one i = omega arith

pub element_back : (lists : Seen) (n : ℕ) (versions : List ClaimedStructure) → numbered lists n ≡ Some versions → with_element lists n versions ≡ lists
element_back lists zero versions e = none_there versions e
element_back lists (suc i) versions e =
    subst (λ (k : ℕ). slice_set lists k versions ≡ lists) (less_one i) (set_back lists i versions (sym (numbered-suc lists i) ∙ e))

pub element_there : (lists : Seen) (n : ℕ) (versions now : List ClaimedStructure) → numbered lists n ≡ Some versions → numbered (with_element lists n now) n ≡ Some now
element_there lists zero versions now e = none_there versions e
element_there lists (suc i) versions now e =
    subst (λ (k : ℕ). numbered (slice_set lists k now) (suc i) ≡ Some now) (less_one i)
    (numbered-suc (slice_set lists i now) i ∙ set_there lists i now versions (sym (numbered-suc lists i) ∙ e))

pub numbered_at : (lists : Seen) (n : ℕ) (versions : List ClaimedStructure) → 1 ≤ n → slice_get lists (n - 1) ≡ Some versions → numbered lists n ≡ Some versions
numbered_at lists zero versions some e = absurd (omega (arith, some))
numbered_at lists (suc i) versions some e = numbered-suc lists i ∙ subst (λ (k : ℕ). slice_get lists k ≡ Some versions) (sym (less_one i)) e

pub grown_is : (lists : Seen) (n : ℕ) (versions : List ClaimedStructure) (v : ClaimedStructure) → numbered lists n ≡ Some versions → grown lists n v ≡ with_element lists n (versions ++ v ∷ [])
grown_is lists n versions v e =
    ap (λ (o : Option (List ClaimedStructure)). elim o [ None ↦ lists | Some vs ↦ with_element lists n (vs ++ v ∷ []) ]) e

-- ---- one version more is seen

take_more : {X : Type 0} (xs : List X) (k : ℕ) (x : X) → slice_get xs k ≡ Some x → take k xs ++ x ∷ [] ≡ take (suc k) xs
take_more {X} [] k x e = let bad : ◌≡◌ {A = Option X} None (Some x) = e in absurd cc
take_more (y ∷ ys) zero x e =
    let some : Some y ≡ Some x = e in
    let same : x ≡ y = cc in
    ap (λ z. z ∷ []) same
take_more (y ∷ ys) (suc k) x e = ap (λ zs. y ∷ zs) (take_more ys k x e)

take_one_more : (xs : List ClaimedStructure) (k : ℕ) (x : ClaimedStructure) → slice_get xs k ≡ Some x → take k xs ++ x ∷ [] ≡ take (k + 1) xs
take_one_more xs k x e =
    let next : suc k ≡ k + 1 = omega arith in
    take_more xs k x e ∙ ap (λ (n : ℕ). take n xs) next

module _ (f : ℕ) (versions : List ClaimedStructure) (from : ℕ) (old : ProverState) (first : numbered old.seen f ≡ Some (take from versions)) where
  pub starts_seeing : from ≤ length versions → IsSeeing f versions from from old old
  starts_seeing within = record {
    after = omega arith;
    within = within;
    sees = λ i. record old { seen = sym (element_back old.seen f (take from versions) first) i };
  }

  pub sees_now : (place : ℕ) (prover : ProverState) → IsSeeing f versions from place old prover → numbered prover.seen f ≡ Some (take place versions)
  sees_now place prover h = ap (λ (p : ProverState). numbered p.seen f) h.sees ∙ element_there old.seen f (take from versions) (take place versions) first

  pub few_seen : (place : ℕ) (prover : ProverState) → IsSeeing f versions from place old prover → place < length versions → length versions ≤ 2 ^ 31
      → IsSomeAnd (numbered prover.seen f) (λ (vs : List ClaimedStructure). length vs < 2 ^ 31)
  few_seen place prover h less few =
      let long = length-take-le place versions h.within in
      subst (λ (o : Option (List ClaimedStructure)). IsSomeAnd o (λ (vs : List ClaimedStructure). length vs < 2 ^ 31)) (sym (sees_now place prover h)) (omega (arith, long, less, few))

  pub sees_next : (place : ℕ) (prover new : ProverState) (v : ClaimedStructure) → IsSeeing f versions from place old prover → slice_get versions place ≡ Some v
      → place < length versions → new ≡ record prover { seen = grown prover.seen f v } → IsSeeing f versions from (place + 1) old new
  sees_next place prover new v h is less e = record {
    after = (let after = h.after in omega (arith, after));
    within = omega (arith, less);
    sees = e ∙ (λ i. record (h.sees i) { seen = seen i });
  }
    where
      now : numbered prover.seen f ≡ Some (take place versions)
      now = sees_now place prover h

      seen : grown prover.seen f v ≡ with_element old.seen f (take (place + 1) versions)
      seen =
          grown_is prover.seen f (take place versions) v now
          ∙ ap (λ (vs : List ClaimedStructure). with_element prover.seen f vs) (take_one_more versions place v is)
          ∙ ap (λ (p : ProverState). with_element p.seen f (take (place + 1) versions)) h.sees
          ∙ set_twice old.seen (f - 1) (take place versions) (take (place + 1) versions)

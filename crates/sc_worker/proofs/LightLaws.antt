-- The candidates from a place of the input clauses on.
use Rattle.std.proofs.Common.{◌≡◌, ◌≢◌, ◌∙◌, ap, refl, ℕ, zero, suc, ◌+◌, ◌-◌, ◌<◌, ◌≤◌, ◌⊎◌, inl, inr, Bool, true, false, if◌then◌else◌, List, [], ◌∷◌, length, take, drop, Some, slice_get, filter, arith}
use Rattle.std.specs.Prelude.{◌↔◌, IsTrue}
use Rattle.std.proofs.lemmas.Bool.{le-leb, lt-leb, cases_order}
use Rattle.std.proofs.lemmas.List.{drop_all}
use Rattle.sc_term.specs.declared.Clause.{Clause}
use Rattle.sc_term.specs.declared.Numbered.{Numbered}
use Rattle.sc_term.specs.Clause.{weight}
use Rattle.sc_core_rules.specs.Start.{numbered_from}
use Rattle.sc_worker.specs.FinderList.{is_light}
use Rattle.sc_worker.specs.Keeping.{light_from}

pub at_end : (cs : List Clause) (k : ℕ) → length cs ≤ k → light_from cs k ≡ []
at_end cs k end = ap (λ (ds : List Clause). filter is_light (numbered_from (k + 1) ds)) (drop_all k cs end)

from_place : (cs : List Clause) (k : ℕ) (c : Clause) → slice_get cs k ≡ Some c → drop k cs ≡ c ∷ drop (suc k) cs
from_place [] k c e = absurd cc
from_place (d ∷ cs) zero c e = let is : d ≡ c = cc in ap (λ (x : Clause). x ∷ cs) is
from_place (d ∷ cs) (suc k) c e = from_place cs k c e

module _ (cs : List Clause) (k : ℕ) (c : Clause) (here : slice_get cs k ≡ Some c) where
  abbrev one : Numbered
  one = record { number = k + 1; clause = c }

  abbrev kept : Bool → List Numbered
  kept b = if b then one ∷ filter is_light (numbered_from (k + 1 + 1) (drop (suc k) cs)) else filter is_light (numbered_from (k + 1 + 1) (drop (suc k) cs))

  opened : light_from cs k ≡ kept (is_light one)
  opened = ap (λ (ds : List Clause). filter is_light (numbered_from (k + 1) ds)) (from_place cs k c here)

  behind : filter is_light (numbered_from (k + 1 + 1) (drop (suc k) cs)) ≡ light_from cs (k + 1)
  behind = let next : suc k ≡ k + 1 = omega arith in ap (λ (j : ℕ). filter is_light (numbered_from (k + 1 + 1) (drop j cs))) next

  -- a clause that is too heavy is no candidate
  pub passed : (100 < weight c) → light_from cs k ≡ light_from cs (k + 1)
  passed heavy = opened ∙ ap kept (lt-leb (weight c) 100 heavy) ∙ behind

  pub taken : weight c ≤ 100 → light_from cs k ≡ (record { number = k + 1; clause = c }) ∷ light_from cs (k + 1)
  taken light = opened ∙ ap kept (le-leb (weight c) 100 light) ∙ ap (λ (ps : List Numbered). one ∷ ps) behind

-- the first of so many
pub next_of : (cs : List Clause) (k room : ℕ) (c : Clause) → slice_get cs k ≡ Some c → weight c ≤ 100 → 0 < room
    → take room (light_from cs k) ≡ (record { number = k + 1; clause = c }) ∷ take (room - 1) (light_from cs (k + 1))
next_of cs k zero c here light some = absurd (omega (arith, some))
next_of cs k (suc room) c here light some =
    let less : room ≡ suc room - 1 = omega arith in
    ap (take (suc room)) (taken cs k c here light) ∙ ap (λ (n : ℕ). (record { number = k + 1; clause = c }) ∷ take n (light_from cs (k + 1))) less

pub none_of : (cs : List Clause) (k room : ℕ) → (0 < room → k < length cs → ⊥) → take room (light_from cs k) ≡ []
none_of cs k zero not = refl
none_of cs k (suc room) not = by (cases_order k (length cs))
  where
    empty : length cs ≤ k → take (suc room) (light_from cs k) ≡ []
    empty end = ap (take (suc room)) (at_end cs k end)

    by : (k ≡ length cs) ⊎ ((k < length cs) ⊎ (length cs < k)) → take (suc room) (light_from cs k) ≡ []
    by (inl same) = empty (omega (arith, same))
    by (inr (inl less)) = absurd (not (omega arith) less)
    by (inr (inr more)) = empty (omega (arith, more))

-- whether one is left
pub left_where : (cs : List Clause) (k room : ℕ) (b : Bool) → ((c : Clause) → slice_get cs k ≡ Some c → weight c ≤ 100)
    → (IsTrue b ↔ ((0 < room) × (k < length cs))) → (IsTrue b ↔ (take room (light_from cs k) ≢ []))
left_where cs k room b light tells = (some b tells, none b tells)
  where
    found : (ds : List Clause) (j : ℕ) → j < length ds → (c : Clause) × (slice_get ds j ≡ Some c)
    found [] j less = absurd (omega (arith, less))
    found (d ∷ ds) zero less = (d, refl)
    found (d ∷ ds) (suc j) less = found ds j (omega (arith, less))

    some : (b : Bool) → (IsTrue b ↔ ((0 < room) × (k < length cs))) → IsTrue b → take room (light_from cs k) ≢ []
    some b tells is empty =
        let within = tells.0 is in
        let at = found cs k within.1 in
        absurd (cc (next_of cs k room at.0 at.1 (light at.0 at.1) within.0, empty))

    none : (b : Bool) → (IsTrue b ↔ ((0 < room) × (k < length cs))) → (take room (light_from cs k) ≢ []) → IsTrue b
    none true tells ne = refl
    none false tells ne = absurd (ne (none_of cs k room (λ more less. absurd (cc (tells.1 (more, less))))))

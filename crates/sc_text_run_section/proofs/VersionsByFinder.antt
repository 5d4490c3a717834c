-- Versions put behind those of their finder.
use Rattle.std.proofs.Common.{◌≡◌, ◌∙◌, sym, ap, refl, ℕ, zero, suc, ◌+◌, ◌<◌, Bool, true, false, List, [], ◌∷◌, ◌++◌, append_assoc, append-nil, length, get_or, slice_set, replicate, arith}
use Rattle.std.specs.Prelude.{◌==◌}
use Rattle.sc_text_run_rules.specs.RunValue.{VersionValue}
use Rattle.sc_text_run_rules.specs.VersionGrammar.{PlacedVersion, of_finder, by_finder}
use Rattle.sc_text_run_section.specs.Seen.{lists_behind}

abbrev Lists : Type 0
Lists = List (List VersionValue)

-- none behind them
pub none_behind : (finder : ℕ) (ls : Lists) → lists_behind finder ls [] ≡ ls
none_behind finder [] = refl
none_behind finder (l ∷ ls) = λ j. append-nil l j ∷ none_behind (finder + 1) ls j

-- behind empty lists
pub behind_empty : (n finder : ℕ) (vs : List PlacedVersion) → lists_behind finder (replicate n []) vs ≡ by_finder n finder vs
behind_empty zero finder vs = refl
behind_empty (suc n) finder vs = ap (λ (ls : Lists). of_finder finder vs ∷ ls) (behind_empty n (finder + 1) vs)

-- ---- one more

chosen : (b : Bool) (v : PlacedVersion) (vs : List PlacedVersion) (finder : ℕ) → (v.finder == finder) ≡ b
    → of_finder finder (v ∷ vs) ≡ (elim b as (λ _. List VersionValue) [ true ↦ v.version ∷ of_finder finder vs | false ↦ of_finder finder vs ])
chosen true v vs finder e = simp e refl
chosen false v vs finder e = simp e refl

-- of another finder
other : (v : PlacedVersion) (vs : List PlacedVersion) (finder : ℕ) → (v.finder == finder) ≡ false → of_finder finder (v ∷ vs) ≡ of_finder finder vs
other v vs finder e = chosen false v vs finder e

-- of one before them
earlier : (finder : ℕ) (ls : Lists) (v : PlacedVersion) (vs : List PlacedVersion) → v.finder < finder → lists_behind finder ls (v ∷ vs) ≡ lists_behind finder ls vs
earlier finder [] v vs lt = refl
earlier finder (l ∷ ls) v vs lt =
    λ j. (l ++ other v vs finder (differs v.finder finder lt) j) ∷ earlier (finder + 1) ls v vs (omega (arith, lt)) j
  where
    differs : (m n : ℕ) → m < n → (m == n) ≡ false
    differs m n lt = search arith

pub one_put : (finder : ℕ) (ls : Lists) (at : ℕ) (v : PlacedVersion) (vs : List PlacedVersion) → v.finder ≡ finder + at → at < length ls
    → lists_behind finder (slice_set ls at (get_or ls at [] ++ v.version ∷ [])) vs ≡ lists_behind finder ls (v ∷ vs)
one_put finder [] at v vs is lt = absurd (omega (arith, lt))
one_put finder (l ∷ ls) zero v vs is lt =
    λ j. (append_assoc l (v.version ∷ []) (of_finder finder vs) ∙ ap (λ (xs : List VersionValue). l ++ xs) (sym (chosen true v vs finder (same v.finder finder (omega (arith, is)))))) j
    ∷ sym (earlier (finder + 1) ls v vs (omega (arith, is))) j
  where
    same : (m n : ℕ) → m ≡ n → (m == n) ≡ true
    same m n e = search (arith, e)
one_put finder (l ∷ ls) (suc at) v vs is lt =
    λ j. (l ++ sym (other v vs finder (differs v.finder finder at is)) j) ∷ one_put (finder + 1) ls at v vs (omega (arith, is)) (omega (arith, lt)) j
  where
    differs : (m n k : ℕ) → m ≡ n + suc k → (m == n) ≡ false
    differs m n k e = search (arith, e)

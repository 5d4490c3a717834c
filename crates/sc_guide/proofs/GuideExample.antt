-- Worked cases: which of a few versions of two finders is the guide.
use Rattle.std.proofs.Common.{◌≡◌, ap, subst, refl, ℕ, ◌⊎◌, inl, inr, List, [], ◌∷◌, arith}
use Rattle.std.proofs.lemmas.List.Elements.{All-replicate}
use Rattle.sc_input_rules.specs.Problem.{Stated}
use Rattle.sc_interp.specs.declared.plain.VersionName.{VersionName}
use Rattle.sc_interp.specs.Versions.{ClaimedStructure, opening}
use Rattle.sc_core_rules.specs.Selection.{IsBetter, IsGuide, opening_name, score}
use Rattle.sc_core_rules.specs.Order.{IsBefore}
use Rattle.sc_core_rules.proofs.OrderLaws.{not_before_itself, not_both}
use Rattle.sc_guide.proofs.GuideLaws.{becomes_guide, stays_guide}

abbrev named : ℕ → ℕ → VersionName
named finder place = record { finder = finder; place = place }

-- where none is seen, the opening version
nothing : (problem : Stated) → IsGuide problem ([] ∷ [] ∷ []) opening_name (opening problem.symbols)
nothing problem = inl (All-replicate (λ (versions : List ClaimedStructure). versions ≡ []) 2 [] refl, (refl, refl))

-- the only one, though it claims nothing
only : (problem : Stated) (b : ClaimedStructure) → IsGuide problem ([] ∷ (b ∷ []) ∷ []) (named 2 0) b
only problem b = becomes_guide problem ([] ∷ [] ∷ []) 2 b [] opening_name (opening problem.symbols) refl (inl refl) (nothing problem)

-- of two of equal score the one of the lesser finder, though it came later
pub lesser_finder : (problem : Stated) (a b : ClaimedStructure) → score a ≡ score b → IsGuide problem ((a ∷ []) ∷ (b ∷ []) ∷ []) (named 1 0) a
lesser_finder problem a b same = becomes_guide problem ([] ∷ (b ∷ []) ∷ []) 1 a [] (named 2 0) b refl (inr (inr (same, inl (omega arith)))) (only problem b)

-- of two of one finder and equal score the later one
pub later_place : (problem : Stated) (a b c : ClaimedStructure) → score a ≡ score b → score c ≡ score a → IsGuide problem ((a ∷ c ∷ []) ∷ (b ∷ []) ∷ []) (named 1 1) c
later_place problem a b c same again =
    becomes_guide problem ((a ∷ []) ∷ (b ∷ []) ∷ []) 1 c (a ∷ []) (named 1 0) a refl (inr (inr (again, inr (refl, omega arith)))) (lesser_finder problem a b same)

-- the one of greater score, though its finder is greater
pub greater_score : (problem : Stated) (a b d : ClaimedStructure) → score a ≡ score b → IsBefore (score a) (score d) → IsGuide problem ((a ∷ []) ∷ (b ∷ d ∷ []) ∷ []) (named 2 1) d
greater_score problem a b d same less =
    becomes_guide problem ((a ∷ []) ∷ (b ∷ []) ∷ []) 2 d (b ∷ []) (named 1 0) a refl (inr (inl less)) (lesser_finder problem a b same)

-- a later one of lesser score doesn't take the place of the guide
pub lesser_score : (problem : Stated) (a b c : ClaimedStructure) → score a ≡ score b → IsBefore (score c) (score a) → IsGuide problem ((a ∷ c ∷ []) ∷ (b ∷ []) ∷ []) (named 1 0) a
lesser_score problem a b c same less = stays_guide problem ((a ∷ []) ∷ (b ∷ []) ∷ []) 1 c (a ∷ []) (named 1 0) a refl worse (lesser_finder problem a b same)
  where
    worse : ¬ ((named 1 0 ≡ opening_name) ⊎ IsBetter (named 1 1) c (named 1 0) a)
    worse (inl e) = let finder : 1 ≡ 0 = ap (λ (n : VersionName). n.finder) e in omega (arith, finder)
    worse (inr (inl more)) = not_both (score c) (score a) less more
    worse (inr (inr (e, later))) = not_before_itself (score a) (subst (λ s. IsBefore s (score a)) e less)

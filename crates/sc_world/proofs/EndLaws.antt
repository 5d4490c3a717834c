-- How a finder ends whose chooser tells that no candidate is left.
use Rattle.std.proofs.Common.{◌≡◌, refl, inl, List, [], ◌∷◌, Bool, true, false}
use Rattle.std.specs.Prelude.{◌≢◌, ◌↔◌, IsTrue}
use Rattle.sc_term.specs.declared.Numbered.{Numbered}
use Rattle.sc_text_run_rules.specs.declared.run.FinderEnd.TheVariants as ends
use Rattle.sc_worker.specs.Choosing.{Choice}
use Rattle.sc_world.specs.Steps.{IsEnd}

nothing_left : (left : List Numbered) (more : Bool) → (IsTrue more ↔ (left ≢ [])) → more ≡ false → left ≡ []
nothing_left [] more tells e = refl
nothing_left (p ∷ ps) more tells e = let some : more ≡ true = tells.1 (λ bad. cc) in absurd (cc)

pub ends_done : (choice : Choice) (more : Bool) → (IsTrue more ↔ (choice.left ≢ [])) → more ≡ false → IsEnd choice ends.Done
ends_done choice more tells e = inl (nothing_left choice.left more tells e, refl)

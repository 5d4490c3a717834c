use Rattle.std.proofs.Common.{subst, List, ◌∷◌, [], Option}
use Rattle.std.specs.Prelude.{MatchOption}
use Rattle.sc_term.specs.declared.Term.{Term}
use Rattle.sc_keep.specs.Parts.{HasNoParts, HasParts, unit_pairs}
use Rattle.sc_keep.proofs.ConflictFound.{none_any}
use Rattle.sc_keep.proofs.units.units_conflict.Goals as goal

pub returns-in-None : goal.returns-in-None
returns-in-None c =
    let own = c.args.n.now.clause ∷ c.args.m.now.clause ∷ [] in
    let pairs = unit_pairs c.args.n.now.clause c.args.m.now.clause in
    none_any c.args.n.now c.args.m.now c.requires.unit_n c.requires.unit_m
    (subst (λ (o : Option (List (List Term))). MatchOption o (HasNoParts own pairs) (λ terms. HasParts own pairs terms)) c.in-None.is c.in_ok-terms.ensures)

use Rattle.std.proofs.Common.{◌≡◌, ◌≤◌, ◌*◌, List, take, length}
use Rattle.std.specs.List.{Contains}
use Rattle.sc_term.specs.declared.Clause.{Clause}
use Rattle.sc_term.specs.declared.Numbered.{Numbered}
use Rattle.sc_resolve.specs.Lines.{IsKnown}
use Rattle.sc_hyper.specs.Making.{AreTold, IsOpened}
use Rattle.sc_hyper.proofs.parts.opening_of.Given as goal

abbrev pub invariant-loop-at : goal.invariant-loop-at
invariant-loop-at l = record {
  few : length l.lines ≤ 2 * l.at;
  known : (q : Numbered) → Contains l.parents q → IsKnown l.lines q;
  opened : (parts : List Clause) → AreTold l.parents l.told parts → (l.parts ≡ take l.at parts) × IsOpened (take l.at l.parents) (take l.at parts) l.lines l.part_lines;
}

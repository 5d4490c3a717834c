use Rattle.std.proofs.Common.{◌≡◌, All, length}
use Rattle.sc_shelf.specs.Looks.{IsOver}
use Rattle.sc_shelf.proofs.tests.versions.Given as goal

-- one version for each place so far, each over the signature
abbrev pub invariant-loop-place : goal.invariant-loop-place
invariant-loop-place l = record {
  over : All (IsOver l.sig) l.versions;
  few : length l.versions ≡ l.place;
}

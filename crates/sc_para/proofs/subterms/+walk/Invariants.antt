use Rattle.std.proofs.Common.{◌≡◌, ◌*◌, ◌+◌, map}
use Rattle.sc_term.specs.Term.{term_depth, largest}
use Rattle.sc_resolve.specs.Extending.{Extends, Below}
use Rattle.sc_para.specs.Spots.{pair_numbers}
use Rattle.sc_para.specs.Subterms.{IsWithinArgument}
use Rattle.sc_para.proofs.subterms.+walk.Given as goal

abbrev pub decreases-add_within : goal.decreases-add_within
decreases-add_within l = 2 * term_depth l.t.now

abbrev pub decreases-add_under : goal.decreases-add_under
decreases-add_under l = 2 * largest (map term_depth l.args.now) + 1

abbrev pub invariant-add_under-loop-at : goal.invariant-add_under-loop-at
invariant-add_under-loop-at l = record {
  sites : Extends pair_numbers (Below (IsWithinArgument l.source l.spot l.initial.path l.args) l.at) l.limit l.initial.sites l.sites;
  path : l.path ≡ l.initial.path;
}

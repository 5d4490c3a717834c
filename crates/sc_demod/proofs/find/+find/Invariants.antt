use Rattle.std.proofs.Common.{◌*◌, ◌+◌, map}
use Rattle.std.specs.List.{AllWithin}
use Rattle.sc_term.specs.Term.{term_depth, largest}
use Rattle.sc_demod.specs.Finding.{IsWithin, FindsNone}
use Rattle.sc_demod.proofs.find.+find.Given as goal

abbrev pub decreases-find_in_term : goal.decreases-find_in_term
decreases-find_in_term l = 2 * term_depth l.t.now

abbrev pub decreases-find_in_terms : goal.decreases-find_in_terms
decreases-find_in_terms l = 2 * largest (map term_depth l.args.now) + 1

abbrev pub invariant-find_in_terms-loop-i : goal.invariant-find_in_terms-loop-i
invariant-find_in_terms-loop-i l = AllWithin (λ t. FindsNone l.demods (IsWithin t)) l.args 0 l.i

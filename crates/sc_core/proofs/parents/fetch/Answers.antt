use Rattle.std.proofs.Common.{sym, subst, ℕ, List, [], take}
use Rattle.std.proofs.lemmas.List.{take_all, take_more}
use Rattle.sc_core_rules.specs.Book.{numbered_clauses}
use Rattle.sc_core.specs.Parents.{AreParents}
use Rattle.sc_core.proofs.ParentLaws.{no_parents}
use Rattle.sc_core.proofs.parents.fetch.Goals as goal

pub loop-n-init : goal.loop-n-init
loop-n-init c =
    let clauses = numbered_clauses c.args.book.now.problem c.args.book.now.book in
    subst (AreParents clauses []) (sym c.new-parents.ensures) (no_parents clauses)

pub loop-n-preserved : goal.loop-n-preserved
loop-n-preserved c =
    subst (λ (ns : List ℕ). AreParents (numbered_clauses c.args.book.now.problem c.args.book.now.book) ns c.add_parent.new.parents)
    (sym (take_more c.args.numbers.now c.loop-n.n-index 0 c.loop-n-test.true))
    (c.in_ok-add_parent.ensures (take c.loop-n.n-index c.args.numbers.now) c.loop-n.invariant)

pub returns : goal.returns
returns c =
    subst (λ (ns : List ℕ). AreParents (numbered_clauses c.args.book.now.problem c.args.book.now.book) ns c.loop-n.parents)
    (take_all c.loop-n.n-index c.args.numbers.now c.loop-n-test.false) c.loop-n.invariant

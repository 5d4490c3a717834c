use Rattle.std.proofs.Common.{subst, length, arith}
use Rattle.sc_index.specs.declared.entries.Entry.{Entry}
use Rattle.sc_index.specs.Entries.{present, IsWithout}
use Rattle.sc_index.proofs.RemovalLaws.{indexed_less, without}
use Rattle.sc_index.proofs.index.Index.remove.Goals as goal

pub invariant_of-self : goal.invariant_of-self
invariant_of-self c =
    let this : Entry = record { literal = c.args.lit.now; number = c.args.number } in
    indexed_less this (length c.self.inside.slots) c.self.inside.nodes.items c.self.inside.slots c.empty_each.new.slots c.empty_each.ensures c.self.invariant

pub returns : goal.returns
returns c =
    let this : Entry = record { literal = c.args.lit.now; number = c.args.number } in
    subst (λ old. IsWithout this old (present c.empty_each.new.slots)) c.self.view_is
    (without this (length c.self.inside.slots) c.self.inside.slots c.empty_each.new.slots (omega arith) c.empty_each.ensures)

use Rattle.std.proofs.Common.{◌∙◌, ap, subst}
use Rattle.sc_index.specs.Entries.{IsInstance, AreNumbers, present}
use Rattle.sc_index.proofs.index.Index.instances.Goals as goal

pub returns-clause-exact : goal.returns-clause-exact
returns-clause-exact c =
    subst (λ entries. AreNumbers (IsInstance c.args.lit.now) entries c.in_ok-numbers.numbers) (ap present c.as_slice-2.ensures ∙ c.self.view_is) c.in_ok-numbers.ensures.exact

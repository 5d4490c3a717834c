use Rattle.std.proofs.Common.{not, nat_eq, rules}
use Rattle.std.proofs.lemmas.Fn.{filter_same}
use Rattle.sc_term.specs.declared.Numbered.{Numbered}
use Rattle.sc_mark.proofs.truths.leave_out.Goals as goal

pub returns : goal.returns
returns c = filter_same _ (λ (p : Numbered). not (nat_eq p.number c.args.n)) _ (λ p b f k. search rules) _ _ c.retain.ensures.filtered

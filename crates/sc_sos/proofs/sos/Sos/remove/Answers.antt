use Rattle.std.proofs.Common.{◌∙◌, ap, rules}
use Rattle.std.specs.Prelude.{not, nat_eq}
use Rattle.std.proofs.lemmas.Fn.{filter_same}
use Rattle.sc_sos.specs.declared.sos.Weighed.{Weighed}
use Rattle.sc_sos.specs.Waiting.{Waiting, without_clause}
use Rattle.sc_sos.proofs.sos.Sos.remove.Goals as goal

pub returns-clause-clauses : goal.returns-clause-clauses
returns-clause-clauses c =
    filter_same _ (λ (w : Weighed). not (nat_eq w.number c.args.n)) _ (λ x b f' k. search rules) _ _ c.retain.ensures.filtered
    ∙ ap (λ (v : Waiting). without_clause v.clauses c.args.n) c.self.view_is

use Rattle.std.proofs.Common.{◌≡◌, ◌∙◌, ap, sym, List, length}
use Rattle.std.proofs.lemmas.Option.{MatchOption-at_some}
use Rattle.sc_term.specs.declared.Term.{Term}
use Rattle.sc_term.specs.Clause.{instance, IsWithinLimits}
use Rattle.sc_resolve.proofs.CanonicalLaws.{terms_of_canonical}
use Rattle.sc_hyper.proofs.parts.added_part.Goals as goal

pub add_part-requires-clause-terms : goal.add_part-requires-clause-terms
add_part-requires-clause-terms c =
    let own = c.args.parent.now.clause in
    let part = c.in-Some.part in
    let terms = c.in_ok-own.own in
    let made = MatchOption-at_some (¬ IsWithinLimits (instance terms own)) (λ p. (p.terms ≡ terms) × (p.clause ≡ instance terms own)) part c.in-Some.is c.in_ok-part.ensures in
    terms_of_canonical own part.clause part.terms c.requires.kept.canonical
    (ap (λ (ts : List Term). length ts) (made.0 ∙ c.in_ok-own.ensures ∙ c.as_slice.ensures) ∙ c.requires.many) (ap (λ (ts : List Term). instance ts own) made.0 ∙ sym made.1)

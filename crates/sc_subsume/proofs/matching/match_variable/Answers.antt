use Rattle.std.proofs.Common.{◌≡◌, ◌∙◌, sym, ap, subst, [], ◌∷◌, ◌++◌, None}
use Rattle.sc_unify.specs.declared.bound.Binding.{Binding}
use Rattle.sc_unify.specs.Bindings.{lookup}
use Rattle.sc_subsume.specs.Search.{bindings}
use Rattle.sc_unify.specs.Matching.{IsMatched}
use Rattle.sc_unify.proofs.TermFacts.{map_append}
use Rattle.sc_unify.proofs.MatchingLaws.{known, newly}
use Rattle.sc_subsume.proofs.matching.match_variable.Goals as goal

pub returns-in-Some-clause-same : goal.returns-in-Some-clause-same
returns-in-Some-clause-same c =
    known (bindings c.args.bound.now.items) c.args.n c.in-Some.term.now c.args.target.now
    (ap (λ bs. lookup (bindings bs) c.args.n) (sym c.as_slice.ensures.value) ∙ sym c.in-Some.ensures) c.same_term.result c.same_term.ensures

pub returns-in_ok-push-in-None-clause-same : goal.returns-in_ok-push-in-None-clause-same
returns-in_ok-push-in-None-clause-same c =
    let bs = bindings c.args.bound.now.items in
    let b : Binding = record { variable = c.args.n; term = c.args.target.now } in
    let free : lookup bs c.args.n ≡ None = ap (λ bs. lookup (bindings bs) c.args.n) (sym c.as_slice.ensures.value) ∙ sym c.in-None.ensures in
    let grown : bindings c.push.new.self.items ≡ bs ++ b ∷ [] = ap bindings c.in_ok-push-in-None.ensures.items ∙ map_append _ c.args.bound.now.items _ in
    subst (λ new. IsMatched bs new (λ s. s c.args.n ≡ c.args.target.now) (c.args.n ∷ [])) (sym grown) (newly bs b free)

use Rattle.std.proofs.Common.{◌≡◌, ◌+◌, ◌∙◌, sym, subst, ℕ, List, take, length, arith}
use Rattle.std.specs.Prelude.{MatchOption}
use Rattle.std.proofs.lemmas.Option.{slice_get_read, MatchOption-at_some}
use Rattle.sc_term.specs.Clause.{instance, IsWithinLimits}
use Rattle.sc_resolve.specs.Lines.{HasPart}
use Rattle.sc_resolve.proofs.LiteralLaws.{contains_at}
use Rattle.sc_hyper.specs.Making.{IsOpened}
use Rattle.sc_hyper.proofs.OpeningLaws.{terms_long, many_terms, not_outside, opened_step, opened_whole, known_step}
use Rattle.sc_hyper.proofs.parts.opening_of.Goals as goal

pub bounds-told-at : goal.bounds-told-at
bounds-told-at c = let long = terms_long c.args.parents.now c.args.told.now c.requires.told.0 c.requires.told.1.terms in omega (arith, long.0)

pub added_part-requires-clause-many : goal.added_part-requires-clause-many
added_part-requires-clause-many c =
    let ps = c.args.parents.now in
    let told = c.args.told.now in
    let at = c.loop-at.at in
    let long = terms_long ps told c.requires.told.0 c.requires.told.1.terms in
    many_terms ps told at c.index-parents-at.result c.index-told-at.result (slice_get_read ps (length ps) at c.index-parents-at.result (λ i. length ps) c.loop-at-test.true c.index-parents-at.is)
    (slice_get_read told (length told) at c.index-told-at.result (λ i. length told) (omega (arith, long.0, c.loop-at-test.true)) c.index-told-at.is) c.requires.told.0 c.requires.told.1

pub returns-in-None : goal.returns-in-None
returns-in-None c = λ parts h.
    let ps = c.args.parents.now in
    let told = c.args.told.now in
    let at = c.loop-at.at in
    let p = c.index-parents-at.result in
    let terms = c.index-told-at.result in
    let long = terms_long ps told parts h.terms in
    let outside : ¬ IsWithinLimits (instance terms p.clause) =
    subst (λ o. MatchOption o (¬ IsWithinLimits (instance terms p.clause)) (λ a. (a.clause ≡ instance terms p.clause) × HasPart c.loop-at.lines p a.clause c.added_part.new.lines a.line)) c.in-None.is c.in_ok-added.ensures in
    outside
    (not_outside ps told at p terms (slice_get_read ps (length ps) at p (λ i. length ps) c.loop-at-test.true c.index-parents-at.is)
    (slice_get_read told (length told) at terms (λ i. length told) (omega (arith, long.0, c.loop-at-test.true)) c.index-told-at.is) parts h)

pub loop-at-preserved : goal.loop-at-preserved
loop-at-preserved c =
    let ps = c.args.parents.now in
    let told = c.args.told.now in
    let at = c.loop-at.at in
    let p = c.index-parents-at.result in
    let terms = c.index-told-at.result in
    let long = terms_long ps told c.requires.told.0 c.requires.told.1.terms in
    let at_p = slice_get_read ps (length ps) at p (λ i. length ps) c.loop-at-test.true c.index-parents-at.is in
    let at_terms = slice_get_read told (length told) at terms (λ i. length told) (omega (arith, long.0, c.loop-at-test.true)) c.index-told-at.is in
    let added = MatchOption-at_some (¬ IsWithinLimits (instance terms p.clause)) (λ a. (a.clause ≡ instance terms p.clause) × HasPart c.loop-at.lines p a.clause c.added_part.new.lines a.line) c.in-Some.added c.in-Some.is c.in_ok-added.ensures in
    let k = c.in-Some.added.line in
    let part = c.in-Some.added.clause in
    record {
      few = omega (arith, added.1.few, c.loop-at.invariant.few);
      known = known_step ps c.loop-at.lines c.added_part.new.lines p part k c.requires.one (contains_at ps at p at_p) added.1 c.loop-at.invariant.known;
      opened = λ parts h.
          let step = opened_step ps told at p terms at_p at_terms c.loop-at.lines c.added_part.new.lines c.loop-at.part_lines c.loop-at.parts part k added.0 added.1 parts h (c.loop-at.invariant.opened parts h) in (
            c.in_ok-push-2.ensures.ok ∙ step.0,
            subst (λ (ks : List ℕ). IsOpened (take (at + 1) ps) (take (at + 1) parts) c.added_part.new.lines ks) (sym c.in_ok-push.ensures.ok) step.1,
          );
    }

pub returns : goal.returns
returns c = λ parts h.
    opened_whole c.args.parents.now c.args.told.now c.loop-at.at c.loop-at.lines c.loop-at.part_lines c.loop-at.parts (omega arith) parts h (c.loop-at.invariant.opened parts h)

use Rattle.std.proofs.Common.{◌≢◌, ◌∙◌, ap, subst, ◌<◌, ◌++◌}
use Rattle.std.specs.List.{All, AllPairs}
use Rattle.sc_term.specs.declared.Numbered.{Numbered}
use Rattle.sc_term.specs.Clause.{IsCanonical, IsWithinLimits}
use Rattle.sc_core_rules.specs.Book.{IsDerived, IsSound, next_number}
use Rattle.sc_keep.specs.State.{State, AreAllWithin, state_of}
use Rattle.sc_keep.specs.Sweep.{HaveDistinctNumbers}
use Rattle.sc_keep.specs.Lists.{book_of}
use Rattle.sc_keep.proofs.DistinctLaws.{distinct_first}
use Rattle.sc_keep.proofs.ReadyLaws.{apart}
use Rattle.sc_keep.proofs.StaysReady.{all_front}
use Rattle.sc_keep.proofs.book.Book.keeps.Goals as goal

pub returns-clause-derived : goal.returns-clause-derived
returns-clause-derived c whole = subst (λ (s : State). IsDerived s.problem s.book) c.self.view_is (c.self.invariant.derived (ap (λ (s : State). s.whole) c.self.view_is ∙ whole))

pub returns-clause-sound : goal.returns-clause-sound
returns-clause-sound c whole = subst (λ (s : State). IsSound s.problem s.book) c.self.view_is (c.self.invariant.sound (ap (λ (s : State). s.whole) c.self.view_is ∙ whole))

pub returns-clause-distinct : goal.returns-clause-distinct
returns-clause-distinct c whole = subst (λ (s : State). HaveDistinctNumbers (s.book.usable ++ s.book.sos)) c.self.view_is (distinct_first (c.self.inside.lists.usable ++ c.self.inside.lists.sos) c.self.inside.lists.passive (c.self.invariant.ready (ap (λ (s : State). s.whole) c.self.view_is ∙ whole)).distinct)

pub returns-clause-apart : goal.returns-clause-apart
returns-clause-apart c whole = subst (λ (s : State). AllPairs (λ (p q : Numbered). p.number ≢ q.number) (s.book.usable ++ s.book.sos)) c.self.view_is (apart (c.self.inside.lists.usable ++ c.self.inside.lists.sos) (distinct_first (c.self.inside.lists.usable ++ c.self.inside.lists.sos) c.self.inside.lists.passive (c.self.invariant.ready (ap (λ (s : State). s.whole) c.self.view_is ∙ whole)).distinct))

pub returns-clause-below : goal.returns-clause-below
returns-clause-below c whole =
    let n = next_number (state_of c.self.inside.symbols c.self.inside.inputs c.self.inside.homes c.self.inside.flags c.self.inside.params c.self.inside.lists c.self.inside.whole).problem (book_of c.self.inside.lists) in
    subst (λ (s : State). All (λ (p : Numbered). p.number < next_number s.problem s.book) (s.book.usable ++ s.book.sos)) c.self.view_is
    (all_front (λ (p : Numbered). p.number < n) (c.self.inside.lists.usable ++ c.self.inside.lists.sos) c.self.inside.lists.passive (c.self.invariant.ready (ap (λ (s : State). s.whole) c.self.view_is ∙ whole)).below)

pub returns-clause-usable_canonical : goal.returns-clause-usable_canonical
returns-clause-usable_canonical c whole = subst (λ (s : State). All (λ (p : Numbered). IsCanonical p.clause) s.book.usable) c.self.view_is (λ k d less. ((c.self.invariant.ready (ap (λ (s : State). s.whole) c.self.view_is ∙ whole)).usable k d less).canonical)

pub returns-clause-usable_within : goal.returns-clause-usable_within
returns-clause-usable_within c whole = subst (λ (s : State). All (λ (p : Numbered). IsWithinLimits p.clause) s.book.usable) c.self.view_is (λ k d less. ((c.self.invariant.ready (ap (λ (s : State). s.whole) c.self.view_is ∙ whole)).usable k d less).within)

pub returns-clause-sos_canonical : goal.returns-clause-sos_canonical
returns-clause-sos_canonical c whole = subst (λ (s : State). All (λ (p : Numbered). IsCanonical p.clause) s.book.sos) c.self.view_is (λ k d less. ((c.self.invariant.ready (ap (λ (s : State). s.whole) c.self.view_is ∙ whole)).sos k d less).canonical)

pub returns-clause-sos_within : goal.returns-clause-sos_within
returns-clause-sos_within c whole = subst (λ (s : State). All (λ (p : Numbered). IsWithinLimits p.clause) s.book.sos) c.self.view_is (λ k d less. ((c.self.invariant.ready (ap (λ (s : State). s.whole) c.self.view_is ∙ whole)).sos k d less).within)

pub returns-clause-passive_canonical : goal.returns-clause-passive_canonical
returns-clause-passive_canonical c whole = subst (λ (s : State). All (λ (p : Numbered). IsCanonical p.clause) s.book.passive) c.self.view_is (λ k d less. ((c.self.invariant.ready (ap (λ (s : State). s.whole) c.self.view_is ∙ whole)).passive k d less).canonical)

pub returns-clause-passive_within : goal.returns-clause-passive_within
returns-clause-passive_within c whole = subst (λ (s : State). All (λ (p : Numbered). IsWithinLimits p.clause) s.book.passive) c.self.view_is (λ k d less. ((c.self.invariant.ready (ap (λ (s : State). s.whole) c.self.view_is ∙ whole)).passive k d less).within)

pub returns-clause-all_within : goal.returns-clause-all_within
returns-clause-all_within c whole = subst (λ (s : State). AreAllWithin s.problem s.book) c.self.view_is (c.self.invariant.within (ap (λ (s : State). s.whole) c.self.view_is ∙ whole))

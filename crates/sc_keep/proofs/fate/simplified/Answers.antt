use Rattle.std.proofs.Common.{◌≡◌, ◌≢◌, sym, subst, ◌++◌, List}
use Rattle.std.specs.List.{AllPairs}
use Rattle.sc_term.specs.declared.Numbered.{Numbered}
use Rattle.sc_demod.specs.Standing.{ChecksWith}
use Rattle.sc_core_rules.specs.Book.{live}
use Rattle.sc_core_rules.specs.Simplification.{Simplifies}
use Rattle.sc_keep.specs.Lists.{book_of}
use Rattle.sc_keep.proofs.ReadyLaws.{apart}
use Rattle.sc_keep.proofs.fate.simplified.Goals as goal

pub simplify-requires-clause-differ : goal.simplify-requires-clause-differ
simplify-requires-clause-differ c =
    let same : (c.as_slice.result.now ++ c.as_slice-2.result.now) ++ c.as_slice-3.result.now ≡ live (book_of c.args.lists.now) = λ i. (c.as_slice.ensures i ++ c.as_slice-2.ensures i) ++ c.as_slice-3.ensures i in
    subst (AllPairs (λ (p q : Numbered). p.number ≢ q.number)) (sym same) (apart (live (book_of c.args.lists.now)) c.requires.distinct)

pub simplify-requires-clause-checks : goal.simplify-requires-clause-checks
simplify-requires-clause-checks c =
    let same : (c.as_slice.result.now ++ c.as_slice-2.result.now) ++ c.as_slice-3.result.now ≡ live (book_of c.args.lists.now) = λ i. (c.as_slice.ensures i ++ c.as_slice-2.ensures i) ++ c.as_slice-3.ensures i in
    subst (λ (ps : List Numbered). ChecksWith (ps ++ c.args.lists.now.demods) c.args.made.lines) (sym same) c.requires.checks

pub returns : goal.returns
returns c =
    let same : (c.as_slice.result.now ++ c.as_slice-2.result.now) ++ c.as_slice-3.result.now ≡ live (book_of c.args.lists.now) = λ i. (c.as_slice.ensures i ++ c.as_slice-2.ensures i) ++ c.as_slice-3.ensures i in
    subst (λ (ps : List Numbered). Simplifies c.args.flags c.args.params.demod_limit c.args.lists.now.demods ps c.args.made.lines c.in_ok-after.after.lines) same c.in_ok-after.ensures

use Rattle.std.proofs.Common.{◌≡◌, ◌+◌, ◌∙◌, sym, ap, subst, List, [], ◌∷◌, ◌++◌, drop, length, arith}
use Rattle.std.proofs.lemmas.Option.{slice_get_read}
use Rattle.sc_term.specs.declared.Clause.{Clause}
use Rattle.sc_term.specs.declared.Numbered.{Numbered}
use Rattle.sc_term.specs.JointInstance.{apart, apart_above, shift}
use Rattle.sc_resolve.specs.Kept.{IsKept}
use Rattle.sc_resolve.proofs.KeptLaws.{kept_width}
use Rattle.sc_hyper.specs.Making.{clauses_of}
use Rattle.sc_hyper.proofs.ListPieces.{all_at}
use Rattle.sc_hyper.proofs.PairingLaws.{apart_next, apart_whole}
use Rattle.sc_hyper.proofs.pairing.apart.Goals as goal

pub shift-requires : goal.shift-requires
shift-requires c =
    let ps = c.args.parents.now in
    let k = c.loop-parent.parent-index in
    let p = c.parent-item.result in
    let own : IsKept p.clause = all_at (λ (q : Numbered). IsKept q.clause) ps c.requires.kept k p (slice_get_read ps (length ps) k p (λ i. length ps) c.loop-parent-test.true c.parent-item.is) in
    omega (arith, kept_width p.clause own, c.loop-parent.invariant.low)

pub width-requires : goal.width-requires
width-requires c =
    let ps = c.args.parents.now in
    let k = c.loop-parent.parent-index in
    let p = c.parent-item.result in
    let own : IsKept p.clause = all_at (λ (q : Numbered). IsKept q.clause) ps c.requires.kept k p (slice_get_read ps (length ps) k p (λ i. length ps) c.loop-parent-test.true c.parent-item.is) in
    omega (arith, kept_width p.clause own)

pub overflow_add-low : goal.overflow_add-low
overflow_add-low c =
    let ps = c.args.parents.now in
    let k = c.loop-parent.parent-index in
    let p = c.parent-item.result in
    let own : IsKept p.clause = all_at (λ (q : Numbered). IsKept q.clause) ps c.requires.kept k p (slice_get_read ps (length ps) k p (λ i. length ps) c.loop-parent-test.true c.parent-item.is) in
    omega (arith, kept_width p.clause own, c.loop-parent.invariant.low, c.width.ensures)

pub loop-parent-preserved : goal.loop-parent-preserved
loop-parent-preserved c =
    let ps = c.args.parents.now in
    let k = c.loop-parent.parent-index in
    let p = c.parent-item.result in
    let low = c.loop-parent.low in
    let there = slice_get_read ps (length ps) k p (λ i. length ps) c.loop-parent-test.true c.parent-item.is in
    let own : IsKept p.clause = all_at (λ (q : Numbered). IsKept q.clause) ps c.requires.kept k p there in
    let all : List Clause = apart (clauses_of ps) in
    record {
      low = omega (arith, kept_width p.clause own, c.loop-parent.invariant.low, c.width.ensures);
      moved = subst (λ (ms : List Clause). ms ++ apart_above (low + c.width.result) (clauses_of (drop (k + 1) ps)) ≡ all)
          (ap (λ (d : Clause). c.loop-parent.moved ++ d ∷ []) (sym c.in_ok-shift.ensures) ∙ sym c.in_ok-push.ensures.ok)
          (subst (λ n. (c.loop-parent.moved ++ shift low p.clause ∷ []) ++ apart_above (low + n) (clauses_of (drop (k + 1) ps)) ≡ all) (sym c.width.ensures)
          (apart_next ps k low p c.loop-parent.moved all there c.loop-parent.invariant.moved));
    }

pub returns : goal.returns
returns c = apart_whole c.args.parents.now c.loop-parent.parent-index c.loop-parent.low c.loop-parent.moved (apart (clauses_of c.args.parents.now)) (omega arith) c.loop-parent.invariant.moved

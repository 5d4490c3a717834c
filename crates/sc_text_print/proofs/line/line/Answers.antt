use Rattle.std.proofs.Common.{◌≡◌, ◌++◌, [], ◌∷◌, append_assoc, refl}
use Rattle.std.specs.Prelude.{decimal}
use Rattle.sc_text_print.proofs.LineText.{line_pieces}
use Rattle.sc_text_print.proofs.line.line.Goals as goal

pub returns : goal.returns
returns c =
    let n : c.number.new.text.items ≡ c.args.text.now.items ++ decimal c.args.k = c.in_ok-number.ensures in
    let p : c.push.new.self.items ≡ c.number.new.text.items ++ 32 ∷ [] = c.in_ok-push.ensures.items in
    let s = c.in_ok-step.ensures in
    let e = c.in_ok-extend_from_slice.ensures.items in
    let k = c.in_ok-clause.ensures in
    let f = c.in_ok-extend_from_slice-2.ensures.items in
    let m = line_pieces c.args.sig.now c.args.k c.args.l.now in
    rw (f, k, e, s, p, n, m) (simp append_assoc refl)

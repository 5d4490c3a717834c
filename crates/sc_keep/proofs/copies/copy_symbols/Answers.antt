use Rattle.std.proofs.Common.{◌∙◌, sym, ap, Some}
use Rattle.sc_term.specs.declared.symbol.Symbol.{Symbol}
use Rattle.sc_keep.proofs.BookLaws.{one_copied}
use Rattle.sc_keep.proofs.copies.copy_symbols.Goals as goal

pub loop-n-preserved : goal.loop-n-preserved
loop-n-preserved c =
    one_copied c.args.sig.now c.push.new.self c.loop-n.made c.loop-n.n c.in_ok-symbol.symbol (c.symbol.ensures ∙ ap (λ (s : Symbol). Some s) (sym c.in_ok-symbol.ensures)) c.loop-n.invariant c.in_ok-push.ensures.ok

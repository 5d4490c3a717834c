use Rattle.std.proofs.Common.{◌≡◌, drop}
use Rattle.std.specs.List.{list_any}
use Rattle.sc_input_rules.specs.Token.{same_text}
use Rattle.sc_tptp.proofs.words.is_any.Given as goal

-- one of the rest is the word exactly where one of all is
abbrev pub invariant-loop-w : goal.invariant-loop-w
invariant-loop-w l =
    list_any (λ w. same_text l.fn.word w.now) (drop l.w-index l.words) ≡ list_any (λ w. same_text l.fn.word w.now) l.fn.words

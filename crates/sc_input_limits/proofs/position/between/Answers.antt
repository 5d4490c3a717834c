use Rattle.std.proofs.Common.{◌≡◌, ◌∙◌, sym, ap, ℕ, ◌+◌, ◌-◌, take, drop, arith}
use Rattle.std.proofs.lemmas.List.{drop-take}
use Rattle.sc_input_limits.proofs.position.between.Goals as goal

pub returns : goal.returns
returns c =
    let e : c.args.from + (c.args.to - c.args.from) ≡ c.args.to = omega arith in
    sym (drop-take c.args.from (c.args.to - c.args.from) c.args.tokens.now) ∙ ap (λ (n : ℕ). drop c.args.from (take n c.args.tokens.now)) e

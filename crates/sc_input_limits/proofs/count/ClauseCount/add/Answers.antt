use Rattle.std.proofs.Common.{◌∙◌, sym, ap, ℕ, ◌+◌}
use Rattle.sc_input_limits.proofs.Counts.{weight-yes, weight-no, counted}
use Rattle.sc_input_limits.proofs.count.ClauseCount.add.Goals as goal

pub returns-then-has_weight-clause-counted : goal.returns-then-has_weight-clause-counted
returns-then-has_weight-clause-counted c = λ tokens h.
    record {
      weight = ap (λ (n : ℕ). n + 1) h.weight ∙ sym (weight-yes tokens c.args.token.now (sym c.has_weight.ensures ∙ c.if-has_weight.true));
      literal = c.add.ensures.counted tokens h.literal;
      commas = counted tokens c.args.token.now c.count_commas.new.commas (c.in_ok-count_commas.ensures _ h.commas);
    }

pub returns-else-has_weight-clause-counted : goal.returns-else-has_weight-clause-counted
returns-else-has_weight-clause-counted c = λ tokens h.
    record {
      weight = h.weight ∙ sym (weight-no tokens c.args.token.now (sym c.has_weight.ensures ∙ c.if-has_weight.false));
      literal = c.add.ensures.counted tokens h.literal;
      commas = counted tokens c.args.token.now c.count_commas.new.commas (c.in_ok-count_commas.ensures _ h.commas);
    }

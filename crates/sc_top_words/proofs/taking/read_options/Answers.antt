use Rattle.sc_top_words.specs.Words.{texts}
use Rattle.sc_top_words.proofs.OptionLaws.{goes_on, ends, fails_unread, fails_untaken, more_in_range, some_texts, no_texts}
use Rattle.sc_top_words.proofs.taking.read_options.Goals as goal

pub returns-in_err-found-clause-taken : goal.returns-in_err-found-clause-taken
returns-in_err-found-clause-taken c =
    rw c.from_residual.ensures
    (fails_unread (texts c.args.words.now) (texts c.loop-rest.rest.now) c.loop-rest.taken c.loop-rest.invariant.under (some_texts c.loop-rest.rest.now cc)
    c.in_err-found.ensures.first)

pub returns-in_err-taken-clause-taken : goal.returns-in_err-taken-clause-taken
returns-in_err-taken-clause-taken c =
    rw c.from_residual-in_err-taken.ensures
    (fails_untaken (texts c.args.words.now) (texts c.loop-rest.rest.now) (texts c.in_ok-found.found.behind.now) c.loop-rest.taken
    (record { name = c.in_ok-found.found.name; value = c.in_ok-found.found.value.now }) c.loop-rest.invariant.under c.in_ok-found.ensures.first
    c.in_err-taken.ensures)

pub loop-rest-preserved : goal.loop-rest-preserved
loop-rest-preserved c =
    record {
      under = goes_on (texts c.args.words.now) (texts c.loop-rest.rest.now) (texts c.in_ok-found.found.behind.now) c.loop-rest.taken c.in_ok-taken.taken
          (record { name = c.in_ok-found.found.name; value = c.in_ok-found.found.value.now }) c.loop-rest.invariant.under c.in_ok-found.ensures.first c.in_ok-taken.ensures;
      in_range = more_in_range c.loop-rest.taken c.in_ok-taken.taken (record { name = c.in_ok-found.found.name; value = c.in_ok-found.found.value.now }) c.in_ok-taken.ensures
          c.loop-rest.invariant.in_range;
    }

pub returns-clause-taken : goal.returns-clause-taken
returns-clause-taken c = ends (texts c.args.words.now) (texts c.loop-rest.rest.now) c.loop-rest.taken c.loop-rest.invariant.under (no_texts c.loop-rest.rest.now cc)

use Rattle.std.specs.Prelude.{IfSome}
use Rattle.sc_top_words.specs.declared.commands.Command.{Command}
use Rattle.sc_top_words.specs.declared.commands.Command.TheVariants.{Bench}
use Rattle.sc_top.specs.Told.{IsDecided, IsToldOf, ReadsNothing}
use Rattle.sc_top.specs.declared.answer.Answer.TheVariants.{WordsRefused}
use Rattle.sc_top.proofs.ToldLaws.{answered_words, cut_short_words, of_command, status_told}
use Rattle.sc_top.proofs.scott.Goals as goal

pub returns-in-Some-clause-decided : goal.returns-in-Some-clause-decided
returns-in-Some-clause-decided g c = λ command asked six.
    of_command c.args.words.now (λ (k : Command). IfSome (g.S.Source.left c.args.source.now) (IsDecided k (g.K.Sink.room c.args.sink.now) (g.K.Sink.taken c.args.sink.now) (g.K.Sink.taken c.serve.new.sink) c.serve.result))
    c.in-Some.command command c.in-Some.ensures.asked asked (c.serve.ensures.decided six)

pub returns-in-Some-clause-told : goal.returns-in-Some-clause-told
returns-in-Some-clause-told g c = λ command asked five six seven.
    of_command c.args.words.now (λ (k : Command). IfSome (g.S.Source.left c.args.source.now) (IsToldOf k (g.K.Sink.room c.args.sink.now) (g.K.Sink.taken c.args.sink.now) (g.K.Sink.taken c.serve.new.sink) c.serve.result))
    c.in-Some.command command c.in-Some.ensures.asked asked (c.serve.ensures.told five six seven)

pub returns-in-Some-clause-answered : goal.returns-in-Some-clause-answered
returns-in-Some-clause-answered g c = λ six.
    answered_words c.in-Some.command _ _ _ c.args.words.now _ _ _ _ c.in-Some.ensures.asked (c.serve.ensures.answered six)

pub returns-in-Some-clause-cut_short : goal.returns-in-Some-clause-cut_short
returns-in-Some-clause-cut_short g c = λ six.
    cut_short_words c.in-Some.command _ _ _ c.args.words.now _ _ c.in-Some.ensures.asked (c.serve.ensures.cut_short six)

pub returns-in-None-clause-told : goal.returns-in-None-clause-told
returns-in-None-clause-told g c = λ command asked five six seven. absurd (c.in-None.ensures.asked command asked)

pub returns-in-None-clause-cut_short : goal.returns-in-None-clause-cut_short
returns-in-None-clause-cut_short g c = λ six. record { answer = WordsRefused; stands = c.in-None.ensures.asked; part = c.refuse_words.ensures.part six }

pub returns-in-Some-clause-complete : goal.returns-in-Some-clause-complete
returns-in-Some-clause-complete g c = λ command asked five six.
    status_told c.args.words.now _ _ _ _ _ _ _ (answered_words c.in-Some.command _ _ _ c.args.words.now _ _ _ _ c.in-Some.ensures.asked (c.serve.ensures.answered six)) c.serve.ensures.no_words five

pub returns-in-Some-clause-bench_reads_nothing : goal.returns-in-Some-clause-bench_reads_nothing
returns-in-Some-clause-bench_reads_nothing g c = λ rungs asked.
    c.serve.ensures.nothing_read (of_command c.args.words.now ReadsNothing (Bench rungs) c.in-Some.command asked c.in-Some.ensures.asked tt)

pub returns-in-Some-clause-words_refused : goal.returns-in-Some-clause-words_refused
returns-in-Some-clause-words_refused g c = λ none. absurd (none c.in-Some.command c.in-Some.ensures.asked)

pub returns-in-Some-clause-nothing_read : goal.returns-in-Some-clause-nothing_read
returns-in-Some-clause-nothing_read g c = λ none. absurd (none c.in-Some.command c.in-Some.ensures.asked)

pub returns-in-None-clause-decided : goal.returns-in-None-clause-decided
returns-in-None-clause-decided g c = λ command asked six. absurd (c.in-None.ensures.asked command asked)

pub returns-in-None-clause-complete : goal.returns-in-None-clause-complete
returns-in-None-clause-complete g c = λ command asked five six. absurd (c.in-None.ensures.asked command asked)

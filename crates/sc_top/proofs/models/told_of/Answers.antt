use Rattle.std.proofs.Common.{◌≡◌, ◌∙◌, ap, subst, ℕ, List}
use Rattle.sc_term.specs.declared.symbol.Symbol.{Symbol}
use Rattle.sc_text_run_rules.specs.ModelText.{model_text}
use Rattle.sc_text_run_rules.specs.RunValue.{entries_of}
use Rattle.sc_smallest.specs.declared.answer.Smallest.{Smallest}
use Rattle.sc_smallest.specs.Smallest.{IsSmallest}
use Rattle.sc_top.specs.Smallest.{sought_of}
use Rattle.sc_top.proofs.ModelAnswers.{smallest_text, smallest_none}
use Rattle.sc_top.proofs.models.told_of.Goals as goal

pub returns-in_ok-text-in-Model : goal.returns-in_ok-text-in-Model
returns-in_ok-text-in-Model c = λ nodes h.
    smallest_text c.args.problem.now c.args.from c.args.to nodes c.in-Model.tables c.from_vec.result c.keeps.ensures c.size.ensures.kept
    (subst (IsSmallest (sought_of c.args.problem.now) c.args.from c.args.to nodes) c.in-Model.is h)
    (c.from_vec.ensures ∙ c.in_ok-text-in-Model.ensures ∙ ap (λ (symbols : List Symbol). model_text symbols c.in-Model.tables.size (entries_of c.in-Model.tables)) c.sig.ensures)

pub returns-in-None : goal.returns-in-None
returns-in-None c = λ nodes h.
    smallest_none c.args.problem.now c.args.from c.args.to nodes c.keeps.ensures (subst (IsSmallest (sought_of c.args.problem.now) c.args.from c.args.to nodes) c.in-None.is h)

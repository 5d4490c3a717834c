use Rattle.std.proofs.Common.{◌∙◌, sym, subst, ◌++◌, ◌∷◌, []}
use Rattle.sc_core_rules.specs.Rewriting.{IsDemodulator}
use Rattle.sc_core_rules.proofs.SoundProcessing.{is_demodulator}
use Rattle.sc_keep.specs.Lists.{book_of}
use Rattle.sc_keep.proofs.deleting.join_demodulators.Goals as goal

pub push-requires-clause-demodulator : goal.push-requires-clause-demodulator
push-requires-clause-demodulator c = subst IsDemodulator (sym c.in_ok-copy.ensures) (is_demodulator c.args.n.now.clause c.requires.becomes)

pub returns : goal.returns
returns c =
    let old = book_of c.args.lists.now in
    λ i. record old { demods = (c.in_ok-push.ensures.ok ∙ (λ j. old.demods ++ record { number = c.args.n.now.number; clause = c.in_ok-copy.ensures j } ∷ [])) i }

use Rattle.std.proofs.Common.{◌≡◌, ◌∙◌, ◌++◌, ◌∷◌, [], arith}
use Rattle.sc_term.specs.Clause.{weight}
use Rattle.sc_keep.proofs.lists.join.Goals as goal

pub returns-clause-book : goal.returns-clause-book
returns-clause-book c problem e =
    let lists = c.args.lists.now in
    let small = c.requires in
    let told = c.weight.ensures in
    let w : c.weight.result ≡ weight c.args.n.now.clause = omega (arith, small, told) in
    λ i. record {
      derived = (c.in_ok-push.ensures.ok ∙ (λ j. lists.derived ++ record { clause = c.in_ok-copy.ensures j; lines = c.args.lines } ∷ [])) i;
      usable = lists.usable;
      sos = (c.in_ok-push-2.ensures.ok ∙ (λ j. lists.sos ++ record { number = e j; clause = c.in_ok-copy-2.ensures j } ∷ [])) i;
      passive = lists.passive;
      demods = lists.demods;
      kept = (c.in_ok-push-3.ensures.ok ∙ (λ j. lists.kept ++ record { number = e j; turn = c.args.turn; weight = w j; clause = c.in_ok-copy-3.ensures j } ∷ [])) i;
    }

pub returns-clause-sos : goal.returns-clause-sos
returns-clause-sos c =
    let lists = c.args.lists.now in
    c.in_ok-push-2.ensures.ok ∙ (λ j. lists.sos ++ record { number = c.args.n.now.number; clause = c.in_ok-copy-2.ensures j } ∷ [])

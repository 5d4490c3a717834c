use Rattle.std.proofs.Common.{◌∙◌, sym, ap, subst, List, ◌∷◌, [], ◌++◌, refl, true≢false}
use Rattle.sc_term.specs.Substitution.{Unify}
use Rattle.sc_core_rules.specs.declared.site.Pick.{Pick}
use Rattle.sc_hyper.specs.Choosing.{pick_of}
use Rattle.sc_hyper.proofs.choice.extended.Goals as goal

pub returns-then-not-branch : goal.returns-then-not-branch
returns-then-not-branch c = λ u. true≢false (sym (c.in_ok-do_unify.ensures.1 (subst Unify (sym c.in_ok-pairs.ensures) u)) ∙ c.if-not-branch.true)

pub returns : goal.returns
returns c = record {
  picks = c.in_ok-push.ensures.ok ∙ ap (λ (ps : List Pick). ps ++ pick_of c.args.next.now ∷ []) (c.in_ok-picks.ensures ∙ c.as_slice.ensures);
  pairs = c.in_ok-pairs.ensures;
  low = refl;
  unify = c.in_ok-do_unify.ensures.0 c.if-not-branch.false;
}

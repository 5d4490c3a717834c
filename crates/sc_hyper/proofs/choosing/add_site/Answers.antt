use Rattle.std.proofs.Common.{◌≡◌, ◌∙◌, sym, ap, subst, arith, List, map, ◌∷◌, ℕ}
use Rattle.std.specs.List.{Contains}
use Rattle.sc_term.specs.Substitution.{Unify}
use Rattle.sc_core_rules.specs.declared.site.Pick.{Pick}
use Rattle.sc_core_rules.specs.declared.site.HyperSite.{HyperSite}
use Rattle.sc_core_rules.specs.Pairing.{HaveOppositeSigns}
use Rattle.sc_core_rules.specs.Hyperresolution.{hyper_numbers}
use Rattle.sc_resolve.proofs.Extending.{full}
use Rattle.sc_hyper.specs.Choosing.{pick_of, Completes}
use Rattle.sc_hyper.proofs.ChoosingLaws.{as_many, has_so, has_not, site_added, no_given}
use Rattle.sc_hyper.proofs.choosing.add_site.Goals as goal

abbrev site_of : ℕ → List Pick → HyperSite
site_of n ps = record { nucleus = n; electrons = ps }

abbrev nucleus_first : ℕ → List Pick → List Pick
nucleus_first n ps = record { number = n; lit = 0 } ∷ ps

pub returns-then-len-limit : goal.returns-then-len-limit
returns-then-len-limit c = λ low cs chosen. full hyper_numbers c.args.limit (Completes c.args.nucleus c.args.given c.args.candidates.now low c.args.negatives.now cs) c.args.sites.now (omega arith)

pub returns-then-not-has_given : goal.returns-then-not-has_given
returns-then-not-has_given c = λ low cs chosen.
    let picks : c.as_slice.result.now ≡ map pick_of cs = c.as_slice.ensures ∙ chosen.picks in
    no_given c.args.nucleus c.args.given c.args.candidates.now low c.args.negatives.now cs c.args.limit c.args.sites.now
    (sym (as_many c.args.candidates.now low c.args.negatives.now cs c.args.choice.now chosen) ∙ c.requires.many)
    (λ x is. subst (λ (y : HyperSite). ¬ Contains (map (λ (p : Pick). p.number) (nucleus_first c.args.nucleus y.electrons)) c.args.given) (sym is)
    (subst (λ (ps : List Pick). ¬ Contains (map (λ (p : Pick). p.number) (nucleus_first c.args.nucleus ps)) c.args.given) picks
    (has_not c.args.given (nucleus_first c.args.nucleus c.as_slice.result.now) (sym c.has_given.ensures ∙ c.if-not-has_given.true))))

pub returns : goal.returns
returns c = λ low cs chosen.
    let picks : c.as_slice.result.now ≡ map pick_of cs = c.as_slice.ensures ∙ chosen.picks in
    let made : c.in_ok-electrons.electrons ≡ map pick_of cs = c.in_ok-electrons.ensures ∙ c.as_slice-2.ensures ∙ chosen.picks in
    site_added c.args.nucleus c.args.given c.args.candidates.now low c.args.negatives.now cs c.args.limit c.args.sites.now c.push.new.self (site_of c.args.nucleus c.in_ok-electrons.electrons) (omega arith)
    c.in_ok-push.ensures.ok (sym (as_many c.args.candidates.now low c.args.negatives.now cs c.args.choice.now chosen) ∙ c.requires.many) chosen.among (subst HaveOppositeSigns chosen.pairs chosen.signs) (subst Unify chosen.pairs c.requires.unify)
    (ap (site_of c.args.nucleus) made)
    (subst (λ (ps : List Pick). Contains (map (λ (p : Pick). p.number) (nucleus_first c.args.nucleus ps)) c.args.given) (picks ∙ sym made)
    (has_so c.args.given (nucleus_first c.args.nucleus c.as_slice.result.now) (sym c.has_given.ensures ∙ c.if-not-has_given.false)))

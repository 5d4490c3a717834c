use Rattle.std.proofs.Common.{◌≡◌, ◌∙◌, sym, subst, List, Some, None, Option}
use Rattle.std.specs.Prelude.{MatchOption}
use Rattle.std.proofs.lemmas.Option.{MatchOption-at_some}
use Rattle.sc_term.specs.declared.Clause.{Clause}
use Rattle.sc_term.specs.declared.Pair.{Pair}
use Rattle.sc_term.specs.Substitution.{Unify, IsMostGeneralUnifier}
use Rattle.sc_unify.specs.declared.bound.Binding.{Binding}
use Rattle.sc_unify.specs.Unifiers.{substitution}
use Rattle.sc_hyper.specs.Making.{ArePaired}
use Rattle.sc_hyper.proofs.PairingLaws.{told_all, same_pairs}
use Rattle.sc_hyper.proofs.pairing.terms_of_all.Goals as goal

pub returns-in-None : goal.returns-in-None
returns-in-None c = λ own ps e paired unify parts joint within.
    let paired_so : ArePaired c.as_slice.result.now c.args.lits.now c.args.others.now ps = subst (λ (cs : List Clause). ArePaired cs c.args.lits.now c.args.others.now ps) (sym c.as_slice.ensures) paired in
    let bad : ◌≡◌ {A = Option (List Pair)} None (Some ps) = sym c.in-None.is ∙ c.in_ok-pairs.ensures ps paired_so in absurd cc

pub returns-in-None-2 : goal.returns-in-None-2
returns-in-None-2 c = λ own ps e paired unify parts joint within.
    let paired_so : ArePaired c.as_slice.result.now c.args.lits.now c.args.others.now ps = subst (λ (cs : List Clause). ArePaired cs c.args.lits.now c.args.others.now ps) (sym c.as_slice.ensures) paired in
    let same : c.in-Some.pairs ≡ ps = same_pairs c.in_ok-pairs.field-0 c.in-Some.pairs ps c.in-Some.is (c.in_ok-pairs.ensures ps paired_so) in
    let none : ¬ Unify c.in-Some.pairs = subst (λ (o : Option (List Binding)). MatchOption o (¬ Unify c.in-Some.pairs) (λ s. IsMostGeneralUnifier c.in-Some.pairs (substitution s))) c.in-None-2.is c.in_ok-s.ensures in
    none (subst Unify (sym same) unify)

pub returns : goal.returns
returns c = λ own ps e paired unify.
    let paired_so : ArePaired c.as_slice.result.now c.args.lits.now c.args.others.now ps = subst (λ (cs : List Clause). ArePaired cs c.args.lits.now c.args.others.now ps) (sym c.as_slice.ensures) paired in
    let same : c.in-Some.pairs ≡ ps = same_pairs c.in_ok-pairs.field-0 c.in-Some.pairs ps c.in-Some.is (c.in_ok-pairs.ensures ps paired_so) in
    let mgu = MatchOption-at_some (¬ Unify c.in-Some.pairs) (λ s. IsMostGeneralUnifier c.in-Some.pairs (substitution s)) c.in-Some-2.s c.in-Some-2.is c.in_ok-s.ensures in
    told_all c.args.parents.now own ps c.in-Some-2.s c.in_ok-joint_terms.field-0
    (record { apart_so = e; mgu = subst (λ (qs : List Pair). IsMostGeneralUnifier qs (substitution c.in-Some-2.s)) same mgu; parts = c.in_ok-joint_terms.ensures.parts; limits = c.in_ok-joint_terms.ensures.limits })

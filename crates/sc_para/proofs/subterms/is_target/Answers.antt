use Rattle.std.proofs.Common.{◌≡◌, ◌∙◌, sym, ap, subst, true, false, not, nat_eq}
use Rattle.std.proofs.lemmas.Bool.{eq-eqb}
use Rattle.sc_term.specs.declared.SymId.{SymId}
use Rattle.sc_term.specs.declared.Literal.{Literal}
use Rattle.sc_term.specs.declared.Term.{Term}
use Rattle.sc_term.specs.declared.Term.TheVariants.{App}
use Rattle.sc_term.specs.Substitution.{Unify}
use Rattle.sc_core_rules.specs.Paramodulation.{atom_with}
use Rattle.sc_resolve.specs.Literals.{pair_of}
use Rattle.sc_resolve.proofs.LiteralLaws.{told}
use Rattle.sc_para.proofs.WalkLaws.{one_head}
use Rattle.sc_para.proofs.subterms.is_target.Goals as goal

pub returns-then-ne : goal.returns-then-ne
returns-then-ne c = (
  λ yes. let bad : false ≡ true = yes in cc,
  λ h.
      let unify : Unify (pair_of (atom_with (App c.args.head c.requires.0)) (atom_with (App c.in-App.f c.in-App.field-1))) =
      subst (λ (l : Literal). Unify (pair_of l (atom_with (App c.in-App.f c.in-App.field-1)))) c.requires.1
      (subst (λ (t : Term). Unify (pair_of c.args.source.now (atom_with t))) c.in-App.is h.unify) in
      let e = one_head c.args.head c.in-App.f c.requires.0 c.in-App.field-1 unify in
      let number = ap (λ (g : SymId). g.0) e in
      let test : true ≡ not (nat_eq c.in-App.f.0 c.args.head.0) = sym c.if-ne.true ∙ c.ne.ensures in
      let equal : nat_eq c.in-App.f.0 c.args.head.0 ≡ true = eq-eqb c.in-App.f.0 c.args.head.0 (sym number) in
      sym (test ∙ ap not equal),
)

pub returns-in_ok-unify-in-App : goal.returns-in_ok-unify-in-App
returns-in_ok-unify-in-App c =
    let same = told c.in_ok-unify-in-App.field-0 c.args.source.now c.in_ok-atom-in-App.atom c.is_some.result c.in_ok-unify-in-App.ensures c.is_some.ensures in (
      λ yes. record { compound = (c.in-App.f, c.in-App.field-1, c.in-App.is); unify = subst (λ (l : Literal). Unify (pair_of c.args.source.now l)) c.in_ok-atom-in-App.ensures (same.0 yes) },
      λ h. same.1 (subst (λ (l : Literal). Unify (pair_of c.args.source.now l)) (sym c.in_ok-atom-in-App.ensures) h.unify),
    )

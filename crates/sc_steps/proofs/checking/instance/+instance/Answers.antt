use Rattle.std.proofs.Common.{◌≡◌, ◌∙◌, sym, ap, List, Bool, true, eqb, IsTrue, map}
use Rattle.sc_term.specs.declared.SymId.{SymId}
use Rattle.sc_term.specs.declared.Term.{Term}
use Rattle.sc_term.specs.declared.Term.TheVariants.{App}
use Rattle.sc_term.specs.Term.{term_instance}
use Rattle.sc_term.proofs.TermLaws.{same_apps, instance-App}
use Rattle.sc_steps.proofs.checking.instance.+instance.Goals as goal

-- a term is the instance of one with the same symbol where its arguments are
instance_apps : (terms : List Term) (p t : Term) (f g : SymId) (ps ts us vs : List Term) (r : Bool) → p ≡ App f ps → t ≡ App g ts → us ≡ ps → vs ≡ ts
    → true ≡ eqb f.0 g.0 → (IsTrue r → vs ≡ map (term_instance terms) us) × (vs ≡ map (term_instance terms) us → IsTrue r)
    → (IsTrue r → t ≡ term_instance terms p) × (t ≡ term_instance terms p → IsTrue r)
instance_apps terms p t f g ps ts us vs r ep et eu ev names same =
    let made = ap (term_instance terms) ep ∙ instance-App terms f ps in
    let both = same_apps (term_instance terms p) t f g (map (term_instance terms) ps) ts (map (term_instance terms) us) vs r made et
    (ap (map (term_instance terms)) eu) ev names (λ y. sym (same.0 y), λ e. same.1 (sym e)) in
    (λ y. sym (both.0 y), λ e. both.1 (sym e))

pub is_term_instance-returns-then-eq : goal.is_term_instance-returns-then-eq
is_term_instance-returns-then-eq t c =
    instance_apps c.args.terms.now _ _ _ _ _ _ _ _ _ c.in-App-App.is-0 c.in-App-App.is-1 c.as_slice.ensures c.as_slice-then-eq.ensures c.if-eq.ensures c.are_instances.ensures

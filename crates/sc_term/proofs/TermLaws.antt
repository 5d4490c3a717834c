-- Induction over terms, and what each definition over them is at a variable and at a symbol.
use Rattle.std.proofs.Common.{ℕ, ◌+◌, List, [], ◌∷◌, ◌≡◌, sum, map, ap, ◌∙◌, sym, subst, get_or, Bool, true, eqb, IsTrue}
use Rattle.std.proofs.lemmas.Bool.{eqb-true}
use Rattle.std.specs.List.{AllByRecursion}
use Rattle.sc_term.specs.declared.SymId.{SymId}
use Rattle.sc_term.specs.declared.Term.{Term, Var, roll-Term, out-Term, out-roll-Term, fold-Term, fold-roll-Term, ind-Term}
use Rattle.sc_term.specs.declared.Term.TheVariants.{App, rolls-App, rolls-Var}
use Rattle.sc_term.specs.declared.Term.TheOpen.{Term-F}
use Rattle.sc_term.specs.declared.Term.TheOpen as at
use Rattle.sc_term.specs.declared.Term.TheFolds.{claims, map-Term}
use Rattle.sc_term.specs.declared.Term.TheBlock.{the_family, member-Term}
use denote.Hole.Holds.{Such}
use Rattle.sc_term.specs.Term.{largest, term_weight, weight_step, term_depth, depth_step, term_width, width_step, term_instance, instance_step}

-- ---- induction

abbrev Held : (Term → Type 0) → Type 0
Held P = Such the_family (claims P) member-Term

all_held : (P : Term → Type 0) (ys : List (Held P)) → AllByRecursion P (map (λ y. y.0) ys)
all_held P [] = tt
all_held P (y ∷ ys) = (y.1, all_held P ys)

ind_step : (P : Term → Type 0) → ((n : ℕ) → P (Var n)) → ((f : SymId) (xs : List Term) → AllByRecursion P xs → P (App f xs))
    → (x : Term-F Term) (y : Term-F (Held P)) → map-Term (Held P) Term (λ e. e.0) y ≡ x → P (roll-Term x)
ind_step P v a x (at.Var n) e = subst (λ (l : Term-F Term). P (roll-Term l)) e (subst P (sym (rolls-Var n)) (v n))
ind_step P v a x (at.App f ys) e =
    subst (λ (l : Term-F Term). P (roll-Term l)) e (subst P (sym (rolls-App f (map (λ (y : Held P). y.0) ys))) (a f _ (all_held P ys)))

-- what holds of each variable, and of a symbol's term where it holds of the arguments, holds of each term
pub term_ind : (P : Term → Type 0) → ((n : ℕ) → P (Var n)) → ((f : SymId) (xs : List Term) → AllByRecursion P xs → P (App f xs)) → (t : Term) → P t
term_ind P v a t = ind-Term P (λ x y e. ind_step P v a x y e) t

-- ---- one level of a term

pub out-Var : (n : ℕ) → out-Term (Var n) ≡ at.Var n
out-Var n = ap out-Term (sym (rolls-Var n)) ∙ out-roll-Term (at.Var n)

pub out-App : (f : SymId) (xs : List Term) → out-Term (App f xs) ≡ at.App f xs
out-App f xs = ap out-Term (sym (rolls-App f xs)) ∙ out-roll-Term (at.App f xs)

pub App-injective : (f g : SymId) (xs ys : List Term) → App f xs ≡ App g ys → (f ≡ g) × (xs ≡ ys)
App-injective f g xs ys e =
    let level : at.App f xs ≡ at.App g ys = sym (out-App f xs) ∙ ap out-Term e ∙ out-App g ys in
    (cc, cc)

abbrev symbol : ℕ → SymId
symbol n = record { 0 = n }

pub same_symbol : (f g : SymId) → true ≡ eqb f.0 g.0 → f ≡ g
same_symbol f g e = ap symbol (eqb-true f.0 g.0 (sym e))

-- two terms with the same symbol are the same where their arguments are
pub same_apps : (a b : Term) (f g : SymId) (xs ys us vs : List Term) (r : Bool) → a ≡ App f xs → b ≡ App g ys → us ≡ xs → vs ≡ ys
    → true ≡ eqb f.0 g.0 → (IsTrue r → us ≡ vs) × (us ≡ vs → IsTrue r) → (IsTrue r → a ≡ b) × (a ≡ b → IsTrue r)
same_apps a b f g xs ys us vs r ea eb eu ev names same =
    let s : f ≡ g = same_symbol f g names in (
      λ yes. let e : us ≡ vs = same.0 yes in cc,
      λ e. same.1 (let es : xs ≡ ys = (App-injective f g xs ys (sym ea ∙ e ∙ eb)).1 in cc),
    )

-- ---- a fold at a variable and at a symbol

pub fold-Var : (A : Type 0) (step : Term-F A → A) (n : ℕ) → fold-Term A step (Var n) ≡ step (at.Var n)
fold-Var A step n = ap (fold-Term A step) (sym (rolls-Var n)) ∙ fold-roll-Term A step (at.Var n)

pub fold-App : (A : Type 0) (step : Term-F A → A) (f : SymId) (xs : List Term) → fold-Term A step (App f xs) ≡ step (at.App f (map (fold-Term A step) xs))
fold-App A step f xs = ap (fold-Term A step) (sym (rolls-App f xs)) ∙ fold-roll-Term A step (at.App f xs)

pub weight-App : (f : SymId) (xs : List Term) → term_weight (App f xs) ≡ 1 + sum (map term_weight xs)
weight-App f xs = fold-App ℕ weight_step f xs

pub depth-App : (f : SymId) (xs : List Term) → term_depth (App f xs) ≡ 1 + largest (map term_depth xs)
depth-App f xs = fold-App ℕ depth_step f xs

pub width-Var : (n : ℕ) → term_width (Var n) ≡ n + 1
width-Var n = fold-Var ℕ width_step n

pub width-App : (f : SymId) (xs : List Term) → term_width (App f xs) ≡ largest (map term_width xs)
width-App f xs = fold-App ℕ width_step f xs

pub instance-Var : (terms : List Term) (n : ℕ) → term_instance terms (Var n) ≡ get_or terms n (Var n)
instance-Var terms n = fold-Var Term (instance_step terms) n

pub instance-App : (terms : List Term) (f : SymId) (xs : List Term) → term_instance terms (App f xs) ≡ App f (map (term_instance terms) xs)
instance-App terms f xs = fold-App Term (instance_step terms) f xs

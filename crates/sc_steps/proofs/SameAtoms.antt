-- `same_atom` is equality.
use Rattle.std.proofs.Common.{◌≡◌, ◌∙◌, sym, ap, refl, Bool, true, false, ◌&&◌, nat_eq, List, [], ◌∷◌, map}
use Rattle.std.specs.List.{AllByRecursion}
use Rattle.std.proofs.lemmas.Bool.{eq-eqb}
use Rattle.sc_term.specs.declared.Term.{Term, Var, out-Term}
use Rattle.sc_term.specs.declared.Term.TheVariants.{App}
use Rattle.sc_term.specs.declared.Term.TheOpen.{Term-F}
use Rattle.sc_term.specs.declared.Term.TheOpen as at
use Rattle.sc_term.specs.Refuted.{all_same, same_layer, same_term, same_terms, Atom, same_atom}
use Rattle.sc_term.proofs.TermLaws.{term_ind, out-Var, out-App, fold-Var, fold-App, same_symbol}
use Rattle.sc_term.proofs.SameLaws.{equal_terms}

both : (a b : Bool) → (a && b) ≡ true → (a ≡ true) × (b ≡ true)
both true b e = (refl, e)
both false b e = cc

together : (a b : Bool) → a ≡ true → b ≡ true → (a && b) ≡ true
together true b e f = f
together false b e f = e

abbrev step : Term-F (Term → Bool) → Term → Bool
step layer t = same_layer layer (out-Term t)

all_themselves : (ts : List Term) → AllByRecursion (λ t. same_term t t ≡ true) ts → all_same (map same_term ts) ts ≡ true
all_themselves [] h = refl
all_themselves (t ∷ ts) h = together (same_term t t) (all_same (map same_term ts) ts) h.0 (all_themselves ts h.1)

term_itself : (t : Term) → same_term t t ≡ true
term_itself t = term_ind (λ t. same_term t t ≡ true)
    (λ n. ap (λ (f : Term → Bool). f (Var n)) (fold-Var (Term → Bool) step n) ∙ ap (same_layer (at.Var n)) (out-Var n) ∙ eq-eqb n n refl)
    (λ f ts h. ap (λ (g : Term → Bool). g (App f ts)) (fold-App (Term → Bool) step f ts) ∙ ap (same_layer (at.App f (map same_term ts))) (out-App f ts)
    ∙ together (nat_eq f.0 f.0) (all_same (map same_term ts) ts) (eq-eqb f.0 f.0 refl) (all_themselves ts h)) t

terms_themselves : (ts : List Term) → same_terms ts ts ≡ true
terms_themselves [] = refl
terms_themselves (t ∷ ts) = together (same_term t t) (same_terms ts ts) (term_itself t) (terms_themselves ts)

pub same_as_itself : (a : Atom) → same_atom a a ≡ true
same_as_itself a = together (nat_eq a.pred.0 a.pred.0) (same_terms a.args a.args) (eq-eqb a.pred.0 a.pred.0 refl) (terms_themselves a.args)

lists_equal : (ss ts : List Term) → same_terms ss ts ≡ true → ss ≡ ts
lists_equal [] [] e = refl
lists_equal [] (t ∷ ts) e = cc
lists_equal (s ∷ ss) [] e = cc
lists_equal (s ∷ ss) (t ∷ ts) e =
    let h = both (same_term s t) (same_terms ss ts) e in
    let one = equal_terms s t h.0 in
    let rest = lists_equal ss ts h.1 in
    (λ i. one i ∷ rest i)

pub equal_atoms : (a b : Atom) → same_atom a b ≡ true → a ≡ b
equal_atoms a b e =
    let h = both (nat_eq a.pred.0 b.pred.0) (same_terms a.args b.args) e in
    let pred : a.pred ≡ b.pred = same_symbol a.pred b.pred (sym h.0) in
    let args : a.args ≡ b.args = lists_equal a.args b.args h.1 in
    (λ i. record { pred = pred i; args = args i })

-- `same_term` is equality.
use Rattle.std.proofs.Common.{◌≡◌, ◌∙◌, sym, ap, refl, ℕ, Bool, true, false, true≢false, ◌&&◌, List, [], ◌∷◌, map}
use Rattle.std.specs.List.{AllByRecursion}
use Rattle.std.proofs.lemmas.Bool.{eqb-true}
use Rattle.sc_term.specs.declared.SymId.{SymId}
use Rattle.sc_term.specs.declared.Term.{Term, Var, out-Term}
use Rattle.sc_term.specs.declared.Term.TheVariants.{App}
use Rattle.sc_term.specs.declared.Term.TheOpen.{Term-F}
use Rattle.sc_term.specs.declared.Term.TheOpen as at
use Rattle.sc_term.specs.Refuted.{all_same, same_layer, same_term}
use Rattle.sc_term.proofs.TermLaws.{term_ind, out-Var, out-App, fold-Var, fold-App, same_symbol}

abbrev step : Term-F (Term → Bool) → Term → Bool
step layer t = same_layer layer (out-Term t)

both : (a b : Bool) → (a && b) ≡ true → (a ≡ true) × (b ≡ true)
both true b e = (refl, e)
both false b e = cc

at-Var : (m : ℕ) (t : Term) → same_term (Var m) t ≡ same_layer (at.Var m) (out-Term t)
at-Var m t = ap (λ (f : Term → Bool). f t) (fold-Var (Term → Bool) step m)

at-App : (f : SymId) (xs : List Term) (t : Term) → same_term (App f xs) t ≡ same_layer (at.App f (map same_term xs)) (out-Term t)
at-App f xs t = ap (λ (g : Term → Bool). g t) (fold-App (Term → Bool) step f xs)

all_equal : (xs ys : List Term) → AllByRecursion (λ s. (t : Term) → same_term s t ≡ true → s ≡ t) xs → all_same (map same_term xs) ys ≡ true → xs ≡ ys
all_equal [] [] h e = refl
all_equal [] (y ∷ ys) h e = cc
all_equal (x ∷ xs) [] h e = cc
all_equal (x ∷ xs) (y ∷ ys) h e =
    let s = both _ _ e in
    let one = h.0 y s.0 in
    let rest = all_equal xs ys h.1 s.1 in
    (λ j. one j ∷ rest j)

pub equal_terms : (s t : Term) → same_term s t ≡ true → s ≡ t
equal_terms s = term_ind (λ s. (t : Term) → same_term s t ≡ true → s ≡ t)
    (λ m t. term_ind (λ t. same_term (Var m) t ≡ true → Var m ≡ t)
    (λ n e. ap Var (eqb-true m n (sym (ap (same_layer (at.Var m)) (out-Var n)) ∙ sym (at-Var m (Var n)) ∙ e)))
    (λ g ys below e. absurd (true≢false (sym (sym (ap (same_layer (at.Var m)) (out-App g ys)) ∙ sym (at-Var m (App g ys)) ∙ e)))) t)
    (λ f xs below t. term_ind (λ t. same_term (App f xs) t ≡ true → App f xs ≡ t)
    (λ n e. absurd (true≢false (sym (sym (ap (same_layer (at.App f (map same_term xs))) (out-Var n)) ∙ sym (at-App f xs (Var n)) ∙ e))))
    (λ g ys inner e.
    let both_are = both _ _ (sym (ap (same_layer (at.App f (map same_term xs))) (out-App g ys)) ∙ sym (at-App f xs (App g ys)) ∙ e) in
    let names : f ≡ g = same_symbol f g (sym both_are.0) in
    let args : xs ≡ ys = all_equal xs ys below both_are.1 in
    (λ j. App (names j) (args j))) t)
    s

-- Variables of what a substitution makes, and what happens to terms that avoid a variable.
use Rattle.std.proofs.Common.{◌≡◌, ◌≢◌, ◌∙◌, sym, ap, subst, refl, ℕ, Bool, true, false, nat_eq, if◌then◌else◌, List, [], ◌∷◌, ◌++◌, append_assoc, map}
use Rattle.std.proofs.lemmas.Bool.{eqb-true, eqb-false, eq-eqb}
use Rattle.std.specs.List.{AllByRecursion}
use Rattle.sc_term.specs.declared.SymId.{SymId}
use Rattle.sc_term.specs.declared.Term.{Term, Var}
use Rattle.sc_term.specs.declared.Term.TheVariants.{App}
use Rattle.sc_term.specs.Term.{joined, term_under, term_variables}
use Rattle.sc_term.proofs.TermLaws.{term_ind}
use Rattle.sc_term.specs.Substitution.{Substitution}
use Rattle.sc_term.proofs.TermSteps.{under-Var, under-App, variables-Var, variables-App}
use Rattle.sc_term.proofs.SubstitutionLaws.{all_split, all_join, all_of, term_laws}
use Rattle.sc_unify.specs.Bindings.{single, Avoids}

pub all_so : {X : Type 0} (P Q : X → Type 0) → ((x : X) → P x → Q x) → (xs : List X) → AllByRecursion P xs → AllByRecursion Q xs
all_so P Q h [] k = tt
all_so P Q h (x ∷ xs) k = (h x k.0, all_so P Q h xs k.1)

pub compose : (u s : Substitution) (t : Term) → term_under u (term_under s t) ≡ term_under (λ n. term_under u (s n)) t
compose u s t = (term_laws t).compose u s

pub joined_append : (xs ys : List (List ℕ)) → joined (xs ++ ys) ≡ joined xs ++ joined ys
joined_append [] ys = refl
joined_append (x ∷ xs) ys = ap (λ l. x ++ l) (joined_append xs ys) ∙ sym (append_assoc x (joined xs) (joined ys))

pub map_append : {X Y : Type 0} (f : X → Y) (xs ys : List X) → map f (xs ++ ys) ≡ map f xs ++ map f ys
map_append f [] ys = refl
map_append f (x ∷ xs) ys = ap (λ l. f x ∷ l) (map_append f xs ys)

-- the variables of what a substitution makes are those of its values, in order
pub variables_under : (s : Substitution) (t : Term) → term_variables (term_under s t) ≡ joined (map (λ n. term_variables (s n)) (term_variables t))
variables_under s t = term_ind (λ t. term_variables (term_under s t) ≡ joined (map (λ n. term_variables (s n)) (term_variables t)))
    (λ n. ap term_variables (under-Var s n) ∙ sym (nothing (term_variables (s n))) ∙ sym (ap (λ ns. joined (map (λ n. term_variables (s n)) ns)) (variables-Var n)))
    (λ f xs below. ap term_variables (under-App s f xs) ∙ variables-App f (map (term_under s) xs) ∙ each xs below
    ∙ sym (ap (λ ns. joined (map (λ n. term_variables (s n)) ns)) (variables-App f xs)))
    t
  where
    nothing : (xs : List ℕ) → xs ++ [] ≡ xs
    nothing [] = refl
    nothing (x ∷ xs) = ap (λ l. x ∷ l) (nothing xs)

    each : (xs : List Term) → AllByRecursion (λ t. term_variables (term_under s t) ≡ joined (map (λ n. term_variables (s n)) (term_variables t))) xs
        → joined (map term_variables (map (term_under s) xs)) ≡ joined (map (λ n. term_variables (s n)) (joined (map term_variables xs)))
    each [] h = refl
    each (x ∷ xs) h =
        (λ i. h.0 i ++ each xs h.1 i)
        ∙ sym (joined_append (map (λ n. term_variables (s n)) (term_variables x)) (map (λ n. term_variables (s n)) (joined (map term_variables xs))))
        ∙ sym (ap joined (map_append (λ n. term_variables (s n)) (term_variables x) (joined (map term_variables xs))))

-- what holds of the variables of what a substitution makes holds of the variables of its values
pub all_under : (P : ℕ → Type 0) (s : Substitution) (t : Term) → AllByRecursion P (term_variables (term_under s t)) → AllByRecursion (λ n. AllByRecursion P (term_variables (s n))) (term_variables t)
all_under P s t h = parts (term_variables t) (subst (AllByRecursion P) (variables_under s t) h)
  where
    parts : (ns : List ℕ) → AllByRecursion P (joined (map (λ n. term_variables (s n)) ns)) → AllByRecursion (λ n. AllByRecursion P (term_variables (s n))) ns
    parts [] h = tt
    parts (n ∷ ns) h = let both = all_split P (term_variables (s n)) (joined (map (λ n. term_variables (s n)) ns)) h in (both.0, parts ns both.1)

-- and the other way round
pub under_all : (P : ℕ → Type 0) (s : Substitution) (t : Term) → AllByRecursion (λ n. AllByRecursion P (term_variables (s n))) (term_variables t) → AllByRecursion P (term_variables (term_under s t))
under_all P s t h = subst (AllByRecursion P) (sym (variables_under s t)) (parts (term_variables t) h)
  where
    parts : (ns : List ℕ) → AllByRecursion (λ n. AllByRecursion P (term_variables (s n))) ns → AllByRecursion P (joined (map (λ n. term_variables (s n)) ns))
    parts [] h = tt
    parts (n ∷ ns) h = all_join P (term_variables (s n)) (joined (map (λ n. term_variables (s n)) ns)) h.0 (parts ns h.1)

pub at_single : (v : ℕ) (t : Term) → single v t v ≡ t
at_single v t = ap (λ b. if b then t else Var v) (eq-eqb v v refl)

pub beside_single : (v n : ℕ) (t : Term) → n ≢ v → single v t n ≡ Var n
beside_single v n t ne = by (nat_eq v n) refl
  where
    by : (b : Bool) → nat_eq v n ≡ b → single v t n ≡ Var n
    by true e = absurd (ne (sym (eqb-true v n e)))
    by false e = ap (λ b. if b then t else Var n) e

-- a term that avoids the variable stays as it is
pub untouched : (v : ℕ) (w t : Term) → Avoids v t → term_under (single v w) t ≡ t
untouched v w t h =
    let same = all_so (λ n. n ≢ v) (λ n. single v w n ≡ Var n) (λ n ne. beside_single v n w ne) (term_variables t) h in
    (term_laws t).agree (single v w) Var same ∙ (term_laws t).identity

-- the empty case of an implication from cases of a test of numbers
pub same_or_not : {P : Type 0} (m n : ℕ) → (m ≡ n → P) → (n ≢ m → nat_eq m n ≡ false → P) → P
same_or_not {P} m n is isnt = by (nat_eq m n) refl
  where
    by : (b : Bool) → nat_eq m n ≡ b → P
    by true e = is (eqb-true m n e)
    by false e = isnt (λ eq. eqb-false m n e (sym eq)) e

-- Substitutions on terms, literals, clauses and lists of them obey the same laws.
use Rattle.std.proofs.Common.{◌≡◌, ◌∙◌, sym, ap, subst, refl, ℕ, List, [], ◌∷◌, ◌++◌, map}
use Rattle.std.specs.List.{AllByRecursion}
use Rattle.sc_term.specs.declared.SymId.{SymId}
use Rattle.sc_term.specs.declared.Term.{Term, Var}
use Rattle.sc_term.specs.declared.Term.TheVariants.{App}
use Rattle.sc_term.specs.declared.Literal.{Literal}
use Rattle.sc_term.specs.declared.Clause.{Clause}
use Rattle.sc_term.specs.Term.{joined, term_under, term_variables}
use Rattle.sc_term.specs.Clause.{variables}
use Rattle.sc_term.proofs.TermLaws.{term_ind, App-injective}
use Rattle.sc_term.specs.Substitution.{Substitution, literal_under, clause_under}
use Rattle.sc_term.proofs.TermSteps.{under-Var, under-App, variables-Var, variables-App}

pub all_split : {X : Type 0} (P : X → Type 0) (xs ys : List X) → AllByRecursion P (xs ++ ys) → AllByRecursion P xs × AllByRecursion P ys
all_split P [] ys h = (tt, h)
all_split P (x ∷ xs) ys h = let t = all_split P xs ys h.1 in ((h.0, t.0), t.1)

pub all_join : {X : Type 0} (P : X → Type 0) (xs ys : List X) → AllByRecursion P xs → AllByRecursion P ys → AllByRecursion P (xs ++ ys)
all_join P [] ys h k = k
all_join P (x ∷ xs) ys h k = (h.0, all_join P xs ys h.1 k)

pub all_of : {X : Type 0} (P : X → Type 0) → ((x : X) → P x) → (xs : List X) → AllByRecursion P xs
all_of P h [] = tt
all_of P h (x ∷ xs) = (h x, all_of P h xs)

map_append : (g : ℕ → ℕ) (xs ys : List ℕ) → map g (xs ++ ys) ≡ map g xs ++ map g ys
map_append g [] ys = refl
map_append g (x ∷ xs) ys = ap (λ l. g x ∷ l) (map_append g xs ys)

heads : {X : Type 0} (x y : X) (xs ys : List X) → x ∷ xs ≡ y ∷ ys → (x ≡ y) × (xs ≡ ys)
heads x y xs ys e = (cc, cc)

-- what holds of substitutions at x, whose variables are known
pub record LawsAt {X : Type 0} (under : Substitution → X → X) (vars : X → List ℕ) (x : X) : Type 0 where
  pub compose : (u s : Substitution) → under u (under s x) ≡ under (λ n. term_under u (s n)) x
  pub agree : (s u : Substitution) → AllByRecursion (λ n. s n ≡ u n) (vars x) → under s x ≡ under u x
  pub exact : (s u : Substitution) → under s x ≡ under u x → AllByRecursion (λ n. s n ≡ u n) (vars x)
  pub renamed : (s : Substitution) (g : ℕ → ℕ) → AllByRecursion (λ n. s n ≡ Var (g n)) (vars x) → vars (under s x) ≡ map g (vars x)
  pub identity : under Var x ≡ x

pub lift : {X : Type 0} (under : Substitution → X → X) (vars : X → List ℕ) (xs : List X) → AllByRecursion (LawsAt under vars) xs
    → LawsAt (λ s. map (under s)) (λ xs. joined (map vars xs)) xs
lift under vars [] h = record { compose = λ u s. refl; agree = λ s u e. refl; exact = λ s u e. tt; renamed = λ s g e. refl; identity = refl }
lift under vars (x ∷ xs) h =
    let rest = lift under vars xs h.1 in
    record {
      compose = λ u s. λ i. h.0.compose u s i ∷ rest.compose u s i;
      agree = λ s u e. let both = all_split (λ n. s n ≡ u n) (vars x) (joined (map vars xs)) e in λ i. h.0.agree s u both.0 i ∷ rest.agree s u both.1 i;
      exact = λ s u e. let both = heads (under s x) (under u x) (map (under s) xs) (map (under u) xs) e in
          all_join (λ n. s n ≡ u n) (vars x) (joined (map vars xs)) (h.0.exact s u both.0) (rest.exact s u both.1);
      renamed = λ s g e. let both = all_split (λ n. s n ≡ Var (g n)) (vars x) (joined (map vars xs)) e in
          (λ i. h.0.renamed s g both.0 i ++ rest.renamed s g both.1 i) ∙ sym (map_append g (vars x) (joined (map vars xs)));
      identity = λ i. h.0.identity i ∷ rest.identity i;
    }

pub term_laws : (t : Term) → LawsAt term_under term_variables t
term_laws t = term_ind (LawsAt term_under term_variables) at_variable at_symbol t
  where
    at_variable : (n : ℕ) → LawsAt term_under term_variables (Var n)
    at_variable n = record {
      compose = λ u s. ap (term_under u) (under-Var s n) ∙ sym (under-Var (λ m. term_under u (s m)) n);
      agree = λ s u e. under-Var s n ∙ (subst (AllByRecursion (λ m. s m ≡ u m)) (variables-Var n) e).0 ∙ sym (under-Var u n);
      exact = λ s u e. subst (AllByRecursion (λ m. s m ≡ u m)) (sym (variables-Var n)) (sym (under-Var s n) ∙ e ∙ under-Var u n, tt);
      renamed = λ s g e. ap term_variables (under-Var s n ∙ (subst (AllByRecursion (λ m. s m ≡ Var (g m))) (variables-Var n) e).0) ∙ variables-Var (g n) ∙ sym (ap (map g) (variables-Var n));
      identity = under-Var Var n;
    }

    at_symbol : (f : SymId) (xs : List Term) → AllByRecursion (LawsAt term_under term_variables) xs → LawsAt term_under term_variables (App f xs)
    at_symbol f xs h =
        let l = lift term_under term_variables xs h in
        record {
          compose = λ u s. ap (term_under u) (under-App s f xs) ∙ under-App u f (map (term_under s) xs) ∙ ap (App f) (l.compose u s) ∙ sym (under-App (λ m. term_under u (s m)) f xs);
          agree = λ s u e. under-App s f xs ∙ ap (App f) (l.agree s u (subst (AllByRecursion (λ m. s m ≡ u m)) (variables-App f xs) e)) ∙ sym (under-App u f xs);
          exact = λ s u e. subst (AllByRecursion (λ m. s m ≡ u m)) (sym (variables-App f xs))
              (l.exact s u (App-injective f f (map (term_under s) xs) (map (term_under u) xs) (sym (under-App s f xs) ∙ e ∙ under-App u f xs)).1);
          renamed = λ s g e. ap term_variables (under-App s f xs) ∙ variables-App f (map (term_under s) xs)
              ∙ l.renamed s g (subst (AllByRecursion (λ m. s m ≡ Var (g m))) (variables-App f xs) e) ∙ sym (ap (map g) (variables-App f xs));
          identity = under-App Var f xs ∙ ap (App f) l.identity;
        }

abbrev pub literal_variables : Literal → List ℕ
literal_variables l = joined (map term_variables l.args)

pub literal_laws : (l : Literal) → LawsAt literal_under literal_variables l
literal_laws l =
    let args = lift term_under term_variables l.args (all_of (LawsAt term_under term_variables) term_laws l.args) in
    record {
      compose = λ u s. ap (λ ts. record l { args = ts }) (args.compose u s);
      agree = λ s u e. ap (λ ts. record l { args = ts }) (args.agree s u e);
      exact = λ s u e. args.exact s u (ap (λ (m : Literal). m.args) e);
      renamed = λ s g e. args.renamed s g e;
      identity = ap (λ ts. record l { args = ts }) args.identity;
    }

pub clause_laws : (c : Clause) → LawsAt clause_under variables c
clause_laws c =
    let literals = lift literal_under literal_variables c.literals (all_of (LawsAt literal_under literal_variables) literal_laws c.literals) in
    record {
      compose = λ u s. ap (λ ls. record { literals = ls }) (literals.compose u s);
      agree = λ s u e. ap (λ ls. record { literals = ls }) (literals.agree s u e);
      exact = λ s u e. literals.exact s u (ap (λ (d : Clause). d.literals) e);
      renamed = λ s g e. literals.renamed s g e;
      identity = ap (λ ls. record { literals = ls }) literals.identity;
    }

pub clauses_laws : (cs : List Clause) → LawsAt (λ s. map (clause_under s)) (λ cs. joined (map variables cs)) cs
clauses_laws cs = lift clause_under variables cs (all_of (LawsAt clause_under variables) clause_laws cs)

-- A binding more: the finished substitution stays the one that the bindings have in common.
use Rattle.std.proofs.Common.{◌≡◌, ◌≢◌, ◌∙◌, sym, ap, subst, refl, ℕ, Bool, true, false, nat_eq, if◌then◌else◌, List, [], ◌∷◌, ◌++◌, map, Option, None, Some, MatchOption}
use Rattle.std.proofs.lemmas.Bool.{eqb-true, eqb-false, eq-eqb}
use Rattle.std.proofs.lemmas.List.Sums.{fold-append}
use Rattle.std.specs.List.{AllByRecursion, fold}
use Rattle.sc_term.specs.declared.SymId.{SymId}
use Rattle.sc_term.specs.declared.Term.{Term, Var}
use Rattle.sc_term.specs.declared.Term.TheVariants.{App}
use Rattle.sc_term.specs.Term.{joined, term_under, term_variables}
use Rattle.sc_term.specs.Substitution.{Substitution}
use Rattle.sc_term.proofs.TermSteps.{under-Var, under-App, variables-Var, variables-App}
use Rattle.sc_term.proofs.SubstitutionLaws.{all_split, all_join}
use Rattle.sc_unify.specs.declared.bound.Binding.{Binding}
use Rattle.sc_unify.specs.Bindings.{lookup, single, mark, bind_step, finished, marked, Avoids, Respects, IsFixed, AreSolvedBy, AreSolved}
use Rattle.sc_unify.proofs.TermFacts.{all_so, compose, variables_under, at_single, beside_single, untouched, same_or_not}

pub lookup-more : (bs : List Binding) (b : Binding) (n : ℕ) → MatchOption (lookup bs n) (lookup (bs ++ b ∷ []) n ≡ (if nat_eq b.variable n then Some b.term else None)) (λ t. lookup (bs ++ b ∷ []) n ≡ Some t)
lookup-more [] b n = refl
lookup-more (x ∷ xs) b n = by (nat_eq x.variable n) (lookup-more xs b n)
  where
    by : (is : Bool) → MatchOption (lookup xs n) (lookup (xs ++ b ∷ []) n ≡ (if nat_eq b.variable n then Some b.term else None)) (λ t. lookup (xs ++ b ∷ []) n ≡ Some t)
        → MatchOption (if is then Some x.term else lookup xs n) ((if is then Some x.term else lookup (xs ++ b ∷ []) n) ≡ (if nat_eq b.variable n then Some b.term else None)) (λ t. (if is then Some x.term else lookup (xs ++ b ∷ []) n) ≡ Some t)
    by true h = refl
    by false h = h

-- wrapping that leaves variables alone
record Wraps (wrap : Term → Term) : Type 0 where
  inside : (u : Substitution) (t : Term) → term_under u (wrap t) ≡ wrap (term_under u t)
  same : (t : Term) → term_variables (wrap t) ≡ term_variables t

plain : Wraps (λ t. t)
plain = record { inside = λ u t. refl; same = λ t. refl }

nothing : (xs : List ℕ) → xs ++ [] ≡ xs
nothing [] = refl
nothing (x ∷ xs) = ap (λ l. x ∷ l) (nothing xs)

with_mark : Wraps mark
with_mark = record {
  inside = λ u t. under-App u (record { 0 = 0 }) (t ∷ []);
  same = λ t. variables-App (record { 0 = 0 }) (t ∷ []) ∙ nothing (term_variables t);
}

module _ (wrap : Term → Term) (is : Wraps wrap) (bs : List Binding) (s : Substitution) (b : Binding) where
  abbrev v : ℕ
  v = b.variable

  abbrev t : Term
  t = b.term

  abbrev more : Substitution
  more = bind_step wrap s b

  at_new : s v ≡ Var v → Avoids v (term_under s t) → more v ≡ wrap (term_under more t)
  at_new free avoids =
      ap (term_under (single v (wrap (term_under s t)))) free ∙ under-Var (single v (wrap (term_under s t))) v ∙ at_single v (wrap (term_under s t))
      ∙ ap wrap (sym (untouched v (wrap (term_under s t)) (term_under s t) avoids) ∙ compose (single v (wrap (term_under s t))) s t)

  at_old : (n : ℕ) (r : Term) → s n ≡ wrap (term_under s r) → more n ≡ wrap (term_under more r)
  at_old n r e =
      ap (term_under (single v (wrap (term_under s t)))) e ∙ is.inside (single v (wrap (term_under s t))) (term_under s r)
      ∙ ap wrap (compose (single v (wrap (term_under s t))) s r)

  at_free : (n : ℕ) → n ≢ v → s n ≡ Var n → more n ≡ Var n
  at_free n ne e = ap (term_under (single v (wrap (term_under s t)))) e ∙ under-Var (single v (wrap (term_under s t))) n ∙ beside_single v n (wrap (term_under s t)) ne

  abbrev At : Option Term → ℕ → Type 0
  At o n = MatchOption o (more n ≡ Var n) (λ r. more n ≡ wrap (term_under more r))

  fixed_more : IsFixed wrap s bs → lookup bs v ≡ None → Avoids v (term_under s t) → IsFixed wrap more (bs ++ b ∷ [])
  fixed_more fixed free avoids n = by (lookup bs n) refl (fixed n) (lookup-more bs b n)
    where
      free_at : s v ≡ Var v
      free_at = subst (λ o. MatchOption o (s v ≡ Var v) (λ r. s v ≡ wrap (term_under s r))) free (fixed v)

      by : (o : Option Term) → lookup bs n ≡ o → MatchOption o (s n ≡ Var n) (λ r. s n ≡ wrap (term_under s r))
          → MatchOption o (lookup (bs ++ b ∷ []) n ≡ (if nat_eq v n then Some t else None)) (λ r. lookup (bs ++ b ∷ []) n ≡ Some r)
          → At (lookup (bs ++ b ∷ []) n) n
      by (Some r) o e found = subst (λ o. At o n) (sym found) (at_old n r e)
      by None o e found = same_or_not v n
          (λ same. subst (λ o. At o n) (sym (found ∙ ap (λ q. if q then Some t else None) (eq-eqb v n same)))
          (subst (λ k. more k ≡ wrap (term_under more t)) same (at_new free_at avoids)))
          (λ ne differ. subst (λ o. At o n) (sym (found ∙ ap (λ q. if q then Some t else None) differ)) (at_free n ne e))

respected_more : (bs : List Binding) (s : Substitution) (b : Binding) → Respects s bs → s b.variable ≡ Var b.variable → Avoids b.variable (term_under s b.term)
    → Respects (bind_step (λ t. t) s b) (bs ++ b ∷ [])
respected_more bs s b h free avoids =
    all_join (λ (c : Binding). bind_step (λ t. t) s b c.variable ≡ term_under (bind_step (λ t. t) s b) c.term) bs (b ∷ [])
    (all_so (λ (c : Binding). s c.variable ≡ term_under s c.term) (λ (c : Binding). bind_step (λ t. t) s b c.variable ≡ term_under (bind_step (λ t. t) s b) c.term)
    (λ c e. at_old (λ t. t) plain bs s b c.variable c.term e) bs h)
    (at_new (λ t. t) plain bs s b free avoids, tt)

general_more : (bs : List Binding) (s : Substitution) (b : Binding) → ((u : Substitution) → Respects u bs → (n : ℕ) → u n ≡ term_under u (s n))
    → (u : Substitution) → Respects u (bs ++ b ∷ []) → (n : ℕ) → u n ≡ term_under u (bind_step (λ t. t) s b n)
general_more bs s b general u h n =
    before n ∙ sym (compose u (single b.variable (term_under s b.term)) (s n) ∙ ap (λ w. term_under w (s n)) (λ i k. at k i))
  where
    both : Respects u bs × Respects u (b ∷ [])
    both = all_split (λ (c : Binding). u c.variable ≡ term_under u c.term) bs (b ∷ []) h

    before : (n : ℕ) → u n ≡ term_under u (s n)
    before = general u both.0

    at : (k : ℕ) → term_under u (single b.variable (term_under s b.term) k) ≡ u k
    at k = same_or_not b.variable k
        (λ same. subst (λ k. term_under u (single b.variable (term_under s b.term) k) ≡ u k) same
        (ap (term_under u) (at_single b.variable (term_under s b.term)) ∙ compose u s b.term ∙ ap (λ w. term_under w b.term) (λ i j. sym (before j) i) ∙ sym both.1.0))
        (λ ne differ. ap (term_under u) (beside_single b.variable k (term_under s b.term) ne) ∙ under-Var u k)

alike_more : (s m : Substitution) (b : Binding) → ((n : ℕ) → term_variables (s n) ≡ term_variables (m n))
    → (n : ℕ) → term_variables (bind_step (λ t. t) s b n) ≡ term_variables (bind_step mark m b n)
alike_more s m b alike n =
    variables_under (single b.variable (term_under s b.term)) (s n)
    ∙ (λ i. joined (map (λ k. at k i) (alike n i)))
    ∙ sym (variables_under (single b.variable (mark (term_under m b.term))) (m n))
  where
    terms : term_variables (term_under s b.term) ≡ term_variables (mark (term_under m b.term))
    terms = variables_under s b.term ∙ (λ i. joined (map (λ k. alike k i) (term_variables b.term))) ∙ sym (variables_under m b.term) ∙ sym (with_mark.same (term_under m b.term))

    at : (k : ℕ) → term_variables (single b.variable (term_under s b.term) k) ≡ term_variables (single b.variable (mark (term_under m b.term)) k)
    at k = by (nat_eq b.variable k)
      where
        by : (q : Bool) → term_variables (if q then term_under s b.term else Var k) ≡ term_variables (if q then mark (term_under m b.term) else Var k)
        by true = terms
        by false = refl

pub free_stays : (bs : List Binding) → AreSolved bs → (v : ℕ) → lookup bs v ≡ None → finished bs v ≡ Var v
free_stays bs is v free = subst (λ o. MatchOption o (finished bs v ≡ Var v) (λ r. finished bs v ≡ term_under (finished bs) r)) free (is.fixed v)

pub solved-empty : AreSolved []
unfolding finished marked
solved-empty = record {
  fixed = λ n. refl;
  respected = tt;
  general = λ u h n. sym (under-Var u n);
  counted = λ n. refl;
  alike = λ n. refl;
}

pub finished-more : (bs : List Binding) (b : Binding) → finished (bs ++ b ∷ []) ≡ bind_step (λ t. t) (finished bs) b
unfolding finished
finished-more bs b = fold-append (bind_step (λ t. t)) Var bs (b ∷ [])

marked-more : (bs : List Binding) (b : Binding) → marked (bs ++ b ∷ []) ≡ bind_step mark (marked bs) b
unfolding marked
marked-more bs b = fold-append (bind_step mark) Var bs (b ∷ [])

-- a free variable may be bound to a term that doesn't come to have it
pub solved-more : (bs : List Binding) (b : Binding) → AreSolved bs → lookup bs b.variable ≡ None → Avoids b.variable (term_under (finished bs) b.term) → AreSolved (bs ++ b ∷ [])
solved-more bs b is free avoids =
    subst (λ s. AreSolvedBy (bs ++ b ∷ []) s (marked (bs ++ b ∷ []))) (sym (finished-more bs b))
    (subst (λ m. AreSolvedBy (bs ++ b ∷ []) (bind_step (λ t. t) (finished bs) b) m) (sym (marked-more bs b)) step)
  where
    avoids_marked : Avoids b.variable (term_under (marked bs) b.term)
    avoids_marked = subst (AllByRecursion (λ n. n ≢ b.variable))
        (variables_under (finished bs) b.term ∙ (λ i. joined (map (λ k. is.alike k i) (term_variables b.term))) ∙ sym (variables_under (marked bs) b.term)) avoids

    step : AreSolvedBy (bs ++ b ∷ []) (bind_step (λ t. t) (finished bs) b) (bind_step mark (marked bs) b)
    step = record {
      fixed = fixed_more (λ t. t) plain bs (finished bs) b is.fixed free avoids;
      respected = respected_more bs (finished bs) b is.respected (free_stays bs is b.variable free) avoids;
      general = general_more bs (finished bs) b is.general;
      counted = fixed_more mark with_mark bs (marked bs) b is.counted free avoids_marked;
      alike = alike_more (finished bs) (marked bs) b is.alike;
    }

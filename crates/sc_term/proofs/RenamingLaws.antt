-- Clauses that are instances of each other have one numbering by first occurrence. So the joint instance doesn't
-- depend on the most general unifier.
use Rattle.std.proofs.Common.{◌≡◌, ◌∙◌, sym, ap, refl, ℕ, ◌+◌, Bool, true, false, not, ◌||◌, nat_eq, if◌then◌else◌, List, [], ◌∷◌, map}
use Rattle.std.proofs.lemmas.Bool.{eqb-true, eqb-false}
use Rattle.std.specs.List.{AllByRecursion, list_any, position_or_len}
use Rattle.sc_term.specs.declared.SymId.{SymId}
use Rattle.sc_term.specs.declared.Term.{Term, Var, fold-Term}
use Rattle.sc_term.specs.declared.Term.TheVariants.{App}
use Rattle.sc_term.specs.declared.Term.TheOpen.{Term-F}
use Rattle.sc_term.specs.declared.Term.TheOpen as at
use Rattle.sc_term.specs.declared.Clause.{Clause}
use Rattle.sc_term.specs.Term.{joined, term_under}
use Rattle.sc_term.specs.Clause.{variables, firsts, firsts_after}
use Rattle.sc_term.proofs.TermLaws.{term_ind, fold-Var}
use Rattle.sc_term.specs.Substitution.{Substitution, clause_under}
use Rattle.sc_term.specs.JointInstance.{apart, renumbering, renumbered, JointInstanceIsOne}
use Rattle.sc_term.proofs.TermSteps.{under-Var, under-App}
use Rattle.sc_term.proofs.SubstitutionLaws.{clauses_laws}

all_so : {X : Type 0} (P Q : X → Type 0) → ((x : X) → P x → Q x) → (xs : List X) → AllByRecursion P xs → AllByRecursion Q xs
all_so P Q h [] k = tt
all_so P Q h (x ∷ xs) k = (h x k.0, all_so P Q h xs k.1)

-- ---- numbers that are renamed

module _ (g back : ℕ → ℕ) where
  abbrev Undone : ℕ → Type 0
  Undone n = back (g n) ≡ n

  same_test : (m n : ℕ) → Undone m → Undone n → nat_eq (g m) (g n) ≡ nat_eq m n
  same_test m n h k = by (nat_eq (g m) (g n)) (nat_eq m n) refl refl
    where
      by : (a b : Bool) → nat_eq (g m) (g n) ≡ a → nat_eq m n ≡ b → nat_eq (g m) (g n) ≡ nat_eq m n
      by true true e f = e ∙ sym f
      by false false e f = e ∙ sym f
      by true false e f = absurd (eqb-false m n f (sym h ∙ ap back (eqb-true (g m) (g n) e) ∙ k))
      by false true e f = absurd (eqb-false (g m) (g n) e (ap g (eqb-true m n f)))

  any_map : (n : ℕ) (seen : List ℕ) → Undone n → AllByRecursion Undone seen → list_any (nat_eq (g n)) (map g seen) ≡ list_any (nat_eq n) seen
  any_map n [] h k = refl
  any_map n (m ∷ ms) h k = λ i. same_test n m h k.0 i || any_map n ms h k.1 i

  firsts_map : (seen ns : List ℕ) → AllByRecursion Undone seen → AllByRecursion Undone ns → firsts_after (map g seen) (map g ns) ≡ map g (firsts_after seen ns)
  firsts_map seen [] h k = refl
  firsts_map seen (n ∷ ns) h k =
      ap (λ b. if b then firsts_after (map g seen) (map g ns) else g n ∷ firsts_after (map g (n ∷ seen)) (map g ns)) (any_map n seen k.0 h)
      ∙ by (list_any (nat_eq n) seen) (firsts_map seen ns h k.1) (firsts_map (n ∷ seen) ns (k.0, h) k.1)
    where
      by : (b : Bool) → firsts_after (map g seen) (map g ns) ≡ map g (firsts_after seen ns)
          → firsts_after (map g (n ∷ seen)) (map g ns) ≡ map g (firsts_after (n ∷ seen) ns)
          → (if b then firsts_after (map g seen) (map g ns) else g n ∷ firsts_after (map g (n ∷ seen)) (map g ns)) ≡ map g (if b then firsts_after seen ns else n ∷ firsts_after (n ∷ seen) ns)
      by true e f = e
      by false e f = ap (λ l. g n ∷ l) f

  position_map : (n : ℕ) (order : List ℕ) → Undone n → AllByRecursion Undone order → position_or_len (nat_eq (g n)) (map g order) ≡ position_or_len (nat_eq n) order
  position_map n [] h k = refl
  position_map n (m ∷ ms) h k = λ i. if not (same_test n m h k.0 i) then 1 + position_map n ms h k.1 i else 0

firsts_within : (P : ℕ → Type 0) (seen ns : List ℕ) → AllByRecursion P ns → AllByRecursion P (firsts_after seen ns)
firsts_within P seen [] h = tt
firsts_within P seen (n ∷ ns) h = by (list_any (nat_eq n) seen) (firsts_within P seen ns h.1) (firsts_within P (n ∷ seen) ns h.1)
  where
    by : (b : Bool) → AllByRecursion P (firsts_after seen ns) → AllByRecursion P (firsts_after (n ∷ seen) ns) → AllByRecursion P (if b then firsts_after seen ns else n ∷ firsts_after (n ∷ seen) ns)
    by true e f = e
    by false e f = (h.0, f)

-- ---- terms that become variables

abbrev number_step : Term-F ℕ → ℕ
number_step (at.Var n) = n
number_step (at.App f ns) = 0

abbrev number : Term → ℕ
number = fold-Term ℕ number_step

number-Var : (n : ℕ) → number (Var n) ≡ n
number-Var n = fold-Var ℕ number_step n

-- a term that becomes a variable is one
was_variable : (r : Substitution) (n : ℕ) (t : Term) → term_under r t ≡ Var n → t ≡ Var (number t)
was_variable r n t = term_ind (λ t. term_under r t ≡ Var n → t ≡ Var (number t)) (λ m e. ap Var (sym (number-Var m))) at_symbol t
  where
    at_symbol : (f : SymId) (xs : List Term) → AllByRecursion (λ t. term_under r t ≡ Var n → t ≡ Var (number t)) xs → term_under r (App f xs) ≡ Var n → App f xs ≡ Var (number (App f xs))
    at_symbol f xs h e = let bad : App f (map (term_under r) xs) ≡ Var n = sym (under-App r f xs) ∙ e in cc

-- ---- clauses that are instances of each other

abbrev all_variables : List Clause → List ℕ
all_variables cs = joined (map variables cs)

module _ (cs ds : List Clause) (q r : Substitution) (there : ds ≡ map (clause_under q) cs) (home : cs ≡ map (clause_under r) ds) where
  abbrev g : ℕ → ℕ
  g n = number (q n)

  abbrev back : ℕ → ℕ
  back n = number (r n)

  abbrev IsRenamed : ℕ → Type 0
  IsRenamed n = (q n ≡ Var (g n)) × (back (g n) ≡ n)

  returns : AllByRecursion (λ n. term_under r (q n) ≡ Var n) (all_variables cs)
  returns = (clauses_laws cs).exact (λ n. term_under r (q n)) Var
      (sym ((clauses_laws cs).compose r q) ∙ sym (ap (map (clause_under r)) there) ∙ sym home ∙ sym (clauses_laws cs).identity)

  renamed_at : (n : ℕ) → term_under r (q n) ≡ Var n → IsRenamed n
  renamed_at n e =
      let v : q n ≡ Var (g n) = was_variable r n (q n) e in
      (v, ap number (sym (under-Var r (g n)) ∙ sym (ap (term_under r) v) ∙ e) ∙ number-Var n)

  renamed : AllByRecursion IsRenamed (all_variables cs)
  renamed = all_so (λ n. term_under r (q n) ≡ Var n) IsRenamed renamed_at (all_variables cs) returns

  undone : AllByRecursion (λ n. back (g n) ≡ n) (all_variables cs)
  undone = all_so IsRenamed (λ n. back (g n) ≡ n) (λ n h. h.1) (all_variables cs) renamed

  order_there : firsts (all_variables ds) ≡ map g (firsts (all_variables cs))
  order_there =
      ap (λ es. firsts (all_variables es)) there
      ∙ ap firsts ((clauses_laws cs).renamed q g (all_so IsRenamed (λ n. q n ≡ Var (g n)) (λ n h. h.0) (all_variables cs) renamed))
      ∙ firsts_map g back [] (all_variables cs) tt undone

  numbered_so : (n : ℕ) → IsRenamed n → term_under (renumbering (map g (firsts (all_variables cs)))) (q n) ≡ renumbering (firsts (all_variables cs)) n
  numbered_so n h =
      ap (term_under (renumbering (map g (firsts (all_variables cs))))) h.0
      ∙ under-Var (renumbering (map g (firsts (all_variables cs)))) (g n)
      ∙ ap Var (position_map g back n (firsts (all_variables cs)) h.1 (firsts_within (λ n. back (g n) ≡ n) [] (all_variables cs) undone))

  same_numbering : renumbered ds ≡ renumbered cs
  same_numbering =
      ap (λ order. map (clause_under (renumbering order)) ds) order_there
      ∙ ap (map (clause_under (renumbering (map g (firsts (all_variables cs)))))) there
      ∙ (clauses_laws cs).compose (renumbering (map g (firsts (all_variables cs)))) q
      ∙ (clauses_laws cs).agree (λ n. term_under (renumbering (map g (firsts (all_variables cs)))) (q n)) (renumbering (firsts (all_variables cs)))
      (all_so IsRenamed (λ n. term_under (renumbering (map g (firsts (all_variables cs)))) (q n) ≡ renumbering (firsts (all_variables cs)) n) numbered_so (all_variables cs) renamed)

-- ---- the joint instance

-- clauses under a substitution and under an instance of it
further : (s t q : Substitution) (cs : List Clause) → ((n : ℕ) → t n ≡ term_under q (s n)) → map (clause_under t) cs ≡ map (clause_under q) (map (clause_under s) cs)
further s t q cs e = ap (λ u. map (clause_under u) cs) (λ i n. e n i) ∙ sym ((clauses_laws cs).compose q s)

pub joint_instance_is_one : JointInstanceIsOne
joint_instance_is_one parents pairs parts others one two =
    let s = one.0 in
    let t = two.0 in
    let to = one.1.general t two.1.unifies in
    let from = two.1.general s one.1.unifies in
    let same = same_numbering (map (clause_under s) (apart parents)) (map (clause_under t) (apart parents)) to.0 from.0 (further s t to.0 (apart parents) to.1) (further t s from.0 (apart parents) from.1) in
    one.2 ∙ sym same ∙ sym two.2

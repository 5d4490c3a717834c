-- Refuted clauses aren't all true in an interpretation: of the atoms of the refutation's members take those that hold
-- where every variable is one fixed element. No member is false in that valuation, since each holds there.
use Rattle.std.proofs.Common.{◌≡◌, ◌∙◌, sym, ap, subst, refl, ℕ, Bool, true, false, true≢false, not, ◌&&◌, ◌||◌, inl, inr, if◌then◌else◌, nat_eq, List, [], ◌∷◌, ◌++◌, map, get_or, cond}
use Rattle.std.specs.List.{All, AllByRecursion, list_any, list_all, filter}
use Rattle.std.proofs.lemmas.Bool.{eqb-true, eq-eqb}
use Rattle.std.proofs.lemmas.Option.{slice_get_within, get_or_from_slice_get}
use Rattle.std.proofs.lemmas.List.Elements.{All-nil, All-cons}
use Rattle.sc_term.specs.declared.SymId.{SymId}
use Rattle.sc_term.specs.declared.Term.{Term}
use Rattle.sc_term.specs.declared.Literal.{Literal}
use Rattle.sc_term.specs.declared.Clause.{Clause}
use Rattle.sc_term.specs.Term.{value_of, term_instance}
use Rattle.sc_term.specs.Clause.{literal_instance}
use Rattle.sc_term.specs.Interpretation.{Meaning, Assignment, value_step, value, atom_holds, literal_holds, IsTrueIn}
use Rattle.sc_term.specs.Refuted.{Atom, same_atom, atom_of, is_true_in, is_false_literal, is_false_clause, IsEqualityAxiom, IsMember, IsRefuted}
use Rattle.sc_term.proofs.TermLaws.{term_ind, fold-Var, fold-App, instance-Var, instance-App}
use Rattle.sc_steps.proofs.SameAtoms.{equal_atoms, same_as_itself}

-- ---- truth values

implied : (a b : Bool) → (a ≡ true → b ≡ true) → (not a || b) ≡ true
implied true b h = h refl
implied false b h = refl

or_right : (a b : Bool) → b ≡ true → (a || b) ≡ true
or_right true b e = refl
or_right false b e = e

and_false : (a b : Bool) → b ≡ false → (a && b) ≡ false
and_false true b e = e
and_false false b e = refl

-- ---- terms and clauses under an assignment

module _ (meaning : Meaning) where
  -- the assignment that gives each variable the value of its term
  abbrev after : Assignment → List Term → Assignment
  after a terms n = value meaning a (value_of terms n)

  abbrev IsAfter : Assignment → List Term → Term → Type 0
  IsAfter a terms t = value meaning a (term_instance terms t) ≡ value meaning (after a terms) t

  values_after : (a : Assignment) (terms ts : List Term) → AllByRecursion (IsAfter a terms) ts
      → map (value meaning a) (map (term_instance terms) ts) ≡ map (value meaning (after a terms)) ts
  values_after a terms [] h = refl
  values_after a terms (t ∷ ts) h = λ i. h.0 i ∷ values_after a terms ts h.1 i

  value_after : (a : Assignment) (terms : List Term) (t : Term) → IsAfter a terms t
  value_after a terms t = term_ind (IsAfter a terms)
      (λ n. ap (value meaning a) (instance-Var terms n) ∙ sym (fold-Var ℕ (value_step meaning (after a terms)) n))
      (λ f ts h. ap (value meaning a) (instance-App terms f ts) ∙ fold-App ℕ (value_step meaning a) f (map (term_instance terms) ts)
      ∙ ap (meaning.function f) (values_after a terms ts h) ∙ sym (fold-App ℕ (value_step meaning (after a terms)) f ts))
      t

  all_after : (a : Assignment) (terms ts : List Term) → AllByRecursion (IsAfter a terms) ts
  all_after a terms [] = tt
  all_after a terms (t ∷ ts) = (value_after a terms t, all_after a terms ts)

  literal_after : (a : Assignment) (terms : List Term) (l : Literal) → literal_holds meaning a (literal_instance terms l) ≡ literal_holds meaning (after a terms) l
  literal_after a terms l =
      ap (λ values. if l.positive then atom_holds meaning l.pred values else not (atom_holds meaning l.pred values))
      (values_after a terms l.args (all_after a terms l.args))

  literals_after : (a : Assignment) (terms : List Term) (ls : List Literal)
      → list_any (literal_holds meaning a) (map (literal_instance terms) ls) ≡ list_any (literal_holds meaning (after a terms)) ls
  literals_after a terms [] = refl
  literals_after a terms (l ∷ ls) = λ i. literal_after a terms l i || literals_after a terms ls i

  -- ---- equality axioms

  -- one term in place of another of the same value
  replaced : (a : Assignment) (s t : Term) (before after : List Term) → value meaning a s ≡ value meaning a t
      → map (value meaning a) (before ++ s ∷ after) ≡ map (value meaning a) (before ++ t ∷ after)
  replaced a s t [] after e = λ i. e i ∷ map (value meaning a) after
  replaced a s t (u ∷ us) after e = ap (λ l. value meaning a u ∷ l) (replaced a s t us after e)

  equal_values : (a : Assignment) (s t : Term) → nat_eq (value meaning a s) (value meaning a t) ≡ true → value meaning a s ≡ value meaning a t
  equal_values a s t e = eqb-true (value meaning a s) (value meaning a t) e

  axiom_holds : (a : Assignment) (c : Clause) → IsEqualityAxiom c → list_any (literal_holds meaning a) c.literals ≡ true
  axiom_holds a c (inl (t, e)) =
      ap (list_any (literal_holds meaning a)) e ∙ ap (λ b. b || false) (eq-eqb (value meaning a t) (value meaning a t) refl)
  axiom_holds a c (inr (inl (f, s, t, before, after, e))) =
      ap (list_any (literal_holds meaning a)) e ∙ implied (nat_eq (value meaning a s) (value meaning a t)) _
      (λ same. ap (λ b. b || false) (eq-eqb _ _ (fold-App ℕ (value_step meaning a) f (before ++ s ∷ after)
      ∙ ap (meaning.function f) (replaced a s t before after (equal_values a s t same)) ∙ sym (fold-App ℕ (value_step meaning a) f (before ++ t ∷ after)))))
  axiom_holds a c (inr (inr (p, s, t, before, after, e))) =
      ap (list_any (literal_holds meaning a)) e ∙ implied (nat_eq (value meaning a s) (value meaning a t)) _
      (λ same. implied (atom_holds meaning p (map (value meaning a) (before ++ s ∷ after))) _
      (λ here. ap (λ b. b || false) (sym (ap (atom_holds meaning p) (replaced a s t before after (equal_values a s t same))) ∙ here)))

-- ---- an interpretation

module _ (IsElement : ℕ → Type 0) (meaning : Meaning) (element : ℕ) (element_is : IsElement element)
    (closed : (f : SymId) (values : List ℕ) → All IsElement values → IsElement (meaning.function f values)) where
  -- every variable is the one element
  abbrev fixed : Assignment
  fixed n = element

  values_are : (ts : List Term) → AllByRecursion (λ t. IsElement (value meaning fixed t)) ts → All IsElement (map (value meaning fixed) ts)
  values_are [] h = All-nil IsElement
  values_are (t ∷ ts) h = All-cons IsElement (value meaning fixed t) (map (value meaning fixed) ts) h.0 (values_are ts h.1)

  value_is : (t : Term) → IsElement (value meaning fixed t)
  value_is t = term_ind (λ t. IsElement (value meaning fixed t))
      (λ n. subst IsElement (sym (fold-Var ℕ (value_step meaning fixed) n)) element_is)
      (λ f ts h. subst IsElement (sym (fold-App ℕ (value_step meaning fixed) f ts)) (closed f (map (value meaning fixed) ts) (values_are ts h)))
      t

  Holds : Clause → Type 0
  Holds c = list_any (literal_holds meaning fixed) c.literals ≡ true

  member_holds : (inputs : List Clause) (c : Clause) → All (IsTrueIn IsElement meaning) inputs → IsMember inputs c
      → list_any (literal_holds meaning fixed) c.literals ≡ true
  member_holds inputs c all (inl (i, input, terms, at, e)) =
      let is : get_or inputs i input ≡ input = get_or_from_slice_get inputs i input input at in
      let input_is : IsTrueIn IsElement meaning input = subst (IsTrueIn IsElement meaning) is (all i input (slice_get_within inputs i input at)) in
      ap (λ (d : Clause). list_any (literal_holds meaning fixed) d.literals) e ∙ literals_after meaning fixed terms input.literals
      ∙ input_is (after meaning fixed terms) (λ n. value_is (value_of terms n))
  member_holds inputs c all (inr is) = axiom_holds meaning fixed c is

-- ---- the valuation

module _ (meaning : Meaning) (a : Assignment) where
  abbrev is_true : Atom → Bool
  is_true atom = atom_holds meaning atom.pred (map (value meaning a) atom.args)

  only_true : (atoms : List Atom) (atom : Atom) → is_true_in (filter is_true atoms) atom ≡ true → is_true atom ≡ true
  only_true [] atom e = cc
  only_true (b ∷ bs) atom e = by (is_true b) refl (only_true bs atom)
    where
      here : (x : Bool) → same_atom atom b ≡ x → is_true b ≡ true → (is_true_in (filter is_true bs) atom ≡ true → is_true atom ≡ true)
          → (x || is_true_in (filter is_true bs) atom) ≡ true → is_true atom ≡ true
      here true s t more f = ap is_true (equal_atoms atom b s) ∙ t
      here false s t more f = more f

      by : (x : Bool) → is_true b ≡ x → (is_true_in (filter is_true bs) atom ≡ true → is_true atom ≡ true) → is_true atom ≡ true
      by true t more = here (same_atom atom b) refl t more (sym (ap (λ x. is_true_in (cond x (b ∷ filter is_true bs) (filter is_true bs)) atom) t) ∙ e)
      by false t more = more (sym (ap (λ x. is_true_in (cond x (b ∷ filter is_true bs) (filter is_true bs)) atom) t) ∙ e)

  kept : (atoms : List Atom) (atom : Atom) → list_any (same_atom atom) atoms ≡ true → is_true atom ≡ true → is_true_in (filter is_true atoms) atom ≡ true
  kept [] atom e t = cc
  kept (b ∷ bs) atom e t = by (same_atom atom b) refl (λ f. kept bs atom f t)
    where
      more : (x : Bool) → is_true_in (filter is_true bs) atom ≡ true → is_true_in (cond x (b ∷ filter is_true bs) (filter is_true bs)) atom ≡ true
      more true f = or_right (same_atom atom b) _ f
      more false f = f

      by : (x : Bool) → same_atom atom b ≡ x → (list_any (same_atom atom) bs ≡ true → is_true_in (filter is_true bs) atom ≡ true)
          → is_true_in (filter is_true (b ∷ bs)) atom ≡ true
      by true s rest =
          let there : is_true b ≡ true = sym (ap is_true (equal_atoms atom b s)) ∙ t in
          ap (λ x. is_true_in (cond x (b ∷ filter is_true bs) (filter is_true bs)) atom) there ∙ ap (λ x. x || is_true_in (filter is_true bs) atom) s
      by false s rest = more (is_true b) (rest (sym (ap (λ x. x || list_any (same_atom atom) bs) s) ∙ e))

  -- an atom of the list is true in the valuation where it holds
  agrees : (atoms : List Atom) (atom : Atom) → list_any (same_atom atom) atoms ≡ true → is_true_in (filter is_true atoms) atom ≡ is_true atom
  agrees atoms atom e = by (is_true atom) refl (is_true_in (filter is_true atoms) atom) refl
    where
      by : (x : Bool) → is_true atom ≡ x → (y : Bool) → is_true_in (filter is_true atoms) atom ≡ y → is_true_in (filter is_true atoms) atom ≡ is_true atom
      by true t y f = kept atoms atom e t ∙ sym t
      by false t true f = absurd (true≢false (sym (only_true atoms atom f) ∙ t))
      by false t false f = f ∙ sym t

  -- the atoms of the literals are in the list
  abbrev AreAmong : List Atom → List Literal → Type 0
  AreAmong atoms ls = AllByRecursion (λ l. list_any (same_atom (atom_of l)) atoms ≡ true) ls

  literal_not_false : (atoms : List Atom) (l : Literal) → list_any (same_atom (atom_of l)) atoms ≡ true → literal_holds meaning a l ≡ true
      → is_false_literal (filter is_true atoms) l ≡ false
  literal_not_false atoms l among holds = by l.positive (is_true_in (filter is_true atoms) (atom_of l)) (is_true (atom_of l)) (agrees atoms (atom_of l) among) holds
    where
      by : (sign x y : Bool) → x ≡ y → (if sign then y else not y) ≡ true → (if sign then not x else x) ≡ false
      by true x y e h = ap not (e ∙ h)
      by false true y e h = absurd (true≢false (sym (ap not e ∙ h)))
      by false false y e h = refl

  clause_not_false : (atoms : List Atom) (ls : List Literal) → AreAmong atoms ls → list_any (literal_holds meaning a) ls ≡ true
      → list_all (is_false_literal (filter is_true atoms)) ls ≡ false
  clause_not_false atoms [] among holds = sym holds
  clause_not_false atoms (l ∷ ls) among holds = by (literal_holds meaning a l) refl (clause_not_false atoms ls among.1)
    where
      by : (x : Bool) → literal_holds meaning a l ≡ x
          → (list_any (literal_holds meaning a) ls ≡ true → list_all (is_false_literal (filter is_true atoms)) ls ≡ false)
          → list_all (is_false_literal (filter is_true atoms)) (l ∷ ls) ≡ false
      by true h rest = ap (λ b. b && list_all (is_false_literal (filter is_true atoms)) ls) (literal_not_false atoms l among.0 h)
      by false h rest = and_false (is_false_literal (filter is_true atoms) l) _ (rest (sym (ap (λ b. b || list_any (literal_holds meaning a) ls) h) ∙ holds))

  none_false : (atoms : List Atom) (cs : List Clause) → AllByRecursion (λ (c : Clause). AreAmong atoms c.literals) cs
      → AllByRecursion (λ (c : Clause). list_any (literal_holds meaning a) c.literals ≡ true) cs → list_any (is_false_clause (filter is_true atoms)) cs ≡ false
  none_false atoms [] among hold = refl
  none_false atoms (c ∷ cs) among hold =
      (λ i. clause_not_false atoms c.literals among.0 hold.0 i || list_any (is_false_clause (filter is_true atoms)) cs) ∙ none_false atoms cs among.1 hold.1

-- ---- the atoms of clauses

abbrev atoms_of : List Clause → List Atom
atoms_of [] = []
atoms_of (c ∷ cs) = map atom_of c.literals ++ atoms_of cs

any_left : {X : Type 0} (p : X → Bool) (xs ys : List X) → list_any p xs ≡ true → list_any p (xs ++ ys) ≡ true
any_left p [] ys e = cc
any_left p (x ∷ xs) ys e = by (p x) e (any_left p xs ys)
  where
    by : (b : Bool) → (b || list_any p xs) ≡ true → (list_any p xs ≡ true → list_any p (xs ++ ys) ≡ true) → (b || list_any p (xs ++ ys)) ≡ true
    by true f more = refl
    by false f more = more f

any_right : {X : Type 0} (p : X → Bool) (xs ys : List X) → list_any p ys ≡ true → list_any p (xs ++ ys) ≡ true
any_right p [] ys e = e
any_right p (x ∷ xs) ys e = or_right (p x) _ (any_right p xs ys e)

all_so : {X : Type 0} (P Q : X → Type 0) → ((x : X) → P x → Q x) → (xs : List X) → AllByRecursion P xs → AllByRecursion Q xs
all_so P Q h [] k = tt
all_so P Q h (x ∷ xs) k = (h x k.0, all_so P Q h xs k.1)

abbrev IsAmong : List Atom → Literal → Type 0
IsAmong atoms l = list_any (same_atom (atom_of l)) atoms ≡ true

own_atoms : (ls : List Literal) → AllByRecursion (IsAmong (map atom_of ls)) ls
own_atoms [] = tt
own_atoms (l ∷ ls) = (
  ap (λ b. b || list_any (same_atom (atom_of l)) (map atom_of ls)) (same_as_itself (atom_of l)),
  all_so (IsAmong (map atom_of ls)) (IsAmong (map atom_of (l ∷ ls))) (λ m h. or_right (same_atom (atom_of m) (atom_of l)) _ h) ls (own_atoms ls),
)

all_atoms : (cs : List Clause) → AllByRecursion (λ (c : Clause). AllByRecursion (IsAmong (atoms_of cs)) c.literals) cs
all_atoms [] = tt
all_atoms (c ∷ cs) = (
  all_so (IsAmong (map atom_of c.literals)) (IsAmong (atoms_of (c ∷ cs))) (λ l h. any_left (same_atom (atom_of l)) (map atom_of c.literals) (atoms_of cs) h) c.literals (own_atoms c.literals),
  all_so (λ (d : Clause). AllByRecursion (IsAmong (atoms_of cs)) d.literals) (λ (d : Clause). AllByRecursion (IsAmong (atoms_of (c ∷ cs))) d.literals)
      (λ d k. all_so (IsAmong (atoms_of cs)) (IsAmong (atoms_of (c ∷ cs))) (λ l h. any_right (same_atom (atom_of l)) (map atom_of c.literals) (atoms_of cs) h) d.literals k) cs (all_atoms cs),
)

-- ---- refuted clauses

pub not_all_true : (IsElement : ℕ → Type 0) (meaning : Meaning) (element : ℕ) → IsElement element
    → ((f : SymId) (values : List ℕ) → All IsElement values → IsElement (meaning.function f values))
    → (inputs : List Clause) → IsRefuted inputs → All (IsTrueIn IsElement meaning) inputs → ⊥
not_all_true IsElement meaning element element_is closed inputs refuted all =
    let a : Assignment = λ n. element in
    let atoms = atoms_of refuted.members in
    let hold = all_so (IsMember inputs) (λ (c : Clause). list_any (literal_holds meaning a) c.literals ≡ true)
    (λ c h. member_holds IsElement meaning element element_is closed inputs c all h) refuted.members refuted.allowed in
    true≢false (sym (refuted.false_somewhere (filter (is_true meaning a) atoms)) ∙ none_false meaning a atoms refuted.members (all_atoms refuted.members) hold)

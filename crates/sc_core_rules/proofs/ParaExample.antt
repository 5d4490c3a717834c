-- Worked: the sites of paramodulation of f(x0,e) = x0 into itself and into p(f(a,e)), and the conclusion p(a).
use Rattle.std.proofs.Common.{◌≡◌, ◌≢◌, ◌∙◌, refl, sym, ap, subst, ℕ, zero, suc, ◌+◌, ◌<◌, ◌⊎◌, inl, inr, List, [], ◌∷◌, map, arith, true, Some, get_or}
use Rattle.std.specs.List.{Contains}
use Rattle.sc_term.specs.declared.SymId.{SymId}
use Rattle.sc_term.specs.declared.Side.{Side}
use Rattle.sc_term.specs.declared.Side.TheVariants.{Left, Right}
use Rattle.sc_term.specs.declared.Term.{Term, Var}
use Rattle.sc_term.specs.declared.Term.TheVariants.{App}
use Rattle.sc_term.specs.declared.Literal.{Literal}
use Rattle.sc_term.specs.declared.Clause.{Clause}
use Rattle.sc_term.specs.declared.Numbered.{Numbered}
use Rattle.sc_term.specs.declared.Pair.{Pair}
use Rattle.sc_term.specs.Term.{value_of, term_under}
use Rattle.sc_term.specs.Clause.{width, instance, variables}
use Rattle.sc_term.specs.Numbering.{numbered}
use Rattle.sc_term.specs.Path.{IsSubtermAt}
use Rattle.sc_term.specs.Proof.{chosen}
use Rattle.sc_term.specs.Refuted.{equation, Atom}
use Rattle.sc_term.specs.Substitution.{Substitution, IsUnifier, Unify, literal_under, IsInstanceOf, clause_under}
use Rattle.sc_term.specs.JointInstance.{apart, renumbered, IsJointInstance}
use Rattle.sc_term.proofs.TermSteps.{under-Var, under-App, variables-Var, variables-App}
use Rattle.sc_term.proofs.TermLaws.{width-Var, width-App, App-injective, instance-Var, instance-App, weight-App, depth-App}
use Rattle.sc_core_rules.specs.declared.site.ParaSite.{ParaSite}
use Rattle.sc_core_rules.specs.Pairing.{literal_at}
use Rattle.sc_core_rules.specs.Inference.{Inference, Replacing, parent_clauses, Concludes}
use Rattle.sc_core_rules.specs.Paramodulation.{IsCompound, IsPara, IsParaFrom, IsParaInto, AreParaFromSites, AreParaIntoSites, atom_with, para_from_numbers, para_into_numbers}
use Rattle.sc_core_rules.specs.Order.{IsBefore}
use Rattle.sc_core_rules.proofs.Enumerations.{in_two, numbered_one, numbered_two, numbered_none, numbered_cons, all_of_one, all_of_two, pairs_of_one, pairs_of_two}
use Rattle.sc_core_rules.proofs.PairLaws.{unifier_of_one}
use Rattle.sc_term.specs.declared.Line.{Line}
use Rattle.sc_core_rules.specs.Derivation.{AddsPart, AddsParts}
use Rattle.sc_core_rules.proofs.DerivationCases.{adds_input, adds_whole, adds_instance, terms_of_one}
use Rattle.sc_term.specs.declared.Step.TheVariants.{Input, Instance, Para}

abbrev symbol : ℕ → SymId
symbol n = record { 0 = n }

abbrev e : Term
e = App (record { 0 = 3 }) []

abbrev a : Term
a = App (record { 0 = 4 }) []

abbrev f : Term → Term → Term
f s t = App (record { 0 = 2 }) (s ∷ t ∷ [])

abbrev rule : Numbered
rule = record { number = 1; clause = record { literals = equation true (f (Var 0) e) (Var 0) ∷ [] } }

abbrev fact : Numbered
fact = record { number = 2; clause = record { literals = record { positive = true; pred = record { 0 = 1 }; args = f a e ∷ [] } ∷ [] } }

abbrev usable : List Numbered
usable = rule ∷ fact ∷ []

abbrev site : ℕ → ParaSite
site into = record { from = 1; from_lit = 1; side = Left; into = into; into_lit = 1; path = 1 ∷ [] }

-- ---- they are sites

abbrev pair_with : Term → Pair
pair_with t = record { left = atom_with (f (Var 0) e); right = atom_with t }

apart_rule : apart (rule.clause ∷ rule.clause ∷ []) ≡ rule.clause ∷ record { literals = equation true (f (Var 1) e) (Var 1) ∷ [] } ∷ []
apart_rule = simp (under-App, under-Var, width-App, width-Var)

apart_fact : apart (rule.clause ∷ fact.clause ∷ []) ≡ rule.clause ∷ fact.clause ∷ []
apart_fact = simp (under-App, under-Var)

abbrev inference : Numbered → Term → Inference
inference into t = record { parents = rule ∷ into ∷ []; pairs = pair_with t ∷ []; ending = Replacing 1 Left 1 (1 ∷ []) }

into_rule : IsPara rule rule (site 1) (inference rule (f (Var 1) e))
into_rule = record {
  from_named = refl;
  into_named = refl;
  parents = refl;
  left = f (Var 0) e;
  right = Var 0;
  equation_there = ap (λ cs. literal_at cs (record { parent = 1; lit = 1 })) apart_rule;
  side_compound = (symbol 2, Var 0 ∷ e ∷ [], refl);
  target = equation true (f (Var 1) e) (Var 1);
  target_there = ap (λ cs. literal_at cs (record { parent = 2; lit = 1 })) apart_rule;
  subterm = f (Var 1) e;
  subterm_there = refl;
  subterm_compound = (symbol 2, Var 1 ∷ e ∷ [], refl);
  pairs = refl;
  unify = (value_of (a ∷ a ∷ []), unifier_of_one (pair_with (f (Var 1) e)) (value_of (a ∷ a ∷ [])) (simp (under-App, under-Var)));
  ending = refl;
}

into_fact : IsPara rule fact (site 2) (inference fact (f a e))
into_fact = record {
  from_named = refl;
  into_named = refl;
  parents = refl;
  left = f (Var 0) e;
  right = Var 0;
  equation_there = ap (λ cs. literal_at cs (record { parent = 1; lit = 1 })) apart_fact;
  side_compound = (symbol 2, Var 0 ∷ e ∷ [], refl);
  target = record { positive = true; pred = record { 0 = 1 }; args = f a e ∷ [] };
  target_there = ap (λ cs. literal_at cs (record { parent = 2; lit = 1 })) apart_fact;
  subterm = f a e;
  subterm_there = refl;
  subterm_compound = (symbol 2, a ∷ e ∷ [], refl);
  pairs = refl;
  unify = (value_of (a ∷ []), unifier_of_one (pair_with (f a e)) (value_of (a ∷ [])) (simp (under-App, under-Var)));
  ending = refl;
}

-- ---- the left side of the rule unifies with no constant, and the right side is a variable

no_constant : (n : ℕ) → n ≢ 2 → (s : Substitution) → ¬ (term_under s (f (Var 0) e) ≡ term_under s (App (symbol n) []))
no_constant n differ s h =
    let same : App (symbol 2) (map (term_under s) (Var 0 ∷ e ∷ [])) ≡ App (symbol n) [] = sym (under-App s (symbol 2) (Var 0 ∷ e ∷ [])) ∙ h ∙ under-App s (symbol n) [] in
    let number : 2 ≡ n = ap (λ (g : SymId). g.0) (App-injective (symbol 2) (symbol n) (map (term_under s) (Var 0 ∷ e ∷ [])) [] same).0 in
    differ (sym number)

no_variable : (n : ℕ) → ¬ IsCompound (Var n)
no_variable n h = let same : Var n ≡ App h.0 h.1 = h.2 in cc

-- ---- subterms

nothing_under : (path : List ℕ) (t : Term) → ¬ IsSubtermAt [] path t
nothing_under [] t h = h
nothing_under (i ∷ []) t h = numbered_none i t h
nothing_under (i ∷ j ∷ path) t h = numbered_none i (App h.0 h.1) h.2

-- f(s,e), where s is a variable or a constant: at its arguments stand s and e alone
abbrev Is_simple : Term → Type 0
Is_simple s = ((n : ℕ) × (s ≡ Var n)) ⊎ ((n : ℕ) × (n ≢ 2) × (s ≡ App (symbol n) []))

under_simple : (s : Term) → Is_simple s → (g : SymId) (inner : List Term) (path : List ℕ) (t : Term) → s ≡ App g inner → ¬ IsSubtermAt inner path t
under_simple s (inl v) g inner path t same h = let bad : Var v.0 ≡ App g inner = sym v.1 ∙ same in cc
under_simple s (inr c) g inner path t same h = nothing_under path t (subst (λ ts. IsSubtermAt ts path t) (App-injective g (symbol c.0) inner [] (sym same ∙ c.2)).1 h)

under_two : (s r : Term) → Is_simple s → Is_simple r → (path : List ℕ) (t : Term) → IsSubtermAt (s ∷ r ∷ []) path t → (t ≡ s) ⊎ (t ≡ r)
under_two s r simple other [] t h = absurd h
under_two s r simple other (i ∷ []) t h = by (numbered_two s r i t h)
  where
    by : ((i ≡ 1) × (s ≡ t)) ⊎ ((i ≡ 2) × (r ≡ t)) → (t ≡ s) ⊎ (t ≡ r)
    by (inl k) = inl (sym k.1)
    by (inr k) = inr (sym k.1)
under_two s r simple other (i ∷ j ∷ path) t h = absurd (by (numbered_two s r i (App h.0 h.1) h.2))
  where
    by : ((i ≡ 1) × (s ≡ App h.0 h.1)) ⊎ ((i ≡ 2) × (r ≡ App h.0 h.1)) → ⊥
    by (inl k) = under_simple s simple h.0 h.1 (j ∷ path) t k.1 h.3
    by (inr k) = under_simple r other h.0 h.1 (j ∷ path) t k.1 h.3

-- the term can be made equal to the left side of the rule
abbrev Is_unifying : Term → Type 0
Is_unifying t = (s : Substitution) × (term_under s (f (Var 0) e) ≡ term_under s t)

no_simple : (s t : Term) → Is_simple s → t ≡ s → IsCompound t → ¬ Is_unifying t
no_simple s t (inl v) same compound u = no_variable v.0 (subst IsCompound (same ∙ v.1) compound)
no_simple s t (inr c) same compound u = no_constant c.0 c.1 u.0 (u.1 ∙ ap (term_under u.0) (same ∙ c.2))

-- of f(s,e) and variables behind it, only f(s,e) itself
only_path : (s : Term) → Is_simple s → (more : List Term) → ((i : ℕ) (t : Term) → numbered more i ≡ Some t → (n : ℕ) × (t ≡ Var n))
    → (path : List ℕ) (t : Term) → IsSubtermAt (f s e ∷ more) path t → IsCompound t → Is_unifying t → path ≡ 1 ∷ []
only_path s simple more variables [] t h compound u = absurd h
only_path s simple more variables (i ∷ []) t h compound u = by (numbered_cons (f s e) more i t h)
  where
    by : ((i ≡ 1) × (f s e ≡ t)) ⊎ ((m : ℕ) × (i ≡ suc m) × (numbered more m ≡ Some t)) → i ∷ [] ≡ 1 ∷ []
    by (inl k) = λ j. k.0 j ∷ []
    by (inr k) = let v = variables k.0 t k.2 in absurd (no_variable v.0 (subst IsCompound v.1 compound))
only_path s simple more variables (i ∷ j ∷ path) t h compound u = absurd (by (numbered_cons (f s e) more i (App h.0 h.1) h.2))
  where
    arguments : (t ≡ s) ⊎ (t ≡ e) → ⊥
    arguments (inl k) = no_simple s t simple k compound u
    arguments (inr k) = no_simple e t (inr (3, (λ bad. omega (arith, bad)), refl)) k compound u

    by : ((i ≡ 1) × (f s e ≡ App h.0 h.1)) ⊎ ((m : ℕ) × (i ≡ suc m) × (numbered more m ≡ Some (App h.0 h.1))) → ⊥
    by (inl k) =
        let inner = (App-injective (symbol 2) h.0 (s ∷ e ∷ []) h.1 k.1).1 in
        arguments (under_two s e simple (inr (3, (λ bad. omega (arith, bad)), refl)) (j ∷ path) t (subst (λ ts. IsSubtermAt ts (j ∷ path) t) (sym inner) h.3))
    by (inr k) = let v = variables k.0 (App h.0 h.1) k.2 in no_variable v.0 (h.0, h.1, sym v.1)

-- ---- there is no other site with the rule

-- the one literal of the other clause, renamed apart
module _ (into : Numbered) (m : Literal) (s : Term) (simple : Is_simple s) (more : List Term) (variables : (i : ℕ) (t : Term) → numbered more i ≡ Some t → (n : ℕ) × (t ≡ Var n))
    (its_args : m.args ≡ f s e ∷ more) (renamed : apart (rule.clause ∷ into.clause ∷ []) ≡ rule.clause ∷ record { literals = m ∷ [] } ∷ []) where
  -- the sides of the rule, from which only the left one is no variable
  sides : (l r : Term) → equation true (f (Var 0) e) (Var 0) ≡ equation true l r → (f (Var 0) e ≡ l) × (Var 0 ≡ r)
  sides l r h = (ap (λ (x : Literal). get_or x.args 0 (Var 0)) h, ap (λ (x : Literal). get_or x.args 1 (Var 0)) h)

  pub only_with_rule : (x : ParaSite) (i : Inference) → IsPara rule into x i → (x.from_lit ≡ 1) × (x.side ≡ Left) × (x.into_lit ≡ 1) × (x.path ≡ 1 ∷ [])
  only_with_rule x i h = by x.side refl
    where
      clauses : apart (parent_clauses i) ≡ rule.clause ∷ record { literals = m ∷ [] } ∷ []
      clauses = ap (λ (ps : List Numbered). apart (map (λ (q : Numbered). q.clause) ps)) h.parents ∙ renamed

      first : (x.from_lit ≡ 1) × (equation true (f (Var 0) e) (Var 0) ≡ equation true h.left h.right)
      first = numbered_one (equation true (f (Var 0) e) (Var 0)) x.from_lit (equation true h.left h.right)
          (subst (λ cs. literal_at cs (record { parent = 1; lit = x.from_lit }) ≡ Some (equation true h.left h.right)) clauses h.equation_there)

      second : (x.into_lit ≡ 1) × (m ≡ h.target)
      second = numbered_one m x.into_lit h.target (subst (λ cs. literal_at cs (record { parent = 2; lit = x.into_lit }) ≡ Some h.target) clauses h.target_there)

      subterm : IsSubtermAt (f s e ∷ more) x.path h.subterm
      subterm = subst (λ ts. IsSubtermAt ts x.path h.subterm) (ap (λ (l : Literal). l.args) (sym second.1) ∙ its_args) h.subterm_there

      equal : (side : Side) → x.side ≡ side → (u : Substitution) × (term_under u (chosen side h.left h.right) ≡ term_under u h.subterm)
      equal side same =
          let unify : Unify (record { left = atom_with (chosen side h.left h.right); right = atom_with h.subterm } ∷ []) =
          subst (λ (d : Side). Unify (record { left = atom_with (chosen d h.left h.right); right = atom_with h.subterm } ∷ [])) same (subst Unify h.pairs h.unify) in
          (unify.0, ap (λ (y : Atom). get_or y.args 0 (Var 0)) (unify.1 0 (record { left = atom_with (Var 0); right = atom_with (Var 0) }) (omega arith)))

      by : (side : Side) → x.side ≡ side → (x.from_lit ≡ 1) × (x.side ≡ Left) × (x.into_lit ≡ 1) × (x.path ≡ 1 ∷ [])
      by Left same =
          let both = equal Left same in
          let unifying : Is_unifying h.subterm = (both.0, ap (term_under both.0) (sides h.left h.right first.1).0 ∙ both.1) in
          (first.0, same, second.0, only_path s simple more variables x.path h.subterm subterm h.subterm_compound unifying)
      by Right same =
          absurd (no_variable 0 (subst IsCompound (sym (sides h.left h.right first.1).1) (subst (λ (d : Side). IsCompound (chosen d h.left h.right)) same h.side_compound)))

-- ---- the sites

no_more : (i : ℕ) (t : Term) → numbered [] i ≡ Some t → (n : ℕ) × (t ≡ Var n)
no_more i t h = absurd (numbered_none i t h)

one_more : (i : ℕ) (t : Term) → numbered (Var 1 ∷ []) i ≡ Some t → (n : ℕ) × (t ≡ Var n)
one_more i t h = (1, sym (numbered_one (Var 1) i t h).1)

same_site : (x : ParaSite) (from into : ℕ) → from ≡ x.from → into ≡ x.into → (x.from_lit ≡ 1) × (x.side ≡ Left) × (x.into_lit ≡ 1) × (x.path ≡ 1 ∷ [])
    → record { from = from; from_lit = 1; side = Left; into = into; into_lit = 1; path = 1 ∷ [] } ≡ x
same_site x from into named other h = λ k. record { from = named k; from_lit = sym h.0 k; side = sym h.1 k; into = other k; into_lit = sym h.2 k; path = sym h.3 k }

only_into_rule : (x : ParaSite) (i : Inference) → IsPara rule rule x i → site 1 ≡ x
only_into_rule x i h = same_site x 1 1 h.from_named h.into_named
    (only_with_rule rule (equation true (f (Var 1) e) (Var 1)) (Var 1) (inl (1, refl)) (Var 1 ∷ []) one_more refl apart_rule x i h)

only_into_fact : (x : ParaSite) (i : Inference) → IsPara rule fact x i → site 2 ≡ x
only_into_fact x i h = same_site x 1 2 h.from_named h.into_named
    (only_with_rule fact (record { positive = true; pred = record { 0 = 1 }; args = f a e ∷ [] }) a (inr (4, (λ bad. omega (arith, bad)), refl)) [] no_more refl apart_fact x i h)

only_from : (x : ParaSite) (i : Inference) → IsParaFrom rule usable x i → Contains (site 1 ∷ site 2 ∷ []) x
only_from x i h = by (in_two rule fact h.into h.listed)
  where
    by : (rule ≡ h.into) ⊎ (fact ≡ h.into) → Contains (site 1 ∷ site 2 ∷ []) x
    by (inl same) = (0, omega arith, only_into_rule x i (subst (λ (p : Numbered). IsPara rule p x i) (sym same) h.para))
    by (inr same) = (1, omega arith, only_into_fact x i (subst (λ (p : Numbered). IsPara rule p x i) (sym same) h.para))

-- from the rule: into clause 1 and into clause 2, each at its first argument
pub sites_from : (limit : ℕ) → 1 < limit → AreParaFromSites rule usable limit (site 1 ∷ site 2 ∷ [])
sites_from limit some = record {
  rising = pairs_of_two (λ x y. IsBefore (para_from_numbers x) (para_from_numbers y)) (site 1) (site 2) (inl (omega arith));
  only = all_of_two (λ x. (i : Inference) × IsParaFrom rule usable x i) (site 1) (site 2)
      (inference rule (f (Var 1) e), record { into = rule; listed = (0, omega arith, refl); para = into_rule })
      (inference fact (f a e), record { into = fact; listed = (1, omega arith, refl); para = into_fact });
  no_more = omega arith;
  first = λ x h. inl (only_from x h.0 h.1);
}

-- the fact has no equation
no_equation : (x : ParaSite) (i : Inference) → ¬ IsPara fact fact x i
no_equation x i h = by (numbered_one _ x.from_lit (equation true h.left h.right) there).1
  where
    there : numbered (map (literal_under (λ n. Var (n + 0))) (fact.clause).literals) x.from_lit ≡ Some (equation true h.left h.right)
    there = subst (λ (ps : List Numbered). literal_at (apart (map (λ (q : Numbered). q.clause) ps)) (record { parent = 1; lit = x.from_lit }) ≡ Some (equation true h.left h.right)) h.parents h.equation_there

    by : literal_under (λ n. Var (n + 0)) (record { positive = true; pred = record { 0 = 1 }; args = f a e ∷ [] }) ≡ equation true h.left h.right → ⊥
    by same = let bad : ◌≡◌ {A = ℕ} 1 0 = ap (λ (l : Literal). l.pred.0) same in omega (arith, bad)

only_into : (x : ParaSite) (i : Inference) → IsParaInto fact usable x i → Contains (site 2 ∷ []) x
only_into x i h = by (in_two rule fact h.from h.listed)
  where
    by : (rule ≡ h.from) ⊎ (fact ≡ h.from) → Contains (site 2 ∷ []) x
    by (inl same) = (0, omega arith, only_into_fact x i (subst (λ (p : Numbered). IsPara p fact x i) (sym same) h.para))
    by (inr same) = absurd (no_equation x i (subst (λ (p : Numbered). IsPara p fact x i) (sym same) h.para))

-- into the fact: from clause 1 alone
pub sites_into : (limit : ℕ) → 0 < limit → AreParaIntoSites fact usable limit (site 2 ∷ [])
sites_into limit some = record {
  rising = pairs_of_one (λ x y. IsBefore (para_into_numbers x) (para_into_numbers y)) (site 2);
  only = all_of_one (λ x. (i : Inference) × IsParaInto fact usable x i) (site 2)
      (inference fact (f a e), record { from = rule; listed = (0, omega arith, refl); para = into_fact });
  no_more = omega arith;
  first = λ x h. inl (only_into x h.0 h.1);
}

-- ---- the conclusion into the fact

abbrev part : Clause
part = record { literals = equation true (f a e) a ∷ [] }

abbrev conclusion : Clause
conclusion = record { literals = record { positive = true; pred = record { 0 = 1 }; args = a ∷ [] } ∷ [] }

abbrev taken : Substitution
taken = value_of (a ∷ [])

unifies : IsUnifier (pair_with (f a e) ∷ []) taken
unifies = unifier_of_one (pair_with (f a e)) taken (simp (under-App, under-Var))

general : (t : Substitution) → IsUnifier (pair_with (f a e) ∷ []) t → IsInstanceOf taken t
general t u = (t, same)
  where
    whole : term_under t (f (Var 0) e) ≡ term_under t (f a e)
    whole = ap (λ (x : Atom). get_or x.args 0 (Var 0)) (u 0 (pair_with a) (omega arith))

    arguments : map (term_under t) (Var 0 ∷ e ∷ []) ≡ map (term_under t) (a ∷ e ∷ [])
    arguments = (App-injective (symbol 2) (symbol 2) (map (term_under t) (Var 0 ∷ e ∷ [])) (map (term_under t) (a ∷ e ∷ []))
        (sym (under-App t (symbol 2) (Var 0 ∷ e ∷ [])) ∙ whole ∙ under-App t (symbol 2) (a ∷ e ∷ []))).1

    same : (n : ℕ) → t n ≡ term_under t (taken n)
    same zero = sym (under-Var t 0) ∙ ap (λ (ts : List Term). get_or ts 0 (Var 0)) arguments
    same (suc n) = sym (under-Var t (suc n))

joint : IsJointInstance (rule.clause ∷ fact.clause ∷ []) (pair_with (f a e) ∷ []) (part ∷ fact.clause ∷ [])
joint = (taken, record { unifies = unifies; general = general }, sym (ap (λ cs. renumbered (map (clause_under taken) cs)) apart_fact ∙ simp (under-Var, under-App, variables-App)))

abbrev lines_two : List Line
lines_two = record { step = Input 1; clause = rule.clause } ∷ record { step = Instance 1 (a ∷ []); clause = part } ∷ []

abbrev lines_three : List Line
lines_three = record { step = Input 1; clause = rule.clause } ∷ record { step = Instance 1 (a ∷ []); clause = part } ∷ record { step = Input 2; clause = fact.clause } ∷ []

abbrev lines_four : List Line
lines_four =
    record { step = Input 1; clause = rule.clause }
    ∷ record { step = Instance 1 (a ∷ []); clause = part }
    ∷ record { step = Input 2; clause = fact.clause }
    ∷ record { step = Para 2 1 Left 3 1 (1 ∷ []); clause = conclusion } ∷ []

wide : width rule.clause ≡ 1
wide = simp (width-App, width-Var)

gives : instance (a ∷ []) rule.clause ≡ part
gives = simp (instance-App, instance-Var)

other_part : ¬ (part ≡ rule.clause)
other_part h = let same : a ≡ Var 0 = ap (λ (c : Clause). get_or (get_or c.literals 0 (equation true a a)).args 1 (Var 0)) h in cc

opens_rule : AddsPart [] rule part lines_two 2
opens_rule = adds_instance [] rule part (record { step = Input 1; clause = rule.clause } ∷ []) 1 (a ∷ []) lines_two (adds_input [] rule refl) other_part
    (terms_of_one rule.clause part a (0 ∷ []) wide (simp (variables-App, variables-Var)) gives) (part, (sym wide, sym gives), refl)

opens : AddsParts [] (rule ∷ fact ∷ []) (part ∷ fact.clause ∷ []) lines_three (2 ∷ 3 ∷ [])
opens = (lines_two, opens_rule, (lines_three, adds_whole lines_two fact lines_three 3 (adds_input lines_two fact refl), (refl, refl)))

-- p(a), with its four lines
pub concludes : Concludes (inference fact (f a e)) (record { clause = conclusion; lines = lines_four })
concludes = record {
  parts = part ∷ fact.clause ∷ [];
  joint = joint;
  joint_within = record { light = simp weight-App (omega arith); shallow = simp depth-App (omega arith) };
  opening = lines_three;
  part_lines = 2 ∷ 3 ∷ [];
  opens = opens;
  steps = lines_four;
  ends = (conclusion, (f a e, a, refl, (a ∷ [], (refl, refl), refl)), refl);
  canonical_last = inl (simp variables-App, refl);
  conclusion = refl;
  conclusion_within = record { light = simp weight-App (omega arith); shallow = simp depth-App (omega arith) };
}

-- A clause and its canonical form have one mark.
use Rattle.std.proofs.Common.{Result, Ok, Err, IfOk, ◌≡◌, ◌∙◌, sym, ap, subst, refl, ℕ, ◌<◌, ◌≤◌, ◌^◌, Bool, true, not, ◌||◌, if◌then◌else◌, List, [], ◌∷◌, length, map, get_or, nat_eq}
use Rattle.std.specs.List.{AllByRecursion, list_any, position_or_len}
use Rattle.std.proofs.lemmas.List.{length-map}
use Rattle.sc_term.specs.declared.SymId.{SymId}
use Rattle.sc_term.specs.declared.Term.{Term, Var}
use Rattle.sc_term.specs.declared.Term.TheVariants.{App}
use Rattle.sc_term.specs.declared.Literal.{Literal}
use Rattle.sc_term.specs.declared.Clause.{Clause}
use Rattle.sc_term.specs.Term.{term_under}
use Rattle.sc_term.specs.Clause.{variables, firsts}
use Rattle.sc_term.specs.Substitution.{Substitution, literal_under, clause_under}
use Rattle.sc_term.specs.JointInstance.{canonical, renumbering}
use Rattle.sc_term.specs.Interpretation.{Meaning, Assignment, value_step, value, atom_holds, literal_holds, IsTrueIn}
use Rattle.sc_term.proofs.TermLaws.{term_ind, fold-Var, fold-App}
use Rattle.sc_term.proofs.TermSteps.{under-Var, under-App}
use Rattle.sc_term.proofs.SubstitutionLaws.{clause_laws}
use Rattle.sc_interp.specs.declared.plain.Truth.{Truth}
use Rattle.sc_interp.specs.declared.plain.Truth.TheVariants.{True, False, Wide}
use Rattle.sc_interp.specs.Structure.{Structure, Satisfies, meaning_of}
use Rattle.sc_interp.specs.Marks.{assignments, IsMark}
use Rattle.sc_term.proofs.CanonicalForm.{undone, renumbered_order}

-- ---- truth of what a substitution makes

module _ (meaning : Meaning) (a : Assignment) (s : Substitution) where
  -- each variable has the value of its term
  abbrev through : Assignment
  through n = value meaning a (s n)

  abbrev Goes : Term → Type 0
  Goes t = value meaning a (term_under s t) ≡ value meaning through t

  each_goes : (ts : List Term) → AllByRecursion Goes ts → map (value meaning a) (map (term_under s) ts) ≡ map (value meaning through) ts
  each_goes [] h = refl
  each_goes (t ∷ ts) h = let one = h.0 in let rest = each_goes ts h.1 in (λ i. one i ∷ rest i)

  term_goes : (t : Term) → Goes t
  term_goes t = term_ind Goes at_variable at_symbol t
    where
      at_variable : (n : ℕ) → Goes (Var n)
      at_variable n = ap (value meaning a) (under-Var s n) ∙ sym (fold-Var ℕ (value_step meaning through) n)

      at_symbol : (f : SymId) (ts : List Term) → AllByRecursion Goes ts → Goes (App f ts)
      at_symbol f ts h =
          ap (value meaning a) (under-App s f ts)
          ∙ fold-App ℕ (value_step meaning a) f (map (term_under s) ts)
          ∙ ap (meaning.function f) (each_goes ts h)
          ∙ sym (fold-App ℕ (value_step meaning through) f ts)

  terms_go : (ts : List Term) → map (value meaning a) (map (term_under s) ts) ≡ map (value meaning through) ts
  terms_go [] = refl
  terms_go (t ∷ ts) = let one = term_goes t in let rest = terms_go ts in (λ i. one i ∷ rest i)

  literal_goes : (l : Literal) → literal_holds meaning a (literal_under s l) ≡ literal_holds meaning through l
  literal_goes l = ap (λ values. if l.positive then atom_holds meaning l.pred values else not (atom_holds meaning l.pred values)) (terms_go l.args)

  literals_go : (ls : List Literal) → list_any (literal_holds meaning a) (map (literal_under s) ls) ≡ list_any (literal_holds meaning through) ls
  literals_go [] = refl
  literals_go (l ∷ ls) = let one = literal_goes l in let rest = literals_go ls in (λ i. one i || rest i)

-- variables that become variables keep a clause true
renaming_keeps : (t : Structure) (g : ℕ → ℕ) (c : Clause) → Satisfies t c → Satisfies t (clause_under (λ n. Var (g n)) c)
renaming_keeps t g c h a is =
    let meaning = meaning_of t in
    let s : Substitution = λ n. Var (g n) in
    literals_go meaning a s c.literals ∙ h (through meaning a s) (λ n. subst (λ v. v < t.size) (sym (fold-Var ℕ (value_step meaning a) (g n))) (is (g n)))

-- ---- the canonical form

module _ (c : Clause) where
  abbrev order : List ℕ
  order = firsts (variables c)

  abbrev place : ℕ → ℕ
  place n = position_or_len (nat_eq n) order

  -- the variable of which a number is the place
  abbrev back : ℕ → ℕ
  back k = get_or order k 0

  abbrev home : Substitution
  home k = Var (back k)

  -- the canonical form, with its variables named as before, is the clause
  named_back : clause_under home (canonical c) ≡ c
  named_back =
      (clause_laws c).compose home (renumbering order)
      ∙ (clause_laws c).agree (λ n. term_under home (renumbering order n)) Var (returns (variables c) (undone c))
      ∙ (clause_laws c).identity
    where
      returns : (ns : List ℕ) → AllByRecursion (λ n. back (place n) ≡ n) ns → AllByRecursion (λ n. term_under home (renumbering order n) ≡ Var n) ns
      returns [] h = tt
      returns (n ∷ ns) h = (under-Var home (place n) ∙ ap Var h.0, returns ns h.1)

  same_assignments : (size : ℕ) → assignments size (canonical c) ≡ assignments size c
  same_assignments size = ap (λ n. size ^ n) (ap length (renumbered_order c) ∙ length-map order place)

  module _ (t : Structure) where
    satisfied_back : Satisfies t (canonical c) → Satisfies t c
    satisfied_back h = subst (Satisfies t) named_back (renaming_keeps t back (canonical c) h)

    satisfied_there : Satisfies t c → Satisfies t (canonical c)
    satisfied_there h = renaming_keeps t place c h

    pub mark_of_canonical : (truth : Truth) → IsMark t (canonical c) truth → IsMark t c truth
    mark_of_canonical Wide h = subst (λ n. 4096 < n) (same_assignments t.size) h
    mark_of_canonical True h = (subst (λ n. n ≤ 4096) (same_assignments t.size) h.0, satisfied_back h.1)
    mark_of_canonical False h = (subst (λ n. n ≤ 4096) (same_assignments t.size) h.0, λ k. h.1 (satisfied_there k))

-- what is answered for the canonical form is right for the clause
pub told : {E : Type 0} (t : Structure) (c form : Clause) (r : Result Truth E) → form ≡ canonical c → IfOk r (λ truth. IsMark t form truth) → IfOk r (λ truth. IsMark t c truth)
told t c form (Ok truth) e h = mark_of_canonical c t truth (subst (λ f. IsMark t f truth) e h)
told t c form (Err x) e h = tt

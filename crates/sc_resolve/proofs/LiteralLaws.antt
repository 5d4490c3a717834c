-- Literals by their numbers, and what pairs of them have where they unify.
use Rattle.std.proofs.Common.{◌≡◌, ◌∙◌, sym, ap, subst, refl, ℕ, zero, suc, ◌+◌, ◌<◌, List, [], ◌∷◌, length, map, Some, None, Option, Bool, true, false, not, ◌&&◌, nat_eq, if◌then◌else◌, slice_get, arith, add-one}
use Rattle.std.specs.Prelude.{MatchOption, IsTrue, ◌↔◌}
use Rattle.std.specs.List.{list_any, Contains}
use Rattle.std.specs.Option.{option_map, is_some}
use Rattle.std.proofs.lemmas.Bool.{eq-eqb}
use Rattle.std.proofs.lemmas.Option.{slice_get_within, get_or_from_slice_get, slice_get-map, slice_get-get_or}
use Rattle.std.proofs.lemmas.List.Folds.{list_any_at}
use Rattle.sc_term.specs.declared.Literal.{Literal}
use Rattle.sc_term.specs.declared.Clause.{Clause}
use Rattle.sc_term.specs.declared.Term.{Var}
use Rattle.sc_term.specs.Numbering.{numbered}
use Rattle.sc_term.specs.Refuted.{Atom}
use Rattle.sc_term.specs.Clause.{width}
use Rattle.sc_term.specs.Substitution.{Unify, literal_under, Substitution, IsMostGeneralUnifier}
use Rattle.sc_term.specs.JointInstance.{apart, shift}
use Rattle.sc_term.proofs.SubstitutionLaws.{clause_laws, literal_laws}
use Rattle.sc_unify.specs.declared.bound.Binding.{Binding}
use Rattle.sc_unify.specs.Unifiers.{substitution}
use Rattle.sc_core_rules.proofs.NumberLaws.{numbered-suc}
use Rattle.sc_resolve.specs.Literals.{pair_of, may_resolve, may_merge, AreResolvable, AreMergeable}

-- ---- numbers

pub numbered_next : {X : Type 0} (xs : List X) (k : ℕ) → numbered xs (k + 1) ≡ slice_get xs k
numbered_next xs k = rw add-one (numbered-suc xs k)

pub numbered_place : {X : Type 0} (xs : List X) (n : ℕ) (x : X) → numbered xs n ≡ Some x → (k : ℕ) × (n ≡ k + 1) × (slice_get xs k ≡ Some x)
numbered_place {X} xs zero x h = let none : ◌≡◌ {A = Option X} None (Some x) = h in absurd cc
numbered_place xs (suc k) x h = (k, omega arith, sym (numbered-suc xs k) ∙ h)

pub contains_at : {X : Type 0} (xs : List X) (k : ℕ) (x : X) → slice_get xs k ≡ Some x → Contains xs x
contains_at xs k x h = (k, slice_get_within xs k x h, get_or_from_slice_get xs k x x h)

pub at_contains : {X : Type 0} (xs : List X) (x : X) (h : Contains xs x) → slice_get xs h.0 ≡ Some x
at_contains xs x h = slice_get-get_or xs h.0 x h.1 ∙ ap Some h.2

pub some_at : {X : Type 0} (xs : List X) (k : ℕ) → k < length xs → (x : X) × (slice_get xs k ≡ Some x)
some_at [] k h = absurd (omega arith)
some_at (x ∷ xs) zero h = (x, refl)
some_at (x ∷ xs) (suc k) h = some_at xs k (omega arith)

-- ---- parents renamed apart

not_moved : (c : Clause) → shift 0 c ≡ c
not_moved c = ap (λ (s : Substitution). record { literals = map (literal_under s) c.literals }) (λ i n. Var (none n i)) ∙ (clause_laws c).identity
  where
    none : (n : ℕ) → n + 0 ≡ n
    none n = omega arith

pub apart_one : (c : Clause) → apart (c ∷ []) ≡ c ∷ []
apart_one c = ap (λ (d : Clause). d ∷ []) (not_moved c)

pub apart_two : (c d : Clause) → apart (c ∷ d ∷ []) ≡ c ∷ shift (width c) d ∷ []
apart_two c d = let e : 0 + width c ≡ width c = omega arith in λ i. not_moved c i ∷ shift (e i) d ∷ []

-- ---- pairs

pub one_predicate : (l m : Literal) → Unify (pair_of l m) → l.pred.0 ≡ m.pred.0
one_predicate l m u = ap (λ (a : Atom). a.pred.0) (u.1 0 (record { left = l; right = m }) (omega arith))

and_true : (a b : Bool) → a ≡ true → b ≡ true → (a && b) ≡ true
and_true a b h k = λ i. both i
  where
    both : (a && b) ≡ true
    both = ap (λ c. c && b) h ∙ k

signs_differ : (a b : Bool) → a ≡ not b → (if a then not b else b) ≡ true
signs_differ true true h = sym h
signs_differ true false h = refl
signs_differ false true h = refl
signs_differ false false h = h

-- what can be resolved on passes the test by signs and predicates, also where it isn't renamed
pub passes : (l m : Literal) (s : Substitution) → AreResolvable l (literal_under s m) → may_resolve l m ≡ true
passes l m s h = and_true (if l.positive then not m.positive else m.positive) (nat_eq l.pred.0 m.pred.0) (signs_differ l.positive m.positive h.signs)
    (eq-eqb l.pred.0 m.pred.0 (one_predicate l (literal_under s m) h.unify))

same_sign : (a b : Bool) → a ≡ b → (if a then b else not b) ≡ true
same_sign true b h = sym h
same_sign false b h = ap not (sym h)

differing : (a b : Bool) → (if a then not b else b) ≡ true → a ≡ not b
differing true b h = sym h
differing false true h = refl
differing false false h = h

alike : (a b : Bool) → (if a then b else not b) ≡ true → a ≡ b
alike true b h = sym h
alike false true h = h
alike false false h = refl

first_true : (a b : Bool) → (a && b) ≡ true → a ≡ true
first_true true b h = refl
first_true false b h = h

-- what the test and unification answer of two literals
pub told : (found : Option (List Binding)) (l m : Literal) (b : Bool) → MatchOption found (¬ Unify (pair_of l m)) (λ s. IsMostGeneralUnifier (pair_of l m) (substitution s))
    → b ≡ is_some found → IsTrue b ↔ Unify (pair_of l m)
told None l m b h e = (λ t. let bad : false ≡ true = sym e ∙ t in cc, λ u. absurd (h u))
told (Some s) l m b h e = (λ t. (substitution s, h.unifies), λ u. e)

pub resolvable : (l m : Literal) (b : Bool) → may_resolve l m ≡ true → IsTrue b ↔ Unify (pair_of l m) → IsTrue b ↔ AreResolvable l m
resolvable l m b passed same = (
  λ t. record { signs = differing l.positive m.positive (first_true (if l.positive then not m.positive else m.positive) (nat_eq l.pred.0 m.pred.0) passed); unify = same.0 t },
  λ h. same.1 h.unify,
)

pub mergeable : (l m : Literal) (b : Bool) → may_merge l m ≡ true → IsTrue b ↔ Unify (pair_of l m) → IsTrue b ↔ AreMergeable l m
mergeable l m b passed same = (
  λ t. record { signs = alike l.positive m.positive (first_true (if l.positive then m.positive else not m.positive) (nat_eq l.pred.0 m.pred.0) passed); unify = same.0 t },
  λ h. same.1 h.unify,
)

pub not_resolvable : (l m : Literal) → may_resolve l m ≡ false → IsTrue false ↔ AreResolvable l m
not_resolvable l m failed = (λ t. let bad : false ≡ true = t in cc, λ h. sym failed ∙ passes l m (λ n. Var n) (subst (AreResolvable l) (sym ((literal_laws m).identity)) h))

pub not_mergeable : (l m : Literal) → may_merge l m ≡ false → IsTrue false ↔ AreMergeable l m
not_mergeable l m failed = (
  λ t. let bad : false ≡ true = t in cc,
  λ h.
      sym failed ∙ and_true (if l.positive then m.positive else not m.positive) (nat_eq l.pred.0 m.pred.0) (same_sign l.positive m.positive h.signs) (eq-eqb l.pred.0 m.pred.0 (one_predicate l m h.unify)),
)

mapped_at : {X Y : Type 0} (f : X → Y) (o : Option X) (y : Y) → option_map f o ≡ Some y → (x : X) × (o ≡ Some x) × (f x ≡ y)
mapped_at {Y = Y} f None y h = let none : ◌≡◌ {A = Option Y} None (Some y) = h in absurd cc
mapped_at f (Some x) y h = (x, refl, cc)

-- nothing can be resolved on where the test finds nothing
pub no_pair : (literals others : List Literal) (s : Substitution) → list_any (λ l. list_any (may_resolve l) others) literals ≡ false
    → (j k : ℕ) (l m : Literal) → slice_get literals j ≡ Some l → slice_get (map (literal_under s) others) k ≡ Some m → ¬ AreResolvable l m
no_pair literals others s none j k l m at_l at_m h =
    let old = mapped_at (literal_under s) (slice_get others k) m (sym (slice_get-map (literal_under s) others k) ∙ at_m) in
    let passed : may_resolve l old.0 ≡ true = passes l old.0 s (subst (AreResolvable l) (sym old.2) h) in
    let inner : list_any (may_resolve l) others ≡ true =
    list_any_at (may_resolve l) others k old.0 (slice_get_within others k old.0 old.1) (ap (may_resolve l) (get_or_from_slice_get others k old.0 old.0 old.1) ∙ passed) in
    let outer : list_any (λ l. list_any (may_resolve l) others) literals ≡ true =
    list_any_at (λ l. list_any (may_resolve l) others) literals j l (slice_get_within literals j l at_l)
    (ap (λ (l : Literal). list_any (may_resolve l) others) (get_or_from_slice_get literals j l l at_l) ∙ inner) in
    let bad : true ≡ false = sym outer ∙ none in cc

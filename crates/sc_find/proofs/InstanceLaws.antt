-- Instances that are false by the values so far, and cells that they wait for.
use Rattle.std.proofs.Common.{◌≡◌, ◌∙◌, sym, ap, subst, refl, ℕ, ◌<◌, ◌≤◌, List, ◌++◌, length, slice_get, slice_index, get_or, Option, Some, None}
use Rattle.std.specs.Option.{IsSomeAnd}
use Rattle.std.specs.List.{All, Contains}
use Rattle.std.proofs.lemmas.List.Elements.{All-contains}
use Rattle.std.proofs.lemmas.Option.{slice_get-get_or, slice_get_within, get_or_from_slice_get}
use Rattle.sc_term.specs.declared.Clause.{Clause}
use Rattle.sc_term.specs.Clause.{width}
use Rattle.sc_cells.specs.declared.instances.GroundInstance.{GroundInstance}
use Rattle.sc_cells.specs.Cells.{Prefix, IsFalseBy, IsConsistent}
use Rattle.sc_cells.specs.Ground.{AreInstances, IsInstance}
use Rattle.sc_find_given.specs.Waiting.{IsWaiting}
use Rattle.sc_find.specs.Prepared.{IsFalseInstance}
use Rattle.sc_find.specs.Watching.{Waits}
use Rattle.sc_find.proofs.PrefixLaws.{elements_of, elements_long, elements_within, false_at_elements, list_within}

pub some_and : {A : Type 0} (P : A → Type 0) (o : Option A) (x : A) → o ≡ Some x → P x → IsSomeAnd o P
some_and P o x e h = subst (λ q. IsSomeAnd q P) (sym e) h

pub and_some : {A : Type 0} (P : A → Type 0) (o : Option A) (x : A) → o ≡ Some x → IsSomeAnd o P → P x
and_some P o x e h = subst (λ q. IsSomeAnd q P) e h

-- which cell the instance waits for, as its clause and its values do
pub waits_instance : (clauses : List Clause) (p : Prefix) (i : GroundInstance) (c : Clause) (values : List ℕ) (r : Option ℕ) → slice_get clauses i.place ≡ Some c → values ≡ i.values
    → IsWaiting c.literals (slice_index values) p r → Waits clauses p i r
waits_instance clauses p i c values None at same h =
    some_and (λ c. All (IsFalseBy p (slice_index i.values)) c.literals) (slice_get clauses i.place) c at
    (subst (λ vs. All (IsFalseBy p (slice_index vs)) c.literals) same h)
waits_instance clauses p i c values (Some cell) at same h = (
  h.0,
  λ more within most f. h.1 more within most
      (subst (λ vs. All (IsFalseBy (record { cells = p.cells; values = p.values ++ more }) (slice_index vs)) c.literals) (sym same)
      (and_some (λ c. All (IsFalseBy (record { cells = p.cells; values = p.values ++ more }) (slice_index i.values)) c.literals) (slice_get clauses i.place) c at f)),
)

-- ---- consistency

some_there : {A : Type 0} (P : A → Type 0) (o : Option A) → IsSomeAnd o P → (x : A) × (o ≡ Some x) × P x
some_there P None h = absurd h
some_there P (Some x) h = (x, refl, h)

pub is_first : {A : Type 0} (xs : List A) (k : ℕ) (x : A) → slice_get xs k ≡ Some x → Contains xs x
is_first xs k x at = (k, slice_get_within xs k x at, get_or_from_slice_get xs k x x at)

pub contained_at : {A : Type 0} (xs : List A) (x : A) → Contains xs x → (k : ℕ) × (slice_get xs k ≡ Some x)
contained_at xs x (k, lt, e) = (k, slice_get-get_or xs k x lt ∙ ap (λ y. Some y) e)

module _ (clauses : List Clause) (size : ℕ) (instances : List GroundInstance) (some : 1 ≤ size) (are : AreInstances clauses size instances) where
  pub places_there : All (λ (i : GroundInstance). i.place < length clauses) instances
  places_there k d lt = let at = some_there _ (slice_get clauses (get_or instances k d).place) (are.only k d lt).0 in slice_get_within clauses (get_or instances k d).place at.0 at.1

  pub consistent_instances : (p : Prefix) → IsConsistent clauses size p → All (λ i. ¬ IsFalseInstance clauses p i) instances
  consistent_instances p h k d lt f =
      let i = get_or instances k d in
      let at = some_there (λ c. All (IsFalseBy p (slice_index i.values)) c.literals) (slice_get clauses i.place) f in
      h at.0 (slice_index i.values) (is_first clauses i.place at.0 at.1) (list_within i.values size some (are.only k d lt).1) at.2

  pub instances_consistent : (p : Prefix) → All (λ i. ¬ IsFalseInstance clauses p i) instances → IsConsistent clauses size p
  instances_consistent p h c a within elements all =
      let place = contained_at clauses c within in
      let i : GroundInstance = record { place = place.0; values = elements_of c a } in
      let is : IsInstance clauses size i = (some_and (λ (c : Clause). length i.values ≡ width c) (slice_get clauses i.place) c place.1 (elements_long c a), elements_within c a size elements) in
      All-contains (λ i. ¬ IsFalseInstance clauses p i) instances i h (are.all i is)
      (some_and (λ c. All (IsFalseBy p (slice_index i.values)) c.literals) (slice_get clauses i.place) c place.1 (false_at_elements p c a all))

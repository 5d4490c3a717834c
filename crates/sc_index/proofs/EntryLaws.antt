-- Entries in slots, their numbers, and what a walk over the tree leaves out.
use Rattle.std.proofs.Common.{◌↔◌, Bool, IsTrue, inl, inr, ◌≡◌, ◌∙◌, sym, ap, subst, refl, ℕ, zero, suc, ◌<◌, ◌⊎◌, List, [], ◌∷◌, ◌++◌, length, get_or, Contains, Option, None, Some, eqb, IsPermutation, ◌^◌, true, false, true≢false, arith}
use Rattle.std.specs.List.{dedup}
use Rattle.std.proofs.lemmas.List.Kept.{Contains-dedup_nat, Contains-from_dedup}
use Rattle.std.proofs.lemmas.List.Sorted.{Contains-permutation, IsPermutation-sym}
use Rattle.std.proofs.lemmas.List.Elements.{Contains-push, Contains-push_cases, Contains-append_left}
use Rattle.sc_term.specs.declared.Literal.{Literal}
use Rattle.sc_index.specs.declared.entries.Entry.{Entry}
use Rattle.sc_index.specs.declared.entries.Wanted.{Wanted}
use Rattle.sc_index.specs.declared.entries.Wanted.TheVariants as wanted
use Rattle.sc_index.specs.declared.tree.Node.{Node}
use Rattle.sc_unify.specs.Matching.{IsMatch, HasNoMatch}
use Rattle.sc_index.specs.Flat.{literal_cells}
use Rattle.sc_index.specs.Nodes.{Reaches, Holds, Grows, keys_of}
use Rattle.sc_index.specs.Meeting.{Meets}
use Rattle.sc_index.specs.Walking.{FindsAll}
use Rattle.sc_index.specs.Entries.{present, HasInstance, IsWanted, AreNumbers, AreNumbersAt, HasEntry, IsIndexed, stored_take, asked_take}
use Rattle.sc_term.specs.declared.Term.{Term, Var}
use Rattle.sc_term.specs.Term.{value_of}
use Rattle.sc_term.specs.Refuted.{atom_of}
use Rattle.sc_term.proofs.SubstitutionLaws.{literal_laws}
use Rattle.std.proofs.lemmas.List.{length-map}
use Rattle.sc_index.specs.declared.flat.Cell.{Cell}
use Rattle.sc_index.proofs.MeetingLaws.{literal_meets}
use Rattle.sc_index.proofs.NodeLaws.{reaches_still}

-- ---- slots

abbrev Slots : Type 0
Slots = List (Option Entry)

pub present_push : (slots : Slots) (e : Entry) → present (slots ++ Some e ∷ []) ≡ present slots ++ e ∷ []
present_push [] e = refl
present_push (None ∷ slots) e = present_push slots e
present_push (Some x ∷ slots) e = ap (λ l. x ∷ l) (present_push slots e)

-- an entry of a slot is present, and one that is present has a slot
shifted : (x : Entry) (xs : List Entry) (e : Entry) → Contains xs e → Contains (x ∷ xs) e
shifted x xs e h = (suc h.0, omega (arith, h.1), h.2)

pub present_there : (slots : Slots) (slot : ℕ) (e : Entry) → HasEntry slots slot e → Contains (present slots) e
present_there [] slot e h = absurd (let no : None ≡ Some (Some e) = h in cc)
present_there (None ∷ slots) zero e h = absurd (let no : Some None ≡ Some (Some e) = h in cc)
present_there (None ∷ slots) (suc slot) e h = present_there slots slot e h
present_there (Some x ∷ slots) zero e h = (0, omega arith, (let is : x ≡ e = cc in is))
present_there (Some x ∷ slots) (suc slot) e h = shifted x (present slots) e (present_there slots slot e h)

pub slot_of : (slots : Slots) (e : Entry) → Contains (present slots) e → (slot : ℕ) × HasEntry slots slot e
slot_of [] e h = absurd (omega (arith, h.1))
slot_of (None ∷ slots) e h = let rest = slot_of slots e h in (suc rest.0, rest.1)
slot_of (Some x ∷ slots) e h = by h.0 h.1 h.2 (λ there. slot_of slots e there)
  where
    by : (k : ℕ) → k < length (x ∷ present slots) → get_or (x ∷ present slots) k e ≡ e → (Contains (present slots) e → (slot : ℕ) × HasEntry slots slot e) → (slot : ℕ) × HasEntry (Some x ∷ slots) slot e
    by zero less is more = (0, ap (λ y. Some (Some y)) is)
    by (suc k) less is more = let rest = more (k, omega (arith, less), is) in (suc rest.0, rest.1)

pub one_entry : (slots : Slots) (slot : ℕ) (a b : Entry) → HasEntry slots slot a → HasEntry slots slot b → a ≡ b
one_entry slots slot a b h k = let same : Some (Some a) ≡ Some (Some b) = sym h ∙ k in cc

push_cases : (slots : Slots) (new : Option Entry) (slot : ℕ) (e : Entry) → HasEntry (slots ++ new ∷ []) slot e → HasEntry slots slot e ⊎ ((slot ≡ length slots) × (new ≡ Some e))
push_cases [] new zero e h = inr (refl, (let is : new ≡ Some e = cc in is))
push_cases [] new (suc slot) e h = absurd (let no : None ≡ Some (Some e) = h in cc)
push_cases (x ∷ slots) new zero e h = inl h
push_cases (x ∷ slots) new (suc slot) e h = elim (push_cases slots new slot e h) [ inl early ↦ inl early | inr late ↦ inr (omega (arith, late.0), late.1) ]

-- ---- the invariant

pub indexed_none : (node : Node) → IsIndexed (node ∷ []) []
indexed_none node = record { root = omega arith; each = λ slot e h. absurd (let no : None ≡ Some (Some e) = h in cc); short = λ slot e h. absurd (let no : None ≡ Some (Some e) = h in cc) }

pub indexed_still : (old new : List Node) (slots : Slots) → Grows old new → IsIndexed old slots → IsIndexed new slots
indexed_still old new slots g h = record {
  root = omega (arith, h.root, g.long);
  each = λ slot e there. let m = h.each slot e there in (m.0, reaches_still old new g (keys_of (literal_cells e.literal)) 0 m.0 m.1, g.slots m.0 slot m.2);
  short = h.short;
}

pub indexed_more : (nodes : List Node) (slots : Slots) (new : Entry) (end : ℕ) → IsIndexed nodes slots → Reaches nodes 0 (keys_of (literal_cells new.literal)) end
    → Holds nodes end (length slots) → length (literal_cells new.literal) < 2 ^ 64 → IsIndexed nodes (slots ++ Some new ∷ [])
indexed_more nodes slots new end h path held few = record {
  root = h.root;
  each = λ slot e there. elim (push_cases slots (Some new) slot e there) [
    | inl early ↦ h.each slot e early
    | inr late ↦
        let same : new ≡ e = (let x = late.1 in cc) in
        (end, subst (λ (x : Entry). Reaches nodes 0 (keys_of (literal_cells x.literal)) end) same path, subst (Holds nodes end) (sym late.0) held)
  ];
  short = λ slot e there. elim (push_cases slots (Some new) slot e there) [
    | inl early ↦ h.short slot e early
    | inr late ↦
        let same : new ≡ e = (let x = late.1 in cc) in
        subst (λ (x : Entry). length (literal_cells x.literal) < 2 ^ 64) same few
  ];
}

-- ---- numbers

pub at_none : (P : Entry → Type 0) (slots : Slots) → AreNumbersAt P slots [] []
at_none P slots n = (λ h. absurd (omega (arith, h.1)), λ h. absurd (omega (arith, h.2.1)))

abbrev IsAt : (Entry → Type 0) → Slots → List ℕ → ℕ → Type 0
IsAt P slots found n = (slot : ℕ) × (e : Entry) × Contains found slot × HasEntry slots slot e × (e.number ≡ n) × P e

pub at_without : (P : Entry → Type 0) (slots : Slots) (front numbers : List ℕ) (slot : ℕ) → ((e : Entry) → HasEntry slots slot e → ¬ P e)
    → AreNumbersAt P slots front numbers → AreNumbersAt P slots (front ++ slot ∷ []) numbers
at_without P slots front numbers slot none h n = (
  λ there. let was = (h n).0 there in (was.0, was.1, Contains-append_left front (slot ∷ []) was.0 was.2, was.3, was.4, was.5),
  λ is. elim (Contains-push_cases front slot is.0 is.2) [
    | inl early ↦ (h n).1 (is.0, is.1, early, is.3, is.4, is.5)
    | inr same ↦ absurd (none is.1 (subst (λ s. HasEntry slots s is.1) (sym same) is.3) is.5)
  ],
)

pub at_with : (P : Entry → Type 0) (slots : Slots) (front numbers : List ℕ) (slot : ℕ) (e : Entry) → HasEntry slots slot e → P e
    → AreNumbersAt P slots front numbers → AreNumbersAt P slots (front ++ slot ∷ []) (numbers ++ e.number ∷ [])
at_with P slots front numbers slot e there holds h n = (
  λ c. elim (Contains-push_cases numbers e.number n c) [
    | inl early ↦ let was = (h n).0 early in (was.0, was.1, Contains-append_left front (slot ∷ []) was.0 was.2, was.3, was.4, was.5)
    | inr same ↦ (slot, e, Contains-push front slot, there, same, holds)
  ],
  λ is. elim (Contains-push_cases front slot is.0 is.2) [
    | inl early ↦ Contains-append_left numbers (e.number ∷ []) n ((h n).1 (is.0, is.1, early, is.3, is.4, is.5))
    | inr same ↦
        let found : HasEntry slots slot is.1 = subst (λ s. HasEntry slots s is.1) (sym same) is.3 in
        let one : e ≡ is.1 = one_entry slots slot e is.1 there found in
        subst (Contains (numbers ++ e.number ∷ [])) (ap (λ (x : Entry). x.number) one ∙ is.4) (Contains-push numbers e.number)
  ],
)

-- what is asked for has a path that meets the row
wanted_meets : (w : Wanted) (l : Literal) (e : Entry) → IsWanted w l e → Meets (stored_take w) (asked_take w) (keys_of (literal_cells e.literal)) 0 (literal_cells l)
wanted_meets wanted.General l e h =
    literal_meets true false h.1.0 Var (λ no k. absurd (true≢false no)) (λ _ k. refl) e.literal l h.0 (h.1.1 ∙ sym (ap atom_of ((literal_laws l).identity)))
wanted_meets wanted.Instances l e h =
    literal_meets false true Var h.1.0 (λ _ k. refl) (λ no k. absurd (true≢false no)) e.literal l h.0 (ap atom_of ((literal_laws e.literal).identity) ∙ sym h.1.1)

-- a walk that finds all paths leaves out nothing that is asked for
pub all_wanted : (nodes : List Node) (slots : Slots) (w : Wanted) (l : Literal) (found numbers : List ℕ) → IsIndexed nodes slots → FindsAll (stored_take w) (asked_take w) nodes (literal_cells l) found
    → AreNumbersAt (IsWanted w l) slots found numbers → AreNumbers (IsWanted w l) (present slots) numbers
all_wanted nodes slots w l found numbers indexed finds at n = (
  λ c. let is = (at n).0 c in (is.1, present_there slots is.0 is.1 is.3, is.4, is.5),
  λ is.
      let slot = slot_of slots is.0 is.1 in
      let path = indexed.each slot.0 is.0 slot.1 in
      let cells = literal_cells is.0.literal in
      let few : length (keys_of cells) < 2 ^ 64 = omega (arith, indexed.short slot.0 is.0 slot.1, length-map cells (λ (c : Cell). c.key)) in
      let there = finds (keys_of cells) path.0 slot.0 few path.1 (wanted_meets w l is.0 is.3) path.2 in
      (at n).1 (slot.0, is.0, there, slot.1, is.2, is.3),
)

-- ---- the test of one entry

pub has_some : (p t : Literal) (terms : List Term) → IsMatch p t terms → IsTrue true ↔ HasInstance p t
has_some p t terms h = (λ is. (value_of terms, h.equal), λ has. refl)

pub has_none : (p t : Literal) → HasNoMatch p t → IsTrue false ↔ HasInstance p t
has_none p t h = (λ is. absurd (true≢false (sym is)), λ has. absurd (h has.0 has.1))

pub wanted_sign : (w : Wanted) (l : Literal) (e : Entry) → IsWanted w l e → e.literal.positive ≡ l.positive
wanted_sign wanted.General l e h = h.0
wanted_sign wanted.Instances l e h = h.0

pub general_where : (w : Wanted) (l : Literal) (e : Entry) (b : Bool) → w ≡ wanted.General → e.literal.positive ≡ l.positive → IsTrue b ↔ HasInstance e.literal l → IsTrue b ↔ IsWanted w l e
general_where w l e b is same h = subst (λ v. IsTrue b ↔ IsWanted v l e) (sym is) (λ yes. (same, h.0 yes), λ both. h.1 both.1)

pub instance_where : (w : Wanted) (l : Literal) (e : Entry) (b : Bool) → w ≡ wanted.Instances → e.literal.positive ≡ l.positive → IsTrue b ↔ HasInstance l e.literal → IsTrue b ↔ IsWanted w l e
instance_where w l e b is same h = subst (λ v. IsTrue b ↔ IsWanted v l e) (sym is) (λ yes. (same, h.0 yes), λ both. h.1 both.1)

-- the numbers sorted, each once
pub sorted_once : (P : Entry → Type 0) (entries : List Entry) (numbers sorted once : List ℕ) → IsPermutation numbers sorted → once ≡ dedup eqb sorted
    → AreNumbers P entries numbers → AreNumbers P entries once
sorted_once P entries numbers sorted once p e h n = (
  λ there. (h n).0 (Contains-permutation sorted numbers n (IsPermutation-sym numbers sorted p) (Contains-from_dedup eqb sorted n (subst (λ l. Contains l n) e there))),
  λ is. subst (λ l. Contains l n) (sym e) (Contains-dedup_nat sorted n (Contains-permutation numbers sorted n p ((h n).1 is))),
)

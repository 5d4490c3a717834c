-- Slots emptied one after another.
use Rattle.std.proofs.Common.{inl, inr, ◌≡◌, ◌≢◌, ◌∙◌, sym, ap, subst, refl, ℕ, zero, suc, ◌<◌, ◌≤◌, ◌⊎◌, List, [], ◌∷◌, length, slice_get, slice_set, Option, None, Some, arith}
use Rattle.std.proofs.lemmas.Option.{none-some, same_Some}
use Rattle.sc_index.specs.declared.entries.Entry.{Entry}
use Rattle.sc_index.specs.declared.tree.Node.{Node}
use Rattle.sc_index.specs.Entries.{present, HasEntry, IsIndexed, IsWithout, IsEmptied, IsEmptiedAt, AreEmptied}

abbrev Slots : Type 0
Slots = List (Option Entry)

module _ (this : Entry) where
  -- one slot more
  pub emptied_more : (n : ℕ) (old mid new : Slots) → n < length old → AreEmptied this n old mid → IsEmptiedAt this n mid new → AreEmptied this (suc n) old new
  emptied_more zero [] mid new less h now = absurd (omega (arith, less))
  emptied_more zero (x ∷ old) mid new less h now = elim (subst (λ m. IsEmptiedAt this 0 m new) h now) [
    | inl is ↦ subst (AreEmptied this 1 (x ∷ old)) (sym is.1) (inl (same_Some _ _ is.0, refl), refl)
    | inr not ↦ subst (AreEmptied this 1 (x ∷ old)) (sym not.1) (inr ((λ e. not.0 (ap Some e)), refl), refl)
  ]
  emptied_more (suc n) [] mid new less h now = absurd (omega (arith, less))
  emptied_more (suc n) (x ∷ old) [] new less h now = absurd h
  emptied_more (suc n) (x ∷ old) (y ∷ mid) new less h now = elim now [
    | inl is ↦ subst (AreEmptied this (suc (suc n)) (x ∷ old)) (sym is.1) (h.0, emptied_more n old mid (slice_set mid n None) (omega (arith, less)) h.1 (inl (is.0, refl)))
    | inr not ↦ subst (AreEmptied this (suc (suc n)) (x ∷ old)) (sym not.1) (h.0, emptied_more n old mid mid (omega (arith, less)) h.1 (inr (not.0, refl)))
  ]

  -- what is in a slot was there
  pub was_there : (n : ℕ) (old new : Slots) → AreEmptied this n old new → (slot : ℕ) (e : Entry) → HasEntry new slot e → HasEntry old slot e
  was_there zero old new h slot e there = subst (λ l. HasEntry l slot e) h there
  was_there (suc n) [] new h slot e there = subst (λ l. HasEntry l slot e) h there
  was_there (suc n) (x ∷ old) [] h slot e there = absurd h
  was_there (suc n) (x ∷ old) (y ∷ new) h zero e there = elim h.0 [
    | inl is ↦ absurd (none-some e (sym is.1 ∙ same_Some _ _ there))
    | inr not ↦ subst (λ z. Some z ≡ Some (Some e)) not.1 there
  ]
  was_there (suc n) (x ∷ old) (y ∷ new) h (suc slot) e there = was_there n old new h.1 slot e there

  pub indexed_less : (n : ℕ) (nodes : List Node) (old new : Slots) → AreEmptied this n old new → IsIndexed nodes old → IsIndexed nodes new
  indexed_less n nodes old new h indexed = record {
    root = indexed.root;
    each = λ slot e there. indexed.each slot e (was_there n old new h slot e there);
    short = λ slot e there. indexed.short slot e (was_there n old new h slot e there);
  }

  -- the entries, where each slot was looked at
  one_less : (x y : Option Entry) (old new : Slots) → IsEmptied this x y → IsWithout this (present old) (present new) → IsWithout this (present (x ∷ old)) (present (y ∷ new))
  one_less None y old new h rest = elim h [
    | inl is ↦ absurd (none-some _ is.0)
    | inr not ↦ subst (λ z. IsWithout this (present old) (present (z ∷ new))) (sym not.1) rest
  ]
  one_less (Some e) y old new h rest = elim h [
    | inl is ↦ inl (same_Some _ _ is.0, subst (λ z. IsWithout this (present old) (present (z ∷ new))) (sym is.1) rest)
    | inr not ↦ inr ((λ same. not.0 (ap Some same)), present new, ap (λ z. present (z ∷ new)) not.1, rest)
  ]

  pub without : (n : ℕ) (old new : Slots) → length old ≤ n → AreEmptied this n old new → IsWithout this (present old) (present new)
  without zero [] new long h = ap present h
  without zero (x ∷ old) new long h = absurd (omega (arith, long))
  without (suc n) [] new long h = ap present h
  without (suc n) (x ∷ old) [] long h = absurd h
  without (suc n) (x ∷ old) (y ∷ new) long h = one_less x y old new h.0 (without n old new (omega (arith, long)) h.1)

-- The literals that a loop picks are those of the clause.
use Rattle.std.proofs.Common.{◌≡◌, ◌∙◌, sym, ap, subst, refl, ℕ, ◌+◌, inl, List, [], ◌∷◌, ◌++◌, length, length-append, map, Some, true, false, slice_get, arith}
use Rattle.std.specs.Prelude.{IsSomeAnd}
use Rattle.std.proofs.lemmas.List.{map-append}
use Rattle.std.proofs.lemmas.Option.{slice_get_within}
use Rattle.sc_term.specs.declared.Literal.{Literal}
use Rattle.sc_term.specs.declared.Clause.{Clause}
use Rattle.sc_term.specs.Numbering.{numbered}
use Rattle.sc_steps.proofs.ListLaws.{some_and}
use Rattle.sc_steps.proofs.LineLaws.{some_so}
use Rattle.sc_core_rules.specs.Hyperresolution.{AreLiteralsWith}
use Rattle.sc_core_rules.proofs.StepLaws.{same_some}
use Rattle.sc_resolve.specs.Extending.{Extends, Below}
use Rattle.sc_resolve.proofs.Extending.{Rising, same, one, nothing}
use Rattle.sc_resolve.proofs.LiteralLaws.{numbered_next, numbered_place}
use Rattle.sc_hyper.specs.Negatives.{IsPickedAt, IsNegative}
use Rattle.sc_hyper.proofs.ExtendingLaws.{in_order}

abbrev pub itself : ℕ → List ℕ
itself n = n ∷ []

module _ (P : ℕ → Literal → Type 0) where
  pub picked_rise : (ls : List Literal) → Rising itself (IsPickedAt P ls)
  picked_rise ls j k x y less h i = inl (omega (arith, h.0, i.0))

  pub are_picked : (c : Clause) (ns : List ℕ) → Extends itself (Below (IsPickedAt P c.literals) (length c.literals)) (length ns + 1) [] ns → AreLiteralsWith P c ns
  are_picked c ns h =
      in_order itself (λ a. IsSomeAnd (numbered c.literals a) (P a)) ns
      (same itself (length ns + 1) (Below (IsPickedAt P c.literals) (length c.literals)) (λ a. IsSomeAnd (numbered c.literals a) (P a)) [] ns h to from)
    where
      to : (a : ℕ) → Below (IsPickedAt P c.literals) (length c.literals) a → IsSomeAnd (numbered c.literals a) (P a)
      to a (k, less, (e, l, there, p)) = some_so (numbered c.literals a) (P a) l (ap (numbered c.literals) e ∙ numbered_next c.literals k ∙ there) p

      from : (a : ℕ) → IsSomeAnd (numbered c.literals a) (P a) → Below (IsPickedAt P c.literals) (length c.literals) a
      from a h =
          let found = some_and (numbered c.literals a) (P a) h in
          let place = numbered_place c.literals a found.0 found.1 in
          (place.0, slice_get_within c.literals place.0 found.0 place.2, (place.1, found.0, place.2, found.2))

module _ (P : ℕ → Literal → Type 0) (ls : List Literal) (k : ℕ) (l : Literal) (there : slice_get ls k ≡ Some l) where
  pub taken : (ns ms : List ℕ) → P (k + 1) l → ms ≡ ns ++ (k + 1) ∷ [] → Extends itself (IsPickedAt P ls k) (length ms + 1) ns ms
  taken ns ms p e =
      one itself (length ms + 1) (IsPickedAt P ls k) ns ms (k + 1) (omega (arith, ap (λ (xs : List ℕ). length xs) e, length-append ns ((k + 1) ∷ []))) e (refl, l, there, p) (λ y h. sym h.0)

  pub left_out : (ns : List ℕ) → ¬ P (k + 1) l → Extends itself (IsPickedAt P ls k) (length ns + 1) ns ns
  left_out ns no_p = nothing itself (length ns + 1) (IsPickedAt P ls k) ns (λ n h. no_p (subst (λ m. P m l) h.0 (subst (P n) (same_some (slice_get ls k) h.1 l h.2 there) h.3)))

pub also_there : (ls : List Literal) (k : ℕ) (l : Literal) → slice_get ls k ≡ Some l → (ns : List ℕ) (found : List Literal) → map Some found ≡ map (numbered ls) ns
    → map Some (found ++ l ∷ []) ≡ map (numbered ls) (ns ++ (k + 1) ∷ [])
also_there ls k l there ns found h =
    map-append Some found (l ∷ []) ∙ (λ i. h i ++ sym (numbered_next ls k ∙ there) i ∷ []) ∙ sym (map-append (numbered ls) ns ((k + 1) ∷ []))

pub not_negative : (n : ℕ) (l : Literal) → l.positive ≡ true → ¬ IsNegative n l
not_negative n l positive negative = let bad : true ≡ false = sym positive ∙ negative in cc

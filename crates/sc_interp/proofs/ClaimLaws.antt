-- Claims of a list, one after another.
use Rattle.std.proofs.Common.{◌≡◌, ◌∙◌, sym, ap, subst, refl, ℕ, ◌+◌, ◌-◌, ◌<◌, ◌≤◌, ◌==◌, Bool, true, false, if◌then◌else◌, List, length, take, get_or, slice_get, Option, Some, None, IsSomeAnd, arith}
use Rattle.std.proofs.lemmas.Bool.{eqb-true}
use Rattle.std.proofs.lemmas.Option.{slice_get-get_or}
use Rattle.std.proofs.lemmas.List.{take_all}
use Rattle.sc_term.specs.Numbering.{numbered}
use Rattle.sc_interp.specs.declared.plain.Claim.{Claim}
use Rattle.sc_interp.specs.Structure.{Structure, Satisfies}
use Rattle.sc_interp.specs.Versions.{AreTrue, IsFirstFalse}

pub numbered_more : {X : Type 0} (xs : List X) (i : ℕ) (x : X) → slice_get xs i ≡ Some x → numbered xs (i + 1) ≡ Some x
numbered_more xs i x e = by (i + 1 == 0) refl
  where
    by : (b : Bool) → (i + 1 == 0) ≡ b → numbered xs (i + 1) ≡ Some x
    by true z = let bad = eqb-true (i + 1) 0 z in absurd (omega arith)
    by false z =
        let back : i + 1 - 1 ≡ i = omega arith in
        ap (λ b. if b then None else slice_get xs (i + 1 - 1)) z ∙ ap (slice_get xs) back ∙ e

pub first_found : (t : Structure) (claims : List Claim) (i : ℕ) (d : Claim) → i < length claims
    → AreTrue t (take i claims) → (¬ Satisfies t (get_or claims i d).clause) → IsFirstFalse t claims (i + 1)
first_found t claims i d lt before isnt =
    let back : i ≡ i + 1 - 1 = omega arith in
    record {
      before = subst (λ n. AreTrue t (take n claims)) back before;
      here = subst (λ (o : Option Claim). IsSomeAnd o (λ claim. ¬ Satisfies t claim.clause))
          (sym (numbered_more claims i (get_or claims i d) (slice_get-get_or claims i d lt))) isnt;
    }

pub all_passed : (t : Structure) (claims : List Claim) (i : ℕ) → length claims ≤ i → AreTrue t (take i claims) → AreTrue t claims
all_passed t claims i h before = subst (AreTrue t) (take_all i claims h) before

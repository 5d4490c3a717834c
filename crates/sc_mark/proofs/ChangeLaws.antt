-- Which symbols have changed, table by table.
use Rattle.std.proofs.Common.{◌≡◌, ◌∙◌, sym, ap, subst, refl, ℕ, zero, suc, ◌+◌, ◌<◌, ◌≤◌, Bool, true, false, true≢false, not, ◌||◌, List, [], ◌∷◌, ◌++◌, length, map, length-append, get_or, nat_eq, nat_lt, ◌≢◌, arith}
use Rattle.std.specs.List.{list_any}
use Rattle.std.proofs.Math.ListN.{get_or-eq_default}
use Rattle.std.proofs.Math.Seq.{get_or-append_seam}
use Rattle.std.proofs.lemmas.List.{get_or_append_left}
use Rattle.std.proofs.lemmas.Bool.{eqb-true, eqb-false, ltb-true, ltb-false}
use Rattle.std.proofs.lemmas.Option.{slice_get-get_or}
use Rattle.sc_interp.specs.declared.table.Table.{Table}
use Rattle.sc_interp.specs.Structure.{entry_in}
use Rattle.sc_interp.proofs.ClaimLaws.{numbered_more}
use Rattle.sc_mark.specs.Changes.{is_changed, IsAlike, AreChanges}

-- one of them passes the test
pub one_passes : {X : Type 0} (test : X → Bool) (xs : List X) (k : ℕ) (x : X) → k < length xs → x ≡ get_or xs k x → test x ≡ true → true ≡ list_any (λ b. b) (map test xs)
one_passes test [] k x less is e = absurd (omega (arith, less))
one_passes test (y ∷ ys) zero x less is e = sym (ap (λ b. b || list_any (λ b. b) (map test ys)) (sym (ap test is) ∙ e))
one_passes test (y ∷ ys) (suc k) x less is e = by (test y) (one_passes test ys k x (omega (arith, less)) is e)
  where
    by : (b : Bool) → true ≡ list_any (λ b. b) (map test ys) → true ≡ (b || list_any (λ b. b) (map test ys))
    by true h = refl
    by false h = h

-- entries that are one list
alike_at : (old new : List Table) (i : ℕ) (d e : Table) → i < length old → i < length new → (get_or old i d).entries ≡ (get_or new i e).entries → IsAlike old new (i + 1)
alike_at old new i d e old_has new_has same place =
    ap (λ o. entry_in o place) (numbered_more new i (get_or new i e) (slice_get-get_or new i e new_has))
    ∙ ap (λ (es : List ℕ). get_or es place 0) (sym same)
    ∙ sym (ap (λ o. entry_in o place) (numbered_more old i (get_or old i d) (slice_get-get_or old i d old_has)))

-- one table more was compared
module _ (old new : List Table) (i : ℕ) (d e : Table) (changes more : List Bool) (same : Bool) (long : length changes ≡ i + 1) (before : AreChanges old new changes)
    (old_has : i < length old) (new_has : i < length new) (is : more ≡ changes ++ not same ∷ []) (told : same ≡ true → (get_or old i d).entries ≡ (get_or new i e).entries) where
  on : (b : Bool) → not b ≡ false → b ≡ true
  on true h = refl
  on false h = absurd (true≢false h)

  -- where the list so far has no place, it says changed
  stood : (n : ℕ) → n ≢ i + 1 → is_changed more n ≡ false → (b : Bool) → nat_lt n (length changes) ≡ b → is_changed changes n ≡ false
  stood n other unchanged true h =
      sym (get_or_append_left changes (not same ∷ []) true n (ltb-true n (length changes) h)) ∙ ap (λ (bs : List Bool). get_or bs n true) (sym is) ∙ unchanged
  stood n other unchanged false h =
      let past : length changes ≤ n = ltb-false n (length changes) h in
      let further : length more ≤ n = omega (arith, ap (λ (bs : List Bool). length bs) is, length-append changes (not same ∷ []), past, long, other) in
      absurd (true≢false (sym (get_or-eq_default more true further) ∙ unchanged))

  at_last : (n : ℕ) → n ≡ i + 1 → is_changed more n ≡ false → IsAlike old new n
  at_last n here unchanged =
      let last : get_or (changes ++ not same ∷ []) (length changes) true ≡ not same = get_or-append_seam changes (not same) [] true in
      let none : not same ≡ false = sym last ∙ ap (λ k. get_or (changes ++ not same ∷ []) k true) (long ∙ sym here) ∙ ap (λ (bs : List Bool). get_or bs n true) (sym is) ∙ unchanged in
      subst (IsAlike old new) (sym here) (alike_at old new i d e old_has new_has (told (on same none)))

  pub one_compared : AreChanges old new more
  one_compared n unchanged = by (nat_eq n (i + 1)) refl
    where
      by : (b : Bool) → nat_eq n (i + 1) ≡ b → IsAlike old new n
      by true h = at_last n (eqb-true n (i + 1) h) unchanged
      by false h = before n (stood n (eqb-false n (i + 1) h) unchanged (nat_lt n (length changes)) refl)

-- The versions of each finder, one behind the other with their finder and place, and back.
use Rattle.std.proofs.Common.{◌≡◌, ◌∙◌, sym, ap, refl, ℕ, zero, suc, ◌+◌, ◌<◌, ◌≤◌, ◌^◌, Bool, true, false, List, [], ◌∷◌, ◌++◌, length, append_assoc, arith}
use Rattle.std.specs.Prelude.{◌==◌, flat_map, if◌then◌else◌}
use Rattle.std.specs.List.{AllByRecursion}
use Rattle.std.proofs.lemmas.Bool.{eqb-true, eq-eqb}
use Rattle.std.proofs.lemmas.List.{append-nil}
use Rattle.sc_term.specs.declared.symbol.Symbol.{Symbol}
use Rattle.sc_text_run_rules.specs.RunText.{version_rows, list_rows, lists_rows}
use Rattle.sc_text_run_rules.specs.RunValue.{VersionValue}
use Rattle.sc_text_run_rules.specs.VersionGrammar.{NextVersion, PlacedVersion, behind_version, of_finder, by_finder}
use Rattle.sc_text_laws.specs.Printable.{IsShort}
use Rattle.sc_text_laws.specs.PrintableRun.{IsPrintableVersion, AreVersions}
use Rattle.sc_text_laws.proofs.RowsInTurn.{AreRows}
use Rattle.sc_text_laws.proofs.VersionRows.{MayFollow, placed_text}

abbrev Lists : Type 0
Lists = List (List VersionValue)

-- those of one finder, the first at the place given
abbrev pub placed : ℕ → ℕ → List VersionValue → List PlacedVersion
placed finder place [] = []
placed finder place (v ∷ vs) = record { finder = finder; place = place; version = v } ∷ placed finder (place + 1) vs

-- those of all, the first finder as given
abbrev pub placed_lists : ℕ → Lists → List PlacedVersion
placed_lists finder [] = []
placed_lists finder (vs ∷ ls) = placed finder 0 vs ++ placed_lists (finder + 1) ls

-- ---- their text

list_text : (symbols : List Symbol) (finder place : ℕ) (vs : List VersionValue) (more : List PlacedVersion)
    → flat_map (placed_text symbols) (placed finder place vs ++ more) ≡ list_rows symbols finder place vs ++ flat_map (placed_text symbols) more
list_text symbols finder place [] more = refl
list_text symbols finder place (v ∷ vs) more =
    let one = version_rows symbols finder place v in
    ap (λ (us : List ℕ). one ++ us) (list_text symbols finder (place + 1) vs more) ∙ sym (append_assoc one (list_rows symbols finder (place + 1) vs) (flat_map (placed_text symbols) more))

pub lists_text : (symbols : List Symbol) (finder : ℕ) (ls : Lists) → flat_map (placed_text symbols) (placed_lists finder ls) ≡ lists_rows symbols finder ls
lists_text symbols finder [] = refl
lists_text symbols finder (vs ∷ ls) =
    list_text symbols finder 0 vs (placed_lists (finder + 1) ls) ∙ ap (λ (us : List ℕ). list_rows symbols finder 0 vs ++ us) (lists_text symbols (finder + 1) ls)

-- ---- each may stand where it does

module _ (symbols : List Symbol) (lists : ℕ) (few : lists ≤ 8) where
  abbrev InTurn : NextVersion → List PlacedVersion → Type 0
  InTurn next vs = AreRows (MayFollow symbols lists) behind_version next vs

  list_in_turn : (finder place : ℕ) (vs : List VersionValue) (more : List PlacedVersion) (next : NextVersion) → next.finder ≤ finder → place ≡ (if finder == next.finder then next.place else 0)
      → finder ≤ lists → place + length vs ≤ 2 ^ 32 → AllByRecursion (IsPrintableVersion symbols) vs → ((next : NextVersion) → next.finder ≤ finder → InTurn next more) → InTurn next (placed finder place vs ++ more)
  list_in_turn finder place [] more next le at most fit h f = f next le
  list_in_turn finder place (v ∷ vs) more next le at most fit h f =
      let here : IsShort finder = omega (arith, most, few) in
      let there : IsShort place = omega (arith, fit) in
      let after : NextVersion = record { finder = finder; place = place + 1 } in (
        record { from = le; most = most; at = at; finder = here; place = there; version = h.0 },
        list_in_turn finder (place + 1) vs more after (omega arith) (sym (ap (λ (b : Bool). if b then place + 1 else 0) (eq-eqb finder finder refl))) most (omega (arith, fit)) h.1 f,
      )

  pub lists_in_turn : (finder : ℕ) (ls : Lists) (next : NextVersion) → next.finder ≤ finder → (next.finder ≡ finder → next.place ≡ 0) → finder + length ls ≤ lists + 1 → AllByRecursion (AreVersions symbols) ls
      → InTurn next (placed_lists finder ls)
  lists_in_turn finder [] next le begins fit h = tt
  lists_in_turn finder (vs ∷ ls) next le begins fit h =
      let one = h.0 in
      let most = one.few in
      list_in_turn finder 0 vs (placed_lists (finder + 1) ls) next le (by (finder == next.finder) refl) (omega (arith, fit)) (omega (arith, most)) one.each
      (λ later k. lists_in_turn (finder + 1) ls later (omega (arith, k)) (λ e. absurd (omega (arith, e, k))) (omega (arith, fit)) h.1)
    where
      by : (b : Bool) → (finder == next.finder) ≡ b → 0 ≡ (if b then next.place else 0)
      by true e = sym (begins (sym (eqb-true finder next.finder e)))
      by false e = refl

-- ---- and back

chosen : (b : Bool) (v : PlacedVersion) (vs : List PlacedVersion) (finder : ℕ) → (v.finder == finder) ≡ b
    → of_finder finder (v ∷ vs) ≡ (elim b as (λ _. List VersionValue) [ true ↦ v.version ∷ of_finder finder vs | false ↦ of_finder finder vs ])
chosen true v vs finder e = simp e refl
chosen false v vs finder e = simp e refl

of_this : (finder place : ℕ) (vs : List VersionValue) (more : List PlacedVersion) → of_finder finder (placed finder place vs ++ more) ≡ vs ++ of_finder finder more
of_this finder place [] more = refl
of_this finder place (v ∷ vs) more =
    chosen true (record { finder = finder; place = place; version = v }) (placed finder (place + 1) vs ++ more) finder (eq-eqb finder finder refl)
    ∙ ap (λ (us : List VersionValue). v ∷ us) (of_this finder (place + 1) vs more)

differs : (m n : ℕ) → m < n → (m == n) ≡ false
differs m n lt = search arith

differs' : (m n : ℕ) → n < m → (m == n) ≡ false
differs' m n lt = search arith

of_other : (g finder place : ℕ) (vs : List VersionValue) (more : List PlacedVersion) → (finder == g) ≡ false → of_finder g (placed finder place vs ++ more) ≡ of_finder g more
of_other g finder place [] more e = refl
of_other g finder place (v ∷ vs) more e =
    chosen false (record { finder = finder; place = place; version = v }) (placed finder (place + 1) vs ++ more) g e ∙ of_other g finder (place + 1) vs more e

none_later : (g finder : ℕ) (ls : Lists) → g < finder → of_finder g (placed_lists finder ls) ≡ []
none_later g finder [] lt = refl
none_later g finder (vs ∷ ls) lt = of_other g finder 0 vs (placed_lists (finder + 1) ls) (differs' finder g lt) ∙ none_later g (finder + 1) ls (omega (arith, lt))

by_later : (n g finder place : ℕ) (vs : List VersionValue) (more : List PlacedVersion) → finder < g → by_finder n g (placed finder place vs ++ more) ≡ by_finder n g more
by_later zero g finder place vs more lt = refl
by_later (suc n) g finder place vs more lt = λ i. of_other g finder place vs more (differs finder g lt) i ∷ by_later n (g + 1) finder place vs more (omega (arith, lt)) i

pub lists_back : (finder : ℕ) (ls : Lists) → by_finder (length ls) finder (placed_lists finder ls) ≡ ls
lists_back finder [] = refl
lists_back finder (vs ∷ ls) =
    let more = placed_lists (finder + 1) ls in
    let first : of_finder finder (placed finder 0 vs ++ more) ≡ vs = of_this finder 0 vs more ∙ ap (λ us. vs ++ us) (none_later finder (finder + 1) ls (omega arith)) ∙ append-nil vs in
    λ i. first i ∷ (by_later (length ls) (finder + 1) finder 0 vs more (omega arith) ∙ lists_back (finder + 1) ls) i

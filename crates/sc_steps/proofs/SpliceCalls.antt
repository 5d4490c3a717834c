-- What the calls of the splice rest on.
use Rattle.std.proofs.Common.{◌≡◌, ◌∙◌, sym, ap, subst, ℕ, ◌+◌, ◌-◌, ◌<◌, ◌≤◌, List, [], ◌∷◌, ◌++◌, length, map, get_or, Some, None, IsSomeAnd, IfOk, arith, inl, inr, length-append, Result, Ok, Err}
use Rattle.std.proofs.lemmas.List.{length-map}
use Rattle.std.proofs.lemmas.Option.{slice_get-get_or}
use Rattle.sc_term.specs.declared.Clause.{Clause}
use Rattle.sc_term.specs.declared.Line.{Line}
use Rattle.sc_term.specs.Numbering.{numbered}
use Rattle.sc_term.specs.Proof.{IsProof}
use Rattle.sc_steps.specs.declared.derivations.derivation.Derived.{Derived}
use Rattle.sc_steps.specs.Derivation.{all_clauses, derived_at, IsInputAt, AreDerived}
use Rattle.sc_steps.specs.Splice.{AreNeeded, spliced, input_line, join_either, join_clauses, IsSplice, is_input, is_derived}
use Rattle.sc_steps.proofs.ListLaws.{some_and}
use Rattle.sc_steps.proofs.LineLaws.{number_at}
use Rattle.sc_steps.proofs.SpliceLaws.{number_cases, splice_proves}

pub if_ok_so : {A E : Type 0} (P Q : A → Type 0) (r : Result A E) → ((x : A) → P x → Q x) → IfOk r P → IfOk r Q
if_ok_so P Q (Ok x) h p = h x p
if_ok_so P Q (Err e) h p = tt

pub has_number : (inputs : List Clause) (derived : List Derived) (n : ℕ) → 0 < n → n ≤ length inputs + length derived
    → (c : Clause) × (numbered (all_clauses inputs derived) n ≡ Some c)
has_number inputs derived n pos within =
    let clauses = map (λ (d : Derived). d.clause) derived in
    let none : Clause = record { literals = [] } in
    let there : n - 1 < length (inputs ++ clauses) = omega (arith, length-append inputs clauses, length-map derived (λ (d : Derived). d.clause)) in
    (get_or (inputs ++ clauses) (n - 1) none, number_at (inputs ++ clauses) n (get_or (inputs ++ clauses) (n - 1) none) pos (slice_get-get_or (inputs ++ clauses) (n - 1) none there))

pub same_derived : (xs ys : List Clause) (ds es : List Derived) → xs ≡ ys → ds ≡ es → AreDerived ys es → AreDerived xs ds
same_derived xs ys ds es e f fine = subst (λ cs. AreDerived cs ds) (sym e) (subst (AreDerived ys) (sym f) fine)

pub splice_of_input : (inputs : List Clause) (derived : List Derived) (goal : ℕ) (c : Clause) → Some c ≡ numbered inputs goal
    → IsSplice inputs derived goal (join_clauses inputs derived (goal ∷ [])).lines
splice_of_input inputs derived goal c e =
    let lines : (join_clauses inputs derived (goal ∷ [])).lines ≡ input_line goal c ∷ [] =
    ap (λ o. (join_either (spliced [] (λ n. 0)) goal o (derived_at inputs derived goal)).lines) (sym e) in
    subst (IsSplice inputs derived goal) (sym lines) (is_input goal c (sym e))

pub splice_of_derived : (inputs : List Clause) (derived : List Derived) (goal : ℕ) (c : Clause) (ns : List ℕ) → numbered (all_clauses inputs derived) goal ≡ Some c
    → None ≡ numbered inputs goal → ((d : Derived) (m : ℕ) → derived_at inputs derived goal ≡ Some d → ¬ IsInputAt d.lines m (length d.lines))
    → AreNeeded inputs derived goal ns → IsSplice inputs derived goal (join_clauses inputs derived ns).lines
splice_of_derived inputs derived goal c ns has none ends all = elim (number_cases inputs derived goal c has) [
  | inl input ↦ let bad : None ≡ Some c = none ∙ input in cc
  | inr of ↦ is_derived goal ns of.one of.at (λ m. ends of.one m of.at) all
]

pub proves : (inputs : List Clause) (derived : List Derived) (goal : ℕ) (lines : List Line) → AreDerived inputs derived → IsSplice inputs derived goal lines
    → IsSomeAnd (numbered (all_clauses inputs derived) goal) (λ (c : Clause). c.literals ≡ []) → IsProof inputs lines
proves inputs derived goal lines fine is empty =
    let c = some_and (numbered (all_clauses inputs derived) goal) (λ (c : Clause). c.literals ≡ []) empty in
    splice_proves inputs derived fine goal lines c.0 is c.1 c.2

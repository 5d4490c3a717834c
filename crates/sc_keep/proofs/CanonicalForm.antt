-- What a derivation that ends canonical ends with.
use Rattle.std.proofs.Common.{◌≡◌, ◌∙◌, sym, ap, subst, refl, ℕ, zero, suc, ◌+◌, ◌<◌, Bool, true, false, List, [], ◌∷◌, length, map, get_or, nat_eq, if◌then◌else◌, not, ◌||◌, inl, inr, Option, Some, length-append, arith}
use Rattle.std.specs.List.{AllByRecursion, list_any, position_or_len}
use Rattle.std.proofs.lemmas.Bool.{eqb-true, eqb-false}
use Rattle.std.proofs.lemmas.List.{length-map, get_or-map}
use Rattle.sc_term.specs.declared.Term.{Var}
use Rattle.sc_term.specs.declared.Clause.{Clause}
use Rattle.sc_term.specs.Clause.{IsCanonical, counting_from, firsts, firsts_after, instance, variables, width}
use Rattle.sc_term.specs.JointInstance.{canonical, renumbering}
use Rattle.sc_term.proofs.SubstitutionLaws.{clause_laws}
use Rattle.sc_term.specs.declared.Term.{Term}
use Rattle.sc_term.specs.declared.Line.{Line}
use Rattle.sc_term.specs.declared.Step.TheVariants.{Instance}
use Rattle.sc_term.specs.Numbering.{numbered}
use Rattle.sc_term.specs.Proof.{clause_of}
use Rattle.sc_steps.specs.Derivation.{last_clause}
use Rattle.sc_steps.proofs.ListLaws.{some_and, mapped}
use Rattle.sc_steps.proofs.LineLaws.{clause_of_end, number_within}
use Rattle.sc_core_rules.specs.Order.{Where}
use Rattle.sc_core_rules.specs.Derivation.{Adds, AreTermsTo, EndsCanonical}
use Rattle.sc_term.proofs.CanonicalForm.{is_canonical}

-- ---- the end of a derivation

-- what ends canonical has a line, and its last clause is the one before, where that is canonical, or the canonical form
pub ends_with : (P : Clause → Type 0) (before after : List Line) → EndsCanonical before after → ((c : Clause) → last_clause before ≡ Some c → IsCanonical c → P c)
    → ((c : Clause) → last_clause before ≡ Some c → P (canonical c)) → (0 < length after) × ((c : Clause) → last_clause after ≡ Some c → P c)
ends_with P before after h stays goes =
    let found = some_and (last_clause before) (λ c. Where (IsCanonical c) (after ≡ before) ((terms : List Term) × AreTermsTo c (canonical c) terms × Adds before (Instance (length before) terms) after)) h in
    by found.0 found.1 found.2
  where
    same : (x y : Clause) → ◌≡◌ {A = Option Clause} (Some x) (Some y) → x ≡ y
    same x y e = cc

    by : (c : Clause) → last_clause before ≡ Some c → Where (IsCanonical c) (after ≡ before) ((terms : List Term) × AreTermsTo c (canonical c) terms × Adds before (Instance (length before) terms) after)
        → (0 < length after) × ((d : Clause) → last_clause after ≡ Some d → P d)
    by c last (inl k) =
        let line = mapped (λ (l : Line). l.clause) (numbered before (length before)) c last in
        let within = number_within before (length before) line.0 line.1 in (
          subst (λ (ls : List Line). 0 < length ls) (sym k.1) within.0,
          λ d e. subst P (same c d (sym last ∙ ap last_clause (sym k.1) ∙ e)) (stays c last k.0),
        )
    by c last (inr k) =
        let terms = k.1.0 in
        let made = k.1.2.0 in
        let line : Line = record { step = Instance (length before) terms; clause = made } in
        let follows = some_and (last_clause before) (λ of. (length terms ≡ width of) × (made ≡ instance terms of)) k.1.2.1 in
        let is : made ≡ canonical c = follows.2.1 ∙ ap (instance terms) (same follows.0 c (sym follows.1 ∙ last)) ∙ k.1.1.gives in
        let long : length after ≡ length before + 1 = ap (λ (ls : List Line). length ls) k.1.2.2 ∙ length-append before (line ∷ []) in
        let there : last_clause after ≡ Some made = ap (clause_of after) long ∙ ap (λ ls. clause_of ls (length before + 1)) k.1.2.2 ∙ clause_of_end before line in
        (omega (arith, long), λ d e. subst P (sym is ∙ same made d (sym there ∙ e)) (goes c last))

-- so its last clause is canonical
pub ends_with_canonical : (before after : List Line) → EndsCanonical before after → (0 < length after) × ((c : Clause) → last_clause after ≡ Some c → IsCanonical c)
ends_with_canonical before after h = ends_with IsCanonical before after h (λ c there k. k) (λ c there. is_canonical c)

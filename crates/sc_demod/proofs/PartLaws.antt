-- The lines of a clause and of its instance.
use Rattle.std.proofs.Common.{◌≡◌, ◌∙◌, sym, ap, subst, ℕ, ◌+◌, ◌-◌, inl, inr, List, [], ◌∷◌, ◌++◌, append_assoc, length, length-append, take, Some, arith}
use Rattle.std.specs.List.{Contains}
use Rattle.std.proofs.lemmas.List.{append-nil}
use Rattle.sc_term.specs.declared.Term.{Term}
use Rattle.sc_term.specs.declared.Clause.{Clause}
use Rattle.sc_term.specs.declared.Line.{Line}
use Rattle.sc_term.specs.declared.Numbered.{Numbered}
use Rattle.sc_term.specs.declared.Step.TheVariants.{Input, Instance}
use Rattle.sc_term.specs.Numbering.{numbered}
use Rattle.sc_term.specs.Clause.{instance, width}
use Rattle.sc_term.specs.Proof.{AreSteps, IsStep, IsStepAt, clause_of, Follows}
use Rattle.sc_steps.specs.Derivation.{last_clause}
use Rattle.sc_steps.proofs.LineLaws.{number_within, map_some, clause_in_whole, clause_of_end}
use Rattle.sc_steps.proofs.ListLaws.{some_and}
use Rattle.sc_core_rules.specs.Order.{Where}
use Rattle.sc_core_rules.specs.Derivation.{Adds, AddsInput, AreTermsTo, AddsPart}
use Rattle.sc_demod.specs.Standing.{Agrees, ChecksWith}

-- ---- what the lines of a part have

pub input_clause : (before : List Line) (p : Numbered) (after : List Line) (k : ℕ) → Agrees before p → AddsInput before p after k → clause_of after k ≡ Some p.clause
input_clause before p after k agrees (inl h) = subst (λ ls. clause_of ls k ≡ Some p.clause) (sym h.1) (agrees k h.0.0)
input_clause before p after k agrees (inr h) =
    let line : Line = record { step = Input p.number; clause = p.clause } in
    let long : k ≡ length before + 1 = h.2 ∙ ap (λ (ls : List Line). length ls) h.1 ∙ length-append before (line ∷ []) in
    subst (λ ls. clause_of ls k ≡ Some p.clause) (sym h.1) (subst (λ n. clause_of (before ++ line ∷ []) n ≡ Some p.clause) (sym long) (clause_of_end before line))

pub input_extends : (before : List Line) (p : Numbered) (after : List Line) (k : ℕ) → AddsInput before p after k → (more : List Line) × (after ≡ before ++ more)
input_extends before p after k (inl h) = ([], h.1 ∙ sym (append-nil before))
input_extends before p after k (inr h) = (record { step = Input p.number; clause = p.clause } ∷ [], h.1)

pub part_clause : (before : List Line) (p : Numbered) (part : Clause) (after : List Line) (k : ℕ) → Agrees before p → AddsPart before p part after k → clause_of after k ≡ Some part
part_clause before p part after k agrees h = by h.3
  where
    by : Where (part ≡ p.clause) ((after ≡ h.0) × (k ≡ h.1)) ((terms : List Term) × AreTermsTo p.clause part terms × Adds h.0 (Instance h.1 terms) after × (k ≡ length after)) → clause_of after k ≡ Some part
    by (inl a) = subst (λ n. clause_of after n ≡ Some part) (sym a.1.1) (subst (λ ls. clause_of ls h.1 ≡ Some part) (sym a.1.0) (input_clause before p h.0 h.1 agrees h.2 ∙ ap Some (sym a.0)))
    by (inr a) =
        let adds = a.1.2 in
        let of = some_and (clause_of h.0 h.1) (λ of. (length a.1.0 ≡ width of) × (adds.0 ≡ instance a.1.0 of)) adds.1 in
        let is : of.0 ≡ p.clause = let e : Some of.0 ≡ Some p.clause = sym of.1 ∙ input_clause before p h.0 h.1 agrees h.2 in cc in
        let made : adds.0 ≡ part = of.2.1 ∙ ap (instance a.1.0) is ∙ a.1.1.gives in
        let line : Line = record { step = Instance h.1 a.1.0; clause = adds.0 } in
        let long : k ≡ length h.0 + 1 = a.1.3 ∙ ap (λ (ls : List Line). length ls) adds.2 ∙ length-append h.0 (line ∷ []) in
        subst (λ ls. clause_of ls k ≡ Some part) (sym adds.2) (subst (λ n. clause_of (h.0 ++ line ∷ []) n ≡ Some part) (sym long) (clause_of_end h.0 line ∙ ap Some made))

pub part_extends : (before : List Line) (p : Numbered) (part : Clause) (after : List Line) (k : ℕ) → AddsPart before p part after k → (more : List Line) × (after ≡ before ++ more)
part_extends before p part after k h = by h.3
  where
    first : (more : List Line) × (h.0 ≡ before ++ more)
    first = input_extends before p h.0 h.1 h.2

    by : Where (part ≡ p.clause) ((after ≡ h.0) × (k ≡ h.1)) ((terms : List Term) × AreTermsTo p.clause part terms × Adds h.0 (Instance h.1 terms) after × (k ≡ length after)) → (more : List Line) × (after ≡ before ++ more)
    by (inl a) = (first.0, a.1.0 ∙ first.1)
    by (inr a) =
        let line : Line = record { step = Instance h.1 a.1.0; clause = (a.1.2).0 } in
        (first.0 ++ line ∷ [], (a.1.2).2 ∙ ap (λ ls. ls ++ line ∷ []) first.1 ∙ append_assoc before first.0 (line ∷ []))

-- what stood last still stands at its number
pub last_stays : (before : List Line) (p : Numbered) (part : Clause) (after : List Line) (k : ℕ) (c : Clause) → AddsPart before p part after k → last_clause before ≡ Some c → clause_of after (length before) ≡ Some c
last_stays before p part after k c h last =
    let more = part_extends before p part after k h in
    subst (λ ls. clause_of ls (length before) ≡ Some c) (sym more.1) (clause_in_whole before more.0 (length before) c last)

-- ---- lines that check

pub agrees_where : (clauses : List Clause) (lines : List Line) (p : Numbered) → AreSteps clauses lines → numbered clauses p.number ≡ Some p.clause → Agrees lines p
agrees_where clauses lines p steps stands k h =
    let there = some_and (numbered lines k) (λ (line : Line). line.step ≡ Input p.number) h in
    let line : Line = there.0 in
    let within = number_within lines k line there.1 in
    let same_number : k - 1 + 1 ≡ k = omega (arith, within.0) in
    let at : IsStepAt clauses lines k = subst (IsStepAt clauses lines) same_number (steps (k - 1) (omega (arith, within.0, within.1))) in
    let step = some_and (numbered lines k) (λ (line : Line). IsStep clauses (take (k - 1) lines) line) at in
    let one : Line = step.0 in
    let same : one ≡ line = let e : Some one ≡ Some line = sym step.1 ∙ there.1 in cc in
    let is : one.step ≡ Input p.number = ap (λ (l : Line). l.step) same ∙ there.2 in
    let follows : Follows clauses (take (k - 1) lines) one.clause (Input p.number) = subst (Follows clauses (take (k - 1) lines) one.clause) is step.2 in
    let clause : line.clause ≡ p.clause = let e : Some one.clause ≡ Some p.clause = sym follows ∙ stands in ap (λ (l : Line). l.clause) (sym same) ∙ (let f : one.clause ≡ p.clause = cc in f) in
    map_some (λ (l : Line). l.clause) (numbered lines k) line there.1 ∙ ap Some clause

pub agrees_with : (ps : List Numbered) (lines : List Line) (p : Numbered) → ChecksWith ps lines → Contains ps p → Agrees lines p
agrees_with ps lines p h listed = agrees_where h.0 lines p h.2 (h.1 p listed)

-- What is flipped checks where it checked before.
use Rattle.std.proofs.Common.{◌≡◌, sym, subst, List, inl, inr, length, Result, Ok, Err, IfOk, Option, Some, None}
use Rattle.std.specs.Prelude.{IsSomeAnd}
use Rattle.sc_term.specs.declared.Clause.{Clause}
use Rattle.sc_term.specs.declared.Line.{Line}
use Rattle.sc_term.specs.declared.Step.TheVariants.{Flip}
use Rattle.sc_term.specs.Proof.{AreSteps}
use Rattle.sc_steps.specs.declared.derivations.made.Made.{Made}
use Rattle.sc_steps.specs.Derivation.{last_clause}
use Rattle.sc_core_rules.specs.Order.{Where}
use Rattle.sc_core_rules.specs.Derivation.{Adds}
use Rattle.sc_core_rules.specs.Simplification.{IsUphill, Orients}
use Rattle.sc_core_rules.proofs.CheckLaws.{adds_checks}

pub orients_checks : (clauses : List Clause) (before after : List Line) → Orients before after → AreSteps clauses before → AreSteps clauses after
orients_checks clauses before after h steps = by (last_clause before) h
  where
    cases : (c : Clause) → Where (IsUphill c) (Adds before (Flip (length before) 1) after) (after ≡ before) → AreSteps clauses after
    cases c (inl a) = adds_checks clauses before (Flip (length before) 1) after steps a.1
    cases c (inr a) = subst (AreSteps clauses) (sym a.1) steps

    by : (o : Option Clause) → IsSomeAnd o (λ c. Where (IsUphill c) (Adds before (Flip (length before) 1) after) (after ≡ before)) → AreSteps clauses after
    by None a = absurd a
    by (Some c) a = cases c a

-- the same of an answer
pub answer_checks : {E : Type 0} (r : Result Made E) (before : List Line) → IfOk r (λ after. Orients before after.lines) → IfOk r (λ after. (clauses : List Clause) → AreSteps clauses before → AreSteps clauses after.lines)
answer_checks (Err e) before h = tt
answer_checks (Ok after) before h = λ clauses steps. orients_checks clauses before after.lines h steps

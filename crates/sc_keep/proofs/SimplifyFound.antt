-- Lines that have a last clause are some.
use Rattle.std.proofs.Common.{ℕ, ◌+◌, ◌<◌, List, length, arith}
use Rattle.std.specs.Prelude.{IsSomeAnd}
use Rattle.sc_term.specs.declared.Clause.{Clause}
use Rattle.sc_term.specs.declared.Line.{Line}
use Rattle.sc_term.specs.Numbering.{numbered}
use Rattle.sc_steps.specs.Derivation.{last_clause}
use Rattle.sc_steps.proofs.ListLaws.{some_and, mapped}
use Rattle.sc_steps.proofs.LineLaws.{number_within}

pub some_line : (lines : List Line) (P : Clause → Type 0) → IsSomeAnd (last_clause lines) P → 0 < length lines
some_line lines P h =
    let found = some_and (last_clause lines) P h in
    let line = mapped (λ (l : Line). l.clause) (numbered lines (length lines)) found.0 found.1 in
    (number_within lines (length lines) line.0 line.1).0

pub some_lines : (lines : List Line) (N : ℕ) → IsSomeAnd (last_clause lines) (λ c. length lines + length c.literals < N) → (0 < length lines) × (length lines < N)
some_lines lines N h =
    let found = some_and (last_clause lines) (λ c. length lines + length c.literals < N) h in
    let line = mapped (λ (l : Line). l.clause) (numbered lines (length lines)) found.0 found.1 in
    let within = number_within lines (length lines) line.0 line.1 in
    (within.0, omega (arith, found.2))

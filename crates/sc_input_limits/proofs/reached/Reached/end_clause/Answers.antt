use Rattle.std.proofs.Common.{◌∙◌, sym, subst, refl, ℕ, ◌+◌, ◌||◌}
use Rattle.std.specs.Prelude.{Option, flat_map}
use Rattle.sc_input_rules.specs.Syntax.{WrittenClause}
use Rattle.sc_input_rules.specs.Numbering.{found_in}
use Rattle.sc_input_rules.specs.ProblemLimits.{written}
use Rattle.sc_input_rules.specs.declared.fault.Place.{Place}
use Rattle.sc_input_limits.specs.declared.reached.Reached.{Reached}
use Rattle.sc_input_limits.specs.Symbols.{FindsMore}
use Rattle.sc_input_limits.specs.Positions.{behind_clause}
use Rattle.sc_input_limits.specs.Reached.{Reaches}
use Rattle.sc_input_limits.proofs.Places.{symbol_refused, clause_kept}
use Rattle.sc_input_limits.proofs.reached.Reached.end_clause.Goals as goal

pub returns-in-Some-clause-reaches : goal.returns-in-Some-clause-reaches
returns-in-Some-clause-reaches c = λ p h e.
    let r = c.args.self.now in
    let s = c.args.sentence.now in
    let P : WrittenClause → Type 0 = λ w. FindsMore (flat_map found_in w) r.symbols c.add_clause.new.symbols c.in_ok-at.field-0 in
    let Q : Option ℕ → Type 0 = λ told. FindsMore (flat_map found_in (written s)) r.symbols c.add_clause.new.symbols told in
    let found = subst Q c.in-Some.is (subst P (c.as_slice.ensures ∙ c.in_ok-clause.ensures) c.in_ok-at.ensures) in
    symbol_refused p r c.args.home s _ c.add_clause.new.symbols c.in-Some.at h found

pub returns-clause-reaches : goal.returns-clause-reaches
returns-clause-reaches c = λ p h e.
    let r = c.args.self.now in
    let s = c.args.sentence.now in
    let P : WrittenClause → Type 0 = λ w. FindsMore (flat_map found_in w) r.symbols c.add_clause.new.symbols c.in_ok-at.field-0 in
    let Q : Option ℕ → Type 0 = λ told. FindsMore (flat_map found_in (written s)) r.symbols c.add_clause.new.symbols told in
    let found = subst Q c.in-None.is (subst P (c.as_slice.ensures ∙ c.in_ok-clause.ensures) c.in_ok-at.ensures) in
    let new : Reached = record { home = r.home; start = r.start; number = r.number; clauses = r.clauses + 1; count = r.count; symbols = c.add_clause.new.symbols; spoilt = r.spoilt || c.is_bad-bad.result } in
    let R : Option Place → Type 0 = λ told. Reaches (behind_clause p c.args.home s) new told in
    subst R (sym c.told.ensures)
    (clause_kept p r c.args.home s new c.is_bad-bad.result c.demodulator_told-at.result h e found
    (c.is_bad-bad.ensures s (c.as_slice-in-None.ensures ∙ c.in_ok-clause.ensures)) c.demodulator_told-at.ensures refl refl refl)

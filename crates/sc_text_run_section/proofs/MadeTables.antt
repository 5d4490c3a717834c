-- Tables made of entries that were read.
use Rattle.std.proofs.Common.{◌≡◌, ◌∙◌, sym, ap, subst, ℕ, ◌<◌, ◌^◌, List, [], ◌∷◌, All, length, map, drop, arith}
use Rattle.std.proofs.lemmas.List.{length-replicate}
use Rattle.std.proofs.lemmas.List.Elements.{All-cons}
use Rattle.sc_term.specs.declared.symbol.Symbol.{Symbol}
use Rattle.sc_interp.specs.Structure.{Structure, zero_table, zeros}
use Rattle.sc_interp.specs.declared.table.Table.{Table}
use Rattle.sc_text_run_rules.specs.RunValue.{entries_of}
use Rattle.sc_text_run_section.specs.Entries.{AreEntriesOf}
use Rattle.sc_text_run_section.specs.Filling.{MayFillAll, filled}
use Rattle.sc_text_run_section.proofs.FillingTables.{entries_filled}

pub short_rows : (size : ℕ) (ss : List Symbol) (rows : List (List ℕ)) → AreEntriesOf size ss rows → All (λ row. length row < 2 ^ 32) rows
short_rows size [] [] h = λ k d lt. absurd (omega (arith, lt))
short_rows size [] (r ∷ rows) h = absurd h
short_rows size (s ∷ ss) [] h = absurd h
short_rows size (s ∷ ss) (r ∷ rows) h = All-cons (λ (row : List ℕ). length row < 2 ^ 32) r rows h.0.few (short_rows size ss rows h.1)

may_fill : (size : ℕ) (ss : List Symbol) (rows : List (List ℕ)) → AreEntriesOf size ss rows → MayFillAll size (map (zero_table size) ss) rows
may_fill size [] [] h = tt
may_fill size [] (r ∷ rows) h = absurd h
may_fill size (s ∷ ss) [] h = absurd h
may_fill size (s ∷ ss) (r ∷ rows) h = (record { many = h.0.many ∙ sym (length-replicate (size ^ s.arity) 0); below = h.0.below }, may_fill size ss rows h.1)

-- tables of the symbols, every entry 0
module _ (symbols : List Symbol) (size : ℕ) (t : Structure) (rows : List (List ℕ)) (empty : t ≡ zeros symbols t.size) (same : size ≡ t.size) (h : AreEntriesOf size (drop 1 symbols) rows) where
  these : AreEntriesOf t.size (drop 1 symbols) rows
  these = subst (λ (k : ℕ). AreEntriesOf k (drop 1 symbols) rows) same h

  pub fit : MayFillAll t.size t.tables rows
  fit = subst (λ (ts : List Table). MayFillAll t.size ts rows) (sym (ap (λ (u : Structure). u.tables) empty)) (may_fill t.size (drop 1 symbols) rows these)

  pub entries_made : (new : Structure) → new ≡ record t { tables = filled t.tables rows } → entries_of new ≡ rows
  entries_made new is = ap entries_of is ∙ entries_filled t.size t.tables rows fit

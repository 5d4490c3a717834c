-- What structures keep, and over which signature they are.
use Rattle.std.proofs.Common.{◌≡◌, ◌∙◌, sym, ap, subst, refl, ℕ, zero, suc, ◌^◌, ◌<◌, ◌≤◌, List, [], ◌∷◌, map, drop, get_or, slice_get, slice_set, Option, Some, None, arith}
use Rattle.std.specs.List.{AllZip}
use Rattle.std.proofs.lemmas.List.{length-replicate}
use Rattle.std.proofs.lemmas.List.Elements.{All-map, All-replicate}
use Rattle.sc_term.specs.declared.symbol.Role.{Role}
use Rattle.sc_term.specs.declared.symbol.Role.TheVariants.{Function, Predicate}
use Rattle.sc_term.specs.declared.symbol.Symbol.{Symbol}
use Rattle.sc_interp.specs.declared.table.Table.{Table}
use Rattle.sc_interp.specs.Structure.{IsStructure, IsTable, values_below, zero_table, zeros, with_entry_in, IsTableOf, AreTablesOf}

zero_in_range : (role : Role) (size : ℕ) → 1 ≤ size → 0 < values_below role size
zero_in_range Function size h = omega arith
zero_in_range Predicate size h = omega arith

zero_is_table : (size : ℕ) (s : Symbol) → 1 ≤ size → IsTable size (zero_table size s)
zero_is_table size s h = record {
  many = length-replicate (size ^ s.arity) 0;
  in_range = All-replicate (λ e. e < values_below s.role size) (size ^ s.arity) 0 (zero_in_range s.role size h);
}

pub zeros_keep : (symbols : List Symbol) (size : ℕ) → 1 ≤ size → size ≤ 8 → IsStructure (zeros symbols size)
zeros_keep symbols size low high = record {
  not_empty = low;
  small = high;
  each = All-map (IsTable size) (zero_table size) (drop 1 symbols) (λ k d lt. zero_is_table size (get_or (drop 1 symbols) k d) low);
}

zero_tables_of : (size : ℕ) (ss : List Symbol) → AllZip IsTableOf ss (map (zero_table size) ss)
zero_tables_of size [] = tt
zero_tables_of size (s ∷ ss) = (record { role = refl; arity = refl }, zero_tables_of size ss)

pub zeros_of : (symbols : List Symbol) (size : ℕ) → AreTablesOf symbols (zeros symbols size)
zeros_of symbols size = zero_tables_of size (drop 1 symbols)

-- another table in the role and with the arity of the one at the place
set_of : (ss : List Symbol) (ts : List Table) (i : ℕ) (new old : Table) → slice_get ts i ≡ Some old → new.role ≡ old.role → new.arity ≡ old.arity
    → AllZip IsTableOf ss ts → AllZip IsTableOf ss (slice_set ts i new)
set_of [] [] i new old at role arity h = h
set_of [] (t ∷ ts) i new old at role arity h = absurd h
set_of (s ∷ ss) [] i new old at role arity h = absurd h
set_of (s ∷ ss) (t ∷ ts) zero new old at role arity h =
    let is : t ≡ old = cc in
    (record { role = role ∙ sym (ap (λ (x : Table). x.role) is) ∙ h.0.role; arity = arity ∙ sym (ap (λ (x : Table). x.arity) is) ∙ h.0.arity }, h.1)
set_of (s ∷ ss) (t ∷ ts) (suc i) new old at role arity h = (h.0, set_of ss ts i new old at role arity h.1)

pub with_entry_of : (ss : List Symbol) (old new : List Table) (at_table place value : ℕ) → new ≡ with_entry_in old at_table (slice_get old at_table) place value
    → AllZip IsTableOf ss old → AllZip IsTableOf ss new
with_entry_of ss old new at_table place value e h = subst (AllZip IsTableOf ss) (sym e) (by (slice_get old at_table) refl)
  where
    by : (o : Option Table) → slice_get old at_table ≡ o → AllZip IsTableOf ss (with_entry_in old at_table o place value)
    by None there = h
    by (Some table) there = set_of ss old at_table _ table there refl refl h

-- The tables of versions that are read are those of the signature.
use Rattle.std.proofs.Common.{◌≡◌, ◌∙◌, sym, ap, subst, ℕ, zero, suc, ◌<◌, List, [], ◌∷◌, ◌++◌, All, length, map, drop, get_or, slice_set, replicate, arith}
use Rattle.std.specs.List.{AllZip}
use Rattle.std.proofs.lemmas.List.Elements.{All-nil, All-cons, All-push, All-set}
use Rattle.sc_term.specs.declared.symbol.Symbol.{Symbol}
use Rattle.sc_interp.specs.Structure.{Structure, zeros, IsTableOf, AreTablesOf}
use Rattle.sc_interp.specs.declared.table.Table.{Table}
use Rattle.sc_interp.proofs.Structures.{zeros_of}
use Rattle.sc_text_run_rules.specs.declared.run.VersionText.{VersionText}
use Rattle.sc_text_run_section.specs.Filling.{filled}
use Rattle.sc_text_run_section.specs.OverSymbols.{HasTables, HaveTables}

-- ---- tables with other entries

still_tables : (ss : List Symbol) (ts : List Table) (rows : List (List ℕ)) → AllZip IsTableOf ss ts → AllZip IsTableOf ss (filled ts rows)
still_tables [] [] rows h = tt
still_tables [] (t ∷ ts) rows h = absurd h
still_tables (s ∷ ss) [] rows h = absurd h
still_tables (s ∷ ss) (t ∷ ts) [] h = h
still_tables (s ∷ ss) (t ∷ ts) (es ∷ rows) h = (record { role = h.0.role; arity = h.0.arity }, still_tables ss ts rows h.1)

-- tables that were empty and are filled
pub filled_over : (symbols : List Symbol) (old new : Structure) (rows : List (List ℕ)) → old ≡ zeros symbols old.size
    → new ≡ record old { tables = filled old.tables rows } → AreTablesOf symbols new
filled_over symbols old new rows empty is =
    subst (AreTablesOf symbols) (sym is)
    (still_tables (drop 1 symbols) old.tables rows (subst (AreTablesOf symbols) (sym empty) (zeros_of symbols old.size)))

-- ---- lists of versions

-- lists that are seen as empty are empty
pub nothing_in : {A B : Type 0} (f : A → B) (P : A → Type 0) (n : ℕ) (ls : List (List A)) → map (map f) ls ≡ replicate n [] → All (All P) ls
nothing_in f P n [] e = All-nil (All P)
nothing_in f P zero (l ∷ ls) e = cc
nothing_in f P (suc n) ([] ∷ ls) e = All-cons (All P) [] ls (All-nil P) (nothing_in f P n ls (let rest : map (map f) ls ≡ replicate n [] = cc in rest))
nothing_in f P (suc n) ((x ∷ l) ∷ ls) e = cc

module _ {A : Type 0} (P : A → Type 0) where
  in_it : (ls : List (List A)) (at : ℕ) (l : List A) → at < length ls → l ≡ get_or ls at l → All (All P) ls → All P l
  in_it ls at l lt e h = subst (All P) (sym e) (h at l lt)

  -- one more in one of the lists
  pub one_more : (ls : List (List A)) (at : ℕ) (l new : List A) (v : A) → at < length ls → l ≡ get_or ls at l → new ≡ l ++ v ∷ [] → P v
      → All (All P) ls → All (All P) (slice_set ls at new)
  one_more ls at l new v lt e push such h =
      All-set (All P) ls at new (subst (All P) (sym push) (All-push P l v (in_it ls at l lt e h) such)) h

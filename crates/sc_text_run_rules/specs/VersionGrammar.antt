-- The productions of versions: their rows, their tables and their claims.
use Rattle.std.specs.Prelude.{ℕ, zero, suc, ◌+◌, ◌-◌, ◌^◌, true, false, ◌&&◌, List, [], ◌∷◌, map, length, Ok, Err, codes, filter, nat_le, ◌==◌, if◌then◌else◌}
use Rattle.sc_term.specs.declared.symbol.Role.{Role}
use Rattle.sc_term.specs.declared.symbol.Symbol.{Symbol}
use Rattle.sc_interp.specs.Structure.{values_below, entry_count}
use Rattle.sc_input_rules.specs.declared.fault.InputKind.TheVariants.{TooMany}
use Rattle.sc_input_rules.specs.declared.token.Token.{Token}
use Rattle.sc_input_rules.specs.declared.token.Sign.TheVariants.{Stop, Colon}
use Rattle.sc_input_rules.specs.Reader.{Read, ◌>>=◌, the_sign, the_word}
use Rattle.sc_text_run_rules.specs.ModelText.{role_word, without_equality}
use Rattle.sc_text_run_rules.specs.RunValue.{VersionValue}
use Rattle.sc_text_run_rules.specs.RowWords.{a_number_in, a_number_from, the_row_number, numbers, counted, rows_of}

-- ---- the row of a version

-- from 1 to 8, and the tables of that size have at most 1,048,576 entries together
abbrev pub a_size : List Symbol → List Token → Read ℕ
a_size symbols tokens = a_number_from 1 8 tokens >>= λ size.
    elim (nat_le (entry_count symbols size.0) 1048576) [ true ↦ Ok size | false ↦ Err (record { left = tokens; kind = TooMany }) ]

-- which version it is, and its size
pub record VersionRow : Type 0 where
  pub finder : ℕ
  pub place : ℕ
  pub size : ℕ

-- the finder whose versions are told, and the place of its next one
pub record NextVersion : Type 0 where
  pub finder : ℕ
  pub place : ℕ

-- the next version of the finder, or the first of a later one
abbrev pub a_version_row : List Symbol → ℕ → NextVersion → List Token → Read VersionRow
a_version_row symbols lists next tokens = do
  begin ← the_word (codes "version") tokens
  f ← a_number_in (λ n. nat_le next.finder n && nat_le n lists) 0 4294967295 begin.1
  k ← the_row_number (if f.0 == next.finder then next.place else 0) f.1
  size ← a_size symbols k.1
  stop ← the_sign Stop size.1
  Ok (record { finder = f.0; place = k.0; size = size.0 }, stop.1)

-- ---- tables

-- an entry of a function is below the size, one of a predicate below 2
abbrev pub an_entry : Role → ℕ → List Token → Read ℕ
an_entry role size tokens = a_number_from 0 (values_below role size - 1) tokens

-- role, name and arity of the symbol, a colon, and an entry for each list of as many elements as the arity
abbrev pub a_table : ℕ → Symbol → List Token → Read (List ℕ)
a_table size s tokens = do
  role ← the_word (role_word s.role) tokens
  name ← the_word s.name role.1
  arity ← the_row_number s.arity name.1
  colon ← the_sign Colon arity.1
  entries ← counted (λ i. an_entry s.role size) (length colon.1) 0 (size ^ s.arity) colon.1
  stop ← the_sign Stop entries.1
  Ok (entries.0, stop.1)

-- one for each symbol, in order
abbrev pub tables : ℕ → List Symbol → List Token → Read (List (List ℕ))
tables size [] tokens = Ok ([], tokens)
tables size (s ∷ symbols) tokens =
    a_table size s tokens >>= λ entries. tables size symbols entries.1 >>= λ others. Ok (entries.0 ∷ others.0, others.1)

-- ---- versions

-- the numbers of the input clauses that a version makes true
abbrev pub claims : List Token → Read (List ℕ)
claims tokens = the_word (codes "claims") tokens >>= λ w. numbers w.1

-- what stands behind the row of a version of that size
abbrev pub version_behind : List Symbol → ℕ → List Token → Read VersionValue
version_behind symbols size tokens = do
  entries ← tables size (without_equality symbols) tokens
  ns ← claims entries.1
  Ok (record { size = size; entries = entries.0; claims = ns.0 }, ns.1)

-- a version, and which it is
pub record PlacedVersion : Type 0 where
  pub finder : ℕ
  pub place : ℕ
  pub version : VersionValue

abbrev pub a_version : List Symbol → ℕ → NextVersion → List Token → Read PlacedVersion
a_version symbols lists next tokens = do
  row ← a_version_row symbols lists next tokens
  v ← version_behind symbols row.0.size row.1
  Ok (record { finder = row.0.finder; place = row.0.place; version = v.0 }, v.1)

-- what may stand behind a version
abbrev pub behind_version : NextVersion → PlacedVersion → NextVersion
behind_version next v = record { finder = v.finder; place = v.place + 1 }

-- versions, the first as it is said
abbrev pub versions : List Symbol → ℕ → NextVersion → List Token → Read (List PlacedVersion)
versions symbols lists next tokens = rows_of (codes "version") (a_version symbols lists) behind_version (length tokens) next tokens

-- those of one finder
abbrev pub of_finder : ℕ → List PlacedVersion → List VersionValue
of_finder finder vs = map (λ v. v.version) (filter (λ v. v.finder == finder) vs)

-- those of each of as many finders, from the one given on
abbrev pub by_finder : ℕ → ℕ → List PlacedVersion → List (List VersionValue)
by_finder zero finder vs = []
by_finder (suc n) finder vs = of_finder finder vs ∷ by_finder n (finder + 1) vs

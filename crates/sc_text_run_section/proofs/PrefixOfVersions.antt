-- The first tokens decide how the versions of a run text are read.
use Rattle.std.proofs.Common.{refl, ℕ, ◌-◌, ◌^◌, Bool, true, false, ◌&&◌, List, [], ◌∷◌, ◌++◌, length, Ok, Err, arith}
use Rattle.std.specs.Prelude.{codes, ◌==◌, nat_le, if◌then◌else◌}
use Rattle.std.specs.List.{list_all}
use Rattle.std.specs.Str.Parse.{digits_value}
use Rattle.sc_term.specs.declared.symbol.Symbol.{Symbol}
use Rattle.sc_interp.specs.Structure.{values_below, entry_count}
use Rattle.sc_text_run_rules.specs.ModelText.{role_word, without_equality}
use Rattle.sc_input_rules.specs.declared.fault.InputKind.TheVariants.{OutOfRange, TooMany}
use Rattle.sc_input_rules.specs.declared.token.Token.{Token}
use Rattle.sc_input_rules.specs.declared.token.Token.TheVariants.{Word, Punctuation, Refused}
use Rattle.sc_input_rules.specs.declared.token.Sign.TheVariants.{Stop, Colon}
use Rattle.sc_input_rules.specs.Tokens.{is_digit}
use Rattle.sc_input_rules.specs.Reader.{Read, ◌>>=◌, unexpected, the_sign, the_word}
use Rattle.sc_input_rules.proofs.Shrinking.{Shrinks, in_turn, either_way}
use Rattle.sc_input_rules.proofs.Prefix.{Agrees, Good, good_from, good_sign, taken, one_of_two}
use Rattle.sc_input_rules.proofs.PrefixInTurn.{Takes, bound, good_pure}
use Rattle.sc_input_rules.proofs.PrefixOfClauses.{good_map, good_then}
use Rattle.sc_input_rules.proofs.PrefixOfItems.{good_the_word}
use Rattle.sc_text_run_rules.specs.RowWords.{is_in_range, a_number_in, a_number_from, the_row_number, numbers, counted}
use Rattle.sc_text_run_rules.specs.VersionGrammar.{VersionRow, NextVersion, PlacedVersion, a_size, a_version_row, an_entry, a_table, tables, claims, version_behind, behind_version, a_version, versions, by_finder}
use Rattle.sc_text_run_rules.specs.RunSection.{version_lists}
use Rattle.sc_text_run_section.proofs.PrefixOfRows.{good_in, good_from_to, good_the_row_number, takes_in, takes_first, takes_word, good_numbers, good_all_counted, good_all_rows}

-- ---- versions

size-shrinks : (symbols : List Symbol) → Shrinks (a_size symbols)
size-shrinks symbols ts =
    in_turn (length ts) (a_number_from 1 8 ts) _ ((good_from_to 0 0 1 8).short ts) (λ size le.
    either_way (length ts) (nat_le (entry_count symbols size.0) 1048576) (Ok size) (Err (record { left = ts; kind = TooMany })) le (omega arith))

module _ (symbols : List Symbol) (at : ℕ) (text : List ℕ) (front more : List Token) where
  abbrev bounded : List Token → List Token → Bool → Bool → Read ℕ
  bounded behind whole b c =
      elim b as (λ _. Read ℕ) [ true ↦ elim c as (λ _. Read ℕ) [ true ↦ Ok (digits_value 10 text, behind) | false ↦ Err (record { left = whole; kind = OutOfRange }) ] | false ↦ unexpected whole ]
      >>= λ size. elim (nat_le (entry_count symbols size.0) 1048576) as (λ _. Read ℕ) [ true ↦ Ok size | false ↦ Err (record { left = whole; kind = TooMany }) ]

  bounded_agrees : (b c : Bool) → Agrees more (bounded front (Word at text ∷ front) b c) (bounded (front ++ more) (Word at text ∷ (front ++ more)) b c)
  bounded_agrees true true =
      one_of_two more (nat_le (entry_count symbols (digits_value 10 text)) 1048576) (Ok (digits_value 10 text, front)) (Ok (digits_value 10 text, front ++ more))
      (Err (record { left = Word at text ∷ front; kind = TooMany })) (Err (record { left = Word at text ∷ (front ++ more); kind = TooMany })) (taken (digits_value 10 text) front more) refl
  bounded_agrees true false = refl
  bounded_agrees false c = refl

size_agrees : (symbols : List Symbol) (t : Token) (front more : List Token) → Agrees more (a_size symbols (t ∷ front)) (a_size symbols (t ∷ (front ++ more)))
size_agrees symbols (Word at text) front more = bounded_agrees symbols at text front more (list_all is_digit text && true) (is_in_range 1 8 text)
size_agrees symbols (Punctuation at s) front more = refl
size_agrees symbols (Refused at kind) front more = refl

good_size : (n m : ℕ) (symbols : List Symbol) → Good n m (a_size symbols) (a_size symbols)
good_size n m symbols = good_from n m _ _ (size-shrinks symbols) (size-shrinks symbols) (λ t front more e e'. size_agrees symbols t front more)

abbrev row_3 : ℕ → ℕ → ℕ → List Token → Read VersionRow
row_3 f k size ts = bound (the_sign Stop ts) (λ u ts. Ok (record { finder = f; place = k; size = size }, ts))

abbrev row_2 : List Symbol → ℕ → ℕ → List Token → Read VersionRow
row_2 symbols f k ts = bound (a_size symbols ts) (row_3 f k)

abbrev row_1 : List Symbol → NextVersion → ℕ → List Token → Read VersionRow
row_1 symbols next f ts = bound (the_row_number (if f == next.finder then next.place else 0) ts) (row_2 symbols f)

abbrev row_0 : List Symbol → ℕ → NextVersion → List Token → Read VersionRow
row_0 symbols lists next ts = bound (a_number_in (λ k. nat_le next.finder k && nat_le k lists) 0 4294967295 ts) (row_1 symbols next)

good_row_0 : (n m : ℕ) (symbols : List Symbol) (lists : ℕ) (next : NextVersion) → Good n m (row_0 symbols lists next) (row_0 symbols lists next)
good_row_0 n m symbols lists next =
    good_then n m (a_number_in (λ k. nat_le next.finder k && nat_le k lists) 0 4294967295) (row_1 symbols next) (good_in n m (λ k. nat_le next.finder k && nat_le k lists) 0 4294967295) (λ f.
    good_then n m (the_row_number (if f == next.finder then next.place else 0)) (row_2 symbols f) (good_the_row_number n m (if f == next.finder then next.place else 0)) (λ k.
    good_then n m (a_size symbols) (row_3 f k) (good_size n m symbols) (λ size.
    good_map n m (the_sign Stop) (λ u. record { finder = f; place = k; size = size }) (good_sign n m Stop))))

good_version_row : (n m : ℕ) (symbols : List Symbol) (lists : ℕ) (next : NextVersion) → Good n m (a_version_row symbols lists next) (a_version_row symbols lists next)
good_version_row n m symbols lists next = good_then n m (the_word (codes "version")) (λ u. row_0 symbols lists next) (good_the_word n m (codes "version")) (λ u. good_row_0 n m symbols lists next)

abbrev entries_at : ℕ → Symbol → List Token → Read (List ℕ)
entries_at size s ts = counted (λ i. an_entry s.role size) (length ts) 0 (size ^ s.arity) ts

abbrev table_4 : List ℕ → List Token → Read (List ℕ)
table_4 entries ts = bound (the_sign Stop ts) (λ u ts. Ok (entries, ts))

abbrev table_3 : ℕ → Symbol → List Token → Read (List ℕ)
table_3 size s ts = bound (entries_at size s ts) table_4

abbrev table_2 : ℕ → Symbol → List Token → Read (List ℕ)
table_2 size s ts = bound (the_sign Colon ts) (λ u. table_3 size s)

abbrev table_1 : ℕ → Symbol → List Token → Read (List ℕ)
table_1 size s ts = bound (the_row_number s.arity ts) (λ a. table_2 size s)

abbrev table_0 : ℕ → Symbol → List Token → Read (List ℕ)
table_0 size s ts = bound (the_word s.name ts) (λ u. table_1 size s)

good_table : (n m size : ℕ) (s : Symbol) → Good n m (a_table size s) (a_table size s)
good_table n m size s =
    good_then n m (the_word (role_word s.role)) (λ u. table_0 size s) (good_the_word n m (role_word s.role)) (λ u.
    good_then n m (the_word s.name) (λ u. table_1 size s) (good_the_word n m s.name) (λ u.
    good_then n m (the_row_number s.arity) (λ a. table_2 size s) (good_the_row_number n m s.arity) (λ a.
    good_then n m (the_sign Colon) (λ u. table_3 size s) (good_sign n m Colon) (λ u.
    good_then n m (entries_at size s) table_4
    (good_all_counted (λ i. an_entry s.role size) (λ i k l. good_from_to k l 0 (values_below s.role size - 1)) (λ i. takes_in (λ k. true) 0 (values_below s.role size - 1)) n m 0 (size ^ s.arity)) (λ entries.
    good_map n m (the_sign Stop) (λ u. entries) (good_sign n m Stop))))))

good_tables : (n m size : ℕ) (symbols : List Symbol) → Good n m (tables size symbols) (tables size symbols)
good_tables n m size [] = good_pure n m []
good_tables n m size (s ∷ symbols) =
    good_then n m (a_table size s) (λ entries ts. bound (tables size symbols ts) (λ others ts. Ok (entries ∷ others, ts))) (good_table n m size s) (λ entries.
    good_map n m (tables size symbols) (λ others. entries ∷ others) (good_tables n m size symbols))

good_claims : (n m : ℕ) → Good n m claims claims
good_claims n m = good_then n m (the_word (codes "claims")) (λ u. numbers) (good_the_word n m (codes "claims")) (λ u. good_numbers n m)

good_version_behind : (n m : ℕ) (symbols : List Symbol) (size : ℕ) → Good n m (version_behind symbols size) (version_behind symbols size)
good_version_behind n m symbols size =
    good_then n m (tables size (without_equality symbols)) (λ entries ts. bound (claims ts) (λ ns ts. Ok (record { size = size; entries = entries; claims = ns }, ts))) (good_tables n m size (without_equality symbols)) (λ entries.
    good_map n m claims (λ ns. record { size = size; entries = entries; claims = ns }) (good_claims n m))

abbrev placed_1 : List Symbol → VersionRow → List Token → Read PlacedVersion
placed_1 symbols row ts = bound (version_behind symbols row.size ts) (λ v ts. Ok (record { finder = row.finder; place = row.place; version = v }, ts))

good_version : (n m : ℕ) (symbols : List Symbol) (lists : ℕ) (next : NextVersion) → Good n m (a_version symbols lists next) (a_version symbols lists next)
good_version n m symbols lists next =
    good_then n m (a_version_row symbols lists next) (placed_1 symbols) (good_version_row n m symbols lists next) (λ row.
    good_map n m (version_behind symbols row.size) (λ v. record { finder = row.finder; place = row.place; version = v }) (good_version_behind n m symbols row.size))

takes_version_row : (symbols : List Symbol) (lists : ℕ) (next : NextVersion) → Takes 1 (a_version_row symbols lists next)
takes_version_row symbols lists next = takes_first (the_word (codes "version")) (λ u. row_0 symbols lists next) (takes_word (codes "version")) (λ u. (good_row_0 0 0 symbols lists next).short)

takes_version : (symbols : List Symbol) (lists : ℕ) (next : NextVersion) → Takes 1 (a_version symbols lists next)
takes_version symbols lists next =
    takes_first (a_version_row symbols lists next) (placed_1 symbols) (takes_version_row symbols lists next) (λ row.
    (good_map 0 0 (version_behind symbols row.size) (λ v. record { finder = row.finder; place = row.place; version = v }) (good_version_behind 0 0 symbols row.size)).short)

pub good_lists : (n m : ℕ) (symbols : List Symbol) (lists : ℕ) → Good n m (version_lists symbols lists) (version_lists symbols lists)
good_lists n m symbols lists =
    good_map n m (versions symbols lists (record { finder = 1; place = 0 })) (λ vs. by_finder lists 1 vs)
    (good_all_rows (codes "version") (a_version symbols lists) behind_version (λ s k l. good_version k l symbols lists s) (takes_version symbols lists) n m (record { finder = 1; place = 0 }))

-- The names of terms and atoms over the symbols are known, and short numbers are in range.
use Rattle.std.proofs.Common.{◌≡◌, ◌∙◌, ap, refl, ℕ, zero, suc, ◌<◌, ◌≤◌, ◌^◌, Bool, true, false, List, [], ◌∷◌, ◌++◌, length, Some, arith, not, ◌||◌}
use Rattle.std.specs.Prelude.{◌&&◌, codes, decimal, slice_get, nat_lt, if◌then◌else◌}
use Rattle.std.specs.List.{AllByRecursion, list_any}
use Rattle.std.proofs.lemmas.Bool.{le-ltb}
use Rattle.std.proofs.lemmas.Fmt.{length-decimal-le}
use Rattle.sc_term.specs.declared.symbol.Role.TheVariants.{Function, Predicate}
use Rattle.sc_term.specs.declared.symbol.Symbol.{Symbol}
use Rattle.sc_term.specs.Symbol.{same_symbol, IsSignature}
use Rattle.sc_term.proofs.SymbolLaws.{same_as_itself}
use Rattle.sc_input_rules.specs.declared.written.Occurrence.{Occurrence}
use Rattle.sc_input_rules.specs.Numbering.{is_variable, function_at}
use Rattle.sc_input_rules.proofs.ArityLaw.{SmallArity}
use Rattle.sc_text_rules.specs.TextWords.{is_longer_or_above, is_symbol, is_numbered_variable, digits_behind_x, is_unknown_term, is_unknown_atom, is_large_variable}
use Rattle.sc_text_laws.specs.Printable.{IsNamed}
use Rattle.sc_text_laws.proofs.NumberTexts.{value_back, behind_x, is_numbered, numbered_is_variable}

-- nothing is told of the name in the place of a term
pub record KnownTerm (symbols : List Symbol) (o : Occurrence) : Type 0 where
  pub known : is_unknown_term symbols o ≡ false
  pub small : is_large_variable o ≡ false
  pub arity : SmallArity o

-- ---- numbers

pub in_range : (high n : ℕ) → n ≤ high → n < 2 ^ 32 → is_longer_or_above high (decimal n) ≡ false
in_range high n le h =
    let short : length (decimal n) ≤ 10 = length-decimal-le 10 n (omega arith) (omega arith) (omega arith) in
    let value = value_back n (omega arith) in
    (λ i. le-ltb 10 (length (decimal n)) short i || nat_lt high (value i)) ∙ le-ltb high n le

-- ---- variables

pub variable_known : (symbols : List Symbol) (at n : ℕ) → n < 65536 → KnownTerm symbols (record { at = at; name = codes "x" ++ decimal n; arity = 0 })
variable_known symbols at n h =
    let o : Occurrence = record { at = at; name = codes "x" ++ decimal n; arity = 0 } in
    let numbered = is_numbered at n (omega arith) in
    let variable = numbered_is_variable o numbered in
    record {
      known = (λ i. if variable i then not (numbered i) else not (is_symbol symbols (function_at o).symbol));
      small = (λ i. numbered i && is_longer_or_above 65535 (behind_x n (omega arith) i)) ∙ in_range 65535 n (omega arith) (omega arith);
      arity = omega arith;
    }

-- ---- symbols

listed_at : (symbols : List Symbol) (i : ℕ) (s : Symbol) → slice_get symbols i ≡ Some s → is_symbol symbols s ≡ true
listed_at [] i s e = absurd cc
listed_at (x ∷ xs) zero s e =
    let is : x ≡ s = cc in
    let same : same_symbol s x ≡ true = ap (same_symbol s) is ∙ same_as_itself s in
    ap (λ (b : Bool). b || list_any (same_symbol s) xs) same
listed_at (x ∷ xs) (suc i) s e = either (same_symbol s x) (listed_at xs i s e)
  where
    either : (b : Bool) → list_any (same_symbol s) xs ≡ true → (b || list_any (same_symbol s) xs) ≡ true
    either true h = refl
    either false h = h

small_at : (symbols : List Symbol) (i : ℕ) (s : Symbol) → AllByRecursion (λ (s : Symbol). s.arity ≤ 8) symbols → slice_get symbols i ≡ Some s → s.arity ≤ 8
small_at [] i s h e = absurd cc
small_at (x ∷ xs) zero s h e =
    let is : x ≡ s = cc in
    let same = ap (λ (s : Symbol). s.arity) is in
    let le = h.0 in
    omega arith
small_at (x ∷ xs) (suc i) s h e = small_at xs i s h.1 e

not_numbered : (o : Occurrence) → is_variable o ≡ false → is_numbered_variable o ≡ false
not_numbered o e = by (is_numbered_variable o) refl
  where
    by : (b : Bool) → is_numbered_variable o ≡ b → b ≡ false
    by true h = let v = numbered_is_variable o h in cc
    by false h = refl

pub symbol_known : (symbols : List Symbol) (i at n : ℕ) (name : List ℕ) → IsSignature symbols → slice_get symbols i ≡ Some (record { name = name; arity = n; role = Function })
    → IsNamed (record { name = name; arity = n; role = Function }) → KnownTerm symbols (record { at = at; name = name; arity = n })
symbol_known symbols i at n name h e named =
    let o : Occurrence = record { at = at; name = name; arity = n } in
    let s : Symbol = record { name = name; arity = n; role = Function } in
    let other : is_variable o ≡ false = named.constant in
    let listed = listed_at symbols i s e in
    record {
      known = (λ j. if other j then not (is_numbered_variable o) else not (listed j));
      small = (λ j. not_numbered o other j && is_longer_or_above 65535 (digits_behind_x o.name));
      arity = small_at symbols i s h.arities e;
    }

pub atom_known : (symbols : List Symbol) (i at n : ℕ) (name : List ℕ) → slice_get symbols i ≡ Some (record { name = name; arity = n; role = Predicate })
    → is_unknown_atom symbols (record { at = at; name = name; arity = n }) ≡ false
atom_known symbols i at n name e = ap not (listed_at symbols i (record { name = name; arity = n; role = Predicate }) e)

pub atom_small : (symbols : List Symbol) (i at n : ℕ) (name : List ℕ) → IsSignature symbols → slice_get symbols i ≡ Some (record { name = name; arity = n; role = Predicate })
    → SmallArity (record { at = at; name = name; arity = n })
atom_small symbols i at n name h e = small_at symbols i (record { name = name; arity = n; role = Predicate }) h.arities e

-- Lines whose numbers and variables are small are answered as they are.
use Rattle.std.proofs.Common.{◌≡◌, ◌∙◌, sym, ap, refl, ◌≤◌, min, Bool, true, false, List, [], ◌∷◌, ◌++◌, map, take, drop, Some, None, arith}
use Rattle.std.specs.Prelude.{ℕ, suc, ◌&&◌, nat_lt, length, flat_map, if◌then◌else◌}
use Rattle.std.specs.List.{AllByRecursion}
use Rattle.std.specs.Str.Parse.{digits_value}
use Rattle.std.proofs.lemmas.Bool.{leb-false}
use Rattle.std.proofs.lemmas.List.{map-append, take-map, drop-map}
use Rattle.std.proofs.Math.Nat.{min-eq_left}
use Rattle.sc_term.specs.declared.Term.{Term, Var}
use Rattle.sc_term.specs.declared.Term.TheVariants.{App}
use Rattle.sc_term.specs.declared.SymId.{SymId}
use Rattle.sc_term.proofs.SubstitutionLaws.{all_split}
use Rattle.sc_term.proofs.TermLaws.{fold-Var, fold-App}
use Rattle.sc_term.specs.declared.symbol.Symbol.{Symbol}
use Rattle.sc_input_rules.specs.declared.written.Occurrence.{Occurrence}
use Rattle.sc_input_rules.specs.Syntax.{Side, WrittenClause}
use Rattle.sc_input_rules.specs.Numbering.{function_at, symbol_number, terms_of, literal_of}
use Rattle.sc_input_rules.proofs.Booleans.{neither}
use Rattle.sc_text_rules.specs.TextWords.{digits_behind_x, is_numbered_variable, is_longer_or_above, text_variable}
use Rattle.sc_text_section.specs.Clipped.{clipped, clipped_at, clipped_term, clipped_literal}
use Rattle.sc_text.proofs.SmallWords.{SmallVariable}
use Rattle.sc_text.proofs.SmallClauses.{HasSmallTerms}

pub min_exact : (n : ℕ) → n ≤ 4294967295 → min n 4294967295 ≡ n
min_exact n small = min-eq_left small

-- ---- terms

clipped-Var : (n : ℕ) → clipped_term (Var n) ≡ Var (min n 4294967295)
clipped-Var n = fold-Var Term clipped_at n

clipped-App : (f : SymId) (ts : List Term) → clipped_term (App f ts) ≡ App f (map clipped_term ts)
clipped-App f ts = fold-App Term clipped_at f ts

not_above : (digits : List ℕ) → is_longer_or_above 65535 digits ≡ false → digits_value 10 digits ≤ 4294967295
not_above digits e = let k = leb-false (suc 65535) (digits_value 10 digits) (neither (nat_lt 10 (length digits)) (nat_lt 65535 (digits_value 10 digits)) e).1 in omega (arith, k)

-- a variable, or a symbol with its arguments
abbrev term_if : Bool → ℕ → SymId → List Term → Term
term_if b n f args = elim (if b then Some n else None) [ Some n ↦ Var n | None ↦ App f args ]

if_exact : (b : Bool) (digits : List ℕ) (f : SymId) (args : List Term) → (b && is_longer_or_above 65535 digits) ≡ false → map clipped_term args ≡ args
    → clipped_term (term_if b (digits_value 10 digits) f args) ≡ term_if b (digits_value 10 digits) f args
if_exact true digits f args small e = clipped-Var (digits_value 10 digits) ∙ ap Var (min_exact (digits_value 10 digits) (not_above digits small))
if_exact false digits f args small e = clipped-App f args ∙ ap (App f) e

pub terms_exact : (symbols : List Symbol) (os : List Occurrence) → AllByRecursion SmallVariable os → map clipped_term (terms_of text_variable symbols os) ≡ terms_of text_variable symbols os
terms_exact symbols [] h = refl
terms_exact symbols (o ∷ os) h =
    let later = terms_of text_variable symbols os in
    let e = terms_exact symbols os h.1 in
    let f = symbol_number symbols (function_at o).symbol in
    let args : map clipped_term (take o.arity later) ≡ take o.arity later = sym (take-map clipped_term o.arity later) ∙ ap (take o.arity) e in
    let rest : map clipped_term (drop o.arity later) ≡ drop o.arity later = sym (drop-map clipped_term o.arity later) ∙ ap (drop o.arity) e in
    let first = if_exact (is_numbered_variable o) (digits_behind_x o.name) f (take o.arity later) h.0 args in
    (λ i. first i ∷ rest i)

-- the terms of several sides
pub sides_exact : (symbols : List Symbol) (ss : List Side) → AllByRecursion SmallVariable (flat_map (λ s. s) ss) → map clipped_term (flat_map (terms_of text_variable symbols) ss) ≡ flat_map (terms_of text_variable symbols) ss
sides_exact symbols [] h = refl
sides_exact symbols (s ∷ ss) h =
    let a = all_split SmallVariable s (flat_map (λ s. s) ss) h in
    map-append clipped_term (terms_of text_variable symbols s) (flat_map (terms_of text_variable symbols) ss) ∙ (λ i. terms_exact symbols s a.0 i ++ sides_exact symbols ss a.1 i)

-- ---- clauses

pub literals_exact : (symbols : List Symbol) (c : WrittenClause) → AllByRecursion HasSmallTerms c → map clipped_literal (map (literal_of text_variable symbols) c) ≡ map (literal_of text_variable symbols) c
literals_exact symbols [] h = refl
literals_exact symbols (l ∷ ls) h =
    (λ i. record (literal_of text_variable symbols l) { args = terms_exact symbols l.arguments h.0 i } ∷ literals_exact symbols ls h.1 i)

-- ---- numbers

pub numbers_exact : (ns : List ℕ) → AllByRecursion (λ n. n ≤ 4294967295) ns → map clipped ns ≡ ns
numbers_exact [] h = refl
numbers_exact (n ∷ ns) h = (λ i. min_exact n h.0 i ∷ numbers_exact ns h.1 i)

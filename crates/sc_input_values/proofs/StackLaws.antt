-- A stack of terms is read from its top: the last is the first.
use Rattle.std.proofs.Common.{◌≡◌, ◌∙◌, sym, ap, ℕ, ◌-◌, ◌<◌, ◌≤◌, inl, inr, List, [], ◌∷◌, ◌++◌, reverse, map, length, take, drop, Option, Some, None, Bor, arith}
use Rattle.std.proofs.Math.Seq.{take-append_seam, drop-append_seam}
use Rattle.std.proofs.Math.ListN.{drop_of_length-le}
use Rattle.std.proofs.lemmas.Bool.{cases_lt}
use Rattle.std.proofs.lemmas.List.{reverse-append, reverse-reverse, map-append, length-reverse, length-drop, take-append-drop, take_all}
use Rattle.sc_term.specs.declared.SymId.{SymId}
use Rattle.sc_term.specs.declared.Term.{Term}
use Rattle.sc_term.specs.declared.Term.TheVariants.{Var, App}
use Rattle.sc_term.specs.declared.symbol.Symbol.{Symbol}
use Rattle.sc_input_rules.specs.declared.written.Occurrence.{Occurrence}
use Rattle.sc_input_rules.specs.Numbering.{terms_of, term_at, symbol_number, function_at}

-- the top of a list in two parts
seam : {X : Type 0} (xs a b : List X) (n : ℕ) → xs ≡ a ++ b → n ≡ length b → (reverse b ≡ take n (reverse xs)) × (reverse a ≡ drop n (reverse xs))
seam xs a b n parts is =
    let whole : reverse xs ≡ reverse b ++ reverse a = ap reverse parts ∙ reverse-append a b in
    let long : n ≡ length (reverse b) = is ∙ sym (length-reverse b) in (
      sym (ap (take n) whole ∙ ap (λ k. take k (reverse b ++ reverse a)) long ∙ take-append_seam (reverse b) (reverse a)),
      sym (ap (drop n) whole ∙ ap (λ k. drop k (reverse b ++ reverse a)) long ∙ drop-append_seam (reverse b) (reverse a)),
    )

-- where all but the last n are kept, the last n are the first of the stack; all of them where n is greater
pub off_top : {X : Type 0} (xs : List X) (n k : ℕ) → k ≡ length xs - n → (reverse (drop k xs) ≡ take n (reverse xs)) × (reverse (take k xs) ≡ drop n (reverse xs))
off_top xs n k kept = elim (cases_lt (length xs) n) [ inl few ↦ all few | inr enough ↦ some enough ]
  where
    some : n ≤ length xs → (reverse (drop k xs) ≡ take n (reverse xs)) × (reverse (take k xs) ≡ drop n (reverse xs))
    some enough = seam xs (take k xs) (drop k xs) n (sym (take-append-drop k xs)) (omega (arith, length-drop k xs))

    all : length xs < n → (reverse (drop k xs) ≡ take n (reverse xs)) × (reverse (take k xs) ≡ drop n (reverse xs))
    all few =
        let none : k ≡ 0 = omega arith in
        let long : length (reverse xs) ≤ n = omega (arith, length-reverse xs) in
        (ap (λ i. reverse (drop i xs)) none ∙ sym (take_all n (reverse xs) long), ap (λ i. reverse (take i xs)) none ∙ sym (drop_of_length-le (reverse xs) long))

-- with the term of the name before, where its arguments are taken off
pub name_before : (variable : Occurrence → Option ℕ) (symbols : List Symbol) (behind : List (Bor Occurrence)) (o : Bor Occurrence) (stack left : List Term) (t : Term)
    → reverse stack ≡ terms_of variable symbols (reverse (map (λ p. p.now) behind)) → reverse left ≡ drop o.now.arity (reverse stack)
    → t ≡ term_at variable symbols o.now (reverse stack) → reverse (left ++ t ∷ []) ≡ terms_of variable symbols (reverse (map (λ p. p.now) (behind ++ o ∷ [])))
name_before variable symbols behind o stack left t so_far rest made =
    let later = terms_of variable symbols (reverse (map (λ p. p.now) behind)) in
    let names : reverse (map (λ p. p.now) (behind ++ o ∷ [])) ≡ o.now ∷ reverse (map (λ p. p.now) behind) =
    ap reverse (map-append (λ (p : Bor Occurrence). p.now) behind (o ∷ [])) ∙ reverse-append (map (λ p. p.now) behind) (o.now ∷ []) in
    reverse-append left (t ∷ []) ∙ (λ j. made j ∷ rest j) ∙ (λ j. term_at variable symbols o.now (so_far j) ∷ drop o.now.arity (so_far j)) ∙ sym (ap (terms_of variable symbols) names)

pub from_end : (variable : Occurrence → Option ℕ) (symbols : List Symbol) (behind : List (Bor Occurrence)) (all : List Occurrence) (stack turned out : List Term)
    → out ≡ turned → turned ≡ reverse stack → reverse stack ≡ terms_of variable symbols (reverse (map (λ p. p.now) behind)) → map (λ p. p.now) behind ≡ reverse all
    → out ≡ terms_of variable symbols all
from_end variable symbols behind all stack turned out is was so_far end = is ∙ was ∙ so_far ∙ ap (terms_of variable symbols) (ap reverse end ∙ reverse-reverse all)

pub variable_term : (variable : Occurrence → Option ℕ) (symbols : List Symbol) (o : Occurrence) (later : List Term) (n : ℕ) → Some n ≡ variable o → Var n ≡ term_at variable symbols o later
variable_term variable symbols o later n e = ap (λ v. elim v [ Some k ↦ Var k | None ↦ App (symbol_number symbols (function_at o).symbol) (take o.arity later) ]) e

pub symbol_term : (variable : Occurrence → Option ℕ) (symbols : List Symbol) (o : Occurrence) (later args : List Term) (f : SymId) → None ≡ variable o
    → f ≡ symbol_number symbols (function_at o).symbol → args ≡ take o.arity later → App f args ≡ term_at variable symbols o later
symbol_term variable symbols o later args f e named taken =
    (λ j. App (named j) (taken j)) ∙ ap (λ v. elim v [ Some k ↦ Var k | None ↦ App (symbol_number symbols (function_at o).symbol) (take o.arity later) ]) e

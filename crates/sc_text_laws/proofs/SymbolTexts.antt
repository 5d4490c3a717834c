-- The symbols of terms and atoms have names, and are found again by them.
use Rattle.std.proofs.Common.{◌≡◌, ◌≢◌, ◌∙◌, sym, ap, subst, refl, ℕ, zero, suc, ◌+◌, ◌<◌, Bool, true, false, List, [], ◌∷◌, length, drop, cond, Option, Some, None, arith, not}
use Rattle.std.specs.Prelude.{◌&&◌, ◌==◌, slice_get, unwrap_or, nat_lt}
use Rattle.std.specs.List.{AllByRecursion, IsDistinct, position_or_len}
use Rattle.std.proofs.lemmas.Bool.{eqb-true}
use Rattle.sc_term.specs.declared.SymId.{SymId}
use Rattle.sc_term.specs.declared.symbol.Role.{Role}
use Rattle.sc_term.specs.declared.symbol.Role.TheVariants.{Function, Predicate}
use Rattle.sc_term.specs.declared.symbol.Symbol.{Symbol}
use Rattle.sc_term.specs.Symbol.{role_number, same_symbol, equality, IsSignature}
use Rattle.sc_term.proofs.SymbolLaws.{equal_symbols, same_as_itself}
use Rattle.sc_input_rules.specs.Numbering.{number_of, symbol_number}
use Rattle.sc_input_rules.specs.WellFormed.{is_used_as}
use Rattle.sc_input_rules.proofs.Booleans.{parts_hold}
use Rattle.sc_input_rules.proofs.SymbolNumbers.{less}
use Rattle.sc_text_rules.specs.ClauseText.{name_of}
use Rattle.sc_text_laws.specs.Printable.{IsNamed, AreNamed}

-- ---- an element of a list

all_at : {X : Type 0} (P : X → Type 0) (xs : List X) (i : ℕ) (x : X) → AllByRecursion P xs → slice_get xs i ≡ Some x → P x
all_at P [] i x h e = absurd cc
all_at P (y ∷ ys) zero x h e = let is : y ≡ x = cc in subst P is h.0
all_at P (y ∷ ys) (suc i) x h e = all_at P ys i x h.1 e

below_length : {X : Type 0} (xs : List X) (i : ℕ) (x : X) → slice_get xs i ≡ Some x → i < length xs
below_length [] i x e = absurd cc
below_length (y ∷ ys) zero x e = omega arith
below_length (y ∷ ys) (suc i) x e = let h = below_length ys i x e in omega arith

-- ---- a symbol's number

first_place : (xs : List Symbol) (i : ℕ) (s : Symbol) → IsDistinct same_symbol xs → slice_get xs i ≡ Some s → position_or_len (same_symbol s) xs ≡ i
unfolding IsDistinct
first_place [] i s d e = absurd cc
first_place (x ∷ xs) zero s d e =
    let is : x ≡ s = cc in
    let same : same_symbol s x ≡ true = ap (same_symbol s) is ∙ same_as_itself s in
    ap (λ (b : Bool). cond (not b) (1 + position_or_len (same_symbol s) xs) 0) same
first_place (x ∷ xs) (suc i) s d e =
    ap (λ (b : Bool). cond (not b) (1 + position_or_len (same_symbol s) xs) 0) (by (same_symbol s x) refl) ∙ (let ih = first_place xs i s d.1 e in omega arith)
  where
    by : (b : Bool) → same_symbol s x ≡ b → b ≡ false
    by true h =
        let is = equal_symbols s x h in
        let other : same_symbol x s ≡ false = all_at (λ y. same_symbol x y ≡ false) xs i s d.0 e in
        let same : same_symbol x s ≡ true = ap (same_symbol x) is ∙ same_as_itself x in
        cc
    by false h = refl

number_back : (xs : List Symbol) (i : ℕ) (s : Symbol) → IsDistinct same_symbol xs → slice_get xs i ≡ Some s → number_of (same_symbol s) xs ≡ i
number_back xs i s d e =
    let p = first_place xs i s d e in
    let lt = less i (length xs) (below_length xs i s e) in
    ap (λ (n : ℕ). unwrap_or (cond (nat_lt n (length xs)) (Some n) None) 0) p ∙ ap (λ (b : Bool). unwrap_or (cond b (Some i) None) 0) lt

-- ---- the symbol of a number

-- the number is that of a symbol of this role and arity
pub record SymbolIs (symbols : List Symbol) (role : Role) (f : SymId) (n : ℕ) : Type 0 where
  pub name : List ℕ
  pub here : slice_get symbols f.0 ≡ Some (record { name = name; arity = n; role = role })

role_of_number : (r s : Role) → role_number r ≡ role_number s → r ≡ s
role_of_number Function Function e = refl
role_of_number Function Predicate e = absurd (omega arith)
role_of_number Predicate Function e = absurd (omega arith)
role_of_number Predicate Predicate e = refl

pub symbol_is : (symbols : List Symbol) (role : Role) (f : SymId) (n : ℕ) → is_used_as symbols role f n ≡ true → SymbolIs symbols role f n
symbol_is symbols role f n e = by (slice_get symbols f.0) refl e
  where
    by : (o : Option Symbol) → slice_get symbols f.0 ≡ o → (elim o [ None ↦ false | Some s ↦ role_number s.role == role_number role && s.arity == n ]) ≡ true → SymbolIs symbols role f n
    by None h e = absurd cc
    by (Some s) h e =
        let p = parts_hold (role_number s.role == role_number role) (s.arity == n) e in
        let r = role_of_number s.role role (eqb-true (role_number s.role) (role_number role) p.0) in
        let a = eqb-true s.arity n p.1 in
        record { name = s.name; here = h ∙ (λ i. Some (record { name = s.name; arity = a i; role = r i })) }

pub name_is : (symbols : List Symbol) (f : SymId) (s : Symbol) → slice_get symbols f.0 ≡ Some s → name_of symbols f ≡ s.name
name_is symbols f s e = ap (λ (o : Option Symbol). elim o [ Some symbol ↦ symbol.name | None ↦ [] ]) e

abbrev symbol_id : ℕ → SymId
symbol_id n = record { 0 = n }

pub symbol_back : (symbols : List Symbol) (f : SymId) (s : Symbol) → IsSignature symbols → slice_get symbols f.0 ≡ Some s → symbol_number symbols s ≡ f
symbol_back symbols f s is e = ap symbol_id (number_back symbols f.0 s is.distinct e)

named_behind : (xs : List Symbol) (i : ℕ) (s : Symbol) → AllByRecursion IsNamed (drop 1 xs) → slice_get xs i ≡ Some s → i ≢ 0 → IsNamed s
named_behind [] i s h e other = absurd cc
named_behind (x ∷ xs) zero s h e other = absurd (other refl)
named_behind (x ∷ xs) (suc i) s h e other = all_at IsNamed xs i s h e

pub named_at : (symbols : List Symbol) (f : SymId) (s : Symbol) → AreNamed symbols → slice_get symbols f.0 ≡ Some s → f.0 ≢ 0 → IsNamed s
named_at symbols f s h e other = named_behind symbols f.0 s h.names e other

-- a function isn't `=`
pub function_named : (symbols : List Symbol) (f : SymId) (name : List ℕ) (n : ℕ) → AreNamed symbols → slice_get symbols f.0 ≡ Some (record { name = name; arity = n; role = Function })
    → IsNamed (record { name = name; arity = n; role = Function })
function_named symbols f name n h e =
    let s : Symbol = record { name = name; arity = n; role = Function } in
    named_at symbols f s h e (λ zero_is.
    let first : Some equality ≡ Some s = sym h.signature.first ∙ ap (slice_get symbols) (sym zero_is) ∙ e in
    let same : equality ≡ s = cc in
    let roles : role_number Predicate ≡ role_number Function = ap (λ (s : Symbol). role_number s.role) same in
    absurd (omega arith))

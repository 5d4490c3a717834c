-- What is lost where the numbers of items are clipped: nothing of a number of at most ten digits, and of a problem's
-- items nothing but how large a greater one is.
use Rattle.std.proofs.Common.{◌≡◌, ◌∙◌, sym, ap, refl, ℕ, zero, suc, ◌<◌, ◌≤◌, ◌^◌, min, Bool, true, false, ◌&&◌, cond, List, [], ◌∷◌, ◌++◌, map, flat_map, length, ℤ, pos, negsuc, nat_abs, neg_ℤ, arith}
use Rattle.std.proofs.Math.Nat.{min-eq_left, pow-le-pow_right}
use Rattle.std.proofs.Math.Dec.{leb}
use Rattle.std.proofs.lemmas.Bool.{leb-true}
use Rattle.std.proofs.lemmas.Str.{digit_value_digit}
use Rattle.std.proofs.lemmas.Int.Digits.{digits_value-lt}
use Rattle.std.specs.List.{list_all}
use Rattle.std.specs.Char.{digit_value}
use Rattle.std.specs.Str.Parse.{AllDigits, digits_value}
use Rattle.sc_input_rules.specs.Tokens.{is_digit}
use Rattle.std.proofs.lemmas.List.Concat.{flat_map-cons}
use Rattle.sc_input_rules.specs.declared.settings.Home.{Home}
use Rattle.sc_input_rules.specs.Token.{same_text}
use Rattle.sc_input_rules.specs.Syntax.{WrittenClause}
use Rattle.sc_input_rules.specs.ProblemGrammar.{value_of, Item, Setting, Assignment, Listing}
use Rattle.sc_input_rules.specs.Problem.{last_setting, last_value, listed, listed_clauses}
use Rattle.sc_input_grammar.specs.Items.{beyond, clipped, with_clipped}

-- ---- numbers

of_negative : (n : ℕ) → nat_abs (neg_ℤ (pos n)) ≡ n
of_negative zero = refl
of_negative (suc n) = refl

pub nat_abs-clipped : (z : ℤ) → nat_abs (clipped z) ≡ min (nat_abs z) beyond
nat_abs-clipped (pos n) = refl
nat_abs-clipped (negsuc n) = of_negative (min (suc n) beyond)

pub clipped_exact : (z : ℤ) → nat_abs z < beyond → clipped z ≡ z
clipped_exact (pos n) small = ap pos (min-eq_left (omega (arith, small)))
clipped_exact (negsuc n) small = ap (λ (k : ℕ). neg_ℤ (pos k)) (min-eq_left {n = suc n} (omega (arith, small)))

-- where what is answered has at most ten digits it is the number itself
pub exact_where_small : (z : ℤ) → nat_abs (clipped z) < beyond → clipped z ≡ z
exact_where_small z small = clipped_exact z (omega (arith, nat_abs-clipped z, small))

and_left : (a b : Bool) → (a && b) ≡ true → a ≡ true
and_left true b e = refl
and_left false b e = e

and_right : (a b : Bool) → (a && b) ≡ true → b ≡ true
and_right true b e = e
and_right false b e = absurd cc

digit_below : (d : ℕ) → is_digit d ≡ true → digit_value d < 10
digit_below d e =
    let low : 48 ≤ d = leb-true 48 d (and_left (leb 48 d) (leb d 57) e) in
    let high : d ≤ 57 = leb-true d 57 (and_right (leb 48 d) (leb d 57) e) in
    omega (arith, digit_value_digit d (low, high))

all_below : (ds : List ℕ) → list_all is_digit ds ≡ true → AllDigits 10 ds
all_below [] e = tt
all_below (d ∷ ds) e = (digit_below d (and_left (is_digit d) (list_all is_digit ds) e), all_below ds (and_right (is_digit d) (list_all is_digit ds) e))

-- what at most ten digits write is exact
pub numeral_exact : (ds : List ℕ) → list_all is_digit ds ≡ true → length ds ≤ 10 → clipped (value_of ds) ≡ value_of ds
numeral_exact ds e short =
    let below : digits_value 10 ds < 10 ^ length ds = digits_value-lt 10 ds (all_below ds e) in
    let most : 10 ^ length ds ≤ 10 ^ 10 = pow-le-pow_right {n = 10} (omega arith) short in
    clipped_exact (value_of ds) (omega (arith, below, most))

-- ---- items

pub last_setting-clipped : (name : List ℕ) (so_far : Bool) (items : List Item) → last_setting name so_far (map with_clipped items) ≡ last_setting name so_far items
last_setting-clipped name so_far [] = refl
last_setting-clipped name so_far (Setting n positive ∷ items) = last_setting-clipped name (cond (same_text name n.text) positive so_far) items
last_setting-clipped name so_far (Assignment n value ∷ items) = last_setting-clipped name so_far items
last_setting-clipped name so_far (Listing n clauses ∷ items) = last_setting-clipped name so_far items

chosen_value : (b : Bool) (z : ℤ) (so_far : ℕ) → cond b (nat_abs (clipped z)) (min so_far beyond) ≡ min (cond b (nat_abs z) so_far) beyond
chosen_value true z so_far = nat_abs-clipped z
chosen_value false z so_far = refl

pub last_value-clipped : (name : List ℕ) (so_far : ℕ) (items : List Item)
    → last_value name (min so_far beyond) (map with_clipped items) ≡ min (last_value name so_far items) beyond
last_value-clipped name so_far [] = refl
last_value-clipped name so_far (Setting n positive ∷ items) = last_value-clipped name so_far items
last_value-clipped name so_far (Assignment n value ∷ items) =
    ap (λ (k : ℕ). last_value name k (map with_clipped items)) (chosen_value (same_text name n.text) value so_far)
    ∙ last_value-clipped name (cond (same_text name n.text) (nat_abs value) so_far) items
last_value-clipped name so_far (Listing n clauses ∷ items) = last_value-clipped name so_far items

listed-clipped : (x : Item) → listed (with_clipped x) ≡ listed x
listed-clipped (Setting n positive) = refl
listed-clipped (Assignment n value) = refl
listed-clipped (Listing n clauses) = refl

pub listed_clauses-clipped : (items : List Item) → listed_clauses (map with_clipped items) ≡ listed_clauses items
listed_clauses-clipped [] = refl
listed_clauses-clipped (x ∷ items) =
    flat_map-cons listed (with_clipped x) (map with_clipped items)
    ∙ ap (λ (here : List (Home × WrittenClause)). here ++ flat_map listed (map with_clipped items)) (listed-clipped x)
    ∙ ap (λ (others : List (Home × WrittenClause)). listed x ++ others) (listed_clauses-clipped items)
    ∙ sym (flat_map-cons listed x items)

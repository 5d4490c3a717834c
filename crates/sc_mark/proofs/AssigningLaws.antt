-- The assignment of a number: its digits, the least first.
use Rattle.std.proofs.Common.{◌≡◌, ◌∙◌, sym, ap, subst, ℕ, zero, suc, ◌+◌, ◌*◌, ◌^◌, ◌<◌, ◌≤◌, ◌/◌, ◌%◌, List, [], ◌∷◌, ◌++◌, length, length-append, take, set, arith}
use Rattle.std.proofs.Math.Nat.{mul-le-mul_left, mul_assoc, pow-zero, pow-suc, pow-succ', mod-lt, div-add-mod}
use Rattle.std.proofs.lemmas.List.{take_more_set, take_all}
use Rattle.std.proofs.lemmas.List.Elements.{All-push}
use Rattle.sc_interp.specs.Assignments.{AreElements, assignment_number}

-- one digit more behind the others
digit_behind : (s : ℕ) (xs : List ℕ) (v : ℕ) → assignment_number s (xs ++ v ∷ []) ≡ assignment_number s xs + s ^ length xs * v
digit_behind s [] v = rw (pow-zero s) (omega arith)
digit_behind s (x ∷ xs) v =
    let rest : s * assignment_number s (xs ++ v ∷ []) ≡ s * (assignment_number s xs + s ^ length xs * v) = ap (λ m. s * m) (digit_behind s xs v) in
    let power : s ^ length (x ∷ xs) * v ≡ s * (s ^ length xs * v) = ap (λ m. m * v) (pow-succ' s (length xs)) ∙ mul_assoc s (s ^ length xs) v in
    omega (arith, rest, power)

-- these are digits of the number, and `rest` is what they leave of it
pub record IsBegun (s : ℕ) (digits : List ℕ) (rest whole : ℕ) : Type 0 where
  pub elements : AreElements s digits
  pub number : assignment_number s digits + s ^ length digits * rest ≡ whole

begun_more : (s : ℕ) (digits : List ℕ) (rest number : ℕ) → 1 ≤ s → IsBegun s digits rest number → IsBegun s (digits ++ rest % s ∷ []) (rest / s) number
begun_more s digits rest number some h =
    let power = s ^ length digits in
    let long : length (digits ++ rest % s ∷ []) ≡ suc (length digits) = omega (arith, length-append digits (rest % s ∷ [])) in
    let more : s ^ length (digits ++ rest % s ∷ []) * (rest / s) ≡ power * (s * (rest / s))
    = ap (λ n. s ^ n * (rest / s)) long ∙ ap (λ m. m * (rest / s)) (pow-suc s (length digits)) ∙ mul_assoc power s (rest / s) in
    let split : power * (s * (rest / s) + rest % s) ≡ power * rest = ap (λ m. power * m) (div-add-mod rest s) in
    record {
      elements = All-push (λ v. v < s) digits (rest % s) h.elements (mod-lt rest (omega (arith, some)));
      number = omega (arith, digit_behind s digits (rest % s), more, split, h.number);
    }

-- the digit at i is set
pub one_assigned : (s base : ℕ) (values : List ℕ) (i rest number : ℕ) → base ≡ s → 1 ≤ s → i < length values
    → IsBegun s (take i values) rest number → IsBegun s (take (i + 1) (set values i (rest % base))) (rest / base) number
one_assigned s base values i rest number is some less h =
    subst (λ b. IsBegun s (take (i + 1) (set values i (rest % b))) (rest / b) number) (sym is)
    (subst (λ vs. IsBegun s vs (rest / s) number) (sym (take_more_set values i (rest % s) less)) (begun_more s (take i values) rest number some h))

-- a number below the power has no more digits
pub all_assigned : (s : ℕ) (values : List ℕ) (i rest number : ℕ) → length values ≤ i → IsBegun s (take i values) rest number → number < s ^ length values
    → assignment_number s values ≡ number
all_assigned s values i rest number long h less = by rest (subst (λ vs. assignment_number s vs + s ^ length vs * rest ≡ number) (take_all i values long) h.number)
  where
    by : (rest : ℕ) → assignment_number s values + s ^ length values * rest ≡ number → assignment_number s values ≡ number
    by zero e = omega (arith, e)
    by (suc rest) e = absurd (let much : s ^ length values * 1 ≤ s ^ length values * suc rest = mul-le-mul_left (s ^ length values) (omega arith) in omega (arith, e, less, much))

-- before the first digit
pub none_assigned : (s : ℕ) (values : List ℕ) (number : ℕ) → IsBegun s (take 0 values) number number
none_assigned s values number = record {
  elements = λ k d less. absurd (omega (arith, less));
  number = rw (pow-zero s) (omega arith);
}

-- Numbers by first occurrence are 0, 1, .. where each first occurs.
use Rattle.std.proofs.Common.{◌≡◌, ◌∙◌, sym, ap, refl, ℕ, zero, suc, ◌+◌, ◌<◌, Bool, true, false, List, [], ◌∷◌, ◌++◌, map, length, length-append, append_assoc, cond, Some, None, arith}
use Rattle.std.specs.Prelude.{◌||◌, not, nat_eq, nat_lt, unwrap_or, if◌then◌else◌}
use Rattle.std.specs.List.{AllByRecursion, list_any, position_or_len}
use Rattle.std.specs.Cmp.Lexicographic.{bytes_decides}
use Rattle.std.proofs.lemmas.Bool.{eqb-true, eq-eqb}
use Rattle.std.proofs.lemmas.List.Folds.{list_any-append}
use Rattle.sc_term.specs.Clause.{firsts_after, firsts, counting_from}
use Rattle.sc_input_rules.specs.declared.written.Occurrence.{Occurrence}
use Rattle.sc_input_rules.specs.Token.{same_text}
use Rattle.sc_input_rules.specs.Numbering.{once, number_of, same_name}
use Rattle.sc_input_rules.proofs.SymbolNumbers.{less}
use Rattle.sc_input_rules.proofs.VariableNumbers.{number}
use Rattle.sc_input_rules.proofs.Booleans.{neither}

-- ---- counting

-- k numbers from n on
abbrev counted : ℕ → ℕ → List ℕ
counted n zero = []
counted n (suc k) = n ∷ counted (n + 1) k

counting-counted : (n : ℕ) (xs : List ℕ) → counting_from n xs ≡ counted n (length xs)
counting-counted n [] = refl
counting-counted n (x ∷ xs) = ap (λ l. n ∷ l) (counting-counted (n + 1) xs)

counted-length : (n k : ℕ) → length (counted n k) ≡ k
counted-length n zero = refl
counted-length n (suc k) = ap suc (counted-length (n + 1) k)

pub counts_itself : (xs : List ℕ) (k : ℕ) → xs ≡ counted 0 k → xs ≡ counting_from 0 xs
counts_itself xs k e = e ∙ ap (counted 0) (sym (counted-length 0 k) ∙ ap length (sym e)) ∙ sym (counting-counted 0 xs)

-- ---- the number of an element that is new

first-passing : (p : Occurrence → Bool) (front : List Occurrence) (x : Occurrence) (more : List Occurrence) → list_any p front ≡ false → p x ≡ true → position_or_len p (front ++ x ∷ more) ≡ length front
first-passing p [] x more none e = ap (λ (b : Bool). cond (not b) (1 + position_or_len p more) 0) e
first-passing p (y ∷ ys) x more none e =
    let n = neither (p y) (list_any p ys) none in
    ap (λ (b : Bool). cond (not b) (1 + position_or_len p (ys ++ x ∷ more)) 0) n.0 ∙ ap (λ (k : ℕ). 1 + k) (first-passing p ys x more n.1 e) ∙ omega arith

number-new : (front : List Occurrence) (x : Occurrence) (more order : List Occurrence) → order ≡ front ++ x ∷ more → list_any (same_name x) front ≡ false → number order x ≡ length front
number-new front x more order split none =
    let at : position_or_len (same_name x) (front ++ x ∷ more) ≡ length front = first-passing (same_name x) front x more none ((bytes_decides x.name x.name).1 refl) in
    let lt : nat_lt (position_or_len (same_name x) (front ++ x ∷ more)) (length (front ++ x ∷ more)) ≡ true =
    less (position_or_len (same_name x) (front ++ x ∷ more)) (length (front ++ x ∷ more)) (omega (arith, at, length-append front (x ∷ more))) in
    ap (λ order. number order x) split ∙ ap (λ (b : Bool). unwrap_or (cond b (Some (position_or_len (same_name x) (front ++ x ∷ more))) None) 0) lt ∙ at

-- ---- old and new elements

module _ (order : List Occurrence) where
  same-number : (x y : Occurrence) → same_name x y ≡ true → number order x ≡ number order y
  same-number x y e = ap (λ (name : List ℕ). number_of (λ (p : Occurrence). same_text name p.name) order) ((bytes_decides x.name y.name).0 e)

  -- behind those before, which are the front of all in another order
  record Behind (before front xs : List Occurrence) : Type 0 where
    split : order ≡ front ++ once same_name before xs
    alike : (x : Occurrence) → list_any (same_name x) before ≡ list_any (same_name x) front
    below : AllByRecursion (λ y. number order y < length front) before

  pub old-number : (x : Occurrence) (before : List Occurrence) → list_any (same_name x) before ≡ true → list_any (nat_eq (number order x)) (map (number order) before) ≡ true
  old-number x [] e = absurd cc
  old-number x (y ∷ ys) e = by (same_name x y) refl e (old-number x ys)
    where
      or_true : (a b : Bool) → b ≡ true → (a || b) ≡ true
      or_true true b e = refl
      or_true false b e = e

      by : (b : Bool) → same_name x y ≡ b → (b || list_any (same_name x) ys) ≡ true → (list_any (same_name x) ys ≡ true → list_any (nat_eq (number order x)) (map (number order) ys) ≡ true)
          → (nat_eq (number order x) (number order y) || list_any (nat_eq (number order x)) (map (number order) ys)) ≡ true
      by true h e ih = ap (λ (b : Bool). b || list_any (nat_eq (number order x)) (map (number order) ys)) (eq-eqb (number order x) (number order y) (same-number x y h))
      by false h e ih = or_true (nat_eq (number order x) (number order y)) (list_any (nat_eq (number order x)) (map (number order) ys)) (ih e)

  new-number : (n : ℕ) (x : Occurrence) (before : List Occurrence) → number order x ≡ n → AllByRecursion (λ y. number order y < n) before → list_any (nat_eq (number order x)) (map (number order) before) ≡ false
  new-number n x [] e below = refl
  new-number n x (y ∷ ys) e below = by (nat_eq (number order x) (number order y)) refl (new-number n x ys e below.1)
    where
      by : (b : Bool) → nat_eq (number order x) (number order y) ≡ b → list_any (nat_eq (number order x)) (map (number order) ys) ≡ false → (b || list_any (nat_eq (number order x)) (map (number order) ys)) ≡ false
      by true h ih = let k = eqb-true (number order x) (number order y) h in let l = below.0 in absurd (omega arith)
      by false h ih = ih

  if_once : (before xs : List Occurrence) (x : Occurrence) (c : Bool) → list_any (same_name x) before ≡ c → once same_name before (x ∷ xs) ≡ (if c then once same_name before xs else (x ∷ once same_name (x ∷ before) xs))
  if_once before xs x c e = ap (λ (c : Bool). if c then once same_name before xs else (x ∷ once same_name (x ∷ before) xs)) e

  turned : (a c : Bool) → (a || c) ≡ (c || (a || false))
  turned true true = refl
  turned true false = refl
  turned false true = refl
  turned false false = refl

  more_room : (m n : ℕ) (before : List Occurrence) → n ≡ m + 1 → AllByRecursion (λ y. number order y < m) before → AllByRecursion (λ y. number order y < n) before
  more_room m n [] e h = tt
  more_room m n (y ∷ ys) e h = let k = h.0 in (omega arith, more_room m n ys e h.1)

  firsts-counted : (before front xs : List Occurrence) → Behind before front xs → firsts_after (map (number order) before) (map (number order) xs) ≡ counted (length front) (length (once same_name before xs))
  firsts-counted before front [] b = refl
  firsts-counted before front (x ∷ xs) b = by (list_any (same_name x) before) refl (λ before front b. firsts-counted before front xs b)
    where
      by : (c : Bool) → list_any (same_name x) before ≡ c
          → ((before front : List Occurrence) → Behind before front xs → firsts_after (map (number order) before) (map (number order) xs) ≡ counted (length front) (length (once same_name before xs)))
          → firsts_after (map (number order) before) (map (number order) (x ∷ xs)) ≡ counted (length front) (length (once same_name before (x ∷ xs)))
      by true e ih =
          let ns = map (number order) before in
          let now = if_once before xs x true e in
          ap (λ (c : Bool). if c then firsts_after ns (map (number order) xs) else (number order x ∷ firsts_after (number order x ∷ ns) (map (number order) xs))) (old-number x before e)
          ∙ ih before front (record { split = b.split ∙ ap (λ ys. front ++ ys) now; alike = b.alike; below = b.below })
          ∙ ap (λ (ys : List Occurrence). counted (length front) (length ys)) (sym now)
      by false e ih =
          let ns = map (number order) before in
          let now = if_once before xs x false e in
          let rest = once same_name (x ∷ before) xs in
          let here : number order x ≡ length front = number-new front x (once same_name (x ∷ before) xs) order (b.split ∙ ap (λ ys. front ++ ys) now) (sym (b.alike x) ∙ e) in
          let longer : length (front ++ x ∷ []) ≡ length front + 1 = length-append front (x ∷ []) in
          ap (λ (c : Bool). if c then firsts_after ns (map (number order) xs) else (number order x ∷ firsts_after (number order x ∷ ns) (map (number order) xs))) (new-number (length front) x before here b.below)
          ∙ ap (λ ns. number order x ∷ ns) (ih (x ∷ before) (front ++ x ∷ []) (record {
            split = b.split ∙ ap (λ ys. front ++ ys) now ∙ sym (append_assoc front (x ∷ []) rest);
            alike = λ z. ap (λ (c : Bool). same_name z x || c) (b.alike z) ∙ turned (same_name z x) (list_any (same_name z) front) ∙ sym (list_any-append (same_name z) front (x ∷ []));
            below = (omega arith, more_room (length front) (length (front ++ x ∷ [])) before longer b.below);
          }))
          ∙ (λ i. here i ∷ counted (longer i) (length rest))
          ∙ ap (λ (ys : List Occurrence). counted (length front) (length ys)) (sym now)

pub firsts-numbers : (xs : List Occurrence) → firsts (map (number (once same_name [] xs)) xs) ≡ counted 0 (length (once same_name [] xs))
firsts-numbers xs = firsts-counted (once same_name [] xs) [] [] xs (record { split = refl; alike = λ x. refl; below = tt })

-- Numbers of clauses counted below a bound, and how many turns r divides.
use Rattle.std.proofs.Common.{◌≡◌, ◌≢◌, ◌∙◌, sym, ap, subst, refl, ℕ, zero, suc, ◌+◌, ◌*◌, ◌/◌, ◌%◌, ◌<◌, ◌≤◌, ◌⊎◌, inl, inr, List, [], ◌∷◌, Bool, true, false, cond, arith, nat_eq}
use Rattle.std.specs.List.{Contains}
use Rattle.std.proofs.lemmas.Bool.{eqb-true, eqb-false}
use Rattle.std.proofs.lemmas.Nat.{le-div}
use Rattle.std.proofs.Math.Nat.{div-mul-le_self, lt-div-mul-add, div-le_of_le-mul, div-add-mod}
use Rattle.sc_term.specs.declared.Numbered.{Numbered}
use Rattle.sc_term.proofs.ContainsLaws.{first_or_later, later}
use Rattle.sc_core_rules.proofs.DerivationLaws.{compared}

-- ---- numbers of clauses

-- whether one of the clauses has the number
abbrev pub has : List Numbered → ℕ → Bool
has [] k = false
has (p ∷ ps) k = cond (nat_eq p.number k) true (has ps k)

-- how many of the numbers below n are those of clauses
abbrev pub below : List Numbered → ℕ → ℕ
below ps zero = 0
below ps (suc k) = cond (has ps k) (suc (below ps k)) (below ps k)

-- a clause of the list with the number
abbrev pub Bears : List Numbered → ℕ → Type 0
Bears ps k = (p : Numbered) × Contains ps p × (p.number ≡ k)

pub has_bears : (ps : List Numbered) (k : ℕ) → has ps k ≡ true → Bears ps k
has_bears [] k e = absurd cc
has_bears (p ∷ ps) k e = by (nat_eq p.number k) refl e (λ h. has_bears ps k h)
  where
    by : (b : Bool) → nat_eq p.number k ≡ b → cond b true (has ps k) ≡ true → (has ps k ≡ true → Bears ps k) → Bears (p ∷ ps) k
    by true f h rest = (p, (0, omega arith, refl), eqb-true p.number k f)
    by false f h rest = let b = rest h in (b.0, later b.0 p ps b.1, b.2)

pub bears_has : (ps : List Numbered) (p : Numbered) → Contains ps p → has ps p.number ≡ true
bears_has [] p h = absurd (omega (arith, h.1))
bears_has (q ∷ ps) p h = by (nat_eq q.number p.number) refl (first_or_later p q ps h) (λ k. bears_has ps p k)
  where
    by : (b : Bool) → nat_eq q.number p.number ≡ b → (q ≡ p) ⊎ Contains ps p → (Contains ps p → has ps p.number ≡ true) → cond b true (has ps p.number) ≡ true
    by true f k rest = refl
    by false f (inl e) rest = absurd (eqb-false q.number p.number f (ap (λ (x : Numbered). x.number) e))
    by false f (inr k) rest = rest k

pub bears_no : (ps : List Numbered) (k : ℕ) → ¬ Bears ps k → has ps k ≡ false
bears_no ps k none = by (has ps k) refl
  where
    by : (b : Bool) → has ps k ≡ b → has ps k ≡ false
    by true e = absurd (none (has_bears ps k e))
    by false e = e

-- where no clause has the number 0, the count stays below its bound
pub below_few : (ps : List Numbered) (n : ℕ) → ¬ Bears ps 0 → below ps (suc n) ≤ n
below_few ps zero none = let e = bears_no ps 0 none in subst (λ (b : Bool). cond b 1 0 ≤ 0) (sym e) (omega arith)
below_few ps (suc n) none = by (has ps (suc n)) (below_few ps n none)
  where
    by : (b : Bool) → below ps (suc n) ≤ n → cond b (suc (below ps (suc n))) (below ps (suc n)) ≤ suc n
    by true h = omega arith
    by false h = omega arith

pub below_less : (ps : List Numbered) (n : ℕ) → ¬ Bears ps 0 → 0 < n → below ps n < n
below_less ps zero none some = absurd (omega arith)
below_less ps (suc n) none some = let few = below_few ps n none in omega arith

-- the numbers below n that are still there were there
abbrev pub Shrinks : List Numbered → List Numbered → ℕ → Type 0
Shrinks old new n = (k : ℕ) → k < n → Bears new k → Bears old k

pub below_shrinks : (old new : List Numbered) (n : ℕ) → Shrinks old new n → below new n ≤ below old n
below_shrinks old new zero sub = omega arith
below_shrinks old new (suc n) sub = by (has new n) refl (has old n) refl (below_shrinks old new n (λ k less h. sub k (omega arith) h))
  where
    by : (b : Bool) → has new n ≡ b → (c : Bool) → has old n ≡ c → below new n ≤ below old n
        → cond b (suc (below new n)) (below new n) ≤ cond c (suc (below old n)) (below old n)
    by true e true f h = omega arith
    by true e false f h = absurd (let b = sub n (omega arith) (has_bears new n e) in let g = bears_has old b.0 b.1 in let same = ap (has old) b.2 in cc)
    by false e true f h = omega arith
    by false e false f h = h

-- where one of them is gone, the count falls
pub below_falls : (old new : List Numbered) (n q : ℕ) → Shrinks old new n → q < n → Bears old q → ¬ Bears new q → below new n < below old n
below_falls old new zero q sub less there gone = absurd (omega arith)
below_falls old new (suc n) q sub less there gone = by (nat_eq q n) refl (λ small. below_falls old new n q (λ k lower h. sub k (omega arith) h) small there gone)
  where
    here : q ≡ n → below new (suc n) < below old (suc n)
    here e =
        let no : has new n ≡ false = bears_no new n (λ h. gone (subst (Bears new) (sym e) h)) in
        let has_old : has old n ≡ true = ap (has old) (sym (there.2 ∙ e)) ∙ bears_has old there.0 there.1 in
        let most = below_shrinks old new n (λ k small h. sub k (omega arith) h) in
        subst (λ (b : Bool). cond b (suc (below new n)) (below new n) < below old (suc n)) (sym no)
        (subst (λ (b : Bool). below new n < cond b (suc (below old n)) (below old n)) (sym has_old) (omega arith))

    before : (b : Bool) → has new n ≡ b → (c : Bool) → has old n ≡ c → below new n < below old n
        → cond b (suc (below new n)) (below new n) < cond c (suc (below old n)) (below old n)
    before true e true f h = omega arith
    before true e false f h = absurd (let b = sub n (omega arith) (has_bears new n e) in let g = bears_has old b.0 b.1 in let same = ap (has old) b.2 in cc)
    before false e true f h = omega arith
    before false e false f h = h

    by : (b : Bool) → nat_eq q n ≡ b → (q < n → below new n < below old n) → below new (suc n) < below old (suc n)
    by true e rest = here (eqb-true q n e)
    by false e rest =
        let other : q ≢ n = eqb-false q n e in
        before (has new n) refl (has old n) refl (rest (omega arith))

-- ---- turns that r divides

-- a turn that r doesn't divide adds none
pub none_more : (r s : ℕ) → 0 < r → (s + 1) % r ≢ 0 → (s + 1) / r ≤ s / r
none_more r s some odd =
    let parts : r * ((s + 1) / r) + (s + 1) % r ≡ s + 1 = div-add-mod (s + 1) r in
    le-div ((s + 1) / r) s r some (omega arith)

-- any turn adds at most one
pub one_more : (r s : ℕ) → 0 < r → (s + 1) / r ≤ s / r + 1
one_more r s some =
    let less : s < s / r * r + r = lt-div-mul-add some in
    div-le_of_le-mul r (omega arith)

-- n turns that r divides come within n times r turns
pub all_come : (r s t n : ℕ) → 0 < r → t + n * r ≤ s → t / r + n ≤ s / r
all_come r s t n some far =
    let low : t / r * r ≤ t = div-mul-le_self t r in
    le-div (t / r + n) s r some (omega arith)

-- where the turns that r divides are few so far, the next turn comes in time
pub in_time : (r s t n b : ℕ) → 0 < r → s / r + b < n + t / r → s + 1 ≤ t + n * r
in_time r s t n b some few = by (compared s (t + n * r))
  where
    by : (s < t + n * r) ⊎ (s ≡ t + n * r) ⊎ (t + n * r < s) → s + 1 ≤ t + n * r
    by (inl h) = omega arith
    by (inr (inl h)) = let far = all_come r s t n some (omega arith) in absurd (omega arith)
    by (inr (inr h)) = let far = all_come r s t n some (omega arith) in absurd (omega arith)

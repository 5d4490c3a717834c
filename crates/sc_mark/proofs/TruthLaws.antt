-- What is known at the numbers of clauses, where one entry is put or taken away.
use Rattle.std.proofs.Common.{◌≡◌, ◌≢◌, ◌∙◌, sym, ap, subst, refl, ℕ, zero, suc, ◌<◌, ◌≤◌, ◌⊎◌, inl, inr, Bool, true, false, true≢false, not, cond, Option, None, Some, MatchOption, List, [], ◌∷◌, ◌++◌, length, get_or, set, arith, nat_eq}
use Rattle.std.specs.List.{All, Contains, filter}
use Rattle.std.specs.Option.{IsSomeAnd}
use Rattle.std.proofs.Math.ListN.{get_or-eq_default}
use Rattle.std.proofs.lemmas.List.{get_or-set_same, get_or-set_other}
use Rattle.std.proofs.lemmas.Bool.{ne_eqb}
use Rattle.std.proofs.lemmas.Bool.Decides.{eqb_tells}
use Rattle.std.proofs.lemmas.List.Elements.{All-contains, All-push, All-filter, All-head, All-tail, filter_passes, Contains-get_or, Contains-push, Contains-append_left}
use Rattle.sc_term.specs.declared.Clause.{Clause}
use Rattle.sc_term.specs.declared.Numbered.{Numbered}
use Rattle.sc_interp.specs.Structure.{Structure}
use Rattle.sc_mark.specs.declared.known.Known.{Known}
use Rattle.sc_mark.specs.Known.{IsKnown}
use Rattle.sc_mark.specs.Marked.{HasNumber, without_number}
use Rattle.sc_mark.specs.Marking.{known_at, AreSame, IsPut, IsKnownAt, AreKnown}

-- ---- lists

-- an element that passes the test stays
in_more : {X : Type 0} (b : Bool) (y x : X) (zs : List X) → Contains zs x → Contains (cond b (y ∷ zs) zs) x
in_more true y x zs h = (suc h.0, omega (arith, h.1), h.2)
in_more false y x zs h = h

in_first : {X : Type 0} (b : Bool) (y : X) (zs : List X) → b ≡ true → Contains (cond b (y ∷ zs) zs) y
in_first b y zs e = subst (λ (b : Bool). Contains (cond b (y ∷ zs) zs) y) (sym e) (zero, omega arith, λ i. y)

pub contains_kept : {X : Type 0} (test : X → Bool) (xs : List X) (x : X) → Contains xs x → test x ≡ true → Contains (filter test xs) x
contains_kept {X} test xs x h e = by xs h.0 h.1 h.2
  where
    by : (ys : List X) (k : ℕ) → k < length ys → get_or ys k x ≡ x → Contains (filter test ys) x
    by [] k less is = absurd (omega (arith, less))
    by (y ∷ ys) zero less is = subst (Contains (filter test (y ∷ ys))) is (in_first (test y) y (filter test ys) (ap test is ∙ e))
    by (y ∷ ys) (suc k) less is = in_more (test y) y x (filter test ys) (by ys k (omega (arith, less)) is)

pub all_kept : {X : Type 0} (test : X → Bool) (xs : List X) → All (λ x. test x ≡ true) xs → filter test xs ≡ xs
all_kept test [] h = refl
all_kept test (x ∷ xs) h = ap (λ b. cond b (x ∷ filter test xs) (filter test xs)) (All-head (λ x. test x ≡ true) x xs h)
    ∙ ap (λ ys. x ∷ ys) (all_kept test xs (All-tail (λ x. test x ≡ true) x xs h))

-- ---- numbers

abbrev Tells : ℕ → ℕ → Type 0
Tells m n = ((nat_eq m n ≡ true) × (m ≡ n)) ⊎ ((nat_eq m n ≡ false) × (m ≢ n))

not_both : (b : Bool) → not b ≡ true → b ≡ true → ⊥
not_both true e f = true≢false (sym e)
not_both false e f = true≢false (sym f)

differs : (m n : ℕ) → not (nat_eq m n) ≡ true → m ≢ n
differs m n e = by (eqb_tells m n)
  where
    by : Tells m n → m ≢ n
    by (inl h) = absurd (not_both (nat_eq m n) e h.0)
    by (inr h) = h.1

passes : (m n : ℕ) → m ≢ n → not (nat_eq m n) ≡ true
passes m n h = ap not (ne_eqb m n h)

-- ---- places

-- a place more, at which nothing stands
pub grown : (ts : List (Option Known)) (n : ℕ) → known_at (ts ++ None ∷ []) n ≡ known_at ts n
grown [] zero = refl
grown [] (suc n) = refl
grown (t ∷ ts) zero = refl
grown (t ∷ ts) (suc n) = grown ts n

pub one_put : (ts : List (Option Known)) (n : ℕ) (entry : Option Known) → n < length ts → IsPut n entry ts (set ts n entry)
one_put ts n entry less = record {
  here = get_or-set_same ts n entry None less;
  elsewhere = λ m other. get_or-set_other ts n m entry None other;
}

-- past the end nothing stands already
pub none_past : (ts : List (Option Known)) (n : ℕ) → length ts ≤ n → IsPut n None ts ts
none_past ts n long = record { here = get_or-eq_default ts None long; elsewhere = λ m other. refl }

pub put_after : (n : ℕ) (entry : Option Known) (old room new : List (Option Known)) → AreSame old room → IsPut n entry room new → IsPut n entry old new
put_after n entry old room new same put = record { here = put.here; elsewhere = λ m other. put.elsewhere m other ∙ same m }

-- ---- what is read

pub one_told : (t : Structure) (cs : List Numbered) (ts : List (Option Known)) → AreKnown t cs ts → (n : ℕ) (known : Known) → known_at ts n ≡ Some known
    → (p : Numbered) → Contains cs p → p.number ≡ n → IsKnown t p.clause known
one_told t cs ts h n known e p at is =
    subst (λ (o : Option Known). IsSomeAnd o (IsKnown t p.clause)) (ap (known_at ts) is ∙ e) (All-contains (IsKnownAt t ts) cs p h.each at)

pub none_told : (t : Structure) (cs : List Numbered) (ts : List (Option Known)) → AreKnown t cs ts → (n : ℕ) → known_at ts n ≡ None → ¬ HasNumber cs n
none_told t cs ts h n e found =
    subst (λ (o : Option Known). IsSomeAnd o (IsKnown t found.0.clause)) (ap (known_at ts) found.2 ∙ e) (All-contains (IsKnownAt t ts) cs found.0 h.each found.1)

not_some : (known : Known) → None ≡ Some known → ⊥
not_some known e = subst (λ (o : Option Known). MatchOption o (Unit {0}) (λ _. ⊥)) e tt

-- ---- what stays

pub none_yet : (t : Structure) → AreKnown t [] []
none_yet t = record {
  each = λ k d less. absurd (omega (arith, less));
  only = λ n known e. absurd (not_some known e);
}

module _ (t : Structure) (cs : List Numbered) (old new : List (Option Known)) (h : AreKnown t cs old) where
  pub same_known : AreSame old new → AreKnown t cs new
  same_known same = record {
    each = λ k d less. subst (λ (o : Option Known). IsSomeAnd o (IsKnown t (get_or cs k d).clause)) (sym (same (get_or cs k d).number)) (h.each k d less);
    only = λ n known e. h.only n known (sym (same n) ∙ e);
  }

  module _ (n : ℕ) (c : Clause) (known : Known) (fresh : ¬ HasNumber cs n) (is_known : IsKnown t c known) (put : IsPut n (Some known) old new) where
    abbrev added : Numbered
    added = record { number = n; clause = c }

    others : All (IsKnownAt t new) cs
    others = λ k d less.
        let p = get_or cs k d in
        let other : p.number ≢ n = λ e. fresh (p, Contains-get_or cs k d less, e) in
        subst (λ (o : Option Known). IsSomeAnd o (IsKnown t p.clause)) (sym (put.elsewhere p.number other)) (h.each k d less)

    itself : IsKnownAt t new added
    itself = subst (λ (o : Option Known). IsSomeAnd o (IsKnown t c)) (sym put.here) is_known

    found_more : (m : ℕ) (told : Known) → known_at new m ≡ Some told → Tells m n → HasNumber (cs ++ added ∷ []) m
    found_more m told e (inl is) = (added, Contains-push cs added, sym is.1)
    found_more m told e (inr other) =
        let found = h.only m told (sym (put.elsewhere m other.1) ∙ e) in
        (found.0, Contains-append_left cs (added ∷ []) found.0 found.1, found.2)

    pub one_more : AreKnown t (cs ++ added ∷ []) new
    one_more = record {
      each = All-push (IsKnownAt t new) cs added others itself;
      only = λ m told e. found_more m told e (eqb_tells m n);
    }

  module _ (n : ℕ) (put : IsPut n None old new) where
    abbrev stays : Numbered → Bool
    stays p = not (nat_eq p.number n)

    left : All (IsKnownAt t new) (without_number cs n)
    left = λ k d less.
        let p = get_or (without_number cs n) k d in
        subst (λ (o : Option Known). IsSomeAnd o (IsKnown t p.clause)) (sym (put.elsewhere p.number (differs p.number n (filter_passes stays cs k d less))))
        (All-filter stays (IsKnownAt t old) cs h.each k d less)

    found_less : (m : ℕ) (told : Known) → known_at new m ≡ Some told → Tells m n → HasNumber (without_number cs n) m
    found_less m told e (inl is) = absurd (not_some told (sym put.here ∙ sym (ap (known_at new) is.1) ∙ e))
    found_less m told e (inr other) =
        let found = h.only m told (sym (put.elsewhere m other.1) ∙ e) in
        (found.0, contains_kept stays cs found.0 found.1 (passes found.0.number n (λ is. other.1 (sym found.2 ∙ is))), found.2)

    pub one_less : AreKnown t (without_number cs n) new
    one_less = record {
      each = left;
      only = λ m told e. found_less m told e (eqb_tells m n);
    }

-- where no clause has the number, nothing is left out
pub none_less : (cs : List Numbered) (n : ℕ) → ¬ HasNumber cs n → without_number cs n ≡ cs
none_less cs n none = all_kept (λ (p : Numbered). not (nat_eq p.number n)) cs
    (λ k d less. passes (get_or cs k d).number n (λ e. none (get_or cs k d, Contains-get_or cs k d less, e)))

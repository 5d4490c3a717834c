-- Clauses are picked one after another, and taken out from the end.
use Rattle.std.proofs.Common.{◌≡◌, ◌∙◌, sym, ap, subst, refl, ℕ, zero, suc, ◌+◌, ◌-◌, ◌<◌, ◌≤◌, Bool, true, false, not, cond, List, [], ◌∷◌, ◌++◌, append_assoc, length, take, drop, get_or, arith, nat_eq}
use Rattle.std.proofs.lemmas.List.{map-append}
use Rattle.std.specs.List.{remove, list_any}
use Rattle.std.proofs.lemmas.List.{take_more, append-nil, length-take-le, take_all, drop_all}
use Rattle.sc_term.specs.declared.Numbered.{Numbered}
use Rattle.sc_core_rules.specs.Order.{IsFilter, taken, passed, none}
use Rattle.sc_core_rules.proofs.FilterLaws.{filter_append}
use Rattle.sc_keep.specs.Sweep.{numbers, without_numbers}

-- ---- what is picked

abbrev Picks : (Numbered → Type 0) → List Numbered → List ℕ → List ℕ → Type 0
Picks P ps before now = (picked : List Numbered) × IsFilter P ps picked × (now ≡ before ++ numbers picked)

module _ (P : Numbered → Type 0) (ps : List Numbered) (i : ℕ) (p : Numbered) (less : i < length ps) (here : p ≡ get_or ps i p) where
  more : take i ps ++ p ∷ [] ≡ take (i + 1) ps
  more = (λ j. take i ps ++ here j ∷ []) ∙ sym (take_more ps i p less)

  pub one_picked : (before now after : List ℕ) → P p → after ≡ now ++ p.number ∷ [] → Picks P (take i ps) before now → Picks P (take (i + 1) ps) before after
  one_picked before now after holds grown h = (
    h.0 ++ p ∷ [],
    subst (λ xs. IsFilter P xs (h.0 ++ p ∷ [])) more (filter_append P (take i ps) (p ∷ []) h.0 (p ∷ []) h.1 (taken holds none)),
    grown ∙ ap (λ ns. ns ++ p.number ∷ []) h.2 ∙ append_assoc before (numbers h.0) (p.number ∷ []) ∙ ap (λ ns. before ++ ns) (sym (map-append (λ (q : Numbered). q.number) h.0 (p ∷ []))),
  )

  pub one_passed : (before now : List ℕ) → ¬ P p → Picks P (take i ps) before now → Picks P (take (i + 1) ps) before now
  one_passed before now fails h =
      (h.0, subst (λ xs. IsFilter P xs h.0) more (subst (IsFilter P (take i ps ++ p ∷ [])) (append-nil h.0) (filter_append P (take i ps) (p ∷ []) h.0 [] h.1 (passed fails none))), h.2)

pub none_picked : (P : Numbered → Type 0) (before : List ℕ) → Picks P [] before before
none_picked P before = ([], none, sym (append-nil before))

pub all_picked : (P : Numbered → Type 0) (ps : List Numbered) (i : ℕ) (before now : List ℕ) → length ps ≤ i → Picks P (take i ps) before now → Picks P ps before now
all_picked P ps i before now long h = subst (λ xs. Picks P xs before now) (take_all i ps long) h

-- ---- what is left

drop_suc : {X : Type 0} (xs : List X) (i : ℕ) (d : X) → i < length xs → drop i xs ≡ get_or xs i d ∷ drop (suc i) xs
drop_suc [] i d less = absurd (omega arith)
drop_suc (x ∷ xs) zero d less = refl
drop_suc (x ∷ xs) (suc i) d less = drop_suc xs i d (omega arith)

drop_here : {X : Type 0} (xs : List X) (i : ℕ) (d : X) → i < length xs → drop i xs ≡ get_or xs i d ∷ drop (i + 1) xs
drop_here xs i d less = let e : suc i ≡ i + 1 = omega arith in drop_suc xs i d less ∙ ap (λ n. get_or xs i d ∷ drop n xs) e

remove_between : {X : Type 0} (xs ys : List X) (x : X) → remove (xs ++ x ∷ ys) (length xs) ≡ xs ++ ys
remove_between [] ys x = refl
remove_between (z ∷ zs) ys x = λ i. z ∷ remove_between zs ys x i

got_between : {X : Type 0} (xs ys : List X) (x d : X) → get_or (xs ++ x ∷ ys) (length xs) d ≡ x
got_between [] ys x d = refl
got_between (z ∷ zs) ys x d = got_between zs ys x d

module _ (gone : List ℕ) (old : List Numbered) (i : ℕ) (less : i < length old) (d : Numbered) where
  abbrev rest : List Numbered
  rest = without_numbers gone (drop (i + 1) old)

  abbrev here : Numbered
  here = get_or old i d

  -- the list before clause i is looked at
  split : take (i + 1) old ++ rest ≡ take i old ++ here ∷ rest
  split = ap (λ xs. xs ++ rest) (take_more old i d less) ∙ append_assoc (take i old) (here ∷ []) rest

  long : length (take i old) ≡ i
  long = length-take-le i old (omega (arith, less))

  pub it_reads : (ps : List Numbered) → ps ≡ take (i + 1) old ++ rest → get_or ps i d ≡ here
  it_reads ps e = ap (λ xs. get_or xs i d) (e ∙ split) ∙ ap (λ n. get_or (take i old ++ here ∷ rest) n d) (sym long) ∙ got_between (take i old) rest here d

  left_out : list_any (nat_eq here.number) gone ≡ true → without_numbers gone (drop i old) ≡ rest
  left_out e = ap (without_numbers gone) (drop_here old i d less) ∙ ap (λ b. cond (not b) (here ∷ rest) rest) e

  kept : list_any (nat_eq here.number) gone ≡ false → without_numbers gone (drop i old) ≡ here ∷ rest
  kept e = ap (without_numbers gone) (drop_here old i d less) ∙ ap (λ b. cond (not b) (here ∷ rest) rest) e

  pub taken_out : (ps now : List Numbered) → ps ≡ take (i + 1) old ++ rest → list_any (nat_eq here.number) gone ≡ true → now ≡ remove ps i → now ≡ take i old ++ without_numbers gone (drop i old)
  taken_out ps now e is removed =
      removed ∙ ap (λ xs. remove xs i) (e ∙ split) ∙ ap (remove (take i old ++ here ∷ rest)) (sym long) ∙ remove_between (take i old) rest here ∙ ap (λ xs. take i old ++ xs) (sym (left_out is))

  pub stays_in : (ps : List Numbered) → ps ≡ take (i + 1) old ++ rest → list_any (nat_eq here.number) gone ≡ false → ps ≡ take i old ++ without_numbers gone (drop i old)
  stays_in ps e is = e ∙ split ∙ ap (λ xs. take i old ++ xs) (sym (kept is))

-- the list as the loop has it: the clauses from the back are looked at
abbrev pub LeftBehind : List ℕ → List Numbered → ℕ → List Numbered → Type 0
LeftBehind gone old back ps = ps ≡ take (length old - back) old ++ without_numbers gone (drop (length old - back) old)

pub none_left : (gone : List ℕ) (old : List Numbered) → LeftBehind gone old 0 old
none_left gone old =
    let all : length old - 0 ≡ length old = omega arith in
    subst (λ n. old ≡ take n old ++ without_numbers gone (drop n old)) (sym all)
    (sym ((λ i. take_all (length old) old (omega arith) i ++ without_numbers gone (drop_all (length old) old (omega arith) i)) ∙ append-nil old))

pub all_left : (gone : List ℕ) (old : List Numbered) (back : ℕ) (ps : List Numbered) → length old ≤ back → LeftBehind gone old back ps → ps ≡ without_numbers gone old
all_left gone old back ps long h = let none : length old - back ≡ 0 = omega (arith, long) in h ∙ ap (λ n. take n old ++ without_numbers gone (drop n old)) none

module _ (gone : List ℕ) (old ps seen : List Numbered) (back count at : ℕ) (d : Numbered) (many : count ≡ length old) (less : back < count) (is : at ≡ count - 1 - back)
    (h : LeftBehind gone old back ps) (same : seen ≡ ps) where
  within : at < length old
  within = omega (arith, many, less, is)

  before : ps ≡ take (at + 1) old ++ without_numbers gone (drop (at + 1) old)
  before = let e : length old - back ≡ at + 1 = omega (arith, many, less, is) in h ∙ ap (λ n. take n old ++ without_numbers gone (drop n old)) e

  reads : get_or seen at d ≡ get_or old at d
  reads = ap (λ xs. get_or xs at d) same ∙ it_reads gone old at within d ps before

  after : (now : List Numbered) → now ≡ take at old ++ without_numbers gone (drop at old) → LeftBehind gone old (back + 1) now
  after now e = let f : at ≡ length old - (back + 1) = omega (arith, many, less, is) in e ∙ ap (λ n. take n old ++ without_numbers gone (drop n old)) f

  pub one_out : (b : Bool) (now : List Numbered) → b ≡ list_any (nat_eq (get_or seen at d).number) gone → b ≡ true → now ≡ remove ps at → LeftBehind gone old (back + 1) now
  one_out b now test holds removed = after now (taken_out gone old at within d ps now before (ap (λ (p : Numbered). list_any (nat_eq p.number) gone) (sym reads) ∙ sym test ∙ holds) removed)

  pub one_in : (b : Bool) (now : List Numbered) → b ≡ list_any (nat_eq (get_or seen at d).number) gone → b ≡ false → now ≡ ps → LeftBehind gone old (back + 1) now
  one_in b now test fails same_now = after now (same_now ∙ stays_in gone old at within d ps before (ap (λ (p : Numbered). list_any (nat_eq p.number) gone) (sym reads) ∙ sym test ∙ fails))

-- The canonical form of a clause is canonical, and its variables can be named back.
use Rattle.std.proofs.Common.{◌≡◌, ◌∙◌, sym, ap, refl, ℕ, zero, suc, ◌+◌, ◌<◌, ◌⊎◌, Bool, true, false, List, [], ◌∷◌, length, map, get_or, nat_eq, if◌then◌else◌, not, ◌||◌, inl, inr, arith}
use Rattle.std.specs.List.{Contains, AllByRecursion, list_any, position_or_len}
use Rattle.std.proofs.lemmas.Bool.{eqb-true, eqb-false}
use Rattle.std.proofs.lemmas.List.{length-map, get_or-map}
use Rattle.sc_term.specs.declared.Term.{Var}
use Rattle.sc_term.specs.declared.Clause.{Clause}
use Rattle.sc_term.specs.Clause.{IsCanonical, counting_from, firsts, firsts_after, variables}
use Rattle.sc_term.specs.JointInstance.{canonical, renumbering}
use Rattle.sc_term.proofs.SubstitutionLaws.{clause_laws}
use Rattle.sc_term.proofs.ContainsLaws.{first_or_later, later}

-- ---- counting

pub counts : (n : ℕ) (xs : List ℕ) → ((k : ℕ) → k < length xs → get_or xs k 0 ≡ n + k) → xs ≡ counting_from n xs
counts n [] h = refl
counts n (x ∷ xs) h =
    let first : x ≡ n = omega (arith, h 0 (omega arith)) in
    let rest = counts (n + 1) xs (λ k less. omega (arith, h (suc k) (omega arith))) in
    λ i. first i ∷ rest i

-- ---- what stands first

either : (a b : Bool) → (a || b) ≡ true → (a ≡ true) ⊎ (b ≡ true)
either true b e = inl refl
either false b e = inr e

or_left : (a b : Bool) → a ≡ true → (a || b) ≡ true
or_left true b e = refl
or_left false b e = cc

or_right : (a b : Bool) → b ≡ true → (a || b) ≡ true
or_right true b e = refl
or_right false b e = e

any_firsts : (n : ℕ) (seen ns : List ℕ) → list_any (nat_eq n) ns ≡ true → (list_any (nat_eq n) seen ≡ true) ⊎ (list_any (nat_eq n) (firsts_after seen ns) ≡ true)
any_firsts n seen [] e = cc
any_firsts n seen (m ∷ ms) e = by (list_any (nat_eq m) seen) refl (either (nat_eq n m) (list_any (nat_eq n) ms) e) (any_firsts n seen ms) (any_firsts n (m ∷ seen) ms)
  where
    seen_or : (list_any (nat_eq n) (m ∷ seen) ≡ true) ⊎ (list_any (nat_eq n) (firsts_after (m ∷ seen) ms) ≡ true)
        → (list_any (nat_eq n) seen ≡ true) ⊎ ((nat_eq n m || list_any (nat_eq n) (firsts_after (m ∷ seen) ms)) ≡ true)
    seen_or (inr f) = inr (or_right (nat_eq n m) _ f)
    seen_or (inl f) = elim (either (nat_eq n m) (list_any (nat_eq n) seen) f) [
      | inl g ↦ inr (or_left (nat_eq n m) _ g)
      | inr g ↦ inl g
    ]

    by : (b : Bool) → list_any (nat_eq m) seen ≡ b → (nat_eq n m ≡ true) ⊎ (list_any (nat_eq n) ms ≡ true)
        → (list_any (nat_eq n) ms ≡ true → (list_any (nat_eq n) seen ≡ true) ⊎ (list_any (nat_eq n) (firsts_after seen ms) ≡ true))
        → (list_any (nat_eq n) ms ≡ true → (list_any (nat_eq n) (m ∷ seen) ≡ true) ⊎ (list_any (nat_eq n) (firsts_after (m ∷ seen) ms) ≡ true))
        → (list_any (nat_eq n) seen ≡ true) ⊎ (list_any (nat_eq n) (if b then firsts_after seen ms else m ∷ firsts_after (m ∷ seen) ms) ≡ true)
    by true f (inl g) old new = inl (ap (λ k. list_any (nat_eq k) seen) (eqb-true n m g) ∙ f)
    by true f (inr g) old new = old g
    by false f (inl g) old new = inr (or_left (nat_eq n m) _ g)
    by false f (inr g) old new = seen_or (new g)

any_there : (n : ℕ) (ns : List ℕ) → Contains ns n → list_any (nat_eq n) ns ≡ true
any_there n [] h = absurd (omega (arith, h.1))
any_there n (m ∷ ms) h = by (λ k. any_there n ms k) (first_or_later n m ms h)
  where
    same : (b : Bool) → nat_eq n m ≡ b → m ≡ n → b ≡ true
    same true f e = refl
    same false f e = absurd (eqb-false n m f (sym e))

    by : (Contains ms n → list_any (nat_eq n) ms ≡ true) → (m ≡ n) ⊎ Contains ms n → (nat_eq n m || list_any (nat_eq n) ms) ≡ true
    by below (inl e) = or_left (nat_eq n m) _ (same (nat_eq n m) refl e)
    by below (inr k) = or_right (nat_eq n m) _ (below k)

pub all_each : (P : ℕ → Type 0) (ns : List ℕ) → ((n : ℕ) → Contains ns n → P n) → AllByRecursion P ns
all_each P [] h = tt
all_each P (n ∷ ns) h = (h n (0, omega arith, refl), all_each P ns (λ m k. h m (later m n ns k)))

-- ---- numbers that are renamed, and can be named back

module _ (g back : ℕ → ℕ) where
  abbrev Undone : ℕ → Type 0
  Undone n = back (g n) ≡ n

  same_test : (m n : ℕ) → Undone m → Undone n → nat_eq (g m) (g n) ≡ nat_eq m n
  same_test m n h k = by (nat_eq (g m) (g n)) (nat_eq m n) refl refl
    where
      by : (a b : Bool) → nat_eq (g m) (g n) ≡ a → nat_eq m n ≡ b → nat_eq (g m) (g n) ≡ nat_eq m n
      by true true e f = e ∙ sym f
      by false false e f = e ∙ sym f
      by true false e f = absurd (eqb-false m n f (sym h ∙ ap back (eqb-true (g m) (g n) e) ∙ k))
      by false true e f = absurd (eqb-false (g m) (g n) e (ap g (eqb-true m n f)))

  any_map : (n : ℕ) (seen : List ℕ) → Undone n → AllByRecursion Undone seen → list_any (nat_eq (g n)) (map g seen) ≡ list_any (nat_eq n) seen
  any_map n [] h k = refl
  any_map n (m ∷ ms) h k = λ i. same_test n m h k.0 i || any_map n ms h k.1 i

  firsts_map : (seen ns : List ℕ) → AllByRecursion Undone seen → AllByRecursion Undone ns → firsts_after (map g seen) (map g ns) ≡ map g (firsts_after seen ns)
  firsts_map seen [] h k = refl
  firsts_map seen (n ∷ ns) h k =
      ap (λ b. if b then firsts_after (map g seen) (map g ns) else g n ∷ firsts_after (map g (n ∷ seen)) (map g ns)) (any_map n seen k.0 h)
      ∙ by (list_any (nat_eq n) seen) (firsts_map seen ns h k.1) (firsts_map (n ∷ seen) ns (k.0, h) k.1)
    where
      by : (b : Bool) → firsts_after (map g seen) (map g ns) ≡ map g (firsts_after seen ns)
          → firsts_after (map g (n ∷ seen)) (map g ns) ≡ map g (firsts_after (n ∷ seen) ns)
          → (if b then firsts_after (map g seen) (map g ns) else g n ∷ firsts_after (map g (n ∷ seen)) (map g ns)) ≡ map g (if b then firsts_after seen ns else n ∷ firsts_after (n ∷ seen) ns)
      by true e f = e
      by false e f = ap (λ l. g n ∷ l) f

-- ---- the numbers that stand first are distinct

unseen : (seen ns : List ℕ) → AllByRecursion (λ m. list_any (nat_eq m) seen ≡ false) (firsts_after seen ns)
unseen seen [] = tt
unseen seen (n ∷ ns) = by (list_any (nat_eq n) seen) refl (unseen seen ns) (unseen (n ∷ seen) ns)
  where
    second : (a b : Bool) → (a || b) ≡ false → b ≡ false
    second true b e = cc
    second false b e = e

    fewer : (ms : List ℕ) → AllByRecursion (λ m. list_any (nat_eq m) (n ∷ seen) ≡ false) ms → AllByRecursion (λ m. list_any (nat_eq m) seen ≡ false) ms
    fewer [] h = tt
    fewer (m ∷ ms) h = (second (nat_eq m n) (list_any (nat_eq m) seen) h.0, fewer ms h.1)

    by : (b : Bool) → list_any (nat_eq n) seen ≡ b → AllByRecursion (λ m. list_any (nat_eq m) seen ≡ false) (firsts_after seen ns)
        → AllByRecursion (λ m. list_any (nat_eq m) (n ∷ seen) ≡ false) (firsts_after (n ∷ seen) ns)
        → AllByRecursion (λ m. list_any (nat_eq m) seen ≡ false) (if b then firsts_after seen ns else n ∷ firsts_after (n ∷ seen) ns)
    by true e h k = h
    by false e h k = (e, fewer (firsts_after (n ∷ seen) ns) k)

-- each number's first place among those that stand first is its place
abbrev StandOnce : List ℕ → Type 0
StandOnce order = (k : ℕ) → k < length order → position_or_len (nat_eq (get_or order k 0)) order ≡ k

head_differs : (n m : ℕ) (seen : List ℕ) → list_any (nat_eq m) (n ∷ seen) ≡ false → nat_eq m n ≡ false
head_differs n m seen e = by (nat_eq m n) (list_any (nat_eq m) seen) e
  where
    by : (a b : Bool) → (a || b) ≡ false → a ≡ false
    by true b e = cc
    by false b e = refl

every_at : (P : ℕ → Type 0) (ns : List ℕ) (k : ℕ) → AllByRecursion P ns → k < length ns → P (get_or ns k 0)
every_at P [] k h less = absurd (omega arith)
every_at P (n ∷ ns) zero h less = h.0
every_at P (n ∷ ns) (suc k) h less = every_at P ns k h.1 (omega arith)

same_itself : (n : ℕ) → nat_eq n n ≡ true
same_itself n = by (nat_eq n n) refl
  where
    by : (b : Bool) → nat_eq n n ≡ b → nat_eq n n ≡ true
    by true e = e
    by false e = absurd (eqb-false n n e refl)

once_more : (n : ℕ) (seen ns : List ℕ) → StandOnce (firsts_after (n ∷ seen) ns) → StandOnce (n ∷ firsts_after (n ∷ seen) ns)
once_more n seen ns h zero less = ap (λ b. if not b then 1 + position_or_len (nat_eq n) (firsts_after (n ∷ seen) ns) else 0) (same_itself n)
once_more n seen ns h (suc j) less =
    let order = firsts_after (n ∷ seen) ns in
    let within : j < length order = omega (arith, less) in
    let m = get_or order j 0 in
    let place = h j within in
    ap (λ b. if not b then 1 + position_or_len (nat_eq m) order else 0) (head_differs n m seen (every_at (λ m. list_any (nat_eq m) (n ∷ seen) ≡ false) order j (unseen (n ∷ seen) ns) within))
    ∙ omega (arith, place)

stand_once : (seen ns : List ℕ) → StandOnce (firsts_after seen ns)
stand_once seen [] = λ k less. absurd (omega (arith, less))
stand_once seen (n ∷ ns) = by (list_any (nat_eq n) seen) (stand_once seen ns) (stand_once (n ∷ seen) ns)
  where
    by : (b : Bool) → StandOnce (firsts_after seen ns) → StandOnce (firsts_after (n ∷ seen) ns) → StandOnce (if b then firsts_after seen ns else n ∷ firsts_after (n ∷ seen) ns)
    by true h k = h
    by false h k = once_more n seen ns k

-- ---- the number at a number's place

read_back : (n : ℕ) (order : List ℕ) → list_any (nat_eq n) order ≡ true → get_or order (position_or_len (nat_eq n) order) 0 ≡ n
read_back n [] e = cc
read_back n (m ∷ ms) e = by (nat_eq n m) refl (read_back n ms)
  where
    by : (b : Bool) → nat_eq n m ≡ b → (list_any (nat_eq n) ms ≡ true → get_or ms (position_or_len (nat_eq n) ms) 0 ≡ n) → get_or (m ∷ ms) (position_or_len (nat_eq n) (m ∷ ms)) 0 ≡ n
    by true f rest = ap (λ b. get_or (m ∷ ms) (if not b then 1 + position_or_len (nat_eq n) ms else 0) 0) f ∙ sym (eqb-true n m f)
    by false f rest =
        let later : list_any (nat_eq n) ms ≡ true = sym (ap (λ b. b || list_any (nat_eq n) ms) f) ∙ e in
        let next : 1 + position_or_len (nat_eq n) ms ≡ suc (position_or_len (nat_eq n) ms) = omega arith in
        ap (λ b. get_or (m ∷ ms) (if not b then 1 + position_or_len (nat_eq n) ms else 0) 0) f ∙ ap (λ k. get_or (m ∷ ms) k 0) next ∙ rest later

-- ---- the canonical form

module _ (c : Clause) where
  abbrev order : List ℕ
  order = firsts (variables c)

  abbrev place : ℕ → ℕ
  place n = position_or_len (nat_eq n) order

  pub in_order : (n : ℕ) → Contains (variables c) n → list_any (nat_eq n) order ≡ true
  in_order n h = by (any_firsts n [] (variables c) (any_there n (variables c) h))
    where
      by : (list_any (nat_eq n) [] ≡ true) ⊎ (list_any (nat_eq n) order ≡ true) → list_any (nat_eq n) order ≡ true
      by (inl e) = cc
      by (inr e) = e

  pub undone : AllByRecursion (λ n. get_or order (place n) 0 ≡ n) (variables c)
  undone = all_each (λ n. get_or order (place n) 0 ≡ n) (variables c) (λ n h. read_back n order (in_order n h))

  pub renumbered_order : firsts (variables (canonical c)) ≡ map place order
  renumbered_order =
      ap firsts ((clause_laws c).renamed (renumbering order) place (all_each (λ n. renumbering order n ≡ Var (place n)) (variables c) (λ n h. refl)))
      ∙ firsts_map place (λ k. get_or order k 0) [] (variables c) tt undone

  counts_up : map place order ≡ counting_from 0 (map place order)
  counts_up = counts 0 (map place order) (λ k less.
      let within : k < length order = omega (arith, less, length-map order place) in
      get_or-map place order k 0 0 within ∙ stand_once [] (variables c) k within ∙ omega arith)

  pub is_canonical : IsCanonical (canonical c)
  is_canonical = renumbered_order ∙ counts_up ∙ ap (counting_from 0) (sym renumbered_order)

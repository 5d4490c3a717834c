-- Each of several once, by growing a list at its end.
use Rattle.std.proofs.Common.{◌≡◌, ◌∙◌, sym, ap, refl, ℕ, ◌+◌, ◌≤◌, Bool, true, false, ◌||◌, if◌then◌else◌, List, [], ◌∷◌, ◌++◌, map, length, get_or, take, drop, append_assoc, arith, length-append, ◌<◌, subst}
use Rattle.std.specs.List.{list_any}
use Rattle.std.proofs.lemmas.List.{append-nil, take_more, take-append-drop}
use Rattle.std.proofs.lemmas.List.Folds.{list_any-append}
use Rattle.sc_input_rules.specs.Numbering.{once}
use Rattle.sc_input_values.specs.Once.{with_new, with_each}

pub with_each-append : {X : Type 0} (same : X → X → Bool) (xs ys zs : List X) → with_each same xs (ys ++ zs) ≡ with_each same (with_each same xs ys) zs
with_each-append same xs [] zs = refl
with_each-append same xs (y ∷ ys) zs = with_each-append same (with_new same xs y) ys zs

longer_by_one : {X : Type 0} (same : X → X → Bool) (xs : List X) (y : X) → length xs ≤ length (with_new same xs y)
longer_by_one same xs y =
    elim (list_any (same y) xs) as (λ b. length xs ≤ length (if b then xs else (xs ++ y ∷ []))) [ true ↦ omega arith | false ↦ omega (arith, length-append xs (y ∷ [])) ]

pub with_each-longer : {X : Type 0} (same : X → X → Bool) (xs ys : List X) → length xs ≤ length (with_each same xs ys)
with_each-longer same xs [] = omega arith
with_each-longer same xs (y ∷ ys) = omega (arith, longer_by_one same xs y, with_each-longer same (with_new same xs y) ys)

or_last : (a b c : Bool) → a ≡ b → (c || a) ≡ (b || (c || false))
or_last true b true e = let h : b ≡ true = sym e in ap (λ x. x || true) (sym h)
or_last true b false e = let h : b ≡ true = sym e in ap (λ x. x || false) (sym h)
or_last false true c e = cc
or_last false false true e = refl
or_last false false false e = refl

-- where `before` has the same elements as xs, for all that is asked of them
pub with_each-once : {X : Type 0} (same : X → X → Bool) (before xs ys : List X) → ((x : X) → list_any (same x) before ≡ list_any (same x) xs)
    → with_each same xs ys ≡ xs ++ once same before ys
with_each-once same before xs [] alike = sym (append-nil xs)
with_each-once same before xs (y ∷ ys) alike =
    by (list_any (same y) before) (alike y) (with_each-once same before xs ys alike)
    (with_each-once same (y ∷ before) (xs ++ y ∷ []) ys (λ x. or_last _ _ (same x y) (alike x) ∙ sym (list_any-append (same x) xs (y ∷ []))))
  where
    Goal : Bool → Bool → Type 0
    Goal in_xs in_before = with_each same (if in_xs then xs else (xs ++ y ∷ [])) ys ≡ xs ++ (if in_before then once same before ys else (y ∷ once same (y ∷ before) ys))

    by : (b : Bool) → b ≡ list_any (same y) xs → with_each same xs ys ≡ xs ++ once same before ys
        → with_each same (xs ++ y ∷ []) ys ≡ (xs ++ y ∷ []) ++ once same (y ∷ before) ys → Goal (list_any (same y) xs) b
    by true e there new = subst (λ b. Goal b true) e there
    by false e there new = subst (λ b. Goal b false) e (new ∙ append_assoc xs (y ∷ []) (once same (y ∷ before) ys))

pub any-map : {X Y : Type 0} (p : Y → Bool) (f : X → Y) (xs : List X) → list_any (λ x. p (f x)) xs ≡ list_any p (map f xs)
any-map p f [] = refl
any-map p f (x ∷ xs) = ap (λ b. p (f x) || b) (any-map p f xs)

-- what is compared by f may be put under f first
pub once-map : {X Y : Type 0} (f : X → Y) (same : Y → Y → Bool) (before xs : List X) → map f (once (λ a b. same (f a) (f b)) before xs) ≡ once same (map f before) (map f xs)
once-map f same before [] = refl
once-map f same before (x ∷ xs) =
    by (list_any (λ a. same (f x) (f a)) before) (any-map (same (f x)) f before) (once-map f same before xs) (once-map f same (x ∷ before) xs)
  where
    Goal : Bool → Bool → Type 0
    Goal b c =
        map f (if b then once (λ a b. same (f a) (f b)) before xs else (x ∷ once (λ a b. same (f a) (f b)) (x ∷ before) xs))
        ≡ (if c then once same (map f before) (map f xs) else (f x ∷ once same (f x ∷ map f before) (map f xs)))

    by : (b : Bool) → b ≡ list_any (same (f x)) (map f before) → map f (once (λ a b. same (f a) (f b)) before xs) ≡ once same (map f before) (map f xs)
        → map f (once (λ a b. same (f a) (f b)) (x ∷ before) xs) ≡ once same (f x ∷ map f before) (map f xs) → Goal b (list_any (same (f x)) (map f before))
    by true e there new = subst (Goal true) e there
    by false e there new = subst (Goal false) e (ap (λ l. f x ∷ l) new)

-- ---- in a loop over a list, of which each gives some by f

-- the list has grown by what the first i of all give; a is the next, and gives ys
pub record Turn {A X : Type 0} (f : List A → List X) (all : List A) (i : ℕ) (a : A) (ys : List X) : Type 0 where
  pub joins : (bs cs : List A) → f (bs ++ cs) ≡ f bs ++ f cs
  pub within : i < length all
  pub item : a ≡ get_or all i a
  pub gives : f (a ∷ []) ≡ ys

pub turned : {A X : Type 0} (f : List A → List X) (all : List A) (i : ℕ) (a : A) (ys : List X) → Turn f all i a ys → f (take (i + 1) all) ≡ f (take i all) ++ ys
turned f all i a ys t =
    ap f (take_more all i a t.within ∙ ap (λ x. take i all ++ x ∷ []) (sym t.item)) ∙ t.joins (take i all) (a ∷ []) ∙ ap (λ l. f (take i all) ++ l) t.gives

pub with_each-turn : {A X : Type 0} (same : X → X → Bool) (f : List A → List X) (start : List X) (all : List A) (i : ℕ) (a : A) (ys : List X) → Turn f all i a ys
    → with_each same (with_each same start (f (take i all))) ys ≡ with_each same start (f (take (i + 1) all))
with_each-turn same f start all i a ys t = sym (with_each-append same start (f (take i all)) ys) ∙ ap (with_each same start) (sym (turned f all i a ys t))

-- where there is room for all, there is for the next
pub with_each-room : {A X : Type 0} (same : X → X → Bool) (f : List A → List X) (start : List X) (all : List A) (i : ℕ) (a : A) (ys : List X) (n : ℕ) → Turn f all i a ys
    → length (with_each same start (f all)) ≤ n → length (with_each same (with_each same start (f (take i all))) ys) ≤ n
with_each-room same f start all i a ys n t room =
    let first = with_each same start (f (take (i + 1) all)) in
    let rest = f (drop (i + 1) all) in
    let whole : with_each same start (f all) ≡ with_each same first rest =
    ap (λ l. with_each same start (f l)) (sym (take-append-drop (i + 1) all)) ∙ ap (with_each same start) (t.joins (take (i + 1) all) (drop (i + 1) all))
    ∙ with_each-append same start (f (take (i + 1) all)) rest in
    omega (arith, with_each-longer same first rest, ap length (with_each-turn same f start all i a ys t), ap length whole)

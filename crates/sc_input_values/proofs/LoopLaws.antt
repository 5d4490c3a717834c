-- Lists that a loop makes one by one.
use Rattle.std.proofs.Common.{◌≡◌, ◌∙◌, sym, ap, ℕ, ◌+◌, ◌<◌, List, [], ◌∷◌, ◌++◌, append_assoc, map, length, get_or, take}
use Rattle.std.proofs.lemmas.List.{take_more, map-append}

-- one more behind `start`, where so far it has what f gives of the first i of xs
pub push_turn : {A X : Type 0} (f : A → X) (start : List X) (xs : List A) (i : ℕ) (x : A) (made grown : List X) (y : X) → made ≡ start ++ map f (take i xs)
    → grown ≡ made ++ y ∷ [] → y ≡ f x → i < length xs → x ≡ get_or xs i x → grown ≡ start ++ map f (take (i + 1) xs)
push_turn f start xs i x made grown y so_far more is within item =
    let next : map f (take i xs) ++ f x ∷ [] ≡ map f (take (i + 1) xs) =
    sym (map-append f (take i xs) (x ∷ [])) ∙ ap (map f) (ap (λ z. take i xs ++ z ∷ []) item ∙ sym (take_more xs i x within)) in
    more ∙ (λ j. so_far j ++ is j ∷ []) ∙ append_assoc start (map f (take i xs)) (f x ∷ []) ∙ ap (λ l. start ++ l) next

-- the same from nothing on
pub map_turn : {A X : Type 0} (f : A → X) (xs : List A) (i : ℕ) (x : A) (made grown : List X) (y : X) → made ≡ map f (take i xs) → grown ≡ made ++ y ∷ [] → y ≡ f x
    → i < length xs → x ≡ get_or xs i x → grown ≡ map f (take (i + 1) xs)
map_turn f xs i x made grown y so_far more is within item = push_turn f [] xs i x made grown y so_far more is within item

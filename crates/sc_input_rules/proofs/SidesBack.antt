-- The tokens that spell a side are read as that side, whatever stands behind them that continues no side.
use Rattle.std.proofs.Common.{◌≡◌, ◌∙◌, ap, refl, ℕ, zero, suc, ◌≤◌, Bool, true, false, List, [], ◌∷◌, ◌++◌, length, append_assoc, Ok, arith}
use Rattle.std.specs.Prelude.{flat_map}
use Rattle.std.proofs.lemmas.List.{length-append}
use Rattle.sc_input_rules.specs.declared.token.Token.{Token}
use Rattle.sc_input_rules.specs.declared.token.Token.TheVariants.{Word, Punctuation}
use Rattle.sc_input_rules.specs.declared.token.Sign.{Sign}
use Rattle.sc_input_rules.specs.declared.token.Sign.TheVariants.{Open, Close, Comma}
use Rattle.sc_input_rules.specs.Token.{is_sign}
use Rattle.sc_input_rules.specs.Reader.{Read, Name, ◌>>=◌, unexpected, next_is, the_sign, separated}
use Rattle.sc_input_rules.specs.Syntax.{Side}
use Rattle.sc_input_rules.specs.ClauseGrammar.{bracketed, arguments, side_within, side}
use Rattle.sc_input_rules.proofs.Spelling.{Head, Sides, Empty, Entry, in_brackets, behind_comma, tokens_of, side_tokens, count, occurrences, side_of, IsName, AreNames}
use Rattle.sc_input_rules.proofs.Taken.{Gives}

-- ---- each side by itself

abbrev pub each_side : Sides → List Side
each_side Empty = []
each_side (Entry h args comma others) = side_of h args ∷ each_side others

pub each_side-occurrences : (f : Sides) → flat_map (λ s. s) (each_side f) ≡ occurrences f
each_side-occurrences Empty = refl
each_side-occurrences (Entry h args comma others) = ap (λ os. side_of h args ++ os) (each_side-occurrences others)

pub each_side-length : (f : Sides) → length (each_side f) ≡ count f
each_side-length Empty = refl
each_side-length (Entry h args comma others) = let e = each_side-length others in omega arith

-- ---- one side

abbrev pub IsNotNext : Sign → List Token → Type 0
IsNotNext s ts = next_is (is_sign s) ts ≡ false

-- what follows them continues no argument list
pub record Ends (ts : List Token) : Type 0 where
  pub opening : IsNotNext Open ts
  pub comma : IsNotNext Comma ts

abbrev SidesBack : ℕ → ℕ → Sides → List Token → Type 0
SidesBack n k Empty left = Unit {0}
SidesBack n k (Entry h args comma others) left = Gives (separated Comma (side_within n) k (tokens_of (Entry h args comma others) ++ left)) (each_side (Entry h args comma others)) left

inside : ℕ → List Token → Read (List Side)
inside n = separated Comma (side_within n) n

after_inside : Read (List Side) → Read (List Side)
after_inside r = r >>= λ value. the_sign Close value.1 >>= λ close. Ok (value.0, close.1)

args_back : (n : ℕ) (h : Head) (args : Sides) (left : List Token) → SidesBack n n args (Punctuation h.closing Close ∷ left) → IsNotNext Open left
    → Gives (arguments (separated Comma (side_within n) n) (in_brackets h args (tokens_of args) ++ left)) (each_side args) left
unfolding inside after_inside
args_back n h Empty left b e = ap (λ (b : Bool). elim b [ true ↦ bracketed (inside n) left | false ↦ Ok ([], left) ]) e
args_back n h (Entry g args comma others) left b e =
    ap (λ (ts : List Token). after_inside (inside n ts)) (append_assoc (tokens_of (Entry g args comma others)) (Punctuation h.closing Close ∷ []) left) ∙ ap after_inside b

after_name : ℕ → Name × List Token → Read Side
after_name n name = arguments (separated Comma (side_within n) n) name.1 >>= λ args. Ok (record { at = name.0.at; name = name.0.text; arity = length args.0 } ∷ flat_map (λ s. s) args.0, args.1)

after_args : Head → Read (List Side) → Read Side
after_args h r = r >>= λ args. Ok (record { at = h.at; name = h.text; arity = length args.0 } ∷ flat_map (λ s. s) args.0, args.1)

side_back_from : (n : ℕ) (h : Head) (args : Sides) (left : List Token) → SidesBack n n args (Punctuation h.closing Close ∷ left) → IsName h → IsNotNext Open left
    → Gives (side_within (suc n) (side_tokens h args ++ left)) (side_of h args) left
unfolding after_name after_args
side_back_from n h args left b named e =
    ap (λ (b : Bool). elim b [ true ↦ unexpected (side_tokens h args ++ left) | false ↦ Ok (record { at = h.at; text = h.text }, in_brackets h args (tokens_of args) ++ left) ] >>= after_name n) named
    ∙ ap (after_args h) (args_back n h args left b e)
    ∙ (λ i. Ok (record { at = h.at; name = h.text; arity = each_side-length args i } ∷ each_side-occurrences args i, left))

after_side : ℕ → ℕ → Read Side → Read (List Side)
after_side n k r = r >>= λ first.
    elim (next_is (is_sign Comma) first.1) [
      | true ↦ the_sign Comma first.1 >>= λ s. separated Comma (side_within n) k s.1 >>= λ others. Ok (first.0 ∷ others.0, others.1)
      | false ↦ Ok (first.0 ∷ [], first.1)
    ]

with_first : Side → Read (List Side) → Read (List Side)
with_first s r = r >>= λ others. Ok (s ∷ others.0, others.1)

others_back : (n k : ℕ) (s : Side) (comma : ℕ) (others : Sides) (left : List Token) → SidesBack n k others left → Ends left
    → Gives (after_side n k (Ok (s, behind_comma comma others (tokens_of others) ++ left))) (s ∷ each_side others) left
unfolding after_side with_first
others_back n k s comma Empty left c ends =
    ap (λ (b : Bool). elim b [
      | true ↦ the_sign Comma left >>= λ t. separated Comma (side_within n) k t.1 >>= λ others. Ok (s ∷ others.0, others.1)
      | false ↦ Ok (s ∷ [], left)
    ]) ends.comma
others_back n k s comma (Entry h args comma' others) left c ends = ap (with_first s) c

sides_back_from : (n k : ℕ) (h : Head) (args : Sides) (comma : ℕ) (others : Sides) (left : List Token)
    → Gives (side_within n (side_tokens h args ++ (behind_comma comma others (tokens_of others) ++ left))) (side_of h args) (behind_comma comma others (tokens_of others) ++ left)
    → SidesBack n k others left → Ends left → SidesBack n (suc k) (Entry h args comma others) left
unfolding after_side
sides_back_from n k h args comma others left b c ends =
    ap (λ (ts : List Token). after_side n k (side_within n (Word h.at h.text ∷ ts))) (append_assoc (in_brackets h args (tokens_of args)) (behind_comma comma others (tokens_of others)) left)
    ∙ ap (after_side n k) b ∙ others_back n k (side_of h args) comma others left c ends

in_brackets-length : (h : Head) (args : Sides) → length (tokens_of args) ≤ length (in_brackets h args (tokens_of args))
in_brackets-length h Empty = omega arith
in_brackets-length h (Entry g args comma others) = let e = length-append (tokens_of (Entry g args comma others)) (Punctuation h.closing Close ∷ []) in omega arith

behind_comma-length : (at : ℕ) (others : Sides) → length (tokens_of others) ≤ length (behind_comma at others (tokens_of others))
behind_comma-length at Empty = omega arith
behind_comma-length at (Entry g args comma others) = omega arith

behind_comma-next : (at : ℕ) (others : Sides) (ts left : List Token) → IsNotNext Open left → IsNotNext Open (behind_comma at others ts ++ left)
behind_comma-next at Empty ts left e = e
behind_comma-next at (Entry g args comma others) ts left e = refl

pub sides_back : (n k : ℕ) (f : Sides) (left : List Token) → length (tokens_of f) ≤ n → length (tokens_of f) ≤ k → AreNames f → Ends left → SidesBack n k f left
sides_back n k Empty left l l' names ends = tt
sides_back zero k (Entry h args comma others) left l l' names ends = absurd (omega arith)
sides_back (suc n) zero (Entry h args comma others) left l l' names ends = absurd (omega arith)
sides_back (suc n) (suc k) (Entry h args comma others) left l l' names ends =
    let behind = behind_comma comma others (tokens_of others) in
    let sum = length-append (in_brackets h args (tokens_of args)) behind in
    let in_args = in_brackets-length h args in
    let in_others = behind_comma-length comma others in
    sides_back_from (suc n) k h args comma others left
    (side_back_from n h args (behind ++ left)
    (sides_back n n args (Punctuation h.closing Close ∷ (behind ++ left)) (omega arith) (omega arith) names.1 (record { opening = refl; comma = refl }))
    names.0 (behind_comma-next comma others (tokens_of others) left ends.opening))
    (sides_back (suc n) k others left (omega arith) (omega arith) names.2 ends) ends

pub side_back : (h : Head) (args : Sides) (left : List Token) → IsName h → AreNames args → IsNotNext Open left → Gives (side (side_tokens h args ++ left)) (side_of h args) left
side_back h args left named names e =
    let n = length (in_brackets h args (tokens_of args) ++ left) in
    let sum = length-append (in_brackets h args (tokens_of args)) left in
    let in_args = in_brackets-length h args in
    side_back_from n h args left
    (sides_back n n args (Punctuation h.closing Close ∷ left) (omega arith) (omega arith) names (record { opening = refl; comma = refl })) named e

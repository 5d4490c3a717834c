-- Which name ends with the tokens of a side.
use Rattle.std.proofs.Common.{◌≡◌, ◌∙◌, ap, refl, ℕ, suc, ◌+◌, ◌-◌, Bool, false, List, [], ◌∷◌, ◌++◌, reverse, append_assoc, Some, None, arith}
use Rattle.std.specs.Prelude.{codes, if◌then◌else◌}
use Rattle.std.proofs.lemmas.List.{reverse-append}
use Rattle.sc_input_rules.specs.declared.token.Token.{Token}
use Rattle.sc_input_rules.specs.declared.token.Token.TheVariants.{Word, Punctuation}
use Rattle.sc_input_rules.specs.declared.token.Sign.TheVariants.{Open, Close, Comma}
use Rattle.sc_input_rules.specs.Token.{same_text}
use Rattle.sc_input_rules.specs.declared.written.Occurrence.{Occurrence}
use Rattle.sc_input_rules.proofs.Spelling.{Head, Sides, Empty, Entry, in_brackets, behind_comma, tokens_of, side_tokens, count, occurrence}
use Rattle.sc_text_rules.specs.TextPosition.{applied_name, name_before}

-- ---- backwards over the tokens of sides

turned : (xs ys zs : List Token) → reverse (xs ++ ys) ++ zs ≡ reverse ys ++ (reverse xs ++ zs)
turned xs ys zs = ap (λ us. us ++ zs) (reverse-append xs ys) ∙ append_assoc (reverse ys) (reverse xs) zs

turned_brackets : (o c : ℕ) (ts zs : List Token) → reverse (Punctuation o Open ∷ (ts ++ Punctuation c Close ∷ [])) ++ zs ≡ Punctuation c Close ∷ (reverse ts ++ (Punctuation o Open ∷ zs))
turned_brackets o c ts zs =
    turned (Punctuation o Open ∷ []) (ts ++ Punctuation c Close ∷ []) zs ∙ turned ts (Punctuation c Close ∷ []) (Punctuation o Open ∷ zs)

-- within parentheses that are closed, the level is kept
abbrev Keeps : List Token → Type 0
Keeps ts = (n a : ℕ) (zs : List Token) → applied_name (suc n) a (reverse ts ++ zs) ≡ applied_name (suc n) a zs

keeps_brackets : (o c : ℕ) (ts : List Token) → Keeps ts → Keeps (Punctuation o Open ∷ (ts ++ Punctuation c Close ∷ []))
keeps_brackets o c ts h n a zs =
    let two : n + 2 ≡ suc (suc n) = omega arith in
    ap (applied_name (suc n) a) (turned_brackets o c ts zs)
    ∙ ap (λ (m : ℕ). applied_name m a (reverse ts ++ (Punctuation o Open ∷ zs))) two
    ∙ h (suc n) a (Punctuation o Open ∷ zs)

keeps_join : (xs ys : List Token) → Keeps xs → Keeps ys → Keeps (xs ++ ys)
keeps_join xs ys h k n a zs = ap (applied_name (suc n) a) (turned xs ys zs) ∙ k n a (reverse xs ++ zs) ∙ h n a zs

keeps_comma : (at : ℕ) → Keeps (Punctuation at Comma ∷ [])
keeps_comma at n a zs = let one : n + 1 ≡ suc n = omega arith in ap (λ (m : ℕ). applied_name m a zs) one

keeps_inside : (h : Head) (args : Sides) → Keeps (tokens_of args) → Keeps (in_brackets h args (tokens_of args))
keeps_inside h Empty k = λ n a zs. refl
keeps_inside h (Entry g args comma others) k = keeps_brackets h.opening h.closing (tokens_of (Entry g args comma others)) k

keeps_others : (at : ℕ) (others : Sides) → Keeps (tokens_of others) → Keeps (behind_comma at others (tokens_of others))
keeps_others at Empty k = λ n a zs. refl
keeps_others at (Entry g args comma others) k = keeps_join (Punctuation at Comma ∷ []) (tokens_of (Entry g args comma others)) (keeps_comma at) k

keeps_sides : (f : Sides) → Keeps (tokens_of f)
keeps_sides Empty = λ n a zs. refl
keeps_sides (Entry h args comma others) =
    keeps_join (Word h.at h.text ∷ []) (in_brackets h args (tokens_of args) ++ behind_comma comma others (tokens_of others)) (λ n a zs. refl)
    (keeps_join (in_brackets h args (tokens_of args)) (behind_comma comma others (tokens_of others)) (keeps_inside h args (keeps_sides args)) (keeps_others comma others (keeps_sides others)))

-- ---- outside of them, commas are counted

abbrev Counts : List Token → ℕ → Type 0
Counts ts k = (a : ℕ) (zs : List Token) → applied_name 0 a (reverse ts ++ zs) ≡ applied_name 0 (a + k) zs

none_more : (a : ℕ) (zs : List Token) → applied_name 0 a zs ≡ applied_name 0 (a + 0) zs
none_more a zs = let e : a ≡ a + 0 = omega arith in ap (λ (n : ℕ). applied_name 0 n zs) e

pub counts_inside : (h : Head) (args : Sides) → Counts (in_brackets h args (tokens_of args)) 0
counts_inside h Empty a zs = none_more a zs
counts_inside h (Entry g args comma others) a zs =
    let ts = tokens_of (Entry g args comma others) in
    ap (applied_name 0 a) (turned_brackets h.opening h.closing ts zs) ∙ keeps_sides (Entry g args comma others) 0 a (Punctuation h.opening Open ∷ zs) ∙ none_more a zs

counts_join : (xs ys : List Token) (j k : ℕ) → Counts xs j → Counts ys k → Counts (xs ++ ys) (j + k)
counts_join xs ys j k h l a zs =
    let e : a + k + j ≡ a + (j + k) = omega arith in
    ap (applied_name 0 a) (turned xs ys zs) ∙ l a (reverse xs ++ zs) ∙ h (a + k) zs ∙ ap (λ (n : ℕ). applied_name 0 n zs) e

counts_others : (at : ℕ) (others : Sides) → Counts (tokens_of others) (count others - 1) → Counts (behind_comma at others (tokens_of others)) (count others)
counts_others at Empty h a zs = none_more a zs
counts_others at (Entry g args comma others) h a zs =
    let k = count others + 1 in
    let e : a + (0 + 1 + (k - 1)) ≡ a + k = omega arith in
    counts_join (Punctuation at Comma ∷ []) (tokens_of (Entry g args comma others)) (0 + 1) (k - 1) (λ a zs. ap (λ (n : ℕ). applied_name 0 n zs) (omega arith)) h a zs
    ∙ ap (λ (n : ℕ). applied_name 0 n zs) e

pub counts_sides : (f : Sides) → Counts (tokens_of f) (count f - 1)
counts_sides Empty a zs = none_more a zs ∙ ap (λ (n : ℕ). applied_name 0 n zs) (omega arith)
counts_sides (Entry h args comma others) a zs =
    let inner = in_brackets h args (tokens_of args) in
    let behind = behind_comma comma others (tokens_of others) in
    let e : a + (0 + (0 + count others)) ≡ a + (count others + 1 - 1) = omega arith in
    counts_join (Word h.at h.text ∷ []) (inner ++ behind) 0 (0 + count others) (λ a zs. none_more a zs)
    (counts_join inner behind 0 (count others) (counts_inside h args) (counts_others comma others (counts_sides others))) a zs
    ∙ ap (λ (n : ℕ). applied_name 0 n zs) e

-- ---- the name

abbrev pub Ends : List Token → Occurrence → Type 0
Ends front o = name_before (reverse front) ≡ Some o

abbrev pub EndsNoName : List Token → Type 0
EndsNoName front = name_before (reverse front) ≡ None

pub side_ends : (front : List Token) (h : Head) (args : Sides) → same_text h.text (codes "$F") ≡ false → Ends (front ++ side_tokens h args) (occurrence h args)
side_ends front h Empty named =
    ap name_before (reverse-append front (Word h.at h.text ∷ []))
    ∙ ap (λ (b : Bool). if b then None else Some (record { at = h.at; name = h.text; arity = 0 })) named
side_ends front h (Entry g args comma others) named =
    let ts = tokens_of (Entry g args comma others) in
    let zs = reverse front in
    let many : 1 + (count others + 1 - 1) ≡ count others + 1 = omega arith in
    ap name_before (reverse-append front (side_tokens h (Entry g args comma others)))
    ∙ ap name_before (turned (Word h.at h.text ∷ []) (in_brackets h (Entry g args comma others) ts) zs ∙ turned_brackets h.opening h.closing ts (Word h.at h.text ∷ zs))
    ∙ counts_sides (Entry g args comma others) 1 (Punctuation h.opening Open ∷ Word h.at h.text ∷ zs)
    ∙ ap (λ (n : ℕ). Some (record { at = h.at; name = h.text; arity = n })) many

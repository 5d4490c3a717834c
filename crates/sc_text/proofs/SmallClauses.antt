-- Where no variable that is too large is told behind the words of a clause, its terms have none.
use Rattle.std.proofs.Common.{◌≡◌, ◌∙◌, sym, ap, subst, refl, Bool, true, false, List, [], ◌∷◌, ◌++◌, map, length, length-append, append_assoc, drop, reverse, arith}
use Rattle.std.specs.Prelude.{ℕ, ◌+◌, ◌-◌, ◌||◌, not, cond, codes, flat_map}
use Rattle.std.specs.List.{AllByRecursion, list_any, after_last, suffix_len, prefix_len}
use Rattle.std.proofs.lemmas.List.{append-nil, reverse-append}
use Rattle.std.proofs.lemmas.List.Folds.{list_any-append}
use Rattle.std.proofs.Math.Seq.{drop-append_seam}
use Rattle.sc_term.proofs.SubstitutionLaws.{all_join, all_split}
use Rattle.sc_input_rules.specs.declared.token.Token.{Token}
use Rattle.sc_input_rules.specs.declared.token.Token.TheVariants.{Word, Punctuation, Refused}
use Rattle.sc_input_rules.specs.declared.token.Sign.TheVariants.{Open, Bar}
use Rattle.sc_input_rules.specs.Token.{is_sign, same_text}
use Rattle.sc_input_rules.specs.Reader.{next_is}
use Rattle.sc_input_rules.specs.declared.written.WrittenLiteral.{WrittenLiteral}
use Rattle.sc_input_rules.specs.ClauseGrammar.{is_equality}
use Rattle.sc_input_rules.specs.Measures.{open_commas, last_literal, without_bracket, without_minus}
use Rattle.sc_input_rules.proofs.OneMore.{open_commas-one_more}
use Rattle.sc_input_rules.proofs.Spelling.{Head, Sides, Empty, Entry, in_brackets, tokens_of, side_tokens, occurrences, side_of, IsName, AreNames}
use Rattle.sc_input_rules.proofs.ClauseSpelling.{Atom, Plain, Equation, Wrapping, Bare, Negative, Brackets, NegativeBrackets, LiteralTree, ClauseTree, Falsum, Literals, equal_sign, atom_tokens, opening_tokens, closing_tokens, literal_tokens, behind_bar, clause_tokens, atom_written, literal_written, clause_written, HasNames, IsSpelt, IsSpeltClause}
use Rattle.sc_input_rules.proofs.NoStop.{literal_no_bar}
use Rattle.sc_input_rules.proofs.ClauseParts.{wrapped-arguments}
use Rattle.sc_text_rules.specs.TextPosition.{is_nonempty, in_term_place}
use Rattle.sc_text.proofs.SmallWords.{SmallVariable, bare, next_or, next_or-append, SmallWords, small_back, head_small, sides_small, brackets_small}

-- ---- the last literal

abbrev IsNoBar : Token → Type 0
IsNoBar t = is_sign Bar t ≡ false

abbrev passes : Token → Bool
passes t = not (is_sign Bar t)

prefix-none : (ys zs : List Token) → AllByRecursion IsNoBar ys → prefix_len passes (reverse ys ++ zs) ≡ length ys + prefix_len passes zs
prefix-none [] zs h = omega arith
prefix-none (y ∷ ys) zs h =
    let turned : reverse (y ∷ ys) ++ zs ≡ reverse ys ++ (y ∷ zs) = ap (λ ts. ts ++ zs) (reverse-append (y ∷ []) ys) ∙ append_assoc (reverse ys) (y ∷ []) zs in
    let one : prefix_len passes (y ∷ zs) ≡ 1 + prefix_len passes zs = ap (λ (b : Bool). cond (not b) (1 + prefix_len passes zs) 0) h.0 in
    ap (prefix_len passes) turned ∙ prefix-none ys (y ∷ zs) h.1 ∙ omega arith

-- a literal begins behind these tokens
abbrev IsLiteralStart : List Token → Type 0
IsLiteralStart before = (zs : List Token) → AllByRecursion IsNoBar zs → after_last (is_sign Bar) (before ++ zs) ≡ zs

first_starts : IsLiteralStart []
first_starts ys h =
    let e : suffix_len passes ys ≡ length ys + 0 = ap (prefix_len passes) (sym (append-nil (reverse ys))) ∙ prefix-none ys [] h in
    let none : length ys - suffix_len passes ys ≡ 0 = omega arith in
    ap (λ (n : ℕ). drop n ys) none

bar_starts : (xs : List Token) (at : ℕ) → IsLiteralStart (xs ++ Punctuation at Bar ∷ [])
bar_starts xs at ys h =
    let bar = Punctuation at Bar in
    let whole = append_assoc xs (bar ∷ []) ys in
    let turned : reverse (xs ++ bar ∷ ys) ≡ reverse ys ++ (bar ∷ reverse xs) =
    reverse-append xs (bar ∷ ys) ∙ ap (λ ts. ts ++ reverse xs) (reverse-append (bar ∷ []) ys) ∙ append_assoc (reverse ys) (bar ∷ []) (reverse xs) in
    let e : suffix_len passes (xs ++ bar ∷ ys) ≡ length ys + 0 = ap (prefix_len passes) turned ∙ prefix-none ys (bar ∷ reverse xs) h in
    let front : length (xs ++ bar ∷ ys) - suffix_len passes (xs ++ bar ∷ ys) ≡ length (xs ++ bar ∷ []) =
    omega (arith, e, length-append xs (bar ∷ ys), length-append xs (bar ∷ [])) in
    ap (after_last (is_sign Bar)) whole
    ∙ ap (λ (n : ℕ). drop n (xs ++ bar ∷ ys)) front ∙ ap (drop (length (xs ++ bar ∷ []))) (sym whole) ∙ drop-append_seam (xs ++ bar ∷ []) ys

abbrev is_some_word : Token → Bool
is_some_word (Word at text) = true
is_some_word (Punctuation at s) = false
is_some_word (Refused at kind) = false

-- an atom begins behind these tokens
abbrev IsAtomStart : List Token → Type 0
IsAtomStart before = (zs : List Token) → AllByRecursion IsNoBar zs → next_is is_some_word zs ≡ true → last_literal (before ++ zs) ≡ zs

opening_no_bar : (w : Wrapping) → AllByRecursion IsNoBar (opening_tokens w)
opening_no_bar Bare = tt
opening_no_bar (Negative at) = (refl, tt)
opening_no_bar (Brackets o c) = (refl, tt)
opening_no_bar (NegativeBrackets at o c) = (refl, (refl, tt))

stripped : (w : Wrapping) (zs : List Token) → next_is is_some_word zs ≡ true → without_bracket (without_minus (opening_tokens w ++ zs)) ≡ zs
stripped w [] e = absurd cc
stripped w (Punctuation at s ∷ zs) e = absurd cc
stripped w (Refused at kind ∷ zs) e = absurd cc
stripped Bare (Word at text ∷ zs) e = refl
stripped (Negative n) (Word at text ∷ zs) e = refl
stripped (Brackets o c) (Word at text ∷ zs) e = refl
stripped (NegativeBrackets n o c) (Word at text ∷ zs) e = refl

opening_starts : (before : List Token) (w : Wrapping) → IsLiteralStart before → IsAtomStart (before ++ opening_tokens w)
opening_starts before w s zs h e =
    ap (λ (ts : List Token). last_literal ts) (append_assoc before (opening_tokens w) zs)
    ∙ ap (λ (ts : List Token). without_bracket (without_minus ts)) (s (opening_tokens w ++ zs) (all_join IsNoBar (opening_tokens w) zs (opening_no_bar w) h))
    ∙ stripped w zs e

-- ---- words of a formula

-- Words in the place of a term, of tokens that t follows and some stand before, are no large variables.
abbrev pub SmallTerms : List Token → List Token → Token → Type 0
SmallTerms before ts t =
    (xs ys : List Token) (at : ℕ) (text : List ℕ) → ts ≡ xs ++ Word at text ∷ ys
    → in_term_place (record { is_term = false; tokens = before ++ (xs ++ Word at text ∷ []) }) (next_or t ys) ≡ true
    → is_sign Open (next_or t ys) ≡ false → same_text (codes "$F") text ≡ false → SmallVariable (bare at text)

terms_front : (before xs ys : List Token) (t : Token) → SmallTerms before (xs ++ ys) t → SmallTerms before xs (next_or t ys)
terms_front before xs ys t s us vs at text e here opens named =
    let next = next_or-append t vs ys in
    s us (vs ++ ys) at text (ap (λ ts. ts ++ ys) e ∙ append_assoc us (Word at text ∷ vs) ys)
    (ap (in_term_place (record { is_term = false; tokens = before ++ (us ++ Word at text ∷ []) })) next ∙ here) (ap (is_sign Open) next ∙ opens) named

terms_back : (before xs ys : List Token) (t : Token) → SmallTerms before (xs ++ ys) t → SmallTerms (before ++ xs) ys t
terms_back before xs ys t s us vs at text e here opens named =
    let word = Word at text ∷ [] in
    let same : before ++ ((xs ++ us) ++ word) ≡ (before ++ xs) ++ (us ++ word) = ap (λ ts. before ++ ts) (append_assoc xs us word) ∙ sym (append_assoc before xs (us ++ word)) in
    s (xs ++ us) vs at text (ap (λ ts. xs ++ ts) e ∙ sym (append_assoc xs us (Word at text ∷ vs)))
    (ap (λ ts. in_term_place (record { is_term = false; tokens = ts }) (next_or t vs)) same ∙ here) opens named

-- ---- in the place of a term

abbrev place_in : List Token → Token → Bool
place_in l u = false || is_nonempty (open_commas [] l) || list_any is_equality l || is_equality u

place_is : (before ts : List Token) (u : Token) → last_literal (before ++ ts) ≡ ts → in_term_place (record { is_term = false; tokens = before ++ ts }) u ≡ place_in ts u
place_is before ts u e = ap (λ (l : List Token). place_in l u) e

first-or : (a b c : Bool) → a ≡ true → (false || a || b || c) ≡ true
first-or true b c e = refl
first-or false b c e = absurd cc

second-or : (a b c : Bool) → b ≡ true → (false || a || b || c) ≡ true
second-or true true c e = refl
second-or false true c e = refl
second-or a false c e = absurd cc

third-or : (a b c : Bool) → c ≡ true → (false || a || b || c) ≡ true
third-or true b true e = refl
third-or false true true e = refl
third-or false false true e = refl
third-or a b false e = absurd cc

-- the front of tokens that begin with a word
front_word : (xs ys : List Token) (at : ℕ) (text : List ℕ) → next_is is_some_word (xs ++ Word at text ∷ ys) ≡ true → next_is is_some_word (xs ++ Word at text ∷ []) ≡ true
front_word [] ys at text e = e
front_word (x ∷ xs) ys at text e = e

front_no_bar : (xs ys : List Token) (at : ℕ) (text : List ℕ) → AllByRecursion IsNoBar (xs ++ Word at text ∷ ys) → AllByRecursion IsNoBar (xs ++ Word at text ∷ [])
front_no_bar xs ys at text h = all_join IsNoBar xs (Word at text ∷ []) (all_split IsNoBar xs (Word at text ∷ ys) h).0 (refl, tt)

-- up to a word, an atom is the last literal
last_up_to : (before ts xs ys : List Token) (at : ℕ) (text : List ℕ) → IsAtomStart before → AllByRecursion IsNoBar ts → next_is is_some_word ts ≡ true → ts ≡ xs ++ Word at text ∷ ys
    → last_literal (before ++ (xs ++ Word at text ∷ [])) ≡ xs ++ Word at text ∷ []
last_up_to before ts xs ys at text s h w e =
    s (xs ++ Word at text ∷ []) (front_no_bar xs ys at text (subst (AllByRecursion IsNoBar) e h)) (front_word xs ys at text (sym (ap (next_is is_some_word) e) ∙ w))

-- in argument lists
listed_small : (before ts : List Token) (t : Token) → IsAtomStart before → AllByRecursion IsNoBar ts → next_is is_some_word ts ≡ true → SmallTerms before ts t → SmallWords false [] ts t
listed_small before ts t s h w small xs ys at text e here opens named =
    let l = xs ++ Word at text ∷ [] in
    let nested : is_nonempty (open_commas [] (xs ++ Word at text ∷ [])) ≡ true = ap is_nonempty (open_commas-one_more [] xs (Word at text)) ∙ here in
    small xs ys at text e
    (place_is before l (next_or t ys) (last_up_to before ts xs ys at text s h w e) ∙ first-or (is_nonempty (open_commas [] l)) (list_any is_equality l) (is_equality (next_or t ys)) nested) opens named

-- behind the sign of an equation
behind_small : (before left right : List Token) (sign t : Token) → IsAtomStart before → AllByRecursion IsNoBar (left ++ sign ∷ right) → next_is is_some_word (left ++ sign ∷ right) ≡ true → is_equality sign ≡ true
    → SmallTerms before (left ++ sign ∷ right) t → SmallWords true [] right t
behind_small before left right sign t s h w q small xs ys at text e here opens named =
    let front = left ++ sign ∷ xs in
    let l = front ++ Word at text ∷ [] in
    let whole : left ++ sign ∷ right ≡ (left ++ sign ∷ xs) ++ Word at text ∷ ys = ap (λ ts. left ++ sign ∷ ts) e ∙ sym (append_assoc left (sign ∷ xs) (Word at text ∷ ys)) in
    let found : list_any is_equality (front ++ Word at text ∷ []) ≡ true =
    ap (list_any is_equality) (append_assoc left (sign ∷ xs) (Word at text ∷ [])) ∙ list_any-append is_equality left (sign ∷ (xs ++ Word at text ∷ [])) ∙ in_back (list_any is_equality left) in
    small front ys at text whole
    (place_is before l (next_or t ys) (last_up_to before (left ++ sign ∷ right) front ys at text s h w whole) ∙ second-or (is_nonempty (open_commas [] l)) (list_any is_equality l) (is_equality (next_or t ys)) found) opens named
  where
    in_back : (a : Bool) → (a || list_any is_equality (sign ∷ (xs ++ Word at text ∷ []))) ≡ true
    in_back true = refl
    in_back false = ap (λ (b : Bool). b || list_any is_equality (xs ++ Word at text ∷ [])) q

-- ---- an atom

equal_sign-equality : (positive : Bool) (at : ℕ) → is_equality (Punctuation at (equal_sign positive)) ≡ true
equal_sign-equality true at = refl
equal_sign-equality false at = refl

-- the left side of an equation
left_small : (before : List Token) (h : Head) (args : Sides) (sign : Token) → IsAtomStart before → AllByRecursion IsNoBar (side_tokens h args) → IsName h × AreNames args → is_equality sign ≡ true → is_sign Open sign ≡ false
    → SmallTerms before (side_tokens h args) sign → AllByRecursion SmallVariable (side_of h args)
left_small before h args sign s bars names q opens small =
    let words = listed_small before (side_tokens h args) sign s bars refl small in (
      head_small h args (λ e. alone (subst (λ (args : Sides). SmallTerms before (side_tokens h args) sign) e small)),
      brackets_small false h args [] sign names.1 (small_back false [] (Word h.at h.text ∷ []) (in_brackets h args (tokens_of args)) sign words),
    )
  where
    alone : SmallTerms before (Word h.at h.text ∷ []) sign → SmallVariable (bare h.at h.text)
    alone small =
        let l = Word h.at h.text ∷ [] in
        small [] [] h.at h.text refl
        (place_is before l sign (s l (refl, tt) refl) ∙ third-or (is_nonempty (open_commas [] l)) (list_any is_equality l) (is_equality sign) q) opens names.0

right_small : (h : Head) (args : Sides) (t : Token) → IsName h × AreNames args → is_sign Open t ≡ false → SmallWords true [] (side_tokens h args) t → AllByRecursion SmallVariable (side_of h args)
right_small h args t names opens s =
    let spelt : tokens_of (Entry h args 0 Empty) ≡ side_tokens h args = ap (λ ts. Word h.at h.text ∷ ts) (append-nil (in_brackets h args (tokens_of args))) in
    let all = sides_small true (Entry h args 0 Empty) [] t refl opens (names.0, names.1, tt) (subst (λ ts. SmallWords true [] ts t) (sym spelt) s) in
    (all.0, subst (AllByRecursion SmallVariable) (append-nil (occurrences args)) all.1)

sign_opens : (positive : Bool) (at : ℕ) → is_sign Open (Punctuation at (equal_sign positive)) ≡ false
sign_opens true at = refl
sign_opens false at = refl

atom_small : (before : List Token) (a : Atom) (t : Token) → IsAtomStart before → AllByRecursion IsNoBar (atom_tokens a) → HasNames a → is_sign Open t ≡ false → SmallTerms before (atom_tokens a) t
    → AllByRecursion SmallVariable (atom_written a).arguments
atom_small before (Plain h args) t s bars names opens small =
    let words = listed_small before (side_tokens h args) t s bars refl small in
    brackets_small false h args [] t names.1 (small_back false [] (Word h.at h.text ∷ []) (in_brackets h args (tokens_of args)) t words)
atom_small before (Equation e) t s bars names opens small =
    let left = side_tokens e.left_head e.left_args in
    let right = side_tokens e.right_head e.right_args in
    let sign = Punctuation e.at (equal_sign e.positive) in
    let q = equal_sign-equality e.positive e.at in
    all_join SmallVariable (side_of e.left_head e.left_args) (side_of e.right_head e.right_args)
    (left_small before e.left_head e.left_args sign s (all_split IsNoBar left (sign ∷ right) bars).0 names.0 q (sign_opens e.positive e.at) (terms_front before left (sign ∷ right) t small))
    (right_small e.right_head e.right_args t names.1 opens (behind_small before left right sign t s bars refl q small))

-- ---- a clause

closing_opens : (w : Wrapping) (t : Token) → is_sign Open t ≡ false → is_sign Open (next_or t (closing_tokens w)) ≡ false
closing_opens Bare t e = e
closing_opens (Negative at) t e = e
closing_opens (Brackets o c) t e = refl
closing_opens (NegativeBrackets at o c) t e = refl

abbrev pub HasSmallTerms : WrittenLiteral → Type 0
HasSmallTerms l = AllByRecursion SmallVariable l.arguments

literal_small : (before : List Token) (l : LiteralTree) (t : Token) → IsLiteralStart before → HasNames l.atom → is_sign Open t ≡ false → SmallTerms before (literal_tokens l) t → HasSmallTerms (literal_written l)
literal_small before l t s names opens small =
    let opening = opening_tokens l.wrapping in
    let closing = closing_tokens l.wrapping in
    let bars = all_split IsNoBar (atom_tokens l.atom) closing (all_split IsNoBar opening (atom_tokens l.atom ++ closing) (literal_no_bar l)).1 in
    let inner = terms_back before opening (atom_tokens l.atom ++ closing) t small in
    subst (AllByRecursion SmallVariable) (sym (wrapped-arguments l.wrapping (atom_written l.atom)))
    (atom_small (before ++ opening) l.atom (next_or t closing) (opening_starts before l.wrapping s) bars.0 names (closing_opens l.wrapping t opens)
    (terms_front (before ++ opening) (atom_tokens l.atom) closing t inner))

bars_open : (bs : List (ℕ × LiteralTree)) (t : Token) → is_sign Open t ≡ false → is_sign Open (next_or t (flat_map behind_bar bs)) ≡ false
bars_open [] t e = e
bars_open (b ∷ bs) t e = refl

others_small : (before : List Token) (bs : List (ℕ × LiteralTree)) (t : Token) → AllByRecursion (λ (b : ℕ × LiteralTree). HasNames b.1.atom) bs → is_sign Open t ≡ false → SmallTerms before (flat_map behind_bar bs) t
    → AllByRecursion HasSmallTerms (map (λ (b : ℕ × LiteralTree). literal_written b.1) bs)
others_small before [] t names opens small = tt
others_small before (b ∷ bs) t names opens small =
    let behind = flat_map behind_bar bs in
    let bar = Punctuation b.0 Bar ∷ [] in
    let first = terms_back before bar (literal_tokens b.1) (next_or t behind) (terms_front before (behind_bar b) behind t small) in (
      literal_small (before ++ bar) b.1 (next_or t behind) (bar_starts before b.0) names.0 (bars_open bs t opens) first,
      others_small (before ++ behind_bar b) bs t names.1 opens (terms_back before (behind_bar b) behind t small),
    )

names_of : (bs : List (ℕ × LiteralTree)) → AllByRecursion (λ (b : ℕ × LiteralTree). IsSpelt b.1) bs → AllByRecursion (λ (b : ℕ × LiteralTree). HasNames b.1.atom) bs
names_of [] h = tt
names_of (b ∷ bs) h = (h.0.1, names_of bs h.1)

pub clause_small : (c : ClauseTree) (t : Token) → IsSpeltClause c → is_sign Open t ≡ false → SmallTerms [] (clause_tokens c) t → AllByRecursion HasSmallTerms (clause_written c)
clause_small (Falsum at) t spelt opens small = tt
clause_small (Literals l bs) t spelt opens small =
    let behind = flat_map behind_bar bs in (
      literal_small [] l (next_or t behind) first_starts spelt.0.1 (bars_open bs t opens) (terms_front [] (literal_tokens l) behind t small),
      others_small (literal_tokens l) bs t (names_of bs spelt.1) opens (terms_back [] (literal_tokens l) behind t small),
    )

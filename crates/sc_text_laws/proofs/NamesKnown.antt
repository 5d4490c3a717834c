-- Nothing is told of the names of terms over the symbols, wherever the tokens of their sides end.
use Rattle.std.proofs.Common.{◌≡◌, ◌∙◌, sym, ap, subst, refl, ℕ, Bool, true, false, List, [], ◌∷◌, ◌++◌, reverse, append_assoc, Option, Some, None}
use Rattle.std.specs.Prelude.{◌&&◌, codes, option_and_then}
use Rattle.std.specs.List.{AllByRecursion}
use Rattle.std.specs.Cmp.Lexicographic.{bytes_decides}
use Rattle.std.proofs.lemmas.List.{append-nil, reverse-append}
use Rattle.sc_term.proofs.SubstitutionLaws.{all_split}
use Rattle.sc_term.specs.declared.symbol.Symbol.{Symbol}
use Rattle.sc_input_rules.specs.declared.token.Token.{Token}
use Rattle.sc_input_rules.specs.declared.token.Token.TheVariants.{Word, Punctuation}
use Rattle.sc_input_rules.specs.declared.token.Sign.TheVariants.{Open, Close, Comma}
use Rattle.sc_input_rules.specs.Token.{is_sign, same_text}
use Rattle.sc_input_rules.specs.ClauseLimits.{when}
use Rattle.sc_input_rules.specs.declared.written.Occurrence.{Occurrence}
use Rattle.sc_input_rules.proofs.Spelling.{Head, Sides, Empty, Entry, in_brackets, behind_comma, tokens_of, side_tokens, occurrence, occurrences, IsName, AreNames}
use Rattle.sc_text_rules.specs.TextWords.{is_unknown_atom, is_large_variable}
use Rattle.sc_text_rules.specs.TextPosition.{Formula, name_before, ended_name, in_term_place}
use Rattle.sc_text_rules.specs.TextLimits.{is_unknown}
use Rattle.sc_text_laws.proofs.KnownNames.{KnownTerm}
use Rattle.sc_text_laws.proofs.Walks.{Walk, walk_join}
use Rattle.sc_text_laws.proofs.EndedNames.{Ends, EndsNoName, side_ends}

-- ---- what is told of the name that ends

abbrev pub so_far : Bool → List Token → Formula
so_far is_term front = record { is_term = is_term; tokens = front }

abbrev told : (Bool → Occurrence → Bool) → Bool → List Token → Token → Option ℕ
told test is_term front t = option_and_then (λ o. when (test (in_term_place (so_far is_term front) t) o) (Some o.at)) (ended_name front t)

-- nothing is
pub record NameClear (symbols : List Symbol) (is_term : Bool) (front : List Token) (t : Token) : Type 0 where
  pub known : option_and_then (λ o. when (is_unknown symbols (in_term_place (so_far is_term front) t) o) (Some o.at)) (ended_name front t) ≡ None
  pub small : option_and_then (λ o. when (in_term_place (so_far is_term front) t && is_large_variable o) (Some o.at)) (ended_name front t) ≡ None

nothing_by : (test : Bool → Occurrence → Bool) (place b : Bool) (o : Option Occurrence) → o ≡ None
    → option_and_then (λ o. when (test place o) (Some o.at)) (elim b [ true ↦ None | false ↦ o ]) ≡ None
nothing_by test place true o e = refl
nothing_by test place false o e = ap (option_and_then (λ o. when (test place o) (Some o.at))) e

passed_by : (test : Bool → Occurrence → Bool) (place b : Bool) (n : Option Occurrence) (o : Occurrence) → n ≡ Some o → test place o ≡ false
    → option_and_then (λ o. when (test place o) (Some o.at)) (elim b [ true ↦ None | false ↦ n ]) ≡ None
passed_by test place true n o e k = refl
passed_by test place false n o e k =
    ap (option_and_then (λ o. when (test place o) (Some o.at))) e ∙ ap (λ (b : Bool). when b (Some o.at)) k

module _ (symbols : List Symbol) (is_term : Bool) where
  abbrev large : Bool → Occurrence → Bool
  large in_term o = in_term && is_large_variable o

  pub no_name : (front : List Token) (t : Token) → EndsNoName front → NameClear symbols is_term front t
  no_name front t e =
      let place = in_term_place (so_far is_term front) t in
      record { known = nothing_by (is_unknown symbols) place (is_sign Open t) (name_before (reverse front)) e; small = nothing_by large place (is_sign Open t) (name_before (reverse front)) e }

  pub term_name : (front : List Token) (t : Token) (o : Occurrence) → Ends front o → in_term_place (so_far is_term front) t ≡ true → KnownTerm symbols o → NameClear symbols is_term front t
  term_name front t o e p k =
      let place = in_term_place (so_far is_term front) t in
      record {
        known = passed_by (is_unknown symbols) place (is_sign Open t) (name_before (reverse front)) o e (ap (λ (b : Bool). is_unknown symbols b o) p ∙ k.known);
        small = passed_by large place (is_sign Open t) (name_before (reverse front)) o e (ap (λ (b : Bool). large b o) p ∙ k.small);
      }

  pub atom_name : (front : List Token) (t : Token) (o : Occurrence) → Ends front o → in_term_place (so_far is_term front) t ≡ false → is_unknown_atom symbols o ≡ false → NameClear symbols is_term front t
  atom_name front t o e p k =
      let place = in_term_place (so_far is_term front) t in
      record {
        known = passed_by (is_unknown symbols) place (is_sign Open t) (name_before (reverse front)) o e (ap (λ (b : Bool). is_unknown symbols b o) p ∙ k);
        small = passed_by large place (is_sign Open t) (name_before (reverse front)) o e (ap (λ (b : Bool). large b o) p);
      }

  before_open : (front : List Token) (at : ℕ) → NameClear symbols is_term front (Punctuation at Open)
  before_open front at = record { known = refl; small = refl }

-- ---- places of terms

-- wherever these tokens are cut, what ends there is a term
abbrev pub HasPlaces : Bool → List Token → List Token → Type 0
HasPlaces is_term front ts = (us more : List Token) (t : Token) → ts ≡ us ++ more → in_term_place (so_far is_term (front ++ us)) t ≡ true

pub places_front : (is_term : Bool) (front xs ys : List Token) → HasPlaces is_term front (xs ++ ys) → HasPlaces is_term front xs
places_front is_term front xs ys h us more t e = h us (more ++ ys) t (ap (λ ts. ts ++ ys) e ∙ append_assoc us more ys)

pub places_back : (is_term : Bool) (front xs ys : List Token) → HasPlaces is_term front (xs ++ ys) → HasPlaces is_term (front ++ xs) ys
places_back is_term front xs ys h us more t e =
    subst (λ (ts : List Token). in_term_place (so_far is_term ts) t ≡ true) (sym (append_assoc front xs us)) (h (xs ++ us) more t (ap (λ ts. xs ++ ts) e ∙ sym (append_assoc xs us more)))

-- ---- sides

named_otherwise : (h : Head) → IsName h → same_text h.text (codes "$F") ≡ false
named_otherwise h named = by (same_text h.text (codes "$F")) refl
  where
    by : (b : Bool) → same_text h.text (codes "$F") ≡ b → b ≡ false
    by true e =
        let is : h.text ≡ codes "$F" = (bytes_decides h.text (codes "$F")).0 e in
        let same : same_text (codes "$F") h.text ≡ true = (bytes_decides (codes "$F") h.text).1 (sym is) in
        cc
    by false e = refl

pub ends_no_name : (front : List Token) (t : Token) → name_before (t ∷ reverse front) ≡ None → EndsNoName (front ++ t ∷ [])
ends_no_name front t e = ap name_before (reverse-append front (t ∷ [])) ∙ e

module _ (symbols : List Symbol) (is_term : Bool) where
  abbrev Clear : List Token → List Token → Type 0
  Clear front ts = Walk (NameClear symbols is_term) front ts

  -- behind the last of some sides
  abbrev LastKnown : List Token → Sides → Type 0
  LastKnown front Empty = Unit {0}
  LastKnown front (Entry h args comma others) = (o : Occurrence) × Ends (front ++ tokens_of (Entry h args comma others)) o × KnownTerm symbols o

  abbrev SidesClear : Sides → Type 0
  SidesClear f = (front : List Token) → EndsNoName front → HasPlaces is_term front (tokens_of f) → AllByRecursion (KnownTerm symbols) (occurrences f) → AreNames f → Clear front (tokens_of f) × LastKnown front f

  -- the places within the parentheses of a side
  abbrev pub InnerPlaces : List Token → Head → Sides → Type 0
  InnerPlaces front h Empty = Unit {0}
  InnerPlaces front h (Entry g args comma others) = HasPlaces is_term (front ++ Word h.at h.text ∷ Punctuation h.opening Open ∷ []) (tokens_of (Entry g args comma others))

  brackets_clear : (front : List Token) (h : Head) (args : Sides) → SidesClear args → InnerPlaces front h args → AllByRecursion (KnownTerm symbols) (occurrences args) → AreNames args
      → Clear (front ++ Word h.at h.text ∷ []) (in_brackets h args (tokens_of args))
  brackets_clear front h Empty ih places known names = tt
  brackets_clear front h (Entry g args comma others) ih places known names =
      let opening = Punctuation h.opening Open in
      let word = Word h.at h.text in
      let ts = tokens_of (Entry g args comma others) in
      let before = front ++ word ∷ [] in
      let inside = before ++ opening ∷ [] in
      let all = subst (λ (us : List Token). HasPlaces is_term us ts) (sym (append_assoc front (word ∷ []) (opening ∷ []))) places in
      let r = ih inside (ends_no_name before opening refl) all known names in
      let closing : NameClear symbols is_term (inside ++ ts) (Punctuation h.closing Close) =
      term_name symbols is_term (inside ++ ts) (Punctuation h.closing Close) r.1.0 r.1.1 (all ts [] (Punctuation h.closing Close) (sym (append-nil ts))) r.1.2 in
      (before_open symbols is_term before h.opening, walk_join (NameClear symbols is_term) inside ts (Punctuation h.closing Close ∷ []) r.0 (closing, tt))

  -- a side, whose own name is told by what follows
  side_clear_by : (front : List Token) (h : Head) (args : Sides) → SidesClear args → EndsNoName front → InnerPlaces front h args → AllByRecursion (KnownTerm symbols) (occurrences args) → AreNames args
      → Clear front (side_tokens h args)
  side_clear_by front h args ih none places known names = (no_name symbols is_term front (Word h.at h.text) none, brackets_clear front h args ih places known names)

  others_clear : (front : List Token) (comma : ℕ) (others : Sides) (o : Occurrence) → Ends front o → KnownTerm symbols o → SidesClear others
      → HasPlaces is_term front (behind_comma comma others (tokens_of others)) → AllByRecursion (KnownTerm symbols) (occurrences others) → AreNames others
      → Clear front (behind_comma comma others (tokens_of others)) × ((o : Occurrence) × Ends (front ++ behind_comma comma others (tokens_of others)) o × KnownTerm symbols o)
  others_clear front comma Empty o ends k ih places known names = (tt, (o, ap (λ (us : List Token). name_before (reverse us)) (append-nil front) ∙ ends, k))
  others_clear front comma (Entry h args comma' others) o ends k ih places known names =
      let sign = Punctuation comma Comma in
      let ts = tokens_of (Entry h args comma' others) in
      let inside = front ++ sign ∷ [] in
      let r = ih inside (ends_no_name front sign refl) (places_back is_term front (sign ∷ []) ts places) known names in
      let here : in_term_place (so_far is_term front) sign ≡ true = subst (λ (us : List Token). in_term_place (so_far is_term us) sign ≡ true) (append-nil front) (places [] (sign ∷ ts) sign refl) in (
        (term_name symbols is_term front sign o ends here k, r.0),
        (r.1.0, ap (λ (us : List Token). name_before (reverse us)) (sym (append_assoc front (sign ∷ []) ts)) ∙ r.1.1, r.1.2),
      )

  inner_places : (front : List Token) (h : Head) (args : Sides) (behind : List Token) → HasPlaces is_term front (Word h.at h.text ∷ (in_brackets h args (tokens_of args) ++ behind)) → InnerPlaces front h args
  inner_places front h Empty behind places = tt
  inner_places front h (Entry g args comma others) behind places =
      let ts = tokens_of (Entry g args comma others) in
      let close = Punctuation h.closing Close ∷ [] in
      let start = Word h.at h.text ∷ Punctuation h.opening Open ∷ [] in
      places_front is_term (front ++ start) ts close (places_back is_term front start (ts ++ close) (places_front is_term front (start ++ (ts ++ close)) behind places))

  pub sides_clear : (f : Sides) → SidesClear f
  sides_clear Empty = λ front none places known names. (tt, tt)
  sides_clear (Entry h args comma others) = λ front none places known names.
      let behind = behind_comma comma others (tokens_of others) in
      let inner = in_brackets h args (tokens_of args) in
      let side = side_tokens h args in
      let k = all_split (KnownTerm symbols) (occurrences args) (occurrences others) known.1 in
      let s = side_clear_by front h args (sides_clear args) none (inner_places front h args behind places) k.0 names.1 in
      let o = others_clear (front ++ side) comma others (occurrence h args) (side_ends front h args (named_otherwise h names.0)) known.0 (sides_clear others)
      (places_back is_term front side behind places) k.1 names.2 in (
        walk_join (NameClear symbols is_term) front side behind s o.0,
        (o.1.0, ap (λ (us : List Token). name_before (reverse us)) (sym (append_assoc front side behind)) ∙ o.1.1, o.1.2),
      )

  pub side_clear : (front : List Token) (h : Head) (args : Sides) → EndsNoName front → InnerPlaces front h args → AllByRecursion (KnownTerm symbols) (occurrences args) → AreNames args → Clear front (side_tokens h args)
  side_clear front h args none places known names = side_clear_by front h args (sides_clear args) none places known names

pub side_ends_known : (front : List Token) (h : Head) (args : Sides) → IsName h → Ends (front ++ side_tokens h args) (occurrence h args)
side_ends_known front h args named = side_ends front h args (named_otherwise h named)

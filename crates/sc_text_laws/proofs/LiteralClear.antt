-- Nothing is told of the names of a literal over the symbols, at any of its tokens and at the one behind it.
use Rattle.std.proofs.Common.{◌≡◌, ◌∙◌, sym, ap, subst, refl, ℕ, ◌≤◌, Bool, true, false, List, [], ◌∷◌, ◌++◌, length, append_assoc, arith}
use Rattle.std.specs.Prelude.{◌||◌}
use Rattle.std.specs.List.{AllByRecursion, list_any}
use Rattle.std.proofs.lemmas.List.{append-nil}
use Rattle.std.proofs.lemmas.List.Folds.{list_any-append}
use Rattle.sc_term.proofs.SubstitutionLaws.{all_split, all_join}
use Rattle.sc_term.specs.declared.symbol.Symbol.{Symbol}
use Rattle.sc_input_rules.specs.declared.token.Token.{Token}
use Rattle.sc_input_rules.specs.declared.token.Token.TheVariants.{Word, Punctuation, Refused}
use Rattle.sc_input_rules.specs.declared.token.Sign.TheVariants.{Open, Close, Bar, Minus}
use Rattle.sc_input_rules.specs.declared.written.Occurrence.{Occurrence}
use Rattle.sc_input_rules.specs.Token.{is_sign}
use Rattle.sc_input_rules.specs.ClauseGrammar.{is_equality}
use Rattle.sc_input_rules.specs.Measures.{open_commas}
use Rattle.sc_input_rules.proofs.Spelling.{Head, Sides, Empty, Entry, tokens_of, side_tokens, count, occurrence, occurrences, IsName, AreNames}
use Rattle.sc_input_rules.proofs.ClauseSpelling.{Equated, Atom, Plain, Equation, Wrapping, Bare, Negative, Brackets, NegativeBrackets, LiteralTree, equal_sign, atom_tokens, literal_tokens, HasNames, IsSpelt}
use Rattle.sc_input_rules.proofs.ArityLaw.{SmallArity, side-commas}
use Rattle.sc_text_rules.specs.TextPosition.{is_nonempty, in_term_place}
use Rattle.sc_text_laws.proofs.Walks.{Walk, walk_join}
use Rattle.sc_text_laws.proofs.KnownNames.{KnownTerm}
use Rattle.sc_text_laws.proofs.KnownTrees.{IsPlainWrapping, AtomKnown, LiteralKnown}
use Rattle.sc_text_laws.proofs.EndedNames.{Ends, EndsNoName}
use Rattle.sc_text_laws.proofs.NamesKnown.{so_far, NameClear, HasPlaces, InnerPlaces, no_name, term_name, atom_name, ends_no_name, side_clear, side_ends_known}
use Rattle.sc_text_laws.proofs.CommasWithin.{FewDeep, sides_few}
use Rattle.sc_text_laws.proofs.LastLiterals.{HasNoBar, BeginsLiteral, IsAtomFront, BeginsAtom, bare, behind_minus}
use Rattle.sc_text_laws.proofs.AtomMeasures.{side_no_equality, atom_no_bar}

-- ---- the place of a term

deep_place : (a b c d : Bool) → b ≡ true → (a || b || c || d) ≡ true
deep_place true b c d e = refl
deep_place false true c d e = refl
deep_place false false c d e = absurd cc

equality_place : (a b c d : Bool) → c ≡ true → (a || b || c || d) ≡ true
equality_place true b c d e = refl
equality_place false true c d e = refl
equality_place false false true d e = refl
equality_place false false false d e = absurd cc

next_place : (a b c d : Bool) → d ≡ true → (a || b || c || d) ≡ true
next_place true b c d e = refl
next_place false true c d e = refl
next_place false false true d e = refl
next_place false false false d e = e

-- how the place depends on the atom so far
abbrev place_of : List Token → Token → Bool
place_of ts t = false || is_nonempty (open_commas [] ts) || list_any is_equality ts || is_equality t

place_is : (front ts : List Token) (t : Token) → BeginsAtom front → IsAtomFront ts → in_term_place (so_far false (front ++ ts)) t ≡ place_of ts t
place_is front ts t b h = ap (λ (us : List Token). place_of us t) (b.law ts h)

nonempty : (ns : List ℕ) → 1 ≤ length ns → is_nonempty ns ≡ true
nonempty [] h = absurd (omega arith)
nonempty (n ∷ ns) h = refl

pub small : (symbols : List Symbol) (os : List Occurrence) → AllByRecursion (KnownTerm symbols) os → AllByRecursion SmallArity os
small symbols [] h = tt
small symbols (o ∷ os) h = let k = h.0 in (k.arity, small symbols os h.1)

sides_no_bar : (h : Head) (g : Head) (inner : Sides) (comma : ℕ) (others : Sides) → HasNoBar (tokens_of (Entry g inner comma others))
sides_no_bar h g inner comma others =
    (all_split (λ t. is_sign Bar t ≡ false) (tokens_of (Entry g inner comma others)) (Punctuation h.closing Close ∷ []) (atom_no_bar (Plain h (Entry g inner comma others))).1.1).0

side_front : (h : Head) (args : Sides) → IsAtomFront (side_tokens h args)
side_front h args = (atom_no_bar (Plain h args)).1

-- within the parentheses of a first side
pub first_places : (symbols : List Symbol) (front : List Token) (h : Head) (args : Sides) → BeginsAtom front → count args ≤ 8 → AllByRecursion SmallArity (occurrences args) → InnerPlaces symbols false front h args
first_places symbols front h Empty b le few = tt
first_places symbols front h (Entry g inner comma others) b le few = λ us more t e.
    let args = Entry g inner comma others in
    let start = Word h.at h.text ∷ Punctuation h.opening Open ∷ [] in
    let bars = (all_split (λ t. is_sign Bar t ≡ false) us more (subst HasNoBar e (sides_no_bar h g inner comma others))).0 in
    let within : FewDeep (0 ∷ []) us = sides_few args 0 [] (omega arith) (omega arith) few us more e in
    let deep = nonempty (open_commas (0 ∷ []) us) within.deep in
    ap (λ (ts : List Token). in_term_place (so_far false ts) t) (append_assoc front start us)
    ∙ place_is front (start ++ us) t b (refl, bars)
    ∙ deep_place false (is_nonempty (open_commas (0 ∷ []) us)) (list_any is_equality (start ++ us)) (is_equality t) deep

-- ---- behind the sign of an equation

front_more : (ts us : List Token) → IsAtomFront ts → list_any is_equality ts ≡ true → HasNoBar us → IsAtomFront (ts ++ us)
front_more [] us h e k = absurd cc
front_more (Word at text ∷ ts) us h e k = all_join (λ t. is_sign Bar t ≡ false) ts us h k
front_more (Punctuation at s ∷ ts) us h e k = absurd h
front_more (Refused at kind ∷ ts) us h e k = absurd h

any_more : (ts us : List Token) → list_any is_equality ts ≡ true → list_any is_equality (ts ++ us) ≡ true
any_more ts us e = list_any-append is_equality ts us ∙ (λ i. e i || list_any is_equality us)

equality_places : (front ts us : List Token) → BeginsAtom front → IsAtomFront ts → list_any is_equality ts ≡ true → HasNoBar us → HasPlaces false (front ++ ts) us
equality_places front ts us b h e bars = λ vs more t k.
    let part = (all_split (λ t. is_sign Bar t ≡ false) vs more (subst HasNoBar k bars)).0 in
    ap (λ (us : List Token). in_term_place (so_far false us) t) (append_assoc front ts vs)
    ∙ place_is front (ts ++ vs) t b (front_more ts vs h e part)
    ∙ equality_place false (is_nonempty (open_commas [] (ts ++ vs))) (list_any is_equality (ts ++ vs)) (is_equality t) (any_more ts vs e)

second_places : (symbols : List Symbol) (front ts : List Token) (h : Head) (args : Sides) → BeginsAtom front → IsAtomFront ts → list_any is_equality ts ≡ true → InnerPlaces symbols false (front ++ ts) h args
second_places symbols front ts h Empty b f e = tt
second_places symbols front ts h (Entry g inner comma others) b f e =
    let start = Word h.at h.text ∷ Punctuation h.opening Open ∷ [] in
    let args = tokens_of (Entry g inner comma others) in
    subst (λ (us : List Token). HasPlaces false us args) (sym (append_assoc front ts start))
    (equality_places front (ts ++ start) args b (front_more ts start f e (refl, (refl, tt))) (any_more ts start e) (sides_no_bar h g inner comma others))

-- ---- atoms

-- nothing is told of the names among the tokens, nor of the last name, where no `=` follows
pub record NamesClear (symbols : List Symbol) (front ts : List Token) : Type 0 where
  pub walk : Walk (NameClear symbols false) front ts
  pub end : (t : Token) → is_equality t ≡ false → NameClear symbols false (front ++ ts) t

plain_clear : (symbols : List Symbol) (front : List Token) (h : Head) (args : Sides) → BeginsAtom front → EndsNoName front → IsName h × AreNames args → AtomKnown symbols (Plain h args)
    → NamesClear symbols front (side_tokens h args)
plain_clear symbols front h args b none names known =
    let few = small symbols (occurrences args) known.2 in
    let arity = known.1 in
    let even : is_nonempty (open_commas [] (side_tokens h args)) ≡ false = ap is_nonempty (side-commas h args []) in
    record {
      walk = side_clear symbols false front h args none (first_places symbols front h args b arity few) known.2 names.1;
      end = λ t e.
          atom_name symbols false (front ++ side_tokens h args) t (occurrence h args) (side_ends_known front h args names.0)
          (place_is front (side_tokens h args) t b (side_front h args) ∙ (λ i. false || even i || side_no_equality h args i || e i)) known.0;
    }

sign_ends : (front : List Token) (positive : Bool) (at : ℕ) → EndsNoName (front ++ Punctuation at (equal_sign positive) ∷ [])
sign_ends front true at = ends_no_name front (Punctuation at (equal_sign true)) refl
sign_ends front false at = ends_no_name front (Punctuation at (equal_sign false)) refl

sign_is_equality : (positive : Bool) (at : ℕ) → is_equality (Punctuation at (equal_sign positive)) ≡ true
sign_is_equality true at = refl
sign_is_equality false at = refl

sign_no_bar : (positive : Bool) (at : ℕ) → is_sign Bar (Punctuation at (equal_sign positive)) ≡ false
sign_no_bar true at = refl
sign_no_bar false at = refl

equation_clear : (symbols : List Symbol) (front : List Token) (e : Equated) → BeginsAtom front → EndsNoName front → HasNames (Equation e) → AtomKnown symbols (Equation e) → NamesClear symbols front (atom_tokens (Equation e))
equation_clear symbols front e b none names known =
    let left = side_tokens e.left_head e.left_args in
    let right = side_tokens e.right_head e.right_args in
    let sign = Punctuation e.at (equal_sign e.positive) in
    let lo = occurrence e.left_head e.left_args in
    let ro = occurrence e.right_head e.right_args in
    let lk = known.0.0 in
    let rk = known.1.0 in
    let few = small symbols (occurrences e.left_args) known.0.1 in
    let arity = lk.arity in
    let walk_left = side_clear symbols false front e.left_head e.left_args none (first_places symbols front e.left_head e.left_args b arity few) known.0.1 names.0.1 in
    let at_sign : in_term_place (so_far false (front ++ left)) sign ≡ true =
    place_is front left sign b (side_front e.left_head e.left_args) ∙ next_place false (is_nonempty (open_commas [] left)) (list_any is_equality left) (is_equality sign) (sign_is_equality e.positive e.at) in
    let clear_sign = term_name symbols false (front ++ left) sign lo (side_ends_known front e.left_head e.left_args names.0.0) at_sign lk in
    let so = left ++ sign ∷ [] in
    let here : list_any is_equality so ≡ true = list_any-append is_equality left (sign ∷ []) ∙ (λ i. side_no_equality e.left_head e.left_args i || (sign_is_equality e.positive e.at i || false)) in
    let so_front : IsAtomFront so = all_join (λ t. is_sign Bar t ≡ false) _ (sign ∷ []) (side_front e.left_head e.left_args) (sign_no_bar e.positive e.at, tt) in
    let before = append_assoc front left (sign ∷ []) in
    let none_behind : EndsNoName (front ++ so) = subst EndsNoName before (sign_ends (front ++ left) e.positive e.at) in
    let walk_right = side_clear symbols false (front ++ so) e.right_head e.right_args none_behind (second_places symbols front so e.right_head e.right_args b so_front here) known.1.1 names.1.1 in
    let all = left ++ sign ∷ right in
    let all_is : so ++ right ≡ all = append_assoc left (sign ∷ []) right in
    let all_front : IsAtomFront (so ++ right) = front_more so right so_front here (atom_no_bar (Plain e.right_head e.right_args)) in
    record {
      walk = walk_join (NameClear symbols false) front left (sign ∷ right) walk_left (clear_sign, subst (λ (us : List Token). Walk (NameClear symbols false) us right) (sym before) walk_right);
      end = λ t k. subst (λ (us : List Token). NameClear symbols false (front ++ us) t) all_is
          (term_name symbols false (front ++ (so ++ right)) t ro
          (subst (λ (us : List Token). Ends us ro) (append_assoc front so right) (side_ends_known (front ++ so) e.right_head e.right_args names.1.0))
          (place_is front (so ++ right) t b all_front ∙ equality_place false (is_nonempty (open_commas [] (so ++ right))) (list_any is_equality (so ++ right)) (is_equality t) (any_more so right here)) rk);
    }

atom_clear : (symbols : List Symbol) (front : List Token) (a : Atom) → BeginsAtom front → EndsNoName front → HasNames a → AtomKnown symbols a → NamesClear symbols front (atom_tokens a)
atom_clear symbols front (Plain h args) b none names known = plain_clear symbols front h args b none names known
atom_clear symbols front (Equation e) b none names known = equation_clear symbols front e b none names known

-- ---- literals

literal_clear_by : (symbols : List Symbol) (front : List Token) (w : Wrapping) (a : Atom) → IsPlainWrapping w → BeginsLiteral front → EndsNoName front → HasNames a → AtomKnown symbols a
    → NamesClear symbols front (literal_tokens (record { wrapping = w; atom = a }))
literal_clear_by symbols front Bare a plain b none names known =
    subst (NamesClear symbols front) (sym (append-nil (atom_tokens a))) (atom_clear symbols front a (bare front b) none names known)
literal_clear_by symbols front (Negative at) a plain b none names known =
    let minus = Punctuation at Minus in
    let r = subst (NamesClear symbols (front ++ minus ∷ [])) (sym (append-nil (atom_tokens a))) (atom_clear symbols (front ++ minus ∷ []) a (behind_minus front at b) (ends_no_name front minus refl) names known) in
    record {
      walk = (no_name symbols false front minus none, r.walk);
      end = λ t e. subst (λ (us : List Token). NameClear symbols false us t) (append_assoc front (minus ∷ []) (atom_tokens a ++ [])) (r.end t e);
    }
literal_clear_by symbols front (Brackets o c) a plain b none names known = absurd plain
literal_clear_by symbols front (NegativeBrackets at o c) a plain b none names known = absurd plain

pub literal_clear : (symbols : List Symbol) (front : List Token) (l : LiteralTree) → LiteralKnown symbols l → IsSpelt l → BeginsLiteral front → EndsNoName front → NamesClear symbols front (literal_tokens l)
literal_clear symbols front l known spelt b none = literal_clear_by symbols front l.wrapping l.atom known.0 b none spelt.1 known.1

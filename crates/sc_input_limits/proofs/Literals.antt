-- What the last literal of a clause so far is with one token more.
use Rattle.std.proofs.Common.{◌≡◌, ◌∙◌, sym, ap, subst, refl, ℕ, ◌+◌, ◌-◌, max, Bool, true, false, not, ◌||◌, List, [], ◌∷◌, ◌++◌, length, drop, length-append, arith}
use Rattle.std.specs.Prelude.{if◌then◌else◌}
use Rattle.std.specs.List.{list_any, after_last, suffix_len}
use Rattle.std.proofs.lemmas.List.{reverse-append, drop_all, drop-append-le}
use Rattle.std.proofs.lemmas.List.Sums.{suffix_len-le-length}
use Rattle.std.proofs.lemmas.List.Folds.{list_any-append}
use Rattle.sc_input_rules.specs.declared.token.Token.{Token}
use Rattle.sc_input_rules.specs.declared.token.Token.TheVariants.{Word, Punctuation, Refused}
use Rattle.sc_input_rules.specs.declared.token.Sign.TheVariants.{Open, Close, Bar, Minus}
use Rattle.sc_input_rules.specs.Token.{is_sign}
use Rattle.sc_input_rules.specs.ClauseGrammar.{is_equality}
use Rattle.sc_input_rules.specs.Measures.{around_behind, greatest_level, without_bracket, without_minus}
use Rattle.sc_input_rules.proofs.OneMore.{greatest_level-one_more}
use Rattle.sc_input_limits.specs.declared.count.Part.{Part}
use Rattle.sc_input_limits.specs.declared.count.Part.TheVariants.{Start, Signed, Inside}
use Rattle.sc_input_limits.specs.declared.count.AtomCount.{AtomCount}
use Rattle.sc_input_limits.specs.declared.count.LiteralCount.{LiteralCount}
use Rattle.sc_input_limits.specs.Counted.{AtomCounted, AtomGrows, LiteralCounted, part_behind}

-- ---- what stands behind the last `|`

module _ {X : Type 0} (p : X → Bool) where
  suffix_len-yes : (xs : List X) (t : X) → p t ≡ true → suffix_len (λ x. not (p x)) (xs ++ t ∷ []) ≡ 0
  suffix_len-yes xs t e = rw (reverse-append xs (t ∷ [])) (rw e refl)

  suffix_len-no : (xs : List X) (t : X) → p t ≡ false → suffix_len (λ x. not (p x)) (xs ++ t ∷ []) ≡ 1 + suffix_len (λ x. not (p x)) xs
  suffix_len-no xs t e = rw (reverse-append xs (t ∷ [])) (rw e refl)

  pub after_last-yes : (xs : List X) (t : X) → p t ≡ true → after_last p (xs ++ t ∷ []) ≡ []
  after_last-yes xs t e = drop_all (length (xs ++ t ∷ []) - suffix_len (λ x. not (p x)) (xs ++ t ∷ [])) (xs ++ t ∷ []) (omega (arith, suffix_len-yes xs t e))

  pub after_last-no : (xs : List X) (t : X) → p t ≡ false → after_last p (xs ++ t ∷ []) ≡ after_last p xs ++ t ∷ []
  after_last-no xs t e =
      let n : length (xs ++ t ∷ []) - suffix_len (λ x. not (p x)) (xs ++ t ∷ []) ≡ length xs - suffix_len (λ x. not (p x)) xs = omega (arith, suffix_len-no xs t e, length-append xs (t ∷ []), suffix_len-le-length (λ x. not (p x)) xs) in
      ap (λ (n : ℕ). drop n (xs ++ t ∷ [])) n ∙ drop-append-le (length xs - suffix_len (λ x. not (p x)) xs) xs (t ∷ []) (omega arith)

-- ---- atoms

around_behind-one_more : (around : ℕ) (tokens : List Token) (t : Token) → around_behind around (tokens ++ t ∷ []) ≡ around_behind (around_behind around tokens) (t ∷ [])
around_behind-one_more around [] t = refl
around_behind-one_more around (Word at text ∷ tokens) t = around_behind-one_more around tokens t
around_behind-one_more around (Punctuation at s ∷ tokens) t =
    around_behind-one_more (if is_sign Open (Punctuation at s) then around + 1 else if is_sign Close (Punctuation at s) then around - 1 else around) tokens t
around_behind-one_more around (Refused at kind ∷ tokens) t = around_behind-one_more around tokens t

or-false : (b : Bool) → (b || false) ≡ b
or-false true = refl
or-false false = refl

pub atom_grows : (tokens : List Token) (t : Token) (a b : AtomCount) → AtomCounted tokens a → AtomGrows t a b → AtomCounted (tokens ++ t ∷ []) b
atom_grows tokens t a b h g = record {
  around = g.around ∙ ap (λ (n : ℕ). around_behind n (t ∷ [])) h.around ∙ sym (around_behind-one_more 0 tokens t);
  level = g.level ∙ ap (λ (n : ℕ). max n (greatest_level a.around (t ∷ []))) h.level ∙ ap (λ (n : ℕ). max (greatest_level 0 tokens) (greatest_level n (t ∷ []))) h.around ∙ sym (greatest_level-one_more 0 tokens t);
  equality = g.equality ∙ ap (λ (b : Bool). b || is_equality t) h.equality ∙ ap (λ (b : Bool). list_any is_equality tokens || b) (sym (or-false (is_equality t))) ∙ sym (list_any-append is_equality tokens (t ∷ []));
}

-- ---- literals

-- the atom of the literal
abbrev atom_of : List Token → List Token
atom_of literal = without_bracket (without_minus literal)

-- of the tokens of a literal
record IsLiteral (literal : List Token) (l : LiteralCount) : Type 0 where
  pub part : l.part ≡ part_behind literal
  pub atom : AtomCounted (atom_of literal) l.atom

abbrev one_of : Bool → Part → Part → Part
one_of b p q = if b then p else q

not_start : (u : Token) (us : List Token) → part_behind (u ∷ us) ≡ Start → ⊥
not_start u [] e = by (is_sign Minus u) e
  where
    by : (b : Bool) → one_of b Signed Inside ≡ Start → ⊥
    by true e = cc
    by false e = cc
not_start u (v ∷ vs) e = cc

minus : (literal : List Token) (t : Token) (l : LiteralCount) → IsLiteral literal l → l.part ≡ Start → is_sign Minus t ≡ true → IsLiteral (literal ++ t ∷ []) (record { part = Signed; atom = l.atom })
minus [] t l h e m = record {
  part = ap (λ (b : Bool). one_of b Signed Inside) (sym m);
  atom = let P : Bool → Type 0 = λ b. AtomCounted (without_bracket (if b then [] else t ∷ [])) l.atom in subst P (sym m) h.atom;
}
minus (u ∷ us) t l h e m = absurd (not_start u us (sym h.part ∙ e))

-- the token is the first of the atom, or the parenthesis round an equation
record Begins (literal : List Token) (t : Token) : Type 0 where
  pub part : part_behind (literal ++ t ∷ []) ≡ Inside
  pub unsigned : without_minus (literal ++ t ∷ []) ≡ t ∷ []
  pub none : atom_of literal ≡ []

begins_at_start : (literal : List Token) (t : Token) → part_behind literal ≡ Start → is_sign Minus t ≡ false → Begins literal t
begins_at_start [] t e m = record { part = ap (λ (b : Bool). one_of b Signed Inside) m; unsigned = ap (λ (b : Bool). if b then [] else t ∷ []) m; none = refl }
begins_at_start (u ∷ us) t e m = absurd (not_start u us e)

begins_when_signed : (literal : List Token) (t : Token) → part_behind literal ≡ Signed → Begins literal t
begins_when_signed [] t e = absurd cc
begins_when_signed (u ∷ []) t e = by (is_sign Minus u) refl e
  where
    by : (b : Bool) → is_sign Minus u ≡ b → one_of b Signed Inside ≡ Signed → Begins (u ∷ []) t
    by true m e = record { part = refl; unsigned = ap (λ (b : Bool). if b then t ∷ [] else u ∷ t ∷ []) m; none = ap (λ (b : Bool). without_bracket (if b then [] else u ∷ [])) m }
    by false m e = absurd cc
begins_when_signed (u ∷ v ∷ vs) t e = absurd cc

begun : (literal : List Token) (t : Token) (a : AtomCount) (l : LiteralCount) → Begins literal t → AtomCounted (atom_of literal) a → l.part ≡ Inside
    → (is_sign Open t ≡ true → l.atom ≡ a) → (is_sign Open t ≡ false → AtomGrows t a l.atom) → IsLiteral (literal ++ t ∷ []) l
begun literal t a l b h e bracket grows = record { part = e ∙ sym b.part; atom = by (is_sign Open t) refl }
  where
    none : AtomCounted [] a
    none = let P : List Token → Type 0 = λ ts. AtomCounted ts a in subst P b.none h

    by : (o : Bool) → is_sign Open t ≡ o → AtomCounted (atom_of (literal ++ t ∷ [])) l.atom
    by true o =
        let P : List Token → Type 0 = λ ts. AtomCounted ts l.atom in
        let Q : AtomCount → Type 0 = λ a. AtomCounted [] a in
        let e : atom_of (literal ++ t ∷ []) ≡ [] = ap without_bracket b.unsigned ∙ ap (λ (b : Bool). if b then [] else t ∷ []) o in
        subst P (sym e) (subst Q (sym (bracket o)) none)
    by false o =
        let P : List Token → Type 0 = λ ts. AtomCounted ts l.atom in
        let e : atom_of (literal ++ t ∷ []) ≡ t ∷ [] = ap without_bracket b.unsigned ∙ ap (λ (b : Bool). if b then [] else t ∷ []) o in
        subst P (sym e) (atom_grows [] t a l.atom none (grows o))

without_bracket-append : (u : Token) (us : List Token) (t : Token) → without_bracket (u ∷ (us ++ t ∷ [])) ≡ without_bracket (u ∷ us) ++ t ∷ []
without_bracket-append u us t = by (is_sign Open u)
  where
    by : (b : Bool) → (if b then us ++ t ∷ [] else u ∷ (us ++ t ∷ [])) ≡ (if b then us else u ∷ us) ++ t ∷ []
    by true = refl
    by false = refl

-- the token stands in an atom that has begun
record GoesOn (literal : List Token) (t : Token) : Type 0 where
  pub part : part_behind (literal ++ t ∷ []) ≡ Inside
  pub atom : atom_of (literal ++ t ∷ []) ≡ atom_of literal ++ t ∷ []

goes_on : (literal : List Token) (t : Token) → part_behind literal ≡ Inside → GoesOn literal t
goes_on [] t e = absurd cc
goes_on (u ∷ []) t e = by (is_sign Minus u) refl e
  where
    by : (b : Bool) → is_sign Minus u ≡ b → one_of b Signed Inside ≡ Inside → GoesOn (u ∷ []) t
    by true m e = absurd cc
    by false m e = record {
      part = refl;
      atom = ap (λ (b : Bool). without_bracket (if b then t ∷ [] else u ∷ t ∷ [])) m ∙ without_bracket-append u [] t ∙ ap (λ (b : Bool). without_bracket (if b then [] else u ∷ []) ++ t ∷ []) (sym m);
    }
goes_on (u ∷ v ∷ vs) t e = record { part = refl; atom = by (is_sign Minus u) }
  where
    by : (b : Bool) → without_bracket (if b then v ∷ (vs ++ t ∷ []) else u ∷ v ∷ (vs ++ t ∷ [])) ≡ without_bracket (if b then v ∷ vs else u ∷ v ∷ vs) ++ t ∷ []
    by true = without_bracket-append v vs t
    by false = without_bracket-append u (v ∷ vs) t

-- ---- of the tokens of a clause

literal_at : (tokens : List Token) (l : LiteralCount) → LiteralCounted tokens l → IsLiteral (after_last (is_sign Bar) tokens) l
literal_at tokens l h = record { part = h.part; atom = h.atom }

counted_at : (tokens literal : List Token) (l : LiteralCount) → after_last (is_sign Bar) tokens ≡ literal → IsLiteral literal l → LiteralCounted tokens l
counted_at tokens literal l e h =
    let P : List Token → Type 0 = λ ts. AtomCounted (atom_of ts) l.atom in
    record { part = h.part ∙ ap part_behind (sym e); atom = subst P (sym e) h.atom }

pub literal_ends : (tokens : List Token) (t : Token) (l : LiteralCount) → is_sign Bar t ≡ true → LiteralCounted [] l → LiteralCounted (tokens ++ t ∷ []) l
literal_ends tokens t l b h = counted_at (tokens ++ t ∷ []) [] l (after_last-yes (is_sign Bar) tokens t b) (literal_at [] l h)

pub literal_signed : (tokens : List Token) (t : Token) (l : LiteralCount) → is_sign Bar t ≡ false → is_sign Minus t ≡ true → LiteralCounted tokens l → l.part ≡ Start
    → LiteralCounted (tokens ++ t ∷ []) (record { part = Signed; atom = l.atom })
literal_signed tokens t l b m h e =
    counted_at (tokens ++ t ∷ []) (after_last (is_sign Bar) tokens ++ t ∷ []) (record { part = Signed; atom = l.atom }) (after_last-no (is_sign Bar) tokens t b) (minus (after_last (is_sign Bar) tokens) t l (literal_at tokens l h) e m)

-- what reading the first token of an atom gives
pub record Begun (t : Token) (a : AtomCount) (l : LiteralCount) : Type 0 where
  pub part : l.part ≡ Inside
  pub bracket : is_sign Open t ≡ true → l.atom ≡ a
  pub grows : is_sign Open t ≡ false → AtomGrows t a l.atom

pub literal_begins : (tokens : List Token) (t : Token) (l new : LiteralCount) → is_sign Bar t ≡ false → is_sign Minus t ≡ false → LiteralCounted tokens l → l.part ≡ Start → Begun t l.atom new → LiteralCounted (tokens ++ t ∷ []) new
literal_begins tokens t l new b m h e g =
    counted_at (tokens ++ t ∷ []) (after_last (is_sign Bar) tokens ++ t ∷ []) new (after_last-no (is_sign Bar) tokens t b)
    (begun (after_last (is_sign Bar) tokens) t l.atom new (begins_at_start (after_last (is_sign Bar) tokens) t (sym h.part ∙ e) m) h.atom g.part g.bracket g.grows)

pub literal_begins_signed : (tokens : List Token) (t : Token) (l new : LiteralCount) → is_sign Bar t ≡ false → LiteralCounted tokens l → l.part ≡ Signed → Begun t l.atom new → LiteralCounted (tokens ++ t ∷ []) new
literal_begins_signed tokens t l new b h e g =
    counted_at (tokens ++ t ∷ []) (after_last (is_sign Bar) tokens ++ t ∷ []) new (after_last-no (is_sign Bar) tokens t b)
    (begun (after_last (is_sign Bar) tokens) t l.atom new (begins_when_signed (after_last (is_sign Bar) tokens) t (sym h.part ∙ e)) h.atom g.part g.bracket g.grows)

pub literal_goes_on : (tokens : List Token) (t : Token) (l : LiteralCount) (a : AtomCount) → is_sign Bar t ≡ false → LiteralCounted tokens l → l.part ≡ Inside → AtomGrows t l.atom a
    → LiteralCounted (tokens ++ t ∷ []) (record { part = Inside; atom = a })
literal_goes_on tokens t l a b h e g =
    let literal = after_last (is_sign Bar) tokens in
    let on = goes_on literal t (sym h.part ∙ e) in
    let P : List Token → Type 0 = λ ts. AtomCounted ts a in
    counted_at (tokens ++ t ∷ []) (literal ++ t ∷ []) (record { part = Inside; atom = a }) (after_last-no (is_sign Bar) tokens t b)
    (record { part = sym on.part; atom = subst P (sym on.atom) (atom_grows (atom_of literal) t l.atom a h.atom g) })

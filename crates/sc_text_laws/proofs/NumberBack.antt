-- Numbers, paths and terms are read back from their tokens.
use Rattle.std.proofs.Common.{◌≡◌, ◌∙◌, sym, ap, refl, ℕ, zero, suc, ◌+◌, ◌<◌, ◌≤◌, ◌^◌, Bool, true, false, List, [], ◌∷◌, ◌++◌, length, append_assoc, Ok, arith}
use Rattle.std.specs.Prelude.{◌&&◌, ◌==◌, decimal, flat_map}
use Rattle.std.specs.Str.Parse.{digits_value}
use Rattle.std.proofs.lemmas.Bool.{eq-eqb}
use Rattle.std.proofs.lemmas.List.{append-nil, length-append}
use Rattle.sc_term.specs.declared.Term.{Term}
use Rattle.sc_term.specs.declared.symbol.Symbol.{Symbol}
use Rattle.sc_input_rules.specs.declared.token.Token.{Token}
use Rattle.sc_input_rules.specs.declared.token.Token.TheVariants.{Word, Punctuation}
use Rattle.sc_input_rules.specs.declared.token.Sign.TheVariants.{Close, Comma}
use Rattle.sc_input_rules.specs.Token.{is_sign}
use Rattle.sc_input_rules.specs.Reader.{Read, ◌>>=◌, unexpected, next_is, the_sign, separated}
use Rattle.sc_input_rules.specs.Syntax.{Side}
use Rattle.sc_input_rules.specs.ClauseGrammar.{side}
use Rattle.sc_input_rules.specs.Numbering.{terms_of}
use Rattle.sc_input_rules.proofs.Spelling.{Head, Sides, Empty, Entry, in_brackets, tokens_of, occurrence, occurrences, side_of, AreNames}
use Rattle.sc_input_rules.proofs.SidesBack.{each_side, side_back}
use Rattle.sc_input_rules.proofs.Taken.{Gives}
use Rattle.sc_input_rules.proofs.Terms.{terms, terms_of-alone}
use Rattle.sc_text_rules.specs.TextWords.{text_variable, a_number, the_number}
use Rattle.sc_text_rules.specs.ProofGrammar.{text_terms}
use Rattle.sc_text_laws.specs.Printable.{AreShort}
use Rattle.sc_text_laws.proofs.NumberTexts.{all_digits, value_back}
use Rattle.sc_text_laws.proofs.WordTokens.{past}
use Rattle.sc_text_laws.proofs.WordRows.{path_tokens, fits}

-- ---- numbers

pub number_back : (at n : ℕ) (ts : List Token) → n < 2 ^ 64 → Gives (a_number (Word at (decimal n) ∷ ts)) n ts
number_back at n ts h =
    ap (λ (b : Bool). elim (b && true) [ true ↦ Ok (digits_value 10 (decimal n), ts) | false ↦ unexpected (Word at (decimal n) ∷ ts) ]) (all_digits n h)
    ∙ ap (λ (m : ℕ). Ok (m, ts)) (value_back n h)

pub the_number_back : (at n : ℕ) (ts : List Token) → n < 2 ^ 64 → Gives (the_number n (Word at (decimal n) ∷ ts)) n ts
the_number_back at n ts h =
    ap (λ (b : Bool). elim (b && digits_value 10 (decimal n) == n) [ true ↦ Ok (digits_value 10 (decimal n), ts) | false ↦ unexpected (Word at (decimal n) ∷ ts) ]) (all_digits n h)
    ∙ ap (λ (m : ℕ). elim (m == n) [ true ↦ Ok (m, ts) | false ↦ unexpected (Word at (decimal n) ∷ ts) ]) (value_back n h)
    ∙ ap (λ (b : Bool). elim b [ true ↦ Ok (n, ts) | false ↦ unexpected (Word at (decimal n) ∷ ts) ]) (eq-eqb n n refl)

-- a number is read, and then more
pub then_number : {B : Type 0} (more : ℕ × List Token → Read B) (at n : ℕ) (ts : List Token) → n < 2 ^ 64 → (a_number (Word at (decimal n) ∷ ts) >>= more) ≡ more (n, ts)
then_number more at n ts h = ap (λ r. r >>= more) (number_back at n ts h)

-- ---- paths

after_number : ℕ → Read ℕ → Read (List ℕ)
after_number k r = r >>= λ first.
    elim (next_is (is_sign Comma) first.1) [
      | true ↦ the_sign Comma first.1 >>= λ s. separated Comma a_number k s.1 >>= λ others. Ok (first.0 ∷ others.0, others.1)
      | false ↦ Ok (first.0 ∷ [], first.1)
    ]

with_number : ℕ → Read (List ℕ) → Read (List ℕ)
with_number n r = r >>= λ others. Ok (n ∷ others.0, others.1)

pub path_back : (k at n : ℕ) (ns : List ℕ) (close : ℕ) (ts : List Token) → length (n ∷ ns) ≤ k → AreShort (n ∷ ns)
    → Gives (separated Comma a_number k (path_tokens at (n ∷ ns) ++ Punctuation close Close ∷ ts)) (n ∷ ns) (Punctuation close Close ∷ ts)
unfolding after_number with_number
path_back zero at n ns close ts le h = absurd (omega arith)
path_back (suc k) at n [] close ts le h = ap (after_number k) (number_back at n (Punctuation close Close ∷ ts) (fits n h.0))
path_back (suc k) at n (m ∷ ms) close ts le h =
    let next = past (decimal n) at in
    ap (after_number k) (number_back at n (Punctuation next Comma ∷ (path_tokens (next + 1) (m ∷ ms) ++ Punctuation close Close ∷ ts)) (fits n h.0))
    ∙ ap (with_number n) (path_back k (next + 1) m ms close ts (omega arith) h.1)

pub path-length : (at : ℕ) (ns : List ℕ) → length ns ≤ length (path_tokens at ns)
path-length at [] = omega arith
path-length at (n ∷ []) = omega arith
path-length at (n ∷ m ∷ ms) = let ih = path-length (past (decimal n) at + 1) (m ∷ ms) in omega arith

-- ---- terms

after_side : ℕ → Read Side → Read (List Side)
after_side k r = r >>= λ first.
    elim (next_is (is_sign Comma) first.1) [
      | true ↦ the_sign Comma first.1 >>= λ s. separated Comma side k s.1 >>= λ others. Ok (first.0 ∷ others.0, others.1)
      | false ↦ Ok (first.0 ∷ [], first.1)
    ]

with_side : Side → Read (List Side) → Read (List Side)
with_side s r = r >>= λ others. Ok (s ∷ others.0, others.1)

sides_back : (k : ℕ) (h : Head) (args : Sides) (comma : ℕ) (others : Sides) (close : ℕ) (ts : List Token) → length (tokens_of (Entry h args comma others)) ≤ k → AreNames (Entry h args comma others)
    → Gives (separated Comma side k (tokens_of (Entry h args comma others) ++ Punctuation close Close ∷ ts)) (each_side (Entry h args comma others)) (Punctuation close Close ∷ ts)
unfolding after_side with_side
sides_back zero h args comma others close ts le names = absurd (omega arith)
sides_back (suc k) h args comma Empty close ts le names =
    ap (λ (us : List Token). after_side k (side (Word h.at h.text ∷ (us ++ Punctuation close Close ∷ ts)))) (append-nil (in_brackets h args (tokens_of args)))
    ∙ ap (after_side k) (side_back h args (Punctuation close Close ∷ ts) names.0 names.1 refl)
sides_back (suc k) h args comma (Entry g inner comma' others) close ts le names =
    let behind = tokens_of (Entry g inner comma' others) in
    let sum = length-append (in_brackets h args (tokens_of args)) (Punctuation comma Comma ∷ behind) in
    ap (λ (us : List Token). after_side k (side (Word h.at h.text ∷ us))) (append_assoc (in_brackets h args (tokens_of args)) (Punctuation comma Comma ∷ behind) (Punctuation close Close ∷ ts))
    ∙ ap (after_side k) (side_back h args (Punctuation comma Comma ∷ (behind ++ Punctuation close Close ∷ ts)) names.0 names.1 refl)
    ∙ ap (with_side (side_of h args)) (sides_back k g inner comma' others close ts (omega arith) names.2)

side_term : (symbols : List Symbol) (h : Head) (args : Sides) → terms_of text_variable symbols (side_of h args) ≡ terms text_variable symbols (Entry h args 0 Empty)
side_term symbols h args =
    ap (λ os. terms_of text_variable symbols (occurrence h args ∷ os)) (sym (append-nil (occurrences args))) ∙ terms_of-alone text_variable symbols (Entry h args 0 Empty)

each_term : (symbols : List Symbol) (f : Sides) → flat_map (terms_of text_variable symbols) (each_side f) ≡ terms text_variable symbols f
each_term symbols Empty = refl
each_term symbols (Entry h args comma others) = (λ i. side_term symbols h args i ++ each_term symbols others i)

after_sides : List Symbol → Read (List Side) → Read (List Term)
after_sides symbols r = r >>= λ ss. Ok (flat_map (terms_of text_variable symbols) ss.0, ss.1)

pub terms_back : (symbols : List Symbol) (f : Sides) (ts : List Term) (close : ℕ) (us : List Token) → AreNames f → terms text_variable symbols f ≡ ts
    → Gives (text_terms symbols (tokens_of f ++ Punctuation close Close ∷ us)) ts (Punctuation close Close ∷ us)
unfolding after_sides
terms_back symbols Empty ts close us names e = ap (λ (ts : List Term). Ok (ts, Punctuation close Close ∷ us)) e
terms_back symbols (Entry h args comma others) ts close us names e =
    let all = tokens_of (Entry h args comma others) in
    let sum = length-append all (Punctuation close Close ∷ us) in
    ap (after_sides symbols) (sides_back (length (all ++ Punctuation close Close ∷ us)) h args comma others close us (omega arith) names)
    ∙ ap (λ (ts : List Term). Ok (ts, Punctuation close Close ∷ us)) (each_term symbols (Entry h args comma others) ∙ e)

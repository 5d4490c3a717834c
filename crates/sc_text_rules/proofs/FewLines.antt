-- A proof section has no more lines than its text has bytes.
use Rattle.std.proofs.Common.{◌≡◌, ◌∙◌, sym, ap, refl, subst, ℕ, zero, suc, ◌+◌, ◌-◌, ◌≤◌, Bool, true, false, List, [], ◌∷◌, length, drop, map, Result, Ok, Err, Option, Some, None, arith}
use Rattle.std.specs.Prelude.{if◌then◌else◌, codes, ◌==◌, not, ◌&&◌, ◌||◌}
use Rattle.std.proofs.lemmas.List.{length-map, length-drop}
use Rattle.sc_term.specs.declared.Line.{Line}
use Rattle.sc_term.specs.declared.symbol.Symbol.{Symbol}
use Rattle.sc_input_rules.specs.declared.fault.Place.{Place}
use Rattle.sc_input_rules.specs.declared.token.Token.{Token}
use Rattle.sc_input_rules.specs.declared.token.Token.TheVariants.{Word, Punctuation, Refused}
use Rattle.sc_input_rules.specs.Tokens.{is_white, is_word_byte, blanked, begins, with_word_byte, with_exclamation, single, sign_of, with_byte, tokens_from, with_dollars_refused, tokens_behind}
use Rattle.sc_input_rules.specs.Reader.{Read, ◌>>=◌, unexpected, the_sign, the_word}
use Rattle.sc_input_rules.specs.ProblemGrammar.{next_is_word}
use Rattle.sc_input_rules.specs.declared.token.Sign.TheVariants.{Stop}
use Rattle.sc_input_rules.specs.Faults.{judged, first_passed, before}
use Rattle.sc_input_rules.proofs.Shrinking.{LeavesAtMost, Shrinks, in_turn, within, the_sign-shrinks, the_word-shrinks}
use Rattle.sc_text_rules.specs.TextLimits.{text_bounds, text_fault_at}
use Rattle.sc_text_rules.specs.ProofGrammar.{a_line, lines_within, the_heading, proof_section, alone}
use Rattle.sc_text_rules.specs.ProofReading.{judged_proof, proof_within, proof_of}

-- ---- tokens

at_most_one : (at b : ℕ) (next : List ℕ) (ts : List Token) → length (with_byte at b next ts) ≤ suc (length ts)
at_most_one at b next ts = by (is_white b) (is_word_byte b) (b == 33) (begins is_word_byte next) (begins (λ c. c == 61) next)
  where
    word : (joins : Bool) (ts : List Token) → length (with_word_byte at b joins ts) ≤ suc (length ts)
    word true [] = omega arith
    word true (Word n text ∷ ts) = omega arith
    word true (Punctuation n s ∷ ts) = omega arith
    word true (Refused n k ∷ ts) = omega arith
    word false ts = omega arith

    mark : (joins : Bool) (ts : List Token) → length (with_exclamation at joins ts) ≤ suc (length ts)
    mark true [] = omega arith
    mark true (t ∷ ts) = omega arith
    mark false ts = omega arith

    by : (white word_byte exclamation joins unequal : Bool) → length (if white then ts else if word_byte then with_word_byte at b joins ts else if exclamation then with_exclamation at unequal ts else single sign_of at b ∷ ts) ≤ suc (length ts)
    by true w e j u = omega arith
    by false true e j u = word j ts
    by false false true j u = mark u ts
    by false false false j u = omega arith

few_from : (at : ℕ) (bytes : List ℕ) → length (tokens_from at bytes) ≤ length bytes
few_from at [] = omega arith
few_from at (b ∷ bs) = omega (arith, at_most_one at b bs (tokens_from (at + 1) bs), few_from (at + 1) bs)

blanked-length : (c : Bool) (bytes : List ℕ) → length (blanked c bytes) ≡ length bytes
blanked-length c [] = refl
blanked-length c (b ∷ bs) = ap suc (blanked-length (not (b == 10) && (c || b == 37)) bs)

pub few_tokens : (from : ℕ) (bytes : List ℕ) → length (tokens_behind from bytes) ≤ length bytes
few_tokens from bytes = omega (
  arith,
  length-map (tokens_from from (blanked false (drop from bytes))) with_dollars_refused,
  few_from from (blanked false (drop from bytes)),
  blanked-length false (drop from bytes),
  length-drop from bytes,
)

-- ---- lines

-- what was read has at most so many elements
abbrev AtMost : {A : Type 0} → ℕ → Read (List A) → Type 0
AtMost n (Ok r) = length r.0 ≤ n
AtMost n (Err f) = Unit {0}

lines-few : (n : ℕ) (symbols : List Symbol) (number : ℕ) (tokens : List Token) → AtMost n (lines_within n symbols number tokens)
lines-few zero symbols number tokens = tt
lines-few (suc n) symbols number tokens = by (next_is_word (codes "end_of_proof") tokens) (a_line symbols number tokens) (lines-few n symbols (number + 1))
  where
    rest : (first : Line) (r : Read (List Line)) → AtMost n r → AtMost (suc n) (r >>= λ others. Ok (first ∷ others.0, others.1))
    rest first (Ok r) h = omega (arith, h)
    rest first (Err f) h = tt

    by : (ends : Bool) (read : Read Line) → ((ts : List Token) → AtMost n (lines_within n symbols (number + 1) ts))
        → AtMost (suc n) (elim ends [ true ↦ Ok ([], tokens) | false ↦ read >>= λ first. lines_within n symbols (number + 1) first.1 >>= λ others. Ok (first.0 ∷ others.0, others.1) ])
    by true read h = omega arith
    by false (Ok r) h = rest r.0 (lines_within n symbols (number + 1) r.1) (h r.1)
    by false (Err f) h = tt

weaker : {A : Type 0} (m n : ℕ) (r : Read (List A)) → m ≤ n → AtMost m r → AtMost n r
weaker m n (Ok r) le h = omega (arith, le, h)
weaker m n (Err f) le h = tt

closed : (n : ℕ) (r : Read (List Line)) → AtMost n r → AtMost n (r >>= λ lines. the_heading (codes "end_of_proof") lines.1 >>= λ end. Ok (lines.0, end.1))
closed n (Ok r) h = end (the_heading (codes "end_of_proof") r.1)
  where
    end : (e : Read (Unit {0})) → AtMost n (e >>= λ end. Ok (r.0, end.1))
    end (Ok v) = h
    end (Err f) = tt
closed n (Err f) h = tt

heading-shrinks : (name : List ℕ) → Shrinks (the_heading name)
heading-shrinks name tokens =
    in_turn (length tokens) (the_word name tokens) _ (the_word-shrinks name tokens) (λ w h. within (the_sign Stop) (length tokens) w.1 (the_sign-shrinks Stop) h)

section-few : (symbols : List Symbol) (tokens : List Token) → AtMost (length tokens) (proof_section symbols tokens)
section-few symbols tokens = by (the_heading (codes "proof") tokens) (heading-shrinks (codes "proof") tokens)
  where
    by : (begin : Read (Unit {0})) → LeavesAtMost (length tokens) begin
        → AtMost (length tokens) (begin >>= λ begin. lines_within (length begin.1) symbols 1 begin.1 >>= λ lines. the_heading (codes "end_of_proof") lines.1 >>= λ end. Ok (lines.0, end.1))
    by (Ok v) h =
        weaker (length v.1) (length tokens) _ h (closed (length v.1) (lines_within (length v.1) symbols 1 v.1) (lines-few (length v.1) symbols 1 v.1))
    by (Err f) h = tt

-- ---- the answer

-- what is told to be read has at most so many elements
abbrev FewAre : {A B : Type 0} → (A → List B) → ℕ → Result A Place → Type 0
FewAre list n (Ok a) = length (list a) ≤ n
FewAre list n (Err p) = Unit {0}

alone-few : (n : ℕ) (r : Read (List Line)) → AtMost n r → AtMost n (alone r)
alone-few n (Ok r) h = by r.1
  where
    by : (left : List Token) → AtMost n (elim left [ [] ↦ Ok r | t ∷ tokens ↦ unexpected (t ∷ tokens) ])
    by [] = h
    by (t ∷ ts) = tt
alone-few n (Err f) h = tt

judged-few : (fault_at : List Token → Option Place) (end : ℕ) (tokens : List Token) (n : ℕ) (r : Read (List Line)) → AtMost n r → FewAre (λ (v : List Line × List Token). v.0) n (judged fault_at end tokens r)
judged-few fault_at end tokens n (Ok r) h = by (first_passed fault_at (before r.1 tokens))
  where
    by : (o : Option Place) → FewAre (λ (v : List Line × List Token). v.0) n (elim o [ None ↦ Ok r | Some p ↦ Err p ])
    by None = h
    by (Some p) = tt
judged-few fault_at end tokens n (Err f) h = tt

proof-few : (symbols : List Symbol) (bytes : List ℕ) (from : ℕ) → FewAre (λ (ls : List Line). ls) (length (tokens_behind from bytes)) (proof_of symbols bytes from)
proof-few symbols bytes from =
    by (judged_proof text_bounds symbols (length bytes) tokens)
    (judged-few (text_fault_at text_bounds symbols) (length bytes) tokens (length tokens) (alone (proof_section symbols tokens)) (alone-few (length tokens) (proof_section symbols tokens) (section-few symbols tokens)))
  where
    tokens : List Token
    tokens = tokens_behind from bytes

    by : (r : Result (List Line × List Token) Place) → FewAre (λ (v : List Line × List Token). v.0) (length tokens) r → FewAre (λ (ls : List Line). ls) (length tokens) (elim r [ Ok r ↦ Ok r.0 | Err p ↦ Err p ])
    by (Ok r) h = h
    by (Err p) h = tt

pub few_lines : (symbols : List Symbol) (bytes : List ℕ) (from : ℕ) (lines : List Line) → proof_of symbols bytes from ≡ Ok lines → length lines ≤ length bytes
few_lines symbols bytes from lines e =
    let few : length lines ≤ length (tokens_behind from bytes) = subst (FewAre (λ (ls : List Line). ls) (length (tokens_behind from bytes))) e (proof-few symbols bytes from) in
    omega (arith, few, few_tokens from bytes)

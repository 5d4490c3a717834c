-- The tokens of the text of a proof section are those of a tree, which is read as those lines.
use Rattle.std.proofs.Common.{◌≡◌, ◌∙◌, sym, ap, refl, ℕ, zero, suc, ◌+◌, ◌<◌, ◌≤◌, ◌^◌, Bool, true, false, List, [], ◌∷◌, ◌++◌, length, append_assoc, Ok, arith}
use Rattle.std.specs.Prelude.{◌&&◌, ◌==◌, codes, decimal, flat_map}
use Rattle.std.specs.List.{AllByRecursion, list_all}
use Rattle.std.proofs.lemmas.Bool.{eqb-true}
use Rattle.std.proofs.lemmas.List.{length-append}
use Rattle.sc_term.specs.declared.Line.{Line}
use Rattle.sc_term.specs.declared.symbol.Symbol.{Symbol}
use Rattle.sc_input_rules.specs.declared.token.Token.{Token}
use Rattle.sc_input_rules.specs.declared.token.Token.TheVariants.{Word, Punctuation}
use Rattle.sc_input_rules.specs.declared.token.Sign.TheVariants.{Stop}
use Rattle.sc_input_rules.specs.Token.{same_text}
use Rattle.sc_input_rules.specs.Tokens.{is_digit}
use Rattle.sc_input_rules.specs.Reader.{Read, ◌>>=◌}
use Rattle.sc_input_rules.proofs.Booleans.{parts_hold}
use Rattle.sc_input_rules.proofs.Taken.{Gives}
use Rattle.sc_text_rules.specs.ProofText.{line_text, lines_text, proof_text}
use Rattle.sc_text_rules.specs.ProofGrammar.{a_line, lines_within, the_heading, proof_section, alone}
use Rattle.sc_text_laws.specs.Printable.{AreNamed, IsPrintableLine, IsPrintable}
use Rattle.sc_text_laws.proofs.WordTokens.{tokens_at, past, word_token, stop_token, line_feed_token, no_token}
use Rattle.sc_text_laws.proofs.NumberTexts.{all_digits}
use Rattle.sc_text_laws.proofs.LineSpelling.{LineTree, line_tokens, IsClearLine, LineSpelt, line_spelt}

-- ---- a number isn't the closing word

no_end : (ds : List ℕ) → list_all is_digit ds ≡ true → same_text (codes "end_of_proof") ds ≡ false
no_end [] e = refl
no_end (d ∷ ds) e = by (101 == d) refl
  where
    by : (b : Bool) → (101 == d) ≡ b → (b && same_text (codes "nd_of_proof") ds) ≡ false
    by true h =
        let p = parts_hold (is_digit d) (list_all is_digit ds) e in
        let is : is_digit 101 ≡ is_digit d = ap is_digit (eqb-true 101 d h) in
        absurd cc
    by false h = refl

-- ---- lines

abbrev pub heading_tokens : ℕ → List ℕ → List Token
heading_tokens at w = Word at w ∷ Punctuation (past w at) Stop ∷ []

pub record LinesSpelt (symbols : List Symbol) (n : ℕ) (lines : List Line) (at : ℕ) (rest : List ℕ) : Type 0 where
  pub trees : List LineTree
  pub next : ℕ
  pub tokens : tokens_at at (lines_text symbols n lines ++ rest) ≡ flat_map line_tokens trees ++ tokens_at next rest
  pub many : length lines ≤ length (flat_map line_tokens trees)
  pub read : (k end : ℕ) (left : List Token) → length lines + 1 ≤ k
      → Gives (lines_within k symbols n (flat_map line_tokens trees ++ Word end (codes "end_of_proof") ∷ left)) lines (Word end (codes "end_of_proof") ∷ left)
  pub clear : AllByRecursion (IsClearLine symbols) trees

no_lines : (symbols : List Symbol) (n at : ℕ) (rest : List ℕ) → LinesSpelt symbols n [] at rest
no_lines symbols n at rest = record { trees = []; next = at; tokens = refl; many = omega arith; read = λ k end left le. by k end left le; clear = tt }
  where
    by : (k end : ℕ) (left : List Token) → 0 + 1 ≤ k → Gives (lines_within k symbols n (Word end (codes "end_of_proof") ∷ left)) [] (Word end (codes "end_of_proof") ∷ left)
    by zero end left le = absurd (omega arith)
    by (suc k) end left le = refl

after_line : List Symbol → ℕ → ℕ → Read Line → Read (List Line)
after_line symbols k n r = r >>= λ first. lines_within k symbols (n + 1) first.1 >>= λ others. Ok (first.0 ∷ others.0, others.1)

with_line : Line → Read (List Line) → Read (List Line)
with_line line r = r >>= λ others. Ok (line ∷ others.0, others.1)

more_lines : (symbols : List Symbol) (n : ℕ) (line : Line) (lines : List Line) (at : ℕ) (rest : List ℕ) → n < 2 ^ 64
    → (s : LineSpelt symbols n line at (lines_text symbols (n + 1) lines ++ rest)) → LinesSpelt symbols (n + 1) lines s.next rest → LinesSpelt symbols n (line ∷ lines) at rest
unfolding after_line with_line
more_lines symbols n line lines at rest fits s m =
    let others = flat_map line_tokens m.trees in
    let sum = length-append (line_tokens s.tree) others in
    let le = m.many in
    record {
      trees = s.tree ∷ m.trees;
      next = m.next;
      tokens =
          ap (tokens_at at) (append_assoc (line_text symbols n line) (lines_text symbols (n + 1) lines) rest)
          ∙ s.tokens ∙ ap (λ (us : List Token). line_tokens s.tree ++ us) m.tokens ∙ sym (append_assoc (line_tokens s.tree) others (tokens_at m.next rest));
      many = omega arith;
      read = λ k end left le. by k end left le;
      clear = (s.clear, m.clear);
    }
  where
    by : (k end : ℕ) (left : List Token) → suc (length lines) + 1 ≤ k
        → Gives (lines_within k symbols n ((line_tokens s.tree ++ flat_map line_tokens m.trees) ++ Word end (codes "end_of_proof") ∷ left)) (line ∷ lines) (Word end (codes "end_of_proof") ∷ left)
    by zero end left le = absurd (omega arith)
    by (suc k) end left le =
        let closing = Word end (codes "end_of_proof") ∷ left in
        let all = (line_tokens s.tree ++ flat_map line_tokens m.trees) ++ closing in
        let digits : list_all is_digit (decimal s.tree.number) ≡ true = ap (λ (n : ℕ). list_all is_digit (decimal n)) s.number ∙ all_digits n fits in
        ap (λ (b : Bool). elim b [ true ↦ Ok ([], all) | false ↦ after_line symbols k n (a_line symbols n all) ]) (no_end (decimal s.tree.number) digits)
        ∙ ap (λ (us : List Token). after_line symbols k n (a_line symbols n us)) (append_assoc (line_tokens s.tree) (flat_map line_tokens m.trees) closing)
        ∙ ap (after_line symbols k n) (s.read (flat_map line_tokens m.trees ++ closing))
        ∙ ap (with_line line) (m.read k end left (omega arith))

pub lines_spelt : (symbols : List Symbol) → AreNamed symbols → (n : ℕ) (lines : List Line) (at : ℕ) (rest : List ℕ) → n + length lines ≤ 2 ^ 32 → AllByRecursion (IsPrintableLine symbols) lines → LinesSpelt symbols n lines at rest
lines_spelt symbols h n [] at rest few may = no_lines symbols n at rest
lines_spelt symbols h n (line ∷ lines) at rest few may =
    let fits : n < 2 ^ 64 = omega arith in
    let short : n < 2 ^ 32 = omega arith in
    let s = line_spelt symbols h n line at (lines_text symbols (n + 1) lines ++ rest) short may.0 in
    more_lines symbols n line lines at rest fits s (lines_spelt symbols h (n + 1) lines s.next rest (omega arith) may.1)

-- ---- the section

abbrev pub section_tokens : ℕ → List LineTree → ℕ → List Token
section_tokens at trees end = heading_tokens at (codes "proof") ++ (flat_map line_tokens trees ++ heading_tokens end (codes "end_of_proof"))

-- the tree of a section's text, of which the first byte is this one
pub record ProofSpelt (symbols : List Symbol) (lines : List Line) (at : ℕ) : Type 0 where
  pub trees : List LineTree
  pub end : ℕ
  pub tokens : tokens_at at (proof_text symbols lines) ≡ section_tokens at trees end
  pub read : Gives (alone (proof_section symbols (section_tokens at trees end))) lines []
  pub clear : AllByRecursion (IsClearLine symbols) trees

begin_tokens : (at : ℕ) (rest : List ℕ) → tokens_at at (codes "proof.\n" ++ rest) ≡ heading_tokens at (codes "proof") ++ tokens_at (past (codes "proof") at + 1 + 1) rest
begin_tokens at rest =
    let w = codes "proof" in
    let p = past w at in
    word_token at w (46 ∷ 10 ∷ rest) refl refl ∙ ap (λ (us : List Token). Word at w ∷ us)
    (stop_token p (10 ∷ rest) ∙ ap (λ (us : List Token). Punctuation p Stop ∷ us) (line_feed_token (p + 1) rest))

end_tokens : (at : ℕ) → tokens_at at (codes "end_of_proof.\n") ≡ heading_tokens at (codes "end_of_proof")
end_tokens at =
    let w = codes "end_of_proof" in
    let p = past w at in
    word_token at w (46 ∷ 10 ∷ []) refl refl ∙ ap (λ (us : List Token). Word at w ∷ us)
    (stop_token p (10 ∷ []) ∙ ap (λ (us : List Token). Punctuation p Stop ∷ us) (line_feed_token (p + 1) [] ∙ no_token (p + 1 + 1)))

after_lines : Read (List Line) → Read (List Line)
after_lines r = alone (r >>= λ lines. the_heading (codes "end_of_proof") lines.1 >>= λ end. Ok (lines.0, end.1))

pub proof_spelt : (symbols : List Symbol) (lines : List Line) (at : ℕ) → IsPrintable symbols lines → ProofSpelt symbols lines at
unfolding after_lines
proof_spelt symbols lines at may =
    let few = may.few in
    let next = past (codes "proof") at + 1 + 1 in
    let m = lines_spelt symbols may.named 1 lines next (codes "end_of_proof.\n") (omega arith) may.each in
    let closing = heading_tokens m.next (codes "end_of_proof") in
    let inside = flat_map line_tokens m.trees in
    let sum = length-append inside closing in
    let le = m.many in
    record {
      trees = m.trees;
      end = m.next;
      tokens =
          ap (tokens_at at) (append_assoc (codes "proof.\n") (lines_text symbols 1 lines) (codes "end_of_proof.\n"))
          ∙ begin_tokens at (lines_text symbols 1 lines ++ codes "end_of_proof.\n")
          ∙ ap (λ (us : List Token). heading_tokens at (codes "proof") ++ us) (m.tokens ∙ ap (λ (us : List Token). inside ++ us) (end_tokens m.next));
      read = ap after_lines (m.read (length (inside ++ closing)) m.next (Punctuation (past (codes "end_of_proof") m.next) Stop ∷ []) (omega arith));
      clear = m.clear;
    }

-- The tokens of the text of a line are those of a tree, which is read as that line.
use Rattle.std.proofs.Common.{◌≡◌, ◌∙◌, sym, ap, subst, refl, ℕ, ◌+◌, ◌<◌, ◌≤◌, ◌^◌, sum, List, [], ◌∷◌, ◌++◌, map, append_assoc, Ok, arith}
use Rattle.std.specs.Prelude.{codes, decimal}
use Rattle.sc_term.specs.declared.Literal.{Literal}
use Rattle.sc_term.specs.Term.{largest}
use Rattle.sc_term.specs.Clause.{literal_weight, literal_depth}
use Rattle.sc_input_rules.specs.Numbering.{literal_of}
use Rattle.sc_text_laws.proofs.KnownTrees.{ClauseKnown}
use Rattle.sc_term.specs.declared.Clause.{Clause}
use Rattle.sc_term.specs.declared.Step.{Step}
use Rattle.sc_term.specs.declared.Line.{Line}
use Rattle.sc_term.specs.declared.symbol.Symbol.{Symbol}
use Rattle.sc_input_rules.specs.declared.token.Token.{Token}
use Rattle.sc_input_rules.specs.declared.token.Token.TheVariants.{Word, Punctuation}
use Rattle.sc_input_rules.specs.declared.token.Sign.TheVariants.{Stop, Colon}
use Rattle.sc_input_rules.specs.Reader.{Read, ◌>>=◌, the_sign}
use Rattle.sc_input_rules.proofs.ClauseSpelling.{ClauseTree, clause_tokens, clause_written, IsSpeltClause}
use Rattle.sc_input_rules.proofs.Taken.{Gives}
use Rattle.sc_text_rules.specs.ClauseText.{clause_text}
use Rattle.sc_text_rules.specs.ProofText.{words, step_words, line_text}
use Rattle.sc_text_rules.specs.TextWords.{text_variable, the_number}
use Rattle.sc_text_rules.specs.ProofGrammar.{text_clause, a_step, a_line}
use Rattle.sc_text_laws.specs.Printable.{AreNamed, IsShort, IsPrintableLine}
use Rattle.sc_text_laws.proofs.WordTokens.{tokens_at, past, word_token, space_token, colon_token, stop_token, line_feed_token}
use Rattle.sc_text_print.proofs.LineText.{line_pieces}
use Rattle.sc_text_laws.proofs.NumberTexts.{number_is_name}
use Rattle.sc_text_laws.proofs.NumberBack.{the_number_back}
use Rattle.sc_text_laws.proofs.ClauseSpelling.{clause_spelt}
use Rattle.sc_text_laws.proofs.ClauseBack.{text_clause_back}
use Rattle.sc_text_laws.proofs.StepSpelling.{StepTree, step_tokens, IsClearStep, step_spelt}

-- number, step, colon, clause, full stop
pub record LineTree : Type 0 where
  pub at : ℕ
  pub number : ℕ
  pub step : StepTree
  pub colon : ℕ
  pub clause : ClauseTree
  pub stop : ℕ

abbrev pub line_tokens : LineTree → List Token
line_tokens l = Word l.at (decimal l.number) ∷ (step_tokens l.step ++ (Punctuation l.colon Colon ∷ (clause_tokens l.clause ++ Punctuation l.stop Stop ∷ [])))

-- what keeps the tokens of a line within the limits
pub record IsClearLine (symbols : List Symbol) (l : LineTree) : Type 0 where
  pub number : IsShort l.number
  pub step : IsClearStep symbols l.step
  pub known : ClauseKnown symbols l.clause
  pub spelt : IsSpeltClause l.clause
  pub light : sum (map literal_weight (map (literal_of text_variable symbols) (clause_written l.clause))) ≤ 10000
  pub shallow : largest (map literal_depth (map (literal_of text_variable symbols) (clause_written l.clause))) ≤ 256

pub record LineSpelt (symbols : List Symbol) (n : ℕ) (line : Line) (at : ℕ) (rest : List ℕ) : Type 0 where
  pub tree : LineTree
  pub next : ℕ
  pub number : tree.number ≡ n
  pub tokens : tokens_at at (line_text symbols n line ++ rest) ≡ line_tokens tree ++ tokens_at next rest
  pub read : (left : List Token) → Gives (a_line symbols n (line_tokens tree ++ left)) line left
  pub clear : IsClearLine symbols tree

-- the pieces of a line, from its text on
split : (n s c rest : List ℕ) → (n ++ codes " " ++ s ++ codes " : " ++ c ++ codes ".\n") ++ rest ≡ n ++ (32 ∷ (s ++ (32 ∷ 58 ∷ 32 ∷ (c ++ (46 ∷ 10 ∷ rest)))))
split n s c rest = simp append_assoc refl

after_number : List Symbol → Read ℕ → Read Line
after_number symbols r = r >>= λ n. a_step symbols n.1 >>= λ step. the_sign Colon step.1 >>= λ colon. text_clause symbols colon.1 >>= λ c. Ok (record { step = step.0; clause = c.0 }, c.1)

after_step : List Symbol → Read Step → Read Line
after_step symbols r = r >>= λ step. the_sign Colon step.1 >>= λ colon. text_clause symbols colon.1 >>= λ c. Ok (record { step = step.0; clause = c.0 }, c.1)

after_clause : Step → Read Clause → Read Line
after_clause step r = r >>= λ c. Ok (record { step = step; clause = c.0 }, c.1)

module _ (symbols : List Symbol) (line : Line) (tree : LineTree) where
  line_back : (left : List Token) → tree.number < 2 ^ 64 → ((us : List Token) → Gives (a_step symbols (step_tokens tree.step ++ us)) line.step us)
      → ((us : List Token) → Gives (text_clause symbols (clause_tokens tree.clause ++ (Punctuation tree.stop Stop ∷ us))) line.clause us)
      → Gives (a_line symbols tree.number (line_tokens tree ++ left)) line left
  unfolding after_number after_step after_clause
  line_back left h step clause =
      let behind_clause = clause_tokens tree.clause ++ Punctuation tree.stop Stop ∷ [] in
      let behind_step = Punctuation tree.colon Colon ∷ behind_clause in
      let whole = clause_tokens tree.clause ++ Punctuation tree.stop Stop ∷ left in
      ap (λ (us : List Token). after_number symbols (the_number tree.number (Word tree.at (decimal tree.number) ∷ us)))
      (append_assoc (step_tokens tree.step) behind_step left ∙ ap (λ (us : List Token). step_tokens tree.step ++ (Punctuation tree.colon Colon ∷ us)) (append_assoc (clause_tokens tree.clause) (Punctuation tree.stop Stop ∷ []) left))
      ∙ ap (after_number symbols) (the_number_back tree.at tree.number (step_tokens tree.step ++ (Punctuation tree.colon Colon ∷ whole)) h)
      ∙ ap (after_step symbols) (step (Punctuation tree.colon Colon ∷ whole))
      ∙ ap (after_clause line.step) (clause left)

pub line_spelt : (symbols : List Symbol) → AreNamed symbols → (number : ℕ) (line : Line) (at : ℕ) (rest : List ℕ) → IsShort number → IsPrintableLine symbols line → LineSpelt symbols number line at rest
line_spelt symbols h number line at rest short may =
    let fits : number < 2 ^ 64 = omega arith in
    let clause = may.clause in
    let n = decimal number in
    let step_text = words (step_words symbols line.step) in
    let text = clause_text symbols line.clause in
    let behind_clause = 46 ∷ 10 ∷ rest in
    let behind_step = 32 ∷ 58 ∷ 32 ∷ (text ++ behind_clause) in
    let p = past n at in
    let s = step_spelt symbols h line.step (p + 1) behind_step may.step refl in
    let c = clause_spelt symbols h line.clause (s.next + 1 + 1 + 1) behind_clause may.clause refl in
    let tree : LineTree = record { at = at; number = number; step = s.tree; colon = s.next + 1; clause = c.tree; stop = c.next } in
    let tail = tokens_at (c.next + 1 + 1) rest in
    let ended = clause_tokens c.tree ++ Punctuation c.next Stop ∷ [] in
    record {
      tree = record { at = at; number = number; step = s.tree; colon = s.next + 1; clause = c.tree; stop = c.next };
      next = c.next + 1 + 1;
      number = refl;
      tokens =
          ap (λ (us : List ℕ). tokens_at at (us ++ rest)) (line_pieces symbols number line)
          ∙ ap (tokens_at at) (split n step_text text rest)
          ∙ word_token at n (32 ∷ (step_text ++ behind_step)) (number_is_name number fits) refl
          ∙ ap (λ (us : List Token). Word at n ∷ us)
          (space_token p (step_text ++ behind_step) ∙ s.tokens
          ∙ ap (λ (us : List Token). step_tokens s.tree ++ us)
          (space_token s.next (58 ∷ 32 ∷ (text ++ behind_clause)) ∙ colon_token (s.next + 1) (32 ∷ (text ++ behind_clause))
          ∙ ap (λ (us : List Token). Punctuation (s.next + 1) Colon ∷ us)
          (space_token (s.next + 1 + 1) (text ++ behind_clause) ∙ c.tokens
          ∙ ap (λ (us : List Token). clause_tokens c.tree ++ us) (stop_token c.next (10 ∷ rest) ∙ ap (λ (us : List Token). Punctuation c.next Stop ∷ us) (line_feed_token (c.next + 1) rest))
          ∙ sym (append_assoc (clause_tokens c.tree) (Punctuation c.next Stop ∷ []) tail)))
          ∙ sym (append_assoc (step_tokens s.tree) (Punctuation (s.next + 1) Colon ∷ ended) tail));
      read = λ left. line_back symbols line tree left fits s.read (λ us. text_clause_back symbols c.tree line.clause.literals c.next us c.spelt c.literals);
      clear = record {
        number = short;
        step = s.clear;
        known = c.known;
        spelt = c.spelt;
        light = subst (λ (ls : List Literal). sum (map literal_weight ls) ≤ 10000) (sym c.literals) clause.light;
        shallow = subst (λ (ls : List Literal). largest (map literal_depth ls) ≤ 256) (sym c.literals) clause.shallow;
      };
    }

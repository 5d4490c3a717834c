-- Kept rows are read back.
use Rattle.std.proofs.Common.{◌≡◌, ◌∙◌, sym, ap, subst, refl, ℕ, ◌+◌, ◌≤◌, sum, false, List, [], ◌∷◌, ◌++◌, map, append_assoc, Ok, Some, arith}
use Rattle.std.specs.Prelude.{codes, decimal, nat_le}
use Rattle.std.proofs.lemmas.Bool.{le-leb}
use Rattle.std.proofs.lemmas.List.{append-nil}
use Rattle.sc_term.proofs.SubstitutionLaws.{all_join}
use Rattle.sc_term.specs.declared.Literal.{Literal}
use Rattle.sc_term.specs.declared.Clause.{Clause}
use Rattle.sc_term.specs.Term.{largest}
use Rattle.sc_term.specs.Clause.{literal_weight, literal_depth}
use Rattle.sc_term.specs.declared.symbol.Symbol.{Symbol}
use Rattle.sc_core_rules.specs.declared.row.KeptRow.{KeptRow}
use Rattle.sc_input_rules.specs.declared.token.Token.{Token}
use Rattle.sc_input_rules.specs.declared.token.Token.TheVariants.{Word, Punctuation}
use Rattle.sc_input_rules.specs.declared.token.Sign.TheVariants.{Stop, Colon}
use Rattle.sc_input_rules.specs.Token.{is_sign}
use Rattle.sc_input_rules.specs.Reader.{Read, ◌>>=◌, the_sign}
use Rattle.sc_input_rules.specs.Numbering.{literal_of}
use Rattle.sc_input_rules.proofs.ClauseSpelling.{ClauseTree, clause_tokens, clause_written, IsSpeltClause}
use Rattle.sc_input_rules.proofs.NoStop.{clause_no_stop}
use Rattle.sc_input_rules.proofs.Taken.{Gives}
use Rattle.sc_text_rules.specs.ClauseText.{clause_text}
use Rattle.sc_text_rules.specs.ProofText.{words}
use Rattle.sc_text_rules.specs.ProofGrammar.{text_clause}
use Rattle.sc_text_rules.specs.TextWords.{text_variable}
use Rattle.sc_text_rules.specs.TextPosition.{formula}
use Rattle.sc_text_print.proofs.LineText.{joined_by-append}
use Rattle.sc_text_run_rules.specs.RunText.{kept_row}
use Rattle.sc_text_run_rules.specs.RowWords.{a_row_number}
use Rattle.sc_text_run_rules.specs.RowGrammar.{a_kept_row}
use Rattle.sc_text_laws.specs.Printable.{AreNamed, IsShort}
use Rattle.sc_text_laws.proofs.Walks.{Walk, walk_join, walk_both, walk_move, walk_splits}
use Rattle.sc_text_laws.proofs.WordTokens.{tokens_at, past, space_token, colon_token, stop_token, line_feed_token}
use Rattle.sc_text_laws.proofs.WordRows.{AreWords, word_tokens, words_end, words_spelt, fits}
use Rattle.sc_text_laws.proofs.NumberTexts.{all_digits, number_is_name}
use Rattle.sc_text_laws.proofs.KnownTrees.{ClauseKnown}
use Rattle.sc_text_laws.proofs.NamesKnown.{NameClear}
use Rattle.sc_text_laws.proofs.ClauseClear.{Measured, clause_names, clause_measured}
use Rattle.sc_text_laws.proofs.ClauseSpelling.{clause_spelt}
use Rattle.sc_text_laws.proofs.ClauseBack.{text_clause_back}
use Rattle.sc_text_laws.proofs.Passing.{Passes, passes_by}
use Rattle.sc_text_laws.proofs.StepSpelling.{quiet}
use Rattle.sc_text_laws.specs.PrintableRun.{IsKeptRow}
use Rattle.sc_text_laws.proofs.Sentences.{EndsSentence, Sentences, HasNoStop, one_sentence}
use Rattle.sc_text_laws.proofs.NumbersBack.{then_in, then_row_number}
use Rattle.sc_text_laws.proofs.RowsPass.{formula_clause, quiet_words, quiet_colons, words_no_stop, number_no_step, first_passes, quiet_passes, colon_passes}
use Rattle.sc_text_laws.proofs.Parts.{Row}

-- a clause with its full stop, within the limits
pub record IsClearClause (symbols : List Symbol) (c : ClauseTree) : Type 0 where
  pub known : ClauseKnown symbols c
  pub spelt : IsSpeltClause c
  pub light : sum (map literal_weight (map (literal_of text_variable symbols) (clause_written c))) ≤ 10000
  pub shallow : largest (map literal_depth (map (literal_of text_variable symbols) (clause_written c))) ≤ 256

abbrev pub Clear : List Symbol → List Token → Token → Type 0
Clear symbols us t = NameClear symbols false us t × Measured (us ++ t ∷ [])

pub clause_walk : (symbols : List Symbol) (c : ClauseTree) (stop : ℕ) → IsClearClause symbols c → Walk (Clear symbols) [] (clause_tokens c ++ Punctuation stop Stop ∷ [])
clause_walk symbols c stop h =
    let all = clause_tokens c ++ Punctuation stop Stop ∷ [] in
    let measured = clause_measured symbols c stop h.known h.light h.shallow in
    walk_both (NameClear symbols false) (λ us t. Measured (us ++ t ∷ [])) [] all (clause_names symbols c stop h.known h.spelt)
    (walk_splits (λ us t. Measured (us ++ t ∷ [])) [] all (λ us t more e. measured (us ++ t ∷ []) more (e ∙ sym (append_assoc us (t ∷ []) more))))

abbrev kept_words : KeptRow → List (List ℕ)
kept_words k = decimal k.number ∷ decimal k.turn ∷ decimal k.weight ∷ []

named : (n : ℕ) → IsShort n → AreWords (decimal n ∷ [])
named n h = (number_is_name n (fits n h), tt)

-- the pieces of a kept row, from its text on
kept_pieces : (symbols : List Symbol) (k : KeptRow) (rest : List ℕ) → kept_row symbols k ++ rest
    ≡ words (codes "kept" ∷ kept_words k) ++ (32 ∷ 58 ∷ 32 ∷ (clause_text symbols k.clause ++ (46 ∷ 10 ∷ rest)))
kept_pieces symbols k rest =
    let front = words (codes "kept" ∷ kept_words k) in
    let behind = 32 ∷ 58 ∷ 32 ∷ clause_text symbols k.clause in
    ap (λ (us : List ℕ). (us ++ codes ".\n") ++ rest) (joined_by-append (codes " ") (codes "kept") (kept_words k) (codes ":") (clause_text symbols k.clause ∷ []))
    ∙ append_assoc (front ++ behind) (codes ".\n") rest ∙ append_assoc front behind (46 ∷ 10 ∷ rest)

module _ (symbols : List Symbol) (k : KeptRow) (at : ℕ) (tree : ClauseTree) (colon stop : ℕ) where
  abbrev front : List Token
  front = word_tokens at (codes "kept" ∷ kept_words k)

  abbrev behind : List Token
  behind = clause_tokens tree ++ Punctuation stop Stop ∷ []

  kept_walk : IsShort k.number → IsShort k.turn → IsShort k.weight → IsClearClause symbols tree → Walk (Passes symbols) [] (front ++ (Punctuation colon Colon ∷ behind))
  kept_walk number turn weight h =
      let p = past (codes "kept") at + 1 in
      let ws = word_tokens p (kept_words k) in
      let sign = Punctuation colon Colon in
      let first = Word at (codes "kept") in
      let base = first ∷ (ws ++ sign ∷ []) in
      let silent = quiet_words p (kept_words k) (quiet k.number number, (quiet k.turn turn, (quiet k.weight weight, tt))) in
      let step = number_no_step k.number (all_digits k.number (fits k.number number)) in
      let bars = quiet_colons ws silent in
      let clause = walk_move (Clear symbols) (Passes symbols) base [] behind (λ us t c.
      passes_by symbols (base ++ us) t (Some (record { is_term = false; tokens = us })) (Some (record { is_term = false; tokens = us ++ t ∷ [] }))
      (ap (λ (ts : List Token). formula (first ∷ ts)) (append_assoc ws (sign ∷ []) us) ∙ formula_clause at (codes "kept") refl ws colon us bars)
      (ap (λ (ts : List Token). formula (first ∷ ts)) (append_assoc (ws ++ sign ∷ []) us (t ∷ []) ∙ append_assoc ws (sign ∷ []) (us ++ t ∷ [])) ∙ formula_clause at (codes "kept") refl ws colon (us ++ t ∷ []) bars)
      c.0 c.1) (clause_walk symbols tree stop h) in (
        first_passes symbols at (codes "kept") refl refl,
        walk_join (Passes symbols) (first ∷ []) ws (sign ∷ behind) (quiet_passes symbols at (codes "kept") refl ws silent step)
            (colon_passes symbols at (codes "kept") refl ws colon silent step, subst (λ (ts : List Token). Walk (Passes symbols) ts behind) (append-nil base) clause),
      )

  before_stop : List Token
  before_stop = front ++ (Punctuation colon Colon ∷ clause_tokens tree)

  row_is : front ++ (Punctuation colon Colon ∷ behind) ≡ (front ++ (Punctuation colon Colon ∷ clause_tokens tree)) ++ Punctuation stop Stop ∷ []
  row_is = sym (append_assoc front (Punctuation colon Colon ∷ clause_tokens tree) (Punctuation stop Stop ∷ []))

  row_no_stop : HasNoStop (front ++ (Punctuation colon Colon ∷ clause_tokens tree))
  row_no_stop = all_join (λ t. is_sign Stop t ≡ false) front (Punctuation colon Colon ∷ clause_tokens tree) (words_no_stop at (codes "kept" ∷ kept_words k)) (refl, clause_no_stop tree)

  kept_passes : (before : List Token) → EndsSentence before → IsShort k.number → IsShort k.turn → IsShort k.weight → IsClearClause symbols tree → Sentences symbols before (front ++ (Punctuation colon Colon ∷ behind))
  kept_passes before s number turn weight h =
      let all = front ++ (Punctuation colon Colon ∷ clause_tokens tree) in
      subst (Sentences symbols before) (sym row_is) (one_sentence symbols before all stop s row_no_stop (subst (Walk (Passes symbols) []) row_is (kept_walk number turn weight h)))

  after_clause : Read Clause → Read KeptRow
  after_clause r = r >>= λ c. Ok (record { number = k.number; turn = k.turn; weight = k.weight; clause = c.0 }, c.1)

  kept_back : (least : ℕ) (left : List Token) → least ≤ k.number → IsShort k.number → IsShort k.turn → IsShort k.weight
      → ((us : List Token) → Gives (text_clause symbols (clause_tokens tree ++ (Punctuation stop Stop ∷ us))) k.clause us) → Gives (a_kept_row symbols least ((front ++ (Punctuation colon Colon ∷ behind)) ++ left)) k left
  unfolding after_clause
  kept_back least left le number turn weight clause =
      let p = past (codes "kept") at + 1 in
      let q = past (decimal k.number) p + 1 in
      let r = past (decimal k.turn) q + 1 in
      let whole = clause_tokens tree ++ (Punctuation stop Stop ∷ left) in
      let three = Punctuation colon Colon ∷ whole in
      let two = Word r (decimal k.weight) ∷ three in
      let one = Word q (decimal k.turn) ∷ two in
      ap (λ (us : List Token). a_kept_row symbols least (front ++ (Punctuation colon Colon ∷ us))) (append_assoc (clause_tokens tree) (Punctuation stop Stop ∷ []) left)
      ∙ then_in (λ n. a_row_number n.1 >>= λ t. a_row_number t.1 >>= λ w. the_sign Colon w.1 >>= λ c. text_clause symbols c.1 >>= λ f. Ok (record { number = n.0; turn = t.0; weight = w.0; clause = f.0 }, f.1))
      (λ n. nat_le least n) 0 4294967295 p k.number one (le-leb least k.number le) (omega arith) (omega (arith, number)) number
      ∙ then_row_number (λ t. a_row_number t.1 >>= λ w. the_sign Colon w.1 >>= λ c. text_clause symbols c.1 >>= λ f. Ok (record { number = k.number; turn = t.0; weight = w.0; clause = f.0 }, f.1)) q k.turn two turn
      ∙ then_row_number (λ w. the_sign Colon w.1 >>= λ c. text_clause symbols c.1 >>= λ f. Ok (record { number = k.number; turn = k.turn; weight = w.0; clause = f.0 }, f.1)) r k.weight three weight
      ∙ ap after_clause (clause left)

pub kept_spelt : (symbols : List Symbol) → AreNamed symbols → (least : ℕ) (k : KeptRow) (at : ℕ) (rest : List ℕ) → IsKeptRow symbols least k → Row symbols (codes "kept") (a_kept_row symbols least) k (kept_row symbols k) at rest
kept_spelt symbols h least k at rest may =
    let clause = may.clause in
    let text = clause_text symbols k.clause in
    let behind_clause = 46 ∷ 10 ∷ rest in
    let ws = codes "kept" ∷ kept_words k in
    let e = words_end at (codes "kept" ∷ kept_words k) in
    let c = clause_spelt symbols h k.clause (e + 1 + 1 + 1) behind_clause may.clause refl in
    let front = word_tokens at (codes "kept" ∷ kept_words k) in
    let inside = clause_tokens c.tree ++ Punctuation c.next Stop ∷ [] in
    let tail = tokens_at (c.next + 1 + 1) rest in
    let names : AreWords (codes "kept" ∷ kept_words k) = (refl, ((named k.number may.number).0, ((named k.turn may.turn).0, ((named k.weight may.weight).0, tt)))) in
    let clear : IsClearClause symbols c.tree =
    record {
      known = c.known;
      spelt = c.spelt;
      light = subst (λ (ls : List Literal). sum (map literal_weight ls) ≤ 10000) (sym c.literals) clause.light;
      shallow = subst (λ (ls : List Literal). largest (map literal_depth ls) ≤ 256) (sym c.literals) clause.shallow;
    } in
    record {
      part = record {
        tokens = word_tokens at (codes "kept" ∷ kept_words k) ++ (Punctuation (e + 1) Colon ∷ (clause_tokens c.tree ++ Punctuation c.next Stop ∷ []));
        next = c.next + 1 + 1;
        spelt =
            ap (tokens_at at) (kept_pieces symbols k rest)
            ∙ words_spelt at (codes "kept") (kept_words k) (32 ∷ 58 ∷ 32 ∷ (text ++ behind_clause)) names refl
            ∙ ap (λ (us : List Token). front ++ us)
            (space_token e (58 ∷ 32 ∷ (text ++ behind_clause)) ∙ colon_token (e + 1) (32 ∷ (text ++ behind_clause))
            ∙ ap (λ (us : List Token). Punctuation (e + 1) Colon ∷ us)
            (space_token (e + 1 + 1) (text ++ behind_clause) ∙ c.tokens
            ∙ ap (λ (us : List Token). clause_tokens c.tree ++ us) (stop_token c.next (10 ∷ rest) ∙ ap (λ (us : List Token). Punctuation c.next Stop ∷ us) (line_feed_token (c.next + 1) rest))
            ∙ sym (append_assoc (clause_tokens c.tree) (Punctuation c.next Stop ∷ []) tail)))
            ∙ sym (append_assoc front (Punctuation (e + 1) Colon ∷ inside) tail);
        read = λ left m.
            kept_back symbols k at c.tree (e + 1) c.next least left may.least may.number may.turn may.weight (λ us. text_clause_back symbols c.tree k.clause.literals c.next us c.spelt c.literals);
        passes = λ before s. kept_passes symbols k at c.tree (e + 1) c.next before s may.number may.turn may.weight clear;
      };
      first = at;
      tail = _;
      begins = refl;
    }

-- No limit is passed at any token of a step, nor at the colon behind it.
use Rattle.std.proofs.Common.{◌≡◌, ◌∙◌, sym, ap, subst, refl, ℕ, ◌+◌, Bool, true, false, List, [], ◌∷◌, ◌++◌, append_assoc, Some, None, arith}
use Rattle.std.specs.Prelude.{codes, decimal}
use Rattle.std.specs.List.{AllByRecursion, list_all}
use Rattle.std.proofs.lemmas.List.{append-nil}
use Rattle.sc_term.proofs.SubstitutionLaws.{all_split, all_join}
use Rattle.sc_term.specs.declared.symbol.Symbol.{Symbol}
use Rattle.sc_input_rules.specs.declared.token.Token.{Token}
use Rattle.sc_input_rules.specs.declared.token.Token.TheVariants.{Word, Punctuation}
use Rattle.sc_input_rules.specs.declared.token.Sign.TheVariants.{Open, Close, Comma, Stop, Colon}
use Rattle.sc_input_rules.specs.Token.{is_sign, is_word}
use Rattle.sc_input_rules.specs.Tokens.{is_digit}
use Rattle.sc_input_rules.specs.ClauseLimits.{when}
use Rattle.sc_input_rules.proofs.Spelling.{Head, Sides, Empty, Entry, in_brackets, tokens_of, side_tokens, occurrence, occurrences, side_of, IsName, AreNames}
use Rattle.sc_input_rules.proofs.ClauseSpelling.{equal_sign}
use Rattle.sc_input_rules.proofs.NoStop.{OfLiterals, sides_all, side_all}
use Rattle.sc_term.specs.declared.Term.{Term}
use Rattle.sc_input_rules.proofs.Terms.{term_from, terms}
use Rattle.sc_text_rules.specs.TextWords.{text_variable}
use Rattle.sc_text_rules.specs.TextPosition.{is_instance, last_term}
use Rattle.sc_text_rules.specs.TextLimits.{large_number}
use Rattle.sc_text_laws.specs.Printable.{AreShort}
use Rattle.sc_text_laws.proofs.Walks.{Walk, walk_join, walk_move, walk_splits, walk_at}
use Rattle.sc_text_laws.proofs.WordTokens.{past}
use Rattle.sc_text_laws.proofs.WordRows.{word_tokens, path_tokens}
use Rattle.sc_text_laws.proofs.KnownNames.{KnownTerm}
use Rattle.sc_text_laws.proofs.NamesKnown.{NameClear, no_name}
use Rattle.sc_text_laws.proofs.ClauseClear.{Measured}
use Rattle.sc_text_laws.proofs.TermClear.{term_so_far, term_and, BeginsTerm, first_term, next_term, term_measured, term_names, behind_term, behind_terms}
use Rattle.sc_text_laws.proofs.StepSpelling.{StepTree, Plain, WithTerms, WithPath, bracket_tokens, step_tokens, QuietWord, AreQuiet, IsLight, IsClearStep, quiet}
use Rattle.sc_text_laws.proofs.Passing.{Passes, passes_by, HasNoColon, formula_is_clause, formula_is_none, formula_is_term, formula_is_open, formula_is_still_open}

pub nothing_measured : Measured []
nothing_measured = record { arity = omega arith; weight = omega arith; depth = omega arith }

not_colon : OfLiterals (λ t. is_sign Colon t ≡ false)
not_colon = record { word = λ at text. refl; opening = λ at. refl; closing = λ at. refl; comma = λ at. refl; minus = λ at. refl; equal = λ b at. by b at }
  where
    by : (b : Bool) (at : ℕ) → is_sign Colon (Punctuation at (equal_sign b)) ≡ false
    by true at = refl
    by false at = refl

no_colon_front : (us more : List Token) → HasNoColon (us ++ more) → HasNoColon us
no_colon_front us more h = (all_split (λ t. is_sign Colon t ≡ false) us more h).0

no_colon_join : (us more : List Token) → HasNoColon us → HasNoColon more → HasNoColon (us ++ more)
no_colon_join us more h k = all_join (λ t. is_sign Colon t ≡ false) us more h k

-- ---- tokens of which nothing is told

record QuietToken (t : Token) : Type 0 where
  colon : is_sign Colon t ≡ false
  number : large_number t ≡ None

quiet_word : (at : ℕ) (w : List ℕ) → QuietWord w → QuietToken (Word at w)
quiet_word at w h = record { colon = refl; number = ap (λ (b : Bool). when b (Some at)) h }

words_quiet : (at : ℕ) (ws : List (List ℕ)) → AllByRecursion QuietWord ws → AllByRecursion QuietToken (word_tokens at ws)
words_quiet at [] h = tt
words_quiet at (w ∷ ws) h = (quiet_word at w h.0, words_quiet (past w at + 1) ws h.1)

path_quiet : (at : ℕ) (ns : List ℕ) → AreShort ns → AllByRecursion QuietToken (path_tokens at ns)
path_quiet at [] h = tt
path_quiet at (n ∷ []) h = (quiet_word at (decimal n) (quiet n h.0), tt)
path_quiet at (n ∷ m ∷ ms) h = (quiet_word at (decimal n) (quiet n h.0), (record { colon = refl; number = refl }, path_quiet (past (decimal n) at + 1) (m ∷ ms) h.1))

quiet_no_colon : (ts : List Token) → AllByRecursion QuietToken ts → HasNoColon ts
quiet_no_colon [] h = tt
quiet_no_colon (t ∷ ts) h = let q = h.0 in (q.colon, quiet_no_colon ts h.1)

-- the word of the step isn't `instance`
abbrev OtherStep : List Token → Type 0
OtherStep [] = Unit {0}
OtherStep (t ∷ ts) = is_word (codes "instance") t ≡ false

other_front : (us more : List Token) → OtherStep (us ++ more) → OtherStep us
other_front [] more h = tt
other_front (u ∷ us) more h = h

module _ (symbols : List Symbol) (at : ℕ) (w : List ℕ) (digits : list_all is_digit w ≡ true) where
  abbrev number : Token
  number = Word at w

  no_instance : (us : List Token) → OtherStep us → is_instance (number ∷ us) ≡ false
  no_instance [] h = refl
  no_instance (u ∷ us) h = h

  -- the tokens pass, and so does the colon behind them
  pub record Passing (front ts : List Token) : Type 0 where
    pub walk : Walk (Passes symbols) front ts
    pub end : (colon : ℕ) → Passes symbols (front ++ ts) (Punctuation colon Colon)

  quiet_passes : (ts : List Token) → AllByRecursion QuietToken ts → OtherStep ts → Passing (number ∷ []) ts
  quiet_passes ts h other =
      let bars = quiet_no_colon ts h in
      record {
        walk = walk_splits (Passes symbols) (number ∷ []) ts (λ us t more e.
            let parts = all_split QuietToken us (t ∷ more) (subst (AllByRecursion QuietToken) e h) in
            let one = parts.1.0 in
            let longer = e ∙ sym (append_assoc us (t ∷ []) more) in
            let before = other_front us (t ∷ more) (subst OtherStep e other) in
            let behind = other_front (us ++ t ∷ []) more (subst OtherStep longer other) in
            let colons = no_colon_front (us ++ t ∷ []) more (subst HasNoColon longer bars) in
            passes_by symbols (number ∷ us) t None None (formula_is_none at w digits us (quiet_no_colon us parts.0) (no_instance us before))
            (formula_is_none at w digits (us ++ t ∷ []) colons (no_instance (us ++ t ∷ []) behind)) one.number tt);
        end = λ colon.
            passes_by symbols (number ∷ ts) (Punctuation colon Colon) None (Some (record { is_term = false; tokens = [] })) (formula_is_none at w digits ts bars (no_instance ts other))
            (formula_is_clause at w digits ts colon [] bars) refl nothing_measured;
      }

  -- ---- the terms of an instance step

  module _ (i j o : ℕ) (v : List ℕ) where
    abbrev start : List Token
    start = number ∷ Word i (codes "instance") ∷ Word j v ∷ Punctuation o Open ∷ []

    term_passes : (us : List Token) (t : Token) → HasNoColon (us ++ t ∷ []) → NameClear symbols true (last_term 0 [] us) t → Measured (last_term 0 [] (us ++ t ∷ [])) → Passes symbols (start ++ us) t
    term_passes us t h names measures =
        passes_by symbols (start ++ us) t (Some (record { is_term = true; tokens = last_term 0 [] us })) (Some (record { is_term = true; tokens = last_term 0 [] (us ++ t ∷ []) }))
        (formula_is_term at w digits i j o v us (no_colon_front us (t ∷ []) h)) (formula_is_term at w digits i j o v (us ++ t ∷ []) h) names measures

    abbrev TermPasses : List Token → Token → Type 0
    TermPasses us t = Passes symbols (start ++ us) t

    -- the tokens of terms pass, and no name ends behind them
    record TermsPass (front ts : List Token) : Type 0 where
      walk : Walk TermPasses front ts
      end : (t : Token) → NameClear symbols true (last_term 0 [] (front ++ ts)) t

    side_no_colon : (h : Head) (args : Sides) → HasNoColon (side_tokens h args)
    side_no_colon h args = side_all (λ t. is_sign Colon t ≡ false) not_colon h args

    abbrev term_of : Head → Sides → Term
    term_of h args = term_from text_variable symbols (occurrence h args) (terms text_variable symbols args)

    side_passes : (front : List Token) (h : Head) (args : Sides) → BeginsTerm front → HasNoColon front → AllByRecursion (KnownTerm symbols) (side_of h args) → AreNames args
        → IsLight (term_of h args) → Walk TermPasses front (side_tokens h args)
    side_passes front h args b bars known names light =
        walk_splits TermPasses front (side_tokens h args) (λ us t more e.
        let close = Punctuation 0 Close ∷ [] in
        let longer = e ∙ sym (append_assoc us (t ∷ []) more) in
        let colons = no_colon_front (us ++ t ∷ []) more (subst HasNoColon longer (side_no_colon h args)) in
        let so = b.law us ∙ term_so_far h args us (t ∷ more) e in
        let then = ap (last_term 0 []) (append_assoc front us (t ∷ [])) ∙ b.law (us ++ t ∷ []) ∙ term_so_far h args (us ++ t ∷ []) more longer in
        let clear = walk_at (NameClear symbols true) [] (side_tokens h args) (term_names symbols h args known names) us t more e in
        let measured = term_measured symbols h args 0 known light.0 light.1 (us ++ t ∷ []) (more ++ close) (ap (λ ts. ts ++ close) longer ∙ append_assoc (us ++ t ∷ []) more close) in
        term_passes (front ++ us) t (subst HasNoColon (sym (append_assoc front us (t ∷ []))) (no_colon_join front (us ++ t ∷ []) bars colons))
        (subst (λ (ts : List Token). NameClear symbols true ts t) (sym so) clear) (subst Measured (sym then) measured))

    module _ (front : List Token) (h : Head) (args : Sides) (b : BeginsTerm front) (bars : HasNoColon front) (known : AllByRecursion (KnownTerm symbols) (side_of h args)) (name : IsName h) where
      abbrev side : List Token
      side = side_tokens h args

      so_is : last_term 0 [] (front ++ side) ≡ side
      so_is = b.law side ∙ term_so_far h args side [] (sym (append-nil side))

      behind_is : (t : Token) → NameClear symbols true (last_term 0 [] (front ++ side)) t
      behind_is t = subst (λ (ts : List Token). NameClear symbols true ts t) (sym so_is) (behind_term symbols h args t known.0 name)

      colons_then : (t : Token) → is_sign Colon t ≡ false → HasNoColon ((front ++ side) ++ t ∷ [])
      colons_then t e = no_colon_join (front ++ side) (t ∷ []) (no_colon_join front side bars (side_no_colon h args)) (e, tt)

      comma_passes : (comma : ℕ) → TermPasses (front ++ side) (Punctuation comma Comma)
      comma_passes comma =
          let n = next_term front h args comma b in
          let all = (front ++ side) ++ Punctuation comma Comma ∷ [] in
          let none : last_term 0 [] all ≡ [] = ap (last_term 0 []) (sym (append-nil all)) ∙ n.law [] in
          term_passes (front ++ side) (Punctuation comma Comma) (colons_then (Punctuation comma Comma) refl) (behind_is (Punctuation comma Comma)) (subst Measured (sym none) nothing_measured)

      closed_is : (close : ℕ) → last_term 0 [] (front ++ (side ++ Punctuation close Close ∷ [])) ≡ side ++ Punctuation close Close ∷ []
      closed_is close = b.law (side ++ Punctuation close Close ∷ []) ∙ term_and h args (Punctuation close Close ∷ [])

      close_passes : (close : ℕ) → IsLight (term_of h args) → TermPasses (front ++ side) (Punctuation close Close)
      close_passes close light =
          let end = Punctuation close Close in
          let all = side ++ end ∷ [] in
          let is = ap (last_term 0 []) (append_assoc front side (end ∷ [])) ∙ closed_is close in
          let measured = term_measured symbols h args close known light.0 light.1 all [] (sym (append-nil all)) in
          term_passes (front ++ side) end (colons_then end refl) (behind_is end) (subst Measured (sym is) measured)

    terms_pass : (h : Head) (args : Sides) (comma : ℕ) (others : Sides) (front : List Token) (close : ℕ) → BeginsTerm front → HasNoColon front → AllByRecursion (KnownTerm symbols) (occurrences (Entry h args comma others))
        → AreNames (Entry h args comma others) → AllByRecursion IsLight (terms text_variable symbols (Entry h args comma others)) → TermsPass front (tokens_of (Entry h args comma others) ++ Punctuation close Close ∷ [])
    terms_pass h args comma Empty front close b bars known names light =
        let side = side_tokens h args in
        let end = Punctuation close Close in
        let k = all_split (KnownTerm symbols) (occurrences args) [] known.1 in
        let is = ap (λ (us : List Token). Word h.at h.text ∷ (us ++ end ∷ [])) (append-nil (in_brackets h args (tokens_of args))) in
        subst (TermsPass front) (sym is) (record {
          walk = walk_join TermPasses front side (end ∷ []) (side_passes front h args b bars (known.0, k.0) names.1 light.0) (close_passes front h args b bars (known.0, k.0) names.0 close light.0, tt);
          end = λ t. subst (λ (ts : List Token). NameClear symbols true ts t) (sym (closed_is front h args b bars (known.0, k.0) names.0 close)) (no_name symbols true (side ++ end ∷ []) t (behind_terms h args close));
        })
    terms_pass h args comma (Entry g inner comma' others) front close b bars known names light =
        let side = side_tokens h args in
        let end = Punctuation close Close in
        let sign = Punctuation comma Comma in
        let ts = tokens_of (Entry g inner comma' others) in
        let rest = ts ++ end ∷ [] in
        let k = all_split (KnownTerm symbols) (occurrences args) (occurrences (Entry g inner comma' others)) known.1 in
        let is = ap (λ (us : List Token). Word h.at h.text ∷ us) (append_assoc (in_brackets h args (tokens_of args)) (sign ∷ ts) (end ∷ [])) in
        let before = (front ++ side) ++ sign ∷ [] in
        let r = terms_pass g inner comma' others before close (next_term front h args comma b) (colons_then front h args b bars (known.0, k.0) names.0 sign refl) k.1 names.2 light.1 in
        let joined = append_assoc (front ++ side) (sign ∷ []) rest ∙ append_assoc front side (sign ∷ rest) in
        subst (TermsPass front) (sym is) (record {
          walk = walk_join TermPasses front side (sign ∷ rest) (side_passes front h args b bars (known.0, k.0) names.1 light.0) (comma_passes front h args b bars (known.0, k.0) names.0 comma, r.walk);
          end = λ t. subst (λ (us : List Token). NameClear symbols true (last_term 0 [] us) t) joined (r.end t);
        })

    no_terms_pass : (close : ℕ) → TermsPass [] (Punctuation close Close ∷ [])
    no_terms_pass close =
        let end = Punctuation close Close in
        record {
          walk = (term_passes [] end (refl, tt) (no_name symbols true [] end refl) (record { arity = omega arith; weight = omega arith; depth = omega arith }), tt);
          end = λ t. no_name symbols true (end ∷ []) t refl;
        }

    all_terms_pass : (f : Sides) (close : ℕ) → AllByRecursion (KnownTerm symbols) (occurrences f) → AreNames f → AllByRecursion IsLight (terms text_variable symbols f) → TermsPass [] (tokens_of f ++ Punctuation close Close ∷ [])
    all_terms_pass Empty close known names light = no_terms_pass close
    all_terms_pass (Entry h args comma others) close known names light = terms_pass h args comma others [] close first_term tt known names light

    instance_passes : (f : Sides) (close : ℕ) → QuietWord v → AllByRecursion (KnownTerm symbols) (occurrences f) → AreNames f → AllByRecursion IsLight (terms text_variable symbols f)
        → Passing (number ∷ []) (Word i (codes "instance") ∷ Word j v ∷ Punctuation o Open ∷ (tokens_of f ++ Punctuation close Close ∷ []))
    instance_passes f close short known names light =
        let rest = tokens_of f ++ Punctuation close Close ∷ [] in
        let named = Word i (codes "instance") in
        let of = Word j v in
        let opening = Punctuation o Open in
        let r = all_terms_pass f close known names light in
        let q = quiet_word j v short in
        let bars : HasNoColon rest = no_colon_join (tokens_of f) (Punctuation close Close ∷ []) (sides_all (λ t. is_sign Colon t ≡ false) not_colon f) (refl, tt) in
        record {
          walk = (
            passes_by symbols (number ∷ []) named None None (formula_is_none at w digits [] tt refl) (formula_is_open at w digits i) refl tt,
            (
              passes_by symbols (number ∷ named ∷ []) of None None (formula_is_open at w digits i) (formula_is_still_open at w digits i j v) q.number tt,
              (
                passes_by symbols (number ∷ named ∷ of ∷ []) opening None (Some (record { is_term = true; tokens = [] })) (formula_is_still_open at w digits i j v) (formula_is_term at w digits i j o v [] tt) refl nothing_measured,
                walk_move TermPasses (Passes symbols) start [] rest (λ us t p. p) r.walk,
              ),
            ),
          );
          end = λ colon.
              passes_by symbols (start ++ rest) (Punctuation colon Colon) (Some (record { is_term = true; tokens = last_term 0 [] rest })) (Some (record { is_term = false; tokens = [] }))
              (formula_is_term at w digits i j o v rest bars) (formula_is_clause at w digits (named ∷ of ∷ opening ∷ rest) colon [] (refl, (refl, (refl, bars)))) (r.end (Punctuation colon Colon)) nothing_measured;
        }

  -- ---- steps

  other_words : (at : ℕ) (ws : List (List ℕ)) (more : List Token) → AreQuiet ws → OtherStep (word_tokens at ws ++ more)
  other_words at [] more h = absurd h
  other_words at (w ∷ ws) more h = h.0

  quiet_words : (at : ℕ) (ws : List (List ℕ)) → AreQuiet ws → AllByRecursion QuietToken (word_tokens at ws)
  quiet_words at [] h = absurd h
  quiet_words at (w ∷ ws) h = words_quiet at (w ∷ ws) h.1

  pub step_passes : (tree : StepTree) → IsClearStep symbols tree → Passing (number ∷ []) (step_tokens tree)
  step_passes (Plain p ws) h = quiet_passes (word_tokens p ws) (quiet_words p ws h) (subst OtherStep (append-nil (word_tokens p ws)) (other_words p ws [] h))
  step_passes (WithPath p ws o path c) h =
      let brackets = bracket_tokens o (path_tokens (o + 1) path) c in
      let sign : QuietToken (Punctuation o Open) = record { colon = refl; number = refl } in
      let close : QuietToken (Punctuation c Close) = record { colon = refl; number = refl } in
      quiet_passes (word_tokens p ws ++ brackets)
      (all_join QuietToken (word_tokens p ws) brackets (quiet_words p ws h.0) (sign, all_join QuietToken (path_tokens (o + 1) path) (Punctuation c Close ∷ []) (path_quiet (o + 1) path h.1) (close, tt)))
      (other_words p ws brackets h.0)
  step_passes (WithTerms p ws o f c) h =
      let words = h.0 in
      let j = words.0 in
      let is = words.1 in
      subst (λ (ws : List (List ℕ)). Passing (number ∷ []) (word_tokens p ws ++ bracket_tokens o (tokens_of f) c)) (sym is)
      (instance_passes p (past (codes "instance") p + 1) o (decimal j) f c (quiet j words.2) h.1 h.2 h.3)

  pub number_passes : QuietWord w → Passes symbols [] number
  number_passes h = let q = quiet_word at w h in passes_by symbols [] number None None refl (formula_is_none at w digits [] tt refl) q.number tt

-- ---- what holds of every token of a step

module _ (P : Token → Type 0) (p : OfLiterals P) where
  words_all : (at : ℕ) (ws : List (List ℕ)) → AllByRecursion P (word_tokens at ws)
  words_all at [] = tt
  words_all at (w ∷ ws) = (p.word at w, words_all (past w at + 1) ws)

  path_all : (at : ℕ) (ns : List ℕ) → AllByRecursion P (path_tokens at ns)
  path_all at [] = tt
  path_all at (n ∷ []) = (p.word at (decimal n), tt)
  path_all at (n ∷ m ∷ ms) = (p.word at (decimal n), (p.comma (past (decimal n) at), path_all (past (decimal n) at + 1) (m ∷ ms)))

  brackets_all : (o : ℕ) (ts : List Token) (c : ℕ) → AllByRecursion P ts → AllByRecursion P (bracket_tokens o ts c)
  brackets_all o ts c h = (p.opening o, all_join P ts (Punctuation c Close ∷ []) h (p.closing c, tt))

  pub step_all : (tree : StepTree) → AllByRecursion P (step_tokens tree)
  step_all (Plain at ws) = words_all at ws
  step_all (WithTerms at ws o f c) = all_join P (word_tokens at ws) (bracket_tokens o (tokens_of f) c) (words_all at ws) (brackets_all o (tokens_of f) c (sides_all P p f))
  step_all (WithPath at ws o path c) = all_join P (word_tokens at ws) (bracket_tokens o (path_tokens (o + 1) path) c) (words_all at ws) (brackets_all o (path_tokens (o + 1) path) c (path_all (o + 1) path))

pub step_no_colon : (tree : StepTree) → HasNoColon (step_tokens tree)
step_no_colon tree = step_all (λ t. is_sign Colon t ≡ false) not_colon tree

not_stop : OfLiterals (λ t. is_sign Stop t ≡ false)
not_stop = record { word = λ at text. refl; opening = λ at. refl; closing = λ at. refl; comma = λ at. refl; minus = λ at. refl; equal = λ b at. by b at }
  where
    by : (b : Bool) (at : ℕ) → is_sign Stop (Punctuation at (equal_sign b)) ≡ false
    by true at = refl
    by false at = refl

pub step_no_stop : (tree : StepTree) → AllByRecursion (λ t. is_sign Stop t ≡ false) (step_tokens tree)
step_no_stop tree = step_all (λ t. is_sign Stop t ≡ false) not_stop tree

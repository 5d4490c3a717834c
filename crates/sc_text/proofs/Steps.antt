-- Where no limit is passed, a step that is read is answered as it is.
use Rattle.std.proofs.Common.{◌≡◌, ◌∙◌, sym, ap, subst, refl, ◌≤◌, Bool, true, false, List, [], ◌∷◌, ◌++◌, map, length, Ok}
use Rattle.std.specs.Prelude.{ℕ, zero, suc, codes, flat_map}
use Rattle.std.specs.List.{AllByRecursion}
use Rattle.sc_term.specs.declared.Term.{Term}
use Rattle.sc_term.specs.declared.Step.{Step}
use Rattle.sc_term.specs.declared.Step.TheVariants.{Input, Instance, Resolve, Para}
use Rattle.sc_term.specs.declared.Side.{Side}
use Rattle.sc_term.specs.declared.Side.TheVariants.{Left, Right}
use Rattle.sc_term.specs.declared.symbol.Symbol.{Symbol}
use Rattle.sc_input_rules.specs.declared.token.Token.{Token}
use Rattle.sc_input_rules.specs.declared.token.Token.TheVariants.{Word, Punctuation}
use Rattle.sc_input_rules.specs.declared.token.Sign.TheVariants.{Open, Close, Comma, Stop, Colon}
use Rattle.sc_input_rules.specs.Token.{is_sign, same_text}
use Rattle.sc_input_rules.specs.Reader.{Name, ◌>>=◌, unexpected, next_is, the_sign, the_word, a_word, separated}
use Rattle.sc_input_rules.specs.ClauseGrammar.{bracketed, side}
use Rattle.sc_input_rules.specs.Numbering.{terms_of}
use Rattle.sc_input_rules.specs.ProblemGrammar.{next_is_word}
use Rattle.sc_input_rules.specs.Syntax as syntax
use Rattle.sc_input_rules.proofs.Spelling.{Entry, tokens_of}
use Rattle.sc_input_rules.proofs.Taken.{Gives, both, same, sign_taken, word_taken}
use Rattle.sc_input_rules.proofs.SidesRead.{SidesRead, brackets_read}
use Rattle.sc_input_rules.proofs.NoStop.{OfLiterals, sides_all}
use Rattle.sc_input_rules.proofs.ClauseSpelling.{equal_sign}
use Rattle.sc_text_rules.specs.TextWords.{a_number, text_variable}
use Rattle.sc_text_rules.specs.TextPosition.{is_table_row}
use Rattle.sc_text_rules.specs.ProofGrammar.{text_terms, a_side, input_step, instance_step, resolve_step, of_line_and_literal, para_step}
use Rattle.sc_text_section.specs.Clipped.{clipped, clipped_term, clipped_step}
use Rattle.sc_text.proofs.TermsRead.{sides_read}
use Rattle.sc_text.proofs.SmallWords.{SmallVariable, sides_small}
use Rattle.sc_text.proofs.InFormulas.{instance_terms, instance_outside}
use Rattle.sc_text.proofs.Numbers.{InStep, Somewhere, step_further, one_token, number_at, number_read}
use Rattle.sc_text.proofs.Exact.{min_exact, sides_exact, numbers_exact}

-- ---- one word

pub record WordRead (ts left : List Token) : Type 0 where
  pub at : ℕ
  pub text : List ℕ
  pub tokens : ts ≡ Word at text ∷ left

pub the_word_read : (name : List ℕ) (ts : List Token) (u : Unit {0}) (left : List Token) → Gives (the_word name ts) u left → WordRead ts left
the_word_read name ts u left e =
    let b = both (a_word ts) _ u left e in
    by b.value b.left (same_text name b.value.text) (word_taken ts b.value b.left b.first).tokens b.second
  where
    by : (v : Name) (us : List Token) (b : Bool) → ts ≡ Word v.at v.text ∷ us → Gives (elim b [ true ↦ Ok (tt {0}, us) | false ↦ unexpected ts ]) u left → WordRead ts left
    by v us true t e = record { at = v.at; text = v.text; tokens = t ∙ ap (λ us. Word v.at v.text ∷ us) (same (tt {0}) u us left e).left }
    by v us false t e = absurd cc

side_word_read : (ts : List Token) (s : Side) (left : List Token) → Gives (a_side ts) s left → WordRead ts left
side_word_read ts s left e = by (next_is_word (codes "left") ts) e
  where
    by : (b : Bool) → Gives (elim b [ true ↦ the_word (codes "left") ts >>= λ w. Ok (Left, w.1) | false ↦ the_word (codes "right") ts >>= λ w. Ok (Right, w.1) ]) s left → WordRead ts left
    by true e =
        let b = both (the_word (codes "left") ts) _ s left e in
        subst (WordRead ts) (same Left s b.left left b.second).left (the_word_read (codes "left") ts b.value b.left b.first)
    by false e =
        let b = both (the_word (codes "right") ts) _ s left e in
        subst (WordRead ts) (same Right s b.left left b.second).left (the_word_read (codes "right") ts b.value b.left b.first)

-- ---- steps

module _ (symbols : List Symbol) (whole : List Token) (n : ℕ) (number : List ℕ) (m : ℕ) (name : List ℕ) (row : is_table_row (Word n number ∷ []) ≡ false) where
  -- these tokens stand within the step
  abbrev Within : List Token → Type 0
  Within ts = Somewhere symbols whole n number m name ts

  pub record StepRead (step : Step) (left : List Token) : Type 0 where
    pub exact : clipped_step step ≡ step
    pub behind : Within left

  step_ended : (made step : Step) (us left : List Token) → Gives (Ok (made, us)) step left → clipped_step made ≡ made → Within us → StepRead step left
  step_ended made step us left e h s =
      let z = same made step us left e in
      record { exact = subst (λ step. clipped_step step ≡ step) z.value h; behind = subst (λ ts. Within ts) z.left s }

  module _ (other : same_text (codes "instance") name ≡ false) where
    a_number_within : (ts : List Token) (k : ℕ) (left : List Token) → Within ts → Gives (a_number ts) k left → (k ≤ 4294967295) × Within left
    a_number_within ts k left s e = number_read symbols whole n number m name row other ts k left s e

    pub input_read : (ts : List Token) (step : Step) (left : List Token) → Within ts → Gives (input_step ts) step left → StepRead step left
    input_read ts step left s e =
        let k = both (a_number ts) _ step left e in
        let r = a_number_within ts k.value k.left s k.first in
        step_ended (Input k.value) step k.left left k.second (ap Input (min_exact k.value r.0)) r.1

    pub resolve_read : (ts : List Token) (step : Step) (left : List Token) → Within ts → Gives (resolve_step ts) step left → StepRead step left
    resolve_read ts step left s e =
        let j = both (a_number ts) _ step left e in
        let r = a_number_within ts j.value j.left s j.first in
        let a = both (a_number j.left) _ step left j.second in
        let r' = a_number_within j.left a.value a.left r.1 a.first in
        let k = both (a_number a.left) _ step left a.second in
        let q = a_number_within a.left k.value k.left r'.1 k.first in
        let b = both (a_number k.left) _ step left k.second in
        let q' = a_number_within k.left b.value b.left q.1 b.first in
        step_ended (Resolve j.value a.value k.value b.value) step b.left left b.second
        (λ i. Resolve (min_exact j.value r.0 i) (min_exact a.value r'.0 i) (min_exact k.value q.0 i) (min_exact b.value q'.0 i)) q'.1

    pub two_read : (make : ℕ → ℕ → Step) → ((j a : ℕ) → clipped_step (make j a) ≡ make (clipped j) (clipped a)) → (ts : List Token) (step : Step) (left : List Token) → Within ts → Gives (of_line_and_literal make ts) step left → StepRead step left
    two_read make h ts step left s e =
        let j = both (a_number ts) _ step left e in
        let r = a_number_within ts j.value j.left s j.first in
        let a = both (a_number j.left) _ step left j.second in
        let r' = a_number_within j.left a.value a.left r.1 a.first in
        step_ended (make j.value a.value) step a.left left a.second (h j.value a.value ∙ (λ i. make (min_exact j.value r.0 i) (min_exact a.value r'.0 i))) r'.1

    -- numbers with commas between them
    numbers_read : (k : ℕ) (ts : List Token) (ns : List ℕ) (left : List Token) → Within ts → Gives (separated Comma a_number k ts) ns left → AllByRecursion (λ n. n ≤ 4294967295) ns × Within left
    numbers_read zero ts ns left s e = absurd cc
    numbers_read (suc k) ts ns left s e =
        let b = both (a_number ts) _ ns left e in
        let r = a_number_within ts b.value b.left s b.first in
        by b.value b.left r.0 r.1 (next_is (is_sign Comma) b.left) b.second (numbers_read k)
      where
        by : (a : ℕ) (us : List Token) → a ≤ 4294967295 → Within us → (c : Bool)
            → Gives (elim c [ true ↦ the_sign Comma us >>= λ t. separated Comma a_number k t.1 >>= λ others. Ok (a ∷ others.0, others.1) | false ↦ Ok (a ∷ [], us) ]) ns left
            → ((ts : List Token) (ns : List ℕ) (left : List Token) → Within ts → Gives (separated Comma a_number k ts) ns left → AllByRecursion (λ n. n ≤ 4294967295) ns × Within left)
            → AllByRecursion (λ n. n ≤ 4294967295) ns × Within left
        by a us small s true e ih =
            let b = both (the_sign Comma us) _ ns left e in
            let c = sign_taken Comma us b.value b.left b.first in
            let d = both (separated Comma a_number k b.left) _ ns left b.second in
            let z = same (a ∷ d.value) ns d.left left d.second in
            let r = ih b.left d.value d.left (one_token symbols whole n number m name us b.left (Punctuation c.at Comma) c.tokens refl refl s) d.first in
            (subst (λ ns. AllByRecursion (λ n. n ≤ 4294967295) ns) z.value (small, r.0), subst (λ ts. Within ts) z.left r.1)
        by a us small s false e ih =
            let z = same (a ∷ []) ns us left e in
            (subst (λ ns. AllByRecursion (λ n. n ≤ 4294967295) ns) z.value (small, tt), subst (λ ts. Within ts) z.left s)

    opened_within : (ts us : List Token) (at : ℕ) → ts ≡ Punctuation at Open ∷ us → Within ts → Within us
    opened_within ts us at e s = one_token symbols whole n number m name ts us (Punctuation at Open) e refl refl s

    closed_within : (ts us : List Token) (at : ℕ) → ts ≡ Punctuation at Close ∷ us → Within ts → Within us
    closed_within ts us at e s = one_token symbols whole n number m name ts us (Punctuation at Close) e refl refl s

    path_read : (k : ℕ) (ts : List Token) (ns : List ℕ) (left : List Token) → Within ts → Gives (bracketed (separated Comma a_number k) ts) ns left → AllByRecursion (λ n. n ≤ 4294967295) ns × Within left
    path_read k ts ns left s e =
        let p = brackets_read (separated Comma a_number k) ts ns left e in
        let places = numbers_read k p.inner ns p.outer (opened_within ts p.inner p.opening p.opened s) p.within in
        (places.0, closed_within p.outer left p.closing p.closed places.1)

    pub para_read : (ts : List Token) (step : Step) (left : List Token) → Within ts → Gives (para_step ts) step left → StepRead step left
    para_read ts step left s e =
        let j = both (a_number ts) _ step left e in
        let r = a_number_within ts j.value j.left s j.first in
        let a = both (a_number j.left) _ step left j.second in
        let r' = a_number_within j.left a.value a.left r.1 a.first in
        let side = both (a_side a.left) _ step left a.second in
        let w = side_word_read a.left side.value side.left side.first in
        let behind = one_token symbols whole n number m name a.left side.left (Word w.at w.text) w.tokens refl refl r'.1 in
        let k = both (a_number side.left) _ step left side.second in
        let q = a_number_within side.left k.value k.left behind k.first in
        let b = both (a_number k.left) _ step left k.second in
        let q' = a_number_within k.left b.value b.left q.1 b.first in
        let path = both (bracketed (separated Comma a_number (length b.left)) b.left) _ step left b.second in
        let p = path_read (length b.left) b.left path.value path.left q'.1 path.first in
        step_ended (Para j.value a.value side.value k.value b.value path.value) step path.left left path.second
        (λ i. Para (min_exact j.value r.0 i) (min_exact a.value r'.0 i) side.value (min_exact k.value q.0 i) (min_exact b.value q'.0 i) (numbers_exact path.value p.0 i)) p.1

-- ---- instances

not_stop : OfLiterals (λ t. is_sign Stop t ≡ false)
not_stop = record { word = λ at text. refl; opening = λ at. refl; closing = λ at. refl; comma = λ at. refl; minus = λ at. refl; equal = λ b at. by b at }
  where
    by : (b : Bool) (at : ℕ) → is_sign Stop (Punctuation at (equal_sign b)) ≡ false
    by true at = refl
    by false at = refl

pub not_colon : OfLiterals (λ t. is_sign Colon t ≡ false)
not_colon = record { word = λ at text. refl; opening = λ at. refl; closing = λ at. refl; comma = λ at. refl; minus = λ at. refl; equal = λ b at. by b at }
  where
    by : (b : Bool) (at : ℕ) → is_sign Colon (Punctuation at (equal_sign b)) ≡ false
    by true at = refl
    by false at = refl

module _ (symbols : List Symbol) (whole : List Token) (n : ℕ) (number : List ℕ) (m : ℕ) (row : is_table_row (Word n number ∷ []) ≡ false) where
  abbrev InInstance : List Token → List Token → Type 0
  InInstance rest ts = InStep symbols whole n number m (codes "instance") rest ts

  record TermsRead (terms : List Term) (left : List Token) : Type 0 where
    exact : map clipped_term terms ≡ terms
    rest : List Token
    here : InInstance rest left

  some_terms : (k : ℕ) (line : List ℕ) (at closing : ℕ) (ts : List Token) (ss : List syntax.Side) (outer left : List Token) → InInstance (Word k line ∷ Punctuation at Open ∷ []) ts
      → SidesRead ts ss outer → outer ≡ Punctuation closing Close ∷ left → TermsRead (flat_map (terms_of text_variable symbols) ss) outer
  some_terms k line at closing ts ss outer left s r e =
      let tree = Entry r.head r.args r.comma r.others in
      let spelt = tokens_of (Entry r.head r.args r.comma r.others) in
      let stops = sides_all (λ t. is_sign Stop t ≡ false) not_stop tree in
      let colons = sides_all (λ t. is_sign Colon t ≡ false) not_colon tree in
      let here = subst (InInstance (Word k line ∷ Punctuation at Open ∷ [])) r.tokens s in
      let sentence = (subst (InInstance (Word k line ∷ Punctuation at Open ∷ [])) (ap (λ us. spelt ++ us) e) here).sentence in
      let words = instance_terms symbols whole n number m k line at spelt (Punctuation closing Close) left row stops colons sentence in
      let small = sides_small true tree [] (Punctuation closing Close) refl refl r.names words in
      record {
        exact = sides_exact symbols ss (subst (λ os. AllByRecursion SmallVariable os) (sym r.side) small);
        rest = (Word k line ∷ Punctuation at Open ∷ []) ++ spelt;
        here = step_further symbols whole n number m (codes "instance") (Word k line ∷ Punctuation at Open ∷ []) spelt outer stops colons here;
      }

  terms_read : (k : ℕ) (line : List ℕ) (at closing : ℕ) (ts : List Token) (terms : List Term) (outer left : List Token) → InInstance (Word k line ∷ Punctuation at Open ∷ []) ts
      → Gives (text_terms symbols ts) terms outer → outer ≡ Punctuation closing Close ∷ left → TermsRead terms outer
  terms_read k line at closing ts terms outer left s e closed = by (next_is (is_sign Close) ts) e
    where
      by : (b : Bool) → Gives (elim b [ true ↦ Ok ([], ts) | false ↦ separated Comma side (length ts) ts >>= λ ss. Ok (flat_map (terms_of text_variable symbols) ss.0, ss.1) ]) terms outer → TermsRead terms outer
      by true e =
          let z = same [] terms ts outer e in
          subst (λ terms. TermsRead terms outer) z.value (record { exact = refl; rest = Word k line ∷ Punctuation at Open ∷ []; here = subst (InInstance (Word k line ∷ Punctuation at Open ∷ [])) z.left s })
      by false e =
          let b = both (separated Comma side (length ts) ts) _ terms outer e in
          let z = same (flat_map (terms_of text_variable symbols) b.value) terms b.left outer b.second in
          let r = sides_read (length ts) ts b.value b.left b.first in
          subst (λ terms. TermsRead terms outer) z.value (some_terms k line at closing ts b.value outer left s (subst (SidesRead ts b.value) z.left r) closed)

  pub instance_read : (ts : List Token) (step : Step) (left : List Token) → InInstance [] ts → Gives (instance_step symbols ts) step left → StepRead symbols whole n number m (codes "instance") row step left
  instance_read ts step left s e =
      let j = both (a_number ts) _ step left e in
      let r = number_at symbols whole n number m (codes "instance") [] ts j.value j.left row (instance_outside n number m row) s j.first in
      let t = both _ _ step left j.second in
      let b = brackets_read (text_terms symbols) j.left t.value t.left t.first in
      let opened = step_further symbols whole n number m (codes "instance") (Word r.at r.text ∷ []) (Punctuation b.opening Open ∷ []) b.inner (refl, tt) (refl, tt)
      (subst (InInstance (Word r.at r.text ∷ [])) b.opened r.here) in
      let terms = terms_read r.at r.text b.opening b.closing b.inner t.value b.outer t.left opened b.within b.closed in
      let closed = one_token symbols whole n number m (codes "instance") b.outer t.left (Punctuation b.closing Close) b.closed refl refl (record { rest = terms.rest; here = terms.here }) in
      step_ended symbols whole n number m (codes "instance") row (Instance j.value t.value) step t.left left t.second (λ i. Instance (min_exact j.value r.small i) (terms.exact i)) closed

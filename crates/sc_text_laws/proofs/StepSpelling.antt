-- The tokens of the text of a step are those of a tree, which is read as that step.
use Rattle.std.proofs.Common.{◌≡◌, ◌≢◌, ◌∙◌, sym, ap, subst, refl, ℕ, ◌+◌, ◌≤◌, Bool, true, false, List, [], ◌∷◌, ◌++◌, length, map, append_assoc, Ok, arith}
use Rattle.std.specs.Prelude.{codes, decimal, ◌&&◌}
use Rattle.std.specs.List.{AllByRecursion, list_all}
use Rattle.std.proofs.lemmas.List.{length-append}
use Rattle.sc_term.specs.declared.Term.{Term}
use Rattle.sc_term.specs.Term.{term_weight, term_depth}
use Rattle.sc_term.specs.declared.Side.{Side}
use Rattle.sc_term.specs.declared.Side.TheVariants.{Left, Right}
use Rattle.sc_term.specs.declared.Step.{Step}
use Rattle.sc_term.specs.declared.Step.TheVariants.{Input, Instance, Resolve, Merge, Para, Flip}
use Rattle.sc_term.specs.declared.symbol.Symbol.{Symbol}
use Rattle.sc_input_rules.specs.declared.token.Token.{Token}
use Rattle.sc_input_rules.specs.declared.token.Token.TheVariants.{Word, Punctuation}
use Rattle.sc_input_rules.specs.declared.token.Sign.TheVariants.{Open, Close, Comma}
use Rattle.sc_input_rules.specs.Token.{same_text}
use Rattle.sc_input_rules.specs.Tokens.{is_digit}
use Rattle.sc_text_laws.proofs.KnownNames.{KnownTerm, in_range}
use Rattle.sc_input_rules.specs.Reader.{Read, ◌>>=◌, the_sign, separated}
use Rattle.sc_input_rules.specs.ClauseGrammar.{bracketed}
use Rattle.sc_input_rules.proofs.Spelling.{Sides, Empty, Entry, tokens_of, occurrences, AreNames}
use Rattle.sc_input_rules.proofs.Taken.{Gives}
use Rattle.sc_input_rules.proofs.Terms.{terms}
use Rattle.sc_text_rules.specs.ClauseText.{joined_by, term_text}
use Rattle.sc_text_rules.specs.ProofText.{words, side_word, step_words}
use Rattle.sc_text_rules.specs.TextWords.{is_longer_or_above, text_variable, a_number}
use Rattle.sc_text_rules.specs.ProofGrammar.{text_terms, a_side, a_step}
use Rattle.sc_text_laws.specs.Printable.{is_name, AreNamed, IsPrintableTerm, IsShort, AreShort, IsPrintableStep}
use Rattle.sc_text_laws.proofs.WordTokens.{tokens_at, Breaks, past, space_token, open_token, close_token}
use Rattle.sc_text_laws.proofs.WordRows.{AreWords, word_tokens, words_end, words_spelt, path_tokens, path_end, path_spelt, fits}
use Rattle.sc_text_print.proofs.LineText.{joined_by-append}
use Rattle.sc_text_laws.proofs.NumberTexts.{number_is_name}
use Rattle.sc_text_laws.proofs.NumberBack.{then_number, path_back, path-length, terms_back}
use Rattle.sc_text_laws.proofs.TermSpelling.{MayStand, row_spelt}

-- words; words and terms in parentheses; words and a path
pub data StepTree : Type 0 where
  Plain : ℕ → List (List ℕ) → StepTree
  WithTerms : ℕ → List (List ℕ) → ℕ → Sides → ℕ → StepTree
  WithPath : ℕ → List (List ℕ) → ℕ → List ℕ → ℕ → StepTree

abbrev pub bracket_tokens : ℕ → List Token → ℕ → List Token
bracket_tokens o inside c = Punctuation o Open ∷ (inside ++ Punctuation c Close ∷ [])

abbrev pub step_tokens : StepTree → List Token
step_tokens (Plain at ws) = word_tokens at ws
step_tokens (WithTerms at ws o f c) = word_tokens at ws ++ bracket_tokens o (tokens_of f) c
step_tokens (WithPath at ws o path c) = word_tokens at ws ++ bracket_tokens o (path_tokens (o + 1) path) c

-- no number is out of range
abbrev pub QuietWord : List ℕ → Type 0
QuietWord w = (list_all is_digit w && is_longer_or_above 4294967295 w) ≡ false

-- a step of another name than `instance`
abbrev pub AreQuiet : List (List ℕ) → Type 0
AreQuiet [] = ⊥
AreQuiet (w ∷ ws) = (same_text (codes "instance") w ≡ false) × AllByRecursion QuietWord (w ∷ ws)

abbrev pub IsLight : Term → Type 0
IsLight t = (term_weight t ≤ 10000) × (term_depth t ≤ 256)

abbrev pub AreInstanceWords : List (List ℕ) → Type 0
AreInstanceWords ws = (j : ℕ) × (ws ≡ codes "instance" ∷ decimal j ∷ []) × IsShort j

-- what keeps the tokens of a step within the limits
abbrev pub IsClearStep : List Symbol → StepTree → Type 0
IsClearStep symbols (Plain at ws) = AreQuiet ws
IsClearStep symbols (WithTerms at ws o f c) = AreInstanceWords ws × AllByRecursion (KnownTerm symbols) (occurrences f) × AreNames f × AllByRecursion IsLight (terms text_variable symbols f)
IsClearStep symbols (WithPath at ws o path c) = AreQuiet ws × AreShort path

pub record StepSpelt (symbols : List Symbol) (step : Step) (at : ℕ) (rest : List ℕ) : Type 0 where
  pub tree : StepTree
  pub next : ℕ
  pub tokens : tokens_at at (words (step_words symbols step) ++ rest) ≡ step_tokens tree ++ tokens_at next rest
  pub read : (left : List Token) → Gives (a_step symbols (step_tokens tree ++ left)) step left
  pub clear : IsClearStep symbols tree

-- ---- words alone

abbrev place : ℕ → List ℕ → ℕ
place at w = past w at + 1

and_false : (a b : Bool) → b ≡ false → (a && b) ≡ false
and_false true b e = e
and_false false b e = refl

pub quiet : (n : ℕ) → IsShort n → QuietWord (decimal n)
quiet n h = and_false (list_all is_digit (decimal n)) (is_longer_or_above 4294967295 (decimal n)) (in_range 4294967295 n (omega arith) h)

named : (n : ℕ) → IsShort n → is_name (decimal n) ≡ true
named n h = number_is_name n (fits n h)

input_spelt : (symbols : List Symbol) (k at : ℕ) (rest : List ℕ) → IsShort k → Breaks rest → StepSpelt symbols (Input k) at rest
input_spelt symbols k at rest h breaks =
    let ws = codes "input" ∷ decimal k ∷ [] in
    record {
      tree = Plain at (codes "input" ∷ decimal k ∷ []);
      next = words_end at ws;
      tokens = words_spelt at (codes "input") (decimal k ∷ []) rest (refl, (named k h, tt)) breaks;
      read = λ left. then_number (λ k. Ok (Input k.0, k.1)) (place at (codes "input")) k left (fits k h);
      clear = (refl, (refl, (quiet k h, tt)));
    }

-- a line and a literal
two_back : (step : ℕ → ℕ → Step) (p q j a : ℕ) (left : List Token) → IsShort j → IsShort a
    → Gives (a_number (Word p (decimal j) ∷ Word q (decimal a) ∷ left) >>= λ j. a_number j.1 >>= λ a. Ok (step j.0 a.0, a.1)) (step j a) left
two_back step p q j a left hj ha =
    then_number (λ j. a_number j.1 >>= λ a. Ok (step j.0 a.0, a.1)) p j (Word q (decimal a) ∷ left) (fits j hj)
    ∙ then_number (λ a. Ok (step j a.0, a.1)) q a left (fits a ha)

merge_spelt : (symbols : List Symbol) (j a at : ℕ) (rest : List ℕ) → AreShort (j ∷ a ∷ []) → Breaks rest → StepSpelt symbols (Merge j a) at rest
merge_spelt symbols j a at rest h breaks =
    let ws = codes "merge" ∷ decimal j ∷ decimal a ∷ [] in
    let p = place at (codes "merge") in
    record {
      tree = Plain at (codes "merge" ∷ decimal j ∷ decimal a ∷ []);
      next = words_end at ws;
      tokens = words_spelt at (codes "merge") (decimal j ∷ decimal a ∷ []) rest (refl, (named j h.0, (named a h.1.0, tt))) breaks;
      read = λ left. two_back (λ j a. Merge j a) p (place p (decimal j)) j a left h.0 h.1.0;
      clear = (refl, (refl, (quiet j h.0, (quiet a h.1.0, tt))));
    }

flip_spelt : (symbols : List Symbol) (j a at : ℕ) (rest : List ℕ) → AreShort (j ∷ a ∷ []) → Breaks rest → StepSpelt symbols (Flip j a) at rest
flip_spelt symbols j a at rest h breaks =
    let ws = codes "flip" ∷ decimal j ∷ decimal a ∷ [] in
    let p = place at (codes "flip") in
    record {
      tree = Plain at (codes "flip" ∷ decimal j ∷ decimal a ∷ []);
      next = words_end at ws;
      tokens = words_spelt at (codes "flip") (decimal j ∷ decimal a ∷ []) rest (refl, (named j h.0, (named a h.1.0, tt))) breaks;
      read = λ left. two_back (λ j a. Flip j a) p (place p (decimal j)) j a left h.0 h.1.0;
      clear = (refl, (refl, (quiet j h.0, (quiet a h.1.0, tt))));
    }

resolve_spelt : (symbols : List Symbol) (j a k b at : ℕ) (rest : List ℕ) → AreShort (j ∷ a ∷ k ∷ b ∷ []) → Breaks rest → StepSpelt symbols (Resolve j a k b) at rest
resolve_spelt symbols j a k b at rest h breaks =
    let ws = codes "resolve" ∷ decimal j ∷ decimal a ∷ decimal k ∷ decimal b ∷ [] in
    let p = place at (codes "resolve") in
    let q = place p (decimal j) in
    let r = place q (decimal a) in
    let s = place r (decimal k) in
    record {
      tree = Plain at (codes "resolve" ∷ decimal j ∷ decimal a ∷ decimal k ∷ decimal b ∷ []);
      next = words_end at ws;
      tokens =
          words_spelt at (codes "resolve") (decimal j ∷ decimal a ∷ decimal k ∷ decimal b ∷ []) rest
          (refl, (named j h.0, (named a h.1.0, (named k h.1.1.0, (named b h.1.1.1.0, tt))))) breaks;
      read = λ left.
          then_number (λ j. a_number j.1 >>= λ a. a_number a.1 >>= λ k. a_number k.1 >>= λ b. Ok (Resolve j.0 a.0 k.0 b.0, b.1)) p j (Word q (decimal a) ∷ Word r (decimal k) ∷ Word s (decimal b) ∷ left) (fits j h.0)
          ∙ then_number (λ a. a_number a.1 >>= λ k. a_number k.1 >>= λ b. Ok (Resolve j a.0 k.0 b.0, b.1)) q a (Word r (decimal k) ∷ Word s (decimal b) ∷ left) (fits a h.1.0)
          ∙ then_number (λ k. a_number k.1 >>= λ b. Ok (Resolve j a k.0 b.0, b.1)) r k (Word s (decimal b) ∷ left) (fits k h.1.1.0)
          ∙ then_number (λ b. Ok (Resolve j a k b.0, b.1)) s b left (fits b h.1.1.1.0);
      clear = (refl, (refl, (quiet j h.0, (quiet a h.1.0, (quiet k h.1.1.0, (quiet b h.1.1.1.0, tt))))));
    }

-- ---- words and parentheses

-- what stands within the parentheses is spelt by these tokens
in_brackets_spelt : (at next : ℕ) (inside rest : List ℕ) (ts : List Token) → tokens_at (at + 1) (inside ++ (41 ∷ rest)) ≡ ts ++ tokens_at next (41 ∷ rest)
    → tokens_at at ((codes "(" ++ inside ++ codes ")") ++ rest) ≡ bracket_tokens at ts next ++ tokens_at (next + 1) rest
in_brackets_spelt at next inside rest ts e =
    ap (λ (us : List ℕ). tokens_at at (40 ∷ us)) (append_assoc inside (codes ")") rest)
    ∙ open_token at (inside ++ (41 ∷ rest))
    ∙ ap (λ (us : List Token). Punctuation at Open ∷ us) (e ∙ ap (λ (us : List Token). ts ++ us) (close_token next rest) ∙ sym (append_assoc ts (Punctuation next Close ∷ []) (tokens_at (next + 1) rest)))

-- words, and behind them something in parentheses
words_and_brackets : (at : ℕ) (w : List ℕ) (ws : List (List ℕ)) (inside rest : List ℕ) (next : ℕ) (ts : List Token) → AreWords (w ∷ ws)
    → tokens_at (words_end at (w ∷ ws) + 1 + 1) (inside ++ (41 ∷ rest)) ≡ ts ++ tokens_at next (41 ∷ rest)
    → tokens_at at (words (w ∷ ws ++ (codes "(" ++ inside ++ codes ")") ∷ []) ++ rest)
    ≡ (word_tokens at (w ∷ ws) ++ bracket_tokens (words_end at (w ∷ ws) + 1) ts next) ++ tokens_at (next + 1) rest
words_and_brackets at w ws inside rest next ts h e =
    let brackets = codes "(" ++ inside ++ codes ")" in
    let front = words (w ∷ ws) in
    let p = words_end at (w ∷ ws) in
    let tail = tokens_at (next + 1) rest in
    ap (λ (us : List ℕ). tokens_at at (us ++ rest)) (joined_by-append (codes " ") w ws brackets [])
    ∙ ap (tokens_at at) (append_assoc front (32 ∷ brackets) rest)
    ∙ words_spelt at w ws (32 ∷ (brackets ++ rest)) h refl
    ∙ ap (λ (us : List Token). word_tokens at (w ∷ ws) ++ us) (space_token p (brackets ++ rest) ∙ in_brackets_spelt (p + 1) next inside rest ts e)
    ∙ sym (append_assoc (word_tokens at (w ∷ ws)) (bracket_tokens (p + 1) ts next) tail)

-- ---- terms

all_stand : (symbols : List Symbol) (ts : List Term) → AllByRecursion (IsPrintableTerm symbols) ts → AllByRecursion (MayStand symbols) ts
all_stand symbols [] h = tt
all_stand symbols (t ∷ ts) h = let p = h.0 in (record { over = p.over; narrow = p.narrow }, all_stand symbols ts h.1)

all_light : (symbols : List Symbol) (ts : List Term) → AllByRecursion (IsPrintableTerm symbols) ts → AllByRecursion IsLight ts
all_light symbols [] h = tt
all_light symbols (t ∷ ts) h = let p = h.0 in ((p.light, p.shallow), all_light symbols ts h.1)

-- none or more terms, before a closing parenthesis
record InsideSpelt (symbols : List Symbol) (ts : List Term) (at : ℕ) (rest : List ℕ) : Type 0 where
  sides : Sides
  next : ℕ
  tokens : tokens_at at (joined_by (codes ",") (map (term_text symbols) ts) ++ (41 ∷ rest)) ≡ tokens_of sides ++ tokens_at next (41 ∷ rest)
  names : AreNames sides
  terms : terms text_variable symbols sides ≡ ts
  known : AllByRecursion (KnownTerm symbols) (occurrences sides)

inside_spelt : (symbols : List Symbol) → AreNamed symbols → (ts : List Term) (at : ℕ) (rest : List ℕ) → AllByRecursion (MayStand symbols) ts → InsideSpelt symbols ts at rest
inside_spelt symbols h [] at rest may = record { sides = Empty; next = at; tokens = refl; names = tt; terms = refl; known = tt }
inside_spelt symbols h (t ∷ ts) at rest may =
    let m = row_spelt symbols h t ts at (41 ∷ rest) may refl in
    record { sides = Entry m.head m.args m.comma m.others; next = m.next; tokens = m.tokens; names = m.names; terms = m.terms; known = m.known }

after_terms : ℕ → Read (List Term) → Read Step
after_terms j r = (r >>= λ value. the_sign Close value.1 >>= λ close. Ok (value.0, close.1)) >>= λ terms. Ok (Instance j terms.0, terms.1)

instance_spelt : (symbols : List Symbol) → AreNamed symbols → (j : ℕ) (ts : List Term) (at : ℕ) (rest : List ℕ) → IsShort j → AllByRecursion (IsPrintableTerm symbols) ts → StepSpelt symbols (Instance j ts) at rest
unfolding after_terms
instance_spelt symbols h j ts at rest short may =
    let p = place at (codes "instance") in
    let o = past (decimal j) p + 1 in
    let m = inside_spelt symbols h ts (o + 1) rest (all_stand symbols ts may) in
    record {
      tree = WithTerms at (codes "instance" ∷ decimal j ∷ []) o m.sides m.next;
      next = m.next + 1;
      tokens = words_and_brackets at (codes "instance") (decimal j ∷ []) (joined_by (codes ",") (map (term_text symbols) ts)) rest m.next (tokens_of m.sides) (refl, (named j short, tt)) m.tokens;
      read = λ left.
          let close = Punctuation m.next Close ∷ left in
          then_number (λ j. bracketed (text_terms symbols) j.1 >>= λ terms. Ok (Instance j.0 terms.0, terms.1)) p j (bracket_tokens o (tokens_of m.sides) m.next ++ left) (fits j short)
          ∙ ap (λ (us : List Token). after_terms j (text_terms symbols us)) (append_assoc (tokens_of m.sides) (Punctuation m.next Close ∷ []) left)
          ∙ ap (after_terms j) (terms_back symbols m.sides ts m.next left m.names m.terms);
      clear = ((j, refl, short), m.known, m.names, subst (AllByRecursion IsLight) (sym m.terms) (all_light symbols ts may));
    }

-- ---- paths

side_is_name : (side : Side) → is_name (side_word side) ≡ true
side_is_name Left = refl
side_is_name Right = refl

side_is_quiet : (side : Side) → QuietWord (side_word side)
side_is_quiet Left = refl
side_is_quiet Right = refl

side_back : (side : Side) (at : ℕ) (ts : List Token) → Gives (a_side (Word at (side_word side) ∷ ts)) side ts
side_back Left at ts = refl
side_back Right at ts = refl

after_side : ℕ → ℕ → Read Side → Read Step
after_side j a r = r >>= λ side. a_number side.1 >>= λ k. a_number k.1 >>= λ b. bracketed (separated Comma a_number (length b.1)) b.1 >>= λ path. Ok (Para j a side.0 k.0 b.0 path.0, path.1)

after_path : ℕ → ℕ → Side → ℕ → ℕ → Read (List ℕ) → Read Step
after_path j a side k b r = (r >>= λ value. the_sign Close value.1 >>= λ close. Ok (value.0, close.1)) >>= λ path. Ok (Para j a side k b path.0, path.1)

-- a path is read, whatever bound above the number of its tokens
in_path_back : (j a : ℕ) (side : Side) (k b o n : ℕ) (ns : List ℕ) (c : ℕ) (left : List Token) → AreShort (n ∷ ns)
    → Gives (after_path j a side k b (separated Comma a_number (length (bracket_tokens o (path_tokens (o + 1) (n ∷ ns)) c ++ left)) ((path_tokens (o + 1) (n ∷ ns) ++ Punctuation c Close ∷ []) ++ left))) (Para j a side k b (n ∷ ns)) left
unfolding after_path
in_path_back j a side k b o n ns c left h =
    let path = path_tokens (o + 1) (n ∷ ns) in
    let bound = length (bracket_tokens o path c ++ left) in
    let one = length-append (path ++ Punctuation c Close ∷ []) left in
    let two = length-append path (Punctuation c Close ∷ []) in
    let some = path-length (o + 1) (n ∷ ns) in
    ap (λ (us : List Token). after_path j a side k b (separated Comma a_number bound us)) (append_assoc path (Punctuation c Close ∷ []) left)
    ∙ ap (after_path j a side k b) (path_back bound (o + 1) n ns c left (omega arith) h)

para_spelt : (symbols : List Symbol) (j a : ℕ) (side : Side) (k b n : ℕ) (ns : List ℕ) (at : ℕ) (rest : List ℕ) → AreShort (j ∷ a ∷ k ∷ b ∷ []) → AreShort (n ∷ ns) → StepSpelt symbols (Para j a side k b (n ∷ ns)) at rest
unfolding after_side after_path
para_spelt symbols j a side k b n ns at rest h path =
    let ws = decimal j ∷ decimal a ∷ side_word side ∷ decimal k ∷ decimal b ∷ [] in
    let p = place at (codes "para") in
    let q = place p (decimal j) in
    let r = place q (decimal a) in
    let s = place r (side_word side) in
    let u = place s (decimal k) in
    let o = words_end at (codes "para" ∷ ws) + 1 in
    let c = path_end (o + 1) (n ∷ ns) in
    record {
      tree = WithPath at (codes "para" ∷ decimal j ∷ decimal a ∷ side_word side ∷ decimal k ∷ decimal b ∷ []) o (n ∷ ns) c;
      next = c + 1;
      tokens =
          words_and_brackets at (codes "para") ws (joined_by (codes ",") (map decimal (n ∷ ns))) rest c (path_tokens (o + 1) (n ∷ ns))
          (refl, (named j h.0, (named a h.1.0, (side_is_name side, (named k h.1.1.0, (named b h.1.1.1.0, tt))))))
          (path_spelt (o + 1) n ns (41 ∷ rest) path refl);
      read = λ left.
          let brackets = bracket_tokens o (path_tokens (o + 1) (n ∷ ns)) c ++ left in
          let behind_side = Word s (decimal k) ∷ Word u (decimal b) ∷ brackets in
          then_number (λ j. a_number j.1 >>= λ a. after_side j.0 a.0 (a_side a.1)) p j (Word q (decimal a) ∷ Word r (side_word side) ∷ behind_side) (fits j h.0)
          ∙ then_number (λ a. after_side j a.0 (a_side a.1)) q a (Word r (side_word side) ∷ behind_side) (fits a h.1.0)
          ∙ ap (after_side j a) (side_back side r behind_side)
          ∙ then_number (λ k. a_number k.1 >>= λ b. bracketed (separated Comma a_number (length b.1)) b.1 >>= λ path. Ok (Para j a side k.0 b.0 path.0, path.1)) s k (Word u (decimal b) ∷ brackets) (fits k h.1.1.0)
          ∙ then_number (λ b. bracketed (separated Comma a_number (length b.1)) b.1 >>= λ path. Ok (Para j a side k b.0 path.0, path.1)) u b brackets (fits b h.1.1.1.0)
          ∙ in_path_back j a side k b o n ns c left path;
      clear = ((refl, (refl, (quiet j h.0, (quiet a h.1.0, (side_is_quiet side, (quiet k h.1.1.0, (quiet b h.1.1.1.0, tt))))))), path);
    }

some_path : (symbols : List Symbol) (j a : ℕ) (side : Side) (k b : ℕ) (path : List ℕ) (at : ℕ) (rest : List ℕ) → AreShort (j ∷ a ∷ k ∷ b ∷ []) → AreShort path → path ≢ [] → StepSpelt symbols (Para j a side k b path) at rest
some_path symbols j a side k b [] at rest h short some = absurd (some refl)
some_path symbols j a side k b (n ∷ ns) at rest h short some = para_spelt symbols j a side k b n ns at rest h short

-- ---- steps

pub step_spelt : (symbols : List Symbol) → AreNamed symbols → (step : Step) (at : ℕ) (rest : List ℕ) → IsPrintableStep symbols step → Breaks rest → StepSpelt symbols step at rest
step_spelt symbols h (Input k) at rest may breaks = input_spelt symbols k at rest may breaks
step_spelt symbols h (Instance j terms) at rest may breaks = instance_spelt symbols h j terms at rest may.0 may.1
step_spelt symbols h (Resolve j a k b) at rest may breaks = resolve_spelt symbols j a k b at rest may breaks
step_spelt symbols h (Merge j a) at rest may breaks = merge_spelt symbols j a at rest may breaks
step_spelt symbols h (Para j a side k b path) at rest may breaks = some_path symbols j a side k b path at rest may.0 may.1 may.2
step_spelt symbols h (Flip j a) at rest may breaks = flip_spelt symbols j a at rest may breaks

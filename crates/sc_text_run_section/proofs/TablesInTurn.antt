-- What reading tables gives, by what reading the first gives.
use Rattle.std.proofs.Common.{◌≡◌, ◌∙◌, sym, ap, subst, refl, ℕ, zero, suc, ◌+◌, ◌≤◌, List, [], ◌∷◌, ◌++◌, append-nil, length, take, drop, slice_get, Some, Result, Ok, Err, arith}
use Rattle.std.specs.List.{AllZip}
use Rattle.std.proofs.Math.ListN.{drop_of_length-le}
use Rattle.std.proofs.lemmas.List.{take_all, length-drop, length-take}
use Rattle.sc_term.specs.declared.symbol.Symbol.{Symbol}
use Rattle.sc_interp.proofs.Symbols.{one_behind as symbol_behind}
use Rattle.sc_input_rules.specs.declared.token.Token.{Token}
use Rattle.sc_input_rules.specs.Reader.{Read, ◌>>=◌}
use Rattle.sc_input_scan.specs.declared.stop.Stop.{Stop}
use Rattle.sc_input_scan.specs.Told.{Fails, Gives}
use Rattle.sc_input_grammar.specs.Behind.{behind}
use Rattle.sc_input_grammar.proofs.Lists.{one_behind, gives_failure_within}
use Rattle.sc_text_run_rules.specs.VersionGrammar.{a_table, tables}
use Rattle.sc_text_run_section.specs.Entries.{AreEntries, AreEntriesOf}

here : (ss : List Symbol) (i : ℕ) (s : Symbol) → slice_get ss i ≡ Some s → drop i ss ≡ s ∷ drop (suc i) ss
here [] i s e = absurd cc
here (t ∷ ss) zero s e = let is : t ≡ s = cc in ap (λ (x : Symbol). x ∷ ss) is
here (t ∷ ss) (suc i) s e = here ss i s e

module _ (size : ℕ) (ss : List Symbol) (i : ℕ) (s : Symbol) (front : List (List ℕ)) (tokens : List Token) (at : slice_get ss i ≡ Some s) where
  split : drop i ss ≡ s ∷ drop (i + 1) ss
  split = let next : suc i ≡ i + 1 = omega arith in here ss i s at ∙ ap (λ (k : ℕ). s ∷ drop k ss) next

  abbrev after_table : List ℕ × List Token → Read (List (List ℕ))
  after_table entries = tables size (drop (i + 1) ss) entries.1 >>= λ others. Ok (entries.0 ∷ others.0, others.1)

  pub table_on : (new : List (List ℕ)) (entries : List ℕ) (after : List Token) → new ≡ front ++ entries ∷ [] → a_table size s tokens ≡ Ok (entries, after)
      → behind new (tables size (drop (i + 1) ss) after) ≡ behind front (tables size (drop i ss) tokens)
  table_on new entries after push e =
      one_behind front new entries (tables size (drop (i + 1) ss) after) push
      ∙ sym (ap (λ (ts : List Symbol). behind front (tables size ts tokens)) split ∙ ap (λ (r : Read (List ℕ)). behind front (r >>= after_table)) e)

  pub table_fail : {X : Type 0} (view : X → List (List ℕ) × List Token) (result : Result X Stop) (e : Stop) (whole : Read (List (List ℕ))) → result ≡ Err e → Fails e (a_table size s tokens)
      → behind front (tables size (drop i ss) tokens) ≡ whole → Gives view result whole
  table_fail view result e whole is h all =
      let step : behind front (a_table size s tokens >>= after_table) ≡ whole = sym (ap (λ (ts : List Symbol). behind front (tables size ts tokens)) split) ∙ all in
      subst (Gives view result) step (gives_failure_within view result e (a_table size s tokens) after_table (λ r. Ok (front ++ r.0, r.1)) is h)

pub tables_end : (size : ℕ) (ss : List Symbol) (i : ℕ) (front : List (List ℕ)) (tokens : List Token) → length ss ≤ i → behind front (tables size (drop i ss) tokens) ≡ Ok (front, tokens)
tables_end size ss i front tokens h =
    ap (λ (ts : List Symbol). behind front (tables size ts tokens)) (drop_of_length-le ss h) ∙ ap (λ (xs : List (List ℕ)). Ok (xs, tokens)) (append-nil front)

-- ---- entries of the symbols so far

all_zip_behind : {A B : Type 0} (R : A → B → Type 0) (xs : List A) (ys : List B) (x : A) (y : B) → AllZip R xs ys → R x y → AllZip R (xs ++ x ∷ []) (ys ++ y ∷ [])
all_zip_behind R [] [] x y h r = (r, tt)
all_zip_behind R [] (b ∷ ys) x y h r = absurd h
all_zip_behind R (a ∷ xs) [] x y h r = absurd h
all_zip_behind R (a ∷ xs) (b ∷ ys) x y h r = (h.0, all_zip_behind R xs ys x y h.1 r)

pub entries_more : (size : ℕ) (ss : List Symbol) (i : ℕ) (s : Symbol) (front new : List (List ℕ)) (entries : List ℕ) → 1 ≤ i → slice_get ss i ≡ Some s → new ≡ front ++ entries ∷ []
    → AreEntriesOf size (drop 1 (take i ss)) front → AreEntries size s entries → AreEntriesOf size (drop 1 (take (i + 1) ss)) new
entries_more size ss i s front new entries low at push h r =
    subst (λ (rows : List (List ℕ)). AreEntriesOf size (drop 1 (take (i + 1) ss)) rows) (sym push)
    (subst (λ (ts : List Symbol). AreEntriesOf size ts (front ++ entries ∷ [])) (sym (symbol_behind ss i s low at))
    (all_zip_behind (AreEntries size) (drop 1 (take i ss)) front s entries h r))

pub entries_all : (size : ℕ) (ss : List Symbol) (i : ℕ) (rows : List (List ℕ)) → length ss ≤ i → AreEntriesOf size (drop 1 (take i ss)) rows → AreEntriesOf size (drop 1 ss) rows
entries_all size ss i rows h r = subst (λ (ts : List Symbol). AreEntriesOf size (drop 1 ts) rows) (take_all i ss h) r

pub none_yet : (size : ℕ) (ss : List Symbol) (rows : List (List ℕ)) → rows ≡ [] → AreEntriesOf size (drop 1 (take 1 ss)) rows
none_yet size [] rows e = subst (λ (rows : List (List ℕ)). AreEntriesOf size [] rows) (sym e) tt
none_yet size (s ∷ ss) rows e = subst (λ (rows : List (List ℕ)). AreEntriesOf size [] rows) (sym e) tt

zip_length : {A B : Type 0} (R : A → B → Type 0) (xs : List A) (ys : List B) → AllZip R xs ys → length ys ≡ length xs
zip_length R [] [] h = refl
zip_length R [] (b ∷ ys) h = absurd h
zip_length R (a ∷ xs) [] h = absurd h
zip_length R (a ∷ xs) (b ∷ ys) h = ap suc (zip_length R xs ys h.1)

shorter : {A : Type 0} (xs : List A) (n k : ℕ) → length (drop n (take k xs)) ≤ length xs
shorter xs n k = omega (arith, length-drop n (take k xs), length-take k xs)

pub as_many : (size : ℕ) (ss : List Symbol) (i : ℕ) (rows : List (List ℕ)) → AreEntriesOf size (drop 1 (take i ss)) rows → length rows ≤ length ss
as_many size ss i rows h = omega (arith, zip_length (AreEntries size) (drop 1 (take i ss)) rows h, shorter ss 1 i)

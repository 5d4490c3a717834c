-- A problem that is read, where no limit is passed, is one.
use Rattle.std.proofs.Common.{◌≡◌, ◌∙◌, sym, ap, subst, refl, ℕ, ◌≤◌, Bool, true, false, List, [], ◌∷◌, map, length, cond, Option, Some, None, arith}
use Rattle.std.specs.Prelude.{not, find, zip, option_map, option_and_then, unwrap_or, nat_lt, slice_get}
use Rattle.std.specs.List.{AllByRecursion}
use Rattle.std.proofs.lemmas.List.{length-map}
use Rattle.sc_term.specs.declared.SymId.{SymId}
use Rattle.sc_term.specs.declared.Clause.{Clause}
use Rattle.sc_term.specs.declared.symbol.Symbol.{Symbol}
use Rattle.sc_term.specs.Symbol.{equality, IsSignature}
use Rattle.sc_input_rules.specs.declared.settings.Home.{Home}
use Rattle.sc_input_rules.specs.declared.settings.Home.TheVariants.{Usable, Sos, Passive, Demodulators}
use Rattle.sc_input_rules.specs.declared.token.Token.{Token}
use Rattle.sc_input_rules.specs.Token.{at_of}
use Rattle.sc_input_rules.specs.Syntax.{WrittenClause}
use Rattle.sc_input_rules.specs.Numbering.{Found, symbol_order, symbols_of, symbol_number, clause_of}
use Rattle.sc_input_rules.specs.Demodulator.{is_demodulator}
use Rattle.sc_input_rules.specs.ClauseLimits.{first_at}
use Rattle.sc_input_rules.specs.ProblemLimits.{written, is_bad_demodulator}
use Rattle.sc_input_rules.specs.ProblemGrammar.{Item}
use Rattle.sc_input_rules.specs.Problem.{stated}
use Rattle.sc_input_rules.specs.WellFormed.{IsInput, FitsHome, IsProblem}
use Rattle.sc_input_rules.proofs.ClauseSpelling.{ClauseTree, clause_tokens, clause_written}
use Rattle.sc_input_rules.proofs.ClausesBack.{written_back}
use Rattle.sc_input_rules.proofs.Standing.{AreWhole}
use Rattle.sc_input_rules.proofs.ListedRead.{IsAdmitted, has_tokens}
use Rattle.sc_input_rules.proofs.ItemsRead.{Homed, as_tokens, as_written}
use Rattle.sc_input_rules.proofs.ProblemRead.{AreSound}
use Rattle.sc_input_rules.proofs.ClauseArity.{IsNarrow, clause-narrow}
use Rattle.sc_input_rules.proofs.SignatureLaw.{is_signature}
use Rattle.sc_input_rules.proofs.SymbolNumbers.{AreListed, symbols-listed}
use Rattle.sc_input_rules.proofs.InputLaw.{is_input}
use Rattle.sc_input_rules.proofs.DemodulatorLaw.{demodulator-rewrites}
use Rattle.sc_input_rules.proofs.ParamsLaw.{are_params}

abbrev Written : Type 0
Written = Home × WrittenClause

abbrev clauses_in : List Written → List WrittenClause
clauses_in cs = map (λ (c : Written). c.1) cs

abbrev inputs_of : List Symbol → List Written → List Clause
inputs_of symbols cs = map (λ (c : Written). clause_of symbols c.1) cs

abbrev homes_of : List Written → List Home
homes_of cs = map (λ (c : Written). c.0) cs

-- what a problem keeps of its clauses
record KeepsClauses (cs : List Written) : Type 0 where
  signature : IsSignature (symbols_of (clauses_in cs))
  few : length (inputs_of (symbols_of (clauses_in cs)) cs) ≤ 10000
  each_home : length (homes_of cs) ≡ length (inputs_of (symbols_of (clauses_in cs)) cs)
  inputs : AllByRecursion (IsInput (symbols_of (clauses_in cs))) (inputs_of (symbols_of (clauses_in cs)) cs)
  demodulators : AllByRecursion FitsHome (zip (homes_of cs) (inputs_of (symbols_of (clauses_in cs)) cs))

abbrev AreAdmitted : List Homed → Type 0
AreAdmitted cs = AllByRecursion (λ (c : Homed). IsAdmitted c.1) cs

-- ---- symbols

narrow : (cs : List Homed) → AreAdmitted cs → AllByRecursion (AllByRecursion IsNarrow) (clauses_in (map as_written cs))
narrow [] h = tt
narrow (c ∷ cs) h = (clause-narrow c.1 (λ front more e. (h.0.within front more e).arity), narrow cs h.1)

read_again : (cs : List Homed) → AreAdmitted cs → map (λ (c : Home × List Token). written c.1) (map as_tokens cs) ≡ clauses_in (map as_written cs)
read_again [] h = refl
read_again (c ∷ cs) h = (λ i. written_back c.1 h.0.spelt i ∷ read_again cs h.1 i)

not_there : {A B : Type 0} (f : A → B) (o : Option A) → option_map f o ≡ None → o ≡ None
not_there f (Some x) e = absurd cc
not_there f None e = refl

signature_of : (cs : List Homed) → AreAdmitted cs → AreWhole (map as_tokens cs) → IsSignature (symbols_of (clauses_in (map as_written cs)))
signature_of cs h w =
    let few = ap (λ (ws : List WrittenClause). slice_get (symbol_order ws) 4096) (sym (read_again cs h)) ∙ not_there (λ (f : Found). f.at) (slice_get (symbol_order (map (λ (c : Home × List Token). written c.1) (map as_tokens cs))) 4096) w.symbols in
    is_signature (clauses_in (map as_written cs)) (narrow cs h) few

-- ---- inputs

inputs_from : (symbols : List Symbol) (cs : List Homed) → AreAdmitted cs → AllByRecursion (AllByRecursion (AreListed symbols)) (clauses_in (map as_written cs)) → AllByRecursion (IsInput symbols) (inputs_of symbols (map as_written cs))
inputs_from symbols [] h k = tt
inputs_from symbols (c ∷ cs) h k = (is_input symbols c.1 h.0 k.0, inputs_from symbols cs h.1 k.1)

-- ---- demodulators

-- `=` has number 0
zeroth : (cs : List WrittenClause) → symbol_number (symbols_of cs) equality ≡ record { 0 = 0 }
zeroth cs = ap symbol (by (nat_lt 0 (length (symbols_of cs))))
  where
    symbol : ℕ → SymId
    symbol n = record { 0 = n }

    number : Bool → ℕ
    number b = unwrap_or (cond b (Some 0) None) 0

    by : (b : Bool) → number b ≡ 0
    by true = refl
    by false = refl

fits : (symbols : List Symbol) (c : Homed) → IsAdmitted c.1 → symbol_number symbols equality ≡ record { 0 = 0 } → is_bad_demodulator (as_tokens c) ≡ false → FitsHome (c.0, clause_of symbols (clause_written c.1))
fits symbols c h z e = by c.0 e
  where
    is_true : (b : Bool) → not b ≡ false → b ≡ true
    is_true true e = refl
    is_true false e = absurd cc

    by : (home : Home) → is_bad_demodulator (home, clause_tokens c.1) ≡ false → FitsHome (home, clause_of symbols (clause_written c.1))
    by Demodulators e =
        demodulator-rewrites symbols c.1 z h.tokenized (ap is_demodulator (sym (written_back c.1 h.spelt)) ∙ is_true (is_demodulator (written (clause_tokens c.1))) e)
    by Usable e = tt
    by Sos e = tt
    by Passive e = tt

first_clause : (c : ClauseTree) → (n : ℕ) × (first_at (clause_tokens c) ≡ Some n)
first_clause c = let t = has_tokens c in (at_of t.0, ap first_at t.2)

demodulators_fit : (symbols : List Symbol) (cs : List Homed) → AreAdmitted cs → symbol_number symbols equality ≡ record { 0 = 0 }
    → option_and_then (λ (c : Home × List Token). first_at c.1) (find is_bad_demodulator (map as_tokens cs)) ≡ None → AllByRecursion FitsHome (zip (homes_of (map as_written cs)) (inputs_of symbols (map as_written cs)))
demodulators_fit symbols [] h z e = tt
demodulators_fit symbols (c ∷ cs) h z e = by (is_bad_demodulator (as_tokens c)) refl e (demodulators_fit symbols cs h.1 z)
  where
    by : (b : Bool) → is_bad_demodulator (as_tokens c) ≡ b → option_and_then (λ (c : Home × List Token). first_at c.1) (cond b (Some (as_tokens c)) (find is_bad_demodulator (map as_tokens cs))) ≡ None
        → (option_and_then (λ (c : Home × List Token). first_at c.1) (find is_bad_demodulator (map as_tokens cs)) ≡ None → AllByRecursion FitsHome (zip (homes_of (map as_written cs)) (inputs_of symbols (map as_written cs))))
        → AllByRecursion FitsHome (zip (homes_of (map as_written (c ∷ cs))) (inputs_of symbols (map as_written (c ∷ cs))))
    by true k e ih = let first = first_clause c.1 in let some = first.1 in absurd cc
    by false k e ih = (fits symbols c h.0 z k, ih e)

-- ---- all

keeps_clauses : (cs : List Homed) → AreAdmitted cs → AreWhole (map as_tokens cs) → KeepsClauses (map as_written cs)
keeps_clauses cs h w =
    let ws = map as_written cs in
    let symbols = symbols_of (clauses_in ws) in
    let n = length-map ws (λ (c : Written). clause_of symbols c.1) in
    let m = length-map cs as_written in
    let k = length-map cs as_tokens in
    record {
      signature = signature_of cs h w;
      few = few_of (length (inputs_of symbols ws)) (length ws) (length cs) (length (map as_tokens cs)) n m k w.few;
      each_home = length-map ws (λ (c : Written). c.0) ∙ sym n;
      inputs = inputs_from symbols cs h (symbols-listed (clauses_in ws));
      demodulators = demodulators_fit symbols cs h (zeroth (clauses_in ws)) w.demodulators;
    }
  where
    few_of : (a b c d : ℕ) → a ≡ b → b ≡ c → d ≡ c → d ≤ 10000 → a ≤ 10000
    few_of a b c d e k l le = omega arith

pub is_problem : (items : List Item) → AreSound items → IsProblem (stated items)
is_problem items s =
    let k = subst KeepsClauses (sym s.written) (keeps_clauses s.trees s.admitted s.whole) in
    record { signature = k.signature; few = k.few; each_home = k.each_home; inputs = k.inputs; demodulators = k.demodulators; params = are_params items s.numbers }

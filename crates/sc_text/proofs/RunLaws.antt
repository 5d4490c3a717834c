-- The laws of this crate as its functions use them.
use Rattle.std.proofs.Common.{◌≡◌, ◌∙◌, sym, ap, subst, refl, ℕ, ◌+◌, ◌-◌, ◌<◌, ◌≤◌, List, [], ◌∷◌, length, take, drop, Option, Some, None, Result, Ok, Err, arith}
use Rattle.sc_term.specs.declared.symbol.Symbol.{Symbol}
use Rattle.std.proofs.Math.Seq.{take-length}
use Rattle.sc_input_rules.specs.declared.fault.InputKind.{InputKind}
use Rattle.sc_input_rules.specs.declared.fault.Place.{Place}
use Rattle.sc_input_rules.specs.declared.token.Token.{Token}
use Rattle.sc_input_rules.specs.Reader.{Read, unexpected}
use Rattle.sc_input_rules.specs.Tokens.{tokens_behind}
use Rattle.sc_input_rules.specs.Faults.{first_passed, before, judged}
use Rattle.sc_input_rules.proofs.Taken.{same}
use Rattle.sc_input_scan.specs.Told.{failure_of}
use Rattle.sc_input.specs.declared.refusal.InputError.{InputError}
use Rattle.sc_input.specs.declared.refusal.InputError.TheVariants.{Refused, OutOfMemory}
use Rattle.sc_input.specs.Refusal.{Refuses}
use Rattle.sc_input.specs.Answer.{first_byte, fault_at, answer, Tells}
use Rattle.sc_input.proofs.Judging.{unlimited, limited, FailsBehind, fails_behind}
use Rattle.sc_input.proofs.Laws.{on_ok}
use Rattle.sc_text_rules.specs.TextLimits.{text_bounds, text_fault_at}
use Rattle.sc_text_rules.specs.ProofGrammar.{alone}
use Rattle.sc_text_run_rules.specs.RunValue.{RunValue}
use Rattle.sc_text_run_rules.specs.RunSection.{run_section}
use Rattle.sc_text_run_rules.specs.RunReading.{judged_run, run_of}
use Rattle.sc_text_run_section.specs.Seen.{clipped_run}
use Rattle.sc_text_run_section.proofs.RunEnds.{run-end}
use Rattle.sc_text_run_section.proofs.PrefixOfRuns.{good_run}
use Rattle.sc_text.specs.RunAnswer.{section, clipped_section, told_run, judged_tokens, judged_bytes}
use Rattle.sc_text.proofs.ExactRuns.{run_exact}

-- ---- what is read up to the first limit

section_fails : (symbols : List Symbol) (ts : List Token) (n : ℕ) (kind : InputKind) → failure_of (clipped_section symbols ts) ≡ Some (n, kind) → FailsBehind ts n kind (clipped_section symbols ts)
section_fails symbols ts n kind e = fails_behind clipped_run ts (section symbols ts) n kind (run-end symbols ts) e

pub few_left : (symbols : List Symbol) (ts : List Token) (n : ℕ) (kind : InputKind) → failure_of (clipped_section symbols ts) ≡ Some (n, kind) → n ≤ length ts
few_left symbols ts n kind e = (section_fails symbols ts n kind e).few

pub on_failure : (err : InputError) (behind : Result ℕ Place) (symbols : List Symbol) (ts : List Token) (n : ℕ) (kind : InputKind) → failure_of (clipped_section symbols ts) ≡ Some (n, kind)
    → err ≡ Refused (fault_at kind (first_byte behind (drop (length ts - n) ts))) → Refuses err (answer behind (clipped_section symbols ts))
on_failure err behind symbols ts n kind e h =
    let told = (section_fails symbols ts n kind e).fails behind in
    subst (λ err. Refuses err (answer behind (clipped_section symbols ts))) (sym h) told

pub on_unlimited : {X : Type 0} (view : X → RunValue × ℕ) (res : Result X InputError) (symbols : List Symbol) (end : ℕ) (ts : List Token) → first_passed (text_fault_at text_bounds symbols) ts ≡ None
    → Tells view res (answer (Ok end) (clipped_section symbols ts)) → Tells view res (judged_tokens symbols end ts)
on_unlimited view res symbols end ts e h = subst (Tells view res) (sym (unlimited (text_fault_at text_bounds symbols) clipped_run end ts (section symbols ts) e)) h

pub on_limited : {X : Type 0} (view : X → RunValue × ℕ) (res : Result X InputError) (symbols : List Symbol) (end : ℕ) (ts : List Token) (k : ℕ) (p : Place) → k < length ts
    → first_passed (text_fault_at text_bounds symbols) (take k ts) ≡ None → first_passed (text_fault_at text_bounds symbols) (take (k + 1) ts) ≡ Some p
    → Tells view res (answer (Err p) (clipped_section symbols (take (k + 1) ts))) → Tells view res (judged_tokens symbols end ts)
on_limited view res symbols end ts k p lt e e' h =
    subst (Tells view res) (sym (limited clipped_run (section symbols) (good_run symbols) (text_fault_at text_bounds symbols) end ts k p lt e e')) h

-- ---- what was judged says what the bytes are

record WasJudged (passes : List Token → Option Place) (ts : List Token) (r : Read RunValue) (run : RunValue) (left : List Token) : Type 0 where
  read : r ≡ Ok (run, left)
  none : first_passed passes (before left ts) ≡ None

abbrev unless_passed : RunValue × List Token → Option Place → Result (RunValue × List Token) Place
unless_passed r o = elim o [ None ↦ Ok r | Some p ↦ Err p ]

ok_same : (r v : RunValue × List Token) → unless_passed r None ≡ Ok v → r ≡ v
ok_same r v e = cc

was_judged : (passes : List Token → Option Place) (end : ℕ) (ts : List Token) (r : Read RunValue) (v : RunValue × List Token) → judged passes end ts r ≡ Ok v → WasJudged passes ts r v.0 v.1
was_judged passes end ts (Err f) v e = absurd cc
was_judged passes end ts (Ok r) v e = by (first_passed passes (before r.1 ts)) refl e
  where
    by : (o : Option Place) → first_passed passes (before r.1 ts) ≡ o → unless_passed r o ≡ Ok v → WasJudged passes ts (Ok r) v.0 v.1
    by None h e =
        let same : r ≡ v = ok_same r v e in
        record { read = ap Ok same; none = subst (λ (w : RunValue × List Token). first_passed passes (before w.1 ts) ≡ None) same h }
    by (Some p) h e = absurd cc

-- nothing stands behind a run text that is alone
abbrev at_end : RunValue × List Token → List Token → Read RunValue
at_end w left = elim left [ [] ↦ Ok w | t ∷ tokens ↦ unexpected (t ∷ tokens) ]

nothing_left : (r : Read RunValue) (run : RunValue) (left : List Token) → alone r ≡ Ok (run, left) → left ≡ []
nothing_left (Err f) run left e = absurd cc
nothing_left (Ok r) run left e = by r r.1 refl e
  where
    by : (w : RunValue × List Token) (us : List Token) → w.1 ≡ us → at_end w us ≡ Ok (run, left) → left ≡ []
    by w [] h e = sym (same w.0 run w.1 left e).left ∙ h
    by w (t ∷ us) h e = absurd cc

as_run : Result (RunValue × List Token) Place → Result RunValue Place
as_run r = elim r [ Ok r ↦ Ok r.0 | Err p ↦ Err p ]

record WasRead (r : Result (RunValue × List Token) Place) (run : RunValue) : Type 0 where
  written : RunValue
  left : List Token
  read : r ≡ Ok (written, left)
  clipped : clipped_run written ≡ run

was_read : (r : Result (RunValue × List Token) Place) (end : ℕ) (run : RunValue) (at : ℕ) → told_run end r ≡ Ok (run, at) → WasRead r run
was_read (Ok v) end run at e = record { written = v.0; left = v.1; read = refl; clipped = ap (λ (r : Result (RunValue × ℕ) Place). elim r [ Ok v ↦ v.0 | Err p ↦ run ]) e }
was_read (Err p) end run at e = absurd cc

-- the run is the one that the bytes spell: where no limit is passed nothing is clipped
pub run_is : (symbols : List Symbol) (bytes : List ℕ) (from : ℕ) (run : RunValue) (at : ℕ) → judged_bytes symbols bytes from ≡ Ok (run, at) → run_of symbols bytes from ≡ Ok run
unfolding as_run
run_is symbols bytes from run at e =
    let ts = tokens_behind from bytes in
    let passes = text_fault_at text_bounds symbols in
    let r = was_read (judged_run text_bounds symbols (length bytes) ts) (length bytes) run at e in
    let j = was_judged passes (length bytes) ts (section symbols ts) (r.written, r.left) r.read in
    let none : length ts - 0 ≡ length ts = omega arith in
    let all : before r.left ts ≡ ts = ap (λ (left : List Token). before left ts) (nothing_left (run_section symbols ts) r.written r.left j.read) ∙ ap (λ (n : ℕ). take n ts) none ∙ take-length ts in
    let exact = run_exact symbols ts r.written r.left (sym (ap (first_passed passes) all) ∙ j.none) j.read in
    ap as_run r.read ∙ ap Ok (sym exact ∙ r.clipped)

told_refused : (r : Result (RunValue × List Token) Place) (end : ℕ) (p : Place) → told_run end r ≡ Err p → r ≡ Err p
told_refused (Ok v) end p e = absurd cc
told_refused (Err q) end p e = let same : q ≡ p = ap (λ (r : Result (RunValue × ℕ) Place). elim r [ Ok v ↦ p | Err q ↦ q ]) e in ap Err same

pub run_refused : (symbols : List Symbol) (bytes : List ℕ) (from : ℕ) (e : InputError) → Refuses e (judged_bytes symbols bytes from) → Refuses e (run_of symbols bytes from)
unfolding as_run
run_refused symbols bytes from (Refused p) h = ap as_run (told_refused (judged_run text_bounds symbols (length bytes) (tokens_behind from bytes)) (length bytes) p h)
run_refused symbols bytes from OutOfMemory h = h

pub ruleset up_to = (on_ok, on_failure, few_left)

pub ruleset within = (on_unlimited, on_limited)

pub ruleset runs = (run_is, run_refused)

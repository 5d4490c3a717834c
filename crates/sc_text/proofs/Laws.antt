-- The laws of this crate as its functions use them.
use Rattle.std.proofs.Common.{◌≡◌, ◌∙◌, sym, ap, subst, refl, ℕ, zero, suc, min, Bool, true, false, ◌+◌, ◌-◌, ◌<◌, ◌≤◌, List, [], ◌∷◌, length, map, take, drop, Option, Some, None, Result, Ok, Err, arith}
use Rattle.sc_term.specs.declared.Line.{Line}
use Rattle.sc_term.specs.declared.symbol.Symbol.{Symbol}
use Rattle.std.specs.Prelude.{nat_le}
use Rattle.std.proofs.lemmas.Bool.{leb-true, leb-false}
use Rattle.std.proofs.Math.Nat.{min-eq_left}
use Rattle.std.proofs.Math.Seq.{take-length}
use Rattle.sc_input_rules.specs.declared.fault.InputKind.{InputKind}
use Rattle.sc_input_rules.specs.declared.fault.Place.{Place}
use Rattle.sc_input_rules.specs.declared.token.Token.{Token}
use Rattle.sc_input_rules.specs.Reader.{Read, unexpected}
use Rattle.sc_input_rules.specs.Tokens.{tokens_behind, tokens_from, blanked, with_dollars_refused}
use Rattle.sc_input_rules.specs.Faults.{first_passed, before, judged}
use Rattle.sc_input_rules.proofs.Taken.{same}
use Rattle.sc_input_scan.specs.Told.{failure_of}
use Rattle.sc_input.specs.declared.refusal.InputError.{InputError}
use Rattle.sc_input.specs.declared.refusal.InputError.TheVariants.{Refused, OutOfMemory}
use Rattle.sc_input.specs.Refusal.{Refuses}
use Rattle.sc_input.specs.Answer.{first_byte, fault_at, answer, Tells}
use Rattle.sc_input.proofs.Judging.{unlimited, limited, FailsBehind, fails_behind}
use Rattle.sc_input.proofs.Laws.{on_ok}
use Rattle.sc_text_rules.specs.TextLimits.{text_bounds, text_fault_at}
use Rattle.sc_text_rules.specs.ProofGrammar.{proof_section, alone}
use Rattle.sc_text_rules.specs.ProofReading.{judged_proof, proof_of}
use Rattle.sc_text_section.specs.Clipped.{clipped_line}
use Rattle.sc_text_section.proofs.SectionEnds.{section-end}
use Rattle.sc_text_section.proofs.PrefixOfSections.{good_section}
use Rattle.sc_text.specs.Answer.{section, clipped_section, told_lines, judged_tokens, judged_bytes}
use Rattle.sc_text.proofs.LinesRead.{section_exact}

abbrev clips : List Line → List Line
clips lines = map clipped_line lines

-- ---- what is read up to the first limit

section_fails : (symbols : List Symbol) (ts : List Token) (n : ℕ) (kind : InputKind) → failure_of (clipped_section symbols ts) ≡ Some (n, kind) → FailsBehind ts n kind (clipped_section symbols ts)
section_fails symbols ts n kind e = fails_behind clips ts (section symbols ts) n kind (section-end symbols ts) e

pub few_left : (symbols : List Symbol) (ts : List Token) (n : ℕ) (kind : InputKind) → failure_of (clipped_section symbols ts) ≡ Some (n, kind) → n ≤ length ts
few_left symbols ts n kind e = (section_fails symbols ts n kind e).few

pub on_failure : (err : InputError) (behind : Result ℕ Place) (symbols : List Symbol) (ts : List Token) (n : ℕ) (kind : InputKind) → failure_of (clipped_section symbols ts) ≡ Some (n, kind)
    → err ≡ Refused (fault_at kind (first_byte behind (drop (length ts - n) ts))) → Refuses err (answer behind (clipped_section symbols ts))
on_failure err behind symbols ts n kind e h =
    let told = (section_fails symbols ts n kind e).fails behind in
    subst (λ err. Refuses err (answer behind (clipped_section symbols ts))) (sym h) told

pub on_unlimited : {X : Type 0} (view : X → List Line × ℕ) (res : Result X InputError) (symbols : List Symbol) (end : ℕ) (ts : List Token) → first_passed (text_fault_at text_bounds symbols) ts ≡ None
    → Tells view res (answer (Ok end) (clipped_section symbols ts)) → Tells view res (judged_tokens symbols end ts)
on_unlimited view res symbols end ts e h = subst (Tells view res) (sym (unlimited (text_fault_at text_bounds symbols) clips end ts (section symbols ts) e)) h

pub on_limited : {X : Type 0} (view : X → List Line × ℕ) (res : Result X InputError) (symbols : List Symbol) (end : ℕ) (ts : List Token) (k : ℕ) (p : Place) → k < length ts
    → first_passed (text_fault_at text_bounds symbols) (take k ts) ≡ None → first_passed (text_fault_at text_bounds symbols) (take (k + 1) ts) ≡ Some p
    → Tells view res (answer (Err p) (clipped_section symbols (take (k + 1) ts))) → Tells view res (judged_tokens symbols end ts)
on_limited view res symbols end ts k p lt e e' h =
    subst (Tells view res) (sym (limited clips (section symbols) (good_section symbols) (text_fault_at text_bounds symbols) end ts k p lt e e')) h

-- ---- what was judged says what the bytes are

record WasJudged (passes : List Token → Option Place) (ts : List Token) (r : Read (List Line)) (lines : List Line) (left : List Token) : Type 0 where
  read : r ≡ Ok (lines, left)
  none : first_passed passes (before left ts) ≡ None

abbrev unless_passed : List Line × List Token → Option Place → Result (List Line × List Token) Place
unless_passed r o = elim o [ None ↦ Ok r | Some p ↦ Err p ]

ok_same : (r v : List Line × List Token) → unless_passed r None ≡ Ok v → r ≡ v
ok_same r v e = cc

was_judged : (passes : List Token → Option Place) (end : ℕ) (ts : List Token) (r : Read (List Line)) (v : List Line × List Token) → judged passes end ts r ≡ Ok v → WasJudged passes ts r v.0 v.1
was_judged passes end ts (Err f) v e = absurd cc
was_judged passes end ts (Ok r) v e = by (first_passed passes (before r.1 ts)) refl e
  where
    by : (o : Option Place) → first_passed passes (before r.1 ts) ≡ o → unless_passed r o ≡ Ok v → WasJudged passes ts (Ok r) v.0 v.1
    by None h e =
        let same : r ≡ v = ok_same r v e in
        record { read = ap Ok same; none = subst (λ (w : List Line × List Token). first_passed passes (before w.1 ts) ≡ None) same h }
    by (Some p) h e = absurd cc

-- nothing stands behind a section that is alone
abbrev at_end : List Line × List Token → List Token → Read (List Line)
at_end w left = elim left [ [] ↦ Ok w | t ∷ tokens ↦ unexpected (t ∷ tokens) ]

nothing_left : (r : Read (List Line)) (lines : List Line) (left : List Token) → alone r ≡ Ok (lines, left) → left ≡ []
nothing_left (Err f) lines left e = absurd cc
nothing_left (Ok r) lines left e = by r r.1 refl e
  where
    by : (w : List Line × List Token) (us : List Token) → w.1 ≡ us → at_end w us ≡ Ok (lines, left) → left ≡ []
    by w [] h e = sym (same w.0 lines w.1 left e).left ∙ h
    by w (t ∷ us) h e = absurd cc

as_lines : Result (List Line × List Token) Place → Result (List Line) Place
as_lines r = elim r [ Ok r ↦ Ok r.0 | Err p ↦ Err p ]

record WasRead (r : Result (List Line × List Token) Place) (lines : List Line) : Type 0 where
  written : List Line
  left : List Token
  read : r ≡ Ok (written, left)
  clipped : map clipped_line written ≡ lines

was_read : (r : Result (List Line × List Token) Place) (end : ℕ) (lines : List Line) (at : ℕ) → told_lines end r ≡ Ok (lines, at) → WasRead r lines
was_read (Ok v) end lines at e = record { written = v.0; left = v.1; read = refl; clipped = ap (λ (r : Result (List Line × ℕ) Place). elim r [ Ok v ↦ v.0 | Err p ↦ lines ]) e }
was_read (Err p) end lines at e = absurd cc

-- the lines are those that the bytes spell: where no limit is passed nothing is clipped
pub lines_are : (symbols : List Symbol) (bytes : List ℕ) (from : ℕ) (lines : List Line) (at : ℕ) → judged_bytes symbols bytes from ≡ Ok (lines, at) → proof_of symbols bytes from ≡ Ok lines
unfolding as_lines
lines_are symbols bytes from lines at e =
    let ts = tokens_behind from bytes in
    let passes = text_fault_at text_bounds symbols in
    let r = was_read (judged_proof text_bounds symbols (length bytes) ts) (length bytes) lines at e in
    let j = was_judged passes (length bytes) ts (section symbols ts) (r.written, r.left) r.read in
    let none : length ts - 0 ≡ length ts = omega arith in
    let all : before r.left ts ≡ ts = ap (λ (left : List Token). before left ts) (nothing_left (proof_section symbols ts) r.written r.left j.read) ∙ ap (λ (n : ℕ). take n ts) none ∙ take-length ts in
    let exact = section_exact symbols ts r.written r.left (sym (ap (first_passed passes) all) ∙ j.none) j.read in
    ap as_lines r.read ∙ ap Ok (sym exact ∙ r.clipped)

told_refused : (r : Result (List Line × List Token) Place) (end : ℕ) (p : Place) → told_lines end r ≡ Err p → r ≡ Err p
told_refused (Ok v) end p e = absurd cc
told_refused (Err q) end p e = let same : q ≡ p = ap (λ (r : Result (List Line × ℕ) Place). elim r [ Ok v ↦ p | Err q ↦ q ]) e in ap Err same

pub lines_refused : (symbols : List Symbol) (bytes : List ℕ) (from : ℕ) (e : InputError) → Refuses e (judged_bytes symbols bytes from) → Refuses e (proof_of symbols bytes from)
unfolding as_lines
lines_refused symbols bytes from (Refused p) h = ap as_lines (told_refused (judged_proof text_bounds symbols (length bytes) (tokens_behind from bytes)) (length bytes) p h)
lines_refused symbols bytes from OutOfMemory h = h

-- behind the bytes stands nothing
drop_all : (bytes : List ℕ) (n : ℕ) → length bytes ≤ n → drop n bytes ≡ []
drop_all [] zero le = refl
drop_all [] (suc n) le = refl
drop_all (b ∷ bs) zero le = absurd (omega (arith, le))
drop_all (b ∷ bs) (suc n) le = drop_all bs n (omega (arith, le))

none_behind : (bytes : List ℕ) (n : ℕ) → length bytes ≤ n → tokens_behind n bytes ≡ []
none_behind bytes n le = ap (λ (bs : List ℕ). map with_dollars_refused (tokens_from n (blanked false bs))) (drop_all bytes n le)

pub same_tokens : (bytes : List ℕ) (from : ℕ) → tokens_behind (min from (length bytes)) bytes ≡ tokens_behind from bytes
same_tokens bytes from = by (nat_le from (length bytes)) refl
  where
    by : (b : Bool) → nat_le from (length bytes) ≡ b → tokens_behind (min from (length bytes)) bytes ≡ tokens_behind from bytes
    by true e = let le = leb-true from (length bytes) e in ap (λ (n : ℕ). tokens_behind n bytes) (min-eq_left le)
    by false e =
        let lt = leb-false from (length bytes) e in
        none_behind bytes (min from (length bytes)) (omega (arith, lt)) ∙ sym (none_behind bytes from (omega (arith, lt)))

pub ruleset up_to = (on_ok, on_failure, few_left)

pub ruleset within = (on_unlimited, on_limited)

pub ruleset proofs = (lines_are, lines_refused)

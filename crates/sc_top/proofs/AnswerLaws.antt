-- What the bytes decide, where they are to be checked.
use Rattle.std.proofs.Common.{◌≡◌, ◌∙◌, sym, ap, subst, ℕ, ◌+◌, ◌-◌, ◌<◌, ◌≤◌, Bool, true, false, IsTrue, List, length, Result, Ok, Err, inl, inr, arith}
use Rattle.std.proofs.lemmas.Bool.{cases_order, lt-ltb, le-ltb}
use Rattle.sc_term.specs.declared.Clause.{Clause}
use Rattle.sc_term.specs.declared.Line.{Line}
use Rattle.sc_term.specs.Refuted.{IsRefuted}
use Rattle.sc_term.specs.Proof.{IsStepAt, IsProof, IsFirstFault}
use Rattle.sc_input_rules.specs.declared.fault.Place.{Place}
use Rattle.sc_input_rules.specs.declared.fault.InputKind.TheVariants.{TooLong}
use Rattle.sc_input_rules.specs.Faults.{place}
use Rattle.sc_input_rules.specs.Reading.{StatedItems, items_of}
use Rattle.sc_text_rules.specs.ProofReading.{proof_of}
use Rattle.sc_steps.proofs.ModelLaws.{not_all_true}
use Rattle.sc_top.specs.NoModel.{HasNoModel}
use Rattle.sc_top.specs.declared.answer.Answer.{Answer}
use Rattle.sc_top.specs.declared.answer.Answer.TheVariants.{ProofChecked, NotAProof, Ran, Model, Benched, InputRefused, WordsRefused, ReadFault, OutOfMemory}
use Rattle.sc_top.specs.Answers.{most_bytes, section_behind, spelled_by_few, spelled, HasProof, HasFault, IsAnswerTo}

-- refuted clauses have no model over whole numbers
pub no_model_of : (inputs : List Clause) → IsRefuted inputs → HasNoModel inputs
no_model_of inputs refuted = record {
  none = λ is_element element function predicate there closed all.
      not_all_true (λ n. IsTrue (is_element n)) (record { function = function; predicate = predicate }) element there closed inputs refuted all;
}

-- ---- what bytes spell

few : (bytes : List ℕ) → length bytes ≤ most_bytes → spelled bytes ≡ spelled_by_few bytes
few bytes le = ap (λ (b : Bool). elim b [ true ↦ Err (place most_bytes TooLong) | false ↦ spelled_by_few bytes ]) (le-ltb most_bytes (length bytes) le)

pub not_too_many : (bytes : List ℕ) → length bytes ≤ most_bytes → (r : Result (StatedItems × List Line) Place) → spelled_by_few bytes ≡ r → spelled bytes ≡ r
not_too_many bytes le r e = few bytes le ∙ e

pub too_many : (bytes : List ℕ) → most_bytes < length bytes → spelled bytes ≡ Err (place most_bytes TooLong)
too_many bytes h = ap (λ (b : Bool). elim b [ true ↦ Err (place most_bytes TooLong) | false ↦ spelled_by_few bytes ]) (lt-ltb most_bytes (length bytes) h)

pub both_read : (bytes : List ℕ) (read : StatedItems) (lines : List Line) → items_of bytes ≡ Ok read → proof_of read.problem.symbols bytes read.rest ≡ Ok lines → spelled_by_few bytes ≡ Ok (read, lines)
both_read bytes read lines e h =
    ap (λ (r : Result StatedItems Place). elim r [ Ok read ↦ section_behind bytes read | Err p ↦ Err p ]) e
    ∙ ap (λ (r : Result (List Line) Place). elim r [ Ok lines ↦ Ok (read, lines) | Err p ↦ Err p ]) h

pub problem_refused : (bytes : List ℕ) (p : Place) → items_of bytes ≡ Err p → spelled_by_few bytes ≡ Err p
problem_refused bytes p e = ap (λ (r : Result StatedItems Place). elim r [ Ok read ↦ section_behind bytes read | Err p ↦ Err p ]) e

pub section_refused : (bytes : List ℕ) (read : StatedItems) (p : Place) → items_of bytes ≡ Ok read → proof_of read.problem.symbols bytes read.rest ≡ Err p → spelled_by_few bytes ≡ Err p
section_refused bytes read p e h =
    ap (λ (r : Result StatedItems Place). elim r [ Ok read ↦ section_behind bytes read | Err p ↦ Err p ]) e
    ∙ ap (λ (r : Result (List Line) Place). elim r [ Ok lines ↦ Ok (read, lines) | Err p ↦ Err p ]) h

-- ---- the answer to what they spell

pub has_proof : (bytes : List ℕ) (n : ℕ) (read : StatedItems) (lines : List Line) → spelled bytes ≡ Ok (read, lines) → length lines ≡ n
    → IsProof read.problem.inputs lines → IsRefuted read.problem.inputs → HasProof n bytes
has_proof bytes n read lines e many proof refuted = record {
  read = read;
  lines = lines;
  is_read = e;
  many = many;
  proof = proof;
  refuted = refuted;
  no_model = no_model_of read.problem.inputs refuted;
}

pub has_fault : (bytes : List ℕ) (k : ℕ) (read : StatedItems) (lines : List Line) → spelled bytes ≡ Ok (read, lines) → IsFirstFault read.problem.inputs lines k → HasFault k bytes
has_fault bytes k read lines e first = record { read = read; lines = lines; is_read = e; first = first }

-- ---- there is one

-- the first line at fault of a list has no fault before it
step_before : (inputs : List Clause) (lines : List Line) (j k : ℕ) → j < k → 0 < j → IsFirstFault inputs lines k → IsStepAt inputs lines j
step_before inputs lines j k lt positive first =
    let n : j - 1 + 1 ≡ j = omega (arith, positive) in
    subst (IsStepAt inputs lines) n (first.earlier (j - 1) (omega (arith, lt, positive)))

not_earlier : (inputs : List Clause) (lines : List Line) (j k : ℕ) → IsFirstFault inputs lines j → IsFirstFault inputs lines k → ¬ j < k
not_earlier inputs lines j k a b lt = a.at.0 (omega (arith, lt, b.within.1)) (step_before inputs lines j k lt a.within.0 b)

first_is_one : (inputs : List Clause) (lines : List Line) (j k : ℕ) → IsFirstFault inputs lines j → IsFirstFault inputs lines k → j ≡ k
first_is_one inputs lines j k a b = elim (cases_order j k) [
  | inl h ↦ h
  | inr (inl h) ↦ absurd (not_earlier inputs lines j k a b h)
  | inr (inr h) ↦ absurd (not_earlier inputs lines k j b a h)
]

proof_has_none : (inputs : List Clause) (lines : List Line) (k : ℕ) → IsProof inputs lines → ¬ IsFirstFault inputs lines k
proof_has_none inputs lines k proof first = elim (cases_order (length lines) k) [
  | inl h ↦ first.at.0 (omega (arith, h)) (step k first.within.0 (omega (arith, h)))
  | inr (inl h) ↦ first.at.1 h proof.ends
  | inr (inr h) ↦ first.at.0 (omega (arith, h)) (step k first.within.0 (omega (arith, h)))
]
  where
    step : (k : ℕ) → 0 < k → k ≤ length lines → IsStepAt inputs lines k
    step k positive within =
        let n : k - 1 + 1 ≡ k = omega (arith, positive) in
        subst (IsStepAt inputs lines) n (proof.steps (k - 1) (omega (arith, positive, within)))

-- what is read is one
read_is_one : (bytes : List ℕ) (read other : StatedItems) (lines others : List Line) → spelled bytes ≡ Ok (read, lines) → spelled bytes ≡ Ok (other, others) → (read ≡ other) × (lines ≡ others)
read_is_one bytes read other lines others e h =
    let same : Ok (read, lines) ≡ Ok (other, others) = sym e ∙ h in
    let v : (read, lines) ≡ (other, others) = ap (λ (r : Result (StatedItems × List Line) Place). elim r [ Ok v ↦ v | Err p ↦ (read, lines) ]) same in
    (λ j. (v j).0, λ j. (v j).1)

not_refused : (bytes : List ℕ) (v : StatedItems × List Line) (p : Place) → spelled bytes ≡ Ok v → ¬ (spelled bytes ≡ Err p)
not_refused bytes v p e h =
    let same : Ok v ≡ Err p = sym e ∙ h in cc

one_proof : (bytes : List ℕ) (m n : ℕ) → HasProof m bytes → HasProof n bytes → m ≡ n
one_proof bytes m n a b = sym a.many ∙ ap (λ (ls : List Line). length ls) (read_is_one bytes a.read b.read a.lines b.lines a.is_read b.is_read).1 ∙ b.many

moved_fault : (bytes : List ℕ) (k : ℕ) (read : StatedItems) (lines : List Line) → spelled bytes ≡ Ok (read, lines) → HasFault k bytes → IsFirstFault read.problem.inputs lines k
moved_fault bytes k read lines e b =
    let same = read_is_one bytes b.read read b.lines lines b.is_read e in
    subst (λ (ls : List Line). IsFirstFault read.problem.inputs ls k) same.1 (subst (λ (r : StatedItems). IsFirstFault r.problem.inputs b.lines k) same.0 b.first)

-- the bytes decide one answer
pub one_answer : (bytes : List ℕ) (a b : Answer) → IsAnswerTo bytes a → IsAnswerTo bytes b → a ≡ b
one_answer bytes (ProofChecked m) (ProofChecked n) h k = ap ProofChecked (one_proof bytes m n h k)
one_answer bytes (ProofChecked m) (NotAProof n) h k = absurd (proof_has_none h.read.problem.inputs h.lines n h.proof (moved_fault bytes n h.read h.lines h.is_read k))
one_answer bytes (ProofChecked m) (InputRefused p) h k = absurd (not_refused bytes (h.read, h.lines) p h.is_read k)
one_answer bytes (NotAProof m) (ProofChecked n) h k = absurd (proof_has_none k.read.problem.inputs k.lines m k.proof (moved_fault bytes m k.read k.lines k.is_read h))
one_answer bytes (NotAProof m) (NotAProof n) h k = ap NotAProof (first_is_one h.read.problem.inputs h.lines m n h.first (moved_fault bytes n h.read h.lines h.is_read k))
one_answer bytes (NotAProof m) (InputRefused p) h k = absurd (not_refused bytes (h.read, h.lines) p h.is_read k)
one_answer bytes (InputRefused p) (ProofChecked n) h k = absurd (not_refused bytes (k.read, k.lines) p k.is_read h)
one_answer bytes (InputRefused p) (NotAProof n) h k = absurd (not_refused bytes (k.read, k.lines) p k.is_read h)
one_answer bytes (InputRefused p) (InputRefused q) h k =
    let same : Err p ≡ Err q = sym h ∙ k in
    ap InputRefused (ap (λ (r : Result (StatedItems × List Line) Place). elim r [ Ok v ↦ p | Err q ↦ q ]) same)
one_answer bytes (Ran o text) b h k = absurd h
one_answer bytes (Model m) b h k = absurd h
one_answer bytes (Benched run) b h k = absurd h
one_answer bytes (ProofChecked m) (Ran o text) h k = absurd k
one_answer bytes (ProofChecked m) (Model n) h k = absurd k
one_answer bytes (NotAProof m) (Ran o text) h k = absurd k
one_answer bytes (NotAProof m) (Model n) h k = absurd k
one_answer bytes (InputRefused p) (Ran o text) h k = absurd k
one_answer bytes (InputRefused p) (Model n) h k = absurd k
one_answer bytes WordsRefused b h k = absurd h
one_answer bytes ReadFault b h k = absurd h
one_answer bytes OutOfMemory b h k = absurd h
one_answer bytes (ProofChecked m) (Benched run) h k = absurd k
one_answer bytes (ProofChecked m) WordsRefused h k = absurd k
one_answer bytes (ProofChecked m) ReadFault h k = absurd k
one_answer bytes (ProofChecked m) OutOfMemory h k = absurd k
one_answer bytes (NotAProof m) (Benched run) h k = absurd k
one_answer bytes (NotAProof m) WordsRefused h k = absurd k
one_answer bytes (NotAProof m) ReadFault h k = absurd k
one_answer bytes (NotAProof m) OutOfMemory h k = absurd k
one_answer bytes (InputRefused p) (Benched run) h k = absurd k
one_answer bytes (InputRefused p) WordsRefused h k = absurd k
one_answer bytes (InputRefused p) ReadFault h k = absurd k
one_answer bytes (InputRefused p) OutOfMemory h k = absurd k

-- ---- for the code

pub ruleset spelling = (not_too_many, too_many, both_read, problem_refused, section_refused)

pub ruleset answers = (has_proof, has_fault)

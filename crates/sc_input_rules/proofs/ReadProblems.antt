-- Every problem that is read keeps what a problem keeps.
use Rattle.std.proofs.Common.{◌≡◌, ◌∙◌, sym, ap, subst, refl, ℕ, ◌-◌, List, length, take, drop, Option, Some, None, Result, Ok, Err}
use Rattle.std.proofs.lemmas.List.{take-append-drop}
use Rattle.sc_input_rules.specs.declared.fault.Place.{Place}
use Rattle.sc_input_rules.specs.declared.token.Token.{Token}
use Rattle.sc_input_rules.specs.Reader.{Read}
use Rattle.sc_input_rules.specs.Faults.{first_passed, before, place_of, judged}
use Rattle.sc_input_rules.specs.ProblemLimits.{problem_bounds, problem_fault_at}
use Rattle.sc_input_rules.specs.ProblemGrammar.{Item, problem, items}
use Rattle.sc_input_rules.specs.Problem.{Stated, stated}
use Rattle.sc_input_rules.specs.Reading.{problem_tokens, judged_items, problem_of, StatedItems, items_of}
use Rattle.sc_input_rules.specs.WellFormed.{IsProblem}
use Rattle.sc_input_rules.proofs.Tokenized.{AreTokenized, tokenized_split}
use Rattle.sc_input_rules.proofs.TextTokenized.{problem_tokens_tokenized}
use Rattle.sc_input_rules.proofs.ProblemRead.{problem_sound, items_sound}
use Rattle.sc_input_rules.proofs.WellFormedLaw.{is_problem}

-- ---- from the tokens

tokenized_before : (left ts : List Token) → AreTokenized ts → AreTokenized (before left ts)
tokenized_before left ts h = let n = length ts - length left in (tokenized_split (take n ts) (drop n ts) (subst AreTokenized (sym (take-append-drop n ts)) h)).0

pub problem_is_problem : (ts : List Token) (is : List Item) (left : List Token) → AreTokenized ts → problem ts ≡ Ok (is, left) → first_passed (problem_fault_at problem_bounds) (before left ts) ≡ None → IsProblem (stated is)
problem_is_problem ts is left tokenized e u = is_problem is (problem_sound ts is left e u (tokenized_before left ts tokenized))

pub items_are_problem : (ts : List Token) (is : List Item) (left : List Token) → AreTokenized ts → items ts ≡ Ok (is, left) → first_passed (problem_fault_at problem_bounds) (before left ts) ≡ None → IsProblem (stated is)
items_are_problem ts is left tokenized e u = is_problem is (items_sound ts is left e u (tokenized_before left ts tokenized))

-- ---- from the bytes

record IsJudgedOk {A : Type 0} (fault_at : List Token → Option Place) (ts : List Token) (r : Read A) (v : A × List Token) : Type 0 where
  read : r ≡ Ok v
  unpassed : first_passed fault_at (before v.1 ts) ≡ None

if_none : {A : Type 0} → Option Place → A × List Token → Result (A × List Token) Place
if_none o r = elim o [ None ↦ Ok r | Some p ↦ Err p ]

none_of : {A : Type 0} (o : Option Place) (w v : A × List Token) → if_none o w ≡ Ok v → (o ≡ None) × (w ≡ v)
unfolding if_none
none_of None w v e = (refl, cc)
none_of (Some p) w v e = absurd cc

judged_ok : {A : Type 0} (fault_at : List Token → Option Place) (end : ℕ) (ts : List Token) (r : Read A) (v : A × List Token) → judged fault_at end ts r ≡ Ok v → IsJudgedOk fault_at ts r v
unfolding if_none
judged_ok fault_at end ts (Ok w) v e =
    let n = none_of (first_passed fault_at (before w.1 ts)) w v e in
    record { read = ap Ok n.1; unpassed = ap (λ v. first_passed fault_at (before v.1 ts)) (sym n.1) ∙ n.0 }
judged_ok fault_at end ts (Err f) v e = absurd cc

as_stated : Result (List Item × List Token) Place → Result Stated Place
as_stated r = elim r [ Ok r ↦ Ok (stated r.0) | Err p ↦ Err p ]

pub read_problem : (bytes : List ℕ) (p : Stated) → problem_of bytes ≡ Ok p → IsProblem p
unfolding as_stated
read_problem bytes p e = by (judged_items problem_bounds problem bytes) refl e
  where
    by : (r : Result (List Item × List Token) Place) → judged_items problem_bounds problem bytes ≡ r → as_stated r ≡ Ok p → IsProblem p
    by (Ok v) h e =
        let j = judged_ok (problem_fault_at problem_bounds) (length bytes) (problem_tokens bytes) (problem (problem_tokens bytes)) v h in
        let same : stated v.0 ≡ p = cc in
        subst IsProblem same (problem_is_problem (problem_tokens bytes) v.0 v.1 (problem_tokens_tokenized bytes) j.read j.unpassed)
    by (Err q) h e = absurd cc

with_rest : List ℕ → Result (List Item × List Token) Place → Result StatedItems Place
with_rest bytes r = elim r [ Ok r ↦ Ok (record { problem = stated r.0; rest = place_of (length bytes) r.1 }) | Err p ↦ Err p ]

pub read_items : (bytes : List ℕ) (p : StatedItems) → items_of bytes ≡ Ok p → IsProblem p.problem
unfolding with_rest
read_items bytes p e = by (judged_items problem_bounds items bytes) refl e
  where
    by : (r : Result (List Item × List Token) Place) → judged_items problem_bounds items bytes ≡ r → with_rest bytes r ≡ Ok p → IsProblem p.problem
    by (Ok v) h e =
        let j = judged_ok (problem_fault_at problem_bounds) (length bytes) (problem_tokens bytes) (items (problem_tokens bytes)) v h in
        let all : record { problem = stated v.0; rest = place_of (length bytes) v.1 } ≡ p = cc in
        subst IsProblem (ap (λ (p : StatedItems). p.problem) all) (items_are_problem (problem_tokens bytes) v.0 v.1 (problem_tokens_tokenized bytes) j.read j.unpassed)
    by (Err q) h e = absurd cc

-- The laws of this crate as its functions use them.
use Rattle.std.proofs.Common.{◌≡◌, ◌∙◌, sym, ap, subst, ℕ, ◌+◌, ◌-◌, ◌<◌, List, length, take, drop, Some, None, Result, Ok, Err}
use Rattle.sc_input_rules.specs.declared.fault.InputKind.{InputKind}
use Rattle.sc_input_rules.specs.declared.fault.Place.{Place}
use Rattle.sc_input_rules.specs.declared.token.Token.{Token}
use Rattle.sc_input_rules.specs.Reader.{Read}
use Rattle.sc_input_rules.specs.ProblemGrammar.{Item}
use Rattle.sc_input_rules.specs.ProblemLimits.{problem_bounds, problem_fault_at}
use Rattle.sc_input_rules.specs.Faults.{first_passed, judged}
use Rattle.sc_input_rules.specs.Problem.{Stated, stated}
use Rattle.sc_input_rules.specs.Reading.{problem_of, items_of}
use Rattle.sc_input_rules.specs.WellFormed.{IsProblem}
use Rattle.sc_input_scan.specs.Told.{failure_of}
use Rattle.sc_input_grammar.specs.declared.item.Ending.{Ending}
use Rattle.sc_input_grammar.specs.declared.item.Ending.TheVariants.{AtEnd, AtSection}
use Rattle.sc_input_grammar.specs.Items.{clipped_items}
use Rattle.sc_input.specs.declared.refusal.InputError.{InputError}
use Rattle.sc_input.specs.declared.refusal.InputError.TheVariants.{Refused}
use Rattle.sc_input.specs.Refusal.{Refuses}
use Rattle.sc_input.specs.Answer.{production, first_byte, read_at, fault_at, answer, told, judged_at, Tells}
use Rattle.sc_input.proofs.Judging.{few_left, answer_fails, judged_unlimited, judged_limited}
use Rattle.sc_input.proofs.Stating.{problem_stated, items_stated, problem_refused, items_refused}

pub on_ok : {X A : Type 0} (view : X → A × ℕ) (res : Result X InputError) (behind : Result ℕ Place) (r : Read A) (a : A) (at : Result ℕ Place)
    → answer behind r ≡ read_at a at → Tells view res (read_at a at) → Tells view res (answer behind r)
on_ok view res behind r a at e h = subst (Tells view res) (sym e) h

pub on_failure : (err : InputError) (behind : Result ℕ Place) (ending : Ending) (ts : List Token) (n : ℕ) (kind : InputKind)
    → failure_of (clipped_items (production ending ts)) ≡ Some (n, kind) → err ≡ Refused (fault_at kind (first_byte behind (drop (length ts - n) ts)))
    → Refuses err (answer behind (clipped_items (production ending ts)))
on_failure err behind ending ts n kind e h =
    let told = answer_fails ending ts n kind behind e in
    subst (λ err. Refuses err (answer behind (clipped_items (production ending ts)))) (sym h) told

pub on_unlimited : {X : Type 0} (view : X → List Item × ℕ) (res : Result X InputError) (ending : Ending) (end : ℕ) (ts : List Token)
    → first_passed (problem_fault_at problem_bounds) ts ≡ None → Tells view res (answer (Ok end) (clipped_items (production ending ts)))
    → Tells view res (told end (judged (problem_fault_at problem_bounds) end ts (production ending ts)))
on_unlimited view res ending end ts e h = subst (Tells view res) (sym (judged_unlimited ending end ts e)) h

pub on_limited : {X : Type 0} (view : X → List Item × ℕ) (res : Result X InputError) (ending : Ending) (end : ℕ) (ts : List Token) (k : ℕ) (p : Place) → k < length ts
    → first_passed (problem_fault_at problem_bounds) (take k ts) ≡ None → first_passed (problem_fault_at problem_bounds) (take (k + 1) ts) ≡ Some p
    → Tells view res (answer (Err p) (clipped_items (production ending (take (k + 1) ts))))
    → Tells view res (told end (judged (problem_fault_at problem_bounds) end ts (production ending ts)))
on_limited view res ending end ts k p lt e e' h = subst (Tells view res) (sym (judged_limited ending end ts k p lt e e')) h

pub problem_keeps : (bytes : List ℕ) (is : List Item) (at : ℕ) → judged_at AtEnd bytes ≡ Ok (is, at) → IsProblem (stated is)
problem_keeps bytes is at e = (problem_stated bytes is at e).keeps

pub problem_is : (bytes : List ℕ) (is : List Item) (at : ℕ) (p : Stated) → judged_at AtEnd bytes ≡ Ok (is, at) → p ≡ stated is → problem_of bytes ≡ Ok p
problem_is bytes is at p e h = (problem_stated bytes is at e).meant ∙ sym (ap Ok h)

pub items_keep : (bytes : List ℕ) (is : List Item) (at : ℕ) → judged_at AtSection bytes ≡ Ok (is, at) → IsProblem (stated is)
items_keep bytes is at e = (items_stated bytes is at e).keeps

pub items_are : (bytes : List ℕ) (is : List Item) (at : ℕ) (p : Stated) → judged_at AtSection bytes ≡ Ok (is, at) → p ≡ stated is → items_of bytes ≡ Ok (record { problem = p; rest = at })
items_are bytes is at p e h = (items_stated bytes is at e).meant ∙ sym (λ j. Ok (record { problem = h j; rest = at }))

pub ruleset up_to = (on_ok, on_failure, few_left)

pub ruleset within = (on_unlimited, on_limited)

pub ruleset problems = (problem_keeps, problem_is, problem_refused)

pub ruleset sections = (items_keep, items_are, items_refused)

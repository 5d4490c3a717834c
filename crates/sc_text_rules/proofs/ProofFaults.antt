-- Proof sections that are refused, by computation.
use Rattle.std.proofs.Common.{◌≡◌, refl, ℕ, List, [], ◌∷◌, Ok, Err}
use Rattle.std.specs.Prelude.{codes}
use Rattle.sc_term.specs.declared.Step.TheVariants.{Instance}
use Rattle.sc_input_rules.specs.declared.fault.InputKind.{InputKind}
use Rattle.sc_input_rules.specs.declared.fault.InputKind.TheVariants.{Unexpected, Truncated, UnknownName, Unsupported, OutOfRange, TooMany, TooHeavy, TooDeep}
use Rattle.sc_input_rules.specs.Faults.{place}
use Rattle.sc_input_rules.specs.ClauseLimits.{Bounds}
use Rattle.sc_text_rules.specs.ProofReading.{proof_of, proof_within}
use Rattle.sc_text_rules.proofs.ProofExamples.{symbols, a, clause}

abbrev Refused : List ℕ → ℕ → InputKind → Type 0
Refused bytes at kind = proof_of symbols bytes 0 ≡ Err (place at kind)

empty : Refused [] 0 Truncated
empty = refl

a_run : Refused (codes "run.") 0 Unexpected
a_run = refl

other_number : Refused (codes "proof. 2 input 1 : p(a).") 7 Unexpected
other_number = refl

other_step : Refused (codes "proof. 1 given 1 : p(a).") 9 Unexpected
other_step = refl

more_behind : Refused (codes "proof. end_of_proof. x") 21 Unexpected
more_behind = refl

no_end : Refused (codes "proof. 1 input 1 : p(a).") 24 Truncated
no_end = refl

-- found at the `)` behind it, before the end
unknown_term : Refused (codes "proof. 1 input 1 : p(b)") 21 UnknownName
unknown_term = refl

-- the next token decides too, and goes first
unknown_later : Refused (codes "proof. 1 input 1 : p(b+") 22 Unsupported
unknown_later = refl

-- a predicate in the place of a term, and the other way round
other_role : Refused (codes "proof. 1 input 1 : p(p(a)).") 21 UnknownName
other_role = refl

function_as_atom : Refused (codes "proof. 1 input 1 : f(a,a).") 19 UnknownName
function_as_atom = refl

other_arity : Refused (codes "proof. 1 input 1 : p(f(a)).") 21 UnknownName
other_arity = refl

no_variable : Refused (codes "proof. 1 input 1 : p(y).") 21 UnknownName
no_variable = refl

-- `x` alone, in an equation: found at the full stop
bare_x : Refused (codes "proof. 1 input 1 : a=x.") 21 UnknownName
bare_x = refl

-- the left side of an equation is no atom
left_side : Refused (codes "proof. 1 input 1 : b=a.") 19 UnknownName
left_side = refl

large_variable : Refused (codes "proof. 1 instance 1 (x65536) : $F. end_of_proof.") 21 OutOfRange
large_variable = refl

large_number : Refused (codes "proof. 1 input 4294967296 : $F. end_of_proof.") 15 OutOfRange
large_number = refl

-- digits are no number where they stand for a constant
constant : Refused (codes "proof. 1 instance 1 (99999999999) : $F. end_of_proof.") 21 UnknownName
constant = refl

empty_path : Refused (codes "proof. 1 para 1 1 left 1 1 () : $F. end_of_proof.") 28 Unexpected
empty_path = refl

abbrev small : Bounds
small = record { arity = 2; clauses = 2; weight = 4; depth = 3; symbols = 4 }

abbrev RefusedSmall : List ℕ → ℕ → InputKind → Type 0
RefusedSmall bytes at kind = proof_within small symbols bytes 0 ≡ Err (place at kind)

-- each term of an instance step for itself
heavy_term : RefusedSmall (codes "proof. 1 instance 1 (f(a,a),a,f(f(a,a),a)) : $F. end_of_proof.") 39 TooHeavy
heavy_term = refl

deep_term : RefusedSmall (codes "proof. 1 instance 1 (a,a,f(f(f(a,") 31 TooDeep
deep_term = refl

many_terms : proof_within small symbols (codes "proof. 1 instance 1 (a,a,a,a) : $F. end_of_proof.") 0 ≡ Ok (record { step = Instance 1 (a ∷ a ∷ a ∷ a ∷ []); clause = clause [] } ∷ [])
many_terms = refl

third_argument : RefusedSmall (codes "proof. 1 input 1 : p(f(a,a,a)).") 26 TooMany
third_argument = refl

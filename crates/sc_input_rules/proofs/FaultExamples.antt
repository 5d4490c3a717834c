-- Refused problems, by computation.
use Rattle.std.proofs.Common.{◌≡◌, refl, ℕ, List, [], ◌∷◌, ◌++◌, Err}
use Rattle.std.specs.Prelude.{codes, replicate, flat_map, Some, None}
use Rattle.sc_input_rules.specs.declared.fault.InputKind.{InputKind}
use Rattle.sc_input_rules.specs.declared.fault.InputKind.TheVariants.{NotText, Unexpected, Truncated, UnknownName, Unsupported, OutOfRange, TooMany, TooHeavy, TooDeep, BadDemodulator}
use Rattle.sc_input_rules.specs.Faults.{place}
use Rattle.sc_input_rules.specs.declared.settings.Home.TheVariants.{Sos}
use Rattle.sc_input_rules.specs.declared.token.Token.TheVariants.{Word}
use Rattle.sc_input_rules.specs.Tokens.{tokens}
use Rattle.sc_input_rules.specs.Position.{Position}
use Rattle.sc_input_rules.specs.ClauseLimits.{Bounds, weight_told}
use Rattle.sc_input_rules.specs.ProblemLimits.{problem_bounds, problem_fault_at, clauses_told}
use Rattle.sc_input_rules.specs.Reading.{problem_of, problem_within}

abbrev Refused : List ℕ → ℕ → InputKind → Type 0
Refused bytes at kind = problem_of bytes ≡ Err (place at kind)

cut_off : Refused (codes "list(sos).\np(a") 14 Truncated
cut_off = refl

unsupported_flag : Refused (codes "set(auto).") 4 Unsupported
unsupported_flag = refl

no_text : Refused (codes "list(sos).\np(é") 13 NotText
no_text = refl

unknown_list : Refused (codes "list(foo).") 5 UnknownName
unknown_list = refl

out_of_range : Refused (codes "assign(max_weight,0).") 18 OutOfRange
out_of_range = refl

bad_demodulator : Refused (codes "list(demodulators).\nx=a.") 20 BadDemodulator
bad_demodulator = refl

unexpected : Refused (codes "list(sos). -a=b. end_of_list.") 13 Unexpected
unexpected = refl

ninth_argument : Refused (codes "list(sos). p(a,b,c,d,e,f(x,y),g,h,i). end_of_list.") 33 TooMany
ninth_argument = refl

-- ---- with small bounds in place of the true ones

abbrev small : Bounds
small = record { arity = 3; clauses = 2; weight = 6; depth = 3; symbols = 4 }

abbrev RefusedSmall : List ℕ → ℕ → InputKind → Type 0
RefusedSmall bytes at kind = problem_within small bytes ≡ Err (place at kind)

-- the comma before a fourth argument
arity : RefusedSmall (codes "list(sos). p(a,f(b,c),d,e). end_of_list.") 23 TooMany
arity = refl

-- the first token of a third clause
clauses : RefusedSmall (codes "list(sos). p. q. end_of_list. set(factor). list(usable). -p | q.") 57 TooMany
clauses = refl

-- the closing word is no clause
two_clauses : RefusedSmall (codes "list(sos). p. q. end_of_list. x") 30 UnknownName
two_clauses = refl

-- the seventh word or equality sign
weight : RefusedSmall (codes "list(sos). p(a)|a!=b|-q|r") 24 TooHeavy
weight = refl

-- a word of level 4
depth : RefusedSmall (codes "list(sos). p(f(f(a)))") 17 TooDeep
depth = refl

-- `=` behind a word of level 3
depth_of_left : RefusedSmall (codes "list(sos). (f(f(a))=b)") 19 TooDeep
depth_of_left = refl

-- a word of level 3 in a right side
depth_of_right : RefusedSmall (codes "list(sos). p | -(b!=f(f(a)))") 24 TooDeep
depth_of_right = refl

-- The fifth symbol, told at the full stop: the equality sign is the first.
symbols : RefusedSmall (codes "list(sos). p(a). q(a,f(a)). end_of_list.") 21 TooMany
symbols = refl

-- where one full stop decides both, the number of symbols is told
symbols_first : RefusedSmall (codes "list(demodulators). p(a,b)|q|r. end_of_list.") 27 TooMany
symbols_first = refl

-- a fault that the next token decides goes first
unexpected_first : RefusedSmall (codes "list(sos). p(f(f(a)") 17 TooDeep
unexpected_first = refl

not_deeper : RefusedSmall (codes "list(sos). p(f(f(+") 17 Unsupported
not_deeper = refl

long_number : Refused (codes "assign(max_seconds,-00000000001).") 19 OutOfRange
long_number = refl

below : Refused (codes "assign(max_seconds,-2).") 19 OutOfRange
below = refl

other_item : Refused (codes "op(a).") 0 Unsupported
other_item = refl

colon : Refused (codes "list(sos). p:") 12 Unsupported
colon = refl

dollar : Refused (codes "list(sos). $G.") 11 Unsupported
dollar = refl

no_falsum : Refused (codes "list(sos). p | $F.") 15 Unexpected
no_falsum = refl

empty_arguments : Refused (codes "list(sos). p().") 13 Unexpected
empty_arguments = refl

-- ---- at the true bounds

-- the 256th `f(` has level 257
deep : Refused (codes "list(sos). p(" ++ flat_map (λ s. s) (replicate 256 (codes "f("))) 523 TooDeep
deep = refl

not_deep : Refused (codes "list(sos). p(" ++ flat_map (λ s. s) (replicate 255 (codes "f("))) 523 Truncated
not_deep = refl

weight_1000 : weight_told problem_bounds (replicate 1000 (Word 7 (codes "a"))) ≡ None
weight_1000 = refl

weight_1001 : weight_told problem_bounds (replicate 1001 (Word 7 (codes "a"))) ≡ Some 7
weight_1001 = refl

abbrev in_clause : ℕ → Position
in_clause n = record { clauses = replicate n (Sos, Word 3 (codes "a") ∷ []); home = Some Sos; sentence = Word 9 (codes "a") ∷ [] }

clause_10000 : clauses_told problem_bounds (in_clause 9999) ≡ None
clause_10000 = refl

clause_10001 : clauses_told problem_bounds (in_clause 10000) ≡ Some 9
clause_10001 = refl

eight_arguments : problem_fault_at problem_bounds (tokens (codes "list(sos). p(a,a,a,a,a,a,a,")) ≡ None
eight_arguments = refl

nine_arguments : problem_fault_at problem_bounds (tokens (codes "list(sos). p(a,a,a,a,a,a,a,a,")) ≡ Some (place 28 TooMany)
nine_arguments = refl

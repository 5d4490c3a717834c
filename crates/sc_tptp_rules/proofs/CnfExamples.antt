-- Texts of TPTP's clause form, by computation.
use Rattle.std.proofs.Common.{◌≡◌, refl, ℕ, List, [], ◌∷◌, Err}
use Rattle.std.specs.Prelude.{codes}
use Rattle.sc_input_rules.specs.declared.fault.InputKind.{InputKind}
use Rattle.sc_input_rules.specs.declared.fault.InputKind.TheVariants.{NotText, Unexpected, Truncated, UnknownName, Unsupported, TooMany, TooHeavy, TooDeep}
use Rattle.sc_input_rules.specs.declared.token.Token.TheVariants.{Word, Punctuation, Refused as Bad}
use Rattle.sc_input_rules.specs.declared.token.Sign.TheVariants.{Open, Comma, Unequal}
use Rattle.sc_input_rules.specs.ClauseLimits.{Bounds}
use Rattle.sc_input_rules.specs.Faults.{place}
use Rattle.sc_input_rules.specs.Reading.{problem_of}
use Rattle.sc_tptp_rules.specs.Placing.{cnf_tokens}
use Rattle.sc_tptp_rules.specs.CnfReading.{cnf_problem_within, cnf_problem_of}

-- comments in a quoted name, a quoted name's signs in a comment, and a comment that doesn't nest
tokenized : cnf_tokens (codes "cnf('%/*',/*'/**/axiom,X!=/%.\na") ≡ Word 0 (codes "cnf") ∷ Punctuation 3 Open ∷ Word 4 (codes "'") ∷ Punctuation 9 Comma ∷ Word 17 (codes "axiom") ∷ Punctuation 22 Comma ∷ Word 23 (codes "X") ∷ Punctuation 24 Unequal ∷ Bad 26 Unsupported ∷ Word 30 (codes "a") ∷ []
tokenized = refl

-- ---- what the same items of the problem language state

abbrev States : List ℕ → List ℕ → Type 0
States bytes items = cnf_problem_of bytes ≡ problem_of items

syllogism : States (codes "cnf(a1,axiom,( ~ p(X) | q(X) )). cnf(2,axiom,p(x)). cnf('3',negated_conjecture,~ q(x)).") (codes "set(binary_res). set(factor). list(usable). -p(x) | q(x). p(c_x). end_of_list. list(sos). -q(c_x). end_of_list.")
syllogism = refl

-- without a goal all clauses are of sos; where `=` occurs, x=x follows
unequal : States (codes "cnf(a,axiom,a != c_a). cnf(b,plain,~ x = u(Y,Y)). cnf(c,lemma,$false).") (codes "set(binary_res). set(factor). set(para_from). set(para_into). list(sos). a!=c_c_a. c_x!=u(xY,xY). $F. end_of_list. list(usable). x=x. end_of_list.")
unequal = refl

-- ---- faults

abbrev Refused : List ℕ → ℕ → InputKind → Type 0
Refused bytes at kind = cnf_problem_of bytes ≡ Err (place at kind)

cut_off : Refused (codes "cnf(a,axiom,p") 13 Truncated
cut_off = refl

open_comment : Refused (codes "cnf(a,axiom,p). /*/ %\n") 22 Truncated
open_comment = refl

other_form : Refused (codes "fof(a,axiom,p).") 0 Unsupported
other_form = refl

unknown_role : Refused (codes "cnf(a,$axiom,p).") 6 UnknownName
unknown_role = refl

conjecture : Refused (codes "cnf(a,conjecture,p).") 6 Unsupported
conjecture = refl

-- a bad byte of a quoted name, there and elsewhere
bad_name : Refused (codes "cnf('a\\',axiom,p).") 6 Unsupported
bad_name = refl

bad_name_of_bytes : Refused (codes "cnf('aé',axiom,p).") 6 NotText
bad_name_of_bytes = refl

quoted_role : Refused (codes "cnf(a,'é',p).") 6 Unsupported
quoted_role = refl

upper_name : Refused (codes "cnf(Ab,axiom,p).") 4 Unexpected
upper_name = refl

dollar_name : Refused (codes "cnf(a$,axiom,p).") 4 Unsupported
dollar_name = refl

variable_alone : Refused (codes "cnf(a,axiom,X | p).") 14 Unexpected
variable_alone = refl

variable_with_arguments : Refused (codes "cnf(a,axiom,p(X(a))).") 15 Unexpected
variable_with_arguments = refl

tilde_unequal : Refused (codes "cnf(a,axiom,~ a != b).") 16 Unexpected
tilde_unequal = refl

annotations : Refused (codes "cnf(a,axiom,p,file).") 13 Unsupported
annotations = refl

digits : Refused (codes "cnf(a,axiom,p 12).") 14 Unsupported
digits = refl

digits_behind : Refused (codes "cnf(a,axiom,p) 12.") 15 Unexpected
digits_behind = refl

end_of_list : Refused (codes "cnf(a,axiom,p(end_of_list)).") 14 Unsupported
end_of_list = refl

end_of_list_behind : Refused (codes "cnf(a,axiom,p end_of_list).") 14 Unexpected
end_of_list_behind = refl

ninth_argument : Refused (codes "cnf(a,axiom,(p(a,b,c,d,e,f(X,Y),g,h,i))).") 35 TooMany
ninth_argument = refl

-- ---- with small bounds in place of the true ones

abbrev small : Bounds
small = record { arity = 3; clauses = 2; weight = 6; depth = 3; symbols = 4 }

abbrev RefusedSmall : List ℕ → ℕ → InputKind → Type 0
RefusedSmall bytes at kind = cnf_problem_within small bytes ≡ Err (place at kind)

-- the parenthesis round the formula of a third clause
clauses : RefusedSmall (codes "cnf(a,axiom,p). cnf(a,axiom,q). cnf(a,axiom,(p)).") 44 TooMany
clauses = refl

-- the clause x=x would be the third
added_clause : RefusedSmall (codes "cnf(a,axiom,p). cnf(a,axiom,a=a).") 33 TooMany
added_clause = refl

weight : RefusedSmall (codes "cnf(a,axiom,(~p(a) | ~ a = a | p(a))).") 33 TooHeavy
weight = refl

depth : RefusedSmall (codes "cnf(a,axiom,(p | ~ f(f(X)) = a)).") 27 TooDeep
depth = refl

-- x and c_x are two constants
symbols : RefusedSmall (codes "cnf(a,axiom,p(x,c_x,Y)). cnf(a,axiom,q(x)).") 37 TooMany
symbols = refl

-- Proof sections that are printed and read, by computation.
use Rattle.std.proofs.Common.{◌≡◌, refl, ℕ, List, [], ◌∷◌, Bool, true, false, Ok}
use Rattle.std.specs.Prelude.{codes}
use Rattle.std.specs.Fmt.{digits}
use Rattle.sc_term.specs.declared.SymId.{SymId}
use Rattle.sc_term.specs.declared.Term.{Term}
use Rattle.sc_term.specs.declared.Term.TheVariants.{Var, App}
use Rattle.sc_term.specs.declared.Literal.{Literal}
use Rattle.sc_term.specs.declared.Clause.{Clause}
use Rattle.sc_term.specs.declared.Line.{Line}
use Rattle.sc_term.specs.declared.Step.TheVariants.{Input, Instance, Resolve, Merge, Para, Flip}
use Rattle.sc_term.specs.declared.Side.TheVariants.{Left}
use Rattle.sc_term.specs.declared.symbol.Role.TheVariants.{Function, Predicate}
use Rattle.sc_term.specs.declared.symbol.Symbol.{Symbol}
use Rattle.sc_term.specs.Symbol.{equality}
use Rattle.sc_text_rules.specs.ProofText.{proof_text}
use Rattle.sc_text_rules.specs.ProofReading.{proof_of}
use Rattle.sc_text_rules.proofs.TextLaws.{text-Var, text-App}

abbrev pub symbols : List Symbol
symbols =
    equality ∷ record { name = codes "p"; arity = 1; role = Predicate } ∷ record { name = codes "a"; arity = 0; role = Function }
    ∷ record { name = codes "q"; arity = 1; role = Predicate } ∷ record { name = codes "f"; arity = 2; role = Function } ∷ []

abbrev pub id : ℕ → SymId
id n = record { 0 = n }

abbrev pub a : Term
a = App (id 2) []

abbrev pub p : Bool → Term → Literal
p positive t = record { positive = positive; pred = id 1; args = t ∷ [] }

abbrev pub q : Bool → Term → Literal
q positive t = record { positive = positive; pred = id 3; args = t ∷ [] }

abbrev pub clause : List Literal → Clause
clause ls = record { literals = ls }

abbrev pub lines : List Line
lines =
    record { step = Input 1; clause = clause (p true a ∷ []) } ∷ record { step = Input 2; clause = clause (p false (Var 0) ∷ q true (Var 0) ∷ []) }
    ∷ record { step = Input 3; clause = clause (q false a ∷ []) } ∷ record { step = Instance 2 (a ∷ []); clause = clause (p false a ∷ q true a ∷ []) }
    ∷ record { step = Resolve 4 1 1 1; clause = clause (q true a ∷ []) } ∷ record { step = Resolve 5 1 3 1; clause = clause [] } ∷ []

abbrev text : List ℕ
text = codes "proof.\n1 input 1 : p(a).\n2 input 2 : -p(x0) | q(x0).\n3 input 3 : -q(a).\n4 instance 2 (a) : -p(a) | q(a).\n5 resolve 4 1 1 1 : q(a).\n6 resolve 5 1 3 1 : $F.\nend_of_proof.\n"

printed : proof_text symbols lines ≡ text
unfolding digits
printed = simp (text-App, text-Var) refl

read_back : proof_of symbols text 0 ≡ Ok lines
read_back = refl

-- ---- every step, variables with leading zeros, a term list without a term, comments and white space

read_steps : proof_of symbols (codes "% before\nproof .1 para 3 1 left 2 2 (1,12) : f(x00,a)!=x7|-(a=a).\n2 flip 1 0001 :$F. 3 instance 2 ( ) : $F. 4 merge 4294967295 2 : p(f(x1 , x0)). 5 instance 4 (f(a,x1),x9) : $F. end_of_proof. % end") 0
    ≡ Ok (record { step = Para 3 1 Left 2 2 (1 ∷ 12 ∷ []); clause = clause (record { positive = false; pred = id 0; args = App (id 4) (Var 0 ∷ a ∷ []) ∷ Var 7 ∷ [] } ∷ record { positive = false; pred = id 0; args = a ∷ a ∷ [] } ∷ []) }
    ∷ record { step = Flip 1 1; clause = clause [] } ∷ record { step = Instance 2 []; clause = clause [] }
    ∷ record { step = Merge 4294967295 2; clause = clause (p true (App (id 4) (Var 1 ∷ Var 0 ∷ [])) ∷ []) }
    ∷ record { step = Instance 4 (App (id 4) (a ∷ Var 1 ∷ []) ∷ Var 9 ∷ []); clause = clause [] } ∷ [])
read_steps = refl

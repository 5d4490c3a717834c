-- What holds at some tokens where no limit is passed at them or before.
use Rattle.std.proofs.Common.{◌≡◌, ◌∙◌, sym, ap, refl, ℕ, List, [], ◌∷◌, ◌++◌, append_assoc, drop, Option, Some, None}
use Rattle.std.proofs.lemmas.List.{append-nil}
use Rattle.sc_input_rules.specs.declared.fault.InputKind.{InputKind}
use Rattle.sc_input_rules.specs.declared.fault.InputKind.TheVariants.{OutOfRange, TooMany, TooHeavy, TooDeep, BadDemodulator}
use Rattle.sc_input_rules.specs.declared.fault.Place.{Place}
use Rattle.sc_input_rules.specs.declared.token.Token.{Token}
use Rattle.sc_input_rules.specs.Position.{Position, position, clause_so_far}
use Rattle.sc_input_rules.specs.Faults.{place, passed, passed_behind}
use Rattle.sc_input_rules.specs.ClauseLimits.{arity_told, weight_told, depth_told}
use Rattle.sc_input_rules.specs.ProblemLimits.{problem_limits, problem_bounds, problem_fault_at, number_told, clauses_told, symbols_told, demodulators_told}

or_else : Option Place → Option Place → Option Place
or_else o p = elim o [ Some q ↦ Some q | None ↦ p ]

both_none : (o p : Option Place) → or_else o p ≡ None → (o ≡ None) × (p ≡ None)
unfolding or_else
both_none (Some q) p e = absurd cc
both_none None p e = (refl, e)

-- ---- in a part of the tokens

module _ (fault_at : List Token → Option Place) where
  pub unpassed_split : (earlier xs ys : List Token) → passed_behind fault_at earlier (xs ++ ys) ≡ None → (passed_behind fault_at earlier xs ≡ None) × (passed_behind fault_at (earlier ++ xs) ys ≡ None)
  unfolding or_else
  unpassed_split earlier [] ys e = (refl, ap (λ (us : List Token). passed_behind fault_at us ys) (append-nil earlier) ∙ e)
  unpassed_split earlier (x ∷ xs) ys e =
      let b = both_none (fault_at (earlier ++ x ∷ [])) (passed_behind fault_at (earlier ++ x ∷ []) (xs ++ ys)) e in
      let s = unpassed_split (earlier ++ x ∷ []) xs ys b.1 in (
        ap (λ (o : Option Place). or_else o (passed_behind fault_at (earlier ++ x ∷ []) xs)) b.0 ∙ s.0,
        ap (λ (us : List Token). passed_behind fault_at us ys) (sym (append_assoc earlier (x ∷ []) xs)) ∙ s.1,
      )

  pub unpassed_at : (earlier : List Token) (t : Token) (ts : List Token) → passed_behind fault_at earlier (t ∷ ts) ≡ None → fault_at (earlier ++ t ∷ ts) ≡ None
  unfolding or_else
  unpassed_at earlier t [] e = (both_none (fault_at (earlier ++ t ∷ [])) None e).0
  unpassed_at earlier t (u ∷ us) e =
      let b = both_none (fault_at (earlier ++ t ∷ [])) (passed_behind fault_at (earlier ++ t ∷ []) (u ∷ us)) e in
      ap fault_at (sym (append_assoc earlier (t ∷ []) (u ∷ us))) ∙ unpassed_at (earlier ++ t ∷ []) u us b.1

-- ---- each limit

or_place : InputKind → Option ℕ → Option Place → Option Place
or_place kind o p = elim o [ Some at ↦ Some (place at kind) | None ↦ p ]

not_told : (kind : InputKind) (o : Option ℕ) (p : Option Place) → or_place kind o p ≡ None → (o ≡ None) × (p ≡ None)
unfolding or_place
not_told kind (Some at) p e = absurd cc
not_told kind None p e = (refl, e)

-- no limit of a problem is passed
pub record IsClear (p : Position) : Type 0 where
  pub number : number_told p ≡ None
  pub arity : arity_told problem_bounds (clause_so_far p) ≡ None
  pub clauses : clauses_told problem_bounds p ≡ None
  pub weight : weight_told problem_bounds (clause_so_far p) ≡ None
  pub depth : depth_told problem_bounds (clause_so_far p) ≡ None
  pub symbols : symbols_told problem_bounds p ≡ None
  pub demodulators : demodulators_told p ≡ None

pub is_clear : (tokens : List Token) → problem_fault_at problem_bounds tokens ≡ None → IsClear (position tokens)
unfolding or_place
is_clear tokens e =
    let p = position tokens in
    let c = clause_so_far p in
    let behind = λ (n : ℕ). passed (drop n (problem_limits problem_bounds)) (position tokens) in
    let a = not_told OutOfRange (number_told p) (behind 1) e in
    let b = not_told TooMany (arity_told problem_bounds c) (behind 2) a.1 in
    let d = not_told TooMany (clauses_told problem_bounds p) (behind 3) b.1 in
    let f = not_told TooHeavy (weight_told problem_bounds c) (behind 4) d.1 in
    let g = not_told TooDeep (depth_told problem_bounds c) (behind 5) f.1 in
    let h = not_told TooMany (symbols_told problem_bounds p) (behind 6) g.1 in
    let k = not_told BadDemodulator (demodulators_told p) None h.1 in
    record { number = a.0; arity = b.0; clauses = d.0; weight = f.0; depth = g.0; symbols = h.0; demodulators = k.0 }

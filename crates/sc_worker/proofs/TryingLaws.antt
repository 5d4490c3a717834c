-- Claims that are true, and the reasons for which a task is given up.
use Rattle.std.proofs.Common.{◌≡◌, ◌∙◌, sym, ap, subst, refl, ℕ, ◌-◌, ◌==◌, Bool, true, false, if◌then◌else◌, List, [], ◌∷◌, ◌++◌, map, length, Option, Some, None, IsSomeAnd, slice_get, arith}
use Rattle.std.specs.Prelude.{IfOk, Result, MatchOption}
use Rattle.std.specs.List.{All, AllByRecursion}
use Rattle.std.proofs.lemmas.List.{length-append, same_from_push}
use Rattle.std.proofs.lemmas.List.Elements.{All-from_recursion, recursion_from_All, All-map, All-push}
use Rattle.std.proofs.lemmas.Option.{slice_get_within, get_or_from_slice_get}
use Rattle.sc_term.specs.declared.Clause.{Clause}
use Rattle.sc_term.specs.declared.Numbered.{Numbered}
use Rattle.sc_term.specs.declared.symbol.Symbol.{Symbol}
use Rattle.sc_term.specs.Numbering.{numbered}
use Rattle.sc_input_rules.specs.Problem.{Stated}
use Rattle.sc_input_rules.specs.WellFormed.{IsInput, IsOver, IsProblem}
use Rattle.sc_interp.specs.declared.plain.Claim.{Claim}
use Rattle.sc_interp.specs.Structure.{Structure, Satisfies}
use Rattle.sc_interp.specs.Versions.{AreTrue, IsFirstFalse}
use Rattle.sc_find.specs.Models.{Task, IsFirstModel}
use Rattle.sc_find_laws.specs.Meaning.{IsOverSignature, AreTrueIn, FoundModelsAreTrue}
use Rattle.sc_worker.specs.FinderList.{claimed_clauses, with_claim, task_for}
use Rattle.sc_worker.specs.Keeping.{AreClaimsOver}
use Rattle.sc_worker.specs.Trying.{IsTried}
use Rattle.sc_worker.specs.declared.trying.Tried.{Tried}

-- ---- claims are true

unmapped : {X Y : Type 0} (P : X → Type 0) (f : Y → X) (ys : List Y) → AllByRecursion P (map f ys) → AllByRecursion (λ y. P (f y)) ys
unmapped P f [] h = tt
unmapped P f (y ∷ ys) h = (h.0, unmapped P f ys h.1)

claims_true : (t : Structure) (claims : List Claim) → AreTrueIn t (claimed_clauses claims) → AreTrue t claims
claims_true t claims h =
    All-from_recursion (λ (claim : Claim). Satisfies t claim.clause) claims
    (unmapped (Satisfies t) (λ (claim : Claim). claim.clause) claims (recursion_from_All (Satisfies t) (claimed_clauses claims) h))

-- the claims are true in the tables of the first model of a task that has their clauses
pub first_is_true : (task : Task) (t : Structure) (claims : List Claim) → FoundModelsAreTrue → IsOverSignature task → task.clauses ≡ claimed_clauses claims
    → IsFirstModel task None t → AreTrue t claims
first_is_true task t claims law over clauses first = claims_true t claims (subst (AreTrueIn t) clauses (law task None t over first))

element : {X : Type 0} (P : X → Type 0) (xs : List X) (k : ℕ) (x : X) → All P xs → slice_get xs k ≡ Some x → P x
element P xs k x h at = subst P (get_or_from_slice_get xs k x x at) (h k x (slice_get_within xs k x at))

-- where all claims are true, none is the first that isn't
pub none_is_false : (t : Structure) (claims : List Claim) (n : ℕ) → AreTrue t claims → IsFirstFalse t claims n → ⊥
none_is_false t claims n all first = by (n == 0) refl first.here
  where
    at_place : (o : Option Claim) → slice_get claims (n - 1) ≡ o → IsSomeAnd o (λ claim. ¬ Satisfies t claim.clause) → ⊥
    at_place None e h = h
    at_place (Some claim) e h = h (element (λ (claim : Claim). Satisfies t claim.clause) claims (n - 1) claim all e)

    by : (b : Bool) → (n == 0) ≡ b → IsSomeAnd (numbered claims n) (λ claim. ¬ Satisfies t claim.clause) → ⊥
    by true e h = subst (λ (b : Bool). IsSomeAnd (if b then None else slice_get claims (n - 1)) (λ claim. ¬ Satisfies t claim.clause)) e h
    by false e h = at_place (slice_get claims (n - 1)) refl (subst (λ (b : Bool). IsSomeAnd (if b then None else slice_get claims (n - 1)) (λ claim. ¬ Satisfies t claim.clause)) e h)

-- ---- one claim less

none_behind : (claims : List Claim) (last : Claim) → ◌≡◌ {A = List Claim} [] (claims ++ last ∷ []) → ⊥
none_behind claims last e = let long = ap length e ∙ length-append claims (last ∷ []) in omega (arith, long)

pub popped : (old new : List Claim) (r : Option Claim) → MatchOption r ((old ≡ []) × (new ≡ [])) (λ last. old ≡ new ++ last ∷ [])
    → (before : List Claim) (last : Claim) → old ≡ before ++ last ∷ [] → new ≡ before
popped old new None h before last e = absurd (none_behind before last (sym h.0 ∙ e))
popped old new (Some x) h before last e = (same_from_push new before x last (sym h ∙ e)).0

-- ---- clauses over the signature

pub input_over : (problem : Stated) (k : ℕ) (c : Clause) → IsProblem problem → slice_get problem.inputs k ≡ Some c → IsOver problem.symbols c
input_over problem k c is at = (element (IsInput problem.symbols) problem.inputs k c (All-from_recursion (IsInput problem.symbols) problem.inputs is.inputs) at).over

pub claims_over : (symbols : List Symbol) (claims new : List Claim) (p : Numbered) → AreClaimsOver symbols claims → IsOver symbols p.clause → new ≡ with_claim claims p → AreClaimsOver symbols new
claims_over symbols claims new p over one is =
    subst (AreClaimsOver symbols) (sym is) (All-push (λ (claim : Claim). IsOver symbols claim.clause) claims (record { number = p.number; clause = p.clause }) over one)

pub task_over : (problem : Stated) (size : ℕ) (claims : List Claim) → IsProblem problem → AreClaimsOver problem.symbols claims → IsOverSignature (task_for problem size claims)
task_over problem size claims is over = record {
  signature = is.signature;
  over = All-map (IsOver problem.symbols) (λ (claim : Claim). claim.clause) claims over;
}

-- ---- one task

pub tried_of : {E : Type 0} (job task : Task) (budget : ℕ) (claims : List Claim) (r : Result Tried E) → job ≡ task → IfOk r (IsTried job budget claims) → IfOk r (IsTried task budget claims)
tried_of job task budget claims r is h = subst (λ (t : Task). IfOk r (IsTried t budget claims)) is h

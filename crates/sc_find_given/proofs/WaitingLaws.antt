-- What is found, or which cell it waits for, taken from one question to another.
use Rattle.std.proofs.Common.{◌≡◌, ◌∙◌, sym, ap, subst, refl, ℕ, ◌≤◌, List, ◌++◌, length, Bool, true, false, not, nat_eq, if◌then◌else◌, Option, Some, None}
use Rattle.std.proofs.Math.Bool.{beq}
use Rattle.std.specs.Option.{option_map}
use Rattle.std.proofs.lemmas.Bool.{eq-eqb}
use Rattle.std.specs.Prelude.{Result, Ok, Err}
use Rattle.sc_term.specs.declared.SymId.{SymId}
use Rattle.sc_term.specs.Interpretation.{are_equal}
use Rattle.sc_find_given.specs.Lookup.{found_atom}
use Rattle.sc_find_given.specs.Waiting.{Sees}

pub sees_found : {A : Type 0} (find : List ℕ → Option A) (given : List ℕ) (r : Result A ℕ) (x : A) → Sees find given r → r ≡ Ok x → (more : List ℕ) → find (given ++ more) ≡ Some x
sees_found find given r x h e = subst (Sees find given) e h

pub sees_less : {A B : Type 0} (find : List ℕ → Option A) (other : List ℕ → Option B) (given : List ℕ) (r : Result A ℕ) (cell : ℕ) → Sees find given r → r ≡ Err cell
    → ((g : List ℕ) → find g ≡ None → other g ≡ None) → Sees other given (Err cell)
sees_less find other given r cell h e f = let k = subst (Sees find given) e h in (k.0, λ more most. f (given ++ more) (k.1 more most))

pub sees_same : {A : Type 0} (find other : List ℕ → Option A) (given : List ℕ) (r : Result A ℕ) → ((more : List ℕ) → find (given ++ more) ≡ other (given ++ more))
    → Sees find given r → Sees other given r
sees_same find other given (Ok x) same h = λ more. sym (same more) ∙ h more
sees_same find other given (Err cell) same h = (h.0, λ more most. sym (same more) ∙ h.1 more most)

-- ---- atoms

pub equation_is : (look : SymId → Option (List ℕ) → Option ℕ) (p : SymId) (values : Option (List ℕ)) → p.0 ≡ 0 → option_map are_equal values ≡ found_atom look p values
equation_is look p values e = sym (ap (λ b. if b then option_map are_equal values else option_map (nat_eq 1) (look p values)) (eq-eqb p.0 0 e))

some_bool : (a b : Bool) → ◌≡◌ {A = Option Bool} (Some a) (Some b) → a ≡ b
some_bool true true e = refl
some_bool false false e = refl
some_bool true false e = cc
some_bool false true e = cc

-- an atom of the literal's own sign doesn't make it false
pub own_sign : (o : Option Bool) (truth positive : Bool) → o ≡ Some truth → beq truth positive ≡ true → ¬ (o ≡ Some (not positive))
own_sign o truth positive is same other = by truth positive same (some_bool truth (not positive) (sym is ∙ other))
  where
    by : (t p : Bool) → beq t p ≡ true → ¬ (t ≡ not p)
    by true true h e = cc
    by true false h e = cc
    by false true h e = cc
    by false false h e = cc

pub other_sign : (o : Option Bool) (truth positive : Bool) → o ≡ Some truth → beq truth positive ≡ false → o ≡ Some (not positive)
other_sign o truth positive is other = is ∙ ap Some (by truth positive other)
  where
    by : (t p : Bool) → beq t p ≡ false → t ≡ not p
    by true true h = cc
    by true false h = refl
    by false true h = refl
    by false false h = cc

-- The proof of a clause, put together from the derivations.
use Rattle.std.specs.Prelude.{◌≡◌, ◌<◌, ℕ, ◌+◌, ◌-◌, List, [], ◌∷◌, ◌++◌, Option, Some, None, IsSomeAnd, length, fold, slice_index, nat_eq, if◌then◌else◌, ◌↔◌, Contains}
use Rattle.std.specs.List.{AllPairs}
use Rattle.sc_term.specs.declared.Clause.{Clause}
use Rattle.sc_term.specs.declared.Line.{Line}
use Rattle.sc_term.specs.declared.Step.{Step}
use Rattle.sc_term.specs.declared.Step.TheVariants.{Input, Instance, Resolve, Merge, Para, Flip}
use Rattle.sc_term.specs.Numbering.{numbered}
use Rattle.sc_steps.specs.declared.derivations.derivation.Derived.{Derived}
use Rattle.sc_steps.specs.Derivation.{derived_at, IsInputAt}

-- the goal, and each clause that the derivation of a needed one names
pub data IsNeeded (inputs : List Clause) (derived : List Derived) (goal : ℕ) : ℕ → Type 0 where
  goal_itself : IsNeeded inputs derived goal goal
  named : (n m k : ℕ) → IsNeeded inputs derived goal n → IsSomeAnd (derived_at inputs derived n) (λ d. IsInputAt d.lines m k)
      → IsNeeded inputs derived goal m

-- the numbers of the needed clauses, rising
pub record AreNeeded (inputs : List Clause) (derived : List Derived) (goal : ℕ) (ns : List ℕ) : Type 0 where
  pub rising : AllPairs (λ m n. m < n) ns
  pub needed : (n : ℕ) → Contains ns n ↔ IsNeeded inputs derived goal n

-- ---- the lines of one derivation

-- the number of the clause that an `input` step names
abbrev pub named_by : Step → Option ℕ
named_by (Input n) = Some n
named_by (Instance j terms) = None
named_by (Resolve j a k b) = None
named_by (Merge j a) = None
named_by (Para j a side k b path) = None
named_by (Flip j a) = None

-- what line k has become
abbrev pub line_of : List ℕ → ℕ → ℕ
line_of became k = slice_index became (k - 1)

-- the step, with the lines that it names as they have become
abbrev pub moved : List ℕ → Step → Step
moved became (Input n) = Input n
moved became (Instance j terms) = Instance (line_of became j) terms
moved became (Resolve j a k b) = Resolve (line_of became j) a (line_of became k) b
moved became (Merge j a) = Merge (line_of became j) a
moved became (Para j a side k b path) = Para (line_of became j) a side (line_of became k) b path
moved became (Flip j a) = Flip (line_of became j) a

-- the lines of the proof so far, and the lines that those of a derivation have become
pub record Joined : Type 0 where
  pub lines : List Line
  pub became : List ℕ

abbrev pub joined : List Line → List ℕ → Joined
joined lines became = record { lines = lines; became = became }

-- a line of the derivation: one that names a clause becomes the last line of that clause, and another joins the proof
abbrev pub join_named : (ℕ → ℕ) → Joined → Line → Option ℕ → Joined
join_named last so line (Some n) = record so { became = so.became ++ last n ∷ [] }
join_named last so line None = record {
  lines = so.lines ++ record { step = moved so.became line.step; clause = line.clause } ∷ [];
  became = so.became ++ (length so.lines + 1) ∷ [];
}

abbrev pub join_line : (ℕ → ℕ) → Joined → Line → Joined
join_line last so line = join_named last so line (named_by line.step)

abbrev pub join_lines : (ℕ → ℕ) → List Line → List Line → Joined
join_lines last lines derivation = fold (join_line last) (joined lines []) derivation

-- ---- the lines of all needed clauses

-- the lines of the proof so far, and the last line of each clause in it
pub record Spliced : Type 0 where
  pub lines : List Line
  pub last : ℕ → ℕ

abbrev pub spliced : List Line → (ℕ → ℕ) → Spliced
spliced lines last = record { lines = lines; last = last }

-- k is the last line of clause n
abbrev pub with_last : (ℕ → ℕ) → ℕ → ℕ → ℕ → ℕ
with_last last n k m = if nat_eq n m then k else last m

abbrev pub input_line : ℕ → Clause → Line
input_line n c = record { step = Input n; clause = c }

-- a derived clause gives the lines of its derivation
abbrev pub join_derived : Spliced → ℕ → List Line → Spliced
join_derived so n derivation =
    let all = join_lines so.last so.lines derivation in
    spliced all.lines (with_last so.last n (line_of all.became (length derivation)))

-- an input clause gives its line
abbrev pub join_input : Spliced → ℕ → Clause → Spliced
join_input so n c = spliced (so.lines ++ input_line n c ∷ []) (with_last so.last n (length so.lines + 1))

abbrev pub join_either : Spliced → ℕ → Option Clause → Option Derived → Spliced
join_either so n (Some c) d = join_input so n c
join_either so n None (Some d) = join_derived so n d.lines
join_either so n None None = so

abbrev pub join_clause : List Clause → List Derived → Spliced → ℕ → Spliced
join_clause inputs derived so n = join_either so n (numbered inputs n) (derived_at inputs derived n)

abbrev pub join_clauses : List Clause → List Derived → List ℕ → Spliced
join_clauses inputs derived ns = fold (join_clause inputs derived) (spliced [] (λ n. 0)) ns

-- ---- the proof

-- the lines are the proof of clause number `goal`
pub data IsSplice (inputs : List Clause) (derived : List Derived) : ℕ → List Line → Type 0 where
  -- an input clause
  is_input : (goal : ℕ) (c : Clause) → numbered inputs goal ≡ Some c → IsSplice inputs derived goal (input_line goal c ∷ [])
  -- a clause whose derivation ends with `input m`
  is_clause : (goal m : ℕ) (lines : List Line) (d : Derived) → derived_at inputs derived goal ≡ Some d
      → IsInputAt d.lines m (length d.lines) → IsSplice inputs derived m lines → IsSplice inputs derived goal lines
  -- any other: the needed clauses in rising number
  is_derived : (goal : ℕ) (ns : List ℕ) (d : Derived) → derived_at inputs derived goal ≡ Some d
      → ((m : ℕ) → ¬ IsInputAt d.lines m (length d.lines)) → AreNeeded inputs derived goal ns
      → IsSplice inputs derived goal (join_clauses inputs derived ns).lines

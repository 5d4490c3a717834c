-- The splice of an empty clause is a proof of the input clauses.
use Rattle.std.proofs.Common.{◌≡◌, ◌∙◌, sym, ap, refl, subst, ℕ, zero, suc, ◌+◌, ◌-◌, ◌<◌, ◌≤◌, ◌==◌, Bool, true, false, if◌then◌else◌, List, [], ◌∷◌, ◌++◌, length, take, map, get_or, slice_get, slice_index, Option, Some, None, option_map, arith, inl, inr, ◌⊎◌, length-append, fold}
use Rattle.std.specs.List.{AllPairs, Contains}
use Rattle.std.proofs.lemmas.Bool.{cases_lt, eq-eqb}
use Rattle.std.proofs.lemmas.List.Elements.{Contains-append_left, Contains-append_cases}
use Rattle.std.proofs.Math.ListN.{get_or-append}
use Rattle.std.proofs.lemmas.List.Sums.{fold-append}
use Rattle.std.proofs.lemmas.Option.{slice_get-map, slice_get_past}
use Rattle.std.proofs.Math.Seq.{get_or-append_seam}
use Rattle.sc_term.specs.declared.Clause.{Clause}
use Rattle.sc_term.specs.declared.Line.{Line}
use Rattle.sc_term.specs.declared.Step.TheVariants.{Input}
use Rattle.sc_term.specs.Numbering.{numbered}
use Rattle.sc_term.specs.Proof.{clause_of, Follows, IsStep, IsStepAt, AreSteps, IsProof}
use Rattle.sc_steps.specs.declared.derivations.derivation.Derived.{Derived}
use Rattle.sc_steps.specs.Derivation.{all_clauses, derived_at, IsInputAt, AreDerived}
use Rattle.sc_steps.specs.Splice.{IsNeeded, goal_itself, named, AreNeeded, named_by, line_of, moved, Joined, join_named, join_line, join_lines, Spliced, input_line, join_derived, join_either, join_clause, join_clauses, IsSplice, is_input, is_clause, is_derived}
use Rattle.sc_steps.proofs.ListLaws.{some_and, mapped, at_number}
use Rattle.sc_steps.proofs.LineLaws.{number_at, number_in_whole, number_of_end, number_within, number_in_front, some_so, map_some, steps_push}
use Rattle.sc_steps.proofs.Splicing.{named_step, Keeps, keeps_less, adds_input, adds_derived}

-- ---- numbers of clauses

in_back : {A : Type 0} (xs ys : List A) (k i : ℕ) → k ≡ length xs + i → slice_get (xs ++ ys) k ≡ slice_get ys i
in_back [] ys k i e = ap (slice_get ys) (omega (arith, e))
in_back (x ∷ xs) ys zero i e = absurd (omega (arith, e))
in_back (x ∷ xs) ys (suc k) i e = in_back xs ys k i (omega (arith, e))

in_front_part : {A : Type 0} (xs ys : List A) (i : ℕ) → i < length xs → slice_get (xs ++ ys) i ≡ slice_get xs i
in_front_part [] ys i h = absurd (omega arith)
in_front_part (x ∷ xs) ys zero h = refl
in_front_part (x ∷ xs) ys (suc i) h = in_front_part xs ys i (omega arith)

-- a derived clause has its number among all clauses
pub derived_number : (inputs : List Clause) (derived : List Derived) (n : ℕ) (d : Derived) → derived_at inputs derived n ≡ Some d
    → (length inputs < n) × (numbered (all_clauses inputs derived) n ≡ Some d.clause)
derived_number inputs derived n d e =
    let at = at_number derived (n - length inputs) d e in
    let place : n - 1 ≡ length inputs + (n - length inputs - 1) = omega (arith, at.0) in
    let clauses = map (λ (d : Derived). d.clause) derived in (
      omega (arith, at.0),
      number_at (inputs ++ clauses) n d.clause (omega (arith, at.0))
          (in_back inputs clauses (n - 1) (n - length inputs - 1) place
          ∙ slice_get-map (λ (d : Derived). d.clause) derived (n - length inputs - 1) ∙ ap (option_map (λ (d : Derived). d.clause)) at.1),
    )

-- a clause that has a number is an input clause or a derived one
pub record IsOfDerived (inputs : List Clause) (derived : List Derived) (n : ℕ) (c : Clause) : Type 0 where
  pub beyond : numbered inputs n ≡ None
  pub one : Derived
  pub at : derived_at inputs derived n ≡ Some one
  pub has : one.clause ≡ c

past : {A : Type 0} (xs : List A) (n : ℕ) → length xs < n → numbered xs n ≡ None
past xs n h = by (n == 0) refl
  where
    by : (b : Bool) → (n == 0) ≡ b → numbered xs n ≡ None
    by true z = ap (λ b. if b then None else slice_get xs (n - 1)) z
    by false z = ap (λ b. if b then None else slice_get xs (n - 1)) z ∙ slice_get_past xs (n - 1) (omega arith)

pub number_cases : (inputs : List Clause) (derived : List Derived) (n : ℕ) (c : Clause) → numbered (all_clauses inputs derived) n ≡ Some c
    → (numbered inputs n ≡ Some c) ⊎ IsOfDerived inputs derived n c
number_cases inputs derived n c e = elim (cases_lt (length inputs) n) [ inl h ↦ inr (beyond h) | inr h ↦ inl (within h) ]
  where
    clauses : List Clause
    clauses = map (λ (d : Derived). d.clause) derived

    at : (0 < n) × (slice_get (inputs ++ clauses) (n - 1) ≡ Some c)
    at = at_number (inputs ++ clauses) n c e

    within : n ≤ length inputs → numbered inputs n ≡ Some c
    within h = number_at inputs n c at.0 (sym (in_front_part inputs clauses (n - 1) (omega (arith, at.0, h))) ∙ at.1)

    beyond : length inputs < n → IsOfDerived inputs derived n c
    beyond h =
        let i = n - length inputs - 1 in
        let place : n - 1 ≡ length inputs + i = omega (arith, h) in
        let there : option_map (λ (d : Derived). d.clause) (slice_get derived i) ≡ Some c =
        sym (slice_get-map (λ (d : Derived). d.clause) derived i) ∙ sym (in_back inputs clauses (n - 1) i place) ∙ at.1 in
        let one = mapped (λ (d : Derived). d.clause) (slice_get derived i) c there in
        record {
          beyond = past inputs n h;
          one = one.0;
          at = number_at derived (n - length inputs) one.0 (omega (arith, h)) one.1;
          has = one.2;
        }

-- ---- what a derivation names

-- a clause that a derivation names has a smaller number, and is that of the line
pub record IsNamedFrom (clauses : List Clause) (lines : List Line) (n m k : ℕ) : Type 0 where
  pub smaller : m < n
  pub line : Line
  pub at : numbered lines k ≡ Some line
  pub has : numbered clauses m ≡ Some line.clause

step_of : (clauses : List Clause) (lines : List Line) (k : ℕ) (line : Line) → AreSteps clauses lines → numbered lines k ≡ Some line
    → IsStep clauses (take (k - 1) lines) line
step_of clauses lines k line steps e =
    let within = number_within lines k line e in
    let here : k - 1 + 1 ≡ k = omega (arith, within.0) in
    let at : IsStepAt clauses lines k = subst (IsStepAt clauses lines) here (steps (k - 1) (omega (arith, within.0, within.1))) in
    let step = some_and (numbered lines k) (λ one. IsStep clauses (take (k - 1) lines) one) at in
    let is : Some step.0 ≡ Some line = sym step.1 ∙ e in
    let same : step.0 ≡ line = cc in
    subst (λ one. IsStep clauses (take (k - 1) lines) one) same step.2

pub named_from : (inputs : List Clause) (derived : List Derived) (n m k : ℕ) (d : Derived) → AreDerived inputs derived → derived_at inputs derived n ≡ Some d
    → IsInputAt d.lines m k → IsNamedFrom (all_clauses inputs derived) d.lines n m k
named_from inputs derived n m k d fine at input =
    let clauses = all_clauses inputs derived in
    let line = some_and (numbered d.lines k) (λ (one : Line). one.step ≡ Input m) input in
    let step : Follows (take (n - 1) clauses) (take (k - 1) d.lines) line.0.clause line.0.step =
    step_of (take (n - 1) clauses) d.lines k line.0 (fine n d at).steps line.1 in
    let is : numbered (take (n - 1) clauses) m ≡ Some line.0.clause =
    subst (Follows (take (n - 1) clauses) (take (k - 1) d.lines) line.0.clause) line.2 step in
    let whole = number_in_front clauses (n - 1) m line.0.clause is in
    let before = (derived_number inputs derived n d at).0 in
    record { smaller = omega (arith, whole.0, before); line = line.0; at = line.1; has = whole.1 }

-- ---- rising numbers

pub head_least : (n : ℕ) (ns : List ℕ) → AllPairs (λ a b. a < b) (n ∷ ns) → (m : ℕ) → Contains ns m → n < m
head_least n ns rising m at = subst (λ x. n < x) at.2 (rising zero (suc at.0) m (omega arith) (omega (arith, at.1)))

pub tail_rises : (n : ℕ) (ns : List ℕ) → AllPairs (λ a b. a < b) (n ∷ ns) → AllPairs (λ a b. a < b) ns
tail_rises n ns rising i j d h k = rising (suc i) (suc j) d (omega arith) (omega arith)

pub one_more_in : (n : ℕ) (ns : List ℕ) (m : ℕ) → Contains ns m → Contains (n ∷ ns) m
one_more_in n ns m at = (suc at.0, omega (arith, at.1), at.2)

pub first_in : (n : ℕ) (ns : List ℕ) → Contains (n ∷ ns) n
first_in n ns = (zero, omega arith, refl)

pub in_cons : (n : ℕ) (ns : List ℕ) (m : ℕ) → Contains (n ∷ ns) m → (n ≡ m) ⊎ Contains ns m
in_cons n ns m (zero, h, e) = inl e
in_cons n ns m (suc k, h, e) = inr (k, omega (arith, h), e)

not_within_itself : (ns : List ℕ) (m : ℕ) → ns ≡ [] → ¬ Contains ns m
not_within_itself ns m e at = omega (arith, at.1, ap length e)

-- the greatest of rising numbers is the last
pub record EndsAt (ns : List ℕ) (g : ℕ) : Type 0 where
  pub front : List ℕ
  pub is : ns ≡ front ++ g ∷ []

ends_at : (ns : List ℕ) (g : ℕ) → AllPairs (λ a b. a < b) ns → Contains ns g → ((m : ℕ) → Contains ns m → m ≤ g) → EndsAt ns g
ends_at [] g rising at most = absurd (omega (arith, at.1))
ends_at (n ∷ []) g rising at most = elim (in_cons n [] g at) [
  | inl same ↦ record { front = []; is = ap (λ x. x ∷ []) same }
  | inr none ↦ absurd (omega (arith, none.1))
]
ends_at (n ∷ m ∷ ns) g rising at most = elim (in_cons n (m ∷ ns) g at) [
  | inl same ↦ absurd (omega (arith, same, head_least n (m ∷ ns) rising m (first_in m ns), most m (one_more_in n (m ∷ ns) m (first_in m ns))))
  | inr later ↦
      let rest = ends_at (m ∷ ns) g (tail_rises n (m ∷ ns) rising) later (λ k h. most k (one_more_in n (m ∷ ns) k h)) in
      record { front = n ∷ rest.front; is = ap (λ xs. n ∷ xs) rest.is }
]

-- ---- the last line of a derivation

pub record EndsIn (lines : List Line) : Type 0 where
  pub front : List Line
  pub line : Line
  pub is : lines ≡ front ++ line ∷ []

ends_in : (lines : List Line) → 0 < length lines → EndsIn lines
ends_in [] h = absurd (omega arith)
ends_in (l ∷ []) h = record { front = []; line = l; is = refl }
ends_in (l ∷ m ∷ ls) h = let rest = ends_in (m ∷ ls) (omega arith) in record { front = l ∷ rest.front; line = rest.line; is = ap (λ xs. l ∷ xs) rest.is }

became_long : (last : ℕ → ℕ) (so : Joined) (rest : List Line) → length (fold (join_line last) so rest).became ≡ length so.became + length rest
became_long last so [] = omega arith
became_long last so (l ∷ rest) = became_long last (join_line last so l) rest ∙ omega (arith, by (named_by l.step))
  where
    by : (o : Option ℕ) → length (join_named last so l o).became ≡ length so.became + 1
    by (Some n) = omega (arith, length-append so.became (last n ∷ []))
    by None = omega (arith, length-append so.became ((length so.lines + 1) ∷ []))

-- where the last line of a derivation names no clause, it becomes the last line of the proof
goal_line : (last : ℕ → ℕ) (lines derivation : List Line) → 0 < length derivation → ((m : ℕ) → ¬ IsInputAt derivation m (length derivation))
    → line_of (join_lines last lines derivation).became (length derivation) ≡ length (join_lines last lines derivation).lines
goal_line last lines derivation some other =
    subst (λ ds. line_of (join_lines last lines ds).became (length ds) ≡ length (join_lines last lines ds).lines) (sym end.is)
    (subst (λ (so : Joined). line_of so.became (length (end.front ++ end.line ∷ [])) ≡ length so.lines) (sym joined) (by (named_by end.line.step) refl))
  where
    end : EndsIn derivation
    end = ends_in derivation some

    start : Joined
    start = record { lines = lines; became = [] }

    before : Joined
    before = fold (join_line last) start end.front

    joined : join_lines last lines (end.front ++ end.line ∷ []) ≡ join_line last before end.line
    joined = fold-append (join_line last) start end.front (end.line ∷ [])

    long : length (end.front ++ end.line ∷ []) ≡ length end.front + 1
    long = length-append end.front (end.line ∷ [])

    by : (o : Option ℕ) → named_by end.line.step ≡ o
        → line_of (join_named last before end.line o).became (length (end.front ++ end.line ∷ [])) ≡ length (join_named last before end.line o).lines
    by (Some m) e =
        let here : numbered derivation (length derivation) ≡ Some end.line =
        (λ j. numbered (end.is j) (length (end.is j))) ∙ ap (numbered (end.front ++ end.line ∷ [])) long ∙ number_of_end end.front end.line in
        absurd (other m (some_so (numbered derivation (length derivation)) (λ (one : Line). one.step ≡ Input m) end.line here (named_step end.line.step m e)))
    by None e =
        let place : length (end.front ++ end.line ∷ []) - 1 ≡ length before.became = omega (arith, long, became_long last start end.front) in
        let x = length before.lines + 1 in
        ap (slice_index (before.became ++ x ∷ [])) place ∙ get_or-append_seam before.became x [] 0
        ∙ sym (length-append before.lines (record { step = moved before.became end.line.step; clause = end.line.clause } ∷ []))

-- ---- all needed clauses

module _ (inputs : List Clause) (derived : List Derived) (fine : AreDerived inputs derived) where
  abbrev pub clauses : List Clause
  clauses = all_clauses inputs derived

  -- the clause has a number
  abbrev pub HasNumber : ℕ → Type 0
  HasNumber n = (c : Clause) × (numbered clauses n ≡ Some c)

  join_one : (Done : ℕ → Type 0) (so : Spliced) (n : ℕ) → HasNumber n → ((d : Derived) (m k : ℕ) → derived_at inputs derived n ≡ Some d → IsInputAt d.lines m k → Done m)
      → Keeps inputs clauses Done so → Keeps inputs clauses (λ m. (n ≡ m) ⊎ Done m) (join_clause inputs derived so n)
  join_one Done so n has names keeps = elim (number_cases inputs derived n has.0 has.1) [
    | inl e ↦ subst (λ o. Keeps inputs clauses (λ m. (n ≡ m) ⊎ Done m) (join_either so n o (derived_at inputs derived n))) (sym e)
        (adds_input inputs clauses Done so n has.0 keeps e has.1)
    | inr of ↦
        let both : (numbered inputs n ≡ None) × (derived_at inputs derived n ≡ Some of.one) = (of.beyond, of.at) in
        subst (λ o. Keeps inputs clauses (λ m. (n ≡ m) ⊎ Done m) (join_either so n o (derived_at inputs derived n))) (sym of.beyond)
        (subst (λ o. Keeps inputs clauses (λ m. (n ≡ m) ⊎ Done m) (join_either so n None o)) (sym of.at)
        (adds_derived inputs clauses Done so n of.one keeps (fine n of.one of.at) (λ m k. names of.one m k of.at) (derived_number inputs derived n of.one of.at).1))
  ]

  -- what the derivation of n names
  abbrev Names : ℕ → ℕ → Type 0
  Names n m = (d : Derived) × (k : ℕ) × (derived_at inputs derived n ≡ Some d) × IsInputAt d.lines m k

  join_all : (ns : List ℕ) (Done : ℕ → Type 0) (so : Spliced) → AllPairs (λ a b. a < b) ns → ((n : ℕ) → Contains ns n → HasNumber n)
      → ((n m : ℕ) → Contains ns n → Names n m → Contains ns m ⊎ Done m) → Keeps inputs clauses Done so
      → Keeps inputs clauses (λ m. Contains ns m ⊎ Done m) (fold (join_clause inputs derived) so ns)
  join_all [] Done so rising has closed keeps = keeps_less inputs clauses Done (λ m. Contains [] m ⊎ Done m) so
      (λ m is. elim is [ inl none ↦ absurd (omega (arith, none.1)) | inr done ↦ done ]) keeps
  join_all (n ∷ ns) Done so rising has closed keeps =
      keeps_less inputs clauses (λ m. Contains ns m ⊎ ((n ≡ m) ⊎ Done m)) (λ m. Contains (n ∷ ns) m ⊎ Done m) (fold (join_clause inputs derived) (join_clause inputs derived so n) ns)
      sorted (join_all ns (λ m. (n ≡ m) ⊎ Done m) (join_clause inputs derived so n) (tail_rises n ns rising) (λ k at. has k (one_more_in n ns k at)) later
      (join_one Done so n (has n (first_in n ns)) before keeps))
    where
      sorted : (m : ℕ) → Contains (n ∷ ns) m ⊎ Done m → Contains ns m ⊎ ((n ≡ m) ⊎ Done m)
      sorted m (inl at) = elim (in_cons n ns m at) [ inl same ↦ inr (inl same) | inr in_rest ↦ inl in_rest ]
      sorted m (inr done) = inr (inr done)

      later : (k m : ℕ) → Contains ns k → Names k m → Contains ns m ⊎ ((n ≡ m) ⊎ Done m)
      later k m at names = sorted m (closed k m (one_more_in n ns k at) names)

      before : (d : Derived) (m k : ℕ) → derived_at inputs derived n ≡ Some d → IsInputAt d.lines m k → Done m
      before d m k at input =
          let from = named_from inputs derived n m k d fine at input in
          elim (closed n m (first_in n ns) (d, k, at, input)) [
            | inl listed ↦ absurd (elim (in_cons n ns m listed) [
              | inl same ↦ omega (arith, same, from.smaller)
              | inr rest ↦ omega (arith, head_least n ns rising m rest, from.smaller)
            ])
            | inr done ↦ done
          ]

  -- needed clauses have numbers, none above the goal
  pub needed_have : (goal n : ℕ) → HasNumber goal → IsNeeded inputs derived goal n → HasNumber n × (n ≤ goal)
  needed_have goal n has goal_itself = (has, omega arith)
  needed_have goal n has (named p m k needed names) =
      let d = some_and (derived_at inputs derived p) (λ d. IsInputAt d.lines m k) names in
      let from = named_from inputs derived p m k d.0 fine d.1 d.2 in
      let above = (needed_have goal p has needed).1 in
      ((from.line.clause, from.has), omega (arith, above, from.smaller))

  -- the proof ends with the goal's derivation
  goal_proves : (Done : ℕ → Type 0) (so : Spliced) (goal : ℕ) (d : Derived) → derived_at inputs derived goal ≡ Some d → d.clause.literals ≡ []
      → ((m : ℕ) → ¬ IsInputAt d.lines m (length d.lines)) → ((m k : ℕ) → IsInputAt d.lines m k → Done m) → Keeps inputs clauses Done so
      → IsProof inputs (join_derived so goal d.lines).lines
  goal_proves Done so goal d at false_clause other names keeps =
      let has = (derived_number inputs derived goal d at).1 in
      let from = fine goal d at in
      let joined : Spliced = join_derived so goal d.lines in
      let all = adds_derived inputs clauses Done so goal d keeps from names has in
      let end = mapped (λ (l : Line). l.clause) (numbered d.lines (length d.lines)) d.clause from.ends in
      let some : 0 < length d.lines = (number_within d.lines (length d.lines) end.0 end.1).0 in
      let last_line = goal_line so.last so.lines d.lines some other in
      let k = line_of (join_lines so.last so.lines d.lines).became (length d.lines) in
      let is : joined.last goal ≡ length joined.lines = ap (λ t. if t then k else so.last goal) (eq-eqb goal goal refl) ∙ last_line in
      let ends : clause_of joined.lines (length joined.lines) ≡ Some d.clause = ap (clause_of joined.lines) (sym is) ∙ all.lasts goal d.clause (inl refl) has in
      record {
        steps = all.steps;
        ends = some_so (clause_of joined.lines (length joined.lines)) (λ (c : Clause). c.literals ≡ []) d.clause ends false_clause;
      }

  all_prove : (goal : ℕ) (ns : List ℕ) (d : Derived) → derived_at inputs derived goal ≡ Some d → d.clause.literals ≡ []
      → ((m : ℕ) → ¬ IsInputAt d.lines m (length d.lines)) → AreNeeded inputs derived goal ns → IsProof inputs (join_clauses inputs derived ns).lines
  all_prove goal ns d at false_clause other all =
      subst (λ (so : Spliced). IsProof inputs so.lines) (sym whole) (goal_proves Done before goal d at false_clause other names keeps)
    where
      number : (length inputs < goal) × (numbered clauses goal ≡ Some d.clause)
      number = derived_number inputs derived goal d at

      has : HasNumber goal
      has = (d.clause, number.1)

      end : EndsAt ns goal
      end = ends_at ns goal all.rising ((all.needed goal).1 goal_itself) (λ m at. (needed_have goal m has ((all.needed m).0 at)).1)

      start : Spliced
      start = record { lines = []; last = λ n. 0 }

      before : Spliced
      before = fold (join_clause inputs derived) start end.front

      Done : ℕ → Type 0
      Done = λ m. Contains end.front m ⊎ ⊥

      in_all : (m : ℕ) → Contains end.front m → Contains ns m
      in_all m at = subst (λ xs. Contains xs m) (sym end.is) (Contains-append_left end.front (goal ∷ []) m at)

      -- a needed clause below the goal stands before it
      below : (m : ℕ) → IsNeeded inputs derived goal m → m < goal → Contains end.front m
      below m needed less =
          elim (Contains-append_cases end.front (goal ∷ []) m (subst (λ xs. Contains xs m) end.is ((all.needed m).1 needed))) [
            | inl front ↦ front
            | inr is ↦ absurd (elim (in_cons goal [] m is) [ inl same ↦ omega (arith, same, less) | inr none ↦ omega (arith, none.1) ])
          ]

      rises : AllPairs (λ a b. a < b) end.front
      rises i j d h k =
          let whole : AllPairs (λ a b. a < b) (end.front ++ goal ∷ []) = subst (AllPairs (λ a b. a < b)) end.is all.rising in
          let pair = whole i j d h (omega (arith, k, length-append end.front (goal ∷ []))) in
          subst (λ x. x < get_or end.front j d) (get_or-append end.front (goal ∷ []) d i (omega arith))
          (subst (λ x. get_or (end.front ++ goal ∷ []) i d < x) (get_or-append end.front (goal ∷ []) d j k) pair)

      closed : (n m : ℕ) → Contains end.front n → Names n m → Contains end.front m ⊎ ⊥
      closed n m at names =
          let needed = (all.needed n).0 (in_all n at) in
          let from = named_from inputs derived n m names.1 names.0 fine names.2 names.3 in
          let less = (needed_have goal n has needed).1 in
          inl (below m (named n m names.1 needed (some_so (derived_at inputs derived n) (λ d. IsInputAt d.lines m names.1) names.0 names.2 names.3)) (omega (arith, less, from.smaller)))

      names : (m k : ℕ) → IsInputAt d.lines m k → Done m
      names m k input =
          let from = named_from inputs derived goal m k d fine at input in
          inl (below m (named goal m k goal_itself (some_so (derived_at inputs derived goal) (λ d. IsInputAt d.lines m k) d at input)) from.smaller)

      nothing : Keeps inputs clauses (λ m. ⊥) start
      nothing = record { steps = λ k h. absurd (omega arith); lasts = λ m c none e. absurd none }

      keeps : Keeps inputs clauses Done before
      keeps = join_all end.front (λ m. ⊥) start rises (λ n at. (needed_have goal n has ((all.needed n).0 (in_all n at))).0) closed nothing

      whole : join_clauses inputs derived ns ≡ join_derived before goal d.lines
      whole = ap (join_clauses inputs derived) end.is ∙ fold-append (join_clause inputs derived) start end.front (goal ∷ [])
          ∙ (λ j. join_either before goal (past inputs goal number.0 j) (at j))

  -- the splice of an empty clause is a proof
  pub splice_proves : (goal : ℕ) (lines : List Line) (c : Clause) → IsSplice inputs derived goal lines → numbered clauses goal ≡ Some c → c.literals ≡ []
      → IsProof inputs lines
  splice_proves goal lines c (is_input n input e) at empty =
      let is : Some input ≡ Some c = sym (number_in_whole inputs (map (λ (d : Derived). d.clause) derived) n input e) ∙ at in
      let same : input ≡ c = cc in
      record {
        steps = steps_push inputs [] (input_line n input) (λ k h. absurd (omega arith)) e;
        ends = ap (λ (one : Clause). one.literals) same ∙ empty;
      }
  splice_proves goal lines c (is_clause n m inner d place input rest) at empty =
      let from = named_from inputs derived n m (length d.lines) d fine place input in
      let last : Some from.line.clause ≡ Some d.clause = sym (map_some (λ (l : Line). l.clause) (numbered d.lines (length d.lines)) from.line from.at) ∙ (fine n d place).ends in
      let goal_is : Some d.clause ≡ Some c = sym (derived_number inputs derived n d place).1 ∙ at in
      let same : from.line.clause ≡ c = cc in
      splice_proves m inner from.line.clause rest from.has (ap (λ (one : Clause). one.literals) same ∙ empty)
  splice_proves goal lines c (is_derived n ns d place other all) at empty =
      let goal_is : Some d.clause ≡ Some c = sym (derived_number inputs derived n d place).1 ∙ at in
      let same : d.clause ≡ c = cc in
      all_prove n ns d place (ap (λ (one : Clause). one.literals) same ∙ empty) other all

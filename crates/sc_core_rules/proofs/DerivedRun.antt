-- Every clause that a run derives follows by its derivation from the clauses of smaller number.
use Rattle.std.proofs.Common.{◌≡◌, sym, subst, ℕ, ◌+◌, ◌⊎◌, inl, inr, List, [], ◌∷◌, map, Option, arith, length}
use Rattle.std.specs.List.{Contains}
use Rattle.sc_term.specs.declared.Numbered.{Numbered}
use Rattle.sc_term.specs.declared.Step.TheVariants.{Input}
use Rattle.sc_term.specs.Proof.{AreSteps}
use Rattle.sc_steps.specs.declared.derivations.derivation.Derived.{Derived}
use Rattle.sc_steps.proofs.LineLaws.{steps_push, number_in_whole}
use Rattle.sc_steps.proofs.DerivedLaws.{none_derived}
use Rattle.sc_input_rules.specs.Problem.{Stated}
use Rattle.sc_input_rules.specs.WellFormed.{IsProblem}
use Rattle.sc_core_rules.specs.Inference.{Inference}
use Rattle.sc_core_rules.specs.Hyperresolution.{AreNamed}
use Rattle.sc_core_rules.specs.Sites.{Site, Binary, Factor, Hyper, Ur, ParaFrom, ParaInto, Infers}
use Rattle.sc_core_rules.specs.Book.{Book, IsSound, IsDerived, numbered_clauses}
use Rattle.sc_core_rules.specs.Start.{input_clauses, Starts}
use Rattle.sc_core_rules.specs.Selection.{Seen}
use Rattle.sc_core_rules.specs.WorkList.{Item, At, Again, Gives, Finish, Works, done, too_many, nothing, found, goes_on}
use Rattle.sc_core_rules.specs.Turn.{Run, Infer, Turns, IsPassedOver, with_given}
use Rattle.sc_core_rules.specs.Run.{GoesOver, started, IsRun}
use Rattle.sc_term.proofs.ContainsLaws.{first_or_later, at_first}
use Rattle.sc_core_rules.proofs.FilterLaws.{in_first, in_second}
use Rattle.sc_core_rules.proofs.CheckLaws.{AllStand, conclusion_checks}
use Rattle.sc_core_rules.proofs.Enumerations.{in_one, in_two}
use Rattle.sc_core_rules.proofs.SoundLaws.{StandsIn}
use Rattle.sc_core_rules.proofs.SoundProcessing.{where_either, processes_sound}
use Rattle.sc_core_rules.proofs.DerivedBook.{GoesOn, all_stand, conflict_derived, one_more, processes_goes_on}
use Rattle.sc_core_rules.proofs.TurnLaws.{given_sound, selected_there, turns_sound}
use Rattle.sc_core_rules.proofs.RunLaws.{input_stands, starts_sound}

-- ---- the parents of an inference are usable

named_listed : (usable : List Numbered) (ns : List ℕ) (ps : List Numbered) → AreNamed usable ns ps → (p : Numbered) → Contains ps p → Contains usable p
named_listed usable [] [] h p there = absurd (omega (arith, there.1))
named_listed usable [] (q ∷ qs) h p there = absurd h
named_listed usable (n ∷ ns) [] h p there = absurd h
named_listed usable (n ∷ ns) (q ∷ qs) h p there = by (λ k. named_listed usable ns qs h.1 p k) (first_or_later p q qs there)
  where
    by : (Contains qs p → Contains usable p) → (q ≡ p) ⊎ Contains qs p → Contains usable p
    by below (inl e) = subst (Contains usable) e h.0.1
    by below (inr k) = below k

first_and_rest : (usable : List Numbered) (m : Numbered) (ps : List Numbered) → Contains usable m → ((p : Numbered) → Contains ps p → Contains usable p) → (p : Numbered) → Contains (m ∷ ps) p → Contains usable p
first_and_rest usable m ps first rest p there = by (first_or_later p m ps there)
  where
    by : (m ≡ p) ⊎ Contains ps p → Contains usable p
    by (inl e) = subst (Contains usable) e first
    by (inr k) = rest p k

both_usable : (usable : List Numbered) (m n p : Numbered) → Contains usable m → Contains usable n → Contains (m ∷ n ∷ []) p → Contains usable p
both_usable usable m n p first second there = by (in_two m n p there)
  where
    by : (m ≡ p) ⊎ (n ≡ p) → Contains usable p
    by (inl e) = subst (Contains usable) e first
    by (inr e) = subst (Contains usable) e second

pub parents_usable : (given : Numbered) (usable : List Numbered) → Contains usable given → (site : Site) (i : Inference) → Infers given usable site i → (p : Numbered) → Contains i.parents p → Contains usable p
parents_usable given usable there (Binary site) i h p k = both_usable usable given h.partner p there h.listed (subst (λ ps. Contains ps p) h.parents k)
parents_usable given usable there (Factor site) i h p k = subst (Contains usable) (in_one given p (subst (λ ps. Contains ps p) h.parents k)) there
parents_usable given usable there (Hyper site) i h p k =
    first_and_rest usable h.nucleus h.electrons h.nucleus_named.0.1 (named_listed usable _ h.electrons h.electrons_named) p (subst (λ ps. Contains ps p) h.parents k)
parents_usable given usable there (Ur site) i h p k =
    first_and_rest usable h.nucleus h.units h.nucleus_named.0.1 (named_listed usable _ h.units h.units_named) p (subst (λ ps. Contains ps p) h.parents k)
parents_usable given usable there (ParaFrom site) i h p k = both_usable usable given h.into p there h.listed (subst (λ ps. Contains ps p) h.para.parents k)
parents_usable given usable there (ParaInto site) i h p k = both_usable usable h.from given p h.listed there (subst (λ ps. Contains ps p) h.para.parents k)

module _ (problem : Stated) where
  -- ---- the work list

  -- what an item gives follows from the book's clauses
  pub gives_checks : (book : Book) (given : Numbered) (usable : List Numbered) (passed : Site → Type 0) → Contains usable given → AllStand (numbered_clauses problem book) usable → (item : Item) (made : Derived)
      → Gives problem book given usable passed item made → AreSteps (numbered_clauses problem book) made.lines
  gives_checks book given usable passed there stand (At site) made (kept, h) =
      (conclusion_checks (numbered_clauses problem book) h.0 made (λ p k. stand p (parents_usable given usable there site h.0 h.1 p k)) h.2).steps
  gives_checks book given usable passed there stand (Again n) made h =
      subst (λ (d : Derived). AreSteps (numbered_clauses problem book) d.lines) (sym h.2)
      (steps_push (numbered_clauses problem book) [] (record { step = Input n; clause = h.0 }) (λ k less. absurd (omega (arith, less))) h.1)

  module _ (turn : ℕ) (given : Numbered) (usable : List Numbered) (passed : Site → Type 0) (there : Contains usable given) where
    still_stand : (old new : Book) → GoesOn problem old new → AllStand (numbered_clauses problem old) usable → AllStand (numbered_clauses problem new) usable
    still_stand old new step stand p k = step.grows p (stand p k)

    pub works_derived : (n : ℕ) (book new : Book) (items : List Item) (f : Finish) → IsSound problem book → IsDerived problem book → AllStand (numbered_clauses problem book) usable
        → Works problem turn given usable passed n book items new f → IsDerived problem new
    works_derived n book new items f sound derived stand done = derived
    works_derived n book new items f sound derived stand too_many = derived
    works_derived n book new items f sound derived stand (nothing h w) = works_derived _ book new _ f sound derived stand w
    works_derived n book new items f sound derived stand (found {item = item} m o gives p e) =
        (processes_goes_on problem book m.lines turn new o sound derived (gives_checks book given usable passed there stand item m gives) p).derived
    works_derived n book new items f sound derived stand (goes_on {mid = mid} {item = item} m o gives p e w) =
        let step = processes_goes_on problem book m.lines turn mid o sound derived (gives_checks book given usable passed there stand item m gives) p in
        works_derived _ mid new _ f (processes_sound problem book m.lines turn mid o sound p) step.derived (still_stand book mid step stand) w

  -- ---- a turn

  infer_derived : (turn : ℕ) (old : Run) (seen : Seen) (new : Run) → IsSound problem old.book → IsDerived problem old.book → Infer problem turn old seen new → IsDerived problem new.book
  infer_derived turn old seen new sound derived h =
      let moved = given_sound problem old.book h.given (selected_there problem old.book.sos turn h.name h.guide h.given h.cause h.selects) sound in
      let book = with_given old.book h.given in
      subst (λ (r : Run). IsDerived problem r.book) (sym h.goes_to)
      (works_derived turn h.given (with_given old.book h.given).usable IsPassedOver (in_second h.given old.book.usable (h.given ∷ []) (at_first h.given []))
      100000 (with_given old.book h.given) h.book _ h.finish moved derived
      (λ p k. all_stand problem (with_given old.book h.given) moved p (in_first p _ old.book.passive (in_first p (with_given old.book h.given).usable (with_given old.book h.given).sos k))) h.works)

  pub turns_derived : (old : Run) (seen : Seen) (new : Run) → IsSound problem old.book → IsDerived problem old.book → Turns problem old seen new → IsDerived problem new.book
  turns_derived old seen new sound derived =
      where_either (λ h. subst (λ (r : Run). IsDerived problem r.book) (sym h) derived)
      (where_either (λ h. subst (λ (r : Run). IsDerived problem r.book) (sym h) derived)
      (where_either (λ h. subst (λ (r : Run). IsDerived problem r.book) (sym h) derived)
      (infer_derived (length old.given + 1) old seen new sound derived)))

  -- ---- the start

  pub starts_derived : (book : Book) (goal : Option ℕ) → IsProblem problem → Starts problem book goal → IsDerived problem book
  starts_derived book goal such h =
      where_either
      (λ a. where_either (λ b. subst (IsDerived problem) (sym b.0) opened)
      (λ b. subst (IsDerived problem) (sym b.4) (one_more problem h.opened b.1.clause b.1.lines opened
      (conflict_derived problem (numbered_clauses problem h.opened) a.0 b.0 b.1 (stands a.0 a.1.listed) (stands b.0 b.2.listed) b.3)).derived) a.2)
      (λ a. subst (IsDerived problem) (sym a.0) opened) h.ends
    where
      opened : IsDerived problem h.opened
      opened = subst (λ (ds : List Derived). IsDerived problem (record h.opened { derived = ds })) (sym h.opens.no_derived) (none_derived problem.inputs)

      stands : (p : Numbered) → Contains (input_clauses problem) p → StandsIn problem h.opened p
      stands p k = number_in_whole problem.inputs (map (λ (d : Derived). d.clause) (h.opened).derived) p.number p.clause (input_stands problem p k)

  -- ---- the run

  goes_over_derived : (looks : List Seen) (old new : Run) → IsSound problem old.book → IsDerived problem old.book → GoesOver problem old looks new → IsDerived problem new.book
  goes_over_derived [] old new sound derived h = subst (λ (r : Run). IsDerived problem r.book) (sym h) derived
  goes_over_derived (look ∷ looks) old new sound derived h =
      let mid_sound : IsSound problem (h.0).book = where_either (λ a. subst (λ (r : Run). IsSound problem r.book) (sym a) sound) (turns_sound problem old look h.0 sound) h.1 in
      let mid : IsDerived problem (h.0).book = where_either (λ a. subst (λ (r : Run). IsDerived problem r.book) (sym a) derived) (turns_derived old look h.0 sound derived) h.1 in
      goes_over_derived looks h.0 new mid_sound mid h.2

  -- each clause that a run derives follows by its derivation from the clauses of smaller number
  pub run_derived : (looks : List Seen) (run : Run) → IsProblem problem → IsRun problem looks run → IsDerived problem run.book
  run_derived looks run such h = goes_over_derived looks (started h.book h.goal) run (starts_sound problem h.book h.goal such h.starts) (starts_derived h.book h.goal such h.starts) h.goes

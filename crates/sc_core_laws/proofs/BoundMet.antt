-- Worked: two clauses in sos and r = 1, where clause 2 leaves in the last turn that the law allows.
use Rattle.std.proofs.Common.{◌≡◌, sym, ap, subst, refl, ℕ, ◌⊎◌, inl, inr, List, [], ◌∷◌, arith, true, false, None}
use Rattle.std.specs.List.{Contains}
use Rattle.sc_term.specs.declared.Literal.{Literal}
use Rattle.sc_term.specs.declared.Clause.{Clause}
use Rattle.sc_term.specs.declared.Numbered.{Numbered}
use Rattle.sc_steps.specs.declared.derivations.derivation.Derived.{Derived}
use Rattle.sc_input_rules.specs.Problem.{Stated}
use Rattle.sc_input_rules.specs.declared.settings.Params.{Params}
use Rattle.sc_input_rules.specs.declared.settings.Home.TheVariants.{Sos}
use Rattle.sc_interp.specs.Versions.{ClaimedStructure, opening}
use Rattle.sc_interp.specs.Marks.{IsMark}
use Rattle.sc_interp.specs.declared.plain.Truth.TheVariants.{False}
use Rattle.sc_core_rules.specs.declared.row.Cause.TheVariants as cause
use Rattle.sc_core_rules.specs.declared.row.GivenRow.{GivenRow}
use Rattle.sc_core_rules.specs.Order.{none, taken, passed, IsBefore}
use Rattle.sc_core_rules.specs.Rewriting.{number_of}
use Rattle.sc_core_rules.specs.Book.{Book}
use Rattle.sc_core_rules.specs.Conflict.{Conflicts}
use Rattle.sc_core_rules.specs.Start.{Starts, EndsStart, input_clauses}
use Rattle.sc_core_rules.specs.Selection.{Seen, IsGuide, Selects, opening_name}
use Rattle.sc_core_rules.specs.Sites.{Site, Binary, Factor, Hyper, Ur, ParaFrom, ParaInto, IsSite, AreSites}
use Rattle.sc_core_rules.specs.WorkList.{Done, done}
use Rattle.sc_core_rules.specs.Turn.{Run, Infer}
use Rattle.sc_core_rules.specs.Run.{IsRun, Goes}
use Rattle.sc_core_rules.proofs.OrderLaws.{not_before_itself, not_both}
use Rattle.sc_core_rules.proofs.Enumerations.{in_one, in_two, all_of_one}
use Rattle.sc_core_rules.proofs.OpposedLaws.{conflict_opposed, units_opposed}
use Rattle.sc_core_rules.proofs.RunExample.{flags, symbol}
use Rattle.sc_core_laws.specs.LeavesInTime.{WasPut, HasTurn, WasGivenBy, IsDeletedBy, last_turn}
use Rattle.sc_core_laws.proofs.InTime.{leaves_in_time}

abbrev params : Params
params = record { pick_given_ratio = 0; max_weight = 100; max_literals = 64; max_given = 10000; max_kept = 20000; demod_limit = 1000; max_proofs = 1 }

abbrev atom : ℕ → Literal
atom pred = record { positive = true; pred = record { 0 = pred }; args = [] }

-- the clause that is one atom without arguments
abbrev fact : ℕ → Clause
fact pred = record { literals = atom pred ∷ [] }

abbrev problem : Stated
problem = record { symbols = symbol 2 ∷ symbol 0 ∷ symbol 0 ∷ []; inputs = fact 1 ∷ fact 2 ∷ []; homes = Sos ∷ Sos ∷ []; flags = flags; params = params }

abbrev unit : ℕ → Numbered
unit n = record { number = n; clause = fact n }

abbrev book_of : List Numbered → List Numbered → Book
book_of usable sos = record { derived = []; usable = usable; sos = sos; passive = []; demods = []; kept = [] }

abbrev opened : Book
opened = book_of [] (unit 1 ∷ unit 2 ∷ [])

-- ---- the start ends nothing

same_signs : (i j : ℕ) (made : Derived) → ¬ Conflicts (unit i) (unit j) made
same_signs i j made h =
    let bad : true ≡ false = (units_opposed i j (atom i) (atom j) 1 1 (conflict_opposed (unit i) (unit j) made h)).0 in
    cc

no_end : (i : ℕ) → ¬ EndsStart problem (unit i)
no_end i (inl e) = cc
no_end i (inr (m, h, rival)) = by (in_two (unit 1) (unit 2) m h)
  where
    by : (unit 1 ≡ m) ⊎ (unit 2 ≡ m) → ⊥
    by (inl e) = same_signs i 1 rival.made (subst (λ (x : Numbered). Conflicts (unit i) x rival.made) (sym e) rival.conflicts)
    by (inr e) = same_signs i 2 rival.made (subst (λ (x : Numbered). Conflicts (unit i) x rival.made) (sym e) rival.conflicts)

not_ended : (n : Numbered) → Contains (input_clauses problem) n → ¬ EndsStart problem n
not_ended n h ends = by (in_two (unit 1) (unit 2) n h)
  where
    by : (unit 1 ≡ n) ⊎ (unit 2 ≡ n) → ⊥
    by (inl e) = no_end 1 (subst (EndsStart problem) (sym e) ends)
    by (inr e) = no_end 2 (subst (EndsStart problem) (sym e) ends)

starts : Starts problem opened None
starts = record {
  opened = opened;
  opens = record {
    usable = passed (λ e. cc) (passed (λ e. cc) none);
    sos = taken refl (taken refl none);
    passive = passed (λ e. cc) (passed (λ e. cc) none);
    demods = passed (λ e. cc) (passed (λ e. cc) none);
    no_derived = refl;
    no_kept = refl;
  };
  ends = inr (λ e. not_ended e.0 e.1 e.2, (refl, refl));
}

-- ---- the turns

abbrev no_version : Seen
no_version = [] ∷ []

guides : IsGuide problem no_version opening_name (opening problem.symbols)
guides = inl (all_of_one (λ (versions : List ClaimedStructure). versions ≡ []) [] refl, (refl, refl))

mark_one : IsMark (opening problem.symbols).tables (fact 1) False
mark_one = (omega arith, λ h. let bad : false ≡ true = h (λ k. 0) (λ k. omega arith) in cc)

mark_two : IsMark (opening problem.symbols).tables (fact 2) False
mark_two = (omega arith, λ h. let bad : false ≡ true = h (λ k. 0) (λ k. omega arith) in cc)

selects_one : Selects problem (unit 1 ∷ unit 2 ∷ []) 1 opening_name (opening problem.symbols) (unit 1) cause.Age
selects_one = inl (refl, (refl, record { listed = (0, omega arith, refl); holds = tt; least = λ y h any. by y (in_two (unit 1) (unit 2) y h) }))
  where
    by : (y : Numbered) → (unit 1 ≡ y) ⊎ (unit 2 ≡ y) → ¬ IsBefore (number_of y) (number_of (unit 1))
    by y (inl e) h = not_before_itself (number_of (unit 1)) (subst (λ (x : Numbered). IsBefore (number_of x) (number_of (unit 1))) (sym e) h)
    by y (inr e) h = not_both (number_of (unit 1)) (number_of (unit 2)) (inl (omega arith)) (subst (λ (x : Numbered). IsBefore (number_of x) (number_of (unit 1))) (sym e) h)

selects_two : Selects problem (unit 2 ∷ []) 2 opening_name (opening problem.symbols) (unit 2) cause.Age
selects_two = inl (refl, (refl, record { listed = (0, omega arith, refl); holds = tt; least = λ y h any. by y (in_one (unit 2) y h) }))
  where
    by : (y : Numbered) → unit 2 ≡ y → ¬ IsBefore (number_of y) (number_of (unit 2))
    by y e h = not_before_itself (number_of (unit 2)) (subst (λ (x : Numbered). IsBefore (number_of x) (number_of (unit 2))) (sym e) h)

-- without a rule there is no site
no_site : (given : Numbered) (usable : List Numbered) (site : Site) → ¬ IsSite flags given usable site
no_site given usable (Binary site) h = let bad : false ≡ true = h.0 in cc
no_site given usable (Factor site) h = let bad : false ≡ true = h.0 in cc
no_site given usable (Hyper site) h = let bad : false ≡ true = h.0 in cc
no_site given usable (Ur site) h = let bad : false ≡ true = h.0 in cc
no_site given usable (ParaFrom site) h = let bad : false ≡ true = h.0 in cc
no_site given usable (ParaInto site) h = let bad : false ≡ true = h.0 in cc

no_sites : (given : Numbered) (usable : List Numbered) → AreSites flags given usable 100001 []
no_sites given usable = record {
  rising = λ i j d less within. absurd (omega (arith, within));
  only = λ k d within. absurd (omega (arith, within));
  no_more = omega arith;
  first = λ site h. absurd (no_site given usable site h);
}

-- clause n is given in turn n as the oldest
abbrev row : ℕ → GivenRow
row n = record { turn = n; number = n; cause = cause.Age; name = opening_name; truth = False; lengths = 0 ∷ [] }

abbrev run_of : Book → List GivenRow → Run
run_of book given = record { book = book; given = given; ended = None; goal = None }

abbrev after_one : Run
after_one = run_of (book_of (unit 1 ∷ []) (unit 2 ∷ [])) (row 1 ∷ [])

abbrev after_two : Run
after_two = run_of (book_of (unit 1 ∷ unit 2 ∷ []) []) (row 1 ∷ row 2 ∷ [])

turn_one : Infer problem 1 (run_of opened []) no_version after_one
turn_one = record {
  name = opening_name;
  guide = opening problem.symbols;
  guides = guides;
  given = unit 1;
  cause = cause.Age;
  selects = selects_one;
  truth = False;
  marked = mark_one;
  sites = [];
  are_sites = no_sites (unit 1) (unit 1 ∷ []);
  book = after_one.book;
  finish = Done;
  works = done;
  goes_to = refl;
}

turn_two : Infer problem 2 after_one no_version after_two
turn_two = record {
  name = opening_name;
  guide = opening problem.symbols;
  guides = guides;
  given = unit 2;
  cause = cause.Age;
  selects = selects_two;
  truth = False;
  marked = mark_two;
  sites = [];
  are_sites = no_sites (unit 2) (unit 1 ∷ unit 2 ∷ []);
  book = after_two.book;
  finish = Done;
  works = done;
  goes_to = refl;
}

goes_one : Goes problem (run_of opened []) no_version after_one
goes_one = inr (λ e. cc, inr (λ e. cc, inr (λ e. omega (arith, e), inr (λ h. omega (arith, h), turn_one))))

goes_two : Goes problem after_one no_version after_two
goes_two = inr (λ e. cc, inr (λ e. cc, inr (λ e. omega (arith, e), inr (λ h. omega (arith, h), turn_two))))

-- ---- the bound is met

pub run_one : IsRun problem (no_version ∷ []) after_one
run_one = record { book = opened; goal = None; starts = starts; goes = (after_one, goes_one, refl) }

pub run_two : IsRun problem (no_version ∷ no_version ∷ []) after_two
run_two = record { book = opened; goal = None; starts = starts; goes = (after_one, goes_one, (after_two, goes_two, refl)) }

pub put : WasPut problem (after_two.book).kept 2 0
put = inl (unit 2, (1, omega arith, refl), refl, refl, refl)

-- right before the last turn clause 2 stands in sos, as one that wasn't given
pub still_there : Contains (after_one.book).sos (unit 2) × ¬ WasGivenBy after_one.given 2 1
still_there = ((0, omega arith, refl), λ g. by g (in_one (row 1) g.0 g.1))
  where
    by : (g : WasGivenBy after_one.given 2 1) → row 1 ≡ g.0 → ⊥
    by g e = let same = ap (λ (r : GivenRow). r.number) e in omega (arith, g.2)

-- and it leaves in turn 2, the last that the law allows
pub leaves_in_last : (last_turn problem 2 0 ≡ 2) × HasTurn after_two.given (last_turn problem 2 0) × WasGivenBy after_two.given 2 (last_turn problem 2 0)
leaves_in_last = (refl, (row 2, (1, omega arith, refl), refl), (row 2, (1, omega arith, refl), refl, omega arith))

-- the law says this of the run
pub by_the_law : WasGivenBy after_two.given 2 2 ⊎ IsDeletedBy problem (no_version ∷ no_version ∷ []) 2 2
by_the_law = leaves_in_time problem (no_version ∷ no_version ∷ []) after_two 2 0 run_two put leaves_in_last.1

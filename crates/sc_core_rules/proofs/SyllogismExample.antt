-- Worked: the start and the first two turns of the run of p(a), -p(x0) | q(x0), -q(a) by binary resolution.
use Rattle.std.proofs.Common.{◌≡◌, ◌≢◌, sym, subst, refl, ℕ, zero, suc, ◌<◌, ◌≤◌, ◌⊎◌, inl, inr, List, [], ◌∷◌, map, arith, true, false, None, length}
use Rattle.std.specs.List.{Contains, list_any}
use Rattle.sc_term.specs.declared.SymId.{SymId}
use Rattle.sc_term.specs.declared.Term.{Term, Var}
use Rattle.sc_term.specs.declared.Term.TheVariants.{App}
use Rattle.sc_term.specs.declared.Numbered.{Numbered}
use Rattle.sc_term.specs.Clause.{weight}
use Rattle.sc_term.specs.Term.{term_weight, weight_step}
use Rattle.sc_term.specs.Interpretation.{Assignment, value, value_step, literal_holds}
use Rattle.sc_term.proofs.TermLaws.{fold-Var, fold-App, weight-App}
use Rattle.sc_term.proofs.TermSteps.{variables-Var, variables-App}
use Rattle.sc_term.specs.declared.symbol.Symbol.{Symbol}
use Rattle.sc_term.specs.declared.symbol.Role.TheVariants.{Predicate, Function}
use Rattle.sc_input_rules.specs.Problem.{Stated}
use Rattle.sc_input_rules.specs.declared.settings.Flags.{Flags}
use Rattle.sc_input_rules.specs.declared.settings.Home.TheVariants.{Sos}
use Rattle.sc_interp.specs.Structure.{meaning_of, Structure}
use Rattle.sc_interp.specs.Versions.{opening, ClaimedStructure}
use Rattle.sc_interp.specs.Marks.{IsMark}
use Rattle.sc_interp.specs.declared.plain.Truth.{Truth}
use Rattle.sc_interp.specs.declared.plain.Truth.TheVariants.{True, False}
use Rattle.sc_core_rules.specs.declared.row.Cause.TheVariants as cause
use Rattle.sc_core_rules.specs.declared.row.GivenRow.{GivenRow}
use Rattle.sc_core_rules.specs.Order.{none, taken, passed, IsBefore}
use Rattle.sc_core_rules.specs.Book.{Book}
use Rattle.sc_core_rules.specs.Conflict.{Conflicts}
use Rattle.sc_core_rules.specs.Start.{Starts, EndsStart, input_clauses}
use Rattle.sc_core_rules.specs.Selection.{IsGuide, Selects, by_weight, opening_name}
use Rattle.sc_core_rules.specs.Sites.{Site, Binary, Factor, Hyper, Ur, ParaFrom, ParaInto, IsSite, AreSites}
use Rattle.sc_core_rules.specs.WorkList.{Done, done}
use Rattle.sc_core_rules.specs.Turn.{Run, Infer}
use Rattle.sc_core_rules.specs.Run.{Goes}
use Rattle.sc_core_rules.proofs.OrderLaws.{not_before_itself}
use Rattle.sc_core_rules.proofs.Enumerations.{in_one, in_two, in_three, all_of_one}
use Rattle.sc_core_rules.proofs.SiteLaws.{AreOpposed, binary_opposed}
use Rattle.sc_core_rules.proofs.OpposedLaws.{conflict_opposed, units_opposed}
use Rattle.sc_core_rules.proofs.BinaryExample.{a, lit, one, given, three}
use Rattle.sc_core_rules.proofs.RunExample.{params}

abbrev pub flags : Flags
flags = record {
  binary_res = true;
  factor = false;
  hyper_res = false;
  ur_res = false;
  para_from = false;
  para_into = false;
  unit_deletion = false;
  dynamic_demod = false;
  back_demod = false;
  for_sub = true;
  back_sub = true;
}

abbrev predicate : ℕ → Symbol
predicate arity = record { name = []; arity = arity; role = Predicate }

abbrev pub problem : Stated
problem = record {
  symbols = predicate 2 ∷ predicate 1 ∷ predicate 1 ∷ record { name = []; arity = 0; role = Function } ∷ [];
  inputs = one.clause ∷ given.clause ∷ three.clause ∷ [];
  homes = Sos ∷ Sos ∷ Sos ∷ [];
  flags = flags;
  params = params;
}

abbrev pub opened : Book
opened = record { derived = []; usable = []; sos = one ∷ given ∷ three ∷ []; passive = []; demods = []; kept = [] }

-- ---- the start ends nothing

pub not_unit : (n m : Numbered) (made : _) → Conflicts n m made → given ≡ m → ⊥
not_unit n m made h e = let unit = subst (λ (x : Numbered). length x.clause.literals ≡ 1) (sym e) h.unit_m in omega (arith, unit)

at_one : ¬ EndsStart problem one
at_one (inl e) = cc
at_one (inr (m, h, rival)) = by (in_three one given three m h)
  where
    by : (one ≡ m) ⊎ (given ≡ m) ⊎ (three ≡ m) → ⊥
    by (inl e) = let less : 1 < 1 = subst (λ (n : Numbered). n.number < 1) (sym e) rival.earlier in omega (arith, less)
    by (inr (inl e)) = let less : 2 < 1 = subst (λ (n : Numbered). n.number < 1) (sym e) rival.earlier in omega (arith, less)
    by (inr (inr e)) = let less : 3 < 1 = subst (λ (n : Numbered). n.number < 1) (sym e) rival.earlier in omega (arith, less)

at_given : ¬ EndsStart problem given
at_given (inl e) = cc
at_given (inr (m, h, rival)) = omega (arith, rival.conflicts.unit_n)

at_three : ¬ EndsStart problem three
at_three (inl e) = cc
at_three (inr (m, h, rival)) = by (in_three one given three m h)
  where
    by : (one ≡ m) ⊎ (given ≡ m) ⊎ (three ≡ m) → ⊥
    by (inl e) =
        let same = (units_opposed 3 1 (lit false 2 a) (lit true 1 a) 1 1 (subst (λ (x : Numbered). AreOpposed three x 1 1) (sym e) (conflict_opposed three m rival.made rival.conflicts))).1 in
        omega (arith, same)
    by (inr (inl e)) = not_unit three m rival.made rival.conflicts e
    by (inr (inr e)) = let less : 3 < 3 = subst (λ (n : Numbered). n.number < 3) (sym e) rival.earlier in omega (arith, less)

not_ended : (n : Numbered) → Contains (input_clauses problem) n → ¬ EndsStart problem n
not_ended n h ends = by (in_three one given three n h)
  where
    by : (one ≡ n) ⊎ (given ≡ n) ⊎ (three ≡ n) → ⊥
    by (inl e) = at_one (subst (EndsStart problem) (sym e) ends)
    by (inr (inl e)) = at_given (subst (EndsStart problem) (sym e) ends)
    by (inr (inr e)) = at_three (subst (EndsStart problem) (sym e) ends)

pub starts : Starts problem opened None
starts = record {
  opened = opened;
  opens = record {
    usable = passed (λ e. cc) (passed (λ e. cc) (passed (λ e. cc) none));
    sos = taken refl (taken refl (taken refl none));
    passive = passed (λ e. cc) (passed (λ e. cc) (passed (λ e. cc) none));
    demods = passed (λ e. cc) (passed (λ e. cc) (passed (λ e. cc) none));
    no_derived = refl;
    no_kept = refl;
  };
  ends = inr (λ e. not_ended e.0 e.1 e.2, (refl, refl));
}

-- ---- the guide

pub guides : IsGuide problem ([] ∷ []) opening_name (opening problem.symbols)
guides = inl (all_of_one (λ (versions : List ClaimedStructure). versions ≡ []) [] refl, (refl, refl))

-- ---- the weights

weight-Var : (n : ℕ) → term_weight (Var n) ≡ 1
weight-Var n = fold-Var ℕ weight_step n

weight_one : weight one.clause ≡ 2
weight_one = simp weight-App

weight_given : weight given.clause ≡ 4
weight_given = simp weight-Var

weight_three : weight three.clause ≡ 2
weight_three = simp weight-App

-- not lighter, nor of equal weight and a lesser number
not_lighter : (v w m n : ℕ) → w ≤ v → (v ≡ w → n ≤ m) → ¬ IsBefore (v ∷ m ∷ []) (w ∷ n ∷ [])
not_lighter v w m n heavy later (inl less) = omega arith
not_lighter v w m n heavy later (inr (e, inl less)) = let k = later e in omega (arith, k)
not_lighter v w m n heavy later (inr (e, inr (f, bad))) = bad

no_guide : ¬ (opening_name ≢ opening_name)
no_guide h = h refl

pub selects_one : Selects problem (one ∷ given ∷ three ∷ []) 1 opening_name (opening problem.symbols) one cause.Weight
selects_one = inr (λ e. cc, inr (λ h. no_guide h.0, (refl, record { listed = (0, omega arith, refl); holds = tt; least = λ y h any. by y (in_three one given three y h) })))
  where
    by : (y : Numbered) → (one ≡ y) ⊎ (given ≡ y) ⊎ (three ≡ y) → ¬ IsBefore (by_weight problem y) (by_weight problem one)
    by y (inl e) h = not_before_itself (by_weight problem one) (subst (λ (x : Numbered). IsBefore (by_weight problem x) (by_weight problem one)) (sym e) h)
    by y (inr (inl e)) h = not_lighter (weight given.clause) (weight one.clause) 2 1 (omega (arith, weight_one, weight_given)) (λ e. omega arith) (subst (λ (x : Numbered). IsBefore (by_weight problem x) (by_weight problem one)) (sym e) h)
    by y (inr (inr e)) h = not_lighter (weight three.clause) (weight one.clause) 3 1 (omega (arith, weight_one, weight_three)) (λ e. omega arith) (subst (λ (x : Numbered). IsBefore (by_weight problem x) (by_weight problem one)) (sym e) h)

pub selects_three : Selects problem (given ∷ three ∷ []) 2 opening_name (opening problem.symbols) three cause.Weight
selects_three = inr (λ e. cc, inr (λ h. no_guide h.0, (refl, record { listed = (1, omega arith, refl); holds = tt; least = λ y h any. by y (in_two given three y h) })))
  where
    by : (y : Numbered) → (given ≡ y) ⊎ (three ≡ y) → ¬ IsBefore (by_weight problem y) (by_weight problem three)
    by y (inl e) h = not_lighter (weight given.clause) (weight three.clause) 2 3 (omega (arith, weight_three, weight_given)) (λ e. omega (arith, e, weight_three, weight_given)) (subst (λ (x : Numbered). IsBefore (by_weight problem x) (by_weight problem three)) (sym e) h)
    by y (inr e) h = not_before_itself (by_weight problem three) (subst (λ (x : Numbered). IsBefore (by_weight problem x) (by_weight problem three)) (sym e) h)

pub selects_given : Selects problem (given ∷ []) 3 opening_name (opening problem.symbols) given cause.Weight
selects_given = inr (λ e. cc, inr (λ h. no_guide h.0, (refl, record { listed = (0, omega arith, refl); holds = tt; least = λ y h any. by y (in_one given y h) })))
  where
    by : (y : Numbered) → given ≡ y → ¬ IsBefore (by_weight problem y) (by_weight problem given)
    by y e h = not_before_itself (by_weight problem given) (subst (λ (x : Numbered). IsBefore (by_weight problem x) (by_weight problem given)) (sym e) h)

-- ---- the marks in the opening version

abbrev tables : Structure
tables = (opening problem.symbols).tables

value-App : (v : Assignment) (f : SymId) (ts : List Term) → value (meaning_of tables) v (App f ts) ≡ (meaning_of tables).function f (map (value (meaning_of tables) v) ts)
value-App v f ts = fold-App ℕ (value_step (meaning_of tables) v) f ts

value-Var : (v : Assignment) (n : ℕ) → value (meaning_of tables) v (Var n) ≡ v n
value-Var v n = fold-Var ℕ (value_step (meaning_of tables) v) n

pub mark_one : IsMark tables one.clause False
mark_one = (simp variables-App (omega arith), λ h. let bad : false ≡ true = simp value-App at (h (λ n. 0) (λ n. omega arith)) in cc)

pub mark_three : IsMark tables three.clause True
mark_three = (simp variables-App (omega arith), λ v within. simp value-App)

holds : (v : Assignment) (n : ℕ) → v 0 ≡ n → n < 2 → list_any (literal_holds (meaning_of tables) v) (given.clause).literals ≡ true
holds v zero e less = simp (value-Var, e)
holds v (suc zero) e less = simp (value-Var, e)
holds v (suc (suc n)) e less = absurd (omega arith)

pub mark_given : IsMark tables given.clause True
mark_given = (simp variables-Var (omega arith), λ v within. holds v (v 0) refl (within 0))

-- ---- units alone have no sites here

-- p(a) doesn't resolve with itself
none_one : (partner : Numbered) (a' b : ℕ) → one ≡ partner → ¬ AreOpposed one partner a' b
none_one partner a' b e h = let signs = (units_opposed 1 1 (lit true 1 a) (lit true 1 a) a' b (subst (λ (x : Numbered). AreOpposed one x a' b) (sym e) h)).0 in let bad : true ≡ false = signs in cc

-- nor -q(a) with p(a) or itself
none_three : (partner : Numbered) (a' b : ℕ) → (one ≡ partner) ⊎ (three ≡ partner) → ¬ AreOpposed three partner a' b
none_three partner a' b (inl e) h = let same = (units_opposed 3 1 (lit false 2 a) (lit true 1 a) a' b (subst (λ (x : Numbered). AreOpposed three x a' b) (sym e) h)).1 in omega (arith, same)
none_three partner a' b (inr e) h = let signs = (units_opposed 3 3 (lit false 2 a) (lit false 2 a) a' b (subst (λ (x : Numbered). AreOpposed three x a' b) (sym e) h)).0 in let bad : false ≡ true = signs in cc

no_sites : (clause : Numbered) (usable : List Numbered) → ((site : Site) → ¬ IsSite flags clause usable site) → AreSites flags clause usable 100001 []
no_sites clause usable h = record {
  rising = λ i j d less within. absurd (omega (arith, within));
  only = λ k d within. absurd (omega (arith, within));
  no_more = omega arith;
  first = λ site is. absurd (h site is);
}

nothing_one : (site : Site) → ¬ IsSite flags one (one ∷ []) site
nothing_one (Binary site) h = none_one h.1.1.partner site.given_lit site.partner_lit (in_one one h.1.1.partner h.1.1.listed) (binary_opposed one (one ∷ []) site h.1.0 h.1.1)
nothing_one (Factor site) h = let bad : false ≡ true = h.0 in cc
nothing_one (Hyper site) h = let bad : false ≡ true = h.0 in cc
nothing_one (Ur site) h = let bad : false ≡ true = h.0 in cc
nothing_one (ParaFrom site) h = let bad : false ≡ true = h.0 in cc
nothing_one (ParaInto site) h = let bad : false ≡ true = h.0 in cc

nothing_three : (site : Site) → ¬ IsSite flags three (one ∷ three ∷ []) site
nothing_three (Binary site) h =
    none_three h.1.1.partner site.given_lit site.partner_lit (in_two one three h.1.1.partner h.1.1.listed) (binary_opposed three (one ∷ three ∷ []) site h.1.0 h.1.1)
nothing_three (Factor site) h = let bad : false ≡ true = h.0 in cc
nothing_three (Hyper site) h = let bad : false ≡ true = h.0 in cc
nothing_three (Ur site) h = let bad : false ≡ true = h.0 in cc
nothing_three (ParaFrom site) h = let bad : false ≡ true = h.0 in cc
nothing_three (ParaInto site) h = let bad : false ≡ true = h.0 in cc

-- ---- two turns

abbrev pub row : ℕ → ℕ → Truth → GivenRow
row turn number truth = record { turn = turn; number = number; cause = cause.Weight; name = opening_name; truth = truth; lengths = 0 ∷ [] }

abbrev pub before_one : Run
before_one = record { book = opened; given = []; ended = None; goal = None }

abbrev book_one : Book
book_one = record { derived = []; usable = one ∷ []; sos = given ∷ three ∷ []; passive = []; demods = []; kept = [] }

abbrev after_one : Run
after_one = record { book = book_one; given = row 1 1 False ∷ []; ended = None; goal = None }

abbrev pub book_two : Book
book_two = record { derived = []; usable = one ∷ three ∷ []; sos = given ∷ []; passive = []; demods = []; kept = [] }

abbrev pub after_two : Run
after_two = record { book = book_two; given = row 1 1 False ∷ row 2 3 True ∷ []; ended = None; goal = None }

turn_one : Infer problem 1 before_one ([] ∷ []) after_one
turn_one = record {
  name = opening_name;
  guide = opening problem.symbols;
  guides = guides;
  given = one;
  cause = cause.Weight;
  selects = selects_one;
  truth = False;
  marked = mark_one;
  sites = [];
  are_sites = no_sites one (one ∷ []) nothing_one;
  book = book_one;
  finish = Done;
  works = done;
  goes_to = refl;
}

turn_two : Infer problem 2 after_one ([] ∷ []) after_two
turn_two = record {
  name = opening_name;
  guide = opening problem.symbols;
  guides = guides;
  given = three;
  cause = cause.Weight;
  selects = selects_three;
  truth = True;
  marked = mark_three;
  sites = [];
  are_sites = no_sites three (one ∷ three ∷ []) nothing_three;
  book = book_two;
  finish = Done;
  works = done;
  goes_to = refl;
}

-- the first and the second turn: clauses 1 and 3 are given, as the lightest, and give nothing
pub goes_one : Goes problem before_one ([] ∷ []) after_one
goes_one = inr (λ e. cc, inr (λ e. cc, inr (λ e. omega (arith, e), inr (λ h. omega (arith, h), turn_one))))

pub goes_two : Goes problem after_one ([] ∷ []) after_two
goes_two = inr (λ e. cc, inr (λ e. cc, inr (λ e. omega (arith, e), inr (λ h. omega (arith, h), turn_two))))

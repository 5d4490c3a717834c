-- Worked: the run of the one clause p in the set of support, without flags and finders.
use Rattle.std.proofs.Common.{◌≡◌, sym, subst, refl, ℕ, zero, suc, ◌<◌, inl, inr, List, [], ◌∷◌, arith, true, false, Some, None}
use Rattle.std.specs.List.{Contains, All}
use Rattle.sc_interp.specs.Versions.{ClaimedStructure, opening}
use Rattle.sc_core_rules.proofs.OrderLaws.{not_before_itself}
use Rattle.sc_term.specs.declared.Clause.{Clause}
use Rattle.sc_input_rules.specs.Problem.{Stated}
use Rattle.sc_input_rules.specs.declared.settings.Flags.{Flags}
use Rattle.sc_input_rules.specs.declared.settings.Params.{Params}
use Rattle.sc_term.specs.declared.symbol.Symbol.{Symbol}
use Rattle.sc_term.specs.declared.symbol.Role.TheVariants.{Predicate}
use Rattle.sc_input_rules.specs.declared.settings.Home.TheVariants.{Sos}
use Rattle.sc_term.specs.declared.Numbered.{Numbered}
use Rattle.sc_interp.specs.declared.plain.Truth.TheVariants.{False}
use Rattle.sc_core_rules.specs.declared.row.Cause.TheVariants as cause
use Rattle.sc_core_rules.specs.declared.row.GivenRow.{GivenRow}
use Rattle.sc_core_rules.specs.declared.row.Outcome.TheVariants.{SosEmpty}
use Rattle.sc_core_rules.specs.Order.{none, taken, passed, IsBefore, IsLeast}
use Rattle.sc_core_rules.specs.Book.{Book}
use Rattle.sc_core_rules.specs.Start.{Starts, EndsStart, input_clauses}
use Rattle.sc_interp.specs.Marks.{IsMark}
use Rattle.sc_core_rules.specs.Selection.{IsGuide, Selects, IsAny, by_weight, opening_name}
use Rattle.sc_core_rules.specs.Sites.{Site, Binary, Factor, Hyper, Ur, ParaFrom, ParaInto, IsSite, AreSites}
use Rattle.sc_core_rules.specs.WorkList.{Done, done}
use Rattle.sc_core_rules.specs.Turn.{Run, Infer}
use Rattle.sc_core_rules.specs.Run.{IsRun, looks_of, Goes}

abbrev fact : Clause
fact = record { literals = record { positive = true; pred = record { 0 = 1 }; args = [] } ∷ [] }

abbrev pub flags : Flags
flags = record {
  binary_res = false;
  factor = false;
  hyper_res = false;
  ur_res = false;
  para_from = false;
  para_into = false;
  unit_deletion = false;
  dynamic_demod = false;
  back_demod = false;
  for_sub = true;
  back_sub = true;
}

abbrev pub params : Params
params = record { pick_given_ratio = 4; max_weight = 100; max_literals = 64; max_given = 10000; max_kept = 20000; demod_limit = 1000; max_proofs = 1 }

abbrev pub symbol : ℕ → Symbol
symbol arity = record { name = []; arity = arity; role = Predicate }

abbrev problem : Stated
problem = record { symbols = symbol 2 ∷ symbol 0 ∷ []; inputs = fact ∷ []; homes = Sos ∷ []; flags = flags; params = params }

abbrev p_one : Numbered
p_one = record { number = 1; clause = fact }

abbrev opened : Book
opened = record { derived = []; usable = []; sos = p_one ∷ []; passive = []; demods = []; kept = [] }

-- ---- the start

not_earlier : (m : Numbered) → Contains (p_one ∷ []) m → ¬ m.number < 1
not_earlier m (zero, within, e) h = let less : 1 < 1 = subst (λ (n : Numbered). n.number < 1) (sym e) h in absurd (omega (arith, less))
not_earlier m (suc k, within, e) h = absurd (omega arith)

at_one : ¬ EndsStart problem p_one
at_one (inl e) = cc
at_one (inr (m, h, rival)) = not_earlier m h rival.earlier

not_ended : (n : Numbered) → Contains (input_clauses problem) n → ¬ EndsStart problem n
not_ended n (zero, within, e) ends = at_one (subst (EndsStart problem) (sym e) ends)
not_ended n (suc k, within, e) ends = absurd (omega arith)

starts : Starts problem opened None
starts = record {
  opened = opened;
  opens = record { usable = passed (λ e. cc) none; sos = taken refl none; passive = passed (λ e. cc) none; demods = passed (λ e. cc) none; no_derived = refl; no_kept = refl };
  ends = inr (λ e. not_ended e.0 e.1 e.2, (refl, refl));
}

-- ---- the turn

marked : IsMark (opening problem.symbols).tables fact False
marked = (omega arith, λ h. let bad : false ≡ true = h (λ n. 0) (λ n. omega arith) in cc)

abbrev row : GivenRow
row = record { turn = 1; number = 1; cause = cause.Weight; name = opening_name; truth = False; lengths = 0 ∷ [] }

abbrev given_book : Book
given_book = record { derived = []; usable = p_one ∷ []; sos = []; passive = []; demods = []; kept = [] }

abbrev after_one : Run
after_one = record { book = given_book; given = row ∷ []; ended = None; goal = None }

guides : IsGuide problem ([] ∷ []) opening_name (opening problem.symbols)
guides = inl (empty, (refl, refl))
  where
    empty : All (λ (versions : List ClaimedStructure). versions ≡ []) ([] ∷ [])
    empty zero d h = refl
    empty (suc k) d h = absurd (omega arith)

selects : Selects problem (p_one ∷ []) 1 opening_name (opening problem.symbols) p_one cause.Weight
selects = inr (λ e. cc, inr (λ h. h.0 refl, (refl, least)))
  where
    alone : (y : Numbered) → Contains (p_one ∷ []) y → ¬ IsBefore (by_weight problem y) (by_weight problem p_one)
    alone y (zero, within, e) h = not_before_itself (by_weight problem y) (subst (λ q. IsBefore (by_weight problem y) (by_weight problem q)) e h)
    alone y (suc k, within, e) h = absurd (omega arith)

    least : IsLeast (by_weight problem) IsAny (p_one ∷ []) p_one
    least = record { listed = (0, omega arith, refl); holds = tt; least = λ y h any. alone y h }

no_site : (site : Site) → ¬ IsSite flags p_one (p_one ∷ []) site
no_site (Binary site) h = let bad : false ≡ true = h.0 in cc
no_site (Factor site) h = let bad : false ≡ true = h.0 in cc
no_site (Hyper site) h = let bad : false ≡ true = h.0 in cc
no_site (Ur site) h = let bad : false ≡ true = h.0 in cc
no_site (ParaFrom site) h = let bad : false ≡ true = h.0 in cc
no_site (ParaInto site) h = let bad : false ≡ true = h.0 in cc

no_sites : AreSites flags p_one (p_one ∷ []) 100001 []
no_sites = record {
  rising = λ i j d less within. absurd (omega (arith, within));
  only = λ k d within. absurd (omega (arith, within));
  no_more = omega arith;
  first = λ site h. absurd (no_site site h);
}

infers : Infer problem 1 (record { book = opened; given = []; ended = None; goal = None }) ([] ∷ []) after_one
infers = record {
  name = opening_name;
  guide = opening problem.symbols;
  guides = guides;
  given = p_one;
  cause = cause.Weight;
  selects = selects;
  truth = False;
  marked = marked;
  sites = [];
  are_sites = no_sites;
  book = given_book;
  finish = Done;
  works = done;
  goes_to = refl;
}

-- ---- the run

abbrev ended : Run
ended = record { book = given_book; given = row ∷ []; ended = Some SosEmpty; goal = None }

goes_one : Goes problem (record { book = opened; given = []; ended = None; goal = None }) ([] ∷ []) after_one
goes_one = inr (λ e. cc, inr (λ e. cc, inr (λ e. omega (arith, e), inr (λ h. omega (arith, h), infers))))

goes_two : Goes problem after_one ([] ∷ []) ended
goes_two = inr (λ e. cc, inl (refl, refl))

-- the machine makes this run of the looks that its one row states
pub run : IsRun problem (looks_of (row ∷ []) ([] ∷ [])) ended
run = record { book = opened; goal = None; starts = starts; goes = (after_one, goes_one, (ended, goes_two, refl)) }

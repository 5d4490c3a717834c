-- Worked: the events turn, publish, look, turn, and the same without the look. In the list usable p(a), and in the set of
-- support s, -q(b) and q(a). In the version that is published between the turns p(a) is true and q is false everywhere.
use Rattle.std.proofs.Common.{◌≡◌, ◌≢◌, ◌∙◌, sym, ap, subst, refl, ℕ, ◌+◌, ◌<◌, ◌≤◌, ◌⊎◌, inl, inr, List, [], ◌∷◌, map, get_or, arith, Bool, true, false, not, None}
use Rattle.std.specs.List.{Contains}
use Rattle.sc_term.specs.declared.SymId.{SymId}
use Rattle.sc_term.specs.declared.Term.{Term, Var}
use Rattle.sc_term.specs.declared.Term.TheVariants.{App}
use Rattle.sc_term.specs.declared.Literal.{Literal}
use Rattle.sc_term.specs.declared.Numbered.{Numbered}
use Rattle.sc_term.specs.declared.symbol.Symbol.{Symbol}
use Rattle.sc_term.specs.declared.symbol.Role.{Role}
use Rattle.sc_term.specs.declared.symbol.Role.TheVariants.{Predicate, Function}
use Rattle.sc_term.specs.Clause.{weight, width}
use Rattle.sc_term.specs.Interpretation.{Assignment, value, value_step}
use Rattle.sc_term.specs.Refuted.{Atom}
use Rattle.sc_term.specs.Term.{term_under}
use Rattle.sc_term.specs.Substitution.{Substitution, literal_under}
use Rattle.sc_term.proofs.TermLaws.{fold-App, weight-App, App-injective}
use Rattle.sc_term.proofs.ContainsLaws.{first_or_later}
use Rattle.sc_term.proofs.TermSteps.{under-App, variables-App}
use Rattle.sc_input_rules.specs.Problem.{Stated}
use Rattle.sc_input_rules.specs.declared.settings.Home.TheVariants.{Usable, Sos}
use Rattle.sc_interp.specs.Structure.{meaning_of}
use Rattle.sc_interp.specs.Versions.{opening, ClaimedStructure}
use Rattle.sc_interp.specs.Marks.{IsMark}
use Rattle.sc_interp.specs.declared.table.Table.{Table}
use Rattle.sc_interp.specs.declared.plain.Truth.{Truth}
use Rattle.sc_interp.specs.declared.plain.Truth.TheVariants.{True, False}
use Rattle.sc_interp.specs.declared.plain.VersionName.{VersionName}
use Rattle.sc_core_rules.specs.declared.row.Cause.{Cause}
use Rattle.sc_core_rules.specs.declared.row.Cause.TheVariants as cause
use Rattle.sc_core_rules.specs.declared.row.GivenRow.{GivenRow}
use Rattle.sc_core_rules.specs.Order.{none, taken, passed, IsBefore}
use Rattle.sc_core_rules.specs.Book.{Book}
use Rattle.sc_core_rules.specs.Start.{Starts, EndsStart, input_clauses}
use Rattle.sc_core_rules.specs.Selection.{IsGuide, IsFalse, Selects, by_weight, opening_name}
use Rattle.sc_core_rules.specs.Sites.{Site, Binary, Factor, Hyper, Ur, ParaFrom, ParaInto, IsSite, AreSites}
use Rattle.sc_core_rules.specs.WorkList.{Done, done}
use Rattle.sc_core_rules.specs.Turn.{Run, Infer}
use Rattle.sc_core_rules.specs.Run.{Goes, started}
use Rattle.sc_core_rules.proofs.OrderLaws.{not_before_itself}
use Rattle.sc_core_rules.proofs.Enumerations.{in_two, in_three, all_of_one, numbered_one}
use Rattle.sc_core_rules.proofs.SiteLaws.{AreOpposed, binary_opposed, pair_of}
use Rattle.sc_core_rules.proofs.OpposedLaws.{conflict_opposed, units_opposed}
use Rattle.sc_core_rules.proofs.RunExample.{params}
use Rattle.sc_core_rules.proofs.SyllogismExample.{flags}
use Rattle.sc_guide.proofs.GuideLaws.{becomes_guide}
use Rattle.sc_world.specs.Events.{Machine, Publish, Look, Turn, IsAfter}

-- ---- the problem

abbrev symbol : ℕ → Role → Symbol
symbol arity role = record { name = []; arity = arity; role = role }

abbrev a : Term
a = App (record { 0 = 2 }) []

abbrev b : Term
b = App (record { 0 = 5 }) []

abbrev lit : Bool → ℕ → List Term → Literal
lit positive pred ts = record { positive = positive; pred = record { 0 = pred }; args = ts }

abbrev unit : ℕ → Literal → Numbered
unit n l = record { number = n; clause = record { literals = l ∷ [] } }

abbrev p_a : Literal
p_a = lit true 1 (a ∷ [])

abbrev s : Literal
s = lit true 3 []

abbrev not_q_b : Literal
not_q_b = lit false 4 (b ∷ [])

abbrev q_a : Literal
q_a = lit true 4 (a ∷ [])

abbrev one : Numbered
one = unit 1 p_a

abbrev two : Numbered
two = unit 2 s

abbrev three : Numbered
three = unit 3 not_q_b

abbrev four : Numbered
four = unit 4 q_a

abbrev problem : Stated
problem = record {
  symbols = symbol 2 Predicate ∷ symbol 1 Predicate ∷ symbol 0 Function ∷ symbol 0 Predicate ∷ symbol 1 Predicate ∷ symbol 0 Function ∷ [];
  inputs = one.clause ∷ two.clause ∷ three.clause ∷ four.clause ∷ [];
  homes = Usable ∷ Sos ∷ Sos ∷ Sos ∷ [];
  flags = flags;
  params = params;
}

-- ---- the versions

abbrev first : ClaimedStructure
first = opening problem.symbols

abbrev table : ℕ → Role → List ℕ → Table
table arity role entries = record { role = role; arity = arity; entries = entries }

-- p is true of 1 alone, which is a; b is 0; the rest is false
abbrev version : ClaimedStructure
version = record {
  tables = record { size = 2; tables = table 1 Predicate (0 ∷ 1 ∷ []) ∷ table 0 Function (1 ∷ []) ∷ table 0 Predicate (0 ∷ []) ∷ table 1 Predicate (0 ∷ 0 ∷ []) ∷ table 0 Function (0 ∷ []) ∷ [] };
  claims = record { number = 1; clause = one.clause } ∷ [];
}

value-first : (v : Assignment) (f : SymId) (ts : List Term) → value (meaning_of first.tables) v (App f ts) ≡ (meaning_of first.tables).function f (map (value (meaning_of first.tables) v) ts)
value-first v f ts = fold-App ℕ (value_step (meaning_of first.tables) v) f ts

value-version : (v : Assignment) (f : SymId) (ts : List Term) → value (meaning_of version.tables) v (App f ts) ≡ (meaning_of version.tables).function f (map (value (meaning_of version.tables) v) ts)
value-version v f ts = fold-App ℕ (value_step (meaning_of version.tables) v) f ts

mark_two : IsMark first.tables two.clause False
mark_two = (omega arith, λ h. let bad : false ≡ true = h (λ n. 0) (λ n. omega arith) in cc)

mark_three : IsMark first.tables three.clause True
mark_three = (simp variables-App (omega arith), λ v within. simp value-first)

three_true : IsMark version.tables three.clause True
three_true = (simp variables-App (omega arith), λ v within. simp value-version)

four_false : IsMark version.tables four.clause False
four_false = (simp variables-App (omega arith), λ h. let bad : false ≡ true = simp value-version at (h (λ n. 0) (λ n. omega arith)) in cc)

-- ---- clauses 3 and 4 don't conflict, since a isn't b

ground : (by : Substitution) (f : SymId) → term_under by (App f []) ≡ App f []
ground by f = under-App by f []

not_opposed : ¬ AreOpposed four three 1 1
not_opposed h = let number = ap (λ (f : SymId). f.0) (App-injective (record { 0 = 2 }) (record { 0 = 5 }) [] [] (sym (twice shift (record { 0 = 2 })) ∙ same ∙ twice shifted (record { 0 = 5 }))).0 in omega (arith, number)
  where
    shift : Substitution
    shift n = Var (n + 0)

    shifted : Substitution
    shifted n = Var (n + (0 + width (four.clause)))

    by : Substitution
    by = h.unify.0

    twice : (r : Substitution) (f : SymId) → term_under by (term_under r (App f [])) ≡ App f []
    twice r f = ap (term_under by) (ground r f) ∙ ground by f

    left : literal_under shift q_a ≡ h.left
    left = (numbered_one (literal_under shift q_a) 1 h.left h.left_there).1

    right : literal_under shifted not_q_b ≡ h.right
    right = (numbered_one (literal_under shifted not_q_b) 1 h.right h.right_there).1

    same : term_under by (term_under shift a) ≡ term_under by (term_under shifted b)
    same =
        ap (λ (l : Literal). get_or (literal_under by l).args 0 a) left
        ∙ ap (λ (x : Atom). get_or x.args 0 a) (h.unify.1 0 (pair_of q_a not_q_b) (omega arith))
        ∙ sym (ap (λ (l : Literal). get_or (literal_under by l).args 0 a) right)

-- ---- the guide

nothing_seen : IsGuide problem ([] ∷ []) opening_name first
nothing_seen = inl (all_of_one (λ (versions : List ClaimedStructure). versions ≡ []) [] refl, (refl, refl))

abbrev name : VersionName
name = record { finder = 1; place = 0 }

version_seen : IsGuide problem ((version ∷ []) ∷ []) name version
version_seen = becomes_guide problem ([] ∷ []) 1 version [] opening_name first refl (inl refl) nothing_seen

-- ---- the choices

weight_two : weight two.clause ≡ 1
weight_two = refl

weight_three : weight three.clause ≡ 2
weight_three = simp weight-App

weight_four : weight four.clause ≡ 2
weight_four = simp weight-App

-- not lighter, nor of equal weight and a lesser number
not_lighter : (v w m n : ℕ) → w ≤ v → n ≤ m → ¬ IsBefore (v ∷ m ∷ []) (w ∷ n ∷ [])
not_lighter v w m n heavy later (inl less) = omega (arith, heavy, less)
not_lighter v w m n heavy later (inr (e, inl less)) = omega (arith, later, less)
not_lighter v w m n heavy later (inr (e, inr (f, bad))) = bad

selects_two : Selects problem (two ∷ three ∷ four ∷ []) 1 opening_name first two cause.Weight
selects_two = inr (λ e. cc, inr (λ h. h.0 refl, (refl, record { listed = (0, omega arith, refl); holds = tt; least = λ y h any. by y (in_three two three four y h) })))
  where
    by : (y : Numbered) → (two ≡ y) ⊎ (three ≡ y) ⊎ (four ≡ y) → ¬ IsBefore (by_weight problem y) (by_weight problem two)
    by y (inl e) h = not_before_itself (by_weight problem two) (subst (λ (x : Numbered). IsBefore (by_weight problem x) (by_weight problem two)) (sym e) h)
    by y (inr (inl e)) h = not_lighter (weight three.clause) (weight two.clause) 3 2 (omega (arith, weight_two, weight_three)) (omega arith) (subst (λ (x : Numbered). IsBefore (by_weight problem x) (by_weight problem two)) (sym e) h)
    by y (inr (inr e)) h = not_lighter (weight four.clause) (weight two.clause) 4 2 (omega (arith, weight_two, weight_four)) (omega arith) (subst (λ (x : Numbered). IsBefore (by_weight problem x) (by_weight problem two)) (sym e) h)

-- with the look: clause 4, which is false in the version
selects_four : Selects problem (three ∷ four ∷ []) 2 name version four cause.False
selects_four = inr (λ e. cc, inl ((named, (four, (1, omega arith, refl), four_false)), (refl, record { listed = (1, omega arith, refl); holds = four_false; least = λ y h is_false. by y is_false (in_two three four y h) })))
  where
    named : name ≢ opening_name
    named e = let finder : 1 ≡ 0 = ap (λ (n : VersionName). n.finder) e in omega (arith, finder)

    by : (y : Numbered) → IsFalse version y → (three ≡ y) ⊎ (four ≡ y) → ¬ IsBefore (by_weight problem y) (by_weight problem four)
    by y is_false (inl e) h = let so = subst (λ (x : Numbered). IsFalse version x) (sym e) is_false in so.1 three_true.1
    by y is_false (inr e) h = not_before_itself (by_weight problem four) (subst (λ (x : Numbered). IsBefore (by_weight problem x) (by_weight problem four)) (sym e) h)

-- without it: clause 3, which is as light as clause 4
selects_three : Selects problem (three ∷ four ∷ []) 2 opening_name first three cause.Weight
selects_three = inr (λ e. cc, inr (λ h. h.0 refl, (refl, record { listed = (0, omega arith, refl); holds = tt; least = λ y h any. by y (in_two three four y h) })))
  where
    by : (y : Numbered) → (three ≡ y) ⊎ (four ≡ y) → ¬ IsBefore (by_weight problem y) (by_weight problem three)
    by y (inl e) h = not_before_itself (by_weight problem three) (subst (λ (x : Numbered). IsBefore (by_weight problem x) (by_weight problem three)) (sym e) h)
    by y (inr e) h = not_lighter (weight four.clause) (weight three.clause) 4 3 (omega (arith, weight_three, weight_four)) (omega arith) (subst (λ (x : Numbered). IsBefore (by_weight problem x) (by_weight problem three)) (sym e) h)

-- ---- no sites

-- units of one sign
same_sign : (i j : ℕ) (l m : Literal) (partner : Numbered) (x y : ℕ) → l.positive ≡ true → m.positive ≡ true → unit j m ≡ partner → ¬ AreOpposed (unit i l) partner x y
same_sign i j l m partner x y left right e h =
    let signs = (units_opposed i j l m x y (subst (λ (p : Numbered). AreOpposed (unit i l) p x y) (sym e) h)).0 in
    let bad : true ≡ false = sym left ∙ signs ∙ ap not right in
    cc

none_two : (partner : Numbered) (x y : ℕ) → (one ≡ partner) ⊎ (two ≡ partner) → ¬ AreOpposed two partner x y
none_two partner x y (inl e) h = same_sign 2 1 s p_a partner x y refl refl e h
none_two partner x y (inr e) h = same_sign 2 2 s s partner x y refl refl e h

none_four : (partner : Numbered) (x y : ℕ) → (one ≡ partner) ⊎ (two ≡ partner) ⊎ (four ≡ partner) → ¬ AreOpposed four partner x y
none_four partner x y (inl e) h = same_sign 4 1 q_a p_a partner x y refl refl e h
none_four partner x y (inr (inl e)) h = same_sign 4 2 q_a s partner x y refl refl e h
none_four partner x y (inr (inr e)) h = same_sign 4 4 q_a q_a partner x y refl refl e h

none_three : (partner : Numbered) (x y : ℕ) → (one ≡ partner) ⊎ (two ≡ partner) ⊎ (three ≡ partner) → ¬ AreOpposed three partner x y
none_three partner x y (inl e) h = let same = (units_opposed 3 1 not_q_b p_a x y (subst (λ (p : Numbered). AreOpposed three p x y) (sym e) h)).1 in omega (arith, same)
none_three partner x y (inr (inl e)) h = let same = (units_opposed 3 2 not_q_b s x y (subst (λ (p : Numbered). AreOpposed three p x y) (sym e) h)).1 in omega (arith, same)
none_three partner x y (inr (inr e)) h = let signs = (units_opposed 3 3 not_q_b not_q_b x y (subst (λ (p : Numbered). AreOpposed three p x y) (sym e) h)).0 in let bad : false ≡ true = signs in cc

no_sites : (clause : Numbered) (usable : List Numbered) → ((partner : Numbered) (x y : ℕ) → Contains usable partner → ¬ AreOpposed clause partner x y) → AreSites flags clause usable 100001 []
no_sites clause usable never = record {
  rising = λ i j d less within. absurd (omega (arith, within));
  only = λ k d within. absurd (omega (arith, within));
  no_more = omega arith;
  first = λ site is. absurd (nothing site is);
}
  where
    nothing : (site : Site) → ¬ IsSite flags clause usable site
    nothing (Binary site) h = never h.1.1.partner site.given_lit site.partner_lit h.1.1.listed (binary_opposed clause usable site h.1.0 h.1.1)
    nothing (Factor site) h = let bad : false ≡ true = h.0 in cc
    nothing (Hyper site) h = let bad : false ≡ true = h.0 in cc
    nothing (Ur site) h = let bad : false ≡ true = h.0 in cc
    nothing (ParaFrom site) h = let bad : false ≡ true = h.0 in cc
    nothing (ParaInto site) h = let bad : false ≡ true = h.0 in cc

-- ---- the start

abbrev opened : Book
opened = record { derived = []; usable = one ∷ []; sos = two ∷ three ∷ four ∷ []; passive = []; demods = []; kept = [] }

in_four : (n : Numbered) → Contains (input_clauses problem) n → (one ≡ n) ⊎ (two ≡ n) ⊎ (three ≡ n) ⊎ (four ≡ n)
in_four n h = by (first_or_later n one (two ∷ three ∷ four ∷ []) h)
  where
    by : (one ≡ n) ⊎ Contains (two ∷ three ∷ four ∷ []) n → (one ≡ n) ⊎ (two ≡ n) ⊎ (three ≡ n) ⊎ (four ≡ n)
    by (inl e) = inl e
    by (inr k) = inr (in_three two three four n k)

-- m isn't earlier than clause n where its number isn't less
not_earlier : (x m : Numbered) (n : ℕ) → x ≡ m → n ≤ x.number → ¬ m.number < n
not_earlier x m n e late less = let too = subst (λ (y : Numbered). y.number < n) (sym e) less in omega (arith, too, late)

at_one : ¬ EndsStart problem one
at_one (inl e) = cc
at_one (inr (m, h, rival)) = by (in_four m h)
  where
    by : (one ≡ m) ⊎ (two ≡ m) ⊎ (three ≡ m) ⊎ (four ≡ m) → ⊥
    by (inl e) = not_earlier one m 1 e (omega arith) rival.earlier
    by (inr (inl e)) = not_earlier two m 1 e (omega arith) rival.earlier
    by (inr (inr (inl e))) = not_earlier three m 1 e (omega arith) rival.earlier
    by (inr (inr (inr e))) = not_earlier four m 1 e (omega arith) rival.earlier

at_two : ¬ EndsStart problem two
at_two (inl e) = cc
at_two (inr (m, h, rival)) = by (in_four m h)
  where
    by : (one ≡ m) ⊎ (two ≡ m) ⊎ (three ≡ m) ⊎ (four ≡ m) → ⊥
    by (inl e) = none_two m 1 1 (inl e) (conflict_opposed two m rival.made rival.conflicts)
    by (inr (inl e)) = not_earlier two m 2 e (omega arith) rival.earlier
    by (inr (inr (inl e))) = not_earlier three m 2 e (omega arith) rival.earlier
    by (inr (inr (inr e))) = not_earlier four m 2 e (omega arith) rival.earlier

at_three : ¬ EndsStart problem three
at_three (inl e) = cc
at_three (inr (m, h, rival)) = by (in_four m h)
  where
    by : (one ≡ m) ⊎ (two ≡ m) ⊎ (three ≡ m) ⊎ (four ≡ m) → ⊥
    by (inl e) = none_three m 1 1 (inl e) (conflict_opposed three m rival.made rival.conflicts)
    by (inr (inl e)) = none_three m 1 1 (inr (inl e)) (conflict_opposed three m rival.made rival.conflicts)
    by (inr (inr (inl e))) = not_earlier three m 3 e (omega arith) rival.earlier
    by (inr (inr (inr e))) = not_earlier four m 3 e (omega arith) rival.earlier

at_four : ¬ EndsStart problem four
at_four (inl e) = cc
at_four (inr (m, h, rival)) = by (in_four m h)
  where
    by : (one ≡ m) ⊎ (two ≡ m) ⊎ (three ≡ m) ⊎ (four ≡ m) → ⊥
    by (inl e) = none_four m 1 1 (inl e) (conflict_opposed four m rival.made rival.conflicts)
    by (inr (inl e)) = none_four m 1 1 (inr (inl e)) (conflict_opposed four m rival.made rival.conflicts)
    by (inr (inr (inl e))) = not_opposed (subst (λ (x : Numbered). AreOpposed four x 1 1) (sym e) (conflict_opposed four m rival.made rival.conflicts))
    by (inr (inr (inr e))) = not_earlier four m 4 e (omega arith) rival.earlier

not_ended : (n : Numbered) → Contains (input_clauses problem) n → ¬ EndsStart problem n
not_ended n h ends = by (in_four n h)
  where
    by : (one ≡ n) ⊎ (two ≡ n) ⊎ (three ≡ n) ⊎ (four ≡ n) → ⊥
    by (inl e) = at_one (subst (EndsStart problem) (sym e) ends)
    by (inr (inl e)) = at_two (subst (EndsStart problem) (sym e) ends)
    by (inr (inr (inl e))) = at_three (subst (EndsStart problem) (sym e) ends)
    by (inr (inr (inr e))) = at_four (subst (EndsStart problem) (sym e) ends)

starts : Starts problem opened None
starts = record {
  opened = opened;
  opens = record {
    usable = taken refl (passed (λ e. cc) (passed (λ e. cc) (passed (λ e. cc) none)));
    sos = passed (λ e. cc) (taken refl (taken refl (taken refl none)));
    passive = passed (λ e. cc) (passed (λ e. cc) (passed (λ e. cc) (passed (λ e. cc) none)));
    demods = passed (λ e. cc) (passed (λ e. cc) (passed (λ e. cc) (passed (λ e. cc) none)));
    no_derived = refl;
    no_kept = refl;
  };
  ends = inr (λ e. not_ended e.0 e.1 e.2, (refl, refl));
}

-- ---- the turns

abbrev row : ℕ → ℕ → Cause → VersionName → Truth → ℕ → GivenRow
row turn number why named truth many = record { turn = turn; number = number; cause = why; name = named; truth = truth; lengths = many ∷ [] }

abbrev row_one : GivenRow
row_one = row 1 2 cause.Weight opening_name False 0

abbrev run_of : List Numbered → List Numbered → List GivenRow → Run
run_of usable sos rows = record { book = record opened { usable = usable; sos = sos }; given = rows; ended = None; goal = None }

abbrev after_one : Run
after_one = run_of (one ∷ two ∷ []) (three ∷ four ∷ []) (row_one ∷ [])

-- with the look the second row tells clause 4, under the version
abbrev looked : Run
looked = run_of (one ∷ two ∷ four ∷ []) (three ∷ []) (row_one ∷ row 2 4 cause.False name False 1 ∷ [])

-- without it clause 3, under the opening version
abbrev not_looked : Run
not_looked = run_of (one ∷ two ∷ three ∷ []) (four ∷ []) (row_one ∷ row 2 3 cause.Weight opening_name True 0 ∷ [])

turn_one : Infer problem 1 (started opened None) ([] ∷ []) after_one
turn_one = record {
  name = opening_name;
  guide = first;
  guides = nothing_seen;
  given = two;
  cause = cause.Weight;
  selects = selects_two;
  truth = False;
  marked = mark_two;
  sites = [];
  are_sites = no_sites two (one ∷ two ∷ []) (λ p x y h. none_two p x y (in_two one two p h));
  book = after_one.book;
  finish = Done;
  works = done;
  goes_to = refl;
}

turn_looked : Infer problem 2 after_one ((version ∷ []) ∷ []) looked
turn_looked = record {
  name = name;
  guide = version;
  guides = version_seen;
  given = four;
  cause = cause.False;
  selects = selects_four;
  truth = False;
  marked = four_false;
  sites = [];
  are_sites = no_sites four (one ∷ two ∷ four ∷ []) (λ p x y h. none_four p x y (in_three one two four p h));
  book = looked.book;
  finish = Done;
  works = done;
  goes_to = refl;
}

turn_not_looked : Infer problem 2 after_one ([] ∷ []) not_looked
turn_not_looked = record {
  name = opening_name;
  guide = first;
  guides = nothing_seen;
  given = three;
  cause = cause.Weight;
  selects = selects_three;
  truth = True;
  marked = mark_three;
  sites = [];
  are_sites = no_sites three (one ∷ two ∷ three ∷ []) (λ p x y h. none_three p x y (in_three one two three p h));
  book = not_looked.book;
  finish = Done;
  works = done;
  goes_to = refl;
}

goes_one : Goes problem (started opened None) ([] ∷ []) after_one
goes_one = inr (λ e. cc, inr (λ e. cc, inr (λ e. omega (arith, e), inr (λ h. omega (arith, h), turn_one))))

goes_looked : Goes problem after_one ((version ∷ []) ∷ []) looked
goes_looked = inr (λ e. cc, inr (λ e. cc, inr (λ e. omega (arith, e), inr (λ h. omega (arith, h), turn_looked))))

goes_not_looked : Goes problem after_one ([] ∷ []) not_looked
goes_not_looked = inr (λ e. cc, inr (λ e. cc, inr (λ e. omega (arith, e), inr (λ h. omega (arith, h), turn_not_looked))))

-- ---- the events

abbrev machine : List ClaimedStructure → List ClaimedStructure → Run → Machine
machine published seen run = record { published = published ∷ []; seen = seen ∷ []; run = run }

abbrev at_start : Machine
at_start = machine [] [] (started opened None)

-- turn, publish, look, turn
pub with_the_look : IsAfter problem 1 (Turn ∷ Publish 1 version ∷ Look 1 ∷ Turn ∷ []) (machine (version ∷ []) (version ∷ []) looked)
with_the_look = (
  at_start,
  (opened, None, starts, refl),
  (
    machine [] [] after_one,
    (after_one, goes_one, refl),
    (
      machine (version ∷ []) [] after_one,
      refl,
      (
        machine (version ∷ []) (version ∷ []) after_one,
        refl,
        (machine (version ∷ []) (version ∷ []) looked, (looked, goes_looked, refl), refl),
      ),
    ),
  ),
)

-- turn, publish, turn
pub without_it : IsAfter problem 1 (Turn ∷ Publish 1 version ∷ Turn ∷ []) (machine (version ∷ []) [] not_looked)
without_it = (
  at_start,
  (opened, None, starts, refl),
  (
    machine [] [] after_one,
    (after_one, goes_one, refl),
    (
      machine (version ∷ []) [] after_one,
      refl,
      (machine (version ∷ []) [] not_looked, (not_looked, goes_not_looked, refl), refl),
    ),
  ),
)

-- A literal is removed by a unit.
use Rattle.std.proofs.Common.{◌≡◌, ◌∙◌, sym, ap, subst, refl, ℕ, zero, suc, ◌+◌, ◌-◌, ◌<◌, ◌≤◌, ◌⊎◌, ◌||◌, inl, inr, max, sum, not, Bool, true, false, true≢false, nat_eq, List, [], ◌∷◌, ◌++◌, map, length, length-append, get_or, slice_get, take, drop, remove, Result, Ok, Err, IfOk, Option, Some, None, MatchOption, arith}
use Rattle.std.specs.Prelude.{IsSomeAnd}
use Rattle.std.specs.List.{AllWithin, AllPairs, Contains, list_any, fold}
use Rattle.std.proofs.lemmas.Bool.{eqb-true}
use Rattle.std.proofs.lemmas.List.{append-nil}
use Rattle.std.proofs.lemmas.List.Sums.{sum_by-cons}
use Rattle.sc_term.specs.declared.Term.{Term}
use Rattle.sc_term.specs.declared.Literal.{Literal}
use Rattle.sc_term.specs.declared.Clause.{Clause}
use Rattle.sc_term.specs.declared.Line.{Line}
use Rattle.sc_term.specs.declared.Numbered.{Numbered}
use Rattle.sc_term.specs.declared.Step.TheVariants.{Resolve}
use Rattle.sc_term.specs.Numbering.{numbered, without}
use Rattle.sc_term.specs.Term.{value_of, joined, largest, term_variables}
use Rattle.sc_term.specs.Clause.{weight, depth, literal_weight, literal_depth, width, literal_width, literal_instance, variables}
use Rattle.sc_term.specs.Refuted.{atom_of}
use Rattle.sc_term.specs.Proof.{AreSteps, Follows, clause_of, IsResolvent, AreOpposite}
use Rattle.sc_steps.specs.Derivation.{last_clause}
use Rattle.sc_steps.proofs.LineLaws.{number_within, some_so, clause_of_end}
use Rattle.sc_steps.proofs.ListLaws.{some_and}
use Rattle.sc_unify.specs.Matching.{IsMatch, HasNoMatch}
use Rattle.sc_core_rules.specs.Order.{IsLeast}
use Rattle.sc_core_rules.specs.Rewriting.{number_of}
use Rattle.sc_core_rules.specs.Simplification.{Removes, IsRemovable, DeletesOnce}
use Rattle.sc_core_rules.specs.Derivation.{AddsPart, AreTermsTo}
use Rattle.sc_core_rules.proofs.NumberLaws.{numbered-suc}
use Rattle.sc_term.proofs.ContainsLaws.{later}
use Rattle.sc_core_rules.proofs.CheckLaws.{part_checks, adds_checks}
use Rattle.sc_demod.specs.Deleting.{IsRemoval, RemovesNone, opposite, IsCut}
use Rattle.sc_demod.specs.Standing.{Agrees}
use Rattle.sc_demod.proofs.FindLaws.{number_got}
use Rattle.sc_demod.proofs.LeastLaws.{least_of_first}
use Rattle.sc_demod.proofs.PartLaws.{part_clause, last_stays}

-- ---- what removes a literal

pub only_one : {X : Type 0} (xs : List X) (x : X) → length xs ≡ 1 → x ≡ get_or xs 0 x → xs ≡ x ∷ []
only_one [] x e at = absurd (omega (arith, e))
only_one (y ∷ []) x e at = ap (λ z. z ∷ []) (sym at)
only_one (y ∷ z ∷ zs) x e at = absurd (omega (arith, e))

pub opposed : (a b : Bool) → ¬ (a ≡ b) → a ≡ not b
opposed true true h = absurd (h refl)
opposed true false h = refl
opposed false true h = refl
opposed false false h = absurd (h refl)

pub twice : (a : Bool) → a ≡ not (not a)
twice true = refl
twice false = refl

pub removal_where : {E : Type 0} (r : Result (Option (List Term)) E) (l m : Literal) (u : Numbered) → u.clause.literals ≡ m ∷ [] → l.positive ≡ not m.positive
    → IfOk r (λ found. MatchOption found (HasNoMatch m l) (IsMatch m l)) → IfOk r (λ found. MatchOption found (¬ Removes l u) (IsRemoval l u))
removal_where (Err x) l m u only signs h = tt
removal_where (Ok None) l m u only signs h = λ r.
    let same : r.0 ≡ m = let e : r.0 ∷ [] ≡ m ∷ [] = sym r.2 ∙ only in cc in
    h (value_of r.1) (ap (λ (q : Literal). atom_of (literal_instance r.1 q)) (sym same) ∙ sym r.4)
removal_where (Ok (Some terms)) l m u only signs h = record { literal = m; only = only; signs = signs; equal = h }

any_contains : (v : ℕ) (ns : List ℕ) → list_any (nat_eq v) ns ≡ true → Contains ns v
any_contains v [] h = absurd (true≢false (sym h))
any_contains v (n ∷ ns) h = by (nat_eq v n) refl (λ k. any_contains v ns k) h
  where
    by : (b : Bool) → nat_eq v n ≡ b → (list_any (nat_eq v) ns ≡ true → Contains ns v) → (nat_eq v n || list_any (nat_eq v) ns) ≡ true → Contains (n ∷ ns) v
    by true e below k = (0, omega arith, sym (eqb-true v n e))
    by false e below k = later v n ns (below (sym (ap (λ (b : Bool). b || list_any (nat_eq v) ns) e) ∙ k))

pub absent_any : (v : ℕ) (ns : List ℕ) → ¬ Contains ns v → list_any (nat_eq v) ns ≡ false
absent_any v ns h = by (list_any (nat_eq v) ns) refl
  where
    by : (b : Bool) → list_any (nat_eq v) ns ≡ b → list_any (nat_eq v) ns ≡ false
    by true e = absurd (h (any_contains v ns e))
    by false e = e

pub terms_of_removal : (l : Literal) (u : Numbered) (terms : List Term) → IsRemoval l u terms → AreTermsTo u.clause (opposite l) terms
terms_of_removal l u terms h = record {
  many = h.equal.long ∙ sym wide;
  gives = ap (λ (ls : List Literal). let c : Clause = record { literals = map (literal_instance terms) ls } in c) h.only ∙ made;
  rest = λ n less out. h.equal.absent n (subst (λ k. n < k) wide less) (absent_any n (joined (map term_variables (h.literal).args)) (λ there. out (subst (λ ns. Contains ns n) (sym occurring) there)));
}
  where
    wide : width u.clause ≡ literal_width h.literal
    wide = ap (λ (ls : List Literal). largest (map literal_width ls)) h.only ∙ omega arith

    occurring : variables u.clause ≡ joined (map term_variables (h.literal).args)
    occurring = ap (λ (ls : List Literal). joined (map (λ (l : Literal). joined (map term_variables l.args)) ls)) h.only ∙ append-nil (joined (map term_variables (h.literal).args))

    sign : (h.literal).positive ≡ not l.positive
    sign = twice (h.literal).positive ∙ ap not (sym h.signs)

    made : record { literals = literal_instance terms h.literal ∷ [] } ≡ opposite l
    made = λ i. record { literals = record { positive = sign i; pred = (h.equal.equal i).pred; args = (h.equal.equal i).args } ∷ [] }

-- ---- the cut

pub is_cut : (clause : Clause) (before : List Line) (at : ℕ) (u : Numbered) (l : Literal) (mid after : List Line) (k : ℕ) (cut : Clause)
    → at < length clause.literals → l ≡ get_or clause.literals at l → last_clause before ≡ Some clause → Agrees before u
    → AddsPart before u (opposite l) mid k → cut.literals ≡ remove clause.literals at → after ≡ mid ++ record { step = Resolve (length before) (at + 1) k 1; clause = cut } ∷ []
    → IsCut clause before (at + 1) u cut after
is_cut clause before at u l mid after k cut less here last agrees shows rest grows = record {
  literal = l;
  literal_there = there;
  mid = mid;
  k = k;
  shows = shows;
  resolves = (cut, follows, grows);
  rest = removed;
  ends = ends;
}
  where
    there : numbered clause.literals (at + 1) ≡ Some l
    there = number_got clause.literals at l less here

    removed : cut.literals ≡ without clause.literals (at + 1)
    removed = rest ∙ ap (remove clause.literals) (let same : at ≡ at + 1 - 1 = omega arith in same)

    resolvent : IsResolvent clause (at + 1) (opposite l) 1 cut
    resolvent = some_so (numbered clause.literals (at + 1)) (λ l'. IsSomeAnd (numbered (opposite l).literals 1) (λ m. AreOpposite l' m × (cut.literals ≡ without clause.literals (at + 1) ++ without (opposite l).literals 1))) l there
        ((twice l.positive, refl), removed ∙ sym (append-nil (without clause.literals (at + 1))))

    follows : Follows [] mid cut (Resolve (length before) (at + 1) k 1)
    follows = some_so (clause_of mid (length before)) (λ left. IsSomeAnd (clause_of mid k) (λ right. IsResolvent left (at + 1) right 1 cut)) clause (last_stays before u (opposite l) mid k clause shows last)
        (some_so (clause_of mid k) (λ right. IsResolvent clause (at + 1) right 1 cut) (opposite l) (part_clause before u (opposite l) mid k agrees shows) resolvent)

    line : Line
    line = record { step = Resolve (length before) (at + 1) k 1; clause = cut }

    ends : last_clause after ≡ Some cut
    ends = subst (λ ls. last_clause ls ≡ Some cut) (sym grows) (subst (λ n. clause_of (mid ++ line ∷ []) n ≡ Some cut) (sym (length-append mid (line ∷ []))) (clause_of_end mid line))

-- ---- what is left

front_stays : {X : Type 0} (xs ys : List X) (i k : ℕ) → k < i → i ≤ length xs → slice_get (take i xs ++ ys) k ≡ slice_get xs k
front_stays xs ys zero k less within = absurd (omega arith)
front_stays [] ys (suc i) k less within = absurd (omega (arith, within))
front_stays (x ∷ xs) ys (suc i) zero less within = refl
front_stays (x ∷ xs) ys (suc i) (suc k) less within = front_stays xs ys i k (omega arith) (omega (arith, within))

pub earlier_stays : {X : Type 0} (xs : List X) (at b : ℕ) → at < length xs → b < at + 1 → numbered (without xs (at + 1)) b ≡ numbered xs b
earlier_stays xs at zero less early = refl
earlier_stays xs at (suc k) less early =
    numbered-suc (without xs (at + 1)) k
    ∙ ap (λ n. slice_get (remove xs n) k) (let same : at + 1 - 1 ≡ at = omega arith in same)
    ∙ front_stays xs (drop (suc at) xs) at k (omega arith) (omega arith) ∙ sym (numbered-suc xs k)

pub light_rest : (c d : Clause) (at : ℕ) → at < length c.literals → d.literals ≡ without c.literals (at + 1) → weight d ≤ weight c
light_rest c d at less e = subst (λ ls. sum (map literal_weight ls) ≤ weight c) (sym (e ∙ ap (remove c.literals) (let same : at + 1 - 1 ≡ at = omega arith in same))) (lighter c.literals at)
  where
    lighter : (ls : List Literal) (i : ℕ) → sum (map literal_weight (remove ls i)) ≤ sum (map literal_weight ls)
    lighter [] zero = omega arith
    lighter [] (suc i) = omega arith
    lighter (l ∷ ls) zero = omega (arith, sum_by-cons (λ n. n) (literal_weight l) (map literal_weight ls))
    lighter (l ∷ ls) (suc i) = omega (arith, sum_by-cons (λ n. n) (literal_weight l) (map literal_weight ls), sum_by-cons (λ n. n) (literal_weight l) (map literal_weight (remove ls i)), lighter ls i)

rising_fold : (a b : ℕ) (ns : List ℕ) → a ≤ b → fold max a ns ≤ fold max b ns
rising_fold a b [] h = h
rising_fold a b (n ∷ ns) h = rising_fold (max a n) (max b n) ns (omega arith)

pub shallow_rest : (c d : Clause) (at : ℕ) → d.literals ≡ without c.literals (at + 1) → depth d ≤ depth c
shallow_rest c d at e = subst (λ ls. largest (map literal_depth ls) ≤ depth c) (sym (e ∙ ap (remove c.literals) (let same : at + 1 - 1 ≡ at = omega arith in same))) (shallower 0 c.literals at)
  where
    shallower : (a : ℕ) (ls : List Literal) (i : ℕ) → fold max a (map literal_depth (remove ls i)) ≤ fold max a (map literal_depth ls)
    shallower a [] zero = omega arith
    shallower a [] (suc i) = omega arith
    shallower a (l ∷ ls) zero = rising_fold a (max a (literal_depth l)) (map literal_depth ls) (omega arith)
    shallower a (l ∷ ls) (suc i) = shallower (max a (literal_depth l)) ls i

-- ---- the list of cuts

pub deletes_once : (units : List Numbered) (clause : Clause) (before : List Line) (a : ℕ) (u : Numbered) (cut : Clause) (after : List Line) (h : IsCut clause before a u cut after)
    → last_clause before ≡ Some clause → ((b : ℕ) → b < a → ¬ IsRemovable units clause b) → IsLeast number_of (Removes h.literal) units u → DeletesOnce units before after
deletes_once units clause before a u cut after h last first least = record {
  clause = clause;
  clause_last = last;
  a = a;
  literal = h.literal;
  literal_there = h.literal_there;
  first = first;
  removing = u;
  least = least;
  mid = h.mid;
  k = h.k;
  shows = h.shows;
  resolves = h.resolves;
}

pub cut_checks : (clauses : List Clause) (clause : Clause) (before : List Line) (a : ℕ) (u : Numbered) (cut : Clause) (after : List Line) → IsCut clause before a u cut after
    → numbered clauses u.number ≡ Some u.clause → AreSteps clauses before → AreSteps clauses after
cut_checks clauses clause before a u cut after h stands steps =
    adds_checks clauses h.mid (Resolve (length before) a h.k 1) after (part_checks clauses before u (opposite h.literal) h.mid h.k stands steps h.shows) h.resolves

pub none_left : (units : List Numbered) (c d : Clause) (at : ℕ) → at < length c.literals → d.literals ≡ without c.literals (at + 1)
    → ((b : ℕ) → b < at + 1 → ¬ IsRemovable units c b) → (b : ℕ) → b < at + 1 → ¬ IsRemovable units d b
none_left units c d at less e none b early h =
    none b early (subst (λ o. IsSomeAnd o (λ l. (u : Numbered) × Contains units u × Removes l u)) (ap (λ (ls : List Literal). numbered ls b) e ∙ earlier_stays c.literals at b less early) h)

pub none_more : (units : List Numbered) (c : Clause) (at : ℕ) (l : Literal) → at < length c.literals → l ≡ get_or c.literals at l → RemovesNone units l
    → ((b : ℕ) → b < at + 1 → ¬ IsRemovable units c b) → (b : ℕ) → b < at + 1 + 1 → ¬ IsRemovable units c b
none_more units c at l less here removes none b early h = by there.2
  where
    there : (m : Literal) × (numbered c.literals b ≡ Some m) × ((u : Numbered) × Contains units u × Removes m u)
    there = some_and (numbered c.literals b) (λ l. (u : Numbered) × Contains units u × Removes l u) h

    at_this : b ≡ at + 1 → there.0 ≡ l
    at_this e = let same : Some there.0 ≡ Some l = sym there.1 ∙ ap (numbered c.literals) e ∙ number_got c.literals at l less here in cc

    decide : (b < at + 1) ⊎ (b ≡ at + 1)
    decide = before_or (at + 1) b early
      where
        before_or : (n b : ℕ) → b < n + 1 → (b < n) ⊎ (b ≡ n)
        before_or n zero h = first n
          where
            first : (n : ℕ) → (zero < n) ⊎ (zero ≡ n)
            first zero = inr refl
            first (suc n) = inl (omega arith)
        before_or zero (suc b) h = absurd (omega arith)
        before_or (suc n) (suc b) h = step (before_or n b (omega arith))
          where
            step : (b < n) ⊎ (b ≡ n) → (suc b < suc n) ⊎ (suc b ≡ suc n)
            step (inl x) = inl (omega arith)
            step (inr x) = inr (omega arith)

    by : (u : Numbered) × Contains units u × Removes there.0 u → ⊥
    by r = or decide
      where
        or : (b < at + 1) ⊎ (b ≡ at + 1) → ⊥
        or (inl smaller) = none b smaller h
        or (inr same) = removes (r.1).0 r.0 (omega arith) (r.1).1 (subst (λ u. Removes l u) (sym (r.1).2) (subst (λ m. Removes m r.0) (at_this same) r.2))

pub nothing_left : (units : List Numbered) (c : Clause) (lines : List Line) (at : ℕ) → last_clause lines ≡ Some c → length c.literals ≤ at → ((b : ℕ) → b < at + 1 → ¬ IsRemovable units c b)
    → (after : List Line) → ¬ DeletesOnce units lines after
nothing_left units c lines at last all none after h =
    let same : h.clause ≡ c = let e : Some h.clause ≡ Some c = sym h.clause_last ∙ last in cc in
    let there : numbered c.literals h.a ≡ Some h.literal = subst (λ (d : Clause). numbered d.literals h.a ≡ Some h.literal) same h.literal_there in
    let within = number_within c.literals h.a h.literal there in
    none h.a (omega (arith, within.1)) (some_so (numbered c.literals h.a) (λ l. (u : Numbered) × Contains units u × Removes l u) h.literal there (h.removing, h.least.listed, h.least.holds))

pub shorter : (c d : Clause) (at : ℕ) → at < length c.literals → d.literals ≡ without c.literals (at + 1) → length d.literals + 1 ≡ length c.literals
shorter c d at less e = ap (λ (ls : List Literal). length ls + 1) (e ∙ ap (remove c.literals) (let same : at + 1 - 1 ≡ at = omega arith in same)) ∙ by c.literals at less
  where
    by : (ls : List Literal) (i : ℕ) → i < length ls → length (remove ls i) + 1 ≡ length ls
    by [] i less = absurd (omega (arith, less))
    by (l ∷ ls) zero less = omega arith
    by (l ∷ ls) (suc i) less = omega (arith, by ls i (omega (arith, less)))

pub removes_of : (l : Literal) (u : Numbered) (terms : List Term) → IsRemoval l u terms → Removes l u
removes_of l u terms h = (h.literal, terms, h.only, h.signs, sym h.equal.equal)

pub least_removal : (units : List Numbered) (l m : Literal) (place : ℕ) (u : Numbered) (terms : List Term) → AllPairs (λ p q. p.number < q.number) units → place < length units
    → u ≡ get_or units place u → IsRemoval l u terms → AllWithin (λ u. ¬ Removes l u) units 0 place → l ≡ m → IsLeast number_of (Removes m) units u
least_removal units l m place u terms rising within at h first same = subst (λ (l : Literal). IsLeast number_of (Removes l) units u) same (least_of_first (Removes l) units place u rising within at (removes_of l u terms h) first)

-- the literal that the number and the place name
pub named : (ls : List Literal) (at : ℕ) (l m : Literal) → at < length ls → l ≡ get_or ls at l → numbered ls (at + 1) ≡ Some m → l ≡ m
named ls at l m less here there = let e : Some l ≡ Some m = sym (number_got ls at l less here) ∙ there in cc

-- The sites that the choices of units make are those of UR-resolution.
use Rattle.std.proofs.Common.{◌≡◌, ◌∙◌, sym, ap, subst, refl, ℕ, suc, ◌+◌, ◌-◌, ◌<◌, ◌≤◌, ◌⊎◌, inl, inr, List, [], ◌∷◌, ◌++◌, length, map, Some, slice_get, get_or, arith}
use Rattle.std.specs.Prelude.{AllPairs}
use Rattle.std.specs.List.{Contains, All}
use Rattle.std.specs.Option.{option_map}
use Rattle.std.proofs.lemmas.List.{length-map}
use Rattle.std.proofs.lemmas.List.Kept.{AllPairs-cons}
use Rattle.std.proofs.lemmas.Option.{slice_get_within, get_or_from_slice_get, slice_get-map}
use Rattle.std.proofs.lemmas.List.Elements.{All-contains}
use Rattle.sc_term.specs.declared.Literal.{Literal}
use Rattle.sc_term.specs.declared.Numbered.{Numbered}
use Rattle.sc_term.specs.Numbering.{numbered}
use Rattle.sc_term.specs.Clause.{width}
use Rattle.sc_term.specs.Substitution.{Unify}
use Rattle.sc_term.specs.JointInstance.{apart, shift}
use Rattle.sc_steps.proofs.ListLaws.{some_and}
use Rattle.sc_steps.proofs.LineLaws.{some_so}
use Rattle.sc_core_rules.specs.declared.site.HyperSite.{HyperSite}
use Rattle.sc_core_rules.specs.declared.site.UrSite.{UrSite}
use Rattle.sc_core_rules.specs.declared.site.Pick.{Pick}
use Rattle.sc_core_rules.specs.Order.{IsBefore, AreFirst}
use Rattle.sc_core_rules.specs.Pairing.{ArePairs, HaveOppositeSigns, places_in, places_from}
use Rattle.sc_core_rules.specs.Inference.{Inference, Resolving}
use Rattle.sc_core_rules.specs.Hyperresolution.{IsUr, AreNamed, AreLiteralsWith, AreUrSites, hyper_numbers, ur_numbers, picked_numbers, unit_literals}
use Rattle.sc_core_rules.proofs.OrderLaws.{first_before, tail_pairs}
use Rattle.sc_term.proofs.ContainsLaws.{at_first, later}
use Rattle.sc_core_rules.proofs.StepLaws.{same_some}
use Rattle.sc_resolve.specs.ByNumber.{AreByNumber}
use Rattle.sc_resolve.specs.Extending.{Extends, Below}
use Rattle.sc_resolve.proofs.Extending.{Rising, same, nothing}
use Rattle.sc_resolve.proofs.OrderLaws.{first_by_number}
use Rattle.sc_resolve.proofs.LiteralLaws.{numbered_next, numbered_place, contains_at, at_contains, some_at}
use Rattle.sc_hyper.specs.declared.candidates.Candidate.{Candidate}
use Rattle.sc_hyper.specs.Negatives.{ArePicked, IsOther}
use Rattle.sc_hyper.specs.Candidates.{IsCandidate, AreCandidates, IsSingle, IsFirst}
use Rattle.sc_hyper.specs.Choosing.{pick_of, pairs_of, Completes}
use Rattle.sc_hyper.specs.Ur.{ur_of, IsWithTarget, IsWithTargetAt, IsWithTargets, IsWithUrUsable}
use Rattle.sc_hyper.proofs.ChoosingLaws.{numbers_of}
use Rattle.sc_hyper.proofs.HyperLaws.{picked_are_one, named_more, literals_at, electrons_of, are_named, all_cons, are_fit, candidates_of, pairs_there, made, clauses, parents_of, parents_so, left_so}

-- ---- first things, mapped

contains_map : {X Y : Type 0} (f : X → Y) (xs : List X) (x : X) → Contains xs x → Contains (map f xs) (f x)
contains_map f xs x h = contains_at (map f xs) h.0 (f x) (slice_get-map f xs h.0 ∙ ap (option_map f) (at_contains xs x h))

all_mapped : {X Y : Type 0} (f : X → Y) (S : Y → Type 0) (xs : List X) → ((x : X) → Contains xs x → S (f x)) → All S (map f xs)
all_mapped f S [] h = λ k d less. absurd (omega arith)
all_mapped f S (x ∷ xs) h = all_cons S (f x) (map f xs) (h x (at_first x xs)) (all_mapped f S xs (λ y c. h y (later y x xs c)))

pairs_mapped : {X Y : Type 0} (f : X → Y) (R : X → X → Type 0) (S : Y → Y → Type 0) (xs : List X) → ((x y : X) → Contains xs x → Contains xs y → R x y → S (f x) (f y)) → AllPairs R xs → AllPairs S (map f xs)
pairs_mapped f R S [] keep up = λ i j d less within. absurd (omega arith)
pairs_mapped f R S (x ∷ xs) keep up =
    AllPairs-cons S (f x) (map f xs) (all_mapped f (S (f x)) xs (λ y c. keep x y (at_first x xs) (later y x xs c) (first_before R x y xs up c)))
    (pairs_mapped f R S xs (λ y z c d. keep y z (later y x xs c) (later z x xs d)) (tail_pairs R x xs up))

first_mapped : (f : HyperSite → UrSite) (P : HyperSite → Type 0) (Q : UrSite → Type 0) (n : ℕ) (xs : List HyperSite) → AreFirst hyper_numbers P n xs → ((x : HyperSite) → P x → Q (f x))
    → ((y : UrSite) → Q y → (x : HyperSite) × P x × (y ≡ f x)) → ((x y : HyperSite) → P x → P y → IsBefore (hyper_numbers x) (hyper_numbers y) → IsBefore (ur_numbers (f x)) (ur_numbers (f y)))
    → AreFirst ur_numbers Q n (map f xs)
first_mapped f P Q n xs h to from keep = record {
  rising = pairs_mapped f (λ x y. IsBefore (hyper_numbers x) (hyper_numbers y)) (λ x y. IsBefore (ur_numbers x) (ur_numbers y)) xs (λ x y c d. keep x y (holds x c) (holds y d)) h.rising;
  only = all_mapped f Q xs (λ x c. to x (holds x c));
  no_more = omega (arith, length-map xs f, h.no_more);
  first = λ y q. let x = from y q in by y x.0 x.1 x.2 (h.first x.0 x.1);
}
  where
    holds : (x : HyperSite) → Contains xs x → P x
    holds x c = All-contains P xs x h.only c

    by : (y : UrSite) (x : HyperSite) → P x → y ≡ f x → Contains xs x ⊎ ((length xs ≡ n) × All (λ z. IsBefore (hyper_numbers z) (hyper_numbers x)) xs)
        → Contains (map f xs) y ⊎ ((length (map f xs) ≡ n) × All (λ z. IsBefore (ur_numbers z) (ur_numbers y)) (map f xs))
    by y x p e (inl c) = inl (subst (Contains (map f xs)) (sym e) (contains_map f xs x c))
    by y x p e (inr full) = inr (
      length-map xs f ∙ full.0,
      all_mapped f (λ z. IsBefore (ur_numbers z) (ur_numbers y)) xs
          (λ z c. subst (λ (v : UrSite). IsBefore (ur_numbers (f z)) (ur_numbers v)) (sym e) (keep z x (holds z c) p (All-contains (λ z. IsBefore (hyper_numbers z) (hyper_numbers x)) xs z full.1 c))),
    )

-- ---- order

numbers_before : (cs ds : List Candidate) → All IsFirst cs → All IsFirst ds → length cs ≡ length ds → IsBefore (numbers_of cs) (numbers_of ds)
    → IsBefore (map (λ (p : Pick). p.number) (map pick_of cs)) (map (λ (p : Pick). p.number) (map pick_of ds))
numbers_before [] [] one two long h = h
numbers_before [] (d ∷ ds) one two long h = absurd (omega arith)
numbers_before (c ∷ cs) [] one two long h = absurd (omega arith)
numbers_before (c ∷ cs) (d ∷ ds) one two long (inl less) = inl less
numbers_before (c ∷ cs) (d ∷ ds) one two long (inr h) =
    by (λ k. numbers_before cs ds (λ i x less. one (suc i) x (omega arith)) (λ i x less. two (suc i) x (omega arith)) (omega arith) k) h.1
  where
    by : (IsBefore (numbers_of cs) (numbers_of ds) → IsBefore (map (λ (p : Pick). p.number) (map pick_of cs)) (map (λ (p : Pick). p.number) (map pick_of ds)))
        → IsBefore (c.lit ∷ numbers_of cs) (d.lit ∷ numbers_of ds) → IsBefore (map (λ (p : Pick). p.number) (map pick_of (c ∷ cs))) (map (λ (p : Pick). p.number) (map pick_of (d ∷ ds)))
    by rest (inl less) = absurd (omega (arith, one 0 c (omega arith), two 0 d (omega arith)))
    by rest (inr k) = inr (h.0, rest k.1)

behind_nucleus : (n : ℕ) (ms ns : List ℕ) → IsBefore (n ∷ ms) (n ∷ ns) → IsBefore ms ns
behind_nucleus n ms ns (inl less) = absurd (omega arith)
behind_nucleus n ms ns (inr h) = h.1

all_first : (units : List Candidate) (cs : List Candidate) → All IsFirst units → All (Contains units) cs → All IsFirst cs
all_first units cs first among = λ k d less. All-contains IsFirst units _ first (among k d less)

module _ (given : ℕ) (units : List Candidate) (first : All IsFirst units) (p : Numbered) where
  abbrev Whole : List Literal → HyperSite → Type 0
  Whole ls = Completes p.number given units (width p.clause) ls []

  keeps : (target : ℕ) (ls : List Literal) (x y : HyperSite) → Whole ls x → Whole ls y → IsBefore (hyper_numbers x) (hyper_numbers y) → IsBefore (ur_numbers (ur_of target x)) (ur_numbers (ur_of target y))
  keeps target ls x y (cs, h) (ds, k) before =
      subst (λ (z : HyperSite). IsBefore (ur_numbers (ur_of target z)) (ur_numbers (ur_of target y))) (sym h.is)
      (subst (λ (z : HyperSite). IsBefore (ur_numbers (ur_of target (site cs))) (ur_numbers (ur_of target z))) (sym k.is)
      (inr (refl, inr (refl, numbers_before cs ds (all_first units cs first h.among) (all_first units ds first k.among) (omega (arith, h.many, k.many)) (behind_nucleus p.number (numbers_of cs) (numbers_of ds) here)))))
    where
      site : List Candidate → HyperSite
      site es = record { nucleus = p.number; electrons = map pick_of es }

      here : IsBefore (hyper_numbers (site cs)) (hyper_numbers (site ds))
      here = subst (λ (z : HyperSite). IsBefore (hyper_numbers z) (hyper_numbers (site ds))) h.is (subst (λ (z : HyperSite). IsBefore (hyper_numbers x) (hyper_numbers z)) k.is before)

  -- the whole choices, with the literal that is left
  pub with_target : (target limit : ℕ) (ns : List ℕ) (ls : List Literal) → ArePicked (IsOther target) p.clause ns ls → (xs ys : List UrSite) (whole : List HyperSite) → length xs ≤ limit
      → Extends hyper_numbers (Whole ls) (limit - length xs) [] whole → ys ≡ xs ++ map (ur_of target) whole → Extends ur_numbers (IsWithTarget given units p target) limit xs ys
  with_target target limit ns ls picked xs ys whole room h grown = record {
    found = map (ur_of target) h.found;
    grown = grown ∙ ap (λ (ws : List HyperSite). xs ++ map (ur_of target) ws) h.grown;
    first = first_mapped (ur_of target) (Whole ls) (IsWithTarget given units p target) (limit - length xs) h.found
        (subst (λ n. AreFirst hyper_numbers (Whole ls) n h.found) none h.first)
        (λ x c. record { numbers = ns; literals = ls; others = picked; whole = x; choice = c; is = refl })
        (λ y w. (w.whole, subst (λ (ks : List Literal). Whole ks w.whole) (picked_are_one (IsOther target) p.clause w.numbers ns w.literals ls w.others picked) w.choice, w.is))
        (keeps target ls);
  }
    where
      none : limit - length xs - length {A = HyperSite} [] ≡ limit - length xs
      none = omega arith

-- ---- loops

ur_before : (x y : UrSite) (s t : ℕ) (v w : HyperSite) → x ≡ ur_of s v → y ≡ ur_of t w → IsBefore (ur_numbers (ur_of s v)) (ur_numbers (ur_of t w)) → IsBefore (ur_numbers x) (ur_numbers y)
ur_before x y s t v w e f h = subst (λ (z : UrSite). IsBefore (ur_numbers z) (ur_numbers y)) (sym e) (subst (λ (z : UrSite). IsBefore (ur_numbers (ur_of s v)) (ur_numbers z)) (sym f) h)

nucleus_so : (given : ℕ) (units : List Candidate) (p : Numbered) (target : ℕ) (x : UrSite) (h : IsWithTarget given units p target x) → (h.whole).nucleus ≡ p.number
nucleus_so given units p target x h = ap (λ (s : HyperSite). s.nucleus) h.choice.1.is

pub targets_rise : (given : ℕ) (units : List Candidate) (p : Numbered) → Rising ur_numbers (IsWithTargetAt given units p)
targets_rise given units p j k x y less h i =
    ur_before x y (j + 1) (k + 1) h.whole i.whole h.is i.is (inr (nucleus_so given units p (j + 1) x h ∙ sym (nucleus_so given units p (k + 1) y i), inl (omega arith)))

pub ur_usables_rise : (given : ℕ) (units : List Candidate) (usable : List Numbered) → AllPairs (λ p q. p.number < q.number) usable → Rising ur_numbers (IsWithUrUsable given units usable)
ur_usables_rise given units usable up j k x y less (p, at_j, (long, (a, less_a, h))) (q, at_k, (long2, (b, less_b, i))) =
    ur_before x y (a + 1) (b + 1) h.whole i.whole h.is i.is (inl (omega (arith, numbers, nucleus_so given units p (a + 1) x h, nucleus_so given units q (b + 1) y i)))
  where
    numbers : p.number < q.number
    numbers =
        subst (λ (r : Numbered). p.number < r.number) (get_or_from_slice_get usable k q p at_k)
        (subst (λ (r : Numbered). r.number < (get_or usable k p).number) (get_or_from_slice_get usable j p p at_j) (up j k p less (slice_get_within usable k q at_k)))

module _ (given : ℕ) (units : List Candidate) (limit : ℕ) where
  pub with_targets : (p : Numbered) (n : ℕ) → 2 ≤ length p.clause.literals → n ≡ length p.clause.literals → (xs ys : List UrSite) → Extends ur_numbers (Below (IsWithTargetAt given units p) n) limit xs ys
      → Extends ur_numbers (IsWithTargets given units p) limit xs ys
  with_targets p n long all xs ys h =
      same ur_numbers limit (Below (IsWithTargetAt given units p) n) (IsWithTargets given units p) xs ys h
      (λ x b. (long, (b.0, omega (arith, b.1, all), b.2)))
      (λ x b. (b.1.0, omega (arith, b.1.1, all), b.1.2))

  pub no_targets : (p : Numbered) → length p.clause.literals < 2 → (xs : List UrSite) → Extends ur_numbers (IsWithTargets given units p) limit xs xs
  no_targets p short xs = nothing ur_numbers limit (IsWithTargets given units p) xs (λ x b. omega (arith, b.0))

  pub with_ur_usable : (usable : List Numbered) (k : ℕ) (p : Numbered) → slice_get usable k ≡ Some p → (xs ys : List UrSite) → Extends ur_numbers (IsWithTargets given units p) limit xs ys
      → Extends ur_numbers (IsWithUrUsable given units usable k) limit xs ys
  with_ur_usable usable k p there xs ys h =
      same ur_numbers limit (IsWithTargets given units p) (IsWithUrUsable given units usable k) xs ys h
      (λ x b. (p, there, b))
      (λ x b. subst (λ (q : Numbered). IsWithTargets given units q x) (same_some (slice_get usable k) b.0 p b.1 there) b.2)

-- ---- what the loops find

pub units_first : (usable : List Numbered) (cs : List Candidate) → AreCandidates IsSingle usable cs → All IsFirst cs
units_first usable cs are = λ k d less. first _ (are.only k d less)
  where
    first : (c : Candidate) → IsCandidate IsSingle usable c → IsFirst c
    first c h =
        let place = numbered_place h.electron.clause.literals c.lit c.literal h.there in
        omega (arith, h.fits, place.1, slice_get_within h.electron.clause.literals place.0 c.literal place.2)

ones : (cs : List Candidate) → All IsFirst cs → map (λ (p : Pick). p.lit) (map pick_of cs) ≡ map (λ n. 1) (map (λ (p : Pick). p.number) (map pick_of cs))
ones [] h = refl
ones (c ∷ cs) h = let rest = ones cs (λ k d less. h (suc k) d (omega arith)) in let e : c.lit ≡ 1 = h 0 c (omega arith) in λ i. e i ∷ rest i

abbrev picks_of : List ℕ → List Pick
picks_of ns = map (λ n. let p : Pick = record { number = n; lit = 1 } in p) ns

numbers_back : (ns : List ℕ) → map (λ (p : Pick). p.number) (picks_of ns) ≡ ns
numbers_back [] = refl
numbers_back (n ∷ ns) = let rest = numbers_back ns in λ i. n ∷ rest i

lits_back : (ns : List ℕ) → map (λ (p : Pick). p.lit) (picks_of ns) ≡ map (λ n. 1) ns
lits_back [] = refl
lits_back (n ∷ ns) = let rest = lits_back ns in λ i. 1 ∷ rest i

abbrev IsSite : Numbered → List Numbered → UrSite → Type 0
IsSite given usable x = (i : Inference) × IsUr given usable x i

module _ (given : Numbered) (usable : List Numbered) (units : List Candidate) (are : AreCandidates IsSingle usable units) where
  abbrev Found : UrSite → Type 0
  Found = Below (IsWithUrUsable given.number units usable) (length usable)

  is_site : (x : UrSite) → Found x → IsSite given usable x
  is_site x (n, less, (p, at_n, (long, (k, less_k, w)))) =
      let cs = w.choice.0 in
      let h = w.choice.1 in
      let found = electrons_of IsSingle usable cs (λ j d less. All-contains (IsCandidate IsSingle usable) units _ are.only (h.among j d less)) in
      let es = found.0 in
      let literal = some_at p.clause.literals k less_k in
      let nucleus : x.nucleus ≡ p.number = ap (λ (y : UrSite). y.nucleus) w.is ∙ ap (λ (y : HyperSite). y.nucleus) h.is in
      let target : x.target ≡ k + 1 = ap (λ (y : UrSite). y.target) w.is in
      let listed : x.units ≡ map (λ (q : Pick). q.number) (map pick_of cs) = ap (λ (y : UrSite). y.units) w.is ∙ ap (λ (y : HyperSite). picked_numbers y) h.is in
      let whole : picked_numbers w.whole ≡ x.units = ap (λ (y : UrSite). y.units) (sym w.is) in
      let lits : map (λ (q : Pick). q.lit) (map pick_of cs) ≡ unit_literals x = ones cs (all_first units cs (units_first usable units are) h.among) ∙ ap (λ (ns : List ℕ). map (λ n. 1) ns) (sym listed) in (
        record { parents = p ∷ es; pairs = pairs_of (width p.clause) w.literals cs; ending = Resolving w.numbers (unit_literals x) },
        record {
          nucleus = p;
          units = es;
          nucleus_named = ((sym nucleus, contains_at usable n p at_n), tt);
          nucleus_long = long;
          units_named = subst (λ (ns : List ℕ). AreNamed usable ns es) (sym listed) (are_named IsSingle usable cs es found.1);
          units_single = are_fit IsSingle usable cs es found.1;
          has_given = subst (λ (ns : List ℕ). Contains (x.nucleus ∷ ns) given.number) whole (subst (λ m. Contains (m ∷ picked_numbers w.whole) given.number) (sym nucleus) h.has_given);
          target_there = some_so (numbered p.clause.literals x.target) (λ (l : Literal). Unit {0}) literal.0 (ap (numbered p.clause.literals) target ∙ numbered_next p.clause.literals k ∙ literal.1) tt;
          parents = refl;
          others = w.numbers;
          are_others = subst (λ t. AreLiteralsWith (IsOther t) p.clause w.numbers) (sym target) w.others.are;
          pairs = subst (λ (ns : List ℕ). ArePairs (parents_of p es) (places_in 1 w.numbers) (places_from 2 ns) (pairs_of (width p.clause) w.literals cs)) lits
              (pairs_there IsSingle usable (parents_of p es) (shift 0 p.clause ∷ []) (width p.clause) 2 cs es w.numbers w.literals (parents_so p es) (omega arith) found.1
              (left_so p es w.numbers w.literals w.others.there) h.many);
          signs = h.signs;
          unify = h.unify;
          ending = refl;
        },
      )

  is_found : (x : UrSite) → IsSite given usable x → Found x
  is_found x (i, h) =
      let p = h.nucleus in
      let es = h.units in
      let listed : Contains usable p = h.nucleus_named.0.1 in
      let number : p.number ≡ x.nucleus = h.nucleus_named.0.0 in
      let target = some_and (numbered p.clause.literals x.target) (λ (l : Literal). Unit {0}) h.target_there in
      let place = numbered_place p.clause.literals x.target target.0 target.1 in
      let literals = literals_at (numbered p.clause.literals) (IsOther x.target) h.others h.are_others.only in
      let there : ArePairs (parents_of p es) (places_in 1 h.others) (places_from 2 (unit_literals x)) i.pairs =
      subst (λ (qs : List Numbered). ArePairs (apart (clauses qs)) (places_in 1 h.others) (places_from 2 (unit_literals x)) i.pairs) h.parents h.pairs in
      let choice = made IsSingle usable (parents_of p es) (shift 0 p.clause ∷ []) (width p.clause) 2 (picks_of x.units) es h.others literals.0 i.pairs (parents_so p es) (omega arith)
      (subst (λ (ns : List ℕ). AreNamed usable ns es) (sym (numbers_back x.units)) h.units_named) h.units_single (left_so p es h.others literals.0 literals.1)
      (subst (λ (ns : List ℕ). ArePairs (parents_of p es) (places_in 1 h.others) (places_from 2 ns) i.pairs) (sym (lits_back x.units)) there) in (
        listed.0,
        listed.1,
        (
          p,
          at_contains usable p listed,
          (
            h.nucleus_long,
            (
              place.0,
              slice_get_within p.clause.literals place.0 target.0 place.2,
              record {
                numbers = h.others;
                literals = literals.0;
                others = record { are = subst (λ t. AreLiteralsWith (IsOther t) p.clause h.others) place.1 h.are_others; there = literals.1 };
                whole = whole_of p.number (picks_of x.units);
                choice = (
                  choice.cs,
                  record {
                    is = ap (whole_of p.number) choice.picks_are;
                    many = choice.many;
                    among = candidates_of IsSingle usable units are choice.cs es choice.of;
                    signs = subst HaveOppositeSigns choice.pairs_are h.signs;
                    unify = subst Unify choice.pairs_are h.unify;
                    has_given = subst (λ (ns : List ℕ). Contains (p.number ∷ ns) given.number) (sym (numbers_back x.units)) (subst (λ m. Contains (m ∷ x.units) given.number) (sym number) h.has_given);
                  },
                );
                is = site_so (sym number) place.1 (sym (numbers_back x.units));
              },
            ),
          ),
        ),
      )
    where
      whole_of : ℕ → List Pick → HyperSite
      whole_of m ps = record { nucleus = m; electrons = ps }

      site_of : ℕ → ℕ → List ℕ → UrSite
      site_of m t ns = record { nucleus = m; target = t; units = ns }

      site_so : {m t : ℕ} {ns : List ℕ} → x.nucleus ≡ m → x.target ≡ t → x.units ≡ ns → x ≡ site_of m t ns
      site_so e f g = λ j. site_of (e j) (f j) (g j)

  pub are_ur_sites : (limit : ℕ) (sites : List UrSite) → Extends ur_numbers Found limit [] sites → AreUrSites given usable limit sites
  are_ur_sites limit sites h =
      let all = same ur_numbers limit Found (IsSite given usable) [] sites h is_site is_found in
      let room : limit - 0 ≡ limit = omega arith in
      subst (AreUrSites given usable limit) (sym all.grown) (subst (λ n. AreUrSites given usable n all.found) room all.first)

-- ---- usable clauses in another order

ur_more : (given : Numbered) (us vs : List Numbered) → ((p : Numbered) → Contains us p → Contains vs p) → (x : UrSite) → (i : Inference) × IsUr given us x i → (i : Inference) × IsUr given vs x i
ur_more given us vs more x (i, h) = (
  i,
  record {
    nucleus = h.nucleus;
    units = h.units;
    nucleus_named = named_more us vs (x.nucleus ∷ []) (h.nucleus ∷ []) more h.nucleus_named;
    nucleus_long = h.nucleus_long;
    units_named = named_more us vs x.units h.units more h.units_named;
    units_single = h.units_single;
    has_given = h.has_given;
    target_there = h.target_there;
    parents = h.parents;
    others = h.others;
    are_others = h.are_others;
    pairs = h.pairs;
    signs = h.signs;
    unify = h.unify;
    ending = h.ending;
  },
)

-- the sites over the usable clauses in the order of their numbers are those over the usable clauses
pub ur_by_number : (given : Numbered) (usable ordered : List Numbered) (limit : ℕ) (sites : List UrSite) → AreByNumber usable ordered → AreUrSites given ordered limit sites → AreUrSites given usable limit sites
ur_by_number given usable ordered limit sites h first =
    first_by_number ur_numbers (λ (us : List Numbered) (x : UrSite). (i : Inference) × IsUr given us x i) usable ordered limit sites (ur_more given) h first

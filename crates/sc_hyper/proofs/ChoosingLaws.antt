-- Choices that go on, and the sites of whole choices.
use Rattle.std.proofs.Common.{◌≡◌, ◌∙◌, sym, ap, subst, refl, ℕ, ◌+◌, ◌<◌, ◌⊎◌, inl, inr, List, [], ◌∷◌, ◌++◌, append_assoc, length, length-append, map, Some, None, Option, Bool, true, false, not, nat_eq, ◌||◌, if◌then◌else◌, slice_get, get_or, arith}
use Rattle.std.specs.List.{Contains, All, flat_map, list_any}
use Rattle.std.proofs.lemmas.Bool.{eqb-true, eq-eqb}
use Rattle.std.proofs.lemmas.List.{append-nil, map-append, get_or_append_left}
use Rattle.std.proofs.lemmas.List.Elements.{All-append, All-contains, Contains-append_cases}
use Rattle.std.proofs.lemmas.Option.{slice_get_within, get_or_from_slice_get}
use Rattle.sc_term.specs.declared.Term.{Var}
use Rattle.sc_term.specs.declared.Literal.{Literal}
use Rattle.sc_term.specs.declared.Pair.{Pair}
use Rattle.sc_term.specs.Refuted.{atom_of}
use Rattle.sc_term.specs.Substitution.{Unify, literal_under}
use Rattle.sc_core_rules.specs.declared.site.HyperSite.{HyperSite}
use Rattle.sc_core_rules.specs.declared.site.Pick.{Pick}
use Rattle.sc_core_rules.specs.Order.{IsBefore}
use Rattle.sc_core_rules.specs.Hyperresolution.{hyper_numbers, picked_numbers}
use Rattle.sc_core_rules.specs.Pairing.{HaveOppositeSigns}
use Rattle.sc_core_rules.proofs.PairLaws.{opposite_one}
use Rattle.sc_core_rules.proofs.Enumerations.{all_of_one, in_one}
use Rattle.sc_core_rules.proofs.FilterLaws.{in_first, in_second}
use Rattle.sc_term.proofs.ContainsLaws.{at_first, later, first_or_later}
use Rattle.sc_core_rules.proofs.StepLaws.{same_some}
use Rattle.sc_resolve.specs.Extending.{Extends, Below}
use Rattle.sc_resolve.proofs.Extending.{Rising, same, one, nothing}
use Rattle.sc_resolve.proofs.LiteralLaws.{at_contains}
use Rattle.sc_hyper.specs.declared.candidates.Candidate.{Candidate}
use Rattle.sc_hyper.specs.declared.choice.PartialSite.{PartialSite}
use Rattle.sc_hyper.specs.Candidates.{candidate_numbers, DoRise}
use Rattle.sc_hyper.specs.Choosing.{has, pick_of, pair_with, pairs_of, low_after, IsNext, AreOpposed, IsRefused, IsChosen, IsChoice, Completes, IsWithNext}

-- ---- pairs

no_pairs : (low : ℕ) (ls : List Literal) → pairs_of low ls [] ≡ []
no_pairs low [] = refl
no_pairs low (l ∷ ls) = refl

pairs_snoc : (low : ℕ) (ls : List Literal) (cs : List Candidate) (l : Literal) (c : Candidate) → slice_get ls (length cs) ≡ Some l
    → pairs_of low ls (cs ++ c ∷ []) ≡ pairs_of low ls cs ++ pair_with (low_after low cs) l c ∷ []
pairs_snoc low [] [] l c h = let none : ◌≡◌ {A = Option Literal} None (Some l) = h in absurd cc
pairs_snoc low [] (d ∷ cs) l c h = let none : ◌≡◌ {A = Option Literal} None (Some l) = h in absurd cc
pairs_snoc low (m ∷ ls) [] l c h = let e : m ≡ l = cc in λ i. pair_with low (e i) c ∷ no_pairs (low + c.wide) ls i
pairs_snoc low (m ∷ ls) (d ∷ cs) l c h = λ i. pair_with low m d ∷ pairs_snoc (low + d.wide) ls cs l c h i

low_snoc : (low : ℕ) (cs : List Candidate) (c : Candidate) → low_after low (cs ++ c ∷ []) ≡ low_after low cs + c.wide
low_snoc low [] c = refl
low_snoc low (d ∷ cs) c = low_snoc (low + d.wide) cs c

pairs_front : (low : ℕ) (ls : List Literal) (cs more : List Candidate) → (qs : List Pair) × (pairs_of low ls (cs ++ more) ≡ pairs_of low ls cs ++ qs)
pairs_front low [] cs more = ([], refl)
pairs_front low (l ∷ ls) [] more = (pairs_of low (l ∷ ls) more, refl)
pairs_front low (l ∷ ls) (c ∷ cs) more = let rest = pairs_front (low + c.wide) ls cs more in (rest.0, λ i. pair_with low l c ∷ rest.1 i)

-- what unifies more pairs unifies these
unify_front : (ps qs : List Pair) → Unify (ps ++ qs) → Unify ps
unify_front ps qs u = (
  u.0,
  λ k d less. subst (λ (p : Pair). atom_of (literal_under u.0 p.left) ≡ atom_of (literal_under u.0 p.right)) (get_or_append_left ps qs d k less) (u.1 k d (omega (arith, length-append ps qs))),
)

-- no pairs unify, and no candidates are chosen at first
pub unify_none : (ps : List Pair) → ps ≡ [] → Unify ps
unify_none ps none = ((λ n. Var n), λ k d less. absurd (omega (arith, ap (λ (qs : List Pair). length qs) none)))

pub chosen_none : (candidates : List Candidate) (low : ℕ) (ls : List Literal) (choice : PartialSite) → choice.picks ≡ [] → choice.pairs ≡ [] → choice.low ≡ low → IsChosen candidates low ls [] choice
chosen_none candidates low ls choice picks pairs low_is = record { among = λ k d less. absurd (omega arith); picks = picks; pairs = pairs ∙ sym (no_pairs low ls); signs = λ k d less. absurd (omega (arith, ap (λ (qs : List Pair). length qs) pairs)); low_is = low_is }

-- ---- one candidate more

module _ (candidates : List Candidate) (low : ℕ) (ls : List Literal) (cs : List Candidate) (choice : PartialSite) (chosen : IsChosen candidates low ls cs choice) where
  pub as_many : length choice.picks ≡ length cs
  as_many = ap (λ (ps : List Pick). length ps) chosen.picks ∙ length_map cs
    where
      length_map : (ds : List Candidate) → length (map pick_of ds) ≡ length ds
      length_map [] = refl
      length_map (d ∷ ds) = omega (arith, length_map ds)

  module _ (l : Literal) (next : Candidate) (there : slice_get ls (length choice.picks) ≡ Some l) where
    at_end : slice_get ls (length cs) ≡ Some l
    at_end = ap (slice_get ls) (sym as_many) ∙ there

    pairs_so : choice.pairs ++ pair_with choice.low l next ∷ [] ≡ pairs_of low ls (cs ++ next ∷ [])
    pairs_so = (λ i. chosen.pairs i ++ pair_with (chosen.low_is i) l next ∷ []) ∙ sym (pairs_snoc low ls cs l next at_end)

    pub chosen_next : (longer : PartialSite) → IsNext choice l next longer → Contains candidates next → IsChosen candidates low ls (cs ++ next ∷ []) longer
    chosen_next longer e listed = record {
      among = All-append (Contains candidates) cs (next ∷ []) chosen.among (all_of_one (Contains candidates) next listed);
      picks = e.extended.picks ∙ ap (λ (ps : List Pick). ps ++ pick_of next ∷ []) chosen.picks ∙ sym (map-append pick_of cs (next ∷ []));
      pairs = e.extended.pairs ∙ pairs_so;
      signs = subst HaveOppositeSigns (sym e.extended.pairs)
          (All-append (λ (p : Pair). p.left.positive ≡ not p.right.positive) choice.pairs (pair_with choice.low l next ∷ []) chosen.signs (opposite_one (pair_with choice.low l next) e.opposed));
      low_is = e.extended.low ∙ ap (λ n. n + next.wide) chosen.low_is ∙ sym (low_snoc low cs next);
    }

    pub cannot : (nucleus given : ℕ) (x : HyperSite) → ¬ Unify (choice.pairs ++ pair_with choice.low l next ∷ []) → ¬ Completes nucleus given candidates low ls (cs ++ next ∷ []) x
    cannot nucleus given x none (more, h) =
        let front = pairs_front low ls (cs ++ next ∷ []) more in
        none (subst Unify (sym pairs_so) (unify_front (pairs_of low ls (cs ++ next ∷ [])) front.0 (subst Unify front.1 h.unify)))

    pub not_opposed : (nucleus given : ℕ) (x : HyperSite) → ¬ AreOpposed l next → ¬ Completes nucleus given candidates low ls (cs ++ next ∷ []) x
    not_opposed nucleus given x none (more, h) =
        let front = pairs_front low ls (cs ++ next ∷ []) more in
        let all : pairs_of low ls ((cs ++ next ∷ []) ++ more) ≡ (choice.pairs ++ pair_with choice.low l next ∷ []) ++ front.0 = front.1 ∙ ap (λ (ps : List Pair). ps ++ front.0) (sym pairs_so) in
        none (All-contains (λ (p : Pair). p.left.positive ≡ not p.right.positive) ((choice.pairs ++ pair_with choice.low l next ∷ []) ++ front.0) (pair_with choice.low l next)
        (subst HaveOppositeSigns all h.signs)
        (in_first (pair_with choice.low l next) (choice.pairs ++ pair_with choice.low l next ∷ []) front.0 (in_second (pair_with choice.low l next) choice.pairs (pair_with choice.low l next ∷ []) (at_first (pair_with choice.low l next) []))))

-- ---- order

abbrev pub numbers_of : List Candidate → List ℕ
numbers_of cs = flat_map (λ (p : Pick). p.number ∷ p.lit ∷ []) (map pick_of cs)

first_differ : (cs : List Candidate) (c d : Candidate) (more others : List Candidate) → IsBefore (candidate_numbers c) (candidate_numbers d)
    → IsBefore (numbers_of ((cs ++ c ∷ []) ++ more)) (numbers_of ((cs ++ d ∷ []) ++ others))
first_differ [] c d more others (inl h) = inl h
first_differ [] c d more others (inr h) = by h.1
  where
    by : IsBefore (c.lit ∷ []) (d.lit ∷ []) → IsBefore (numbers_of (c ∷ more)) (numbers_of (d ∷ others))
    by (inl k) = inr (h.0, inl k)
    by (inr k) = absurd k.1
first_differ (b ∷ cs) c d more others h = inr (refl, inr (refl, first_differ cs c d more others h))

module _ (nucleus given : ℕ) (candidates : List Candidate) (low : ℕ) (ls : List Literal) (cs : List Candidate) where
  abbrev With : ℕ → HyperSite → Type 0
  With = IsWithNext nucleus given candidates low ls cs

  abbrev Site : HyperSite → Type 0
  Site = Completes nucleus given candidates low ls cs

  pub next_rise : DoRise candidates → Rising hyper_numbers With
  next_rise up j k x y less (c, at_j, (more, h)) (d, at_k, (others, i)) =
      subst (λ (z : HyperSite). IsBefore (hyper_numbers z) (hyper_numbers y)) (sym h.is)
      (subst (λ (z : HyperSite). IsBefore (nucleus ∷ numbers_of ((cs ++ c ∷ []) ++ more)) (hyper_numbers z)) (sym i.is) (inr (refl, first_differ cs c d more others before)))
    where
      before : IsBefore (candidate_numbers c) (candidate_numbers d)
      before =
          subst (λ (q : Candidate). IsBefore (candidate_numbers c) (candidate_numbers q)) (get_or_from_slice_get candidates k d c at_k)
          (subst (λ (q : Candidate). IsBefore (candidate_numbers q) (candidate_numbers (get_or candidates k c))) (get_or_from_slice_get candidates j c c at_j) (up j k c less (slice_get_within candidates k d at_k)))

  -- a choice that isn't whole goes on
  pub goes_with : length cs < length ls → (x : HyperSite) → Site x → Below With (length candidates) x
  goes_with short x ([], h) = absurd (omega (arith, h.many, length-append {A = Candidate} cs []))
  goes_with short x (c ∷ more, h) =
      let listed = All-contains (Contains candidates) (cs ++ c ∷ more) c h.among (in_second c cs (c ∷ more) (at_first c more)) in
      (listed.0, listed.1, (c, at_contains candidates c listed, (more, subst (λ (full : List Candidate). IsChoice nucleus given candidates low ls full x) (sym (append_assoc cs (c ∷ []) more)) h)))

  pub comes_from : (x : HyperSite) → Below With (length candidates) x → Site x
  comes_from x (k, less, (c, at_k, (more, h))) = (c ∷ more, subst (λ (full : List Candidate). IsChoice nucleus given candidates low ls full x) (append_assoc cs (c ∷ []) more) h)

  pub all_next : (limit n : ℕ) (xs ys : List HyperSite) → length cs < length ls → n ≡ length candidates → Extends hyper_numbers (Below With n) limit xs ys → Extends hyper_numbers Site limit xs ys
  all_next limit n xs ys short long h =
      same hyper_numbers limit (Below With n) Site xs ys h
      (λ x b. comes_from x (b.0, omega (arith, b.1, long), b.2))
      (λ x b. let at = goes_with short x b in (at.0, omega (arith, at.1, long), at.2))

  -- a whole choice is one site
  pub whole_is : length cs ≡ length ls → (x : HyperSite) → Site x → (x ≡ record { nucleus = nucleus; electrons = map pick_of cs }) × Contains (nucleus ∷ picked_numbers x) given
  whole_is long x ([], h) = (h.is ∙ ap (λ (full : List Candidate). let s : HyperSite = record { nucleus = nucleus; electrons = map pick_of full } in s) (append-nil cs), h.has_given)
  whole_is long x (c ∷ more, h) = absurd (omega (arith, long, h.many, length-append cs (c ∷ more)))

  pub whole_site : length cs ≡ length ls → All (Contains candidates) cs → HaveOppositeSigns (pairs_of low ls cs) → Unify (pairs_of low ls cs) → (x : HyperSite) → x ≡ record { nucleus = nucleus; electrons = map pick_of cs }
      → Contains (nucleus ∷ picked_numbers x) given → Site x
  whole_site long among signs unify x is has = ([], subst (λ (full : List Candidate). IsChoice nucleus given candidates low ls full x) (sym (append-nil cs)) (record { is = is; many = long; among = among; signs = signs; unify = unify; has_given = has }))

  pub site_added : (limit : ℕ) (xs ys : List HyperSite) (x : HyperSite) → length xs < limit → ys ≡ xs ++ x ∷ [] → length cs ≡ length ls → All (Contains candidates) cs → HaveOppositeSigns (pairs_of low ls cs) → Unify (pairs_of low ls cs)
      → x ≡ record { nucleus = nucleus; electrons = map pick_of cs } → Contains (nucleus ∷ picked_numbers x) given → Extends hyper_numbers Site limit xs ys
  site_added limit xs ys x room grown long among signs unify is has =
      one hyper_numbers limit Site xs ys x room grown (whole_site long among signs unify x is has) (λ y s. is ∙ sym (whole_is long y s).0)

  pub no_given : (limit : ℕ) (xs : List HyperSite) → length cs ≡ length ls → ((x : HyperSite) → x ≡ record { nucleus = nucleus; electrons = map pick_of cs } → ¬ Contains (nucleus ∷ picked_numbers x) given)
      → Extends hyper_numbers Site limit xs xs
  no_given limit xs long none = nothing hyper_numbers limit Site xs (λ x s. let is = whole_is long x s in none x is.0 is.1)

-- ---- place by place

module _ (nucleus given : ℕ) (candidates : List Candidate) (low : ℕ) (ls : List Literal) (cs : List Candidate) (k : ℕ) (c : Candidate) (there : slice_get candidates k ≡ Some c) (limit : ℕ) where
  pub with_next : (xs ys : List HyperSite) → Extends hyper_numbers (Completes nucleus given candidates low ls (cs ++ c ∷ [])) limit xs ys
      → Extends hyper_numbers (IsWithNext nucleus given candidates low ls cs k) limit xs ys
  with_next xs ys h =
      same hyper_numbers limit (Completes nucleus given candidates low ls (cs ++ c ∷ [])) (IsWithNext nucleus given candidates low ls cs k) xs ys h
      (λ x b. (c, there, b))
      (λ x b. subst (λ (q : Candidate). Completes nucleus given candidates low ls (cs ++ q ∷ []) x) (same_some (slice_get candidates k) b.0 c b.1 there) b.2)

  pub without_next : (xs : List HyperSite) → ((x : HyperSite) → ¬ Completes nucleus given candidates low ls (cs ++ c ∷ []) x) → Extends hyper_numbers (IsWithNext nucleus given candidates low ls cs k) limit xs xs
  without_next xs none =
      nothing hyper_numbers limit (IsWithNext nucleus given candidates low ls cs k) xs
      (λ x b. none x (subst (λ (q : Candidate). Completes nucleus given candidates low ls (cs ++ q ∷ []) x) (same_some (slice_get candidates k) b.0 c b.1 there) b.2))

-- ---- the clause of a number among the electrons

pub has_so : (n : ℕ) (ps : List Pick) → list_any (has n) ps ≡ true → Contains (map (λ (p : Pick). p.number) ps) n
has_so n [] h = let bad : false ≡ true = h in absurd cc
has_so n (p ∷ ps) h = by (nat_eq p.number n) (list_any (has n) ps) (λ e. eqb-true p.number n e) (λ e. has_so n ps e) h
  where
    by : (a b : Bool) → (a ≡ true → p.number ≡ n) → (b ≡ true → Contains (map (λ (q : Pick). q.number) ps) n) → (a || b) ≡ true → Contains (map (λ (q : Pick). q.number) (p ∷ ps)) n
    by true b here there k = (0, omega arith, here refl)
    by false b here there k = later n p.number (map (λ (q : Pick). q.number) ps) (there k)

pub has_not : (n : ℕ) (ps : List Pick) → list_any (has n) ps ≡ false → ¬ Contains (map (λ (p : Pick). p.number) ps) n
has_not n [] h k = omega (arith, k.1)
has_not n (p ∷ ps) h k = by (nat_eq p.number n) (list_any (has n) ps) (λ e. eq-eqb p.number n e) (λ e. has_not n ps e) h (first_or_later n p.number (map (λ (q : Pick). q.number) ps) k)
  where
    by : (a b : Bool) → (p.number ≡ n → a ≡ true) → (b ≡ false → ¬ Contains (map (λ (q : Pick). q.number) ps) n) → (a || b) ≡ false → (p.number ≡ n) ⊎ Contains (map (λ (q : Pick). q.number) ps) n → ⊥
    by true b here there k m = let bad : true ≡ false = k in cc
    by false b here there k (inl e) = let bad : false ≡ true = here e in cc
    by false b here there k (inr m) = there k m

-- ---- a candidate that can't be next

abbrev as_pick : ℕ → Pick
as_pick n = record { number = n; lit = 0 }

abbrev numbers_in : List Pick → List ℕ
numbers_in ps = map (λ (p : Pick). p.number) ps

pub no_given_there : (nucleus given : ℕ) (ps : List Pick) (next : Candidate) → nat_eq next.number given ≡ false → (nat_eq nucleus given || list_any (has given) ps) ≡ false
    → ¬ Contains (nucleus ∷ numbers_in (ps ++ pick_of next ∷ [])) given
no_given_there nucleus given ps next other none h = by (Contains-append_cases (numbers_in (as_pick nucleus ∷ ps)) (next.number ∷ []) given (subst (λ (ns : List ℕ). Contains (nucleus ∷ ns) given) (map-append (λ (p : Pick). p.number) ps (pick_of next ∷ [])) h))
  where
    by : Contains (numbers_in (as_pick nucleus ∷ ps)) given ⊎ Contains (next.number ∷ []) given → ⊥
    by (inl k) = has_not given (as_pick nucleus ∷ ps) none k
    by (inr k) = let bad : true ≡ false = sym (eq-eqb next.number given (in_one next.number given k)) ∙ other in cc

pub refused : (nucleus given : ℕ) (candidates : List Candidate) (low : ℕ) (ls : List Literal) (cs : List Candidate) (choice : PartialSite) → IsChosen candidates low ls cs choice
    → (l : Literal) (next : Candidate) → slice_get ls (length choice.picks) ≡ Some l → (last : Bool) → (last ≡ true → length choice.picks + 1 ≡ length ls)
    → IsRefused nucleus given choice l next last → (x : HyperSite) → ¬ Completes nucleus given candidates low ls (cs ++ next ∷ []) x
refused nucleus given candidates low ls cs choice chosen l next there last whole (inl none) x h = cannot candidates low ls cs choice chosen l next there nucleus given x none h
refused nucleus given candidates low ls cs choice chosen l next there last whole (inr (inl same_signs)) x h = not_opposed candidates low ls cs choice chosen l next there nucleus given x same_signs h
refused nucleus given candidates low ls cs choice chosen l next there last whole (inr (inr lacks)) x h =
    let long : length (cs ++ next ∷ []) ≡ length ls = omega (arith, whole lacks.0, as_many candidates low ls cs choice chosen, length-append cs (next ∷ [])) in
    let site = whole_is nucleus given candidates low ls (cs ++ next ∷ []) long x h in
    let picks : x.electrons ≡ choice.picks ++ pick_of next ∷ [] = ap (λ (y : HyperSite). y.electrons) site.0 ∙ map-append pick_of cs (next ∷ []) ∙ ap (λ (ps : List Pick). ps ++ pick_of next ∷ []) (sym chosen.picks) in
    no_given_there nucleus given choice.picks next lacks.1 lacks.2 (subst (λ (ps : List Pick). Contains (nucleus ∷ numbers_in ps) given) picks site.1)

-- ---- signs

pub opposed_so : (a b : Bool) → (if a then not b else b) ≡ true → a ≡ not b
opposed_so true b h = sym h
opposed_so false true h = refl
opposed_so false false h = h

pub opposed_not : (a b : Bool) → (if a then not b else b) ≡ false → ¬ (a ≡ not b)
opposed_not true true h e = let bad : true ≡ false = e in cc
opposed_not true false h e = let bad : true ≡ false = h in cc
opposed_not false true h e = let bad : true ≡ false = h in cc
opposed_not false false h e = let bad : false ≡ true = e in cc

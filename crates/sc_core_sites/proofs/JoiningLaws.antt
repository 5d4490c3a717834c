-- Sites of each rule, one after the other, are the sites of all rules.
use Rattle.std.proofs.Common.{◌≡◌, ◌∙◌, sym, ap, subst, refl, true, false, true≢false, ℕ, ◌+◌, ◌-◌, ◌<◌, ◌⊎◌, inl, inr, List, [], ◌∷◌, ◌++◌, length, map, not, Bool, arith}
use Rattle.std.specs.Prelude.{AllPairs}
use Rattle.std.specs.List.{Contains, All}
use Rattle.std.specs.Option.{option_map}
use Rattle.std.proofs.lemmas.List.{length-map}
use Rattle.std.proofs.lemmas.List.Kept.{AllPairs-cons}
use Rattle.std.proofs.lemmas.List.Elements.{All-contains}
use Rattle.std.proofs.lemmas.Option.{slice_get-map}
use Rattle.sc_term.specs.declared.Numbered.{Numbered}
use Rattle.sc_input_rules.specs.declared.settings.Flags.{Flags}
use Rattle.sc_core_rules.specs.declared.site.BinarySite.{BinarySite}
use Rattle.sc_core_rules.specs.declared.site.FactorSite.{FactorSite}
use Rattle.sc_core_rules.specs.declared.site.HyperSite.{HyperSite}
use Rattle.sc_core_rules.specs.declared.site.UrSite.{UrSite}
use Rattle.sc_core_rules.specs.declared.site.ParaSite.{ParaSite}
use Rattle.sc_core_rules.specs.Order.{IsBefore, AreFirst}
use Rattle.sc_core_rules.specs.Inference.{Inference}
use Rattle.sc_core_rules.specs.Resolution.{AreBinarySites, AreFactorSites, binary_numbers, factor_numbers}
use Rattle.sc_core_rules.specs.Hyperresolution.{AreHyperSites, AreUrSites, hyper_numbers, ur_numbers}
use Rattle.sc_core_rules.specs.Paramodulation.{AreParaFromSites, AreParaIntoSites, para_from_numbers, para_into_numbers}
use Rattle.sc_core_rules.specs.Sites.{Site, Binary, Factor, Hyper, Ur, ParaFrom, ParaInto, Infers, IsSet, IsSite, AreSites, site_numbers}
use Rattle.sc_core_rules.proofs.OrderLaws.{first_before, tail_pairs}
use Rattle.sc_term.proofs.ContainsLaws.{at_first, later}
use Rattle.sc_resolve.specs.Extending.{Extends, Below}
use Rattle.sc_resolve.proofs.Extending.{Rising, same, nothing, begins, goes_on}
use Rattle.sc_resolve.proofs.LiteralLaws.{contains_at, at_contains}
use Rattle.sc_hyper.proofs.HyperLaws.{all_cons}
use Rattle.sc_core_sites.specs.ByRule.{rules_before, IsByRule}

-- ---- first things under another name

contains_map : {X Y : Type 0} (f : X → Y) (xs : List X) (x : X) → Contains xs x → Contains (map f xs) (f x)
contains_map f xs x h = contains_at (map f xs) h.0 (f x) (slice_get-map f xs h.0 ∙ ap (option_map f) (at_contains xs x h))

all_mapped : {X Y : Type 0} (f : X → Y) (S : Y → Type 0) (xs : List X) → ((x : X) → Contains xs x → S (f x)) → All S (map f xs)
all_mapped f S [] h = λ k d less. absurd (omega arith)
all_mapped f S (x ∷ xs) h = all_cons S (f x) (map f xs) (h x (at_first x xs)) (all_mapped f S xs (λ y c. h y (later y x xs c)))

pairs_mapped : {X Y : Type 0} (f : X → Y) (R : X → X → Type 0) (S : Y → Y → Type 0) (xs : List X) → ((x y : X) → R x y → S (f x) (f y)) → AllPairs R xs → AllPairs S (map f xs)
pairs_mapped f R S [] keep up = λ i j d less within. absurd (omega arith)
pairs_mapped f R S (x ∷ xs) keep up =
    AllPairs-cons S (f x) (map f xs) (all_mapped f (S (f x)) xs (λ y c. keep x y (first_before R x y xs up c)))
    (pairs_mapped f R S xs keep (tail_pairs R x xs up))

module _ {X Y : Type 0} (f : X → Y) (numbers : X → List ℕ) (others : Y → List ℕ) (P : X → Type 0) (Q : Y → Type 0)
    (keep : (x y : X) → IsBefore (numbers x) (numbers y) → IsBefore (others (f x)) (others (f y)))
    (to : (x : X) → P x → Q (f x)) (from : (y : Y) → Q y → (x : X) × P x × (y ≡ f x)) where
  first_mapped : (n : ℕ) (xs : List X) → AreFirst numbers P n xs → AreFirst others Q n (map f xs)
  first_mapped n xs h = record {
    rising = pairs_mapped f (λ x y. IsBefore (numbers x) (numbers y)) (λ x y. IsBefore (others x) (others y)) xs keep h.rising;
    only = all_mapped f Q xs (λ x c. to x (All-contains P xs x h.only c));
    no_more = omega (arith, length-map xs f, h.no_more);
    first = λ y q. let x = from y q in by y x.0 x.2 (h.first x.0 x.1);
  }
    where
      by : (y : Y) (x : X) → y ≡ f x → Contains xs x ⊎ ((length xs ≡ n) × All (λ z. IsBefore (numbers z) (numbers x)) xs)
          → Contains (map f xs) y ⊎ ((length (map f xs) ≡ n) × All (λ z. IsBefore (others z) (others y)) (map f xs))
      by y x e (inl c) = inl (subst (Contains (map f xs)) (sym e) (contains_map f xs x c))
      by y x e (inr full) = inr (
        length-map xs f ∙ full.0,
        all_mapped f (λ z. IsBefore (others z) (others y)) xs
            (λ z c. subst (λ (v : Y). IsBefore (others (f z)) (others v)) (sym e) (keep z x (All-contains (λ z. IsBefore (numbers z) (numbers x)) xs z full.1 c))),
      )

-- ---- the rules rise

-- the numbers of the site behind that of its rule
rest_of : Site → List ℕ
rest_of (Binary s) = binary_numbers s
rest_of (Factor s) = factor_numbers s
rest_of (Hyper s) = hyper_numbers s
rest_of (Ur s) = ur_numbers s
rest_of (ParaFrom s) = para_from_numbers s
rest_of (ParaInto s) = para_into_numbers s

numbers_so : (x : Site) → site_numbers x ≡ (rules_before x + 1) ∷ rest_of x
unfolding rest_of
numbers_so (Binary s) = refl
numbers_so (Factor s) = refl
numbers_so (Hyper s) = refl
numbers_so (Ur s) = refl
numbers_so (ParaFrom s) = refl
numbers_so (ParaInto s) = refl

rules_rise : (flags : Flags) (given : Numbered) (usable : List Numbered) → Rising site_numbers (IsByRule flags given usable)
rules_rise flags given usable j k x y less a b =
    let before : IsBefore ((rules_before x + 1) ∷ rest_of x) ((rules_before y + 1) ∷ rest_of y) = inl (omega (arith, a.0, b.0)) in
    subst (λ l. IsBefore l (site_numbers y)) (sym (numbers_so x)) (subst (λ l. IsBefore ((rules_before x + 1) ∷ rest_of x) l) (sym (numbers_so y)) before)

behind : (n : ℕ) (ms ns : List ℕ) → IsBefore ms ns → IsBefore (n ∷ ms) (n ∷ ns)
behind n ms ns h = inr (refl, h)

-- ---- one rule

module _ {X : Type 0} (K : X → Site) (numbers : X → List ℕ) (k : ℕ) (place : (x : X) → rules_before (K x) ≡ k) (only : (y : Site) → rules_before y ≡ k → (x : X) × (y ≡ K x))
    (keep : (x y : X) → IsBefore (numbers x) (numbers y) → IsBefore (site_numbers (K x)) (site_numbers (K y))) (flags : Flags) (given : Numbered) (usable : List Numbered) where
  adds : ((x : X) → IsSet flags (K x)) → (limit : ℕ) (before after : List Site) (found : List X) → AreFirst numbers (λ x. (i : Inference) × Infers given usable (K x) i) (limit - length before) found
      → after ≡ before ++ map K found → Extends site_numbers (IsByRule flags given usable k) limit before after
  adds set limit before after found h e = record {
    found = map K found;
    grown = e;
    first = first_mapped K numbers site_numbers (λ x. (i : Inference) × Infers given usable (K x) i) (IsByRule flags given usable k) keep
        (λ x p. (place x, (set x, p)))
        (λ y q. let x = only y q.0 in (x.0, (subst (IsSite flags given usable) x.1 q.1).1, x.1))
        (limit - length before) found h;
  }

  adds_none : ((x : X) → ¬ IsSet flags (K x)) → (limit : ℕ) (sites : List Site) → Extends site_numbers (IsByRule flags given usable k) limit sites sites
  adds_none unset limit sites = nothing site_numbers limit (IsByRule flags given usable k) sites
      (λ y q. let x = only y q.0 in unset x.0 (subst (IsSite flags given usable) x.1 q.1).0)

-- ---- each rule

only_binary : (y : Site) → rules_before y ≡ 0 → (s : BinarySite) × (y ≡ Binary s)
only_binary (Binary s) e = (s, refl)
only_binary y e = absurd (omega arith)

pub binary_added : (flags : Flags) (given : Numbered) (usable : List Numbered) (limit : ℕ) → flags.binary_res ≡ true → (before after : List Site) (found : List BinarySite)
    → AreBinarySites given usable (limit - length before) found → after ≡ before ++ map Binary found → Extends site_numbers (IsByRule flags given usable 0) limit before after
binary_added flags given usable limit set before after found h e =
    adds Binary binary_numbers 0 (λ s. refl) only_binary (λ s t. behind 1 (binary_numbers s) (binary_numbers t)) flags given usable (λ s. set) limit before after found h e

pub binary_off : (flags : Flags) (given : Numbered) (usable : List Numbered) (limit : ℕ) → flags.binary_res ≡ false → (sites : List Site) → Extends site_numbers (IsByRule flags given usable 0) limit sites sites
binary_off flags given usable limit off sites =
    adds_none Binary binary_numbers 0 (λ s. refl) only_binary (λ s t. behind 1 (binary_numbers s) (binary_numbers t)) flags given usable (λ s h. true≢false (sym h ∙ off)) limit sites

only_factor : (y : Site) → rules_before y ≡ 1 → (s : FactorSite) × (y ≡ Factor s)
only_factor (Factor s) e = (s, refl)
only_factor y e = absurd (omega arith)

pub factor_added : (flags : Flags) (given : Numbered) (usable : List Numbered) (limit : ℕ) → flags.factor ≡ true → (before after : List Site) (found : List FactorSite)
    → AreFactorSites given (limit - length before) found → after ≡ before ++ map Factor found → Extends site_numbers (IsByRule flags given usable 1) limit before after
factor_added flags given usable limit set before after found h e =
    adds Factor factor_numbers 1 (λ s. refl) only_factor (λ s t. behind 2 (factor_numbers s) (factor_numbers t)) flags given usable (λ s. set) limit before after found h e

pub factor_off : (flags : Flags) (given : Numbered) (usable : List Numbered) (limit : ℕ) → flags.factor ≡ false → (sites : List Site) → Extends site_numbers (IsByRule flags given usable 1) limit sites sites
factor_off flags given usable limit off sites =
    adds_none Factor factor_numbers 1 (λ s. refl) only_factor (λ s t. behind 2 (factor_numbers s) (factor_numbers t)) flags given usable (λ s h. true≢false (sym h ∙ off)) limit sites

only_hyper : (y : Site) → rules_before y ≡ 2 → (s : HyperSite) × (y ≡ Hyper s)
only_hyper (Hyper s) e = (s, refl)
only_hyper y e = absurd (omega arith)

pub hyper_added : (flags : Flags) (given : Numbered) (usable : List Numbered) (limit : ℕ) → flags.hyper_res ≡ true → (before after : List Site) (found : List HyperSite)
    → AreHyperSites given usable (limit - length before) found → after ≡ before ++ map Hyper found → Extends site_numbers (IsByRule flags given usable 2) limit before after
hyper_added flags given usable limit set before after found h e =
    adds Hyper hyper_numbers 2 (λ s. refl) only_hyper (λ s t. behind 3 (hyper_numbers s) (hyper_numbers t)) flags given usable (λ s. set) limit before after found h e

pub hyper_off : (flags : Flags) (given : Numbered) (usable : List Numbered) (limit : ℕ) → flags.hyper_res ≡ false → (sites : List Site) → Extends site_numbers (IsByRule flags given usable 2) limit sites sites
hyper_off flags given usable limit off sites =
    adds_none Hyper hyper_numbers 2 (λ s. refl) only_hyper (λ s t. behind 3 (hyper_numbers s) (hyper_numbers t)) flags given usable (λ s h. true≢false (sym h ∙ off)) limit sites

only_ur : (y : Site) → rules_before y ≡ 3 → (s : UrSite) × (y ≡ Ur s)
only_ur (Ur s) e = (s, refl)
only_ur y e = absurd (omega arith)

pub ur_added : (flags : Flags) (given : Numbered) (usable : List Numbered) (limit : ℕ) → flags.ur_res ≡ true → (before after : List Site) (found : List UrSite)
    → AreUrSites given usable (limit - length before) found → after ≡ before ++ map Ur found → Extends site_numbers (IsByRule flags given usable 3) limit before after
ur_added flags given usable limit set before after found h e =
    adds Ur ur_numbers 3 (λ s. refl) only_ur (λ s t. behind 4 (ur_numbers s) (ur_numbers t)) flags given usable (λ s. set) limit before after found h e

pub ur_off : (flags : Flags) (given : Numbered) (usable : List Numbered) (limit : ℕ) → flags.ur_res ≡ false → (sites : List Site) → Extends site_numbers (IsByRule flags given usable 3) limit sites sites
ur_off flags given usable limit off sites =
    adds_none Ur ur_numbers 3 (λ s. refl) only_ur (λ s t. behind 4 (ur_numbers s) (ur_numbers t)) flags given usable (λ s h. true≢false (sym h ∙ off)) limit sites

only_para_from : (y : Site) → rules_before y ≡ 4 → (s : ParaSite) × (y ≡ ParaFrom s)
only_para_from (ParaFrom s) e = (s, refl)
only_para_from y e = absurd (omega arith)

pub para_from_added : (flags : Flags) (given : Numbered) (usable : List Numbered) (limit : ℕ) → flags.para_from ≡ true → (before after : List Site) (found : List ParaSite)
    → AreParaFromSites given usable (limit - length before) found → after ≡ before ++ map ParaFrom found → Extends site_numbers (IsByRule flags given usable 4) limit before after
para_from_added flags given usable limit set before after found h e =
    adds ParaFrom para_from_numbers 4 (λ s. refl) only_para_from (λ s t. behind 5 (para_from_numbers s) (para_from_numbers t)) flags given usable (λ s. set) limit before after found h e

pub para_from_off : (flags : Flags) (given : Numbered) (usable : List Numbered) (limit : ℕ) → flags.para_from ≡ false → (sites : List Site) → Extends site_numbers (IsByRule flags given usable 4) limit sites sites
para_from_off flags given usable limit off sites =
    adds_none ParaFrom para_from_numbers 4 (λ s. refl) only_para_from (λ s t. behind 5 (para_from_numbers s) (para_from_numbers t)) flags given usable (λ s h. true≢false (sym h ∙ off)) limit sites

only_para_into : (y : Site) → rules_before y ≡ 5 → (s : ParaSite) × (y ≡ ParaInto s)
only_para_into (ParaInto s) e = (s, refl)
only_para_into y e = absurd (omega arith)

pub para_into_added : (flags : Flags) (given : Numbered) (usable : List Numbered) (limit : ℕ) → flags.para_into ≡ true → (before after : List Site) (found : List ParaSite)
    → AreParaIntoSites given usable (limit - length before) found → after ≡ before ++ map ParaInto found → Extends site_numbers (IsByRule flags given usable 5) limit before after
para_into_added flags given usable limit set before after found h e =
    adds ParaInto para_into_numbers 5 (λ s. refl) only_para_into (λ s t. behind 6 (para_into_numbers s) (para_into_numbers t)) flags given usable (λ s. set) limit before after found h e

pub para_into_off : (flags : Flags) (given : Numbered) (usable : List Numbered) (limit : ℕ) → flags.para_into ≡ false → (sites : List Site) → Extends site_numbers (IsByRule flags given usable 5) limit sites sites
para_into_off flags given usable limit off sites =
    adds_none ParaInto para_into_numbers 5 (λ s. refl) only_para_into (λ s t. behind 6 (para_into_numbers s) (para_into_numbers t)) flags given usable (λ s h. true≢false (sym h ∙ off)) limit sites

-- ---- all rules

below_six : (x : Site) → rules_before x < 6
below_six (Binary s) = omega arith
below_six (Factor s) = omega arith
below_six (Hyper s) = omega arith
below_six (Ur s) = omega arith
below_six (ParaFrom s) = omega arith
below_six (ParaInto s) = omega arith

are_sites : (flags : Flags) (given : Numbered) (usable : List Numbered) (limit : ℕ) (sites : List Site)
    → Extends site_numbers (Below (IsByRule flags given usable) 6) limit [] sites → AreSites flags given usable limit sites
are_sites flags given usable limit sites h =
    let all = same site_numbers limit (Below (IsByRule flags given usable) 6) (IsSite flags given usable) [] sites h (λ x b. b.2.1) (λ x s. (rules_before x, below_six x, (refl, s))) in
    let room : limit - 0 ≡ limit = omega arith in
    subst (AreSites flags given usable limit) (sym all.grown) (subst (λ n. AreSites flags given usable n all.found) room all.first)

-- lists that each rule in turn extends by its first sites, as far as there is room, end with the first sites of all rules
module _ (flags : Flags) (given : Numbered) (usable : List Numbered) (limit : ℕ) where
  abbrev Adds : ℕ → List Site → List Site → Type 0
  Adds k before after = Extends site_numbers (IsByRule flags given usable k) limit before after

  on : (k : ℕ) (xs ys : List Site) → Extends site_numbers (Below (IsByRule flags given usable) k) limit [] xs → Adds k xs ys → Extends site_numbers (Below (IsByRule flags given usable) (k + 1)) limit [] ys
  on k xs ys h now = goes_on site_numbers limit (IsByRule flags given usable) (rules_rise flags given usable) k [] xs ys h now

  pub joined : (a b c d e f : List Site) → Adds 0 [] a → Adds 1 a b → Adds 2 b c → Adds 3 c d → Adds 4 d e → Adds 5 e f → AreSites flags given usable limit f
  joined a b c d e f binary factor hyper ur para_from para_into =
      let none = begins site_numbers limit (IsByRule flags given usable) (rules_rise flags given usable) [] in
      are_sites flags given usable limit f (on 5 e f (on 4 d e (on 3 c d (on 2 b c (on 1 a b (on 0 [] a none binary) factor) hyper) ur) para_from) para_into)

-- ---- flags

pub set : (b : Bool) → not b ≡ false → b ≡ true
set true h = refl
set false h = sym h

pub unset : (b : Bool) → not b ≡ true → b ≡ false
unset true h = sym h
unset false h = refl

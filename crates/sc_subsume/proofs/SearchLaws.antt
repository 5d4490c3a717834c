-- The choices that are still to be tried, through each step of the search.
use Rattle.std.proofs.Common.{◌≡◌, ◌∙◌, sym, ap, subst, refl, ℕ, zero, suc, ◌+◌, ◌<◌, ◌≤◌, ◌⊎◌, inl, inr, Bool, true, false, if◌then◌else◌, nat_eq, List, [], ◌∷◌, ◌++◌, length, get_or, slice_get, take, drop, Some, arith, drop-cons}
use Rattle.std.proofs.lemmas.Bool.{eq-eqb}
use Rattle.std.proofs.lemmas.List.{take-append-drop, drop_all}
use Rattle.std.specs.List.{AllByRecursion}
use Rattle.std.specs.Option.{unwrap_or}
use Rattle.sc_term.specs.declared.Literal.{Literal}
use Rattle.sc_term.specs.declared.Term.{Term, Var}
use Rattle.sc_term.specs.Substitution.{Substitution}
use Rattle.sc_term.proofs.SubstitutionLaws.{all_split, all_join}
use Rattle.sc_unify.specs.declared.bound.Binding.{Binding}
use Rattle.sc_unify.specs.Bindings.{lookup}
use Rattle.sc_unify.specs.Matching.{Gives, IsFunctional}
use Rattle.sc_unify.proofs.TermFacts.{all_so}
use Rattle.sc_subsume.specs.declared.bound.Bound.{Bound}
use Rattle.sc_subsume.specs.declared.search.Branch.{Branch}
use Rattle.sc_subsume.specs.Search.{bindings, Extends, Hits, HasNoPlace, IsFirstPlace, Reaches, IsOpen, IsWaiting, AreRising, IsSearch, GoesInto}
use Rattle.sc_subsume.proofs.TakingLaws.{front}
use Rattle.sc_subsume.proofs.TermsLaws.{begin, finish, goes_or_open}

-- ---- a part of the bindings

take_take : {X : Type 0} (m n : ℕ) (xs : List X) → m ≤ n → take m (take n xs) ≡ take m xs
take_take zero n xs h = refl
take_take (suc m) zero xs h = absurd (omega arith)
take_take (suc m) (suc n) [] h = refl
take_take (suc m) (suc n) (x ∷ xs) h = ap (λ l. x ∷ l) (take_take m n xs (omega arith))

bindings_take : (n : ℕ) (bs : List Bound) → bindings (take n bs) ≡ take n (bindings bs)
bindings_take zero bs = refl
bindings_take (suc n) [] = refl
bindings_take (suc n) (b ∷ bs) = ap (λ l. record { variable = b.variable; term = b.term.now } ∷ l) (bindings_take n bs)

lookup_front : (front rest : List Binding) (n : ℕ) (t : Term) → lookup front n ≡ Some t → lookup (front ++ rest) n ≡ Some t
lookup_front [] rest n t e = cc
lookup_front (b ∷ bs) rest n t e = by (nat_eq b.variable n) e (lookup_front bs rest n t)
  where
    by : (q : Bool) → (if q then Some b.term else lookup bs n) ≡ Some t → (lookup bs n ≡ Some t → lookup (bs ++ rest) n ≡ Some t) → (if q then Some b.term else lookup (bs ++ rest) n) ≡ Some t
    by true e more = e
    by false e more = more e

abbrev IsBoundIn : List Binding → ℕ → Type 0
IsBoundIn bs n = (t : Term) × (lookup bs n ≡ Some t)

bound_later : (b : Binding) (bs : List Binding) (n : ℕ) → IsBoundIn bs n → IsBoundIn (b ∷ bs) n
bound_later b bs n h = by (nat_eq b.variable n)
  where
    by : (q : Bool) → (t : Term) × ((if q then Some b.term else lookup bs n) ≡ Some t)
    by true = (b.term, refl)
    by false = h

all_bound : (bs : List Binding) → AllByRecursion (λ (b : Binding). IsBoundIn bs b.variable) bs
all_bound [] = tt
all_bound (b ∷ bs) = (
  (b.term, ap (λ q. if q then Some b.term else lookup bs b.variable) (eq-eqb b.variable b.variable refl)),
  all_so (λ (o : Binding). IsBoundIn bs o.variable) (λ (o : Binding). IsBoundIn (b ∷ bs) o.variable) (λ o. bound_later b bs o.variable) bs (all_bound bs),
)

functional_front : (front rest : List Binding) → IsFunctional (front ++ rest) → IsFunctional front
functional_front front rest h = both front (all_bound front) (all_split (λ (b : Binding). lookup (front ++ rest) b.variable ≡ Some b.term) front rest h).0
  where
    both : (bs : List Binding) → AllByRecursion (λ (b : Binding). IsBoundIn front b.variable) bs → AllByRecursion (λ (b : Binding). lookup (front ++ rest) b.variable ≡ Some b.term) bs
        → AllByRecursion (λ (b : Binding). lookup front b.variable ≡ Some b.term) bs
    both [] g k = tt
    both (b ∷ bs) g k = (one b g.0 k.0, both bs g.1 k.1)
      where
        one : (b : Binding) → IsBoundIn front b.variable → lookup (front ++ rest) b.variable ≡ Some b.term → lookup front b.variable ≡ Some b.term
        one b is e = let later : lookup (front ++ rest) b.variable ≡ Some is.0 = lookup_front front rest b.variable is.0 is.1 in is.1 ∙ sym later ∙ e

functional_take : (n : ℕ) (bs : List Binding) → IsFunctional bs → IsFunctional (take n bs)
functional_take n bs h = functional_front (take n bs) (drop n bs) (subst IsFunctional (sym (take-append-drop n bs)) h)

given : (bs : List Binding) → IsFunctional bs → (s : Substitution) × Gives s bs
given bs h = (
  (λ n. unwrap_or (lookup bs n) (Var 0)),
  all_so (λ (b : Binding). lookup bs b.variable ≡ Some b.term) (λ (b : Binding). unwrap_or (lookup bs b.variable) (Var 0) ≡ b.term) (λ b e. ap (λ o. unwrap_or o (Var 0)) e) bs h,
)

-- ---- rising numbers

rises : (low now : ℕ) (choices : List Branch) → AreRising low choices now → low ≤ now
rises low now [] h = h
rises low now (one ∷ more) h = omega (arith, h.0, rises one.bound now more h.1)

rising_more : (low now later : ℕ) (choices : List Branch) (one : Branch) → AreRising low choices now → one.bound ≡ now → now ≤ later → AreRising low (choices ++ one ∷ []) later
rising_more low now later [] one h same le = (omega (arith, h), omega arith)
rising_more low now later (other ∷ more) one h same le = (h.0, rising_more other.bound now later more one h.1 same le)

rising_less : (low now : ℕ) (choices : List Branch) (one : Branch) → AreRising low (choices ++ one ∷ []) now → AreRising low choices one.bound × (one.bound ≤ now)
rising_less low now [] one h = (h.0, h.1)
rising_less low now (other ∷ more) one h = let rest = rising_less other.bound now more one h.1 in ((h.0, rest.0), rest.1)

beyond : (m n : ℕ) → (m ≤ n) ⊎ (n < m)
beyond zero n = inl (omega arith)
beyond (suc m) zero = inr (omega arith)
beyond (suc m) (suc n) = elim (beyond m n) [
  | inl h ↦ inl (omega (arith, h))
  | inr h ↦ inr (omega (arith, h))
]

-- ---- the last place that need be tried

pub record IsLastTried (place size tried : ℕ) (old new : List Bound) : Type 0 where
  pub least : place ≤ tried
  pub within : tried < size
  pub why : (tried ≡ place) ⊎ (new ≡ old)

nothing_more : (old new : List Bound) → Extends old new → length new ≤ length old → new ≡ old
nothing_more old new (added, e) le = by old added new e le
  where
    by : (xs ys zs : List Bound) → zs ≡ xs ++ ys → length zs ≤ length xs → zs ≡ xs
    by [] ys [] e le = refl
    by [] ys (z ∷ zs) e le = absurd (omega (arith, le))
    by (x ∷ xs) ys [] e le = cc
    by (x ∷ xs) ys (z ∷ zs) e le =
        let head : z ≡ x = cc in
        let tail : zs ≡ xs ++ ys = cc in
        λ i. head i ∷ by xs ys zs tail (omega (arith, le)) i

pub last_tried : (place size tried : ℕ) (old new : List Bound) → place < size → Extends old new → (length old < length new → tried ≡ place) → (length new ≤ length old → tried + 1 ≡ size)
    → IsLastTried place size tried old new
last_tried place size tried old new within grown taken last = elim (beyond (length new) (length old)) [
  | inl le ↦ (let end = last le in record { least = omega (arith, end); within = omega (arith, end); why = inr (nothing_more old new grown le) })
  | inr less ↦ (let same = taken less in record { least = omega (arith, same); within = omega (arith, same); why = inl same })
]

pub fewer : (now : List Branch) (last : Branch) → length now ≤ length (now ++ last ∷ [])
fewer [] last = omega arith
fewer (x ∷ xs) last = omega (arith, fewer xs last)

module _ (c d : List Literal) where
  -- ---- choices

  waiting_same : (bs new : List Binding) (n low i : ℕ) (choices : List Branch) → AreRising low choices n → take n bs ≡ take n new → IsWaiting c d bs i choices → IsWaiting c d new i choices
  waiting_same bs new n low i [] rising e h = h
  waiting_same bs new n low i (one ∷ more) rising e (inl h) =
      let less = rises one.bound n more rising.1 in
      let part : take one.bound bs ≡ take one.bound new = sym (take_take one.bound n bs less) ∙ ap (take one.bound) e ∙ take_take one.bound n new less in
      inl (subst (λ l. IsOpen c d l i (one.place + 1)) part h)
  waiting_same bs new n low i (one ∷ more) rising e (inr h) = inr (waiting_same bs new n one.bound (i + 1) more rising.1 e h)

  abbrev Last : List Binding → ℕ → Branch → Type 0
  Last bs i one = IsOpen c d (take one.bound bs) i (one.place + 1)

  waiting_last : (bs : List Binding) (i j : ℕ) (choices : List Branch) (one : Branch) → j ≡ i + length choices → IsWaiting c d bs i (choices ++ one ∷ []) → IsWaiting c d bs i choices ⊎ Last bs j one
  waiting_last bs i j [] one e (inl h) = inr (subst (λ k. Last bs k one) (let same : i ≡ j = omega (arith, e) in same) h)
  waiting_last bs i j [] one e (inr h) = inl h
  waiting_last bs i j (other ∷ more) one e (inl h) = inl (inl h)
  waiting_last bs i j (other ∷ more) one e (inr h) = elim (waiting_last bs (i + 1) j more one (omega (arith, e)) h) [
    | inl before ↦ inl (inr before)
    | inr last ↦ inr last
  ]

  waits_before : (bs : List Binding) (i : ℕ) (choices : List Branch) (one : Branch) → IsWaiting c d bs i choices → IsWaiting c d bs i (choices ++ one ∷ [])
  waits_before bs i [] one h = absurd h
  waits_before bs i (other ∷ more) one (inl h) = inl h
  waits_before bs i (other ∷ more) one (inr h) = inr (waits_before bs (i + 1) more one h)

  waits_last : (bs : List Binding) (i j : ℕ) (choices : List Branch) (one : Branch) → j ≡ i + length choices → Last bs j one → IsWaiting c d bs i (choices ++ one ∷ [])
  waits_last bs i j [] one e h = inl (subst (λ k. Last bs k one) (let same : j ≡ i = omega (arith, e) in same) h)
  waits_last bs i j (other ∷ more) one e h = inr (waits_last bs (i + 1) j more one (omega (arith, e)) h)

  -- ---- one literal

  module _ (i first : ℕ) (l : Literal) (few : i < length c) (at : l ≡ get_or c i l) where
    rest : drop i c ≡ l ∷ drop (suc i) c
    rest = drop-cons c i l few ∙ ap (λ m. m ∷ drop (suc i) c) (sym at)

    closed : (old new : List Bound) → HasNoPlace l d first old new → ¬ IsOpen c d (bindings old) i first
    closed old new h o =
        let r : Reaches o.0 (l ∷ drop (suc i) c) d first = subst (λ ls. Reaches o.0 ls d first) rest o.2 in
        h.nowhere o.0 o.1 r.0.0 r.0.1 (within d r.0.0 _ r.0.2) r.0.2
      where
        within : (d : List Literal) (k : ℕ) (m : Literal) → slice_get d k ≡ Some m → k < length d
        within [] k m e = cc
        within (x ∷ xs) zero m e = omega arith
        within (x ∷ xs) (suc k) m e = omega (arith, within xs k m e)

    -- the place is the first that can be taken, and tried the last that need be tried
    module _ (place tried : ℕ) (old new : List Bound) (h : IsFirstPlace l d first place old new) (le : place ≤ tried) (why : (tried ≡ place) ⊎ (new ≡ old)) where
      forth : IsOpen c d (bindings old) i first → IsOpen c d (bindings new) (suc i) 0 ⊎ IsOpen c d (bindings old) i (tried + 1)
      forth o = by (beyond r.0.0 place)
        where
          r : Reaches o.0 (l ∷ drop (suc i) c) d first
          r = subst (λ ls. Reaches o.0 ls d first) rest o.2

          exactly : (k : ℕ) → k ≤ place → first ≤ k → Hits o.0 l d k → k ≡ place
          exactly k le low e = elim (beyond place k) [
            | inl same ↦ omega (arith, same)
            | inr less ↦ absurd (h.earlier o.0 o.1 k low less e)
          ]

          by : (r.0.0 ≤ place) ⊎ (place < r.0.0) → IsOpen c d (bindings new) (suc i) 0 ⊎ IsOpen c d (bindings old) i (tried + 1)
          by (inl le) = inl (o.0, (h.same o.0).1 (o.1, subst (Hits o.0 l d) (exactly r.0.0 le r.0.1 r.0.2) r.0.2), begin d o.0 (drop (suc i) c) r.1)
          by (inr more) = elim why [
            | inl same ↦ inr (o.0, o.1, subst (λ ls. Reaches o.0 ls d (tried + 1)) (sym rest) ((r.0.0, omega (arith, more, same), r.0.2), r.1))
            | inr same ↦ inl (o.0, subst (λ bs. Gives o.0 (bindings bs)) (sym same) o.1, begin d o.0 (drop (suc i) c) r.1)
          ]

      back : IsOpen c d (bindings new) (suc i) 0 ⊎ IsOpen c d (bindings old) i (tried + 1) → IsOpen c d (bindings old) i first
      back (inl o) =
          let both = (h.same o.0).0 o.1 in
          (o.0, both.0, subst (λ ls. Reaches o.0 ls d first) (sym rest) ((place, h.least, both.1), finish d o.0 (drop (suc i) c) o.2))
      back (inr o) =
          let r : Reaches o.0 (l ∷ drop (suc i) c) d (tried + 1) = subst (λ ls. Reaches o.0 ls d (tried + 1)) rest o.2 in
          (o.0, o.1, subst (λ ls. Reaches o.0 ls d first) (sym rest) ((r.0.0, omega (arith, r.0.1, h.least, le), r.0.2), r.1))

  -- ---- the steps of the search

  pub at_first : IsSearch c d [] [] 0
  at_first = record {
    same = (λ h. inl h, λ h. elim h [ inl o ↦ o | inr w ↦ absurd w ]);
    functional = tt;
    rising = omega arith;
    places = tt;
    few = omega arith;
    within = omega arith;
  }

  pub chosen : (old new : List Bound) (choices now : List Branch) (next place : ℕ) (l : Literal) (one : Branch)
      → IsSearch c d old choices next → length choices < length c → l ≡ get_or c (length choices) l → IsFirstPlace l d next place old new
      → IsLastTried place (length d) one.place old new → one.bound ≡ length old → now ≡ choices ++ one ∷ [] → IsSearch c d new now 0
  chosen old new choices now next place l one is few at h tried same_bound grown = subst (λ cs. IsSearch c d new cs 0) (sym grown) (record {
    same = (
      λ o. elim (is.same.0 o) [
        | inl here ↦ elim (forth (length choices) next l few at place one.place old new h tried.least tried.why here) [
          | inl further ↦ inl (subst (λ k. IsOpen c d (bindings new) k 0) (sym more) further)
          | inr other ↦ inr (waits_last (bindings new) 0 (length choices) choices one (omega arith) (subst (λ bs. IsOpen c d bs (length choices) (one.place + 1)) (sym part) other))
        ]
        | inr before ↦ inr (waits_before (bindings new) 0 choices one (waiting_same (bindings old) (bindings new) (length old) 0 0 choices is.rising fronts before))
      ],
      λ o. is.same.1 (elim o [
        | inl further ↦ inl (back (length choices) next l few at place one.place old new h tried.least tried.why (inl (subst (λ k. IsOpen c d (bindings new) k 0) more further)))
        | inr waits ↦ elim (waiting_last (bindings new) 0 (length choices) choices one (omega arith) waits) [
          | inl before ↦ inr (waiting_same (bindings new) (bindings old) (length old) 0 0 choices is.rising (sym fronts) before)
          | inr last ↦ inl (back (length choices) next l few at place one.place old new h tried.least tried.why (inr (subst (λ bs. IsOpen c d bs (length choices) (one.place + 1)) part last)))
        ]
      ]),
    );
    functional = h.functional is.functional;
    rising = rising_more 0 (length old) (length new) choices one is.rising same_bound longer;
    places = all_join (λ (o : Branch). o.place < length d) choices (one ∷ []) is.places (tried.within, tt);
    few = omega (arith, more);
    within = omega arith;
  })
    where
      more : length (choices ++ one ∷ []) ≡ suc (length choices)
      more = by choices
        where
          by : (cs : List Branch) → length (cs ++ one ∷ []) ≡ suc (length cs)
          by [] = refl
          by (x ∷ xs) = ap suc (by xs)

      longer : length old ≤ length new
      longer = by old h.extends.0 new h.extends.1
        where
          by : (xs ys zs : List Bound) → zs ≡ xs ++ ys → length xs ≤ length zs
          by [] ys zs e = omega arith
          by (x ∷ xs) ys [] e = cc
          by (x ∷ xs) ys (z ∷ zs) e = omega (arith, by xs ys zs (let tail : zs ≡ xs ++ ys = cc in tail))

      whole : bindings (take (length old) new) ≡ bindings old
      whole = ap bindings (front old new h.extends)

      fronts : take (length old) (bindings old) ≡ take (length old) (bindings new)
      fronts = sym (bindings_take (length old) old) ∙ ap bindings (front old old ([], sym (nothing old))) ∙ sym whole ∙ bindings_take (length old) new
        where
          nothing : (xs : List Bound) → xs ++ [] ≡ xs
          nothing [] = refl
          nothing (x ∷ xs) = ap (λ l. x ∷ l) (nothing xs)

      part : take one.bound (bindings new) ≡ bindings old
      part = ap (λ n. take n (bindings new)) same_bound ∙ sym (bindings_take (length old) new) ∙ whole

  pub undone : (old mid new : List Bound) (choices now : List Branch) (next : ℕ) (l : Literal) (last : Branch)
      → IsSearch c d old choices next → length choices < length c → l ≡ get_or c (length choices) l → HasNoPlace l d next old mid
      → choices ≡ now ++ last ∷ [] → new ≡ take last.bound mid → IsSearch c d new now (last.place + 1)
  undone old mid new choices now next l last is few at none were cut = record {
    same = (
      λ o. elim (is.same.0 o) [
        | inl here ↦ absurd (closed (length choices) next l few at old mid none here)
        | inr waits ↦ elim (waiting_last (bindings old) 0 (length now) now last (omega arith) (subst (IsWaiting c d (bindings old) 0) were waits)) [
          | inl before ↦ inr (waiting_same (bindings old) (bindings new) last.bound 0 0 now rising.0 fronts before)
          | inr one ↦ inl (subst (λ bs. IsOpen c d bs (length now) (last.place + 1)) (sym now_is) one)
        ]
      ],
      λ o. is.same.1 (inr (subst (IsWaiting c d (bindings old) 0) (sym were) (elim o [
        | inl one ↦ waits_last (bindings old) 0 (length now) now last (omega arith) (subst (λ bs. IsOpen c d bs (length now) (last.place + 1)) now_is one)
        | inr before ↦ waits_before (bindings old) 0 now last (waiting_same (bindings new) (bindings old) last.bound 0 0 now rising.0 (sym fronts) before)
      ]))),
    );
    functional = subst IsFunctional (sym now_is) (functional_take last.bound (bindings old) is.functional);
    rising = subst (AreRising 0 now) (sym exact) rising.0;
    places = places.0;
    few = omega (arith, is.few, shorter);
    within = omega (arith, places.1.0);
  }
    where
      rising : AreRising 0 now last.bound × (last.bound ≤ length old)
      rising = rising_less 0 (length old) now last (subst (λ cs. AreRising 0 cs (length old)) were is.rising)

      places : AllByRecursion (λ (o : Branch). o.place < length d) now × AllByRecursion (λ (o : Branch). o.place < length d) (last ∷ [])
      places = all_split (λ (o : Branch). o.place < length d) now (last ∷ []) (subst (AllByRecursion (λ (o : Branch). o.place < length d)) were is.places)

      cut_is : new ≡ take last.bound old
      cut_is = cut ∙ ap (take last.bound) none.kept

      now_is : bindings new ≡ take last.bound (bindings old)
      now_is = ap bindings cut_is ∙ bindings_take last.bound old

      fronts : take last.bound (bindings old) ≡ take last.bound (bindings new)
      fronts = sym (take_take last.bound last.bound (bindings old) (omega arith)) ∙ ap (take last.bound) (sym now_is)

      exact : length new ≡ last.bound
      exact = ap length cut_is ∙ by last.bound old rising.1
        where
          by : (n : ℕ) (xs : List Bound) → n ≤ length xs → length (take n xs) ≡ n
          by zero xs le = refl
          by (suc n) [] le = absurd (omega arith)
          by (suc n) (x ∷ xs) le = ap suc (by n xs (omega arith))

      shorter : length now ≤ length choices
      shorter = omega (arith, fewer now last, ap length were)

  pub last_place : (old : List Bound) (choices now : List Branch) (next : ℕ) (last : Branch) → IsSearch c d old choices next → choices ≡ now ++ last ∷ [] → last.place < length d
  last_place old choices now next last is were =
      (all_split (λ (o : Branch). o.place < length d) now (last ∷ []) (subst (AllByRecursion (λ (o : Branch). o.place < length d)) were is.places)).1.0

  pub found : (bound : List Bound) (choices : List Branch) (next : ℕ) → IsSearch c d bound choices next → length c ≤ length choices → GoesInto c d
  found bound choices next is all =
      let s = given (bindings bound) is.functional in
      (goes_or_open d c).1 (is.same.1 (inl (s.0, s.1, subst (λ ls. Reaches s.0 ls d next) (sym (drop_all (length choices) c all)) tt)))

  pub not_found : (old mid : List Bound) (choices : List Branch) (next : ℕ) (l : Literal) → IsSearch c d old choices next → choices ≡ []
      → length choices < length c → l ≡ get_or c (length choices) l → HasNoPlace l d next old mid → ¬ GoesInto c d
  not_found old mid choices next l is none few at h goes = elim (is.same.0 ((goes_or_open d c).0 goes)) [
    | inl here ↦ closed (length choices) next l few at old mid h here
    | inr waits ↦ subst (IsWaiting c d (bindings old) 0) none waits
  ]

-- ---- a single literal

pub found_one : (l : Literal) (d : List Literal) (place : ℕ) (old new : List Bound) → old ≡ [] → IsFirstPlace l d 0 place old new → GoesInto (l ∷ []) d
found_one l d place old new empty first = by (subst (λ bs. IsFirstPlace l d 0 place bs new) empty first)
  where
    by : IsFirstPlace l d 0 place [] new → GoesInto (l ∷ []) d
    by h = let s = given (bindings new) (h.functional tt) in (goes_or_open d (l ∷ [])).1 (s.0, tt, ((place, (omega arith), ((h.same s.0).0 s.1).1), tt))

pub none_of_one : (l : Literal) (d : List Literal) (old new : List Bound) → old ≡ [] → HasNoPlace l d 0 old new → ¬ GoesInto (l ∷ []) d
none_of_one l d old new empty none g =
    closed (l ∷ []) d 0 0 l (omega arith) refl [] new (subst (λ bs. HasNoPlace l d 0 bs new) empty none) ((goes_or_open d (l ∷ [])).0 g)

-- The walk back from a goal finds exactly the needed clauses, rising.
use Rattle.std.proofs.Common.{◌≡◌, ◌≢◌, ◌∙◌, sym, ap, refl, subst, ℕ, zero, suc, ◌+◌, ◌-◌, ◌<◌, ◌≤◌, Bool, true, false, ◌||◌, cond, List, [], ◌∷◌, ◌++◌, append_assoc, length, get_or, Option, Some, None, IsTrue, arith, inl, inr, ◌⊎◌, nat_eq, true≢false, slice_get, if◌then◌else◌}
use Rattle.std.specs.List.{AllPairs, Contains, list_any}
use Rattle.std.specs.Ordering.{nat_cmp, is_lt}
use Rattle.std.specs.declared.cmp.Ordering.TheVariants.{Less}
use Rattle.std.specs.Cmp.{nat_cmp_is, unsigned_tied}
use Rattle.std.specs.BTreeSet.{BTreeSet, contains, Updates, IsUpperBound, IsEmpty}
use Rattle.std.specs.BTreeMap.{is_at}
use Rattle.std.proofs.lemmas.Bool.{cases_lt, cases_eq, eqb-true, eqb-false, eq-eqb, or_cases}
use Rattle.std.proofs.lemmas.List.Kept.{AllPairs-cons}
use Rattle.sc_term.specs.declared.Clause.{Clause}
use Rattle.sc_term.specs.declared.Line.{Line}
use Rattle.sc_term.specs.declared.Step.TheVariants.{Input}
use Rattle.sc_term.specs.Numbering.{numbered}
use Rattle.sc_steps.specs.declared.derivations.derivation.Derived.{Derived}
use Rattle.sc_steps.specs.Derivation.{all_clauses, derived_at, IsInputAt, AreDerived}
use Rattle.sc_steps.specs.Splice.{IsNeeded, goal_itself, named, AreNeeded, named_by}
use Rattle.sc_steps.specs.Walk.{is_number, names, names_of}
use Rattle.sc_steps.proofs.ListLaws.{some_and, at_number, or_right}
use Rattle.sc_steps.proofs.LineLaws.{number_in_whole, number_of_end, some_so}
use Rattle.sc_steps.proofs.Splicing.{named_step}
use Rattle.sc_steps.proofs.SpliceLaws.{named_from, needed_have, in_cons, one_more_in, first_in}

-- ---- what lines name

-- a line that the test finds is `input m`
pub record IsNamedIn (lines : List Line) (m : ℕ) : Type 0 where
  pub place : ℕ
  pub at : IsInputAt lines m place

is_named : (o : Option ℕ) (m : ℕ) → is_number o m ≡ true → o ≡ Some m
is_named None m e = absurd (true≢false (sym e))
is_named (Some n) m e = ap Some (sym (eqb-true m n e))

named_in : (m : ℕ) (done rest : List Line) → names rest m ≡ true → IsNamedIn (done ++ rest) m
named_in m done [] e = absurd (true≢false (sym e))
named_in m done (l ∷ rest) e = elim (or_cases (is_number (named_by l.step) m) (names rest m) e) [
  | inl here ↦
      let at : numbered (done ++ l ∷ rest) (length done + 1) ≡ Some l = ap (λ ls. numbered ls (length done + 1)) (sym (append_assoc done (l ∷ []) rest))
      ∙ number_in_whole (done ++ l ∷ []) rest (length done + 1) l (number_of_end done l) in
      record {
        place = length done + 1;
        at = some_so (numbered (done ++ l ∷ rest) (length done + 1)) (λ (one : Line). one.step ≡ Input m) l at (named_step l.step m (is_named (named_by l.step) m here));
      }
  | inr later ↦ subst (λ ls. IsNamedIn ls m) (append_assoc done (l ∷ []) rest) (named_in m (done ++ l ∷ []) rest later)
]

any_at : (p : Line → Bool) (lines : List Line) (i : ℕ) (l : Line) → slice_get lines i ≡ Some l → p l ≡ true → list_any p lines ≡ true
any_at p [] i l e h = cc
any_at p (x ∷ xs) zero l e h = let same : x ≡ l = cc in ap (λ b. b || list_any p xs) (ap p same ∙ h)
any_at p (x ∷ xs) (suc i) l e h = or_right (p x) (list_any p xs) (any_at p xs i l e h)

finds : (lines : List Line) (m k : ℕ) → IsInputAt lines m k → names lines m ≡ true
finds lines m k input =
    let line = some_and (numbered lines k) (λ (one : Line). one.step ≡ Input m) input in
    let at = at_number lines k line.0 line.1 in
    any_at (λ (l : Line). is_number (named_by l.step) m) lines (k - 1) line.0 at.1 (ap (λ s. is_number (named_by s) m) line.2 ∙ eq-eqb m m refl)

apart : (a b : ℕ) → a ≢ b → nat_eq a b ≡ false
apart a b ne = by (nat_eq a b) refl
  where
    by : (t : Bool) → nat_eq a b ≡ t → nat_eq a b ≡ false
    by true z = absurd (ne (eqb-true a b z))
    by false z = z

-- ---- the walk

-- the clause was found, or waits
abbrev pub Seen : List ℕ → (ℕ → Bool) → ℕ → Type 0
Seen ns waits m = Contains ns m ⊎ (waits m ≡ true)

pub record Walk (inputs : List Clause) (derived : List Derived) (goal : ℕ) (ns : List ℕ) (waits : ℕ → Bool) : Type 0 where
  pub rising : AllPairs (λ a b. a < b) ns
  pub needed : (m : ℕ) → Seen ns waits m → IsNeeded inputs derived goal m
  pub below : (m n : ℕ) → waits m ≡ true → Contains ns n → m < n
  pub goal_seen : Seen ns waits goal
  pub closed : (n m : ℕ) → Contains ns n → names_of (derived_at inputs derived n) m ≡ true → Seen ns waits m

pub walk_begins : (inputs : List Clause) (derived : List Derived) (goal : ℕ) (waits : ℕ → Bool) → ((m : ℕ) → waits m ≡ nat_eq goal m)
    → Walk inputs derived goal [] waits
walk_begins inputs derived goal waits only = record {
  rising = λ i j d h k. absurd (omega arith);
  needed = λ m seen. elim seen [
    | inl at ↦ absurd (omega (arith, at.1))
    | inr e ↦ subst (IsNeeded inputs derived goal) (eqb-true goal m (sym (only m) ∙ e)) goal_itself
  ];
  below = λ m n e at. absurd (omega (arith, at.1));
  goal_seen = inr (only goal ∙ eq-eqb goal goal refl);
  closed = λ n m at e. absurd (omega (arith, at.1));
}

-- the greatest that waits is found, and what it names waits
pub record Visits (inputs : List Clause) (derived : List Derived) (waits more : ℕ → Bool) (n : ℕ) : Type 0 where
  pub waited : waits n ≡ true
  pub greatest : (m : ℕ) → waits m ≡ true → m ≤ n
  pub more_is : (m : ℕ) → more m ≡ (if nat_eq n m then false else waits m) || names_of (derived_at inputs derived n) m

module _ (inputs : List Clause) (derived : List Derived) (goal : ℕ) (fine : AreDerived inputs derived)
    (c : Clause) (has : numbered (all_clauses inputs derived) goal ≡ Some c) where
  -- what a clause names has a smaller number
  named_below : (n m : ℕ) → names_of (derived_at inputs derived n) m ≡ true → IsNeeded inputs derived goal n → (m < n) × IsNeeded inputs derived goal m
  named_below n m e needed = by (derived_at inputs derived n) refl e
    where
      by : (o : Option Derived) → derived_at inputs derived n ≡ o → names_of o m ≡ true → (m < n) × IsNeeded inputs derived goal m
      by None at e = absurd (true≢false (sym e))
      by (Some d) at e =
          let in_lines = named_in m [] d.lines e in
          let from = named_from inputs derived n m in_lines.place d fine at in_lines.at in
          (from.smaller, named n m in_lines.place needed (some_so (derived_at inputs derived n) (λ d. IsInputAt d.lines m in_lines.place) d at in_lines.at))

  pub walk_goes : (ns : List ℕ) (waits more : ℕ → Bool) (n : ℕ) → Walk inputs derived goal ns waits → Visits inputs derived waits more n
      → Walk inputs derived goal (n ∷ ns) more
  walk_goes ns waits more n walk visit = record {
    rising = AllPairs-cons (λ a b. a < b) n ns (λ k d h. walk.below n (get_or ns k d) visit.waited (k, h, in_place ns k d h)) walk.rising;
    needed = λ m seen. elim seen [ inl at ↦ found_needed m (in_cons n ns m at) | inr e ↦ (waiting m e).0 ];
    below = λ m k e at. elim (in_cons n ns k at) [
      | inl same ↦ subst (λ x. m < x) same (waiting m e).1
      | inr rest ↦ let less = walk.below n k visit.waited rest in omega (arith, less, (waiting m e).1)
    ];
    goal_seen = still goal walk.goal_seen;
    closed = λ k m at e. elim (in_cons n ns k at) [
      | inl same ↦ inr (visit.more_is m ∙ or_right (if nat_eq n m then false else waits m) (names_of (derived_at inputs derived n) m)
          (subst (λ x. names_of (derived_at inputs derived x) m ≡ true) (sym same) e))
      | inr rest ↦ still m (walk.closed k m rest e)
    ];
  }
    where
      in_place : (xs : List ℕ) (k d : ℕ) → k < length xs → get_or xs k (get_or xs k d) ≡ get_or xs k d
      in_place [] k d h = refl
      in_place (x ∷ xs) zero d h = refl
      in_place (x ∷ xs) (suc k) d h = in_place xs k d (omega arith)

      itself : IsNeeded inputs derived goal n
      itself = walk.needed n (inr visit.waited)

      found_needed : (m : ℕ) → (n ≡ m) ⊎ Contains ns m → IsNeeded inputs derived goal m
      found_needed m (inl same) = subst (IsNeeded inputs derived goal) same itself
      found_needed m (inr at) = walk.needed m (inl at)

      -- what waits then is needed, and below n
      waiting : (m : ℕ) → more m ≡ true → IsNeeded inputs derived goal m × (m < n)
      waiting m e = elim (or_cases (if nat_eq n m then false else waits m) (names_of (derived_at inputs derived n) m) (sym (visit.more_is m) ∙ e)) [
        | inl left ↦ old (nat_eq n m) refl left
        | inr now ↦ let t = named_below n m now itself in (t.1, t.0)
      ]
        where
          old : (b : Bool) → nat_eq n m ≡ b → (if b then false else waits m) ≡ true → IsNeeded inputs derived goal m × (m < n)
          old true z left = absurd (true≢false (sym left))
          old false z left =
              let most = visit.greatest m left in
              let other = eqb-false n m z in
              (walk.needed m (inr left), omega (arith, most, other))

      -- what was found or waited is found or waits
      still : (m : ℕ) → Seen ns waits m → Seen (n ∷ ns) more m
      still m (inl at) = inl (one_more_in n ns m at)
      still m (inr e) = elim (cases_eq n m) [
        | inl same ↦ inl (zero, omega arith, same)
        | inr other ↦ inr (visit.more_is m ∙ ap (λ b. b || names_of (derived_at inputs derived n) m)
            (ap (λ b. if b then false else waits m) (apart n m other) ∙ e))
      ]

  -- where none waits all are found
  pub walk_ends : (ns : List ℕ) (waits : ℕ → Bool) → Walk inputs derived goal ns waits → ((m : ℕ) → waits m ≡ false) → AreNeeded inputs derived goal ns
  walk_ends ns waits walk none = record {
    rising = walk.rising;
    needed = λ n. (λ at. walk.needed n (inl at), all n);
  }
    where
      found : (m : ℕ) → Seen ns waits m → Contains ns m
      found m (inl at) = at
      found m (inr e) = absurd (true≢false (sym e ∙ none m))

      all : (m : ℕ) → IsNeeded inputs derived goal m → Contains ns m
      all m goal_itself = found goal walk.goal_seen
      all m (named n k place needed is) =
          let d = some_and (derived_at inputs derived n) (λ d. IsInputAt d.lines k place) is in
          found k (walk.closed n k (all n needed) (ap (λ o. names_of o k) d.1 ∙ finds d.0.lines k place d.2))

  -- each clause that is found is below those found before it
  pub walk_falls : (ns : List ℕ) (waits : ℕ → Bool) (n : ℕ) → Walk inputs derived goal ns waits → waits n ≡ true → n < get_or ns 0 (goal + 1)
  walk_falls [] waits n walk e = let t = needed_have inputs derived fine goal n (c, has) (walk.needed n (inr e)) in omega (arith, t.1)
  walk_falls (m ∷ ns) waits n walk e = walk.below n m e (first_in m ns)

-- ---- the set of those that wait

is_true : (b : Bool) → IsTrue b → b ≡ true
is_true true t = refl
is_true false t = cc

from_true : (b : Bool) → b ≡ true → IsTrue b
from_true true e = refl
from_true false e = cc

pub waits_alone : (old new : BTreeSet ℕ) (n : ℕ) → IsEmpty old → Updates nat_cmp old new n true → (m : ℕ) → contains nat_cmp new m ≡ nat_eq n m
waits_alone old new n none update m =
    update.0 m ∙ ap (λ ks. cond (is_at (nat_cmp n) m) true (list_any (is_at (nat_cmp m)) ks)) none ∙ either (is_at (nat_cmp n) m) ∙ unsigned_tied n m
  where
    either : (b : Bool) → cond b true false ≡ b
    either true = refl
    either false = refl

pub none_waits : (s : BTreeSet ℕ) → ¬ (0 < length s.keys) → (m : ℕ) → contains nat_cmp s m ≡ false
none_waits s none m = by s.keys none
  where
    by : (ks : List ℕ) → ¬ (0 < length ks) → list_any (is_at (nat_cmp m)) ks ≡ false
    by [] e = refl
    by (k ∷ ks) e = absurd (e (omega arith))

pub visits : (inputs : List Clause) (derived : List Derived) (old left more : BTreeSet ℕ) (n : ℕ) → IsTrue (contains nat_cmp old n)
    → IsUpperBound nat_cmp old n → Updates nat_cmp old left n false
    → ((m : ℕ) → contains nat_cmp more m ≡ (contains nat_cmp left m || names_of (derived_at inputs derived n) m))
    → Visits inputs derived (contains nat_cmp old) (contains nat_cmp more) n
visits inputs derived old left more n member most update adds = record {
  waited = is_true (contains nat_cmp old n) member;
  greatest = λ m e. elim (cases_lt n m) [
    | inl above ↦ absurd (true≢false (ap is_lt (nat_cmp_is n m Less above) ∙ most m (from_true (contains nat_cmp old m) e)))
    | inr within ↦ within
  ];
  more_is = λ m. adds m ∙ ap (λ b. b || names_of (derived_at inputs derived n) m) (update.0 m ∙ ap (λ b. cond b false (contains nat_cmp old m)) (unsigned_tied n m));
}

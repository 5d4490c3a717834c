-- The work list is worked item by item: what is known of the rest is known of the whole.
use Rattle.std.proofs.Common.{◌≡◌, ◌≢◌, ◌∙◌, sym, ap, subst, ℕ, suc, ◌+◌, ◌-◌, ◌*◌, ◌<◌, ◌≤◌, ◌^◌, inl, inr, List, [], ◌∷◌, ◌++◌, append_assoc, length, get_or, drop, map, All, Some, None, Option, arith}
use Rattle.std.specs.List.{Contains}
use Rattle.std.proofs.lemmas.List.{append-nil, drop_more, drop_all, get_or-map, length-map, map-append}
use Rattle.sc_term.specs.declared.Clause.{Clause}
use Rattle.sc_term.specs.declared.Numbered.{Numbered}
use Rattle.sc_input_rules.specs.Problem.{Stated}
use Rattle.sc_input_rules.specs.declared.settings.Flags.{Flags}
use Rattle.sc_core_rules.specs.Book.{Book}
use Rattle.sc_core_rules.specs.Inference.{Inference}
use Rattle.sc_core_rules.specs.Sites.{Site, AreSites, Infers}
use Rattle.sc_core_rules.specs.WorkList.{Item, At, Again, Finish, Done, Found, TooMany, Works, done, too_many, nothing, found, goes_on}
use Rattle.sc_core_rules.proofs.FilterLaws.{in_second}
use Rattle.sc_term.proofs.ContainsLaws.{at_first}
use Rattle.sc_core_rules.proofs.SoundLaws.{at, each}
use Rattle.sc_core_sites.specs.Sites.{site_of}
use Rattle.sc_core_sites.specs.declared.site.Site.{Site as Told}
use Rattle.sc_core.specs.Items.{AreUsable, IsSiteOf, IsWorked}

-- ---- one item

module _ (problem : Stated) (turn : ℕ) (given : Numbered) (usable : List Numbered) (passed : Site → Type 0) (n : ℕ) (old mid : Book) (waiting joined : List ℕ) (item : Item) (front : List Item) where
  -- the numbers that come back stand at the end of the list
  at_the_end : (again : List ℕ) → joined ≡ waiting ++ again → front ++ map Again joined ≡ front ++ map Again waiting ++ map Again again
  at_the_end again e =
      ap (λ (ns : List ℕ). front ++ map Again ns) e ∙ ap (λ (items : List Item). front ++ items) (map-append Again waiting again)
      ∙ sym (append_assoc front (map Again waiting) (map Again again))

  goes : (new : Book) (finish : Finish) → IsWorked problem turn given usable passed old waiting item mid joined None
      → Works problem turn given usable passed n mid (front ++ map Again joined) new finish → Works problem turn given usable passed (suc n) old (item ∷ (front ++ map Again waiting)) new finish
  goes new finish (inl h) more =
      nothing h.0
      (subst (λ (b : Book). Works problem turn given usable passed n b (front ++ map Again waiting) new finish) h.1
      (subst (λ (ns : List ℕ). Works problem turn given usable passed n mid (front ++ map Again ns) new finish) h.2 more))
  goes new finish (inr h) more =
      goes_on h.1.made h.0 h.1.gives h.1.processes h.2
      (subst (λ (items : List Item). Works problem turn given usable passed n mid items new finish) (at_the_end h.0.again h.3) more)

  ends : (k : ℕ) → IsWorked problem turn given usable passed old waiting item mid joined (Some k) → Works problem turn given usable passed (suc n) old (item ∷ (front ++ map Again waiting)) mid (Found k)
  ends k h = found h.1.made h.0 h.1.gives h.1.processes h.2

-- ---- the state of the work

-- of these items, at most so many, the rest is left, of which so many may be worked: whatever the work of the rest
-- gives, the work of all gives
pub record Reaches (problem : Stated) (turn : ℕ) (given : Numbered) (usable : List Numbered) (passed : Site → Type 0) (most : ℕ) (start : Book) (all : List Item) (left : ℕ) (book : Book) (rest : List Item) : Type 0 where
  pub back : (new : Book) (finish : Finish) → Works problem turn given usable passed left book rest new finish → Works problem turn given usable passed most start all new finish

-- nothing is worked yet
pub starts : (problem : Stated) (turn : ℕ) (given : Numbered) (usable : List Numbered) (passed : Site → Type 0) (most : ℕ) (book : Book) (all : List Item)
    → Reaches problem turn given usable passed most book all most book all
starts problem turn given usable passed most book all = record { back = λ new finish h. h }

-- two clauses more for each item have numbers
pub still_few : (before after : Stated) (old new : Book) (left : ℕ) → length before.inputs + length old.derived + 2 * left + 2 < 2 ^ 32 → left ≢ 0 → after ≡ before
    → length new.derived ≤ length old.derived + 2 → length after.inputs + length new.derived + 2 * (left - 1) + 2 < 2 ^ 32
still_few before after old new left few some same two = let inputs : length after.inputs ≡ length before.inputs = ap (λ (p : Stated). length p.inputs) same in omega (arith, few, some, two, inputs)

module _ {problem : Stated} {turn : ℕ} {given : Numbered} {usable : List Numbered} {passed : Site → Type 0} {most : ℕ} {start : Book} {all : List Item} {left : ℕ} {book : Book} {rest : List Item}
    (going : Reaches problem turn given usable passed most start all left book rest) where
  abbrev Given : Book → Finish → Type 0
  Given new finish = Works problem turn given usable passed most start all new finish

  pub all_done : rest ≡ [] → Given book Done
  all_done none = going.back book Done (subst (λ (items : List Item). Works problem turn given usable passed left book items book Done) (sym none) done)

  pub goes_to : (items : List Item) → rest ≡ items → (other : Stated) → other ≡ problem → (new : Book) (finish : Finish) → Works other turn given usable passed left book items new finish → Given new finish
  goes_to items e other same new finish h =
      going.back new finish
      (subst (λ (p : Stated). Works p turn given usable passed left book rest new finish) same
      (subst (λ (items : List Item). Works other turn given usable passed left book items new finish) (sym e) h))

  module _ (item : Item) (front : List Item) (waiting : List ℕ) (opened : rest ≡ item ∷ (front ++ map Again waiting)) where
    pub one_too_many : left ≡ 0 → Given book TooMany
    one_too_many none = going.back book TooMany
        (subst (λ (items : List Item). Works problem turn given usable passed left book items book TooMany) (sym opened)
        (subst (λ (n : ℕ). Works problem turn given usable passed n book (item ∷ (front ++ map Again waiting)) book TooMany) (sym none) too_many))

    module _ (some : left ≢ 0) (other : Stated) (same : other ≡ problem) (new : Book) (joined : List ℕ) (told : Option ℕ)
        (worked : IsWorked other turn given usable passed book waiting item new joined told) where
      counted : suc (left - 1) ≡ left
      counted = omega (arith, some)

      worked_as : (outcome : Option ℕ) → told ≡ outcome → IsWorked problem turn given usable passed book waiting item new joined outcome
      worked_as outcome e =
          subst (λ (o : Option ℕ). IsWorked problem turn given usable passed book waiting item new joined o) e
          (subst (λ (p : Stated). IsWorked p turn given usable passed book waiting item new joined told) same worked)

      -- the work of the rest after this one
      opens : (last : Book) (finish : Finish) → Works problem turn given usable passed (suc (left - 1)) book (item ∷ (front ++ map Again waiting)) last finish → Given last finish
      opens last finish h = going.back last finish
          (subst (λ (items : List Item). Works problem turn given usable passed left book items last finish) (sym opened)
          (subst (λ (n : ℕ). Works problem turn given usable passed n book (item ∷ (front ++ map Again waiting)) last finish) counted h))

      pub one_found : (k : ℕ) → told ≡ Some k → Given new (Found k)
      one_found k e = opens new (Found k) (ends problem turn given usable passed (left - 1) book new waiting joined item front k (worked_as (Some k) e))

      pub one_worked : told ≡ None → Reaches problem turn given usable passed most start all (left - 1) new (front ++ map Again joined)
      one_worked e = record { back = λ last finish more. opens last finish (goes problem turn given usable passed (left - 1) book new waiting joined item front last finish (worked_as None e) more) }

-- ---- the sites

-- the sites from number i on, and the numbers that wait
abbrev pub items_from : List Site → ℕ → List ℕ → List Item
items_from sites i waiting = map At (drop i sites) ++ map Again waiting

pub none_waits : (sites : List Site) (waiting : List ℕ) → waiting ≡ [] → map At sites ≡ items_from sites 0 waiting
none_waits sites waiting e = sym (append-nil (map At sites)) ∙ ap (λ (ns : List ℕ). map At sites ++ map Again ns) (sym e)

pub sites_done : (sites : List Site) (i : ℕ) (waiting : List ℕ) → length sites ≤ i → items_from sites i waiting ≡ map Again waiting
sites_done sites i waiting long = ap (λ (rest : List Site). map At rest ++ map Again waiting) (drop_all i sites long)

-- the site stands there
pub record IsThere (sites : List Site) (i : ℕ) (site : Site) : Type 0 where
  pub less : i < length sites
  pub here : site ≡ get_or sites i site

-- as the value tells it
pub is_there : (told xs : List Told) (i : ℕ) (x : Told) → xs ≡ told → i < length xs → x ≡ get_or xs i x → IsThere (map site_of told) i (site_of x)
is_there told xs i x e less here =
    let within : i < length told = subst (λ (ys : List Told). i < length ys) e less in
    let long = length-map told site_of in
    record {
      less = omega (arith, within, long);
      here = ap site_of (here ∙ ap (λ (ys : List Told). get_or ys i x) e) ∙ sym (get_or-map site_of told i x (site_of x) within);
    }

module _ {sites : List Site} {i : ℕ} {site : Site} (there : IsThere sites i site) where
  pub site_opened : (waiting : List ℕ) → items_from sites i waiting ≡ At site ∷ items_from sites (i + 1) waiting
  site_opened waiting = ap (λ (rest : List Site). map At rest ++ map Again waiting) (drop_more sites i site there.less ∙ ap (λ (s : Site). s ∷ drop (i + 1) sites) (sym there.here))

  -- it is a site of the given clause
  pub one_site : (clauses : List Clause) (given : Numbered) (usable : List Numbered) → AreUsable clauses given usable
      → (flags : Flags) (limit : ℕ) → AreSites flags given usable limit sites → IsSiteOf clauses given usable site
  one_site clauses given usable are_usable flags limit are = record {
    are_usable = are_usable;
    inference = subst (λ (s : Site). (j : Inference) × Infers given usable s j) (sym there.here) (are.only i site there.less).1;
  }

-- ---- the numbers that wait

-- what is left of the list, where a number is taken from those that wait
pub number_opened : (old : List ℕ) (n : ℕ) (waiting : List ℕ) → old ≡ n ∷ waiting → map Again old ≡ Again n ∷ ([] ++ map Again waiting)
number_opened old n waiting e = ap (map Again) e

-- it has a clause, and so have the others
pub first_has : (Q : ℕ → Type 0) (old : List ℕ) (n : ℕ) (waiting : List ℕ) → old ≡ n ∷ waiting → All Q old → Q n
first_has Q old n waiting e all = at Q old n all (subst (λ (ns : List ℕ). Contains ns n) (sym e) (at_first n waiting))

pub others_have : (Q : ℕ → Type 0) (old : List ℕ) (n : ℕ) (waiting : List ℕ) → old ≡ n ∷ waiting → All Q old → All Q waiting
others_have Q old n waiting e all =
    each Q waiting (λ m there. at Q old m all (subst (λ (ns : List ℕ). Contains ns m) (sym e) (in_second m (n ∷ []) waiting there)))

-- none waits where none can be taken
pub none_taken : (old new : List ℕ) → old ≡ new → new ≡ drop 1 old → old ≡ []
none_taken [] new e f = λ i. []
none_taken (n ∷ ns) new e f = let long : length (n ∷ ns) ≡ length ns = ap length (e ∙ f) in absurd (omega (arith, long))

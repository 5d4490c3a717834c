-- What the calls of a world change.
use Rattle.std.proofs.Common.{◌≡◌, ◌∙◌, sym, ap, subst, refl, ℕ, ◌-◌, ◌<◌, ◌≤◌, ◌^◌, inr, List, [], ◌∷◌, ◌++◌, length, length-append, replicate, get_or, take, Option, Some, None, Bool, true, false, arith}
use Rattle.std.specs.Prelude.{Result, Ok, Err, OnOk, OnErr, IsSome, IsSomeAnd}
use Rattle.std.proofs.lemmas.List.{take_all, take-append-le, length-take-le}
use Rattle.std.proofs.lemmas.List.Elements.{All-set, All-replicate}
use Rattle.std.proofs.lemmas.Option.{slice_get-get_or}
use Rattle.sc_term.specs.Numbering.{numbered, with_element}
use Rattle.sc_input_rules.specs.Problem.{Stated}
use Rattle.sc_interp.specs.Versions.{ClaimedStructure}
use Rattle.sc_core_rules.specs.declared.row.Outcome.{Outcome}
use Rattle.sc_core_rules.specs.Book.{Book}
use Rattle.sc_core_rules.specs.Start.{Starts}
use Rattle.sc_core_rules.specs.Selection.{Seen}
use Rattle.sc_core_rules.specs.Turn.{Turns}
use Rattle.sc_core_rules.specs.Run.{IsPrefixOf}
use Rattle.sc_core_laws.specs.TrueRows.{IsFrontOf}
use Rattle.sc_core.specs.State.{ProverState, at_start}
use Rattle.sc_guide.specs.Guided.{grown}
use Rattle.sc_world.specs.Events.{Look, Turn, Happens}
use Rattle.sc_world.specs.Kept.{IsMade, AreShort}
use Rattle.sc_world.specs.World.{WorldState, machine_of, world_of, SeesUpTo, SeesMore, IsWorld}
use Rattle.sc_world.proofs.WorldFronts.{nothing_front, front_of, as_many, numbered_front, grow_published, grow_seen, grown_from}
use Rattle.sc_world.proofs.WorldLaws.{start_made, more_published, more_seen, turn_made}
use Rattle.sc_world.proofs.WorldSight.{grown_is, numbered_at}

-- ---- answers

pub by_answer : {T : Type 0} {E : Type 0} {P : Type 0} (r : Result T E) → OnOk r P → OnErr r P → P
by_answer (Ok x) good bad = good
by_answer (Err e) good bad = bad

-- what holds where the answer is Ok holds of what is whole
pub where_whole : {T : Type 0} {E : Type 0} {P : Type 0} (r : Result T E) (w : Bool) → OnOk r P → OnErr r (w ≡ false) → w ≡ true → P
where_whole (Ok x) w good bad whole = good
where_whole (Err e) w good bad whole = let never : false ≡ true = sym bad ∙ whole in absurd cc

pub some_is : {X : Type 0} (P : X → Type 0) (o : Option X) (x : X) → o ≡ Some x → P x → IsSomeAnd o P
some_is P o x e h = subst (λ q. IsSomeAnd q P) (sym e) h

-- ---- new

pub new_world : (problem : Stated) (lists : ℕ) (published : Seen) (prover : ProverState) → published ≡ replicate lists []
    → ((book : Book) × (goal : Option ℕ) × Starts problem book goal × (prover ≡ at_start problem lists book goal)) → IsWorld published prover
new_world problem lists published prover none (book, goal, starts, e) =
    subst (λ (seen : Seen). IsWorld seen prover) (sym none) (subst (IsWorld (replicate lists [])) (sym e) (record {
      prefixes = nothing_front lists;
      short = All-replicate (λ (versions : List ClaimedStructure). length versions ≤ 2 ^ 31) lists [] (omega arith);
      made = λ _. start_made problem book goal (replicate lists []) (replicate lists []) starts;
    }))

-- ---- publish

-- whether it grew or not
pub either_way : {T : Type 0} {E : Type 0} (P : Seen → Type 0) (r : Result T E) (published shown after : Seen) (f : ℕ) (v : ClaimedStructure) → OnOk r (after ≡ grown shown f v) → OnErr r (after ≡ shown)
    → shown ≡ published → P (grown published f v) → P published → P after
either_way P (Ok x) published shown after f v good bad is more same = subst P (sym (good ∙ ap (λ (lists : Seen). grown lists f v) is)) more
either_way P (Err e) published shown after f v good bad is more same = subst P (sym (bad ∙ is)) same

-- the list of the finder, by its place from 0
pub list_at : (published : Seen) (f : ℕ) (versions : List ClaimedStructure) → 1 ≤ f → f ≤ length published → versions ≡ get_or published (f - 1) versions → numbered published f ≡ Some versions
list_at published f versions some there is =
    numbered_at published f versions some (slice_get-get_or published (f - 1) versions (omega (arith, some, there)) ∙ ap Some (sym is))

-- a front of the lists, however they are named
pub front_by : (after published now : Seen) → published ≡ now → IsFrontOf after published → IsFrontOf after now
front_by after published now e h = subst (IsFrontOf after) e h

-- what is said of it by its number
pub said_of : (P : List ClaimedStructure → Type 0) (published : Seen) (f : ℕ) (versions : List ClaimedStructure) → numbered published f ≡ Some versions → IsSomeAnd (numbered published f) P → P versions
said_of P published f versions e h = subst (λ (o : Option (List ClaimedStructure)). IsSomeAnd o P) e h

module _ (published : Seen) (prover : ProverState) (f : ℕ) (versions : List ClaimedStructure) (v : ClaimedStructure) (there : numbered published f ≡ Some versions) where
  -- the published lists only grow
  pub publish_grows : IsFrontOf (grown published f v) published
  publish_grows =
      subst (λ (lists : Seen). IsFrontOf lists published) (sym (grown_is published f versions v there)) (grown_from published f versions (versions ++ v ∷ []) there (v ∷ [], refl))

  pub publish_world : length versions < 2 ^ 31 → IsWorld published prover → IsWorld (grown published f v) prover
  publish_world few h = record {
    prefixes = subst (λ (lists : Seen). IsFrontOf lists prover.seen) (sym (grown_is published f versions v there))
        (grow_published prover.seen published f versions (versions ++ v ∷ []) h.prefixes there (v ∷ [], refl));
    short = subst AreShort (sym (grown_is published f versions v there))
        (All-set (λ (vs : List ClaimedStructure). length vs ≤ 2 ^ 31) published (f - 1) (versions ++ v ∷ []) (let more = length-append versions (v ∷ []) in omega (arith, more, few)) h.short);
    made = λ whole. more_published prover.problem (machine_of (world_of published prover)) (grown published f v) publish_grows h.prefixes (h.made whole);
  }

-- ---- look

longer : (m n : ℕ) (xs : List ClaimedStructure) → m ≤ n → n ≤ length xs → IsPrefixOf (take m xs) (take n xs)
longer m n xs h within =
    let first : take m (take n xs) ≡ take m xs = sym (take-append-le m (take n xs) (front_of n xs).0 long) ∙ ap (take m) (front_of n xs).1 in
    let front = front_of m (take n xs) in
    (front.0, ap (λ (ys : List ClaimedStructure). ys ++ front.0) (sym first) ∙ front.1)
  where
    long : m ≤ length (take n xs)
    long = by (length (take n xs)) (length-take-le n xs within)
      where
        by : (k : ℕ) → k ≡ n → m ≤ k
        by k e = omega (arith, e, h)

-- what is seen of a list, by its length
pub seen_is : (seen published : Seen) (f : ℕ) (versions before : List ClaimedStructure) → IsFrontOf published seen → numbered published f ≡ Some versions → numbered seen f ≡ Some before
    → (numbered seen f ≡ Some (take (length before) versions)) × (length before ≤ length versions)
seen_is seen published f versions before front e k =
    let is = numbered_front seen published f versions front e in
    let some : Some (is.0) ≡ Some before = sym is.1 ∙ k in
    let same : is.0 ≡ before = cc in
    let begins : IsPrefixOf before versions = subst (λ (vs : List ClaimedStructure). IsPrefixOf vs versions) same is.2 in
    let taken : take (length before) versions ≡ before =
    ap (take (length before)) (sym begins.1) ∙ take-append-le (length before) before begins.0 (omega arith) ∙ take_all (length before) before (omega arith) in
    let long = ap (λ (vs : List ClaimedStructure). length vs) begins.1 in
    let sum = length-append before begins.0 in
    (k ∙ ap Some (sym taken), omega (arith, long, sum))

-- the list of a finder, and how much of it is seen
pub record Sight (published seen : Seen) (f from : ℕ) (versions : List ClaimedStructure) : Type 0 where
  pub there : numbered published f ≡ Some versions
  pub first : numbered seen f ≡ Some (take from versions)
  pub within : from ≤ length versions

pub sight_of : (published seen shown : Seen) (f from : ℕ) (versions all before : List ClaimedStructure) → IsFrontOf published seen → 1 ≤ f → f ≤ length published
    → all ≡ get_or published (f - 1) all → versions ≡ all → shown ≡ seen → before ≡ get_or shown (f - 1) before → from ≡ length before → Sight published seen f from versions
sight_of published seen shown f from versions all before front some there all_is same shown_is before_is long =
    let many = as_many seen published front in
    let in_shown = ap (λ (lists : Seen). length lists) shown_is in
    let list = list_at published f all some there all_is ∙ ap Some (sym same) in
    let seen_list = ap (λ (lists : Seen). numbered lists f) (sym shown_is) ∙ list_at shown f before some (omega (arith, there, many, in_shown)) before_is in
    let is = seen_is seen published f versions before front list seen_list in
    record {
      there = list;
      first = subst (λ (n : ℕ). numbered seen f ≡ Some (take n versions)) (sym long) is.0;
      within = subst (λ (n : ℕ). n ≤ length versions) (sym long) is.1;
    }

module _ (published : Seen) (prover new : ProverState) (f from n : ℕ) (versions : List ClaimedStructure) (there : numbered published f ≡ Some versions)
    (first : numbered prover.seen f ≡ Some (take from versions)) (more : from ≤ n) (within : n ≤ length versions) (sees : SeesUpTo f versions n prover new) where
  pub look_world : IsWorld published prover → IsWorld published new
  look_world h = subst (IsWorld published) (sym sees) (record {
    prefixes = grow_seen prover.seen published f versions (take n versions) h.prefixes there (front_of n versions);
    short = h.short;
    made = λ whole. more_seen prover.problem (machine_of (world_of published prover)) (with_element prover.seen f (take n versions))
        (grown_from prover.seen f (take from versions) (take n versions) first (longer from n versions more within)) (h.made whole);
  })

  pub look_refused : (now : WorldState) → world_of published prover ≡ now → SeesMore f now (world_of published new)
  look_refused now view = subst (λ (w : WorldState). SeesMore f w (world_of published new)) view
      (some_is _ (numbered published f) versions there
      (some_is _ (numbered prover.seen f) (take from versions) first
      (take n versions, longer from n versions more within, front_of n versions, ap (world_of published) sees)))

pub look_happens : (published : Seen) (prover new : ProverState) (f : ℕ) (versions : List ClaimedStructure) (now : WorldState) → world_of published prover ≡ now → numbered published f ≡ Some versions
    → SeesUpTo f versions (length versions) prover new → Happens now.problem (machine_of now) (Look f) (machine_of (world_of published new))
look_happens published prover new f versions now view there sees =
    subst (λ (w : WorldState). Happens w.problem (machine_of w) (Look f) (machine_of (world_of published new))) view
    (some_is _ (numbered published f) versions there
    (ap (λ (p : ProverState). machine_of (world_of published p)) sees
    ∙ ap (λ (vs : List ClaimedStructure). record { published = published; seen = with_element prover.seen f vs; run = prover.run }) (take_all (length versions) versions (omega arith))))

pub look_answered : {T : Type 0} {E : Type 0} (r : Result T E) (published : Seen) (prover new : ProverState) (f from : ℕ) (versions : List ClaimedStructure) → Sight published prover.seen f from versions
    → OnOk r (SeesUpTo f versions (length versions) prover new) → OnErr r ((n : ℕ) × (from ≤ n) × (n ≤ length versions) × SeesUpTo f versions n prover new) → IsWorld published prover → IsWorld published new
look_answered (Ok x) published prover new f from versions s all some h = look_world published prover new f from (length versions) versions s.there s.first s.within (omega arith) all h
look_answered (Err e) published prover new f from versions s all some h = look_world published prover new f from some.0 versions s.there s.first some.1 some.2 some.3 h

-- ---- turn

module _ (published : Seen) (prover turned : ProverState) (going : prover.run.ended ≡ None) (seen : turned.seen ≡ prover.seen) where
  none : (o : Option Outcome) → o ≡ None → ¬ IsSome o
  none o e some = let bad : ◌≡◌ {A = Bool} false true = subst IsSome e some in cc

  pub turn_happens : (now : WorldState) → world_of published prover ≡ now → Turns prover.problem prover.run prover.seen turned.run → Happens now.problem (machine_of now) Turn (machine_of (world_of published turned))
  turn_happens now view turns = subst (λ (w : WorldState). Happens w.problem (machine_of w) Turn (machine_of (world_of published turned))) view
      (turned.run, inr (none prover.run.ended going, turns), λ i. record { published = published; seen = seen i; run = turned.run })

  pub turn_world : prover.whole ≡ true → turned.problem ≡ prover.problem → (turned.whole ≡ true → Turns prover.problem prover.run prover.seen turned.run) → IsWorld published prover → IsWorld published turned
  turn_world whole problem turns h = record {
    prefixes = subst (IsFrontOf published) (sym seen) h.prefixes;
    short = h.short;
    made = λ is_whole.
        subst (λ (p : Stated). IsMade p (machine_of (world_of published turned))) (sym problem)
        (subst (λ (s : Seen). IsMade prover.problem (record { published = published; seen = s; run = turned.run })) (sym seen)
        (turn_made prover.problem (machine_of (world_of published prover)) h.prefixes (h.made whole) going turned.run (turns is_whole)));
  }

-- A finder goes from candidate to candidate, and has found what it published where it ends.
use Rattle.std.proofs.Common.{◌≡◌, ◌≢◌, ◌∙◌, sym, ap, subst, refl, ℕ, ◌+◌, ◌<◌, ◌≤◌, true, false, List, [], ◌∷◌, ◌++◌, length, Option, Some, None, arith}
use Rattle.std.specs.Prelude.{◌↔◌, IsTrue}
use Rattle.std.proofs.lemmas.List.{length-append, length-drop}
use Rattle.sc_term.specs.declared.symbol.Symbol.{Symbol}
use Rattle.sc_term.specs.declared.Numbered.{Numbered}
use Rattle.sc_input_rules.specs.Problem.{Stated}
use Rattle.sc_interp.specs.Structure.{AreTablesOf}
use Rattle.sc_interp.specs.Versions.{ClaimedStructure}
use Rattle.sc_shelf.specs.State.{PressState, listed, is_closed, new_press}
use Rattle.sc_text_run_rules.specs.declared.run.FinderEnd.TheVariants.{Done}
use Rattle.sc_worker.specs.declared.plan.Plan.{Plan}
use Rattle.sc_worker.specs.declared.worked.Skip.{Skip}
use Rattle.sc_worker.specs.FinderList.{candidates_of, versions_of}
use Rattle.sc_worker.specs.Choosing.{Choice, at_first, IsTooWide, IsJoined, IsSkipped}
use Rattle.sc_worker.specs.Finding.{IsFound}
use Rattle.sc_worker.specs.Underway.{HasCome, IsReady, IsUnderway, HasAnswer, IsOneMore}
use Rattle.sc_worker.proofs.FinderLaws.{versions_append}
use Rattle.sc_worker.proofs.ChooserLaws.{work_at_first, IsAlong, along_joined, along_skipped}

-- ---- one candidate

-- a version that joins is over the problem's symbols
pub joined_over : (symbols : List Symbol) (old new : Choice) (v : ClaimedStructure) → symbols ≡ old.problem.symbols → IsJoined old new v → AreTablesOf symbols v.tables
joined_over symbols old new v same h =
    subst (λ (ss : List Symbol). AreTablesOf ss v.tables) (sym same)
    (subst (λ (u : ClaimedStructure). AreTablesOf old.problem.symbols u.tables) (sym h.version) h.first.tables.over)

-- one candidate less is left, of the same problem
record IsOneLess (old new : Choice) : Type 0 where
  problem : new.problem ≡ old.problem
  fewer : length new.left + 1 ≡ length old.left

one_less : (old new : Choice) (candidate : Numbered) (others : List Numbered) → old.left ≡ candidate ∷ others → new.left ≡ others → length new.left + 1 ≡ length old.left
one_less old new candidate others next left = let a = ap length next in let b = ap length left in omega (arith, a, b)

less_of : (old new : Choice) (answer : Option ClaimedStructure) → HasAnswer old new answer → IsOneLess old new
less_of old new (Some v) h = record {
  problem = ap (λ (c : Choice). c.problem) h.goes_on;
  fewer = one_less old new h.candidate h.others h.next (ap (λ (c : Choice). c.left) h.goes_on);
}
less_of old new None h = record {
  problem = ap (λ (c : Choice). c.problem) h.1.goes_on;
  fewer = one_less old new h.1.candidate h.1.others h.1.next (ap (λ (c : Choice). c.left) h.1.goes_on);
}

ready_on : (old new : Choice) (before after : PressState) (answer : Option ClaimedStructure) → IsReady old before → HasAnswer old new answer → length (listed after) ≤ length (listed before) + 1
    → after.symbols ≡ before.symbols → after.whole ≡ true → is_closed after ≡ false → IsReady new after
ready_on old new before after answer r h long symbols whole unclosed =
    let less = less_of old new answer h in record {
      symbols = symbols ∙ r.symbols ∙ ap (λ (p : Stated). p.symbols) (sym less.problem);
      whole = whole;
      unclosed = unclosed;
      few = let was = r.few in let fewer = less.fewer in omega (arith, was, fewer, long);
    }

-- the next candidate joined, and its version was published
pub one_joined : (old new : Choice) (before after : PressState) (v : ClaimedStructure) → IsReady old before → (¬ IsTooWide old) × IsJoined old new v → listed after ≡ listed before ++ v ∷ []
    → after.symbols ≡ before.symbols → after.whole ≡ true → is_closed after ≡ false → IsOneMore old new before after
one_joined old new before after v r h list symbols whole unclosed = record {
  answer = Some v;
  narrow = h.0;
  has = h.1;
  published = list;
  ready = ready_on old new before after (Some v) r h.1 (let long = ap length list ∙ length-append (listed before) (v ∷ []) in omega (arith, long)) symbols whole unclosed;
}

append_none : {X : Type 0} (xs : List X) → xs ≡ xs ++ []
append_none [] = refl
append_none (x ∷ xs) = ap (λ l. x ∷ l) (append_none xs)

-- the next candidate was skipped
pub one_skipped : (old new : Choice) (before : PressState) (reason : Skip) → IsReady old before → (¬ IsTooWide old) × IsSkipped old new reason → IsOneMore old new before before
one_skipped old new before reason r h = record {
  answer = None;
  narrow = h.0;
  has = (reason, h.1);
  published = append_none (listed before);
  ready = ready_on old new before before None r (reason, h.1) (omega arith) refl r.whole r.unclosed;
}

-- ---- from candidate to candidate

pub underway_at_first : (first : Choice) (press : PressState) → press ≡ new_press first.problem.symbols → length first.left ≤ 128 → IsUnderway first first press
underway_at_first first press new few = record {
  ready = record {
    symbols = ap (λ (p : PressState). p.symbols) new;
    whole = ap (λ (p : PressState). p.whole) new;
    unclosed = ap is_closed new;
    few = let none = ap (λ (p : PressState). length (listed p)) new in omega (arith, none, few);
  };
  problem = refl;
  fewer = omega arith;
  came = λ plan f is. record { worked = 0; answers = []; choice = is; work = work_at_first first.problem plan f; published = ap listed new };
}

module _ (problem : Stated) (plan : Plan) (f : ℕ) (old new : Choice) (versions later : List ClaimedStructure) (h : HasCome problem plan f old versions) (narrow : ¬ IsTooWide old) where
  along : IsAlong problem plan f old h.worked h.answers
  along = record { choice_is = h.choice; work = h.work }

  on_with : (answer : Option ClaimedStructure) → IsAlong problem plan f new (h.worked + 1) (h.answers ++ answer ∷ []) → later ≡ versions ++ versions_of (answer ∷ []) → HasCome problem plan f new later
  on_with answer is list = record {
    worked = h.worked + 1;
    answers = h.answers ++ answer ∷ [];
    choice = is.choice_is;
    work = is.work;
    published = list ∙ ap (λ (l : List ClaimedStructure). l ++ versions_of (answer ∷ [])) h.published ∙ sym (versions_append h.answers (answer ∷ []));
  }

  came_on : (answer : Option ClaimedStructure) → HasAnswer old new answer → later ≡ versions ++ versions_of (answer ∷ []) → HasCome problem plan f new later
  came_on (Some v) has list = on_with (Some v) (along_joined problem plan f h.worked h.answers old new v along (narrow, has)) list
  came_on None has list = on_with None (along_skipped problem plan f h.worked h.answers old new has.0 along (narrow, has.1)) list

pub underway_on : (first old new : Choice) (before after : PressState) → IsUnderway first old before → IsOneMore old new before after → IsUnderway first new after
underway_on first old new before after u more =
    let less = less_of old new more.answer more.has in record {
      ready = more.ready;
      problem = less.problem ∙ u.problem;
      fewer = let was = u.fewer in let one = less.fewer in omega (arith, was, one);
      came = λ plan f is. came_on first.problem plan f old new (listed before) (listed after) (u.came plan f is) more.narrow more.answer more.has more.published;
    }

-- so there are fewer left than there were at first
pub fewer_on : (first old new : Choice) (before after : PressState) → IsUnderway first old before → IsOneMore old new before after → length new.left < length first.left
fewer_on first old new before after u more = let was = u.fewer in let one = (less_of old new more.answer more.has).fewer in omega (arith, was, one)

-- ---- the end

module _ (problem : Stated) (plan : Plan) (f : ℕ) (now : Choice) (versions : List ClaimedStructure) (h : HasCome problem plan f now versions) where
  all_worked : now.left ≡ [] → h.worked ≡ length (candidates_of problem plan)
  all_worked none =
      let long = ap (λ (c : Choice). length c.left) h.choice ∙ length-drop h.worked (candidates_of problem plan) in
      let zero = ap length none in
      let within = h.work.within in
      omega (arith, long, zero, within)

  has_done : now.left ≡ [] → IsFound problem plan f Done versions
  has_done none = record { worked = h.worked; answers = h.answers; work = h.work; fits = all_worked none; published = h.published }

-- where none is left, all candidates were worked
pub found_done : (first now : Choice) (press : PressState) → IsUnderway first now press → (plan : Plan) (f : ℕ) → first ≡ at_first first.problem plan f → now.left ≡ []
    → IsFound first.problem plan f Done (listed press)
found_done first now press u plan f is = has_done first.problem plan f now (listed press) (u.came plan f is)

none_left : {X : Type 0} (xs : List X) → ¬ (xs ≢ []) → xs ≡ []
none_left [] not = refl
none_left (x ∷ xs) not = absurd (not (λ e. absurd cc))

-- where it is told that none is left, there is none
pub none_where : {X : Type 0} (xs : List X) → (IsTrue false ↔ (xs ≢ [])) → xs ≡ []
none_where xs tells = none_left xs (λ more. let is = tells.1 more in absurd (cc is))

-- What a walk finds in which variables of either side may take terms.
use Rattle.std.proofs.Common.{inl, inr, ◌≡◌, ◌∙◌, sym, ap, subst, refl, ℕ, zero, suc, ◌+◌, ◌<◌, ◌≤◌, ◌⊎◌, ◌^◌, ◌↔◌, List, [], ◌∷◌, ◌++◌, append_assoc, length, slice_get, get_or, Contains, IsSomeAnd, Bool, Some, None, IsTrue, nat_le, drop, arith}
use Rattle.std.proofs.lemmas.Bool.{leb-true, le-leb}
use Rattle.std.proofs.lemmas.List.{append-nil, drop_all, length-drop}
use Rattle.std.proofs.lemmas.List.Elements.{Contains-push, Contains-push_cases, Contains-append_left, Contains-append_right}
use Rattle.std.proofs.lemmas.Option.{slice_get_read}
use Rattle.sc_index.specs.declared.crossing.Spot.{Spot}
use Rattle.sc_index.specs.declared.flat.Key.{Key}
use Rattle.sc_index.specs.declared.flat.Cell.{Cell}
use Rattle.sc_index.specs.declared.tree.Edge.{Edge}
use Rattle.sc_index.specs.declared.tree.Node.{Node}
use Rattle.sc_index.specs.declared.walking.Task.{Task}
use Rattle.sc_index.specs.Meeting.{Moves, Meets}
use Rattle.sc_index.specs.Nodes.{HasEdge, Reaches, Holds}
use Rattle.sc_index.specs.Walking.{Extends, HasTask, Follows, IsDone, TakesUp, IsUnderway, FindsAll}
use Rattle.sc_index.proofs.NodeLaws.{of_node}

-- a path that passes over terms is at least as long as they are many
meets_long : (s a : Bool) (ks : List Key) (p : ℕ) (cs : List Cell) → Meets s a ks p cs → p ≤ length ks
meets_long s a [] p cs h = omega (arith, h.0)
meets_long s a (k ∷ ks) zero cs h = omega arith
meets_long s a (k ∷ ks) (suc p) cs h = omega (arith, h.2.0, meets_long s a ks h.0 h.1 h.3)

-- a row that has ended leads nowhere
pub no_move : (s a : Bool) (k : Key) (p after : ℕ) (query to : List Cell) (at : ℕ) → p ≡ 0 → length query ≤ at → ¬ Moves s a k p (drop at query) after to
no_move s a k p after query to at none past m = subst (λ cs. Moves s a k 0 cs after to) (drop_all at query past) (subst (λ q. Moves s a k q (drop at query) after to) none m)

-- the row ends where no term is to be passed over and nothing is left
pub ends_where : (query : List Cell) (at p : ℕ) → p ≡ 0 → IsTrue (nat_le (length query) at) ↔ ((p ≡ 0) × (drop at query ≡ []))
ends_where query at p none = (
  λ is. (none, drop_all at query (leb-true (length query) at is)),
  λ both. le-leb (length query) at (omega (arith, length-drop at query, ap (λ l. length l) both.1)),
)

-- ---- lists that grow

extends_not : {X : Type 0} (xs : List X) → Extends xs xs
extends_not xs = ([], sym (append-nil xs))

extends_push : {X : Type 0} (old mid : List X) (x : X) → Extends old mid → Extends old (mid ++ x ∷ [])
extends_push old mid x h = (h.0 ++ x ∷ [], ap (λ l. l ++ x ∷ []) h.1 ∙ append_assoc old h.0 (x ∷ []))

task_still : (query : List Cell) (old new : List Task) (n p : ℕ) (cells : List Cell) → Extends old new → HasTask query old n p cells → HasTask query new n p cells
task_still query old new n p cells more h = (h.0, subst (λ l. Contains l h.0) (sym more.1) (Contains-append_left old more.0 h.0 h.1), h.2, h.3, h.4)

front_read : {X : Type 0} (xs ys : List X) (i : ℕ) → i < length xs → slice_get (xs ++ ys) i ≡ slice_get xs i
front_read [] ys i less = absurd (omega arith)
front_read (x ∷ xs) ys zero less = refl
front_read (x ∷ xs) ys (suc i) less = front_read xs ys i (omega arith)

-- an element has a place
place_of : {X : Type 0} (xs : List X) (x : X) → Contains xs x → (i : ℕ) × (i < length xs) × (slice_get xs i ≡ Some x)
place_of [] x h = absurd (omega (arith, h.1))
place_of (y ∷ ys) x h = by h.0 h.1 h.2 (λ there. place_of ys x there)
  where
    by : (k : ℕ) → k < length (y ∷ ys) → get_or (y ∷ ys) k x ≡ x → (Contains ys x → (i : ℕ) × (i < length ys) × (slice_get ys i ≡ Some x)) → (i : ℕ) × (i < length (y ∷ ys)) × (slice_get (y ∷ ys) i ≡ Some x)
    by zero less is more = (0, less, ap Some is)
    by (suc k) less is more = let rest = more (k, omega (arith, less), is) in (suc rest.0, omega (arith, rest.1), rest.2)

split : (slot i : ℕ) → slot < i + 1 → (slot < i) ⊎ (slot ≡ i)
split zero zero less = inr refl
split zero (suc i) less = inl (omega arith)
split (suc slot) zero less = absurd (omega (arith, less))
split (suc slot) (suc i) less = elim (split slot i (omega (arith, less))) [ inl below ↦ inl (omega (arith, below)) | inr same ↦ inr (omega (arith, same)) ]

module _ (s a : Bool) (query : List Cell) where
  -- ---- the edges of a node, one after another

  pub follows_none : (p : ℕ) (cells : List Cell) (old : List Task) → Follows s a query [] p cells old old
  follows_none p cells old = record { extends = extends_not old; each = λ k c after to there m small. absurd (omega (arith, there.1)) }

  pub follows_more : (edges : List Edge) (e : Edge) (p : ℕ) (cells : List Cell) (spot : Spot) (old mid : List Task) → Follows s a query edges p cells old mid
      → ((after : ℕ) (to : List Cell) → Moves s a e.key p cells after to → after < 2 ^ 64 → (after ≡ spot.pending) × (to ≡ drop spot.at query))
      → Follows s a query (edges ++ e ∷ []) p cells old (mid ++ record { node = e.child; spot = spot } ∷ [])
  follows_more edges e p cells spot old mid h one =
      let task : Task = record { node = e.child; spot = spot } in
      record {
        extends = extends_push old mid task h.extends;
        each = λ k c after to there m small. elim (Contains-push_cases edges e (record { key = k; child = c }) there) [
          | inl early ↦ task_still query mid (mid ++ task ∷ []) c after to (task ∷ [], refl) (h.each k c after to early m small)
          | inr same ↦
              let goes = one after to (subst (λ j. Moves s a j p cells after to) (sym (ap (λ (x : Edge). x.key) same)) m) small in
              (task, Contains-push mid task, ap (λ (x : Edge). x.child) same, sym goes.0, sym goes.1)
        ];
      }

  pub follows_more_none : (edges : List Edge) (e : Edge) (p : ℕ) (cells : List Cell) (old mid : List Task) → Follows s a query edges p cells old mid
      → ((after : ℕ) (to : List Cell) → Moves s a e.key p cells after to → after < 2 ^ 64 → ⊥) → Follows s a query (edges ++ e ∷ []) p cells old mid
  follows_more_none edges e p cells old mid h none = record {
    extends = h.extends;
    each = λ k c after to there m small. elim (Contains-push_cases edges e (record { key = k; child = c }) there) [
      | inl early ↦ h.each k c after to early m small
      | inr same ↦ absurd (none after to (subst (λ j. Moves s a j p cells after to) (sym (ap (λ (x : Edge). x.key) same)) m) small)
    ];
  }

  module _ (nodes : List Node) where
    -- ---- one task

    pub takes_up_nowhere : (task : Task) (old : List Task) (found : List ℕ) → slice_get nodes task.node ≡ None → TakesUp s a nodes query task old old found found
    takes_up_nowhere task old found is = record {
      extends = extends_not old;
      kept = λ slot h. h;
      done = record {
        ends = λ none past slot h. absurd (subst (λ o. IsSomeAnd o (λ (y : Node). Contains y.slots slot)) is h);
        goes = λ k c after to e m small. absurd (subst (λ o. IsSomeAnd o (λ (y : Node). Contains y.edges (record { key = k; child = c }))) is e);
      };
    }

    pub takes_up_end : (task : Task) (node : Node) (old : List Task) (before after : List ℕ) → slice_get nodes task.node ≡ Some node → (task.spot.pending ≡ 0) × (drop task.spot.at query ≡ []) → after ≡ before ++ node.slots
        → TakesUp s a nodes query task old old before after
    takes_up_end task node old before after is end made = record {
      extends = extends_not old;
      kept = λ slot h. subst (λ l. Contains l slot) (sym made) (Contains-append_left before node.slots slot h);
      done = record {
        ends = λ none past slot h. subst (λ l. Contains l slot) (sym made) (Contains-append_right before node.slots slot (of_node (λ (y : Node). Contains y.slots slot) nodes task.node node is h));
        goes = λ k c rest to e m small. absurd (subst (λ row. Moves s a k 0 row rest to) end.1 (subst (λ q. Moves s a k q (drop task.spot.at query) rest to) end.0 m));
      };
    }

    pub takes_up_edges : (task : Task) (node : Node) (old new : List Task) (found : List ℕ) → slice_get nodes task.node ≡ Some node → ¬ ((task.spot.pending ≡ 0) × (drop task.spot.at query ≡ []))
        → Follows s a query node.edges task.spot.pending (drop task.spot.at query) old new → TakesUp s a nodes query task old new found found
    takes_up_edges task node old new found is more h = record {
      extends = h.extends;
      kept = λ slot there. there;
      done = record {
        ends = λ none past slot there. absurd (more (none, past));
        goes = λ k c after to e m small. h.each k c after to (of_node (λ (y : Node). Contains y.edges (record { key = k; child = c })) nodes task.node node is e) m small;
      };
    }

    -- ---- all tasks

    done_still : (t : Task) (old new : List Task) (before after : List ℕ) → Extends old new → ((slot : ℕ) → Contains before slot → Contains after slot) → IsDone s a nodes query old before t → IsDone s a nodes query new after t
    done_still t old new before after more kept h = record {
      ends = λ none past slot there. kept slot (h.ends none past slot there);
      goes = λ k c rest to e m small. task_still query old new c rest to more (h.goes k c rest to e m small);
    }

    pub underway_first : (found : List ℕ) → IsUnderway s a nodes query (record { node = 0; spot = record { at = 0; pending = 0 } } ∷ []) 0 found
    underway_first found =
        let task : Task = record { node = 0; spot = record { at = 0; pending = 0 } } in
        record {
          first = (task, (0, omega arith, refl), refl, refl, refl);
          done = λ i t less is. absurd (omega (arith, less));
        }

    pub underway_more : (task : Task) (old new : List Task) (next : ℕ) (before after : List ℕ) → IsUnderway s a nodes query old next before → next < length old → slice_get old next ≡ Some task
        → TakesUp s a nodes query task old new before after → IsUnderway s a nodes query new (next + 1) after
    underway_more task old new next before after h within is taken = record {
      first = task_still query old new 0 0 query taken.extends h.first;
      done = λ i t less there.
          let was : slice_get old i ≡ Some t = sym (front_read old taken.extends.0 i (omega (arith, less, within))) ∙ subst (λ l. slice_get l i ≡ Some t) taken.extends.1 there in
          elim (split i next less) [
            | inl below ↦ done_still t old new before after taken.extends taken.kept (h.done i t below was)
            | inr same ↦
                let one : Some task ≡ Some t = sym is ∙ ap (slice_get old) (sym same) ∙ was in
                subst (IsDone s a nodes query new after) (let e : task ≡ t = cc in e) taken.done
          ];
    }

    pub finds_all : (tasks : List Task) (next : ℕ) (found : List ℕ) → IsUnderway s a nodes query tasks next found → length tasks ≤ next → FindsAll s a nodes query found
    finds_all tasks next found h over ks m slot few reaches meets holds = by ks 0 0 query h.first few reaches meets
      where
        by : (ks : List Key) (n p : ℕ) (cells : List Cell) → HasTask query tasks n p cells → length ks < 2 ^ 64 → Reaches nodes n ks m → Meets s a ks p cells → Contains found slot
        by [] n p cells t few r me =
            let at = place_of tasks t.0 t.1 in
            (h.done at.0 t.0 (omega (arith, at.1, over)) at.2).ends (t.3 ∙ me.0) (t.4 ∙ me.1) slot (subst (λ j. Holds nodes j slot) (sym (t.2 ∙ r)) holds)
        by (k ∷ ks) n p cells t few r me =
            let at = place_of tasks t.0 t.1 in
            let edge = subst (λ j. HasEdge nodes j k r.0) (sym t.2) r.1 in
            let row = subst (λ cs. Moves s a k p cs me.0 me.1) (sym t.4) me.2 in
            let move = subst (λ q. Moves s a k q (drop t.0.spot.at query) me.0 me.1) (sym t.3) row in
            let next = (h.done at.0 t.0 (omega (arith, at.1, over)) at.2).goes k r.0 me.0 me.1 edge move (omega (arith, few, meets_long s a ks me.0 me.1 me.3)) in
            by ks r.0 me.0 me.1 next (omega (arith, few)) r.2 me.3

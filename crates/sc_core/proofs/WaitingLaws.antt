-- What is looked up among clauses of sos by number and weight.
use Rattle.std.proofs.Common.{◌≡◌, ◌≢◌, ◌∙◌, sym, ap, subst, refl, ℕ, zero, suc, ◌+◌, ◌<◌, ◌≤◌, ◌⊎◌, inl, inr, List, [], ◌∷◌, ◌++◌, length, get_or, map, take, drop, ◌^◌, Bool, true, false, cond, arith}
use Rattle.std.specs.List.{All, AllPairs, Contains}
use Rattle.std.proofs.lemmas.List.{drop_more, take-append-drop}
use Rattle.sc_term.specs.declared.Numbered.{Numbered}
use Rattle.sc_term.proofs.ContainsLaws.{first_or_later, at_first, later}
use Rattle.sc_input_rules.specs.Problem.{Stated}
use Rattle.sc_core_rules.specs.Book.{Book, next_number}
use Rattle.sc_core_rules.specs.Order.{IsBefore, IsLeast}
use Rattle.sc_core_rules.proofs.FilterLaws.{in_second}
use Rattle.sc_core_rules.proofs.OrderLaws.{first_before, tail_pairs}
use Rattle.sc_core_rules.proofs.SoundLaws.{at}
use Rattle.sc_core_laws.proofs.Counting.{below, Bears, Shrinks, has, below_falls}
use Rattle.sc_sos.specs.declared.sos.Weighed.{Weighed}
use Rattle.sc_sos.specs.Waiting.{ComesFirst, Waits}
use Rattle.sc_core.specs.Choice.{weighed}
use Rattle.sc_core.proofs.CountLaws.{count_all}

abbrev Differ : Numbered → Numbered → Type 0
Differ p q = p.number ≢ q.number

-- ---- weighed clauses

pub weighed_there : (ps : List Numbered) (w : Weighed) → Contains (map weighed ps) w → (p : Numbered) × Contains ps p × (weighed p ≡ w)
weighed_there [] w h = absurd (omega (arith, h.1))
weighed_there (p ∷ ps) w h = by (λ k. weighed_there ps w k) (first_or_later w (weighed p) (map weighed ps) h)
  where
    by : (Contains (map weighed ps) w → (q : Numbered) × Contains ps q × (weighed q ≡ w)) → (weighed p ≡ w) ⊎ Contains (map weighed ps) w
        → (q : Numbered) × Contains (p ∷ ps) q × (weighed q ≡ w)
    by rest (inl e) = (p, at_first p ps, e)
    by rest (inr k) = let found = rest k in (found.0, later found.0 p ps found.1, found.2)

pub weighed_in : (ps : List Numbered) (p : Numbered) → Contains ps p → Contains (map weighed ps) (weighed p)
weighed_in [] p h = absurd (omega (arith, h.1))
weighed_in (q ∷ ps) p h = by (λ k. weighed_in ps p k) (first_or_later p q ps h)
  where
    by : (Contains ps p → Contains (map weighed ps) (weighed p)) → (q ≡ p) ⊎ Contains ps p → Contains (weighed q ∷ map weighed ps) (weighed p)
    by rest (inl e) = subst (λ (x : Numbered). Contains (weighed q ∷ map weighed ps) (weighed x)) e (at_first (weighed q) (map weighed ps))
    by rest (inr k) = later (weighed p) (weighed q) (map weighed ps) (rest k)

-- the first of the weighed clauses is the least clause
pub first_clause : (order : Weighed → List ℕ) (P : Weighed → Type 0) (Q : Numbered → Type 0) (ps : List Numbered) (n : ℕ)
    → ((p : Numbered) → Contains ps p → P (weighed p) → Q p) → ((p : Numbered) → Contains ps p → Q p → P (weighed p))
    → ComesFirst order P (map weighed ps) n → (p : Numbered) × (p.number ≡ n) × IsLeast (λ (q : Numbered). order (weighed q)) Q ps p
first_clause order P Q ps n to from h = (
  there.0,
  ap (λ (w : Weighed). w.number) there.2 ∙ h.1,
  record {
    listed = there.1;
    holds = to there.0 there.1 (subst P (sym there.2) h.2.holds);
    least = λ q k holds. subst (λ (w : Weighed). ¬ IsBefore (order (weighed q)) (order w)) (sym there.2) (h.2.least (weighed q) (weighed_in ps q k) (from q k holds));
  },
)
  where
    there : (p : Numbered) × Contains ps p × (weighed p ≡ h.0)
    there = weighed_there ps h.0 h.2.listed

-- ---- clauses whose numbers differ

-- those behind differ too
pub back_pairs : (ps qs : List Numbered) → AllPairs Differ (ps ++ qs) → AllPairs Differ qs
back_pairs [] qs h = h
back_pairs (p ∷ ps) qs h = back_pairs ps qs (tail_pairs Differ p (ps ++ qs) h)

-- one that stands behind others differs from them
pub behind : (front : List Numbered) (p : Numbered) (rest : List Numbered) → AllPairs Differ (front ++ p ∷ rest) → (q : Numbered) → Contains front q → q.number ≢ p.number
behind [] p rest h q k = absurd (omega (arith, k.1))
behind (r ∷ front) p rest h q k = by (λ l. behind front p rest (tail_pairs Differ r (front ++ p ∷ rest) h) q l) (first_or_later q r front k)
  where
    by : (Contains front q → q.number ≢ p.number) → (r ≡ q) ⊎ Contains front q → q.number ≢ p.number
    by others (inl e) = subst (λ (x : Numbered). x.number ≢ p.number) e (first_before Differ r p (front ++ p ∷ rest) h (in_second p front (p ∷ rest) (at_first p rest)))
    by others (inr l) = others l

-- so it doesn't wait yet
pub waits_not : (front : List Numbered) (p : Numbered) (rest : List Numbered) → AllPairs Differ (front ++ p ∷ rest) → ¬ Waits (map weighed front) p.number
waits_not front p rest h (w, k, e) =
    let there = weighed_there front w k in
    behind front p rest h there.0 there.1 (ap (λ (x : Weighed). x.number) there.2 ∙ e)

-- the next of a list doesn't wait, where those before it do
pub fresh_at : (sos : List Numbered) (i : ℕ) (p : Numbered) → i < length sos → p ≡ get_or sos i p → AllPairs Differ sos
    → (ws : List Weighed) → ws ≡ map weighed (take i sos) → ¬ Waits ws p.number
fresh_at sos i p less here differ ws e h =
    let split : sos ≡ take i sos ++ p ∷ drop (i + 1) sos =
    sym (take-append-drop i sos) ∙ ap (λ (rest : List Numbered). take i sos ++ rest) (drop_more sos i p less ∙ ap (λ (q : Numbered). q ∷ drop (i + 1) sos) (sym here)) in
    waits_not (take i sos) p (drop (i + 1) sos) (subst (AllPairs Differ) split differ) (subst (λ (us : List Weighed). Waits us p.number) e h)

-- ---- as many clauses as there are numbers

below_most : (ps : List Numbered) (n : ℕ) → below ps n ≤ n
below_most ps zero = omega arith
below_most ps (suc n) = by (has ps n) (below_most ps n)
  where
    by : (b : Bool) → below ps n ≤ n → cond b (suc (below ps n)) (below ps n) ≤ suc n
    by true h = omega arith
    by false h = omega arith

count_below : (ps : List Numbered) (n : ℕ) → AllPairs Differ ps → ((p : Numbered) → Contains ps p → p.number < n) → length ps ≤ below ps n
count_below [] n h less = omega arith
count_below (p ∷ ps) n h less =
    let rest = count_below ps n (tail_pairs Differ p ps h) (λ q k. less q (later q p ps k)) in
    let falls = below_falls (p ∷ ps) ps n p.number shrinks (less p (at_first p ps)) (p, at_first p ps, refl) gone in
    omega (arith, rest, falls)
  where
    shrinks : Shrinks (p ∷ ps) ps n
    shrinks k small b = (b.0, later b.0 p ps b.1, b.2)

    gone : ¬ Bears ps p.number
    gone b = first_before Differ p b.0 ps h b.1 (sym b.2)

-- clauses with numbers of their own below a bound are no more than the bound
pub no_more_than : (ps : List Numbered) (n : ℕ) → AllPairs Differ ps → ((p : Numbered) → Contains ps p → p.number < n) → length ps ≤ n
no_more_than ps n h less = let count = count_below ps n h less in let most = below_most ps n in omega (arith, count, most)

-- those of the second list are below the bound, where all are
second_below : (ps qs : List Numbered) (n : ℕ) → All (λ (p : Numbered). p.number < n) (ps ++ qs) → (p : Numbered) → Contains qs p → p.number < n
second_below ps qs n all p k = at (λ (q : Numbered). q.number < n) (ps ++ qs) p all (in_second p ps qs k)

-- few clauses wait, where few have a number
pub few_wait : (problem : Stated) (book : Book) → AllPairs Differ (book.usable ++ book.sos) → All (λ (p : Numbered). p.number < next_number problem book) (book.usable ++ book.sos)
    → length problem.inputs + length book.derived + 200002 < 2 ^ 32 → (ps : List Numbered) → ps ≡ book.sos → length ps < 2 ^ 32
few_wait problem book differ under few ps e =
    let most = no_more_than book.sos (next_number problem book) (back_pairs book.usable book.sos differ) (second_below book.usable book.sos (next_number problem book) under) in
    let count = count_all problem.inputs book.derived in
    let same : length ps ≡ length book.sos = ap (λ (qs : List Numbered). length qs) e in
    omega (arith, most, count, same, few)

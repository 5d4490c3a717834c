-- Resolving a clause with several parts, one after the other.
use Rattle.std.proofs.Common.{◌≡◌, ◌∙◌, sym, ap, subst, refl, ℕ, suc, ◌+◌, ◌-◌, ◌<◌, ◌≤◌, List, [], ◌∷◌, ◌++◌, append_assoc, length, length-append, map, Some, None, Option, slice_get, drop, arith}
use Rattle.std.specs.List.{All, AllZip, AllPairs, AllByRecursion}
use Rattle.sc_term.specs.declared.Literal.{Literal}
use Rattle.sc_term.specs.declared.Clause.{Clause}
use Rattle.sc_term.specs.declared.Line.{Line}
use Rattle.sc_term.specs.declared.Pair.{Pair}
use Rattle.sc_term.specs.declared.Step.TheVariants.{Resolve}
use Rattle.sc_term.specs.Numbering.{numbered, without}
use Rattle.sc_term.specs.Term.{joined}
use Rattle.sc_term.specs.Proof.{clause_of}
use Rattle.sc_term.specs.Substitution.{Substitution, IsUnifier, clause_under, literal_under}
use Rattle.sc_term.specs.JointInstance.{whole}
use Rattle.sc_core_rules.specs.Inference.{Resolving, ResolvesAll, Ends}
use Rattle.sc_core_rules.specs.Pairing.{ArePairs, HaveOppositeSigns, literal_in, places_in, places_from}
use Rattle.sc_resolve.specs.Lines.{IsAdded}
use Rattle.sc_resolve.specs.Made.{IsOpposed}
use Rattle.sc_resolve.proofs.LineLaws.{longer, last_there, still_there}
use Rattle.sc_resolve.proofs.LiteralLaws.{numbered_next, numbered_place}
use Rattle.sc_resolve.proofs.PartLaws.{numbered_map, NoMore, removed, both_no_more}
use Rattle.sc_resolve.proofs.ResolvingLaws.{adds_resolve}
use Rattle.sc_hyper.specs.Making.{resolvent, CanResolveAll, CanResolveParts}
use Rattle.sc_hyper.proofs.ListPieces.{drop_next, drop_all, remove_at, zip_at, zip_so, zip_long}
use Rattle.sc_hyper.proofs.HyperLaws.{right_there, behind}

-- ---- literals of one clause, each opposite to one of the next part

abbrev pub OpposedAll : Clause → List ℕ → List Clause → List ℕ → Type 0
OpposedAll c [] [] [] = Unit {0}
OpposedAll c (a ∷ as') (part ∷ parts) (b ∷ bs) = IsOpposed c a part b × OpposedAll c as' parts bs
OpposedAll c [] [] (b ∷ bs) = ⊥
OpposedAll c [] (part ∷ parts) bs = ⊥
OpposedAll c (a ∷ as') [] bs = ⊥
OpposedAll c (a ∷ as') (part ∷ parts) [] = ⊥

module _ (by : Substitution) (all : List Clause) (first : Clause) (is_first : numbered all 1 ≡ Some first) where
  -- what the pairs set against each other is opposite in the parts
  pub opposed_all : (front rest : List Clause) (k : ℕ) (lits others : List ℕ) (pairs : List Pair) → all ≡ front ++ rest → k ≡ length front + 1 → length rest ≡ length lits
      → ArePairs all (places_in 1 lits) (places_from k others) pairs → HaveOppositeSigns pairs → IsUnifier pairs by → OpposedAll (clause_under by first) lits (map (clause_under by) rest) others
  opposed_all front [] k [] [] pairs e long many h signs unifies = tt
  opposed_all front [] k [] (b ∷ others) pairs e long many h signs unifies = absurd h
  opposed_all front [] k (a ∷ lits) others pairs e long many h signs unifies = absurd (omega arith)
  opposed_all front (q ∷ rest) k [] others pairs e long many h signs unifies = absurd (omega arith)
  opposed_all front (q ∷ rest) k (a ∷ lits) [] pairs e long many h signs unifies = absurd h
  opposed_all front (q ∷ rest) k (a ∷ lits) (b ∷ others) [] e long many h signs unifies = absurd h
  opposed_all front (q ∷ rest) k (a ∷ lits) (b ∷ others) (p ∷ pairs) e long many h signs unifies =
      let left : numbered first.literals a ≡ Some p.left = ap (λ (c : Option Clause). literal_in c a) (sym is_first) ∙ h.0 in
      let right : numbered q.literals b ≡ Some p.right = sym (right_there all front rest q k b e long) ∙ h.1 in (
        record {
          l = literal_under by p.left;
          m = literal_under by p.right;
          left_there = numbered_map (literal_under by) first.literals a p.left left;
          right_there = numbered_map (literal_under by) q.literals b p.right right;
          opposite = (signs 0 p (omega arith), unifies 0 p (omega arith));
        },
        opposed_all (front ++ q ∷ []) rest (k + 1) lits others pairs (behind all front rest q e) (omega (arith, length-append front (q ∷ []))) (omega arith) h.2
            (λ j d less. signs (suc j) d (omega arith)) (λ j d less. unifies (suc j) d (omega arith)),
      )

-- ---- literals behind one that is gone

-- the numbers rise
abbrev Rises : List ℕ → Type 0
Rises [] = Unit {0}
Rises (a ∷ as') = AllByRecursion (λ n. a < n) as' × Rises as'

above_all : (a : ℕ) (ns : List ℕ) → All (λ n. a < n) ns → AllByRecursion (λ n. a < n) ns
above_all a [] h = tt
above_all a (n ∷ ns) h = (h 0 n (omega arith), above_all a ns (λ k d less. h (suc k) d (omega arith)))

pub rises : (ns : List ℕ) → AllPairs (λ a b. a < b) ns → Rises ns
rises [] h = tt
rises (n ∷ ns) h = (above_all n ns (λ k d less. h 0 (suc k) d (omega arith) (omega arith)), rises ns (λ j k d less within. h (suc j) (suc k) d (omega arith) (omega arith)))

abbrev pub forward : List ℕ → List ℕ
forward ns = map (λ n. n - 1) ns

above_forward : (a : ℕ) (ns : List ℕ) → 0 < a → AllByRecursion (λ n. a < n) ns → AllByRecursion (λ n. a - 1 < n) (forward ns)
above_forward a [] some h = tt
above_forward a (n ∷ ns) some h = (omega (arith, h.0), above_forward a ns some h.1)

rises_forward : (a : ℕ) (ns : List ℕ) → 0 < a → AllByRecursion (λ n. a < n) ns → Rises ns → Rises (forward ns)
rises_forward a [] some above h = tt
rises_forward a (n ∷ ns) some above h = (above_forward n ns (omega (arith, above.0)) h.0, rises_forward a ns some above.1 h.1)

there_is : (c part : Clause) (a b : ℕ) → IsOpposed c a part b → 0 < a
there_is c part a b h = let place = numbered_place c.literals a h.l h.left_there in omega (arith, place.1)

opposed_forward : (c part q : Clause) (a b n d : ℕ) → 0 < a → a < n → IsOpposed c n q d → IsOpposed (resolvent c a part b) (n - 1) q d
opposed_forward c part q a b n d some less h =
    let place = numbered_place c.literals n h.l h.left_there in
    let k = place.0 in
    let at : n - 1 ≡ (k - 1) + 1 = omega (arith, place.1) in
    record {
      l = h.l;
      m = h.m;
      left_there = ap (numbered (resolvent c a part b).literals) at ∙ numbered_next (resolvent c a part b).literals (k - 1)
          ∙ remove_at c.literals (without part.literals b) (a - 1) k h.l (omega (arith, place.1)) place.2 (k - 1) (omega (arith, place.1));
      right_there = h.right_there;
      opposite = h.opposite;
    }

all_forward : (c part : Clause) (a b : ℕ) → 0 < a → (parts : List Clause) (as' bs : List ℕ) → AllByRecursion (λ n. a < n) as' → OpposedAll c as' parts bs → OpposedAll (resolvent c a part b) (forward as') parts bs
all_forward c part a b some [] [] [] above h = tt
all_forward c part a b some [] [] (d ∷ bs) above h = absurd h
all_forward c part a b some [] (n ∷ as') bs above h = absurd h
all_forward c part a b some (q ∷ parts) [] bs above h = absurd h
all_forward c part a b some (q ∷ parts) (n ∷ as') [] above h = absurd h
all_forward c part a b some (q ∷ parts) (n ∷ as') (d ∷ bs) above h = (opposed_forward c part q a b n d some above.0 h.0, all_forward c part a b some parts as' bs above.1 h.1)

pub can_all : (parts : List Clause) (c : Clause) (as' bs : List ℕ) → OpposedAll c as' parts bs → Rises as' → CanResolveAll c as' parts bs
can_all [] c [] [] h up = tt
can_all [] c [] (b ∷ bs) h up = absurd h
can_all [] c (a ∷ as') bs h up = absurd h
can_all (q ∷ parts) c [] bs h up = absurd h
can_all (q ∷ parts) c (a ∷ as') [] h up = absurd h
can_all (q ∷ parts) c (a ∷ as') (b ∷ bs) h up =
    let some = there_is c q a b h.0 in
    (h.0, can_all parts (resolvent c a q b) (forward as') bs (all_forward c q a b some parts as' bs up.0 h.1) (rises_forward a as' some up.0 up.1))

-- ---- lengths

pub can_long : (c : Clause) (as' : List ℕ) (parts : List Clause) (bs : List ℕ) → CanResolveAll c as' parts bs → (length parts ≡ length as') × (length bs ≡ length as')
can_long c as' [] bs h = by as' bs h
  where
    by : (ns ms : List ℕ) → CanResolveAll c ns [] ms → (length {A = Clause} [] ≡ length ns) × (length ms ≡ length ns)
    by [] [] k = (refl, refl)
    by [] (m ∷ ms) k = absurd k
    by (n ∷ ns) ms k = absurd k
can_long c [] (q ∷ parts) bs h = absurd h
can_long c (a ∷ as') (q ∷ parts) [] h = absurd h
can_long c (a ∷ as') (q ∷ parts) (b ∷ bs) h =
    let rest = can_long (resolvent c a q b) (forward as') parts bs h.1 in (omega (arith, rest.0, forward_long as'), omega (arith, rest.1, forward_long as'))
  where
    forward_long : (ns : List ℕ) → length (forward ns) ≡ length ns
    forward_long [] = refl
    forward_long (n ∷ ns) = omega (arith, forward_long ns)

pub can_parts_long : (parts : List Clause) (lits others : List ℕ) → CanResolveParts parts lits others → (length parts ≡ length lits + 1) × (length others ≡ length lits)
can_parts_long [] lits others h = absurd h
can_parts_long (first ∷ parts) lits others h = let long = can_long first lits parts others h in (omega (arith, long.0), long.1)

-- ---- the loop

abbrev pub literals_of : List Clause → List Literal
literals_of parts = joined (map (λ (c : Clause). c.literals) parts)

-- the numbers, each smaller by so many
abbrev pub less_by : ℕ → List ℕ → List ℕ
less_by n ns = map (λ m. m - n) ns

less_more : (n : ℕ) (ns : List ℕ) → forward (less_by n ns) ≡ less_by (n + 1) ns
less_more n [] = refl
less_more n (m ∷ ns) = let e : m - n - 1 ≡ m - (n + 1) = omega arith in λ i. e i ∷ less_more n ns i

less_none : (ns : List ℕ) → less_by 0 ns ≡ ns
less_none [] = refl
less_none (m ∷ ns) = let e : m - 0 ≡ m = omega arith in λ i. e i ∷ less_none ns i

-- after so many steps the clause stands in this line
pub record IsResolvedTo (start : List Line) (part_lines : List ℕ) (parts : List Clause) (lits others : List ℕ) (at : ℕ) (lines : List Line) (line : ℕ) (clause : Clause) : Type 0 where
  pub goes : (after : List Line) → ResolvesAll lines line (less_by at (drop at lits)) (drop (at + 1) part_lines) (drop at others) after → Ends (Resolving lits others) part_lines start after
  pub can : CanResolveAll clause (less_by at (drop at lits)) (drop (at + 1) parts) (drop at others)
  pub there : clause_of lines line ≡ Some clause
  pub parts_there : AllZip (λ k part. clause_of lines k ≡ Some part) part_lines parts
  pub light : NoMore (clause.literals ++ literals_of (drop (at + 1) parts)) (whole parts).literals
  pub few : length lines ≤ length start + at
  pub last : 0 < at → line ≡ length lines

pub resolved_none : (start : List Line) (part_lines : List ℕ) (parts : List Clause) (lits others : List ℕ) (line : ℕ) (clause : Clause)
    → AllZip (λ k part. clause_of start k ≡ Some part) part_lines parts → CanResolveParts parts lits others → slice_get part_lines 0 ≡ Some line → slice_get parts 0 ≡ Some clause
    → IsResolvedTo start part_lines parts lits others 0 start line clause
resolved_none start [] parts lits others line clause there can at_line at_clause = let none : ◌≡◌ {A = Option ℕ} None (Some line) = at_line in absurd cc
resolved_none start (j ∷ ks) [] lits others line clause there can at_line at_clause = absurd can
resolved_none start (j ∷ ks) (q ∷ parts) lits others line clause there can at_line at_clause =
    let one : j ≡ line = cc in
    let two : q ≡ clause = cc in
    record {
      goes = λ after r. subst (λ n. ResolvesAll start n lits ks others after) (sym one) (subst (λ (ns : List ℕ). ResolvesAll start line ns ks others after) (less_none lits) r);
      can = subst (λ (c : Clause). CanResolveAll c (less_by 0 lits) parts others) two (subst (λ (ns : List ℕ). CanResolveAll q ns parts others) (sym (less_none lits)) can);
      there = subst (λ n. clause_of start n ≡ Some clause) one (there.0 ∙ ap (λ (c : Clause). Some c) two);
      parts_there = there;
      light = subst (λ (c : Clause). NoMore (c.literals ++ literals_of parts) (q.literals ++ literals_of parts)) two (record { light = omega arith; shallow = omega arith });
      few = omega arith;
      last = λ less. absurd (omega arith);
    }

more_so : (xs ys zs : List Literal) → NoMore xs ys → NoMore ys zs → NoMore xs zs
more_so xs ys zs h k = record { light = omega (arith, h.light, k.light); shallow = omega (arith, h.shallow, k.shallow) }

-- the resolvent and the parts behind have no more than the clause and these parts
lighter : (c q : Clause) (a b : ℕ) (rest : List Literal) → NoMore ((resolvent c a q b).literals ++ rest) (c.literals ++ (q.literals ++ rest))
lighter c q a b rest =
    subst (λ (ls : List Literal). NoMore ls (c.literals ++ (q.literals ++ rest))) (sym (append_assoc (without c.literals a) (without q.literals b) rest))
    (both_no_more (without c.literals a) c.literals (without q.literals b ++ rest) (q.literals ++ rest) (removed c.literals (a - 1))
    (both_no_more (without q.literals b) q.literals rest rest (removed q.literals (b - 1)) (record { light = omega arith; shallow = omega arith })))

module _ (start : List Line) (part_lines : List ℕ) (parts : List Clause) (lits others : List ℕ) (at : ℕ) (lines : List Line) (line : ℕ) (clause : Clause) (h : IsResolvedTo start part_lines parts lits others at lines line clause)
    (a b : ℕ) (q : Clause) (at_a : slice_get lits at ≡ Some a) (at_b : slice_get others at ≡ Some b) (at_q : slice_get parts (at + 1) ≡ Some q) where
  can_now : IsOpposed clause (a - at) q b × CanResolveAll (resolvent clause (a - at) q b) (forward (less_by at (drop (at + 1) lits))) (drop (at + 1 + 1) parts) (drop (at + 1) others)
  can_now =
      subst (λ (ns : List ℕ). CanResolveAll clause ((a - at) ∷ less_by at (drop (at + 1) lits)) (q ∷ drop (at + 1 + 1) parts) ns) (drop_next others at b at_b)
      (subst (λ (ps : List Clause). CanResolveAll clause ((a - at) ∷ less_by at (drop (at + 1) lits)) ps (drop at others)) (drop_next parts (at + 1) q at_q)
      (subst (λ (ns : List ℕ). CanResolveAll clause (less_by at ns) (drop (at + 1) parts) (drop at others)) (drop_next lits at a at_a) h.can))

  pub opposed_now : IsOpposed clause (a - at) q b
  opposed_now = can_now.0

  -- the literal's number is above those of the literals that are gone
  pub is_behind : at < a
  is_behind = omega (arith, there_is clause q (a - at) b can_now.0)

  pub resolved_next : (k : ℕ) (next : Clause) (after : List Line) (m : ℕ) → slice_get part_lines (at + 1) ≡ Some k → next ≡ resolvent clause (a - at) q b
      → IsAdded lines (Resolve line (a - at) k b) next after m → IsResolvedTo start part_lines parts lits others (at + 1) after m next
  resolved_next k next after m at_k e added = record {
    goes = λ end r.
        h.goes end
        (subst (λ (ns : List ℕ). ResolvesAll lines line (less_by at (drop at lits)) (drop (at + 1) part_lines) ns end) (sym (drop_next others at b at_b))
        (subst (λ (ns : List ℕ). ResolvesAll lines line (less_by at (drop at lits)) ns (b ∷ drop (at + 1) others) end) (sym (drop_next part_lines (at + 1) k at_k))
        (subst (λ (ns : List ℕ). ResolvesAll lines line (less_by at ns) (k ∷ drop (at + 1 + 1) part_lines) (b ∷ drop (at + 1) others) end) (sym (drop_next lits at a at_a)) (
          after,
          adds_resolve lines line k clause q next (a - at) b after h.there part_there can_now.0 (ap (λ (c : Clause). c.literals) e) added.grown,
          subst (λ n. ResolvesAll after n (forward (less_by at (drop (at + 1) lits))) (drop (at + 1 + 1) part_lines) (drop (at + 1) others) end) added.last
              (subst (λ (ns : List ℕ). ResolvesAll after m ns (drop (at + 1 + 1) part_lines) (drop (at + 1) others) end) (sym (less_more at (drop (at + 1) lits))) r),
        ))));
    can = subst (λ (c : Clause). CanResolveAll c (less_by (at + 1) (drop (at + 1) lits)) (drop (at + 1 + 1) parts) (drop (at + 1) others)) (sym e)
        (subst (λ (ns : List ℕ). CanResolveAll (resolvent clause (a - at) q b) ns (drop (at + 1 + 1) parts) (drop (at + 1) others)) (less_more at (drop (at + 1) lits)) can_now.1);
    there = last_there lines (Resolve line (a - at) k b) next after m added;
    parts_there = zip_so (λ j c. clause_of lines j ≡ Some c) (λ j c. clause_of after j ≡ Some c) part_lines parts (still_there lines (Resolve line (a - at) k b) next after m added) h.parts_there;
    light = subst (λ (c : Clause). NoMore (c.literals ++ literals_of (drop (at + 1 + 1) parts)) (whole parts).literals) (sym e)
        (more_so ((resolvent clause (a - at) q b).literals ++ literals_of (drop (at + 1 + 1) parts)) (clause.literals ++ literals_of (drop (at + 1) parts)) (whole parts).literals
        (subst (λ (ps : List Clause). NoMore ((resolvent clause (a - at) q b).literals ++ literals_of (drop (at + 1 + 1) parts)) (clause.literals ++ literals_of ps)) (sym (drop_next parts (at + 1) q at_q))
        (lighter clause q (a - at) b (literals_of (drop (at + 1 + 1) parts)))) h.light);
    few = omega (arith, h.few, longer lines (Resolve line (a - at) k b) next after m added);
    last = λ less. added.last;
  }
    where
      part_there : clause_of lines k ≡ Some q
      part_there = let found = zip_at (λ j c. clause_of lines j ≡ Some c) part_lines parts h.parts_there (at + 1) k at_k in found.2 ∙ sym found.1 ∙ at_q

pub resolved_end : (start : List Line) (part_lines : List ℕ) (parts : List Clause) (lits others : List ℕ) (at : ℕ) (lines : List Line) (line : ℕ) (clause : Clause)
    → IsResolvedTo start part_lines parts lits others at lines line clause → at ≡ length lits → length parts ≡ length lits + 1 → length others ≡ length lits → Ends (Resolving lits others) part_lines start lines
resolved_end start part_lines parts lits others at lines line clause h end long other_long =
    h.goes lines
    (subst (λ (ns : List ℕ). ResolvesAll lines line (less_by at (drop at lits)) (drop (at + 1) part_lines) ns lines) (sym (drop_all others at (omega arith)))
    (subst (λ (ns : List ℕ). ResolvesAll lines line (less_by at (drop at lits)) ns [] lines) (sym (drop_all part_lines (at + 1) (omega (arith, zip_long (λ k part. clause_of lines k ≡ Some part) part_lines parts h.parts_there))))
    (subst (λ (ns : List ℕ). ResolvesAll lines line (less_by at ns) [] [] lines) (sym (drop_all lits at end)) refl)))

pub there_so : (lines : List Line) (ks js : List ℕ) (parts qs : List Clause) → js ≡ ks → qs ≡ parts → AllZip (λ k part. clause_of lines k ≡ Some part) ks parts → AllZip (λ k part. clause_of lines k ≡ Some part) js qs
there_so lines ks js parts qs e f h =
    subst (λ (ns : List ℕ). AllZip (λ k part. clause_of lines k ≡ Some part) ns qs) (sym e) (subst (λ (cs : List Clause). AllZip (λ k part. clause_of lines k ≡ Some part) ks cs) (sym f) h)

pub can_so : (parts qs : List Clause) (lits others : List ℕ) → qs ≡ parts → CanResolveParts parts lits others → CanResolveParts qs lits others
can_so parts qs lits others e h = subst (λ (cs : List Clause). CanResolveParts cs lits others) (sym e) h

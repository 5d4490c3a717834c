-- Rows of clauses, one clause more.
use Rattle.std.proofs.Common.{◌≡◌, ◌∙◌, sym, ap, subst, refl, ℕ, zero, suc, ◌+◌, ◌-◌, ◌<◌, ◌≤◌, ◌⊎◌, inl, inr, max, List, [], ◌∷◌, ◌++◌, append_assoc, map, sum, length, get_or, take, drop, arith, add-one}
use Rattle.std.specs.List.{fold}
use Rattle.std.proofs.lemmas.List.Sums.{fold-append, sum_by-cons}
use Rattle.sc_term.specs.declared.Literal.{Literal}
use Rattle.sc_term.specs.declared.Term.{Term}
use Rattle.sc_term.specs.declared.Clause.{Clause}
use Rattle.sc_term.specs.Term.{joined, largest}
use Rattle.sc_term.specs.Clause.{variables, width}
use Rattle.sc_term.specs.Substitution.{Substitution}
use Rattle.sc_term.specs.JointInstance.{whole}
use Rattle.sc_term.specs.Occurrence.{noted}
use Rattle.sc_term.proofs.Occurrences.{noted-append}
use Rattle.sc_unify.specs.Joint.{values, values_above}
use Rattle.sc_unify.proofs.TermFacts.{map_append, joined_append}
use Rattle.sc_unify.proofs.Rows.{take-more, largest_front, sum_front, rest, split}

nothing : {X : Type 0} (xs : List X) → xs ++ [] ≡ xs
nothing [] = refl
nothing (x ∷ xs) = ap (λ l. x ∷ l) (nothing xs)

-- noting the variables of one more
pub noted-next : (f : Clause → Clause) (cs : List Clause) (i : ℕ) (c : Clause) (start before now : List ℕ) → i < length cs → c ≡ get_or cs i c
    → before ≡ noted start (joined (map variables (map f (take i cs)))) → now ≡ noted before (variables (f c)) → now ≡ noted start (joined (map variables (map f (take (i + 1) cs))))
noted-next f cs i c start before now less at old step =
    step ∙ ap (λ order. noted order (variables (f c))) old ∙ sym (noted-append start (joined (map variables (map f (take i cs)))) (variables (f c)))
    ∙ ap (noted start) (ap (λ l. joined (map variables (map f (take i cs))) ++ l) (sym (nothing (variables (f c)))) ∙ sym (joined_append (map variables (map f (take i cs))) (variables (f c) ∷ []))
    ∙ ap joined (sym (map_append variables (map f (take i cs)) (f c ∷ []))) ∙ ap (λ l. joined (map variables l)) (sym (map_append f (take i cs) (c ∷ [])))
    ∙ ap (λ l. joined (map variables (map f l))) (sym (take-more cs i c less at)))

-- numbers of the literals of a row
abbrev numbers : (Literal → ℕ) → List Clause → List ℕ
numbers m cs = map m (whole cs).literals

numbers-append : (m : Literal → ℕ) (cs ds : List Clause) → numbers m (cs ++ ds) ≡ numbers m cs ++ numbers m ds
numbers-append m [] ds = refl
numbers-append m (c ∷ cs) ds =
    map_append m c.literals (whole (cs ++ ds)).literals ∙ ap (λ l. map m c.literals ++ l) (numbers-append m cs ds)
    ∙ sym (append_assoc (map m c.literals) (numbers m cs) (numbers m ds)) ∙ ap (λ l. l ++ numbers m ds) (sym (map_append m c.literals (whole cs).literals))

module _ (m : Literal → ℕ) (f : Clause → Clause) (cs : List Clause) (i : ℕ) (c : Clause) (less : i < length cs) (at : c ≡ get_or cs i c) where
  next : numbers m (map f (take (i + 1) cs)) ≡ numbers m (map f (take i cs)) ++ map m (f c).literals
  next = ap (λ l. numbers m (map f l)) (take-more cs i c less at) ∙ ap (numbers m) (map_append f (take i cs) (c ∷ [])) ∙ numbers-append m (map f (take i cs)) (f c ∷ [])
      ∙ ap (λ l. numbers m (map f (take i cs)) ++ map m l) (nothing (f c).literals)

  front : numbers m (map f cs) ≡ numbers m (map f (take (i + 1) cs)) ++ numbers m (map f (rest cs (i + 1)))
  front = ap (λ l. numbers m (map f l)) (sym (split cs (i + 1))) ∙ ap (numbers m) (map_append f (take (i + 1) cs) (rest cs (i + 1))) ∙ numbers-append m (map f (take (i + 1) cs)) (map f (rest cs (i + 1)))

sum_both : (ns ms : List ℕ) → sum (ns ++ ms) ≡ sum ns + sum ms
sum_both [] ms = omega arith
sum_both (n ∷ ns) ms = omega (arith, sum_both ns ms, sum_by-cons (λ k. k) n ns, sum_by-cons (λ k. k) n (ns ++ ms))

most : (a : ℕ) (ns : List ℕ) → fold max a ns ≡ max a (largest ns)
most a [] = omega arith
most a (n ∷ ns) = omega (arith, most (max a n) ns, most (max 0 n) ns)

largest_both : (ns ms : List ℕ) → largest (ns ++ ms) ≡ max (largest ns) (largest ms)
largest_both ns ms = fold-append max 0 ns ms ∙ most (largest ns) ms

module _ (w d : Literal → ℕ) (f : Clause → Clause) (cs : List Clause) (i : ℕ) (c : Clause) (less : i < length cs) (at : c ≡ get_or cs i c) (weight depth left : ℕ)
    (so_far : left + sum (numbers w (map f (take i cs))) ≡ weight) where
  sums : sum (numbers w (map f (take (i + 1) cs))) ≡ sum (numbers w (map f (take i cs))) + sum (map w (f c).literals)
  sums = ap sum (next w f cs i c less at) ∙ sum_both (numbers w (map f (take i cs))) (map w (f c).literals)

  deepest : largest (numbers d (map f (take (i + 1) cs))) ≡ max (largest (numbers d (map f (take i cs)))) (largest (map d (f c).literals))
  deepest = ap largest (next d f cs i c less at) ∙ largest_both (numbers d (map f (take i cs))) (map d (f c).literals)

  pub over : (left < sum (map w (f c).literals)) ⊎ (depth < largest (map d (f c).literals)) → (weight < sum (numbers w (map f cs))) ⊎ (depth < largest (numbers d (map f cs)))
  over (inl h) = inl (omega (arith, sums, ap sum (front w f cs i c less at), sum_front (numbers w (map f (take (i + 1) cs))) (numbers w (map f (rest cs (i + 1))))))
  over (inr h) = inr (omega (arith, deepest, ap largest (front d f cs i c less at), largest_front (numbers d (map f (take (i + 1) cs))) (numbers d (map f (rest cs (i + 1))))))

  pub spent : (more : ℕ) → largest (numbers d (map f (take i cs))) ≤ depth → (more + sum (map w (f c).literals) ≡ left) × (largest (map d (f c).literals) ≤ depth)
      → (more + sum (numbers w (map f (take (i + 1) cs))) ≡ weight) × (largest (numbers d (map f (take (i + 1) cs))) ≤ depth)
  spent more deep h = (omega (arith, sums, h.0), omega (arith, deepest, deep, h.1))

-- ---- the values, clause by clause

drop-next : {X : Type 0} (xs : List X) (i : ℕ) (x : X) → i < length xs → x ≡ get_or xs i x → drop i xs ≡ x ∷ drop (i + 1) xs
drop-next {X = X} xs i x less at = rw add-one (by xs i less at)
  where
    by : (xs : List X) (i : ℕ) → i < length xs → x ≡ get_or xs i x → drop i xs ≡ x ∷ drop (suc i) xs
    by [] i less at = absurd (omega arith)
    by (y ∷ ys) zero less at = ap (λ z. z ∷ ys) (sym at)
    by (y ∷ ys) (suc i) less at = by ys i (omega arith) at

pub told-next : (s : Substitution) (cs : List Clause) (i : ℕ) (c : Clause) (low count : ℕ) (told now : List (List Term)) (one : List Term) (all : List (List Term)) → i < length cs → c ≡ get_or cs i c
    → told ++ values_above s low (drop i cs) ≡ all → count ≡ width c - low → one ≡ values s low count → now ≡ told ++ one ∷ []
    → now ++ values_above s (low + count) (drop (i + 1) cs) ≡ all
told-next s cs i c low count told now one all less at old counts is grown =
    ap (λ l. l ++ values_above s (low + count) (drop (i + 1) cs)) grown
    ∙ append_assoc told (one ∷ []) (values_above s (low + count) (drop (i + 1) cs))
    ∙ (λ j. told ++ (is ∙ ap (values s low) counts) j ∷ values_above s (low + counts j) (drop (i + 1) cs))
    ∙ ap (λ l. told ++ values_above s low l) (sym (drop-next cs i c less at)) ∙ old

pub width-least : (cs : List Clause) (i : ℕ) (c : Clause) → i < length cs → c ≡ get_or cs i c → width c ≤ largest (map width cs)
width-least cs i c less at =
    omega (arith, ap largest parts, largest_both (map width (take i cs)) (map width (c ∷ drop (i + 1) cs)), most (max 0 (width c)) (map width (drop (i + 1) cs)))
  where
    whole_row : (cs : List Clause) (k : ℕ) → take k cs ++ drop k cs ≡ cs
    whole_row cs zero = refl
    whole_row [] (suc k) = refl
    whole_row (x ∷ xs) (suc k) = ap (λ l. x ∷ l) (whole_row xs k)

    parts : map width cs ≡ map width (take i cs) ++ map width (c ∷ drop (i + 1) cs)
    parts = ap (map width) (sym (whole_row cs i) ∙ ap (λ l. take i cs ++ l) (drop-next cs i c less at)) ∙ map_append width (take i cs) (c ∷ drop (i + 1) cs)

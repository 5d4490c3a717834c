use Rattle.std.proofs.Common.{◌≡◌, ◌∙◌, sym, subst, ap, refl, ◌≤◌, ◌↔◌, [], ◌∷◌, get_or, List, length, All, Contains, Result, Ok, Err, Bool, IfOk, IsTrue, arith, true≢false}
use Rattle.std.proofs.lemmas.List.Sorted.{All-permutation, IsPermutation-sym, IsPermutation-refl}
use Rattle.std.specs.List.{Any}
use Rattle.std.specs.List.Sorted.{IsPermutation}
use Rattle.sc_term.specs.declared.Literal.{Literal}
use Rattle.sc_term.specs.declared.Clause.{Clause}
use Rattle.sc_term.specs.Clause.{literal_instance}
use Rattle.sc_subsume.specs.Search.{AreLike, GoesInto, literals}
use Rattle.sc_term.specs.Subsumption.{Subsumes}
use Rattle.sc_subsume.proofs.subsumption.subsumes.Goals as goal
use Rattle.sc_subsume.proofs.subsumption.subsumes.Goals.{then-few-many-via-then-few-many, then-few-many-via-else-few-many+then-not-each_has_like}

likes : (c d : Clause) → Subsumes c d → All (λ l. Any (AreLike l) d.literals) c.literals
likes c d h k x less = let at = h.each k x less in (at.0, literal_instance h.terms _, at.1, at.2, (refl, refl))

-- the literals in another order go where they do
reordered : (c d now : List Literal) → IsPermutation c now → GoesInto now d ↔ GoesInto c d
reordered c d now h = (
  λ g. (g.0, All-permutation (λ l. Contains d (literal_instance g.0 l)) now c (IsPermutation-sym c now h) g.1),
  λ g. (g.0, All-permutation (λ l. Contains d (literal_instance g.0 l)) c now h g.1),
)

counted : {E : Type 0} (r : Result Bool E) (c d : Clause) (few many now : List Literal) → few ≡ c.literals → many ≡ d.literals → IsPermutation few now → length few ≤ length many
    → IfOk r (λ can. IsTrue can ↔ GoesInto now many) → IfOk r (λ can. IsTrue can ↔ Subsumes c d)
counted (Err e) c d few many now p q order le h = tt
counted (Ok can) c d few many now p q order le h = (
  λ e.
      let goes = subst (λ l. GoesInto l d.literals) p (subst (GoesInto few) q ((reordered few many now order).0 (h.0 e))) in
      record { terms = goes.0; each = goes.1; no_longer = subst (λ l. length l ≤ length d.literals) p (subst (λ l. length few ≤ length l) q le) },
  λ s. h.1 ((reordered few many now order).1 (subst (GoesInto few) (sym q) (subst (λ l. GoesInto l d.literals) (sym p) (s.terms, s.each)))),
)

pub returns-then-few-many : goal.returns-then-few-many
returns-then-few-many c = (λ e. absurd (true≢false (sym e)), λ s. absurd (by s))
  where
    by : ¬ Subsumes c.args.c.now c.args.d.now
    by s = elim c.then-few-many.branch [
      | then-few-many-via-then-few-many w ↦ omega (arith, w.if-few-many.true, s.no_longer, ap length c.as_slice-few.ensures, ap length c.as_slice-many.ensures)
      | then-few-many-via-else-few-many+then-not-each_has_like w ↦ true≢false (sym (w.each_has_like.ensures.1
          (subst (λ ds. All (λ l. Any (AreLike l) ds) c.as_slice-few.result.now) (sym c.as_slice-many.ensures)
          (subst (λ cs. All (λ l. Any (AreLike l) c.args.d.now.literals) cs) (sym c.as_slice-few.ensures) (likes c.args.c.now c.args.d.now s)))) ∙ w.if-not-each_has_like.true)
    ]

pub returns : goal.returns
returns c =
    let asked = subst (λ all. IsPermutation c.as_slice-few.result.now (literals all)) (sym c.as_slice.ensures.value) c.in_ok-asked.ensures in
    counted c.goes_into.result c.args.c.now c.args.d.now c.as_slice-few.result.now c.as_slice-many.result.now (literals c.as_slice.result.now) c.as_slice-few.ensures c.as_slice-many.ensures
    asked c.if-few-many.false c.goes_into.ensures

single : (xs : List Literal) (x : Literal) → length xs ≡ 1 → x ≡ get_or xs 0 x → xs ≡ x ∷ []
single [] x e at = absurd (omega (arith, e))
single (y ∷ []) x e at = ap (λ z. z ∷ []) (sym at)
single (y ∷ z ∷ zs) x e at = absurd (omega (arith, e))

pub returns-in-len1 : goal.returns-in-len1
returns-in-len1 c =
    let few = c.as_slice-few.result.now in
    let only = c.only-item.result in
    let long : length few ≡ 1 = omega (arith, c.in-len1.len_at_least, c.in-len1.len_below) in
    counted c.one_goes_into.result c.args.c.now c.args.d.now few c.as_slice-many.result.now (only ∷ []) c.as_slice-few.ensures c.as_slice-many.ensures
    (subst (IsPermutation few) (single few only long c.only-item.is) (IsPermutation-refl few)) c.if-few-many.false c.one_goes_into.ensures

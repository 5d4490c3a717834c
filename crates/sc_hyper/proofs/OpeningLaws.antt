-- The lines of the parts of several parents, parent by parent.
use Rattle.std.proofs.Common.{◌≡◌, ◌∙◌, sym, ap, subst, refl, ℕ, zero, suc, ◌+◌, ◌⊎◌, inl, inr, List, [], ◌∷◌, ◌++◌, length, length-append, map, take, Some, None, Option, slice_get, append-nil, arith}
use Rattle.std.specs.List.{Contains}
use Rattle.sc_term.specs.declared.Term.{Term}
use Rattle.sc_term.specs.declared.Literal.{Literal}
use Rattle.sc_term.specs.declared.Clause.{Clause}
use Rattle.sc_term.specs.declared.Line.{Line}
use Rattle.sc_term.specs.declared.Numbered.{Numbered}
use Rattle.sc_term.specs.Term.{joined}
use Rattle.sc_term.specs.Clause.{instance, width, IsWithinLimits}
use Rattle.sc_term.specs.Proof.{clause_of}
use Rattle.sc_term.specs.JointInstance.{whole}
use Rattle.sc_unify.specs.Joint.{AreTermsOf}
use Rattle.sc_steps.specs.Derivation.{IsInputAt}
use Rattle.sc_core_rules.specs.Derivation.{AddsPart, AddsParts}
use Rattle.sc_resolve.specs.Lines.{IsKnown, HasPart}
use Rattle.sc_resolve.proofs.PartLaws.{NoMore, within_so, both_no_more}
use Rattle.sc_hyper.specs.Making.{clauses_of, AreOneByNumber, AreTold, IsOpened}
use Rattle.sc_hyper.proofs.ListPieces.{take_next, take_all, zip_next, zip_so, one_of_number}

-- ---- terms by their place

pub record AreTermsAt (c : Clause) (terms : List Term) (parts : List Clause) (k : ℕ) : Type 0 where
  pub part : Clause
  pub at : slice_get parts k ≡ Some part
  pub many : length terms ≡ width c
  pub gives : instance terms c ≡ part

pub terms_at : (ps : List Numbered) (told : List (List Term)) (parts : List Clause) → AreTermsOf (clauses_of ps) told parts
    → (k : ℕ) (p : Numbered) (terms : List Term) → slice_get ps k ≡ Some p → slice_get told k ≡ Some terms → AreTermsAt p.clause terms parts k
terms_at [] told parts h k p terms at_p at_terms = let none : ◌≡◌ {A = Option Numbered} None (Some p) = at_p in absurd cc
terms_at (q ∷ ps) [] parts h k p terms at_p at_terms = absurd h
terms_at (q ∷ ps) (t ∷ told) [] h k p terms at_p at_terms = absurd h
terms_at (q ∷ ps) (t ∷ told) (part ∷ parts) h zero p terms at_p at_terms =
    let one : q ≡ p = cc in
    let two : t ≡ terms = cc in
    record {
      part = part;
      at = refl;
      many = subst (λ (r : Numbered). length terms ≡ width r.clause) one (subst (λ (u : List Term). length u ≡ width q.clause) two h.0);
      gives = subst (λ (r : Numbered). instance terms r.clause ≡ part) one (subst (λ (u : List Term). instance u q.clause ≡ part) two h.1);
    }
terms_at (q ∷ ps) (t ∷ told) (part ∷ parts) h (suc k) p terms at_p at_terms =
    let rest = terms_at ps told parts h.2 k p terms at_p at_terms in record { part = rest.part; at = rest.at; many = rest.many; gives = rest.gives }

pub terms_long : (ps : List Numbered) (told : List (List Term)) (parts : List Clause) → AreTermsOf (clauses_of ps) told parts → (length told ≡ length ps) × (length parts ≡ length ps)
terms_long [] [] [] h = (refl, refl)
terms_long [] [] (part ∷ parts) h = absurd h
terms_long [] (t ∷ told) parts h = absurd h
terms_long (q ∷ ps) [] parts h = absurd h
terms_long (q ∷ ps) (t ∷ told) [] h = absurd h
terms_long (q ∷ ps) (t ∷ told) (part ∷ parts) h = let rest = terms_long ps told parts h.2 in (omega (arith, rest.0), omega (arith, rest.1))

-- ---- limits

no_more_at : (parts : List Clause) (k : ℕ) (part : Clause) → slice_get parts k ≡ Some part → NoMore part.literals (joined (map (λ (c : Clause). c.literals) parts))
no_more_at [] k part h = let none : ◌≡◌ {A = Option Clause} None (Some part) = h in absurd cc
no_more_at (q ∷ parts) zero part h =
    let one : q ≡ part = cc in
    let rest : List Literal = joined (map (λ (c : Clause). c.literals) parts) in
    subst (λ (d : Clause). NoMore d.literals (q.literals ++ rest)) one
    (subst (λ (ls : List Literal). NoMore ls (q.literals ++ rest)) (append-nil q.literals)
    (both_no_more q.literals q.literals [] rest (record { light = omega arith; shallow = omega arith }) (record { light = omega arith; shallow = omega arith })))
no_more_at (q ∷ parts) (suc k) part h =
    both_no_more [] q.literals part.literals (joined (map (λ (c : Clause). c.literals) parts)) (record { light = omega arith; shallow = omega arith }) (no_more_at parts k part h)

pub part_within : (parts : List Clause) (k : ℕ) (part : Clause) → slice_get parts k ≡ Some part → IsWithinLimits (whole parts) → IsWithinLimits part
part_within parts k part h within = within_so part (whole parts) (no_more_at parts k part h) within

-- ---- one part more

pub adds_next : (before mid after : List Line) (ps : List Numbered) (parts : List Clause) (ks : List ℕ) (p : Numbered) (part : Clause) (k : ℕ) → AddsParts before ps parts mid ks → AddsPart mid p part after k
    → AddsParts before (ps ++ p ∷ []) (parts ++ part ∷ []) after (ks ++ k ∷ [])
adds_next before mid after [] [] ks p part k h add =
    subst (λ (ls : List ℕ). AddsParts before (p ∷ []) (part ∷ []) after (ls ++ k ∷ [])) (sym h.1)
    (after, subst (λ (ls : List Line). AddsPart ls p part after k) h.0 add, (refl, refl))
adds_next before mid after [] (q ∷ parts) ks p part k h add = absurd h
adds_next before mid after (r ∷ ps) [] ks p part k h add = absurd h
adds_next before mid after (r ∷ ps) (q ∷ parts) [] p part k h add = absurd h
adds_next before mid after (r ∷ ps) (q ∷ parts) (j ∷ ks) p part k h add = (h.0, h.1, adds_next h.0 mid after ps parts ks p part k h.2 add)

pub opened_next : (ps : List Numbered) (parts : List Clause) (lines after : List Line) (ks : List ℕ) (p : Numbered) (part : Clause) (k : ℕ) → IsOpened ps parts lines ks → HasPart lines p part after k
    → IsOpened (ps ++ p ∷ []) (parts ++ part ∷ []) after (ks ++ k ∷ [])
opened_next ps parts lines after ks p part k h one = record {
  opens = adds_next [] lines after ps parts ks p part k h.opens one.adds;
  there = zip_next (λ j c. clause_of after j ≡ Some c) ks parts k part (zip_so (λ j c. clause_of lines j ≡ Some c) (λ j c. clause_of after j ≡ Some c) ks parts one.keeps.same h.there) one.there;
  few = omega (arith, h.few, one.few, length-append ps (p ∷ []));
}

-- lines that name a parent have it
pub still_known : (lines after : List Line) (p : Numbered) (part : Clause) (k : ℕ) → HasPart lines p part after k
    → (q : Numbered) → (q.number ≡ p.number → q ≡ p) → IsKnown lines q → IsKnown after q
still_known lines after p part k h q one known j input = by (h.keeps.named q.number j input)
  where
    by : IsInputAt lines q.number j ⊎ ((q.number ≡ p.number) × (clause_of after j ≡ Some p.clause)) → clause_of after j ≡ Some q.clause
    by (inl i) = h.keeps.same j q.clause (known j i)
    by (inr i) = i.1 ∙ ap (λ (r : Numbered). Some r.clause) (sym (one i.0))

-- ---- parent by parent

module _ (parents : List Numbered) (told : List (List Term)) (at : ℕ) (p : Numbered) (terms : List Term) (at_p : slice_get parents at ≡ Some p) (at_terms : slice_get told at ≡ Some terms) where
  pub many_terms : (parts : List Clause) → AreTold parents told parts → length terms ≡ width p.clause
  many_terms parts h = (terms_at parents told parts h.terms at p terms at_p at_terms).many

  pub not_outside : (parts : List Clause) → AreTold parents told parts → IsWithinLimits (instance terms p.clause)
  not_outside parts h = let one = terms_at parents told parts h.terms at p terms at_p at_terms in subst IsWithinLimits (sym one.gives) (part_within parts at one.part one.at h.within)

  pub opened_step : (lines after : List Line) (ks : List ℕ) (front : List Clause) (part : Clause) (k : ℕ) → part ≡ instance terms p.clause → HasPart lines p part after k
      → (parts : List Clause) → AreTold parents told parts → (front ≡ take at parts) × IsOpened (take at parents) (take at parts) lines ks
      → (front ++ part ∷ [] ≡ take (at + 1) parts) × IsOpened (take (at + 1) parents) (take (at + 1) parts) after (ks ++ k ∷ [])
  opened_step lines after ks front part k is has parts h so =
      let one = terms_at parents told parts h.terms at p terms at_p at_terms in
      let more : take (at + 1) parts ≡ take at parts ++ part ∷ [] = take_next parts at part (one.at ∙ ap (λ (c : Clause). Some c) (sym one.gives ∙ sym is)) in (
        ap (λ (cs : List Clause). cs ++ part ∷ []) so.0 ∙ sym more,
        subst (λ (qs : List Numbered). IsOpened qs (take (at + 1) parts) after (ks ++ k ∷ [])) (sym (take_next parents at p at_p))
            (subst (λ (cs : List Clause). IsOpened (take at parents ++ p ∷ []) cs after (ks ++ k ∷ [])) (sym more) (opened_next (take at parents) (take at parts) lines after ks p part k so.1 has)),
      )

pub known_step : (parents : List Numbered) (lines after : List Line) (p : Numbered) (part : Clause) (k : ℕ) → AreOneByNumber parents → Contains parents p → HasPart lines p part after k
    → ((q : Numbered) → Contains parents q → IsKnown lines q) → (q : Numbered) → Contains parents q → IsKnown after q
known_step parents lines after p part k one listed has known q there =
    still_known lines after p part k has q (λ e. one_of_number (λ (r : Numbered). r.number) parents one q p there listed e) (known q there)

pub opened_whole : (parents : List Numbered) (told : List (List Term)) (at : ℕ) (lines : List Line) (ks : List ℕ) (front : List Clause) → at ≡ length parents → (parts : List Clause) → AreTold parents told parts
    → (front ≡ take at parts) × IsOpened (take at parents) (take at parts) lines ks → (front ≡ parts) × IsOpened parents parts lines ks
opened_whole parents told at lines ks front end parts h so =
    let long = terms_long parents told parts h.terms in
    let all : take at parts ≡ parts = take_all parts at (omega (arith, end, long.1)) in (
      so.0 ∙ all,
      subst (λ (qs : List Numbered). IsOpened qs parts lines ks) (take_all parents at end) (subst (λ (cs : List Clause). IsOpened (take at parents) cs lines ks) all so.1),
    )

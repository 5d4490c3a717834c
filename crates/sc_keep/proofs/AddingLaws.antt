-- The lines of a clause's part are added.
use Rattle.std.proofs.Common.{◌≡◌, ◌≢◌, ◌∙◌, sym, ap, subst, refl, ℕ, ◌+◌, ◌<◌, inl, inr, List, [], ◌∷◌, ◌++◌, length, get_or, Some, None, Option, arith, length-append}
use Rattle.std.specs.Prelude.{IsSomeAnd, MatchOption}
use Rattle.std.specs.List.{Contains}
use Rattle.sc_term.specs.declared.Term.{Term}
use Rattle.sc_term.specs.declared.Clause.{Clause}
use Rattle.sc_term.specs.declared.Line.{Line}
use Rattle.sc_term.specs.declared.Numbered.{Numbered}
use Rattle.sc_term.specs.declared.Step.TheVariants.{Input, Instance}
use Rattle.sc_term.specs.Clause.{IsCanonical, firsts, instance, variables, width}
use Rattle.sc_term.specs.Proof.{clause_of}
use Rattle.sc_interp.proofs.Width.{canonical_width}
use Rattle.sc_steps.specs.Derivation.{IsInputAt}
use Rattle.sc_steps.proofs.LineLaws.{clause_of_end, clause_in_whole, number_in_front_or_end}
use Rattle.sc_steps.proofs.ListLaws.{some_and}
use Rattle.sc_steps.specs.Splice.{named_by}
use Rattle.sc_term.specs.Numbering.{numbered}
use Rattle.sc_core_rules.specs.Derivation.{AddsInput, AreTermsTo}
use Rattle.sc_keep.specs.Adding.{IsPartLine, AddedPart}
use Rattle.sc_keep.proofs.CanonicalLaws.{counted, all_at, all_firsts}
use Rattle.sc_term.proofs.CanonicalForm.{all_each}

-- each number below the width of a canonical clause is that of a variable
pub each_occurs : (c : Clause) → IsCanonical c → (n : ℕ) → n < width c → Contains (variables c) n
each_occurs c h n less =
    let order = firsts (variables c) in
    let there : n < length order = omega (arith, less, canonical_width c h) in
    let here : get_or order n 0 ≡ n = counted 0 order h n there ∙ omega arith in
    subst (Contains (variables c)) here (all_at (Contains (variables c)) order n (all_firsts (Contains (variables c)) [] (variables c) (all_each (Contains (variables c)) (variables c) (λ n h. h))) there)

pub terms_to_part : (c : Clause) (terms : List Term) → IsCanonical c → length terms ≡ width c → AreTermsTo c (instance terms c) terms
terms_to_part c terms canonical many = record { many = many; gives = refl; rest = λ n less absent. absurd (absent (each_occurs c canonical n less)) }

-- ---- which clauses are named

same_input : (m n : ℕ) → Input m ≡ Input n → m ≡ n
same_input m n e = let f : ◌≡◌ {A = Option ℕ} (Some m) (Some n) = ap named_by e in cc

no_instance_input : (of : ℕ) (terms : List Term) (n : ℕ) → ¬ (Instance of terms ≡ Input n)
no_instance_input of terms n e = let f : ◌≡◌ {A = Option ℕ} None (Some n) = ap named_by e in cc

no_new_input : (lines : List Line) (line : Line) (q : ℕ) → ¬ (line.step ≡ Input q) → ((j : ℕ) → ¬ IsInputAt lines q j) → (j : ℕ) → ¬ IsInputAt (lines ++ line ∷ []) q j
no_new_input lines line q other none j h =
    let found = some_and (numbered (lines ++ line ∷ []) j) (λ (l : Line). l.step ≡ Input q) h in
    elim (number_in_front_or_end lines line j found.0 found.1) [
      | inl k ↦ none j (subst (λ o. IsSomeAnd o (λ (l : Line). l.step ≡ Input q)) (sym k) found.2)
      | inr k ↦ other (ap (λ (l : Line). l.step) k.1 ∙ found.2)
    ]

module _ (lines : List Line) (p : Numbered) (terms : List Term) (fresh : (j : ℕ) → ¬ IsInputAt lines p.number j) (canonical : IsCanonical p.clause) (many : length terms ≡ width p.clause)
    (mid : List Line) (first : Line) (step : first.step ≡ Input p.number) (clause : first.clause ≡ p.clause) (begun : mid ≡ lines ++ first ∷ []) where
  long : length mid ≡ length lines + 1
  long = ap (λ (ls : List Line). length ls) begun ∙ length-append lines (first ∷ [])

  input_added : AddsInput lines p mid (length lines + 1)
  input_added = inr (fresh, begun ∙ (λ i. lines ++ record { step = step i; clause = clause i } ∷ []), sym long)

  mid_stays : (j : ℕ) (c : Clause) → clause_of lines j ≡ Some c → clause_of mid j ≡ Some c
  mid_stays j c h = ap (λ ls. clause_of ls j) begun ∙ clause_in_whole lines (first ∷ []) j c h

  mid_there : clause_of mid (length lines + 1) ≡ Some p.clause
  mid_there = ap (λ ls. clause_of ls (length lines + 1)) begun ∙ clause_of_end lines first ∙ ap (λ (d : Clause). Some d) clause

  mid_inputs : (q : ℕ) → q ≢ p.number → ((j : ℕ) → ¬ IsInputAt lines q j) → (j : ℕ) → ¬ IsInputAt mid q j
  mid_inputs q differ none j h = no_new_input lines first q (λ e. differ (sym (same_input p.number q (sym step ∙ e)))) none j (subst (λ ls. IsInputAt ls q j) begun h)

  pub part_is_it : (k : ℕ) → k ≡ length mid → instance terms p.clause ≡ p.clause → AddedPart lines p (instance terms p.clause) mid k
  part_is_it k here same = record {
    adds = (mid, length lines + 1, input_added, inl (same, (refl, here ∙ long)));
    there = ap (clause_of mid) (here ∙ long) ∙ mid_there ∙ ap (λ (d : Clause). Some d) (sym same);
    stays = mid_stays;
    few = omega (arith, long);
    inputs = mid_inputs;
  }

  pub part_added : (of k : ℕ) (line : Line) (after : List Line) → of ≡ length mid → k ≡ of + 1 → IsPartLine p.clause terms of line → after ≡ mid ++ line ∷ [] → AddedPart lines p (instance terms p.clause) after k
  part_added of k line after last here h grown =
      let at : of ≡ length lines + 1 = last ∙ long in
      let follows : IsSomeAnd (clause_of mid (length lines + 1)) (λ of. (length terms ≡ width of) × (line.clause ≡ instance terms of)) =
      subst (λ o. IsSomeAnd o (λ of. (length terms ≡ width of) × (line.clause ≡ instance terms of))) (sym mid_there) (many, h.clause) in
      let ended : length after ≡ length mid + 1 = ap (λ (ls : List Line). length ls) grown ∙ length-append mid (line ∷ []) in
      record {
        adds = (
          mid,
          length lines + 1,
          input_added,
          inr (
            h.other,
            (
              terms,
              terms_to_part p.clause terms canonical many,
              (line.clause, follows, grown ∙ (λ i. mid ++ record { step = (h.step ∙ ap (λ n. Instance n terms) at) i; clause = line.clause } ∷ [])),
              omega (arith, here, last, ended),
            ),
          ),
        );
        there = ap (clause_of after) (here ∙ ap (λ n. n + 1) last) ∙ ap (λ ls. clause_of ls (length mid + 1)) grown ∙ clause_of_end mid line ∙ ap (λ (d : Clause). Some d) h.clause;
        stays = λ j c e. ap (λ ls. clause_of ls j) grown ∙ clause_in_whole mid (line ∷ []) j c (mid_stays j c e);
        few = omega (arith, long, ended);
        inputs = λ q differ none j e. no_new_input mid line q (λ f. no_instance_input of terms q (sym h.step ∙ f)) (mid_inputs q differ none) j (subst (λ ls. IsInputAt ls q j) grown e);
      }

-- ---- what was found

pub the_line : (c : Clause) (terms : List Term) (of : ℕ) (o : Option Line) (line : Line) → o ≡ Some line → MatchOption o (instance terms c ≡ c) (IsPartLine c terms of) → IsPartLine c terms of line
the_line c terms of o line is h = subst (λ o. MatchOption o (instance terms c ≡ c) (IsPartLine c terms of)) is h

pub the_same : (c : Clause) (terms : List Term) (of : ℕ) (o : Option Line) → o ≡ None → MatchOption o (instance terms c ≡ c) (IsPartLine c terms of) → instance terms c ≡ c
the_same c terms of o is h = subst (λ o. MatchOption o (instance terms c ≡ c) (IsPartLine c terms of)) is h

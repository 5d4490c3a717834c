-- A derivation grows by the part of a parent.
use Rattle.std.proofs.Common.{◌≡◌, ◌∙◌, sym, ap, subst, ℕ, ◌+◌, ◌⊎◌, inl, inr, List, [], ◌∷◌, ◌++◌, length, length-append, Some, arith}
use Rattle.sc_term.specs.declared.Term.{Term}
use Rattle.sc_term.specs.declared.Clause.{Clause}
use Rattle.sc_term.specs.declared.Line.{Line}
use Rattle.sc_term.specs.declared.Numbered.{Numbered}
use Rattle.sc_term.specs.declared.Step.{Step}
use Rattle.sc_term.specs.declared.Step.TheVariants.{Input, Instance}
use Rattle.sc_term.specs.Numbering.{numbered}
use Rattle.sc_term.specs.Clause.{instance, width}
use Rattle.sc_term.specs.Proof.{clause_of}
use Rattle.sc_steps.specs.Derivation.{IsInputAt, last_clause}
use Rattle.sc_steps.proofs.ListLaws.{some_and}
use Rattle.sc_steps.proofs.LineLaws.{some_so, clause_in_whole, clause_of_end, number_in_front_or_end}
use Rattle.sc_core_rules.specs.Derivation.{Adds, AddsPart, AreTermsTo}
use Rattle.sc_core_rules.proofs.DerivationCases.{adds_instance}
use Rattle.sc_resolve.specs.Lines.{IsAdded, HasInput, HasPart}

-- ---- one line more

pub longer : (before : List Line) (step : Step) (c : Clause) (after : List Line) (k : ℕ) → IsAdded before step c after k → length after ≡ length before + 1
longer before step c after k h = ap (λ (ls : List Line). length ls) h.grown ∙ length-append before (record { step = step; clause = c } ∷ [])

pub last_there : (before : List Line) (step : Step) (c : Clause) (after : List Line) (k : ℕ) → IsAdded before step c after k → clause_of after k ≡ Some c
last_there before step c after k h =
    ap (clause_of after) (h.last ∙ longer before step c after k h) ∙ ap (λ (ls : List Line). clause_of ls (length before + 1)) h.grown ∙ clause_of_end before (record { step = step; clause = c })

pub last_is : (before : List Line) (step : Step) (c : Clause) (after : List Line) (k : ℕ) → IsAdded before step c after k → last_clause after ≡ Some c
last_is before step c after k h = ap (clause_of after) (sym h.last) ∙ last_there before step c after k h

pub still_there : (before : List Line) (step : Step) (c : Clause) (after : List Line) (k : ℕ) → IsAdded before step c after k
    → (j : ℕ) (d : Clause) → clause_of before j ≡ Some d → clause_of after j ≡ Some d
still_there before step c after k h j d e = ap (λ (ls : List Line). clause_of ls j) h.grown ∙ clause_in_whole before (record { step = step; clause = c } ∷ []) j d e

-- an added instance names no clause
input_before : (before : List Line) (of : ℕ) (terms : List Term) (c : Clause) (after : List Line) (k : ℕ) → IsAdded before (Instance of terms) c after k
    → (n j : ℕ) → IsInputAt after n j → IsInputAt before n j
input_before before of terms c after k h n j i =
    by (number_in_front_or_end before (record { step = Instance of terms; clause = c }) j found.0 found.1)
  where
    found : (line : Line) × (numbered (before ++ record { step = Instance of terms; clause = c } ∷ []) j ≡ Some line) × (line.step ≡ Input n)
    found = some_and (numbered (before ++ record { step = Instance of terms; clause = c } ∷ []) j) (λ (line : Line). line.step ≡ Input n) (subst (λ (ls : List Line). IsInputAt ls n j) h.grown i)

    by : (numbered before j ≡ Some found.0) ⊎ ((j ≡ length before + 1) × (record { step = Instance of terms; clause = c } ≡ found.0)) → IsInputAt before n j
    by (inl e) = some_so (numbered before j) (λ (line : Line). line.step ≡ Input n) found.0 e found.2
    by (inr e) = let bad : Instance of terms ≡ Input n = ap (λ (line : Line). line.step) e.1 ∙ found.2 in cc

-- ---- the part of a parent

pub adds_instance_of : (before : List Line) (j : ℕ) (c part : Clause) (terms : List Term) (after : List Line) → clause_of before j ≡ Some c → AreTermsTo c part terms
    → after ≡ before ++ record { step = Instance j terms; clause = part } ∷ [] → Adds before (Instance j terms) after
adds_instance_of before j c part terms after there are grown =
    (part, some_so (clause_of before j) (λ (of : Clause). (length terms ≡ width of) × (part ≡ instance terms of)) c there (are.many, sym are.gives), grown)

pub part_added : (before mid after : List Line) (p : Numbered) (part : Clause) (terms : List Term) (j k : ℕ) → HasInput before p mid j → ¬ (part ≡ p.clause) → AreTermsTo p.clause part terms
    → IsAdded mid (Instance j terms) part after k → HasPart before p part after k
part_added before mid after p part terms j k h differ are added = record {
  adds = subst (AddsPart before p part after) (sym added.last)
      (adds_instance before p part mid j terms after h.adds differ are (adds_instance_of mid j p.clause part terms after h.there are added.grown));
  there = last_there mid (Instance j terms) part after k added;
  few = omega (arith, h.few, longer mid (Instance j terms) part after k added);
  keeps = record {
    same = λ i c e. still_there mid (Instance j terms) part after k added i c (h.keeps.same i c e);
    named = λ n i input. by n i (h.keeps.named n i (input_before mid j terms part after k added n i input));
  };
}
  where
    by : (n i : ℕ) → IsInputAt before n i ⊎ ((n ≡ p.number) × (clause_of mid i ≡ Some p.clause)) → IsInputAt before n i ⊎ ((n ≡ p.number) × (clause_of after i ≡ Some p.clause))
    by n i (inl a) = inl a
    by n i (inr b) = inr (b.0, still_there mid (Instance j terms) part after k added i p.clause b.1)

-- The clauses with their numbers, and those of one list.
use Rattle.std.proofs.Common.{◌≡◌, ◌∙◌, sym, ap, subst, ℕ, ◌+◌, ◌<◌, ◌≤◌, List, [], ◌∷◌, ◌++◌, length, take, get_or, arith}
use Rattle.std.proofs.lemmas.List.{take_more, append-nil, length-take-le, take_all}
use Rattle.sc_term.specs.declared.Clause.{Clause}
use Rattle.sc_term.specs.declared.Numbered.{Numbered}
use Rattle.sc_core_rules.specs.Order.{IsFilter, taken, passed, none}
use Rattle.sc_core_rules.specs.Start.{numbered_from}
use Rattle.sc_core_rules.proofs.FilterLaws.{filter_append}

-- ---- numbers

numbered_end : (n k : ℕ) (cs : List Clause) (c : Clause) → k ≡ n + length cs → numbered_from n (cs ++ c ∷ []) ≡ numbered_from n cs ++ record { number = k; clause = c } ∷ []
numbered_end n k [] c e = let f : n ≡ k = omega (arith, e) in λ i. record { number = f i; clause = c } ∷ []
numbered_end n k (d ∷ cs) c e = λ i. record { number = n; clause = d } ∷ numbered_end (n + 1) k cs c (omega (arith, e)) i

pub one_numbered : (cs : List Clause) (at k : ℕ) (c d : Clause) (now after : List Numbered) → at < length cs → c ≡ get_or cs at d → k ≡ at + 1 → after ≡ now ++ record { number = k; clause = c } ∷ []
    → now ≡ numbered_from 1 (take at cs) → after ≡ numbered_from 1 (take (at + 1) cs)
one_numbered cs at k c d now after less here number grown h =
    let long = length-take-le at cs (omega (arith, less)) in
    grown ∙ ap (λ ns. ns ++ record { number = k; clause = c } ∷ []) h ∙ sym (numbered_end 1 k (take at cs) c (omega (arith, number, long)))
    ∙ ap (numbered_from 1) ((λ j. take at cs ++ here j ∷ []) ∙ sym (take_more cs at d less))

pub all_numbered : (cs : List Clause) (at : ℕ) (now : List Numbered) → length cs ≤ at → now ≡ numbered_from 1 (take at cs) → now ≡ numbered_from 1 cs
all_numbered cs at now long h = h ∙ ap (numbered_from 1) (take_all at cs long)

-- ---- one list

module _ (P : Numbered → Type 0) (ps : List Numbered) (i : ℕ) (p : Numbered) (less : i < length ps) (here : p ≡ get_or ps i p) where
  more : take i ps ++ p ∷ [] ≡ take (i + 1) ps
  more = (λ j. take i ps ++ here j ∷ []) ∙ sym (take_more ps i p less)

  pub one_taken : (now after : List Numbered) → P p → after ≡ now ++ p ∷ [] → IsFilter P (take i ps) now → IsFilter P (take (i + 1) ps) after
  one_taken now after holds grown h =
      subst (λ xs. IsFilter P xs after) more (subst (IsFilter P (take i ps ++ p ∷ [])) (sym grown) (filter_append P (take i ps) (p ∷ []) now (p ∷ []) h (taken holds none)))

  pub one_passed : (now after : List Numbered) → ¬ P p → after ≡ now → IsFilter P (take i ps) now → IsFilter P (take (i + 1) ps) after
  one_passed now after fails same h =
      subst (λ xs. IsFilter P xs after) more (subst (IsFilter P (take i ps ++ p ∷ [])) (append-nil now ∙ sym same) (filter_append P (take i ps) (p ∷ []) now [] h (passed fails none)))

-- Where each assigned number is in its range, so are the parameters.
use Rattle.std.proofs.Common.{◌≡◌, ◌∙◌, sym, ap, refl, ℕ, ◌≤◌, Bool, true, false, List, [], ◌∷◌, Some, arith}
use Rattle.std.specs.Prelude.{codes, ◌&&◌, ℤ, pos, negsuc, int_le, nat_abs, if◌then◌else◌}
use Rattle.std.specs.List.{AllByRecursion}
use Rattle.std.specs.Cmp.Lexicographic.{bytes_decides}
use Rattle.std.proofs.lemmas.Bool.{leb-true}
use Rattle.sc_input_rules.specs.declared.token.Token.TheVariants.{Word}
use Rattle.sc_input_rules.specs.Token.{same_text}
use Rattle.sc_input_rules.specs.Reader.{Name}
use Rattle.sc_input_rules.specs.Settings.{from_to}
use Rattle.sc_input_rules.specs.ProblemGrammar.{Item, Setting, Assignment, Listing}
use Rattle.sc_input_rules.specs.Problem.{last_value, params_of}
use Rattle.sc_input_rules.specs.ProblemLimits.{range_of}
use Rattle.sc_input_rules.specs.WellFormed.{IsBetween, AreParams}
use Rattle.sc_input_rules.proofs.ItemsRead.{NumberFits}
use Rattle.sc_input_rules.proofs.Booleans.{parts_hold}

between : (low high : ℕ) (v : ℤ) → (int_le (pos low) v && int_le v (pos high)) ≡ true → IsBetween low high (nat_abs v)
between low high (pos k) e = let s = parts_hold _ _ e in (leb-true low k s.0, leb-true k high s.1)
between low high (negsuc k) e = absurd cc

-- the range of a parameter, wherever its name stands
abbrev HasRange : List ℕ → ℕ → ℕ → Type 0
HasRange name low high = (at : ℕ) → range_of (Word at name) ≡ Some (from_to low high)

module _ (name : List ℕ) (low high : ℕ) (range : HasRange name low high) where
  assigned : (n : Name) (v : ℤ) → NumberFits (Assignment n v) → same_text name n.text ≡ true → IsBetween low high (nat_abs v)
  assigned n v fits e =
      let text : name ≡ n.text = (bytes_decides name n.text).0 e in
      between low high v (fits (from_to low high) (ap (λ (text : List ℕ). range_of (Word n.at text)) (sym text) ∙ range n.at))

  last-between : (so_far : ℕ) (items : List Item) → AllByRecursion NumberFits items → IsBetween low high so_far → IsBetween low high (last_value name so_far items)
  last-between so_far [] h b = b
  last-between so_far (Setting n positive ∷ items) h b = last-between so_far items h.1 b
  last-between so_far (Assignment n v ∷ items) h b = last-between (if same_text name n.text then nat_abs v else so_far) items h.1 (by (same_text name n.text) refl)
    where
      by : (c : Bool) → same_text name n.text ≡ c → IsBetween low high (if c then nat_abs v else so_far)
      by true e = assigned n v h.0 e
      by false e = b
  last-between so_far (Listing n clauses ∷ items) h b = last-between so_far items h.1 b

pub are_params : (items : List Item) → AllByRecursion NumberFits items → AreParams (params_of items)
are_params items h =
    let ratio = last-between (codes "pick_given_ratio") 0 1000 (λ at. refl) 4 items h (omega arith) in
    let demod = last-between (codes "demod_limit") 0 1000 (λ at. refl) 1000 items h (omega arith) in
    let proofs = last-between (codes "max_proofs") 1 1 (λ at. refl) 1 items h (omega arith) in
    record {
      pick_given_ratio = ratio.1;
      max_weight = last-between (codes "max_weight") 1 1000 (λ at. refl) 100 items h (omega arith);
      max_literals = last-between (codes "max_literals") 1 1000 (λ at. refl) 64 items h (omega arith);
      max_given = last-between (codes "max_given") 1 1000000 (λ at. refl) 10000 items h (omega arith);
      max_kept = last-between (codes "max_kept") 1 100000 (λ at. refl) 20000 items h (omega arith);
      demod_limit = demod.1;
      max_proofs = one (last_value (codes "max_proofs") 1 items) proofs.0 proofs.1;
    }
  where
    one : (n : ℕ) → 1 ≤ n → n ≤ 1 → n ≡ 1
    one n a b = omega arith

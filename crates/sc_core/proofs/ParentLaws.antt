-- Parents are gathered one by one.
use Rattle.std.proofs.Common.{◌≡◌, ◌≢◌, ℕ, List, [], ◌∷◌, ◌++◌, get_or, Some, arith}
use Rattle.std.specs.List.{All, Any, Contains}
use Rattle.std.proofs.lemmas.List.Elements.{All-push, Contains-get_or}
use Rattle.std.proofs.lemmas.List.Quantifiers.{all_pairs_push}
use Rattle.sc_term.specs.declared.Clause.{Clause}
use Rattle.sc_term.specs.declared.Numbered.{Numbered}
use Rattle.sc_term.specs.Numbering.{numbered}
use Rattle.sc_core_rules.proofs.FilterLaws.{in_first, in_second}
use Rattle.sc_term.proofs.ContainsLaws.{at_first}
use Rattle.sc_core.specs.Parents.{AreParents, HasNumber}

has_any : (ps : List Numbered) (n : ℕ) → Any (λ p. p.number ≡ n) ps → HasNumber ps n
has_any ps n h = (h.1, (h.0, h.2, h.3), h.4)

module _ (clauses : List Clause) where
  pub no_parents : AreParents clauses [] []
  no_parents = record {
    differ = λ i j d less within. absurd (omega (arith, within));
    stand = λ k d within. absurd (omega (arith, within));
    named = λ k d within. absurd (omega (arith, within));
    all = λ k d within. absurd (omega (arith, within));
  }

  module _ (ns : List ℕ) (ps : List Numbered) (n : ℕ) (are : AreParents clauses ns ps) where
    still_named : All (λ p. Contains (ns ++ n ∷ []) p.number) ps
    still_named k d within = in_first (get_or ps k d).number ns (n ∷ []) (are.named k d within)

    -- the number is there already
    pub known_parent : Any (λ p. p.number ≡ n) ps → AreParents clauses (ns ++ n ∷ []) ps
    known_parent there = record {
      differ = are.differ;
      stand = are.stand;
      named = still_named;
      all = All-push (HasNumber ps) ns n are.all (has_any ps n there);
    }

    -- the clause of the number joins
    pub new_parent : (c : Clause) → ¬ Any (λ p. p.number ≡ n) ps → numbered clauses n ≡ Some c → AreParents clauses (ns ++ n ∷ []) (ps ++ record { number = n; clause = c } ∷ [])
    new_parent c none stands = record {
      differ = all_pairs_push (λ p q. p.number ≢ q.number) ps p are.differ (λ k d within e. let h = Contains-get_or ps k d within in none (h.0, get_or ps k d, h.1, h.2, e));
      stand = All-push (λ q. numbered clauses q.number ≡ Some q.clause) ps p are.stand stands;
      named = All-push (λ q. Contains (ns ++ n ∷ []) q.number) ps p still_named (in_second n ns (n ∷ []) (at_first n []));
      all = All-push (HasNumber (ps ++ p ∷ [])) ns n
          (λ k d within. let h = are.all k d within in (h.0, in_first h.0 ps (p ∷ []) h.1, h.2))
          (p, in_second p ps (p ∷ []) (at_first p []), λ i. n);
    }
      where
        p : Numbered
        p = record { number = n; clause = c }

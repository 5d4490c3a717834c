use Rattle.std.proofs.Common.{◌∙◌, sym, subst, refl, ℕ, List, length, ◌≤◌}
use Rattle.sc_term.specs.JointInstance.{canonical}
use Rattle.sc_core_rules.specs.Derivation.{AreTermsTo}
use Rattle.sc_keep.specs.Canonical.{place_terms}
use Rattle.sc_keep.proofs.CanonicalLaws.{canonical_terms}
use Rattle.sc_keep.proofs.LightLaws.{few_firsts}
use Rattle.sc_keep.proofs.canonical.canonical_line.Goals as goal

pub returns : goal.returns
returns c = record {
  terms = c.in_ok-terms.terms;
  are_terms = subst (AreTermsTo c.args.c.now (canonical c.args.c.now))
      (sym (c.in_ok-terms.ensures ∙ (λ i. place_terms (c.requires.order i) (c.full_width.ensures i))))
      (canonical_terms c.args.c.now);
  step = refl;
  clause = c.in_ok-clause.ensures;
}

pub places-requires : goal.places-requires
places-requires c = subst (λ (ns : List ℕ). length ns ≤ 10000) (sym c.requires.order) (few_firsts c.args.c.now c.requires.light)

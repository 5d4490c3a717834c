-- An equation becomes a demodulator where its sides decrease.
use Rattle.std.proofs.Common.{◌≡◌, ◌∙◌, sym, ap, subst, ◌+◌, ◌<◌, ◌↔◌, List, sum, map, Bool, IsTrue, arith}
use Rattle.sc_term.specs.declared.Term.{Term}
use Rattle.sc_term.specs.declared.Literal.{Literal}
use Rattle.sc_term.specs.declared.Clause.{Clause}
use Rattle.sc_term.specs.Term.{term_weight}
use Rattle.sc_term.specs.Clause.{weight, literal_weight}
use Rattle.sc_core_rules.specs.Paramodulation.{IsCompound}
use Rattle.sc_core_rules.specs.Rewriting.{IsEquation, BecomesDemodulator}
use Rattle.sc_core_rules.proofs.SimplifyLaws.{same_sides}
use Rattle.sc_demod.specs.Becoming.{AreDecreasing}
use Rattle.sc_demod.specs.Counting.{OccursNoMore}

-- the clause weighs its sides and 1
pub weight_of_sides : (c : Clause) (left right : Term) → IsEquation c left right → weight c ≡ 1 + term_weight left + term_weight right
weight_of_sides c left right e = ap (λ (ls : List Literal). sum (map literal_weight ls)) e ∙ omega arith

pub becomes_where : (c : Clause) (left right : Term) (r : Bool) → IsEquation c left right → (IsTrue r ↔ AreDecreasing left right) → IsTrue r ↔ BecomesDemodulator c
becomes_where c left right r e h = (
  λ yes. let d = h.0 yes in record { left = left; right = right; equates = e; compound = d.compound; lighter = d.lighter; fewer = d.fewer },
  λ b.
      let both = same_sides b.left b.right left right (sym b.equates ∙ e) in
      h.1 (record {
        compound = subst IsCompound both.0 b.compound;
        lighter = subst (λ (t : Term). term_weight t < term_weight left) both.1 (subst (λ (t : Term). term_weight b.right < term_weight t) both.0 b.lighter);
        fewer = λ v. subst (λ (t : Term). OccursNoMore t left v) both.1 (subst (λ (t : Term). OccursNoMore b.right t v) both.0 (b.fewer v));
      }),
)

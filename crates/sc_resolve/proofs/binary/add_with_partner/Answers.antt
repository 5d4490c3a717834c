use Rattle.std.proofs.Common.{◌∙◌, sym, ap, length, arith, ◌≡◌, List, subst, false}
use Rattle.std.specs.List.{list_any}
use Rattle.std.specs.Prelude.{OnOk}
use Rattle.sc_term.specs.declared.Literal.{Literal}
use Rattle.sc_term.specs.declared.Clause.{Clause}
use Rattle.sc_term.specs.JointInstance.{shift}
use Rattle.sc_core_rules.specs.Resolution.{binary_numbers}
use Rattle.sc_resolve.specs.Extending.{Extends, Below}
use Rattle.sc_resolve.specs.Binary.{IsWithClause}
use Rattle.sc_resolve.specs.Literals.{may_resolve}
use Rattle.sc_resolve.proofs.KeptLaws.{kept_width, kept_length, shifted_length}
use Rattle.sc_resolve.proofs.BinaryLaws.{none_found}
use Rattle.sc_term.specs.Clause.{width}
use Rattle.sc_resolve.proofs.binary.add_with_partner.Goals as goal

pub returns-then-not-may_resolve_any : goal.returns-then-not-may_resolve_any
returns-then-not-may_resolve_any c =
    none_found c.args.limit c.args.partner.now.number c.args.given.now.clause.literals (width c.args.given.now.clause) c.args.partner.now.clause c.args.sites.now
    (subst (λ (ls : List Literal). list_any (λ l. list_any (may_resolve l) ls) c.args.given.now.clause.literals ≡ false) c.as_slice.ensures
    (subst (λ (ls : List Literal). list_any (λ l. list_any (may_resolve l) c.as_slice.result.now) ls ≡ false) c.as_slice-literals.ensures
    (sym c.may_resolve_any.ensures ∙ c.if-not-may_resolve_any.true)))

pub width-requires : goal.width-requires
width-requires c = omega (arith, kept_width c.args.given.now.clause c.requires.given)

pub shift-requires : goal.shift-requires
shift-requires c = omega (arith, kept_width c.args.given.now.clause c.requires.given, kept_width c.args.partner.now.clause c.requires.partner)

pub add_with_clause-requires-clause-few : goal.add_with_clause-requires-clause-few
add_with_clause-requires-clause-few c = omega (arith, kept_length c.args.given.now.clause c.requires.given, ap (λ (l : List Literal). length l) c.as_slice-literals.ensures)

pub add_with_clause-requires-clause-few_others : goal.add_with_clause-requires-clause-few_others
add_with_clause-requires-clause-few_others c =
    omega (
      arith,
      kept_length c.args.partner.now.clause c.requires.partner,
      ap (λ (l : List Literal). length l) c.as_slice-2.ensures,
      ap (λ (d : Clause). length d.literals) c.in_ok-apart.ensures,
      shifted_length c.width.result c.args.partner.now.clause,
    )

pub returns : goal.returns
returns c =
    subst (λ (ls : List Literal). OnOk c.add_with_clause.result (Extends binary_numbers (Below (IsWithClause c.args.partner.now.number c.args.given.now.clause.literals ls) (length c.args.given.now.clause.literals)) c.args.limit c.args.sites.now c.add_with_clause.new.sites))
    (c.as_slice-2.ensures ∙ ap (λ (d : Clause). d.literals) c.in_ok-apart.ensures ∙ ap (λ n. (shift n c.args.partner.now.clause).literals) c.width.ensures)
    (subst (λ (ls : List Literal). OnOk c.add_with_clause.result (Extends binary_numbers (Below (IsWithClause c.args.partner.now.number ls c.as_slice-2.result.now) (length ls)) c.args.limit c.args.sites.now c.add_with_clause.new.sites))
    c.as_slice-literals.ensures c.add_with_clause.ensures)

use Rattle.std.proofs.Common.{◌∙◌, sym, subst}
use Rattle.sc_term.specs.Symbol.{IsSignature}
use Rattle.sc_input_rules.specs.WellFormed.{IsProblem}
use Rattle.sc_input_values.proofs.ListingLaws.{symbols_as, few_in_items, as_stated}
use Rattle.sc_input_values.proofs.stated.problem_from.Goals as goal

pub signature_of-requires : goal.signature_of-requires
signature_of-requires c = subst IsSignature (symbols_as c.args.items.now) c.requires.signature

pub inputs_of-requires : goal.inputs_of-requires
inputs_of-requires c = few_in_items c.args.items.now c.requires

pub new-requires : goal.new-requires
new-requires c =
    subst IsProblem
    (sym (as_stated c.args.items.now c.in_ok-sig.sig c.in_ok-inputs.inputs c.in_ok-homes.homes c.flags_from.result c.params_from.result
    c.in_ok-sig.ensures c.in_ok-inputs.ensures c.in_ok-homes.ensures c.flags_from.ensures c.params_from.ensures))
    c.requires

pub returns : goal.returns
returns c =
    c.new.ensures
    ∙ as_stated c.args.items.now c.in_ok-sig.sig c.in_ok-inputs.inputs c.in_ok-homes.homes c.flags_from.result c.params_from.result
    c.in_ok-sig.ensures c.in_ok-inputs.ensures c.in_ok-homes.ensures c.flags_from.ensures c.params_from.ensures

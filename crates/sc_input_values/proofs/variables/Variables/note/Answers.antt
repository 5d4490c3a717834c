use Rattle.std.proofs.Common.{◌≡◌, ◌∙◌, ap, map, length, arith}
use Rattle.std.proofs.lemmas.List.{length-map}
use Rattle.sc_input_rules.specs.Token.{same_text}
use Rattle.sc_input_values.specs.Once.{with_new}
use Rattle.sc_input_values.proofs.NameLaws.{names_grow, text}
use Rattle.sc_input_values.proofs.variables.Variables.note.Goals as goal

pub invariant_of-self-2 : goal.invariant_of-self-2
invariant_of-self-2 c =
    let keys = c.insert_full.new.self.keys in
    let grown : map text keys ≡ with_new same_text c.args.self.now c.args.name.now =
    ap (map text) c.in_ok-insert_full.ensures.keys ∙ names_grow c.self.inside.names.keys c.args.name ∙ ap (λ ns. with_new same_text ns c.args.name.now) c.self.view_is in
    let room = c.requires in
    omega (arith, length-map keys text, ap length grown, room)

pub returns : goal.returns
returns c = ap (map text) c.in_ok-insert_full.ensures.keys ∙ names_grow c.self.inside.names.keys c.args.name ∙ ap (λ ns. with_new same_text ns c.args.name.now) c.self.view_is

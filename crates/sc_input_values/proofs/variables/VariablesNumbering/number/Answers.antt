use Rattle.std.proofs.Common.{◌≡◌, ◌∙◌, sym, ap, ℕ, true, List, map, Option, Some, None, Bor, position, if◌then◌else◌}
use Rattle.sc_input_rules.specs.declared.written.Occurrence.{Occurrence}
use Rattle.sc_input_rules.specs.Numbering.{is_variable}
use Rattle.sc_input_rules.specs.Token.{same_text}
use Rattle.sc_input_values.specs.Names.{number_among}
use Rattle.sc_input_values.proofs.NameLaws.{position-map}
use Rattle.sc_input_values.proofs.variables.VariablesNumbering.number.Goals as goal

place : (name text : List ℕ) (keys : List (Bor (List ℕ))) (names : List (List ℕ)) (found : Option ℕ) → found ≡ position (λ k. same_text text k.now) keys → text ≡ name
    → map (λ k. k.now) keys ≡ names → found ≡ position (same_text name) names
place name text keys names found at named seen =
    at ∙ ap (λ n. position (λ (k : Bor (List ℕ)). same_text n k.now) keys) named ∙ position-map (same_text name) (λ (k : Bor (List ℕ)). k.now) keys ∙ ap (position (same_text name)) seen

among : (names : List (List ℕ)) (o : Occurrence) (found : Option ℕ) → is_variable o ≡ true → found ≡ position (same_text o.name) names → found ≡ number_among names o
among names o found is_one at = at ∙ ap (λ b. if b then position (same_text o.name) names else None) (sym is_one)

pub returns-in-Some : goal.returns-in-Some
returns-in-Some c =
    among c.args.self.now c.args.occurrence.now (Some c.in-Some.at) (sym c.is_variable.ensures ∙ c.if-is_variable.true)
    (place _ c.as_slice.result.now c.self.inside.names.keys c.args.self.now (Some c.in-Some.at) c.in-Some.ensures.index c.as_slice.ensures c.self.view_is)

pub returns-in-None : goal.returns-in-None
returns-in-None c =
    among c.args.self.now c.args.occurrence.now None (sym c.is_variable.ensures ∙ c.if-is_variable.true)
    (place _ c.as_slice.result.now c.self.inside.names.keys c.args.self.now None c.in-None.ensures.index c.as_slice.ensures c.self.view_is)

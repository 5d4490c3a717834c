-- Clipping the numbers of items one by one, or of all.
use Rattle.std.proofs.Common.{◌≡◌, ◌∙◌, ap, refl, ℕ, zero, suc, Bool, true, false, List, [], ◌∷◌, Ok, Err}
use Rattle.sc_input_rules.specs.declared.token.Token.{Token}
use Rattle.sc_input_rules.specs.Reader.{Read, ◌>>=◌, repeated, unexpected}
use Rattle.sc_input_rules.specs.ProblemGrammar.{Item, item}
use Rattle.sc_input_grammar.specs.Items.{clipped_item, clipped_items, told_item, with_clipped}

ended : (b : Bool) (tokens : List Token) (more told : Read (List Item)) → clipped_items more ≡ told
    → clipped_items (elim b as (λ _. Read (List Item)) [ true ↦ Ok ([], tokens) | false ↦ more ]) ≡ elim b as (λ _. Read (List Item)) [ true ↦ Ok ([], tokens) | false ↦ told ]
ended true tokens more told e = refl
ended false tokens more told e = e

in_front : (x : Item) (r : Read (List Item))
    → clipped_items (r >>= λ others. Ok (x ∷ others.0, others.1)) ≡ clipped_items r >>= λ others. Ok (with_clipped x ∷ others.0, others.1)
in_front x (Ok r) = refl
in_front x (Err f) = refl

first_and : (one : Read Item) (others told : List Token → Read (List Item)) → ((tokens : List Token) → clipped_items (others tokens) ≡ told tokens)
    → clipped_items (one >>= λ first. others first.1 >>= λ others. Ok (first.0 ∷ others.0, others.1))
    ≡ clipped_item one >>= λ first. told first.1 >>= λ others. Ok (first.0 ∷ others.0, others.1)
first_and (Ok x) others told e =
    in_front x.0 (others x.1) ∙ ap (λ (r : Read (List Item)). r >>= λ others. Ok (with_clipped x.0 ∷ others.0, others.1)) (e x.1)
first_and (Err f) others told e = refl

pub clipped_in_turn : (ends : List Token → Bool) (n : ℕ) (tokens : List Token)
    → clipped_items (repeated ends item n tokens) ≡ repeated ends told_item n tokens
clipped_in_turn ends zero tokens = ended (ends tokens) tokens (unexpected tokens) (unexpected tokens) refl
clipped_in_turn ends (suc n) tokens =
    ended (ends tokens) tokens _ _ (first_and (item tokens) (repeated ends item n) (repeated ends told_item n) (clipped_in_turn ends n))

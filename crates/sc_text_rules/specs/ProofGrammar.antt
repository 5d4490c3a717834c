-- The productions of a proof section.
use Rattle.std.specs.Prelude.{ℕ, zero, suc, ◌+◌, true, false, List, [], ◌∷◌, map, length, flat_map, Ok, codes}
use Rattle.sc_term.specs.declared.Step.{Step}
use Rattle.sc_term.specs.declared.Step.TheVariants.{Input, Instance, Resolve, Merge, Para, Flip}
use Rattle.sc_term.specs.declared.Side.TheVariants.{Left, Right}
use Rattle.sc_term.specs.declared.Side.{Side}
use Rattle.sc_term.specs.declared.Term.{Term}
use Rattle.sc_term.specs.declared.Clause.{Clause}
use Rattle.sc_term.specs.declared.Line.{Line}
use Rattle.sc_term.specs.declared.symbol.Symbol.{Symbol}
use Rattle.sc_input_rules.specs.declared.token.Token.{Token}
use Rattle.sc_input_rules.specs.declared.token.Sign.TheVariants.{Close, Comma, Stop, Colon}
use Rattle.sc_input_rules.specs.Token.{is_sign, same_text}
use Rattle.sc_input_rules.specs.Reader.{Read, ◌>>=◌, unexpected, next_is, the_sign, the_word, a_word, separated}
use Rattle.sc_input_rules.specs.ClauseGrammar.{bracketed, side, clause}
use Rattle.sc_input_rules.specs.ProblemGrammar.{next_is_word}
use Rattle.sc_input_rules.specs.Numbering.{terms_of, literal_of}
use Rattle.sc_text_rules.specs.TextWords.{a_number, the_number, text_variable}

-- ---- clauses and terms

abbrev pub text_clause : List Symbol → List Token → Read Clause
text_clause symbols tokens = do
  written ← clause tokens
  stop ← the_sign Stop written.1
  Ok (record { literals = map (literal_of text_variable symbols) written.0 }, stop.1)

-- none, or sides with `,` between them
abbrev pub text_terms : List Symbol → List Token → Read (List Term)
text_terms symbols tokens =
    elim (next_is (is_sign Close) tokens) [
      | true ↦ Ok ([], tokens)
      | false ↦ separated Comma side (length tokens) tokens >>= λ ss. Ok (flat_map (terms_of text_variable symbols) ss.0, ss.1)
    ]

-- ---- steps

abbrev pub a_side : List Token → Read Side
a_side tokens =
    elim (next_is_word (codes "left") tokens) [
      | true ↦ the_word (codes "left") tokens >>= λ w. Ok (Left, w.1)
      | false ↦ the_word (codes "right") tokens >>= λ w. Ok (Right, w.1)
    ]

abbrev pub input_step : List Token → Read Step
input_step tokens = a_number tokens >>= λ k. Ok (Input k.0, k.1)

abbrev pub instance_step : List Symbol → List Token → Read Step
instance_step symbols tokens = do
  j ← a_number tokens
  terms ← bracketed (text_terms symbols) j.1
  Ok (Instance j.0 terms.0, terms.1)

abbrev pub resolve_step : List Token → Read Step
resolve_step tokens = do
  j ← a_number tokens
  a ← a_number j.1
  k ← a_number a.1
  b ← a_number k.1
  Ok (Resolve j.0 a.0 k.0 b.0, b.1)

abbrev pub of_line_and_literal : (ℕ → ℕ → Step) → List Token → Read Step
of_line_and_literal step tokens = do
  j ← a_number tokens
  a ← a_number j.1
  Ok (step j.0 a.0, a.1)

abbrev pub para_step : List Token → Read Step
para_step tokens = do
  j ← a_number tokens
  a ← a_number j.1
  side ← a_side a.1
  k ← a_number side.1
  b ← a_number k.1
  path ← bracketed (separated Comma a_number (length b.1)) b.1
  Ok (Para j.0 a.0 side.0 k.0 b.0 path.0, path.1)

abbrev pub step_named : List Symbol → List ℕ → List Token → List Token → Read Step
step_named symbols name behind tokens =
    elim (same_text name (codes "input")) [
      | true ↦ input_step behind
      | false ↦
          elim (same_text name (codes "instance")) [
            | true ↦ instance_step symbols behind
            | false ↦
                elim (same_text name (codes "resolve")) [
                  | true ↦ resolve_step behind
                  | false ↦
                      elim (same_text name (codes "merge")) [
                        | true ↦ of_line_and_literal (λ j a. Merge j a) behind
                        | false ↦
                            elim (same_text name (codes "para")) [
                              | true ↦ para_step behind
                              | false ↦
                                  elim (same_text name (codes "flip")) [ true ↦ of_line_and_literal (λ j a. Flip j a) behind | false ↦ unexpected tokens ]
                            ]
                      ]
                ]
          ]
    ]

abbrev pub a_step : List Symbol → List Token → Read Step
a_step symbols tokens = a_word tokens >>= λ name. step_named symbols name.0.text name.1 tokens

-- ---- lines

-- number, step, colon, clause, full stop
abbrev pub a_line : List Symbol → ℕ → List Token → Read Line
a_line symbols number tokens = do
  n ← the_number number tokens
  step ← a_step symbols n.1
  colon ← the_sign Colon step.1
  c ← text_clause symbols colon.1
  Ok (record { step = step.0; clause = c.0 }, c.1)

-- the lines up to the closing word, the first with the number given
abbrev pub lines_within : ℕ → List Symbol → ℕ → List Token → Read (List Line)
lines_within zero symbols number tokens = unexpected tokens
lines_within (suc n) symbols number tokens =
    elim (next_is_word (codes "end_of_proof") tokens) [
      | true ↦ Ok ([], tokens)
      | false ↦ a_line symbols number tokens >>= λ first. lines_within n symbols (number + 1) first.1 >>= λ others. Ok (first.0 ∷ others.0, others.1)
    ]

-- a word and a full stop
abbrev pub the_heading : List ℕ → List Token → Read (Unit {0})
the_heading name tokens = the_word name tokens >>= λ w. the_sign Stop w.1

abbrev pub proof_section : List Symbol → List Token → Read (List Line)
proof_section symbols tokens = do
  begin ← the_heading (codes "proof") tokens
  lines ← lines_within (length begin.1) symbols 1 begin.1
  end ← the_heading (codes "end_of_proof") lines.1
  Ok (lines.0, end.1)

-- a production behind which nothing stands
abbrev pub alone : {A : Type 0} → Read A → Read A
alone read = read >>= λ r. elim r.1 [ [] ↦ Ok r | t ∷ tokens ↦ unexpected (t ∷ tokens) ]

-- The text of a line as pieces, each behind the one before.
use Rattle.std.proofs.Common.{◌≡◌, refl, ap, ℕ, List, [], ◌∷◌, ◌++◌, append_assoc}
use Rattle.std.specs.Prelude.{codes, decimal}
use Rattle.sc_term.specs.declared.Line.{Line}
use Rattle.sc_term.specs.declared.Step.{Step}
use Rattle.sc_term.specs.declared.Step.TheVariants.{Input, Instance, Resolve, Merge, Para, Flip}
use Rattle.sc_term.specs.declared.symbol.Symbol.{Symbol}
use Rattle.sc_text_rules.specs.ClauseText.{joined_by, clause_text}
use Rattle.sc_text_rules.specs.ProofText.{words, step_words, line_text}

pub joined_by-append : (between u : List ℕ) (us : List (List ℕ)) (v : List ℕ) (vs : List (List ℕ))
    → joined_by between (u ∷ us ++ v ∷ vs) ≡ joined_by between (u ∷ us) ++ (between ++ joined_by between (v ∷ vs))
joined_by-append b u [] v vs = simp append_assoc refl
joined_by-append b u (t ∷ us) v vs = let e = joined_by-append b t us v vs in simp append_assoc (ap (λ s. u ++ (b ++ s)) e)

step_behind_number : (symbols : List Symbol) (n : ℕ) (step : Step) → words (decimal n ∷ step_words symbols step) ≡ decimal n ++ codes " " ++ words (step_words symbols step)
step_behind_number symbols n (Input k) = refl
step_behind_number symbols n (Instance j terms) = refl
step_behind_number symbols n (Resolve j a k b) = refl
step_behind_number symbols n (Merge j a) = refl
step_behind_number symbols n (Para j a side k b path) = refl
step_behind_number symbols n (Flip j a) = refl

pub line_pieces : (symbols : List Symbol) (n : ℕ) (line : Line) → line_text symbols n line
    ≡ decimal n ++ codes " " ++ words (step_words symbols line.step) ++ codes " : " ++ clause_text symbols line.clause ++ codes ".\n"
line_pieces symbols n line =
    let e = joined_by-append (codes " ") (decimal n) (step_words symbols line.step) (codes ":") (clause_text symbols line.clause ∷ []) in
    let s = step_behind_number symbols n line.step in
    rw e (rw s (simp append_assoc refl))

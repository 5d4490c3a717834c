-- The terms that are made of the occurrences of a tree are those of the tree.
use Rattle.std.proofs.Common.{◌≡◌, ◌∙◌, sym, ap, refl, ℕ, List, [], ◌∷◌, ◌++◌, take, drop, length, append_assoc, Option, Some, None, arith}
use Rattle.std.proofs.lemmas.List.{append-nil}
use Rattle.std.proofs.Math.Seq.{take-append_seam, drop-append_seam}
use Rattle.sc_term.specs.declared.Term.{Term}
use Rattle.sc_term.specs.declared.Term.TheVariants.{Var, App}
use Rattle.sc_term.specs.declared.symbol.Symbol.{Symbol}
use Rattle.sc_input_rules.specs.declared.written.Occurrence.{Occurrence}
use Rattle.sc_input_rules.specs.Numbering.{function_at, symbol_number, term_at, terms_of}
use Rattle.sc_input_rules.proofs.Spelling.{Sides, Empty, Entry, count, occurrence, occurrences}
use Rattle.sc_input_rules.proofs.ClauseSpelling.{Atom, Plain, Equation, atom_written}

module _ (variable : Occurrence → Option ℕ) (symbols : List Symbol) where
  abbrev pub term_from : Occurrence → List Term → Term
  term_from o args = elim (variable o) [ Some n ↦ Var n | None ↦ App (symbol_number symbols (function_at o).symbol) args ]

  abbrev pub terms : Sides → List Term
  terms Empty = []
  terms (Entry h args comma others) = term_from (occurrence h args) (terms args) ∷ terms others

  pub terms-length : (f : Sides) → length (terms f) ≡ count f
  terms-length Empty = refl
  terms-length (Entry h args comma others) = let e = terms-length others in omega arith

  pub terms_of-occurrences : (f : Sides) (os : List Occurrence) → terms_of variable symbols (occurrences f ++ os) ≡ terms f ++ terms_of variable symbols os
  terms_of-occurrences Empty os = refl
  terms_of-occurrences (Entry h args comma others) os =
      let o = occurrence h args in
      let behind = terms others ++ terms_of variable symbols os in
      let later : terms_of variable symbols ((occurrences args ++ occurrences others) ++ os) ≡ terms args ++ behind =
      ap (terms_of variable symbols) (append_assoc (occurrences args) (occurrences others) os) ∙ terms_of-occurrences args (occurrences others ++ os) ∙ ap (λ ts. terms args ++ ts) (terms_of-occurrences others os) in
      let front : take (count args) (terms args ++ behind) ≡ terms args = ap (λ n. take n (terms args ++ behind)) (sym (terms-length args)) ∙ take-append_seam (terms args) behind in
      let back : drop (count args) (terms args ++ behind) ≡ behind = ap (λ n. drop n (terms args ++ behind)) (sym (terms-length args)) ∙ drop-append_seam (terms args) behind in
      (λ i. term_at variable symbols o (later i) ∷ drop (count args) (later i)) ∙ (λ i. term_from o (front i) ∷ back i)

  pub terms_of-alone : (f : Sides) → terms_of variable symbols (occurrences f) ≡ terms f
  terms_of-alone f = ap (terms_of variable symbols) (sym (append-nil (occurrences f))) ∙ terms_of-occurrences f [] ∙ append-nil (terms f)

-- the sides that are the arguments of an atom
abbrev pub sides_under : Atom → Sides
sides_under (Plain h args) = args
sides_under (Equation e) = Entry e.left_head e.left_args 0 (Entry e.right_head e.right_args 0 Empty)

pub sides_under-arguments : (a : Atom) → (atom_written a).arguments ≡ occurrences (sides_under a)
sides_under-arguments (Plain h args) = refl
sides_under-arguments (Equation e) =
    ap (λ os. occurrence e.left_head e.left_args ∷ (occurrences e.left_args ++ occurrence e.right_head e.right_args ∷ os)) (sym (append-nil (occurrences e.right_args)))

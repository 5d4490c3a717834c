-- No name of a clause has more than eight arguments, where no comma before a ninth stands in its tokens.
use Rattle.std.proofs.Common.{◌≡◌, ◌∙◌, sym, ap, subst, refl, ℕ, Bool, true, false, List, [], ◌∷◌, ◌++◌, map, arith}
use Rattle.std.specs.Prelude.{flat_map}
use Rattle.std.specs.List.{AllByRecursion}
use Rattle.sc_term.proofs.SubstitutionLaws.{all_join}
use Rattle.sc_input_rules.specs.declared.token.Token.TheVariants.{Punctuation}
use Rattle.sc_input_rules.specs.declared.token.Sign.TheVariants.{Bar}
use Rattle.sc_input_rules.specs.declared.written.WrittenLiteral.{WrittenLiteral}
use Rattle.sc_input_rules.specs.Measures.{open_commas}
use Rattle.sc_input_rules.proofs.Spelling.{side_tokens, side_of}
use Rattle.sc_input_rules.proofs.ClauseSpelling.{Atom, Plain, Equation, Wrapping, Bare, Negative, Brackets, NegativeBrackets, LiteralTree, ClauseTree, Falsum, Literals, equal_sign, atom_tokens, opening_tokens, closing_tokens, literal_tokens, behind_bar, clause_tokens, atom_written, literal_written, clause_written}
use Rattle.sc_input_rules.proofs.ArityLaw.{FewCommas, SmallArity, few_front, few_back, open_commas-append, side-commas, side-arity}
use Rattle.sc_input_rules.proofs.ClauseParts.{wrapped-arguments, wrapped-predicate}

-- every name of the literal has at most eight arguments
pub record IsNarrow (l : WrittenLiteral) : Type 0 where
  pub predicate : SmallArity l.predicate
  pub arguments : AllByRecursion SmallArity l.arguments

sign-commas : (positive : Bool) (at : ℕ) (commas : List ℕ) → open_commas commas (Punctuation at (equal_sign positive) ∷ []) ≡ commas
sign-commas true at commas = refl
sign-commas false at commas = refl

atom-commas : (a : Atom) (commas : List ℕ) → open_commas commas (atom_tokens a) ≡ commas
atom-commas (Plain h args) commas = side-commas h args commas
atom-commas (Equation e) commas =
    let right = side_tokens e.right_head e.right_args in
    let sign = Punctuation e.at (equal_sign e.positive) in
    open_commas-append commas (side_tokens e.left_head e.left_args) (sign ∷ right)
    ∙ ap (λ (commas : List ℕ). open_commas commas (sign ∷ right)) (side-commas e.left_head e.left_args commas)
    ∙ ap (λ (commas : List ℕ). open_commas commas right) (sign-commas e.positive e.at commas)
    ∙ side-commas e.right_head e.right_args commas

atom-narrow : (a : Atom) (commas : List ℕ) → FewCommas commas (atom_tokens a) → IsNarrow (atom_written a)
atom-narrow (Plain h args) commas few = let k = side-arity h args commas few in record { predicate = k.0; arguments = k.1 }
atom-narrow (Equation e) commas few =
    let left = side_tokens e.left_head e.left_args in
    let right = side_tokens e.right_head e.right_args in
    let sign = Punctuation e.at (equal_sign e.positive) in
    let behind = subst (λ commas. FewCommas commas (sign ∷ right)) (side-commas e.left_head e.left_args commas) (few_back commas left (sign ∷ right) few) in
    let last = subst (λ commas. FewCommas commas right) (sign-commas e.positive e.at commas) (few_back commas (sign ∷ []) right behind) in
    record {
      predicate = omega arith;
      arguments = all_join SmallArity (side_of e.left_head e.left_args) (side_of e.right_head e.right_args)
          (side-arity e.left_head e.left_args commas (few_front commas left (sign ∷ right) few)) (side-arity e.right_head e.right_args commas last);
    }

closed-commas : (commas : List ℕ) (w : Wrapping) (a : Atom) → open_commas commas (closing_tokens w) ≡ [] → open_commas commas (atom_tokens a ++ closing_tokens w) ≡ []
closed-commas commas w a e = open_commas-append commas (atom_tokens a) (closing_tokens w) ∙ ap (λ (commas : List ℕ). open_commas commas (closing_tokens w)) (atom-commas a commas) ∙ e

literal-commas : (w : Wrapping) (a : Atom) → open_commas [] (opening_tokens w ++ (atom_tokens a ++ closing_tokens w)) ≡ []
literal-commas Bare a = closed-commas [] Bare a refl
literal-commas (Negative at) a = closed-commas [] (Negative at) a refl
literal-commas (Brackets o c) a = closed-commas (0 ∷ []) (Brackets o c) a refl
literal-commas (NegativeBrackets at o c) a = closed-commas (0 ∷ []) (NegativeBrackets at o c) a refl

literal-narrow : (l : LiteralTree) → FewCommas [] (literal_tokens l) → IsNarrow (literal_written l)
literal-narrow l few =
    let inner = few_back [] (opening_tokens l.wrapping) (atom_tokens l.atom ++ closing_tokens l.wrapping) few in
    let commas = open_commas [] (opening_tokens l.wrapping) in
    let k = atom-narrow l.atom commas (few_front commas (atom_tokens l.atom) (closing_tokens l.wrapping) inner) in
    record {
      predicate = subst SmallArity (sym (wrapped-predicate l.wrapping (atom_written l.atom))) k.predicate;
      arguments = subst (AllByRecursion SmallArity) (sym (wrapped-arguments l.wrapping (atom_written l.atom))) k.arguments;
    }

others-narrow : (bs : List (ℕ × LiteralTree)) → FewCommas [] (flat_map behind_bar bs) → AllByRecursion IsNarrow (map (λ (b : ℕ × LiteralTree). literal_written b.1) bs)
others-narrow [] few = tt
others-narrow (b ∷ bs) few =
    let front = few_front [] (behind_bar b) (flat_map behind_bar bs) few in
    let back = few_back [] (behind_bar b) (flat_map behind_bar bs) few in
    let even : open_commas [] (behind_bar b) ≡ [] = literal-commas b.1.wrapping b.1.atom in (
      literal-narrow b.1 (few_back [] (Punctuation b.0 Bar ∷ []) (literal_tokens b.1) front),
      others-narrow bs (subst (λ commas. FewCommas commas (flat_map behind_bar bs)) even back),
    )

pub clause-narrow : (c : ClauseTree) → FewCommas [] (clause_tokens c) → AllByRecursion IsNarrow (clause_written c)
clause-narrow (Falsum at) few = tt
clause-narrow (Literals l bs) few =
    let back = few_back [] (literal_tokens l) (flat_map behind_bar bs) few in (
      literal-narrow l (few_front [] (literal_tokens l) (flat_map behind_bar bs) few),
      others-narrow bs (subst (λ commas. FewCommas commas (flat_map behind_bar bs)) (literal-commas l.wrapping l.atom) back),
    )

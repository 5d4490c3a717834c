-- The tokens of the text of a literal are those of a tree, which is read as that literal.
use Rattle.std.proofs.Common.{◌≡◌, ◌≢◌, ◌∙◌, sym, ap, subst, refl, ℕ, ◌+◌, ◌≤◌, Bool, true, false, List, [], ◌∷◌, ◌++◌, map, length, append_assoc, Some, arith}
use Rattle.std.specs.Prelude.{◌==◌, codes, if◌then◌else◌}
use Rattle.std.specs.List.{AllByRecursion, list_all}
use Rattle.std.proofs.lemmas.Bool.{eqb-true, eqb-false}
use Rattle.std.proofs.lemmas.List.{append-nil}
use Rattle.std.proofs.lemmas.List.Folds.{list_all-map}
use Rattle.sc_term.specs.declared.SymId.{SymId}
use Rattle.sc_term.specs.declared.Term.{Term}
use Rattle.sc_term.specs.declared.Literal.{Literal}
use Rattle.sc_term.specs.Clause.{literal_width}
use Rattle.sc_term.specs.declared.symbol.Role.TheVariants.{Predicate}
use Rattle.sc_term.specs.declared.symbol.Symbol.{Symbol}
use Rattle.sc_term.specs.Symbol.{equality}
use Rattle.sc_input_rules.specs.declared.token.Token.{Token}
use Rattle.sc_input_rules.specs.declared.token.Token.TheVariants.{Punctuation}
use Rattle.sc_input_rules.specs.declared.token.Sign.TheVariants.{Minus}
use Rattle.sc_input_rules.specs.Numbering.{symbol_number, literal_of}
use Rattle.sc_input_rules.specs.WellFormed.{is_used_as, term_is_over, literal_is_over}
use Rattle.sc_input_rules.proofs.Booleans.{parts_hold}
use Rattle.sc_input_rules.proofs.Spelling.{side_tokens, count, occurrence}
use Rattle.sc_input_rules.proofs.ClauseSpelling.{Equated, Plain, Equation, Bare, Negative, LiteralTree, equal_sign, atom_tokens, literal_tokens, literal_written, IsSpelt}
use Rattle.sc_input_rules.proofs.ClauseParts.{literal-args}
use Rattle.sc_text_rules.specs.ClauseText.{name_of, applied, term_text, equation_text, atom_text, literal_text}
use Rattle.sc_input_rules.specs.declared.written.Occurrence.{Occurrence}
use Rattle.sc_input_rules.proofs.ArityLaw.{SmallArity}
use Rattle.sc_text_rules.specs.TextWords.{text_variable, is_unknown_atom}
use Rattle.sc_text_laws.proofs.KnownNames.{atom_known, atom_small}
use Rattle.sc_text_laws.proofs.KnownTrees.{AtomKnown, LiteralKnown}
use Rattle.sc_text_laws.specs.Printable.{is_name, AreNamed}
use Rattle.sc_text_laws.proofs.WordTokens.{tokens_at, Breaks, equal_token, unequal_token, minus_token}
use Rattle.sc_text_laws.proofs.SymbolTexts.{SymbolIs, symbol_is, name_is, symbol_back, named_at}
use Rattle.sc_text_laws.proofs.TermSpelling.{ApplicationSpelt, MayStand, term_spelt, atom_spelt, application_count, all_may_stand}

-- the tree of a literal's text, which stands before the rest of a text
pub record LiteralSpelt (symbols : List Symbol) (l : Literal) (at : ℕ) (rest : List ℕ) : Type 0 where
  pub tree : LiteralTree
  pub next : ℕ
  pub tokens : tokens_at at (literal_text symbols l ++ rest) ≡ literal_tokens tree ++ tokens_at next rest
  pub spelt : IsSpelt tree
  pub literal : literal_of text_variable symbols (literal_written tree) ≡ l
  pub known : LiteralKnown symbols tree

-- ---- equations

abbrev equal_text : Bool → List ℕ
equal_text true = codes "="
equal_text false = codes "!="

abbrev behind_equal : Bool → ℕ → ℕ
behind_equal true at = at + 1
behind_equal false at = at + 1 + 1

equal_sign_token : (positive : Bool) (at : ℕ) (rest : List ℕ) → tokens_at at (equal_text positive ++ rest) ≡ Punctuation at (equal_sign positive) ∷ tokens_at (behind_equal positive at) rest
equal_sign_token true at rest = equal_token at rest
equal_sign_token false at rest = unequal_token at rest

equal_breaks : (positive : Bool) (rest : List ℕ) → Breaks (equal_text positive ++ rest)
equal_breaks true rest = refl
equal_breaks false rest = refl

sides_text : (positive : Bool) (s t : List ℕ) → equation_text positive (s ∷ t ∷ []) ≡ s ++ equal_text positive ++ t
sides_text true s t = refl
sides_text false s t = refl

equation_spelt : (symbols : List Symbol) → AreNamed symbols → (positive : Bool) (s t : Term) (at : ℕ) (rest : List ℕ) → MayStand symbols s → MayStand symbols t → Breaks rest
    → LiteralSpelt symbols (record { positive = positive; pred = record { 0 = 0 }; args = s ∷ t ∷ [] }) at rest
equation_spelt symbols h positive s t at rest s_may t_may breaks =
    let sign = equal_text positive in
    let behind = term_text symbols t ++ rest in
    let a = term_spelt symbols h s at (sign ++ behind) s_may (equal_breaks positive behind) in
    let b = term_spelt symbols h t (behind_equal positive a.next) rest t_may breaks in
    let equated : Equated = record { positive = positive; at = a.next; left_head = a.head; left_args = a.args; right_head = b.head; right_args = b.args } in
    let tree : LiteralTree = record { wrapping = Bare; atom = Equation equated } in
    let tail = tokens_at b.next rest in
    record {
      tree = record { wrapping = Bare; atom = Equation equated };
      next = b.next;
      tokens =
          ap (λ (us : List ℕ). tokens_at at (us ++ rest)) (sides_text positive (term_text symbols s) (term_text symbols t))
          ∙ ap (tokens_at at) (append_assoc (term_text symbols s ++ sign) (term_text symbols t) rest ∙ append_assoc (term_text symbols s) sign behind)
          ∙ a.tokens
          ∙ ap (λ (us : List Token). side_tokens a.head a.args ++ us) (equal_sign_token positive a.next behind ∙ ap (λ (us : List Token). Punctuation a.next (equal_sign positive) ∷ us) b.tokens)
          ∙ sym (append_assoc (side_tokens a.head a.args) (Punctuation a.next (equal_sign positive) ∷ side_tokens b.head b.args) tail)
          ∙ ap (λ (us : List Token). us ++ tail) (sym (append-nil (atom_tokens (Equation equated))));
      spelt = (tt, ((a.name, a.names), (b.name, b.names)));
      literal =
          let pred = symbol_back symbols (record { 0 = 0 }) equality h.signature h.signature.first in
          let args = literal-args text_variable symbols tree in
          (λ i. record { positive = positive; pred = pred i; args = args i })
          ∙ (λ i. record { positive = positive; pred = record { 0 = 0 }; args = a.term i ∷ b.term i ∷ [] });
      known = (tt, (a.known, b.known));
    }

-- ---- atoms

plain_text : (symbols : List Symbol) (positive : Bool) (p : SymId) (ts : List Term) → (p.0 == 0) ≡ false
    → literal_text symbols (record { positive = positive; pred = p; args = ts }) ≡ atom_text positive (applied (name_of symbols p) (map (term_text symbols) ts))
plain_text symbols positive p ts e =
    let texts = map (term_text symbols) ts in
    ap (λ (b : Bool). if b then equation_text positive texts else atom_text positive (applied (name_of symbols p) texts)) e

-- the literal of an atom's tree
module _ (symbols : List Symbol) (h : AreNamed symbols) (p : SymId) (ts : List Term) (s : SymbolIs symbols Predicate p (length ts)) where
  abbrev symbol : Symbol
  symbol = record { name = s.name; arity = length ts; role = Predicate }

  pred_back : (at : ℕ) (rest : List ℕ) (a : ApplicationSpelt symbols s.name ts at rest) → symbol_number symbols (record { name = a.head.text; arity = count a.args; role = Predicate }) ≡ p
  pred_back at rest a =
      let many = application_count symbols s.name ts at rest a in
      (λ i. symbol_number symbols (record { name = a.text i; arity = many i; role = Predicate })) ∙ symbol_back symbols p symbol h.signature s.here

  name_text : applied (name_of symbols p) (map (term_text symbols) ts) ≡ applied s.name (map (term_text symbols) ts)
  name_text = ap (λ (name : List ℕ). applied name (map (term_text symbols) ts)) (name_is symbols p symbol s.here)

  atom_is_known : (at : ℕ) (rest : List ℕ) (a : ApplicationSpelt symbols s.name ts at rest) → AtomKnown symbols (Plain a.head a.args)
  atom_is_known at rest a =
      let many = application_count symbols s.name ts at rest a in
      let is : record { at = a.head.at; name = s.name; arity = length ts } ≡ occurrence a.head a.args = (λ i. record { at = a.head.at; name = sym a.text i; arity = sym many i }) in (
        subst (λ (o : Occurrence). is_unknown_atom symbols o ≡ false) is (atom_known symbols p.0 a.head.at (length ts) s.name s.here),
        subst SmallArity is (atom_small symbols p.0 a.head.at (length ts) s.name h.signature s.here),
        a.known,
      )

  positive_spelt : (at : ℕ) (rest : List ℕ) → (p.0 == 0) ≡ false → ApplicationSpelt symbols s.name ts at rest → LiteralSpelt symbols (record { positive = true; pred = p; args = ts }) at rest
  positive_spelt at rest e a =
      let tree : LiteralTree = record { wrapping = Bare; atom = Plain a.head a.args } in
      let tail = tokens_at a.next rest in
      record {
        tree = record { wrapping = Bare; atom = Plain a.head a.args };
        next = a.next;
        tokens =
            ap (λ (us : List ℕ). tokens_at at (us ++ rest)) (plain_text symbols true p ts e ∙ name_text)
            ∙ a.tokens ∙ ap (λ (us : List Token). us ++ tail) (sym (append-nil (side_tokens a.head a.args)));
        spelt = (tt, (a.named, a.names));
        literal =
            let pred = pred_back at rest a in
            let args = literal-args text_variable symbols tree ∙ a.terms in
            (λ i. record { positive = true; pred = pred i; args = args i });
        known = (tt, atom_is_known at rest a);
      }

  negative_spelt : (at : ℕ) (rest : List ℕ) → (p.0 == 0) ≡ false → ApplicationSpelt symbols s.name ts (at + 1) rest → LiteralSpelt symbols (record { positive = false; pred = p; args = ts }) at rest
  negative_spelt at rest e a =
      let tree : LiteralTree = record { wrapping = Negative at; atom = Plain a.head a.args } in
      let tail = tokens_at a.next rest in
      record {
        tree = record { wrapping = Negative at; atom = Plain a.head a.args };
        next = a.next;
        tokens =
            ap (λ (us : List ℕ). tokens_at at (us ++ rest)) (plain_text symbols false p ts e ∙ ap (λ (us : List ℕ). 45 ∷ us) name_text)
            ∙ minus_token at (applied s.name (map (term_text symbols) ts) ++ rest)
            ∙ ap (λ (us : List Token). Punctuation at Minus ∷ us) (a.tokens ∙ ap (λ (us : List Token). us ++ tail) (sym (append-nil (side_tokens a.head a.args))));
        spelt = (tt, (a.named, a.names));
        literal =
            let pred = pred_back (at + 1) rest a in
            let args = literal-args text_variable symbols tree ∙ a.terms in
            (λ i. record { positive = false; pred = pred i; args = args i });
        known = (tt, atom_is_known (at + 1) rest a);
      }

  plain_spelt : (positive : Bool) (at : ℕ) (rest : List ℕ) → (p.0 == 0) ≡ false → is_name s.name ≡ true → AllByRecursion (MayStand symbols) ts → Breaks rest
      → LiteralSpelt symbols (record { positive = positive; pred = p; args = ts }) at rest
  plain_spelt true at rest e named may breaks = positive_spelt at rest e (atom_spelt symbols h s.name ts at rest named may breaks)
  plain_spelt false at rest e named may breaks = negative_spelt at rest e (atom_spelt symbols h s.name ts (at + 1) rest named may breaks)

-- ---- literals

two_sides : (symbols : List Symbol) → AreNamed symbols → (positive : Bool) (ts : List Term) (at : ℕ) (rest : List ℕ) → 2 ≡ length ts → AllByRecursion (MayStand symbols) ts → Breaks rest
    → LiteralSpelt symbols (record { positive = positive; pred = record { 0 = 0 }; args = ts }) at rest
two_sides symbols h positive [] at rest n may breaks = absurd (omega arith)
two_sides symbols h positive (s ∷ []) at rest n may breaks = absurd (omega arith)
two_sides symbols h positive (s ∷ t ∷ []) at rest n may breaks = equation_spelt symbols h positive s t at rest may.0 may.1.0 breaks
two_sides symbols h positive (s ∷ t ∷ u ∷ us) at rest n may breaks = absurd (omega arith)

abbrev symbol_id : ℕ → SymId
symbol_id n = record { 0 = n }

-- `=` has two arguments
equality_arity : (symbols : List Symbol) (n : ℕ) → AreNamed symbols → is_used_as symbols Predicate (record { 0 = 0 }) n ≡ true → 2 ≡ n
equality_arity symbols n h used =
    let s = symbol_is symbols Predicate (record { 0 = 0 }) n used in
    let same : Some equality ≡ Some (record { name = s.name; arity = n; role = Predicate }) = sym h.signature.first ∙ s.here in
    let one : equality ≡ record { name = s.name; arity = n; role = Predicate } = cc in
    ap (λ (s : Symbol). s.arity) one

equality_spelt : (symbols : List Symbol) → AreNamed symbols → (positive : Bool) (p : SymId) (ts : List Term) (at : ℕ) (rest : List ℕ) → p.0 ≡ 0
    → is_used_as symbols Predicate p (length ts) ≡ true → AllByRecursion (MayStand symbols) ts → Breaks rest → LiteralSpelt symbols (record { positive = positive; pred = p; args = ts }) at rest
equality_spelt symbols h positive p ts at rest zero_is used may breaks =
    let is : p ≡ symbol_id 0 = ap symbol_id zero_is in
    let two = equality_arity symbols (length ts) h (ap (λ (p : SymId). is_used_as symbols Predicate p (length ts)) (sym is) ∙ used) in
    subst (λ (p : SymId). LiteralSpelt symbols (record { positive = positive; pred = p; args = ts }) at rest) (sym is) (two_sides symbols h positive ts at rest two may breaks)

pub literal_spelt : (symbols : List Symbol) → AreNamed symbols → (l : Literal) (at : ℕ) (rest : List ℕ) → literal_is_over symbols l ≡ true → literal_width l ≤ 65536 → Breaks rest → LiteralSpelt symbols l at rest
literal_spelt symbols h l at rest over narrow breaks =
    let p = parts_hold (is_used_as symbols Predicate l.pred (length l.args)) (list_all (term_is_over symbols) l.args) over in
    let may = all_may_stand symbols l.args (list_all-map (λ b. b) (term_is_over symbols) l.args ∙ p.1) narrow in
    by (l.pred.0 == 0) refl p.0 may
  where
    by : (b : Bool) → (l.pred.0 == 0) ≡ b → is_used_as symbols Predicate l.pred (length l.args) ≡ true → AllByRecursion (MayStand symbols) l.args → LiteralSpelt symbols l at rest
    by true e used may = equality_spelt symbols h l.positive l.pred l.args at rest (eqb-true l.pred.0 0 e) used may breaks
    by false e used may =
        let s = symbol_is symbols Predicate l.pred (length l.args) used in
        let other : l.pred.0 ≢ 0 = λ z. eqb-false l.pred.0 0 e z in
        let named = named_at symbols l.pred (record { name = s.name; arity = length l.args; role = Predicate }) h s.here other in
        plain_spelt symbols h l.pred l.args s l.positive at rest e named.name may breaks

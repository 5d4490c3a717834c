-- A clause whose symbols have the same entries in two structures of a size has the same truth in both.
use Rattle.std.proofs.Common.{◌≡◌, ◌∙◌, sym, ap, subst, refl, ℕ, ◌<◌, Bool, true, false, true≢false, not, ◌||◌, if◌then◌else◌, List, [], ◌∷◌, map, slice_index, nat_eq}
use Rattle.std.specs.List.{AllByRecursion, list_any}
use Rattle.sc_term.specs.declared.SymId.{SymId}
use Rattle.sc_term.specs.declared.Term.{Term, Var}
use Rattle.sc_term.specs.declared.Term.TheVariants.{App}
use Rattle.sc_term.specs.declared.Literal.{Literal}
use Rattle.sc_term.specs.declared.Clause.{Clause}
use Rattle.sc_term.specs.Interpretation.{Meaning, Assignment, value_step, value, are_equal, atom_holds, literal_holds}
use Rattle.sc_term.proofs.TermLaws.{term_ind, fold-Var, fold-App}
use Rattle.sc_interp.specs.declared.table.Table.{Table}
use Rattle.sc_interp.specs.Structure.{Structure, place_of, tables_of_size}
use Rattle.sc_interp.specs.Marks.{assignments}
use Rattle.sc_mark.specs.declared.known.Known.{Known}
use Rattle.sc_mark.specs.declared.known.Known.TheVariants.{True, False, Wide}
use Rattle.sc_mark.specs.Known.{IsKnown}
use Rattle.sc_mark.specs.Changes.{is_changed, AreChanges, changed_step, term_changed, literal_changed, clause_changed}

neither : (b c : Bool) → b || c ≡ false → (b ≡ false) × (c ≡ false)
neither true c e = absurd (true≢false e)
neither false c e = (refl, e)

module _ (size : ℕ) (old new : List Table) (changes : List Bool) (alike : AreChanges old new changes) where
  module _ (a : Assignment) where
    abbrev before : Meaning
    before = tables_of_size size old

    abbrev now : Meaning
    now = tables_of_size size new

    abbrev Stays : Term → Type 0
    Stays t = term_changed changes t ≡ false → value now a t ≡ value before a t

    each_stays : (ts : List Term) → AllByRecursion Stays ts → list_any (λ b. b) (map (term_changed changes) ts) ≡ false → map (value now a) ts ≡ map (value before a) ts
    each_stays [] h e = refl
    each_stays (t ∷ ts) h e =
        let none = neither (term_changed changes t) (list_any (λ b. b) (map (term_changed changes) ts)) e in
        let one = h.0 none.0 in
        let rest = each_stays ts h.1 none.1 in
        (λ i. one i ∷ rest i)

    term_stays : (t : Term) → Stays t
    term_stays t = term_ind Stays at_variable at_symbol t
      where
        at_variable : (n : ℕ) → Stays (Var n)
        at_variable n e = fold-Var ℕ (value_step now a) n ∙ sym (fold-Var ℕ (value_step before a) n)

        at_symbol : (f : SymId) (ts : List Term) → AllByRecursion Stays ts → Stays (App f ts)
        at_symbol f ts h e =
            let none = neither (is_changed changes f.0) (list_any (λ b. b) (map (term_changed changes) ts)) (sym (fold-App Bool (changed_step changes) f ts) ∙ e) in
            fold-App ℕ (value_step now a) f ts ∙ alike f.0 none.0 (place_of size (map (value now a) ts))
            ∙ ap (before.function f) (each_stays ts h none.1) ∙ sym (fold-App ℕ (value_step before a) f ts)

    terms_stay : (ts : List Term) → list_any (λ b. b) (map (term_changed changes) ts) ≡ false → map (value now a) ts ≡ map (value before a) ts
    terms_stay [] e = refl
    terms_stay (t ∷ ts) e =
        let none = neither (term_changed changes t) (list_any (λ b. b) (map (term_changed changes) ts)) e in
        let one = term_stays t none.0 in
        let rest = terms_stay ts none.1 in
        (λ i. one i ∷ rest i)

    atom_stays : (p : SymId) (values : List ℕ) → is_changed changes p.0 ≡ false → atom_holds now p values ≡ atom_holds before p values
    atom_stays p values e = ap (λ n. if nat_eq p.0 0 then are_equal values else nat_eq n 1) (alike p.0 e (place_of size values))

    literal_stays : (l : Literal) → literal_changed changes l ≡ false → literal_holds now a l ≡ literal_holds before a l
    literal_stays l e =
        let none = neither (is_changed changes l.pred.0) (list_any (λ b. b) (map (term_changed changes) l.args)) e in
        let atom = atom_stays l.pred (map (value now a) l.args) none.0 ∙ ap (atom_holds before l.pred) (terms_stay l.args none.1) in
        ap (λ b. if l.positive then b else not b) atom

    literals_stay : (ls : List Literal) → list_any (literal_changed changes) ls ≡ false → list_any (literal_holds now a) ls ≡ list_any (literal_holds before a) ls
    literals_stay [] e = refl
    literals_stay (l ∷ ls) e =
        let none = neither (literal_changed changes l) (list_any (literal_changed changes) ls) e in
        let one = literal_stays l none.0 in
        let rest = literals_stay ls none.1 in
        (λ i. one i || rest i)

  module _ (c : Clause) (unchanged : clause_changed changes c ≡ false) where
    abbrev first : Structure
    first = record { size = size; tables = old }

    abbrev second : Structure
    second = record { size = size; tables = new }

    known_stays : (known : Known) → IsKnown first c known → IsKnown second c known
    known_stays True h = (h.0, λ a elements. literals_stay a c.literals unchanged ∙ h.1 a elements)
    known_stays (False number) h = (
      (h.0.0, λ all. h.0.1 (λ a elements. sym (literals_stay a c.literals unchanged) ∙ all a elements)),
      record {
        values = h.1.values;
        long = h.1.long;
        elements = h.1.elements;
        numbered = h.1.numbered;
        none = literals_stay (slice_index h.1.values) c.literals unchanged ∙ h.1.none;
      },
    )
    known_stays Wide h = h

-- what was known is known still
pub stays_known : (old new : Structure) (changes : List Bool) (c : Clause) (known : Known) → old.size ≡ new.size → AreChanges old.tables new.tables changes
    → clause_changed changes c ≡ false → IsKnown old c known → IsKnown new c known
stays_known old new changes c known same alike unchanged h =
    let is : (record { size = old.size; tables = new.tables }) ≡ new = λ i. record { size = same i; tables = new.tables } in
    subst (λ (t : Structure). IsKnown t c known) is (known_stays old.size old.tables new.tables changes alike c unchanged known h)

-- in tables of the same size there are too many assignments still
pub stays_wide : (old new : Structure) (c : Clause) → old.size ≡ new.size → IsKnown old c Wide → IsKnown new c Wide
stays_wide old new c same h = subst (λ n. 4096 < assignments n c) same h

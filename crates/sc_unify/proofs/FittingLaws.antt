-- What a match over lent bindings tells of a term.
use Rattle.std.proofs.Common.{◌≡◌, ◌∙◌, sym, ap, ℕ, ◌<◌, true, false, List, [], Some}
use Rattle.std.specs.List.{AllByRecursion}
use Rattle.std.specs.Option.{unwrap_or}
use Rattle.sc_term.specs.declared.Term.{Term, Var}
use Rattle.sc_term.specs.Term.{term_under, term_variables, term_width, term_instance, value_of}
use Rattle.sc_term.proofs.SubstitutionLaws.{term_laws}
use Rattle.sc_unify.specs.declared.bound.Binding.{Binding}
use Rattle.sc_unify.specs.Bindings.{lookup}
use Rattle.sc_unify.specs.Matching.{Gives, IsMatched, Matches, filled, IsTermMatch, HasNoTermMatch}
use Rattle.sc_unify.proofs.TermFacts.{all_so}
use Rattle.sc_unify.proofs.MatchingLaws.{term_of, filled-length, filled-at, got, none_of, term_below}

given_all : (bs : List Binding) (vars : List ℕ) (holds : (ℕ → Term) → Type 0) → IsMatched [] bs holds vars → Gives (term_of bs) bs
given_all bs vars holds h = all_so (λ (b : Binding). lookup bs b.variable ≡ Some b.term) (λ (b : Binding). term_of bs b.variable ≡ b.term) (λ b e. ap (λ o. unwrap_or o (Var 0)) e) bs (h.functional tt)

pub is_term_match : (p t : Term) (bs : List Binding) → Matches true [] bs (λ s. term_under s p ≡ t) (term_variables p) → IsTermMatch p t (filled bs (term_width p))
is_term_match p t bs h = record {
  long = filled-length bs (term_width p);
  equal = sym (agrees ∙ ((h.same (term_of bs)).0 (given_all bs (term_variables p) (λ s. term_under s p ≡ t) h)).1);
  absent = λ n less e. filled-at bs (term_width p) n less ∙ ap (λ o. Some (unwrap_or o (Var 0))) (h.beside n (none_of n (term_variables p) e));
}
  where
    agrees : term_instance (filled bs (term_width p)) p ≡ term_under (term_of bs) p
    agrees = (term_laws p).agree (value_of (filled bs (term_width p))) (term_of bs)
        (all_so (λ n. n < term_width p) (λ n. value_of (filled bs (term_width p)) n ≡ term_of bs n)
        (λ n less. got (filled bs (term_width p)) n (term_of bs n) (Var n) (filled-at bs (term_width p) n less))
        (term_variables p) (term_below p))

pub no_term_match : (p t : Term) (bs : List Binding) → Matches false [] bs (λ s. term_under s p ≡ t) (term_variables p) → HasNoTermMatch p t
no_term_match p t bs h s e = h s tt e

-- The pairs of literals of several parents, and the terms of all parents.
use Rattle.std.proofs.Common.{◌≡◌, ◌∙◌, sym, ap, subst, refl, ℕ, zero, suc, ◌+◌, ◌*◌, ◌≤◌, max, List, [], ◌∷◌, ◌++◌, append_assoc, append-nil, length, map, take, drop, Some, None, Option, slice_get, arith}
use Rattle.std.specs.Prelude.{MatchOption}
use Rattle.std.specs.List.{All}
use Rattle.std.proofs.lemmas.Option.{slice_get_within}
use Rattle.sc_term.specs.declared.Term.{Term}
use Rattle.sc_term.specs.declared.Clause.{Clause}
use Rattle.sc_term.specs.declared.Numbered.{Numbered}
use Rattle.sc_term.specs.declared.Pair.{Pair}
use Rattle.sc_term.specs.Term.{largest}
use Rattle.sc_term.specs.Clause.{width}
use Rattle.sc_term.specs.Substitution.{clause_under}
use Rattle.sc_term.specs.JointInstance.{apart, apart_above, renumbered, shift}
use Rattle.sc_unify.specs.declared.bound.Binding.{Binding}
use Rattle.sc_unify.specs.Unifiers.{substitution}
use Rattle.sc_core_rules.specs.Pairing.{Place, literal_at, ArePairs, places_in, places_from}
use Rattle.sc_core_rules.proofs.StepLaws.{same_some}
use Rattle.sc_resolve.specs.Kept.{IsKept}
use Rattle.sc_resolve.specs.Parts.{IsOutside}
use Rattle.sc_resolve.proofs.KeptLaws.{kept_width}
use Rattle.sc_resolve.proofs.PartLaws.{IsTold, told_none, told_some, shifted_width}
use Rattle.sc_hyper.specs.Making.{clauses_of, ArePaired, AreTermsOfAll}
use Rattle.sc_hyper.proofs.ListPieces.{take_next, take_all, drop_next, drop_all}
use Rattle.sc_hyper.proofs.CandidateLaws.{from_start}

-- ---- pairs

abbrev pub place : ℕ → ℕ → Place
place parent lit = record { parent = parent; lit = lit }

-- literal a of the first parent, and literal b of parent n, stand against each other
pub record IsPairedAt (parents : List Clause) (others : List ℕ) (ps : List Pair) (j n a : ℕ) : Type 0 where
  pub p : Pair
  pub b : ℕ
  pub at : slice_get ps j ≡ Some p
  pub at_other : slice_get others j ≡ Some b
  pub left : literal_at parents (place 1 a) ≡ Some p.left
  pub right : literal_at parents (place n b) ≡ Some p.right

pub paired_at : (parents : List Clause) (k : ℕ) (lits others : List ℕ) (ps : List Pair) → ArePairs parents (places_in 1 lits) (places_from k others) ps
    → (j a n : ℕ) → slice_get lits j ≡ Some a → n ≡ k + j → IsPairedAt parents others ps j n a
paired_at parents k [] others ps h j a n e same = let none : ◌≡◌ {A = Option ℕ} None (Some a) = e in absurd cc
paired_at parents k (l ∷ lits) [] ps h j a n e same = absurd h
paired_at parents k (l ∷ lits) (b ∷ others) [] h j a n e same = absurd h
paired_at parents k (l ∷ lits) (b ∷ others) (p ∷ ps) h zero a n e same =
    let first : l ≡ a = cc in
    let number : k ≡ n = omega arith in
    record { p = p; b = b; at = refl; at_other = refl; left = ap (λ m. literal_at parents (place 1 m)) (sym first) ∙ h.0; right = ap (λ m. literal_at parents (place m b)) (sym number) ∙ h.1 }
paired_at parents k (l ∷ lits) (b ∷ others) (p ∷ ps) h (suc j) a n e same =
    let rest = paired_at parents (k + 1) lits others ps h.2 j a n e (omega arith) in
    record { p = rest.p; b = rest.b; at = rest.at; at_other = rest.at_other; left = rest.left; right = rest.right }

pub record AreAsMany (lits others : List ℕ) (ps : List Pair) : Type 0 where
  pub right : length others ≡ length lits
  pub both : length ps ≡ length lits

pub paired_long : (parents : List Clause) (k : ℕ) (lits others : List ℕ) (ps : List Pair) → ArePairs parents (places_in 1 lits) (places_from k others) ps → AreAsMany lits others ps
paired_long parents k [] [] ps h = record { right = refl; both = ap (λ (qs : List Pair). length qs) h }
paired_long parents k [] (b ∷ others) ps h = absurd h
paired_long parents k (l ∷ lits) [] ps h = absurd h
paired_long parents k (l ∷ lits) (b ∷ others) [] h = absurd h
paired_long parents k (l ∷ lits) (b ∷ others) (p ∷ ps) h = let rest = paired_long parents (k + 1) lits others ps h.2 in record { right = omega (arith, rest.right); both = omega (arith, rest.both) }

module _ (parents : List Clause) (lits others : List ℕ) (ps : List Pair) (h : ArePaired parents lits others ps) (at a : ℕ) (at_a : slice_get lits at ≡ Some a) where
  pub not_short : length others ≤ at → ⊥
  not_short short = let one = paired_at parents 2 lits others ps h at a (2 + at) at_a refl in omega (arith, slice_get_within others at one.b one.at_other)

  module _ (b : ℕ) (at_b : slice_get others at ≡ Some b) where
    pub no_pair : ((q : Pair) → literal_at parents (place 1 a) ≡ Some q.left → literal_at parents (place (at + 1 + 1) b) ≡ Some q.right → ◌≡◌ {A = Option Pair} None (Some q)) → ⊥
    no_pair none =
        let one = paired_at parents 2 lits others ps h at a (at + 1 + 1) at_a (omega arith) in
        let bad = none one.p one.left (subst (λ n. literal_at parents (place (at + 1 + 1) n) ≡ Some one.p.right) (same_some (slice_get others at) one.b b one.at_other at_b) one.right) in cc

    pub pairs_next : (p : Pair) (found : List Pair) → ((q : Pair) → literal_at parents (place 1 a) ≡ Some q.left → literal_at parents (place (at + 1 + 1) b) ≡ Some q.right → ◌≡◌ {A = Option Pair} (Some p) (Some q)) → found ≡ take at ps
        → found ++ p ∷ [] ≡ take (at + 1) ps
    pairs_next p found is e =
        let one = paired_at parents 2 lits others ps h at a (at + 1 + 1) at_a (omega arith) in
        let same : Some p ≡ Some one.p = is one.p one.left (subst (λ n. literal_at parents (place (at + 1 + 1) n) ≡ Some one.p.right) (same_some (slice_get others at) one.b b one.at_other at_b) one.right) in
        ap (λ (xs : List Pair). xs ++ p ∷ []) e ∙ sym (take_next ps at p (one.at ∙ sym same))

pub pairs_whole : (parents : List Clause) (lits others : List ℕ) (ps : List Pair) → ArePaired parents lits others ps → (k : ℕ) (found : List Pair) → found ≡ take k ps → k ≡ length lits → found ≡ ps
pairs_whole parents lits others ps h k found e long = e ∙ take_all ps k (omega (arith, long, (paired_long parents 2 lits others ps h).both))

-- ---- terms

pub told_all : (parents own : List Clause) (pairs : List Pair) (entries : List Binding) (found : Option (List (List Term))) → IsTold parents own pairs entries found
    → MatchOption found (IsOutside own pairs) (λ told. AreTermsOfAll own pairs told)
told_all parents own pairs entries None h = told_none parents own pairs entries None h refl
told_all parents own pairs entries (Some told) h =
    let both = told_some parents own pairs entries (Some told) told h refl in
    record { parts = renumbered (map (clause_under (substitution entries)) (apart own)); terms = both.0; joint = both.1 }

-- ---- widths of clauses renamed apart

pub wide_apart : (ps : List Numbered) (low : ℕ) → All (λ p. IsKept p.clause) ps → largest (map width (apart_above low (clauses_of ps))) ≤ low + 10000 * length ps
wide_apart [] low kept = omega arith
wide_apart (p ∷ ps) low kept =
    let own : IsKept p.clause = kept 0 p (omega arith) in
    let few = kept_width p.clause own in
    let rest = wide_apart ps (low + width p.clause) (λ k d less. kept (suc k) d (omega arith)) in
    let ws : List ℕ = map width (apart_above (low + width p.clause) (clauses_of ps)) in
    omega (arith, few, rest, shifted_width low p.clause, from_start (max 0 (width (shift low p.clause))) ws)

pub apart_wide : (ps : List Numbered) → All (λ p. IsKept p.clause) ps → largest (map width (apart (clauses_of ps))) ≤ 10000 * length ps
apart_wide ps kept = omega (arith, wide_apart ps 0 kept)

pub apart_next : (ps : List Numbered) (k low : ℕ) (p : Numbered) (moved all : List Clause) → slice_get ps k ≡ Some p → moved ++ apart_above low (clauses_of (drop k ps)) ≡ all
    → (moved ++ shift low p.clause ∷ []) ++ apart_above (low + width p.clause) (clauses_of (drop (k + 1) ps)) ≡ all
apart_next ps k low p moved all at e =
    append_assoc moved (shift low p.clause ∷ []) (apart_above (low + width p.clause) (clauses_of (drop (k + 1) ps)))
    ∙ ap (λ (qs : List Numbered). moved ++ apart_above low (clauses_of qs)) (sym (drop_next ps k p at)) ∙ e

pub apart_whole : (ps : List Numbered) (k low : ℕ) (moved all : List Clause) → k ≡ length ps → moved ++ apart_above low (clauses_of (drop k ps)) ≡ all → moved ≡ all
apart_whole ps k low moved all long e =
    sym (append-nil moved) ∙ ap (λ (qs : List Numbered). moved ++ apart_above low (clauses_of qs)) (sym (drop_all ps k long)) ∙ e

pub same_pairs : (o : Option (List Pair)) (ps qs : List Pair) → o ≡ Some ps → o ≡ Some qs → ps ≡ qs
same_pairs o ps qs h k = same_some o ps qs h k

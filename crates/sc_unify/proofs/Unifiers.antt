-- From solved equations to most general unifiers.
use Rattle.std.proofs.Common.{◌≡◌, ◌≢◌, ◌∙◌, sym, ap, subst, refl, ℕ, zero, suc, ◌+◌, ◌<◌, ◌↔◌, Bool, true, false, not, nat_eq, eqb, if◌then◌else◌, List, [], ◌∷◌, ◌++◌, map, length, get_or, take, Option, None, Some, MatchOption, Result, Ok, Err, IfOk, arith, add-one, true≢false}
use Rattle.std.specs.List.{All, AllByRecursion}
use Rattle.std.specs.Option.{unwrap_or}
use Rattle.std.proofs.lemmas.Bool.{eqb-true, eq-eqb}
use Rattle.sc_term.specs.declared.SymId.{SymId}
use Rattle.sc_term.specs.declared.Term.{Term, Var}
use Rattle.sc_term.specs.declared.Literal.{Literal}
use Rattle.sc_term.specs.declared.Pair.{Pair}
use Rattle.sc_term.specs.Refuted.{Atom, atom_of}
use Rattle.sc_term.specs.Term.{term_under}
use Rattle.sc_term.specs.Substitution.{Substitution, literal_under, IsUnifier, IsMostGeneralUnifier, Unify}
use Rattle.sc_term.proofs.TermLaws.{same_symbol}
use Rattle.sc_unify.specs.declared.bound.Binding.{Binding}
use Rattle.sc_unify.specs.Bindings.{lookup, finished, written, Respects, AreSolved}
use Rattle.sc_unify.specs.Equations.{Equal, equated, Solves, IsSolution, HasNoSolution, IsMostGeneralSolution}
use Rattle.sc_unify.specs.Unifiers.{substitution, AreEqualUnder, EquatesPairs, HasNoUnifier}
use Rattle.sc_unify.proofs.Equations.{solves-append, solves-equated}

-- ---- the finished map

lookup_written : (s : Substitution) (bs : List Binding) (n : ℕ)
    → MatchOption (lookup bs n) (lookup (map (λ (b : Binding). record { variable = b.variable; term = s b.variable }) bs) n ≡ None)
    (λ t. lookup (map (λ (b : Binding). record { variable = b.variable; term = s b.variable }) bs) n ≡ Some (s n))
lookup_written s [] n = refl
lookup_written s (b ∷ bs) n = by (nat_eq b.variable n) refl (lookup_written s bs n)
  where
    by : (q : Bool) → nat_eq b.variable n ≡ q
        → MatchOption (lookup bs n) (lookup (map (λ (b : Binding). record { variable = b.variable; term = s b.variable }) bs) n ≡ None)
        (λ t. lookup (map (λ (b : Binding). record { variable = b.variable; term = s b.variable }) bs) n ≡ Some (s n))
        → MatchOption (if q then Some b.term else lookup bs n)
        ((if q then Some (s b.variable) else lookup (map (λ (b : Binding). record { variable = b.variable; term = s b.variable }) bs) n) ≡ None)
        (λ t. (if q then Some (s b.variable) else lookup (map (λ (b : Binding). record { variable = b.variable; term = s b.variable }) bs) n) ≡ Some (s n))
    by true e rest = ap (λ k. Some (s k)) (eqb-true b.variable n e)
    by false e rest = rest

pub written-is : (bs : List Binding) → AreSolved bs → (n : ℕ) → substitution (written bs) n ≡ finished bs n
written-is bs is n = by (lookup bs n) (lookup_written (finished bs) bs n) (is.fixed n)
  where
    by : (o : Option Term) → MatchOption o (lookup (written bs) n ≡ None) (λ t. lookup (written bs) n ≡ Some (finished bs n)) → MatchOption o (finished bs n ≡ Var n) (λ t. finished bs n ≡ term_under (finished bs) t)
        → substitution (written bs) n ≡ finished bs n
    by None e fixed = ap (λ o. unwrap_or o (Var n)) e ∙ sym fixed
    by (Some t) e fixed = ap (λ o. unwrap_or o (Var n)) e

pub written-map : (bs : List Binding) → AreSolved bs → substitution (written bs) ≡ finished bs
written-map bs is = λ i n. written-is bs is n i

pub most_general : (es : List Equal) (bs : List Binding) → IsSolution es bs → IsMostGeneralSolution es (substitution (written bs))
most_general es bs is = subst (IsMostGeneralSolution es) (sym (written-map bs is.solved)) (record {
  solves = (is.same (finished bs)).1 is.solved.respected;
  general = λ u h. (u, is.solved.general u ((is.same u).0 h));
})

pub unifier : (pairs : List Pair) (es : List Equal) (s : Substitution) → EquatesPairs pairs es → IsMostGeneralSolution es s → IsMostGeneralUnifier pairs s
unifier pairs es s same is = record {
  unifies = (same s).1 is.solves;
  general = λ u h. is.general u ((same u).0 h);
}

pub no_solution : (pairs : List Pair) (es : List Equal) → EquatesPairs pairs es → HasNoSolution es → ¬ Unify pairs
no_solution pairs es same none u = none u.0 ((same u.0).0 u.1)

-- ---- atoms and pairs

pub differs : (m n : ℕ) → not (eqb m n) ≡ false → eqb m n ≡ true
differs m n h = by (eqb m n) h
  where
    by : (q : Bool) → not q ≡ false → q ≡ true
    by true e = refl
    by false e = cc

pub equal-atoms : (u : Substitution) (a b : Literal) → a.pred ≡ b.pred → (map (term_under u) a.args ≡ map (term_under u) b.args) ↔ AreEqualUnder u a b
equal-atoms u a b same = (λ e i. record { pred = same i; args = e i }, λ e. ap (λ (x : Atom). x.args) e)

pub equated-atoms : (u : Substitution) (a b : Literal) (before now : List Equal) → a.pred ≡ b.pred → length a.args ≡ length b.args → now ≡ before ++ equated a.args b.args
    → Solves u now ↔ (Solves u before × AreEqualUnder u a b)
equated-atoms u a b before now same long grown =
    let both = solves-append u before (equated a.args b.args) in
    let inner = solves-equated u a.args b.args long in
    let atoms = equal-atoms u a b same in
    rw grown (
      λ s. ((both.0 s).0, atoms.0 (inner.1 (both.0 s).1)),
      λ s. both.1 (s.0, inner.0 (atoms.1 s.1)),
    )

pub all-by_recursion : {X : Type 0} (P : X → Type 0) (xs : List X) → All P xs ↔ AllByRecursion P xs
all-by_recursion {X = X} P xs = (to xs, from xs)
  where
    to : (xs : List X) → All P xs → AllByRecursion P xs
    to [] h = tt
    to (x ∷ xs) h = (h zero x (omega arith), to xs (λ k d less. h (suc k) d (omega arith)))

    from : (xs : List X) → AllByRecursion P xs → All P xs
    from [] h k d less = absurd (omega arith)
    from (x ∷ xs) h zero d less = h.0
    from (x ∷ xs) h (suc k) d less = from xs h.1 k d (omega arith)

abbrev Equalled : Substitution → Pair → Type 0
Equalled u p = AreEqualUnder u p.left p.right

pub unifier-more : (u : Substitution) (pairs : List Pair) (i : ℕ) (p : Pair) → i < length pairs → p ≡ get_or pairs i p
    → IsUnifier (take (i + 1) pairs) u ↔ (IsUnifier (take i pairs) u × AreEqualUnder u p.left p.right)
unifier-more u pairs i p less at = rw add-one (
  λ h. let both = (split pairs i less).0 ((all-by_recursion (Equalled u) (take (suc i) pairs)).0 h) in
      ((all-by_recursion (Equalled u) (take i pairs)).1 both.0, subst (Equalled u) (sym at) both.1),
  λ h. (all-by_recursion (Equalled u) (take (suc i) pairs)).1 ((split pairs i less).1 ((all-by_recursion (Equalled u) (take i pairs)).0 h.0, subst (Equalled u) at h.1)),
)
  where
    split : (qs : List Pair) (i : ℕ) → i < length qs → AllByRecursion (Equalled u) (take (suc i) qs) ↔ (AllByRecursion (Equalled u) (take i qs) × Equalled u (get_or qs i p))
    split [] i less = absurd (omega arith)
    split (q ∷ qs) zero less = (λ h. (tt, h.0), λ h. (h.1, tt))
    split (q ∷ qs) (suc i) less =
        let rest = split qs i (omega arith) in
        (λ h. let both = rest.0 h.1 in ((h.0, both.0), both.1), λ h. (h.0.0, rest.1 (h.0.1, h.1)))

pub unified-at : (u : Substitution) (pairs : List Pair) (i : ℕ) (p : Pair) → i < length pairs → p ≡ get_or pairs i p → IsUnifier pairs u → AreEqualUnder u p.left p.right
unified-at u pairs i p less at h = subst (λ (q : Pair). AreEqualUnder u q.left q.right) (sym at) (h i p less)

-- an answer about equations is one about the pairs that they come from
pub answered : {E : Type 0} (r : Result (Option (List Binding)) E) (pairs : List Pair) (es : List Equal) → EquatesPairs pairs es
    → IfOk r (λ found. MatchOption found (HasNoSolution es) (λ s. IsMostGeneralSolution es (substitution s)))
    → IfOk r (λ found. MatchOption found (¬ Unify pairs) (λ s. IsMostGeneralUnifier pairs (substitution s)))
answered (Ok None) pairs es same h = no_solution pairs es same h
answered (Ok (Some s)) pairs es same h = unifier pairs es (substitution s) same h
answered (Err e) pairs es same h = tt

pub one_pair : (u : Substitution) (a b : Literal) → IsUnifier (record { left = a; right = b } ∷ []) u ↔ AreEqualUnder u a b
one_pair u a b = (λ h. h zero (record { left = a; right = b }) (omega arith), λ e. (all-by_recursion (Equalled u) (record { left = a; right = b } ∷ [])).1 (e, tt))

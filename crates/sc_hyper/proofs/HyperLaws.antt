-- The sites that the choices make are those of hyperresolution.
use Rattle.std.proofs.Common.{◌≡◌, ◌≢◌, ◌∙◌, sym, ap, subst, refl, ℕ, zero, suc, ◌+◌, ◌-◌, ◌<◌, inl, List, [], ◌∷◌, ◌++◌, append_assoc, length, length-append, map, Some, None, Option, true, not, slice_get, get_or, arith}
use Rattle.std.specs.Prelude.{AllPairs, IsSomeAnd}
use Rattle.std.specs.List.{Contains, All, AllZip}
use Rattle.std.specs.Option.{option_map}
use Rattle.std.proofs.lemmas.Option.{slice_get_within, get_or_from_slice_get, slice_get-map}
use Rattle.std.proofs.lemmas.List.Elements.{All-contains}
use Rattle.sc_term.specs.declared.Term.{Var}
use Rattle.sc_term.specs.declared.Literal.{Literal}
use Rattle.sc_term.specs.declared.Clause.{Clause}
use Rattle.sc_term.specs.declared.Numbered.{Numbered}
use Rattle.sc_term.specs.declared.Pair.{Pair}
use Rattle.sc_term.specs.Numbering.{numbered}
use Rattle.sc_term.specs.Clause.{width}
use Rattle.sc_term.specs.Substitution.{Substitution, Unify, literal_under}
use Rattle.sc_term.specs.JointInstance.{apart, apart_above, shift}
use Rattle.sc_term.proofs.SubstitutionLaws.{clause_laws}
use Rattle.sc_steps.proofs.ListLaws.{some_and}
use Rattle.sc_core_rules.specs.declared.site.HyperSite.{HyperSite}
use Rattle.sc_core_rules.specs.declared.site.Pick.{Pick}
use Rattle.sc_core_rules.specs.Order.{IsBefore}
use Rattle.sc_core_rules.specs.Pairing.{literal_at, literal_in, ArePairs, HaveOppositeSigns, places_in, places_from}
use Rattle.sc_core_rules.specs.Inference.{Inference, Resolving}
use Rattle.sc_core_rules.specs.Hyperresolution.{IsHyper, IsPositive, AreNamed, AreHyperSites, hyper_numbers, picked_numbers, picked_literals}
use Rattle.sc_core_rules.proofs.OrderLaws.{in_order_is_one}
use Rattle.sc_core_rules.proofs.StepLaws.{same_some}
use Rattle.sc_resolve.specs.ByNumber.{AreByNumber}
use Rattle.sc_resolve.specs.Extending.{Extends, Below}
use Rattle.sc_resolve.proofs.Extending.{Rising, same, nothing}
use Rattle.sc_resolve.proofs.LiteralLaws.{numbered_next, numbered_place, contains_at, at_contains}
use Rattle.sc_resolve.proofs.OrderLaws.{first_by_number}
use Rattle.sc_resolve.proofs.PartLaws.{numbered_map}
use Rattle.sc_hyper.specs.declared.candidates.Candidate.{Candidate}
use Rattle.sc_hyper.specs.Negatives.{AreLiteralsAt, ArePicked, IsNegative}
use Rattle.sc_hyper.specs.Candidates.{IsCandidate, AreCandidates}
use Rattle.sc_hyper.specs.Choosing.{pick_of, pair_with, pairs_of, Completes, IsWithNucleus, IsWithUsable}
use Rattle.sc_hyper.proofs.ListPieces.{zip_so}
use Rattle.sc_hyper.proofs.CandidateLaws.{candidate_of}

-- ---- the negative literals

some_injective : {X : Type 0} (xs ys : List X) → map Some xs ≡ map Some ys → xs ≡ ys
some_injective [] [] e = refl
some_injective {X} [] (y ∷ ys) e = let bad : ◌≡◌ {A = List (Option X)} [] (Some y ∷ map Some ys) = e in absurd cc
some_injective {X} (x ∷ xs) [] e = let bad : ◌≡◌ {A = List (Option X)} (Some x ∷ map Some xs) [] = e in absurd cc
some_injective {X} (x ∷ xs) (y ∷ ys) e =
    let both : ◌≡◌ {A = List (Option X)} (Some x ∷ map Some xs) (Some y ∷ map Some ys) = e in
    let first : x ≡ y = cc in
    let rest : map Some xs ≡ map Some ys = cc in
    let last : xs ≡ ys = some_injective xs ys rest in λ i. first i ∷ last i

pub picked_are_one : (P : ℕ → Literal → Type 0) (c : Clause) (ns ms : List ℕ) (ls ks : List Literal) → ArePicked P c ns ls → ArePicked P c ms ks → ls ≡ ks
picked_are_one P c ns ms ls ks h k =
    let e : ns ≡ ms = in_order_is_one (λ a. a ∷ []) (λ a. IsSomeAnd (numbered c.literals a) (P a)) ns ms h.are k.are in
    some_injective ls ks (h.there ∙ ap (λ (as' : List ℕ). map (numbered c.literals) as') e ∙ sym k.there)

none_numbered : (f : ℕ → Option Literal) (ns : List ℕ) (ls : List Literal) → map Some ls ≡ map f ns → ns ≡ [] → ls ≡ []
none_numbered f ns [] e h = refl
none_numbered f ns (l ∷ ls) e h = let bad : ◌≡◌ {A = List (Option Literal)} (Some l ∷ map Some ls) [] = e ∙ ap (λ (as' : List ℕ). map f as') h in absurd cc

none_there : (f : ℕ → Option Literal) (ns : List ℕ) (ls : List Literal) → map Some ls ≡ map f ns → ls ≡ [] → ns ≡ []
none_there f [] ls e h = refl
none_there f (n ∷ ns) ls e h = let bad : ◌≡◌ {A = List (Option Literal)} [] (f n ∷ map f ns) = ap (λ (ks : List Literal). map Some ks) (sym h) ∙ e in absurd cc

pub literals_at : (f : ℕ → Option Literal) (P : ℕ → Literal → Type 0) (ns : List ℕ) → All (λ a. IsSomeAnd (f a) (P a)) ns → (ls : List Literal) × (map Some ls ≡ map f ns) × AllZip P ns ls
literals_at f P [] h = ([], refl, tt)
literals_at f P (n ∷ ns) h =
    let first = some_and (f n) (P n) (h 0 n (omega arith)) in
    let rest = literals_at f P ns (λ k d less. h (suc k) d (omega arith)) in
    (first.0 ∷ rest.0, (λ i. sym first.1 i ∷ rest.1 i), (first.2, rest.2))

each_at : (f : ℕ → Option Literal) (ns : List ℕ) (ls : List Literal) → map Some ls ≡ map f ns → AllZip (λ n l. f n ≡ Some l) ns ls
each_at f [] [] e = tt
each_at f [] (l ∷ ls) e = let bad : ◌≡◌ {A = List (Option Literal)} (Some l ∷ map Some ls) [] = e in absurd cc
each_at f (n ∷ ns) [] e = let bad : ◌≡◌ {A = List (Option Literal)} [] (f n ∷ map f ns) = e in absurd cc
each_at f (n ∷ ns) (l ∷ ls) e =
    let both : ◌≡◌ {A = List (Option Literal)} (Some l ∷ map Some ls) (f n ∷ map f ns) = e in
    let first : f n ≡ Some l = cc in
    let rest : map Some ls ≡ map f ns = cc in
    (first, each_at f ns ls rest)

-- ---- electrons of candidates

pub record IsOf (Fits : Clause → Type 0) (usable : List Numbered) (c : Candidate) (e : Numbered) : Type 0 where
  pub listed : Contains usable e
  pub fits : Fits e.clause
  pub number : c.number ≡ e.number
  pub wide : c.wide ≡ width e.clause
  pub there : numbered e.clause.literals c.lit ≡ Some c.literal

pub electrons_of : (Fits : Clause → Type 0) (usable : List Numbered) (cs : List Candidate) → All (IsCandidate Fits usable) cs → (es : List Numbered) × AllZip (IsOf Fits usable) cs es
electrons_of Fits usable [] h = ([], tt)
electrons_of Fits usable (c ∷ cs) h =
    let first : IsCandidate Fits usable c = h 0 c (omega arith) in
    let rest = electrons_of Fits usable cs (λ k d less. h (suc k) d (omega arith)) in
    (first.electron ∷ rest.0, (record { listed = first.listed; fits = first.fits; number = first.number; wide = first.wide; there = first.there }, rest.1))

pub are_named : (Fits : Clause → Type 0) (usable : List Numbered) (cs : List Candidate) (es : List Numbered) → AllZip (IsOf Fits usable) cs es → AreNamed usable (map (λ (p : Pick). p.number) (map pick_of cs)) es
are_named Fits usable [] [] h = tt
are_named Fits usable [] (e ∷ es) h = absurd h
are_named Fits usable (c ∷ cs) [] h = absurd h
are_named Fits usable (c ∷ cs) (e ∷ es) h = ((sym h.0.number, h.0.listed), are_named Fits usable cs es h.1)

pub all_cons : {X : Type 0} (P : X → Type 0) (x : X) (xs : List X) → P x → All P xs → All P (x ∷ xs)
all_cons P x xs h t zero d less = h
all_cons P x xs h t (suc k) d less = t k d (omega (arith, less))

pub are_fit : (Fits : Clause → Type 0) (usable : List Numbered) (cs : List Candidate) (es : List Numbered) → AllZip (IsOf Fits usable) cs es → All (λ (e : Numbered). Fits e.clause) es
are_fit Fits usable cs [] h = λ k d less. absurd (omega arith)
are_fit Fits usable [] (e ∷ es) h = absurd h
are_fit Fits usable (c ∷ cs) (e ∷ es) h = all_cons (λ (d : Numbered). Fits d.clause) e es h.0.fits (are_fit Fits usable cs es h.1)

pub candidates_of : (Fits : Clause → Type 0) (usable : List Numbered) (candidates : List Candidate) → AreCandidates Fits usable candidates → (cs : List Candidate) (es : List Numbered) → AllZip (IsOf Fits usable) cs es → All (Contains candidates) cs
candidates_of Fits usable candidates are [] es h = λ k d less. absurd (omega arith)
candidates_of Fits usable candidates are (c ∷ cs) [] h = absurd h
candidates_of Fits usable candidates are (c ∷ cs) (e ∷ es) h =
    all_cons (Contains candidates) c cs
    (are.all c (record { electron = e; listed = h.0.listed; fits = h.0.fits; number = h.0.number; wide = h.0.wide; there = h.0.there }))
    (candidates_of Fits usable candidates are cs es h.1)

-- ---- pairs

abbrev pub clauses : List Numbered → List Clause
clauses es = map (λ (e : Numbered). e.clause) es

at_seam : {X : Type 0} (front rest : List X) (x : X) → slice_get (front ++ x ∷ rest) (length front) ≡ Some x
at_seam [] rest x = refl
at_seam (y ∷ front) rest x = at_seam front rest x

-- the literal of the next parent
pub right_there : (parents front rest : List Clause) (c : Clause) (k lit : ℕ) → parents ≡ front ++ c ∷ rest → k ≡ length front + 1 → literal_at parents (record { parent = k; lit = lit }) ≡ numbered c.literals lit
right_there parents front rest c k lit e long =
    ap (λ (d : Option Clause). literal_in d lit) (ap (numbered parents) long ∙ ap (λ (cs : List Clause). numbered cs (length front + 1)) e ∙ numbered_next (front ++ c ∷ rest) (length front) ∙ at_seam front rest c)

pub behind : (parents front rest : List Clause) (c : Clause) → parents ≡ front ++ c ∷ rest → parents ≡ (front ++ c ∷ []) ++ rest
behind parents front rest c e = e ∙ sym (append_assoc front (c ∷ []) rest)

abbrev AreLeft : List Clause → List ℕ → List Literal → Type 0
AreLeft parents ns ls = AllZip (λ n l. literal_at parents (record { parent = 1; lit = n }) ≡ Some l) ns ls

pub pairs_there : (Fits : Clause → Type 0) (usable : List Numbered) (parents front : List Clause) (low k : ℕ) (cs : List Candidate) (es : List Numbered) (ns : List ℕ) (ls : List Literal)
    → parents ≡ front ++ apart_above low (clauses es) → k ≡ length front + 1 → AllZip (IsOf Fits usable) cs es → AreLeft parents ns ls → length cs ≡ length ls
    → ArePairs parents (places_in 1 ns) (places_from k (map (λ (p : Pick). p.lit) (map pick_of cs))) (pairs_of low ls cs)
pairs_there Fits usable parents front low k [] es [] [] e long of left many = refl
pairs_there Fits usable parents front low k [] es (n ∷ ns) [] e long of left many = absurd left
pairs_there Fits usable parents front low k [] es ns (l ∷ ls) e long of left many = absurd (omega arith)
pairs_there Fits usable parents front low k (c ∷ cs) [] ns ls e long of left many = absurd of
pairs_there Fits usable parents front low k (c ∷ cs) (d ∷ es) ns [] e long of left many = absurd (omega arith)
pairs_there Fits usable parents front low k (c ∷ cs) (d ∷ es) [] (l ∷ ls) e long of left many = absurd left
pairs_there Fits usable parents front low k (c ∷ cs) (d ∷ es) (n ∷ ns) (l ∷ ls) e long of left many = (
  left.0,
  right_there parents front (apart_above (low + width d.clause) (clauses es)) (shift low d.clause) k c.lit e long
      ∙ numbered_map (literal_under (λ m. Var (m + low))) d.clause.literals c.lit c.literal of.0.there,
  pairs_there Fits usable parents (front ++ shift low d.clause ∷ []) (low + c.wide) (k + 1) cs es ns ls
      (behind parents front (apart_above (low + width d.clause) (clauses es)) (shift low d.clause) e
      ∙ ap (λ m. (front ++ shift low d.clause ∷ []) ++ apart_above (low + m) (clauses es)) (sym of.0.wide))
      (omega (arith, length-append front (shift low d.clause ∷ []))) of.1 left.1 (omega arith),
)

-- ---- the choice of a site

pub record IsMade (Fits : Clause → Type 0) (usable : List Numbered) (low : ℕ) (ls : List Literal) (picks : List Pick) (es : List Numbered) (ps : List Pair) : Type 0 where
  pub cs : List Candidate
  pub of : AllZip (IsOf Fits usable) cs es
  pub picks_are : picks ≡ map pick_of cs
  pub pairs_are : ps ≡ pairs_of low ls cs
  pub many : length cs ≡ length ls

mapped_at : {X Y : Type 0} (f : X → Y) (o : Option X) (y : Y) → option_map f o ≡ Some y → (x : X) × (o ≡ Some x) × (f x ≡ y)
mapped_at {Y = Y} f None y h = let none : ◌≡◌ {A = Option Y} None (Some y) = h in absurd cc
mapped_at f (Some x) y h = (x, refl, cc)

unmapped : {X Y : Type 0} (f : X → Y) (xs : List X) (n : ℕ) (y : Y) → numbered (map f xs) n ≡ Some y → (x : X) × (numbered xs n ≡ Some x) × (f x ≡ y)
unmapped f xs n y h =
    let place = numbered_place (map f xs) n y h in
    let old = mapped_at f (slice_get xs place.0) y (sym (slice_get-map f xs place.0) ∙ place.2) in
    (old.0, ap (numbered xs) place.1 ∙ numbered_next xs place.0 ∙ old.1, old.2)

pub made : (Fits : Clause → Type 0) (usable : List Numbered) (parents front : List Clause) (low k : ℕ) (picks : List Pick) (es : List Numbered) (ns : List ℕ) (ls : List Literal) (ps : List Pair)
    → parents ≡ front ++ apart_above low (clauses es) → k ≡ length front + 1 → AreNamed usable (map (λ (p : Pick). p.number) picks) es → All (λ (e : Numbered). Fits e.clause) es → AreLeft parents ns ls
    → ArePairs parents (places_in 1 ns) (places_from k (map (λ (p : Pick). p.lit) picks)) ps → IsMade Fits usable low ls picks es ps
made Fits usable parents front low k [] [] [] [] ps e long named positive left pairs = record { cs = []; of = tt; picks_are = refl; pairs_are = pairs; many = refl }
made Fits usable parents front low k [] [] [] (l ∷ ls) ps e long named positive left pairs = absurd left
made Fits usable parents front low k [] [] (n ∷ ns) ls ps e long named positive left pairs = absurd pairs
made Fits usable parents front low k [] (d ∷ es) ns ls ps e long named positive left pairs = absurd named
made Fits usable parents front low k (q ∷ picks) [] ns ls ps e long named positive left pairs = absurd named
made Fits usable parents front low k (q ∷ picks) (d ∷ es) [] ls ps e long named positive left pairs = absurd pairs
made Fits usable parents front low k (q ∷ picks) (d ∷ es) (n ∷ ns) [] ps e long named positive left pairs = absurd left
made Fits usable parents front low k (q ∷ picks) (d ∷ es) (n ∷ ns) (l ∷ ls) [] e long named positive left pairs = absurd pairs
made Fits usable parents front low k (q ∷ picks) (d ∷ es) (n ∷ ns) (l ∷ ls) (p ∷ ps) e long named positive left pairs =
    let old = unmapped (literal_under (λ m. Var (m + low))) d.clause.literals q.lit p.right
    (sym (right_there parents front (apart_above (low + width d.clause) (clauses es)) (shift low d.clause) k q.lit e long) ∙ pairs.1) in
    let rest = made Fits usable parents (front ++ shift low d.clause ∷ []) (low + width d.clause) (k + 1) picks es ns ls ps
    (behind parents front (apart_above (low + width d.clause) (clauses es)) (shift low d.clause) e) (omega (arith, length-append front (shift low d.clause ∷ [])))
    named.1 (λ j f less. positive (suc j) f (omega arith)) left.1 pairs.2 in
    let first : p.left ≡ l = same_some (literal_at parents (record { parent = 1; lit = n })) p.left l pairs.0 left.0 in
    record {
      cs = candidate_of d q.lit old.0 ∷ rest.cs;
      of = (record { listed = named.0.1; fits = positive 0 d (omega arith); number = refl; wide = refl; there = old.1 }, rest.of);
      picks_are = picks_so q d (sym named.0.0) picks (map pick_of rest.cs) old.0 rest.picks_are;
      pairs_are = λ i. pair (first i) (sym old.2 i) ∷ rest.pairs_are i;
      many = omega (arith, rest.many);
    }
  where
    pair : Literal → Literal → Pair
    pair x y = record { left = x; right = y }

    picks_so : (q : Pick) (d : Numbered) → q.number ≡ d.number → (qs rs : List Pick) (l : Literal) → qs ≡ rs → q ∷ qs ≡ pick_of (candidate_of d q.lit l) ∷ rs
    picks_so q d e qs rs l f = λ i. pick (e i) q.lit ∷ f i
      where
        pick : ℕ → ℕ → Pick
        pick m n = record { number = m; lit = n }

pub hyper_signs : (usable : List Numbered) (low : ℕ) (cs : List Candidate) (es : List Numbered) (ns : List ℕ) (ls : List Literal) → AllZip (IsOf IsPositive usable) cs es → AllZip IsNegative ns ls
    → HaveOppositeSigns (pairs_of low ls cs)
hyper_signs usable low cs es ns [] of negative = λ k d less. absurd (omega arith)
hyper_signs usable low [] es ns (l ∷ ls) of negative = λ k d less. absurd (omega arith)
hyper_signs usable low (c ∷ cs) [] ns (l ∷ ls) of negative = absurd of
hyper_signs usable low (c ∷ cs) (e ∷ es) [] (l ∷ ls) of negative = absurd negative
hyper_signs usable low (c ∷ cs) (e ∷ es) (n ∷ ns) (l ∷ ls) of negative =
    let place = numbered_place e.clause.literals c.lit c.literal of.0.there in
    let positive : c.literal.positive ≡ true = All-contains (λ (m : Literal). m.positive ≡ true) e.clause.literals c.literal of.0.fits (contains_at e.clause.literals place.0 c.literal place.2) in
    all_cons (λ (q : Pair). q.left.positive ≡ not q.right.positive) (pair_with low l c) (pairs_of (low + c.wide) ls cs) (negative.0 ∙ sym (ap not positive)) (hyper_signs usable (low + c.wide) cs es ns ls of.1 negative.1)

-- ---- sites

not_moved : (c : Clause) → shift 0 c ≡ c
not_moved c = ap (λ (s : Substitution). record { literals = map (literal_under s) c.literals }) (λ i n. Var (none n i)) ∙ (clause_laws c).identity
  where
    none : (n : ℕ) → n + 0 ≡ n
    none n = omega arith

abbrev pub parents_of : Numbered → List Numbered → List Clause
parents_of p es = apart (p.clause ∷ clauses es)

pub parents_so : (p : Numbered) (es : List Numbered) → parents_of p es ≡ (shift 0 p.clause ∷ []) ++ apart_above (width p.clause) (clauses es)
parents_so p es = let z : 0 + width p.clause ≡ width p.clause = omega arith in λ i. shift 0 p.clause ∷ apart_above (z i) (clauses es)

pub left_so : (p : Numbered) (es : List Numbered) (ns : List ℕ) (ls : List Literal) → AreLiteralsAt p.clause ns ls → AreLeft (parents_of p es) ns ls
left_so p es ns ls h =
    each_at (λ n. literal_at (parents_of p es) (record { parent = 1; lit = n })) ns ls
    (subst (λ (c : Clause). map Some ls ≡ map (λ n. numbered c.literals n) ns) (sym (not_moved p.clause)) h)

abbrev IsSite : Numbered → List Numbered → HyperSite → Type 0
IsSite given usable x = (i : Inference) × IsHyper given usable x i

module _ (given : Numbered) (usable : List Numbered) (candidates : List Candidate) (are : AreCandidates IsPositive usable candidates) where
  abbrev Found : HyperSite → Type 0
  Found = Below (IsWithUsable given.number candidates usable) (length usable)

  is_site : (x : HyperSite) → Found x → IsSite given usable x
  is_site x (n, less, (p, at_n, w)) =
      let cs = w.choice.0 in
      let h = w.choice.1 in
      let found = electrons_of IsPositive usable cs (λ k d less. by (h.among k d less)) in
      let es = found.0 in
      let picked : x.electrons ≡ map pick_of cs = ap (λ (y : HyperSite). y.electrons) h.is in (
        record { parents = p ∷ es; pairs = pairs_of (width p.clause) w.literals cs; ending = Resolving w.numbers (picked_literals x) },
        record {
          nucleus = p;
          electrons = es;
          nucleus_named = ((ap (λ (y : HyperSite). y.nucleus) (sym h.is), contains_at usable n p at_n), tt);
          electrons_named = subst (λ (ps : List Pick). AreNamed usable (map (λ (q : Pick). q.number) ps) es) (sym picked) (are_named IsPositive usable cs es found.1);
          electrons_positive = are_fit IsPositive usable cs es found.1;
          has_given = subst (λ m. Contains (m ∷ picked_numbers x) given.number) (ap (λ (y : HyperSite). y.nucleus) (sym h.is)) h.has_given;
          parents = refl;
          negative = w.numbers;
          are_negative = w.negative.are;
          some_negative = λ e. w.some (none_numbered (numbered p.clause.literals) w.numbers w.literals w.negative.there e);
          pairs = subst (λ (ps : List Pick). ArePairs (parents_of p es) (places_in 1 w.numbers) (places_from 2 (map (λ (q : Pick). q.lit) ps)) (pairs_of (width p.clause) w.literals cs)) (sym picked)
              (pairs_there IsPositive usable (parents_of p es) (shift 0 p.clause ∷ []) (width p.clause) 2 cs es w.numbers w.literals (parents_so p es) (omega arith) found.1
              (left_so p es w.numbers w.literals w.negative.there) h.many);
          unify = h.unify;
          ending = refl;
        },
      )
    where
      by : {c : Candidate} → Contains candidates c → IsCandidate IsPositive usable c
      by {c} listed = All-contains (IsCandidate IsPositive usable) candidates c are.only listed

  is_found : (x : HyperSite) → IsSite given usable x → Found x
  is_found x (i, h) =
      let p = h.nucleus in
      let es = h.electrons in
      let listed : Contains usable p = h.nucleus_named.0.1 in
      let literals = literals_at (numbered p.clause.literals) IsNegative h.negative h.are_negative.only in
      let there : ArePairs (parents_of p es) (places_in 1 h.negative) (places_from 2 (picked_literals x)) i.pairs =
      subst (λ (qs : List Numbered). ArePairs (apart (clauses qs)) (places_in 1 h.negative) (places_from 2 (picked_literals x)) i.pairs) h.parents h.pairs in
      let choice = made IsPositive usable (parents_of p es) (shift 0 p.clause ∷ []) (width p.clause) 2 x.electrons es h.negative literals.0 i.pairs (parents_so p es) (omega arith) h.electrons_named h.electrons_positive
      (left_so p es h.negative literals.0 literals.1) there in (
        listed.0,
        listed.1,
        (
          p,
          at_contains usable p listed,
          record {
            numbers = h.negative;
            literals = literals.0;
            negative = record { are = h.are_negative; there = literals.1 };
            some = λ e. h.some_negative (none_there (numbered p.clause.literals) h.negative literals.0 literals.1 e);
            choice = (
              choice.cs,
              record {
                is = site_so p.number x (map pick_of choice.cs) (sym h.nucleus_named.0.0) choice.picks_are;
                many = choice.many;
                among = candidates_of IsPositive usable candidates are choice.cs es choice.of;
                signs = hyper_signs usable (width p.clause) choice.cs es h.negative literals.0 choice.of literals.2;
                unify = subst Unify choice.pairs_are h.unify;
                has_given = subst (λ m. Contains (m ∷ picked_numbers x) given.number) (sym h.nucleus_named.0.0) h.has_given;
              },
            );
          },
        ),
      )
    where
      site : ℕ → List Pick → HyperSite
      site m ps = record { nucleus = m; electrons = ps }

      site_so : (m : ℕ) (y : HyperSite) (ps : List Pick) → y.nucleus ≡ m → y.electrons ≡ ps → y ≡ site m ps
      site_so m y ps e f = λ j. site (e j) (f j)

  pub are_sites : (limit : ℕ) (sites : List HyperSite) → Extends hyper_numbers Found limit [] sites → AreHyperSites given usable limit sites
  are_sites limit sites h =
      let all = same hyper_numbers limit Found (IsSite given usable) [] sites h is_site is_found in
      let room : limit - 0 ≡ limit = omega arith in
      subst (AreHyperSites given usable limit) (sym all.grown) (subst (λ n. AreHyperSites given usable n all.found) room all.first)

-- ---- nucleus by nucleus

pub usables_rise : (given : ℕ) (candidates : List Candidate) (usable : List Numbered) → AllPairs (λ p q. p.number < q.number) usable → Rising hyper_numbers (IsWithUsable given candidates usable)
usables_rise given candidates usable up j k x y less (p, at_j, w) (q, at_k, v) =
    subst (λ (z : HyperSite). IsBefore (hyper_numbers z) (hyper_numbers y)) (sym w.choice.1.is)
    (subst (λ (z : HyperSite). IsBefore (hyper_numbers (record { nucleus = p.number; electrons = map pick_of w.choice.0 })) (hyper_numbers z)) (sym v.choice.1.is) (inl numbers))
  where
    numbers : p.number < q.number
    numbers =
        subst (λ (r : Numbered). p.number < r.number) (get_or_from_slice_get usable k q p at_k)
        (subst (λ (r : Numbered). r.number < (get_or usable k p).number) (get_or_from_slice_get usable j p p at_j) (up j k p less (slice_get_within usable k q at_k)))

module _ (given : ℕ) (candidates : List Candidate) (limit : ℕ) where
  pub with_usable : (usable : List Numbered) (k : ℕ) (p : Numbered) → slice_get usable k ≡ Some p → (xs ys : List HyperSite) → Extends hyper_numbers (IsWithNucleus given candidates p) limit xs ys
      → Extends hyper_numbers (IsWithUsable given candidates usable k) limit xs ys
  with_usable usable k p there xs ys h =
      same hyper_numbers limit (IsWithNucleus given candidates p) (IsWithUsable given candidates usable k) xs ys h
      (λ x b. (p, there, b))
      (λ x b. subst (λ (q : Numbered). IsWithNucleus given candidates q x) (same_some (slice_get usable k) b.0 p b.1 there) b.2)

  pub with_nucleus : (p : Numbered) (ns : List ℕ) (ls : List Literal) → ArePicked IsNegative p.clause ns ls → ls ≢ [] → (xs ys : List HyperSite)
      → Extends hyper_numbers (Completes p.number given candidates (width p.clause) ls []) limit xs ys → Extends hyper_numbers (IsWithNucleus given candidates p) limit xs ys
  with_nucleus p ns ls negative some xs ys h =
      same hyper_numbers limit (Completes p.number given candidates (width p.clause) ls []) (IsWithNucleus given candidates p) xs ys h
      (λ x b. record { numbers = ns; literals = ls; negative = negative; some = some; choice = b })
      (λ x b. subst (λ (ks : List Literal). Completes p.number given candidates (width p.clause) ks [] x) (picked_are_one IsNegative p.clause b.numbers ns b.literals ls b.negative negative) b.choice)

  pub no_nucleus : (p : Numbered) (ns : List ℕ) (ls : List Literal) → ArePicked IsNegative p.clause ns ls → ls ≡ [] → (xs : List HyperSite) → Extends hyper_numbers (IsWithNucleus given candidates p) limit xs xs
  no_nucleus p ns ls negative none xs =
      nothing hyper_numbers limit (IsWithNucleus given candidates p) xs (λ x b. b.some (picked_are_one IsNegative p.clause b.numbers ns b.literals ls b.negative negative ∙ none))

-- ---- usable clauses in another order

pub named_more : (us vs : List Numbered) (ns : List ℕ) (ps : List Numbered) → ((p : Numbered) → Contains us p → Contains vs p) → AreNamed us ns ps → AreNamed vs ns ps
named_more us vs ns ps more h = zip_so (λ n p. (p.number ≡ n) × Contains us p) (λ n p. (p.number ≡ n) × Contains vs p) ns ps (λ n p one. (one.0, more p one.1)) h

hyper_more : (given : Numbered) (us vs : List Numbered) → ((p : Numbered) → Contains us p → Contains vs p) → (x : HyperSite) → IsSite given us x → IsSite given vs x
hyper_more given us vs more x (i, h) = (
  i,
  record {
    nucleus = h.nucleus;
    electrons = h.electrons;
    nucleus_named = named_more us vs (x.nucleus ∷ []) (h.nucleus ∷ []) more h.nucleus_named;
    electrons_named = named_more us vs (picked_numbers x) h.electrons more h.electrons_named;
    electrons_positive = h.electrons_positive;
    has_given = h.has_given;
    parents = h.parents;
    negative = h.negative;
    are_negative = h.are_negative;
    some_negative = h.some_negative;
    pairs = h.pairs;
    unify = h.unify;
    ending = h.ending;
  },
)

-- the sites over the usable clauses in the order of their numbers are those over the usable clauses
pub hyper_by_number : (given : Numbered) (usable ordered : List Numbered) (limit : ℕ) (sites : List HyperSite) → AreByNumber usable ordered → AreHyperSites given ordered limit sites → AreHyperSites given usable limit sites
hyper_by_number given usable ordered limit sites h first = first_by_number hyper_numbers (IsSite given) usable ordered limit sites (hyper_more given) h first

-- The terms that take a clause to its canonical form.
use Rattle.std.proofs.Common.{◌≡◌, ◌≢◌, ◌∙◌, sym, ap, subst, refl, ℕ, zero, suc, ◌+◌, ◌<◌, ◌≤◌, ◌⊎◌, inl, inr, Bool, true, false, List, [], ◌∷◌, ◌++◌, length, map, get_or, drop, slice_get, nat_eq, nat_lt, if◌then◌else◌, ◌||◌, max, Some, arith, length-append}
use Rattle.std.specs.List.{Contains, AllByRecursion, list_any, fold, position_or_len}
use Rattle.std.proofs.lemmas.Bool.{eqb-true, eqb-false, lt-ltb, le-ltb}
use Rattle.std.proofs.lemmas.List.Sums.{position_or_len_is}
use Rattle.sc_term.specs.declared.Term.{Term, Var}
use Rattle.sc_term.specs.declared.Literal.{Literal}
use Rattle.sc_term.specs.declared.Clause.{Clause}
use Rattle.sc_term.specs.Clause.{counting_from, firsts, firsts_after, variables, width, literal_width}
use Rattle.sc_term.specs.JointInstance.{canonical, renumbering}
use Rattle.sc_term.specs.Term.{value_of, largest, joined, term_width, term_variables}
use Rattle.sc_term.specs.declared.Term.TheVariants.{App}
use Rattle.sc_term.proofs.TermLaws.{term_ind, width-Var, width-App}
use Rattle.sc_term.proofs.TermSteps.{variables-Var, variables-App}
use Rattle.sc_term.proofs.SubstitutionLaws.{clause_laws, all_join}
use Rattle.sc_core_rules.specs.Derivation.{AreTermsTo}
use Rattle.sc_term.proofs.ContainsLaws.{first_or_later, later}
use Rattle.sc_steps.proofs.LineLaws.{in_whole, at_end}
use Rattle.sc_input_rules.proofs.SymbolNumbers.{found_within}
use Rattle.sc_core_rules.proofs.DerivationLaws.{at_found}
use Rattle.std.proofs.lemmas.Option.{get_or_from_slice_get}
use Rattle.sc_keep.specs.Canonical.{place_or_first, place_terms}
use Rattle.sc_term.proofs.CanonicalForm.{all_each, in_order}

-- ---- counting

pub counted : (n : ℕ) (xs : List ℕ) → xs ≡ counting_from n xs → (k : ℕ) → k < length xs → get_or xs k 0 ≡ n + k
counted n [] e k less = absurd (omega arith)
counted n (x ∷ xs) e zero less = ap (λ ys. get_or ys 0 0) e ∙ omega arith
counted n (x ∷ xs) e (suc k) less =
    let rest : xs ≡ counting_from (n + 1) xs = ap (drop 1) e in
    counted (n + 1) xs rest k (omega arith) ∙ omega arith

-- ---- places

pub place_here : (order : List ℕ) (n i : ℕ) → i < length order → ((k : ℕ) → k < i → get_or order k 0 ≢ n) → get_or order i 0 ≡ n → place_or_first order n ≡ i
place_here order n i less before here =
    let at : position_or_len (nat_eq n) order ≡ i =
    position_or_len_is (nat_eq n) order i 0 (omega arith) (λ k low. differ (nat_eq n (get_or order k 0)) refl (λ e. before k low (sym e))) (λ _. same (nat_eq n (get_or order i 0)) refl (sym here)) in
    ap (λ p. if nat_lt p (length order) then p else 0) at ∙ ap (λ b. if b then i else 0) (lt-ltb i (length order) less)
  where
    differ : {m : ℕ} (b : Bool) → nat_eq n m ≡ b → n ≢ m → nat_eq n m ≡ false
    differ {m} true e h = absurd (h (eqb-true n m e))
    differ false e h = e

    same : {m : ℕ} (b : Bool) → nat_eq n m ≡ b → n ≡ m → nat_eq n m ≡ true
    same true e h = e
    same {m} false e h = absurd (eqb-false n m e h)

pub place_nowhere : (order : List ℕ) (n : ℕ) → ((k : ℕ) → k < length order → get_or order k 0 ≢ n) → place_or_first order n ≡ 0
place_nowhere order n never =
    let at : position_or_len (nat_eq n) order ≡ length order =
    position_or_len_is (nat_eq n) order (length order) 0 (omega arith) (λ k low. differ (nat_eq n (get_or order k 0)) refl (λ e. never k low (sym e))) (λ less. absurd (omega arith)) in
    ap (λ p. if nat_lt p (length order) then p else 0) at ∙ ap (λ b. if b then length order else 0) (le-ltb (length order) (length order) (omega arith))
  where
    differ : {m : ℕ} (b : Bool) → nat_eq n m ≡ b → n ≢ m → nat_eq n m ≡ false
    differ {m} true e h = absurd (h (eqb-true n m e))
    differ false e h = e

module _ (order : List ℕ) where
  pub one_more_place : (n : ℕ) → place_terms order (n + 1) ≡ place_terms order n ++ Var (place_or_first order n) ∷ []
  unfolding place_terms
  one_more_place n = let e : n + 1 ≡ suc n = omega arith in ap (place_terms order) e

  pub no_place : place_terms order 0 ≡ []
  unfolding place_terms
  no_place = refl

  pub places_long : (n : ℕ) → length (place_terms order n) ≡ n
  unfolding place_terms
  places_long zero = refl
  places_long (suc n) = length-append (place_terms order n) (Var (place_or_first order n) ∷ []) ∙ omega (arith, places_long n)

  pub place_got : (n k : ℕ) → k < n → slice_get (place_terms order n) k ≡ Some (Var (place_or_first order k))
  unfolding place_terms
  place_got zero k less = absurd (omega arith)
  place_got (suc n) k less = by (λ low. place_got n k low) (grind arith)
    where
      by : (k < n → slice_get (place_terms order n) k ≡ Some (Var (place_or_first order k))) → (k < n) ⊎ (k ≡ n) → slice_get (place_terms order n ++ Var (place_or_first order n) ∷ []) k ≡ Some (Var (place_or_first order k))
      by below (inl low) = in_whole (place_terms order n) (Var (place_or_first order n) ∷ []) k (Var (place_or_first order k)) (below low)
      by below (inr e) =
          let here : k ≡ length (place_terms order n) = e ∙ sym (places_long n) in
          ap (slice_get (place_terms order n ++ Var (place_or_first order n) ∷ [])) here ∙ at_end (place_terms order n) (Var (place_or_first order n)) ∙ ap (λ m. Some (Var (place_or_first order m))) (sym e)

-- ---- variables are below the width

at_least : (a : ℕ) (ns : List ℕ) → a ≤ fold max a ns
at_least a [] = omega arith
at_least a (n ∷ ns) = omega (arith, at_least (max a n) ns)

all_so : (P Q : ℕ → Type 0) → ((n : ℕ) → P n → Q n) → (ns : List ℕ) → AllByRecursion P ns → AllByRecursion Q ns
all_so P Q f [] h = tt
all_so P Q f (n ∷ ns) h = (f n h.0, all_so P Q f ns h.1)

all_below : {X : Type 0} (f : X → List ℕ) (w : X → ℕ) (xs : List X) → AllByRecursion (λ x. AllByRecursion (λ n. n < w x) (f x)) xs → AllByRecursion (λ n. n < largest (map w xs)) (joined (map f xs))
all_below {X} f w xs h = from 0 xs h
  where
    from : (a : ℕ) (xs : List X) → AllByRecursion (λ x. AllByRecursion (λ n. n < w x) (f x)) xs → AllByRecursion (λ n. n < fold max a (map w xs)) (joined (map f xs))
    from a [] h = tt
    from a (x ∷ xs) h =
        all_join (λ n. n < fold max (max a (w x)) (map w xs)) (f x) (joined (map f xs))
        (all_so (λ n. n < w x) (λ n. n < fold max (max a (w x)) (map w xs)) (λ n less. omega (arith, at_least (max a (w x)) (map w xs), less)) (f x) h.0)
        (from (max a (w x)) xs h.1)

all_of : {X : Type 0} (P : X → Type 0) → ((x : X) → P x) → (xs : List X) → AllByRecursion P xs
all_of P h [] = tt
all_of P h (x ∷ xs) = (h x, all_of P h xs)

term_below : (t : Term) → AllByRecursion (λ n. n < term_width t) (term_variables t)
term_below t = term_ind (λ t. AllByRecursion (λ n. n < term_width t) (term_variables t))
    (λ n. subst (AllByRecursion (λ k. k < term_width (Var n))) (sym (variables-Var n)) (omega (arith, width-Var n), tt))
    (λ f xs h. subst (λ w. AllByRecursion (λ n. n < w) (term_variables (App f xs))) (sym (width-App f xs))
    (subst (AllByRecursion (λ n. n < largest (map term_width xs))) (sym (variables-App f xs)) (all_below term_variables term_width xs h)))
    t

pub clause_below : (c : Clause) → AllByRecursion (λ n. n < width c) (variables c)
clause_below c = all_below (λ (l : Literal). joined (map term_variables l.args)) literal_width c.literals
    (all_of _ (λ l. all_below term_variables term_width l.args (all_of _ term_below l.args)) c.literals)

-- ---- what stands first

pub all_firsts : (P : ℕ → Type 0) (seen ns : List ℕ) → AllByRecursion P ns → AllByRecursion P (firsts_after seen ns)
all_firsts P seen [] h = tt
all_firsts P seen (n ∷ ns) h = by (list_any (nat_eq n) seen) (all_firsts P seen ns h.1) (all_firsts P (n ∷ seen) ns h.1)
  where
    by : (b : Bool) → AllByRecursion P (firsts_after seen ns) → AllByRecursion P (firsts_after (n ∷ seen) ns) → AllByRecursion P (if b then firsts_after seen ns else n ∷ firsts_after (n ∷ seen) ns)
    by true e f = e
    by false e f = (h.0, f)

pub all_at : (P : ℕ → Type 0) (ns : List ℕ) (k : ℕ) → AllByRecursion P ns → k < length ns → P (get_or ns k 0)
all_at P [] k h less = absurd (omega arith)
all_at P (n ∷ ns) zero h less = h.0
all_at P (n ∷ ns) (suc k) h less = all_at P ns k h.1 (omega arith)

-- ---- the terms to the canonical form

module _ (c : Clause) where
  abbrev order : List ℕ
  order = firsts (variables c)

  abbrev terms : List Term
  terms = place_terms order (width c)

  placed : (n : ℕ) → n < width c → list_any (nat_eq n) order ≡ true → value_of terms n ≡ renumbering order n
  placed n less there =
      get_or_from_slice_get terms n (Var (place_or_first order n)) (Var n) (place_got order (width c) n less)
      ∙ ap (λ b. Var (if b then position_or_len (nat_eq n) order else 0)) (lt-ltb (position_or_len (nat_eq n) order) (length order) (found_within (nat_eq n) order there))

  pub canonical_terms : AreTermsTo c (canonical c) terms
  canonical_terms = record {
    many = places_long order (width c);
    gives = (clause_laws c).agree (value_of terms) (renumbering order)
        (all_each (λ n. value_of terms n ≡ renumbering order n) (variables c) (λ n h. placed n (at_found (λ n. n < width c) (variables c) n (clause_below c) h) (in_order c n h)));
    rest = λ n less absent. place_got order (width c) n less ∙ ap (λ k. Some (Var k)) (place_nowhere order n
        (λ k low e. absent (subst (Contains (variables c)) e (all_at (Contains (variables c)) order k (all_firsts (Contains (variables c)) [] (variables c) (all_each (Contains (variables c)) (variables c) (λ n h. h))) low))));
  }

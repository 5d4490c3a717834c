-- Bindings that are found one after another, and the terms that they give.
use Rattle.std.proofs.Common.{◌≡◌, ◌≢◌, ◌∙◌, sym, ap, subst, refl, ℕ, zero, suc, ◌+◌, ◌<◌, ◌≤◌, ◌↔◌, Bool, true, false, ◌||◌, nat_eq, eqb, if◌then◌else◌, max, List, [], ◌∷◌, ◌++◌, map, length, get_or, slice_get, take, Option, None, Some, MatchOption, Result, Ok, Err, IfOk, IsTrue, arith, add-one, true≢false}
use Rattle.std.specs.List.{AllByRecursion, list_any, fold}
use Rattle.std.specs.Option.{unwrap_or}
use Rattle.std.proofs.lemmas.Bool.{eqb-true, eqb-false, eq-eqb}
use Rattle.sc_term.specs.declared.SymId.{SymId}
use Rattle.sc_term.specs.declared.Term.{Term, Var}
use Rattle.sc_term.specs.declared.Term.TheVariants.{App}
use Rattle.sc_term.specs.declared.Literal.{Literal}
use Rattle.sc_term.specs.Term.{joined, largest, term_under, term_variables, term_width, value_of}
use Rattle.sc_term.specs.Clause.{literal_width, literal_instance}
use Rattle.sc_term.specs.Refuted.{Atom, atom_of}
use Rattle.sc_term.specs.Substitution.{Substitution, literal_under}
use Rattle.sc_term.proofs.TermLaws.{term_ind, App-injective, width-Var, width-App}
use Rattle.sc_term.proofs.TermSteps.{under-Var, under-App, variables-Var, variables-App}
use Rattle.sc_term.proofs.SubstitutionLaws.{all_split, all_join, literal_laws}
use Rattle.sc_unify.specs.declared.bound.Binding.{Binding}
use Rattle.sc_unify.specs.Bindings.{lookup}
use Rattle.sc_unify.specs.Matching.{Gives, IsFunctional, IsMatched, Matches, filled, IsMatch, HasNoMatch}
use Rattle.sc_unify.proofs.TermFacts.{all_so, same_or_not, joined_append, map_append}
use Rattle.sc_unify.proofs.Bindings.{lookup-more}
use Rattle.sc_unify.proofs.Rows.{take-more}

-- ---- a variable

given : (s : Substitution) (bs : List Binding) (n : ℕ) (t : Term) → Gives s bs → lookup bs n ≡ Some t → s n ≡ t
given s [] n t h e = cc
given s (b ∷ bs) n t h e = by (nat_eq b.variable n) refl e (given s bs n t h.1)
  where
    by : (q : Bool) → nat_eq b.variable n ≡ q → (if q then Some b.term else lookup bs n) ≡ Some t → (lookup bs n ≡ Some t → s n ≡ t) → s n ≡ t
    by true same found rest = ap s (sym (eqb-true b.variable n same)) ∙ h.0 ∙ (let is : b.term ≡ t = cc in is)
    by false same found rest = rest found

pub known : (bs : List Binding) (n : ℕ) (t target : Term) → lookup bs n ≡ Some t → (can : Bool) → (IsTrue can ↔ (t ≡ target)) → Matches can bs bs (λ s. s n ≡ target) (n ∷ [])
known bs n t target e true is = record {
  same = λ s. (λ h. (h, given s bs n t h e ∙ is.0 refl), λ h. h.0);
  functional = λ h. h;
  beside = λ k ne. refl;
}
known bs n t target e false is = λ s h same. true≢false (sym (is.1 (sym (given s bs n t h e) ∙ same)))

module _ (bs : List Binding) (b : Binding) (free : lookup bs b.variable ≡ None) where
  abbrev n : ℕ
  n = b.variable

  stays : (k : ℕ) (t : Term) → lookup bs k ≡ Some t → lookup (bs ++ b ∷ []) k ≡ Some t
  stays k t e = subst (λ o. MatchOption o (lookup (bs ++ b ∷ []) k ≡ (if nat_eq n k then Some b.term else None)) (λ t. lookup (bs ++ b ∷ []) k ≡ Some t)) e (lookup-more bs b k)

  now_bound : lookup (bs ++ b ∷ []) n ≡ Some b.term
  now_bound = subst (λ o. MatchOption o (lookup (bs ++ b ∷ []) n ≡ (if nat_eq n n then Some b.term else None)) (λ t. lookup (bs ++ b ∷ []) n ≡ Some t)) free (lookup-more bs b n)
      ∙ ap (λ q. if q then Some b.term else None) (eq-eqb n n refl)

  differ : (k : ℕ) → n ≢ k → nat_eq n k ≡ false
  differ k ne = by (nat_eq n k) refl
    where
      by : (q : Bool) → nat_eq n k ≡ q → q ≡ false
      by true e = absurd (ne (eqb-true n k e))
      by false e = refl

  elsewhere : (k : ℕ) → n ≢ k → lookup (bs ++ b ∷ []) k ≡ lookup bs k
  elsewhere k ne = by (lookup bs k) (lookup-more bs b k)
    where
      by : (o : Option Term) → MatchOption o (lookup (bs ++ b ∷ []) k ≡ (if nat_eq n k then Some b.term else None)) (λ t. lookup (bs ++ b ∷ []) k ≡ Some t) → lookup (bs ++ b ∷ []) k ≡ o
      by None e = e ∙ ap (λ q. if q then Some b.term else None) (differ k ne)
      by (Some t) e = e

  pub newly : IsMatched bs (bs ++ b ∷ []) (λ s. s n ≡ b.term) (n ∷ [])
  newly = record {
    same = λ s. (
      λ h. let both = all_split (λ (c : Binding). s c.variable ≡ c.term) bs (b ∷ []) h in (both.0, both.1.0),
      λ h. all_join (λ (c : Binding). s c.variable ≡ c.term) bs (b ∷ []) h.0 (h.1, tt),
    );
    functional = λ h.
        all_join (λ (c : Binding). lookup (bs ++ b ∷ []) c.variable ≡ Some c.term) bs (b ∷ [])
        (all_so (λ (c : Binding). lookup bs c.variable ≡ Some c.term) (λ (c : Binding). lookup (bs ++ b ∷ []) c.variable ≡ Some c.term) (λ c e. stays c.variable c.term e) bs h)
        (now_bound, tt);
    beside = λ k ne. elsewhere k ne.0;
  }

-- ---- one after another

pub composed : (a b c : List Binding) (p q : Substitution → Type 0) (vars more : List ℕ) → IsMatched a b p vars → IsMatched b c q more → IsMatched a c (λ s. p s × q s) (vars ++ more)
composed a b c p q vars more h k = record {
  same = λ s. (
    λ g. let late = (k.same s).0 g in let early = (h.same s).0 late.0 in (early.0, (early.1, late.1)),
    λ g. (k.same s).1 ((h.same s).1 (g.0, g.1.0), g.1.1),
  );
  functional = λ g. k.functional (h.functional g);
  beside = λ n avoids.
      let both = all_split (λ k. k ≢ n) vars more avoids in
      k.beside n both.1 ∙ h.beside n both.0;
}

pub converted : (a b : List Binding) (p q : Substitution → Type 0) (vars others : List ℕ) → ((s : Substitution) → p s ↔ q s) → vars ≡ others → IsMatched a b p vars → IsMatched a b q others
converted a b p q vars others same e h = record {
  same = λ s. (λ g. let both = (h.same s).0 g in (both.0, (same s).0 both.1), λ g. (h.same s).1 (g.0, (same s).1 g.1));
  functional = h.functional;
  beside = λ n avoids. h.beside n (subst (AllByRecursion (λ k. k ≢ n)) (sym e) avoids);
}

pub answer_converted : {E : Type 0} (r : Result Bool E) (a b : List Binding) (p q : Substitution → Type 0) (vars others : List ℕ) → ((s : Substitution) → p s ↔ q s) → vars ≡ others
    → IfOk r (λ can. Matches can a b p vars) → IfOk r (λ can. Matches can a b q others)
answer_converted (Ok true) a b p q vars others same e h = converted a b p q vars others same e h
answer_converted (Ok false) a b p q vars others same e h = λ s g k. h s g ((same s).1 k)
answer_converted (Err x) a b p q vars others same e h = tt

pub arguments_equal : (s : Substitution) (pattern target : Term) (f g : SymId) (ps ts qs us : List Term) → pattern ≡ App f ps → target ≡ App g ts → qs ≡ ps → us ≡ ts → f ≡ g
    → (map (term_under s) qs ≡ us) ↔ (term_under s pattern ≡ target)
arguments_equal s pattern target f g ps ts qs us ep et eq eu same = (
  λ e. ap (term_under s) ep ∙ under-App s f ps ∙ (λ i. App (same i) ((sym (ap (map (term_under s)) eq) ∙ e ∙ eu) i)) ∙ sym et,
  λ e. ap (map (term_under s)) eq ∙ (App-injective f g (map (term_under s) ps) ts (sym (ap (term_under s) ep ∙ under-App s f ps) ∙ e ∙ et)).1 ∙ sym eu,
)

pub row-more : (f : Term → Term) (xs ys : List Term) (i : ℕ) (x y : Term) → i < length xs → length xs ≡ length ys → x ≡ get_or xs i x → y ≡ get_or ys i y
    → ((map f (take i xs) ≡ take i ys) × (f x ≡ y)) ↔ (map f (take (i + 1) xs) ≡ take (i + 1) ys)
row-more f xs ys i x y less long ax ay = rw add-one (by xs ys i less long ax ay)
  where
    by : (xs ys : List Term) (i : ℕ) → i < length xs → length xs ≡ length ys → x ≡ get_or xs i x → y ≡ get_or ys i y
        → ((map f (take i xs) ≡ take i ys) × (f x ≡ y)) ↔ (map f (take (suc i) xs) ≡ take (suc i) ys)
    by [] ys i less long ax ay = absurd (omega arith)
    by (u ∷ us) [] i less long ax ay = absurd (omega arith)
    by (u ∷ us) (v ∷ vs) zero less long ax ay = (
      λ h i. (ap f (sym ax) ∙ h.1 ∙ ay) i ∷ [],
      λ e. (refl, ap f ax ∙ (let one : f u ≡ v = cc in one) ∙ sym ay),
    )
    by (u ∷ us) (v ∷ vs) (suc i) less long ax ay =
        let rest = by us vs i (omega arith) (omega arith) ax ay in (
          λ h. let one : f u ≡ v = (let e = h.0 in cc) in let more : map f (take i us) ≡ take i vs = (let e = h.0 in cc) in (let tail = rest.0 (more, h.1) in λ j. one j ∷ tail j),
          λ e. let one : f u ≡ v = cc in let more : map f (take (suc i) us) ≡ take (suc i) vs = cc in let both = rest.1 more in ((λ j. one j ∷ both.0 j), both.1),
        )

pub row-at : (f : Term → Term) (xs ys : List Term) (i : ℕ) (x y : Term) → i < length xs → x ≡ get_or xs i x → y ≡ get_or ys i y → map f xs ≡ ys → (map f (take i xs) ≡ take i ys) × (f x ≡ y)
row-at f [] ys i x y less ax ay e = absurd (omega arith)
row-at f (u ∷ us) [] i x y less ax ay e = cc
row-at f (u ∷ us) (v ∷ vs) zero x y less ax ay e = (refl, ap f ax ∙ (let one : f u ≡ v = cc in one) ∙ sym ay)
row-at f (u ∷ us) (v ∷ vs) (suc i) x y less ax ay e =
    let one : f u ≡ v = cc in
    let more : map f us ≡ vs = cc in
    let rest = row-at f us vs i x y (omega arith) ax ay more in
    ((λ j. one j ∷ rest.0 j), rest.1)

nothing : (xs : List ℕ) → xs ++ [] ≡ xs
nothing [] = refl
nothing (x ∷ xs) = ap (λ l. x ∷ l) (nothing xs)

pub variables-more : (xs : List Term) (i : ℕ) (x : Term) → i < length xs → x ≡ get_or xs i x → joined (map term_variables (take i xs)) ++ term_variables x ≡ joined (map term_variables (take (i + 1) xs))
variables-more xs i x less at =
    ap (λ l. joined (map term_variables (take i xs)) ++ l) (sym (nothing (term_variables x))) ∙ sym (joined_append (map term_variables (take i xs)) (term_variables x ∷ []))
    ∙ ap joined (sym (map_append term_variables (take i xs) (x ∷ []))) ∙ ap (λ l. joined (map term_variables l)) (sym (take-more xs i x less at))

abbrev no_terms : List Term
no_terms = []

pub nothing_matched : (bs : List Binding) → IsMatched bs bs (λ s. no_terms ≡ no_terms) []
nothing_matched bs = record { same = λ s. (λ h. (h, refl), λ h. h.0); functional = λ h. h; beside = λ n h. refl }

-- ---- the terms that are told

abbrev pub term_of : List Binding → Substitution
term_of bs n = unwrap_or (lookup bs n) (Var 0)

pub filled-more : (bs : List Binding) (n : ℕ) → filled bs (n + 1) ≡ filled bs n ++ term_of bs n ∷ []
unfolding filled
filled-more bs n = rw add-one refl

pub filled-none : (bs : List Binding) → filled bs 0 ≡ []
unfolding filled
filled-none bs = refl

pub length_more : (xs : List Term) (x : Term) → length (xs ++ x ∷ []) ≡ length xs + 1
length_more [] x = refl
length_more (y ∷ ys) x = omega (arith, length_more ys x)

pub filled-length : (bs : List Binding) (n : ℕ) → length (filled bs n) ≡ n
unfolding filled
filled-length bs zero = refl
filled-length bs (suc n) = omega (arith, filled-length bs n, length_more (filled bs n) (term_of bs n))

pub in_front : (xs : List Term) (x t : Term) (k : ℕ) → slice_get xs k ≡ Some t → slice_get (xs ++ x ∷ []) k ≡ Some t
in_front [] x t k e = cc
in_front (y ∷ ys) x t zero e = e
in_front (y ∷ ys) x t (suc k) e = in_front ys x t k e

pub at_end : (xs : List Term) (x : Term) → slice_get (xs ++ x ∷ []) (length xs) ≡ Some x
at_end [] x = refl
at_end (y ∷ ys) x = at_end ys x

pub filled-at : (bs : List Binding) (n k : ℕ) → k < n → slice_get (filled bs n) k ≡ Some (term_of bs k)
unfolding filled
filled-at bs zero k less = absurd (omega arith)
filled-at bs (suc n) k less = same_or_not k n
    (λ same. ap (λ j. slice_get (filled bs n ++ term_of bs n ∷ []) j) (same ∙ sym (filled-length bs n)) ∙ at_end (filled bs n) (term_of bs n) ∙ ap (λ j. Some (term_of bs j)) (sym same))
    (λ ne e. let smaller : k < n = omega arith in in_front (filled bs n) (term_of bs n) (term_of bs k) k (filled-at bs n k smaller))

pub got : (xs : List Term) (k : ℕ) (t d : Term) → slice_get xs k ≡ Some t → get_or xs k d ≡ t
got [] k t d e = cc
got (x ∷ xs) zero t d e = cc
got (x ∷ xs) (suc k) t d e = got xs k t d e

at_least : (a : ℕ) (ns : List ℕ) → a ≤ fold max a ns
at_least a [] = omega arith
at_least a (n ∷ ns) = omega (arith, at_least (max a n) ns)

-- the variables of a row are below its width
below : (ts : List Term) → AllByRecursion (λ t. AllByRecursion (λ n. n < term_width t) (term_variables t)) ts → AllByRecursion (λ n. n < largest (map term_width ts)) (joined (map term_variables ts))
below ts h = from 0 ts h
  where
    from : (a : ℕ) (ts : List Term) → AllByRecursion (λ t. AllByRecursion (λ n. n < term_width t) (term_variables t)) ts
        → AllByRecursion (λ n. n < fold max a (map term_width ts)) (joined (map term_variables ts))
    from a [] h = tt
    from a (t ∷ ts) h =
        all_join (λ n. n < fold max (max a (term_width t)) (map term_width ts)) (term_variables t) (joined (map term_variables ts))
        (all_so (λ n. n < term_width t) (λ n. n < fold max (max a (term_width t)) (map term_width ts)) (λ n less. omega (arith, at_least (max a (term_width t)) (map term_width ts), less)) (term_variables t) h.0)
        (from (max a (term_width t)) ts h.1)

pub term_below : (t : Term) → AllByRecursion (λ n. n < term_width t) (term_variables t)
term_below t = term_ind (λ t. AllByRecursion (λ n. n < term_width t) (term_variables t))
    (λ n. subst (AllByRecursion (λ k. k < term_width (Var n))) (sym (variables-Var n)) (omega (arith, width-Var n), tt))
    (λ f xs h. subst (λ w. AllByRecursion (λ n. n < w) (term_variables (App f xs))) (sym (width-App f xs))
    (subst (AllByRecursion (λ n. n < largest (map term_width xs))) (sym (variables-App f xs)) (below xs h)))
    t

all_below : (ts : List Term) → AllByRecursion (λ t. AllByRecursion (λ n. n < term_width t) (term_variables t)) ts
all_below [] = tt
all_below (t ∷ ts) = (term_below t, all_below ts)

pub none_of : (n : ℕ) (ns : List ℕ) → list_any (nat_eq n) ns ≡ false → AllByRecursion (λ k. k ≢ n) ns
none_of n [] e = tt
none_of n (m ∷ ms) e = by (nat_eq n m) refl e (none_of n ms)
  where
    by : (q : Bool) → nat_eq n m ≡ q → (q || list_any (nat_eq n) ms) ≡ false → (list_any (nat_eq n) ms ≡ false → AllByRecursion (λ k. k ≢ n) ms) → (m ≢ n) × AllByRecursion (λ k. k ≢ n) ms
    by true same f rest = cc
    by false same f rest = (λ is. eqb-false n m same (sym is), rest f)

pub is_match : (pattern target : Literal) (bs : List Binding) → pattern.pred ≡ target.pred
    → IsMatched [] bs (λ s. map (term_under s) pattern.args ≡ target.args) (joined (map term_variables pattern.args)) → IsMatch pattern target (filled bs (literal_width pattern))
is_match pattern target bs same h = record {
  long = filled-length bs (literal_width pattern);
  equal = ap atom_of agrees ∙ (λ i. record { pred = same i; args = args i });
  absent = λ n less e. filled-at bs (literal_width pattern) n less ∙ ap (λ o. Some (unwrap_or o (Var 0))) (h.beside n (none_of n (joined (map term_variables pattern.args)) e));
}
  where
    gives : Gives (term_of bs) bs
    gives = all_so (λ (b : Binding). lookup bs b.variable ≡ Some b.term) (λ (b : Binding). term_of bs b.variable ≡ b.term) (λ b e. ap (λ o. unwrap_or o (Var 0)) e) bs (h.functional tt)

    args : map (term_under (term_of bs)) pattern.args ≡ target.args
    args = ((h.same (term_of bs)).0 gives).1

    agrees : literal_instance (filled bs (literal_width pattern)) pattern ≡ literal_under (term_of bs) pattern
    agrees = (literal_laws pattern).agree (value_of (filled bs (literal_width pattern))) (term_of bs)
        (all_so (λ n. n < literal_width pattern) (λ n. value_of (filled bs (literal_width pattern)) n ≡ term_of bs n)
        (λ n less. got (filled bs (literal_width pattern)) n (term_of bs n) (Var n) (filled-at bs (literal_width pattern) n less))
        (joined (map term_variables pattern.args)) (below pattern.args (all_below pattern.args)))

pub no_match : (pattern target : Literal) (bs : List Binding) → Matches false [] bs (λ s. map (term_under s) pattern.args ≡ target.args) (joined (map term_variables pattern.args)) → HasNoMatch pattern target
no_match pattern target bs h s e = h s tt (ap (λ (a : Atom). a.args) e)

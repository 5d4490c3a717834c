-- What is decided by values for the first cells stays decided when more cells get values, and depends on the elements
-- of the clause's own variables alone.
use Rattle.std.proofs.Common.{◌≡◌, ◌∙◌, sym, ap, subst, refl, ℕ, zero, suc, ◌<◌, ◌≤◌, Bool, true, false, not, if◌then◌else◌, List, [], ◌∷◌, ◌++◌, length, map, slice_index, max, fold, nat_eq, Option, Some, None, option_map, arith}
use Rattle.std.specs.List.{All, AllByRecursion, range_with_len}
use Rattle.std.proofs.lemmas.List.Elements.{All-cons, All-head, All-tail, All-weaker}
use Rattle.std.proofs.lemmas.List.FromFn.{length-map-range_with_len, get_or-map-range_with_len}
use Rattle.sc_term.specs.declared.SymId.{SymId}
use Rattle.sc_term.specs.declared.Term.{Term, Var}
use Rattle.sc_term.specs.declared.Term.TheVariants.{App}
use Rattle.sc_term.specs.declared.Literal.{Literal}
use Rattle.sc_term.specs.declared.Clause.{Clause}
use Rattle.sc_term.specs.Term.{term_width}
use Rattle.sc_term.specs.Clause.{literal_width, width}
use Rattle.sc_term.specs.Interpretation.{Assignment, are_equal}
use Rattle.sc_term.proofs.TermLaws.{term_ind, fold-Var, fold-App, width-Var, width-App}
use Rattle.sc_cells.specs.Cells.{Entry, Prefix, is_cell_of, given_among, given_value, onto, all_given, given_step, given_term, given_atom, IsFalseBy, IsConsistent}

-- ---- options

abbrev AreBoth : Option ℕ → Option (List ℕ) → List ℕ → Type 0
AreBoth o os ns = (n : ℕ) × (ms : List ℕ) × (o ≡ Some n) × (os ≡ Some ms) × (ns ≡ n ∷ ms)

none_is_not : {A : Type 0} {B : Type 0} (a : A) → ◌≡◌ {A = Option A} None (Some a) → B
none_is_not a e = cc

both_given : (o : Option ℕ) (os : Option (List ℕ)) (ns : List ℕ) → onto o os ≡ Some ns → AreBoth o os ns
both_given None os ns e = none_is_not ns e
both_given (Some n) None ns e = none_is_not ns e
both_given (Some n) (Some ms) ns e = (n, ms, refl, refl, cc)

was_given : {A B : Type 0} (f : A → B) (o : Option A) (b : B) → option_map f o ≡ Some b → (a : A) × (o ≡ Some a) × (f a ≡ b)
was_given f None b e = none_is_not b e
was_given f (Some a) b e = (a, refl, cc)

-- ---- more values

-- what the one gives the other gives
abbrev pub Keeps : Prefix → Prefix → Type 0
Keeps p q = (f : SymId) (args : List ℕ) (v : ℕ) → given_among f args p.cells p.values ≡ Some v → given_among f args q.cells q.values ≡ Some v

given_later : (f : SymId) (args : List ℕ) (cells : List Entry) (xs ys : List ℕ) (v : ℕ) → given_among f args cells xs ≡ Some v → given_among f args cells (xs ++ ys) ≡ Some v
given_later f args [] xs ys v e = none_is_not v e
given_later f args (cell ∷ cells) [] ys v e = none_is_not v e
given_later f args (cell ∷ cells) (x ∷ xs) ys v e = by (is_cell_of f args cell) e (given_later f args cells xs ys v)
  where
    by : (b : Bool) → (if b then Some x else given_among f args cells xs) ≡ Some v
        → (given_among f args cells xs ≡ Some v → given_among f args cells (xs ++ ys) ≡ Some v)
        → (if b then Some x else given_among f args cells (xs ++ ys)) ≡ Some v
    by true e more = e
    by false e more = more e

pub keeps_longer : (cells : List Entry) (xs ys : List ℕ) → Keeps (record { cells = cells; values = xs }) (record { cells = cells; values = xs ++ ys })
keeps_longer cells xs ys f args v e = given_later f args cells xs ys v e

module _ (p q : Prefix) (keeps : Keeps p q) where
  value_kept : (f : SymId) (args : Option (List ℕ)) (v : ℕ) → given_value p f args ≡ Some v → given_value q f args ≡ Some v
  value_kept f None v e = none_is_not v e
  value_kept f (Some args) v e = keeps f args v e

  value_there : (f : SymId) (args : Option (List ℕ)) (v : ℕ) → given_value p f args ≡ Some v → (ns : List ℕ) × (args ≡ Some ns)
  value_there f None v e = none_is_not v e
  value_there f (Some ns) v e = (ns, refl)

  module _ (a : Assignment) where
    abbrev IsKept : Term → Type 0
    IsKept t = (v : ℕ) → given_term p a t ≡ Some v → given_term q a t ≡ Some v

    all_kept : (ts : List Term) → AllByRecursion IsKept ts → (ns : List ℕ) → all_given (map (given_term p a) ts) ≡ Some ns → all_given (map (given_term q a) ts) ≡ Some ns
    all_kept [] h ns e = e
    all_kept (t ∷ ts) h ns e =
        let parts = both_given (given_term p a t) (all_given (map (given_term p a) ts)) ns e in
        let one = h.0 parts.0 parts.2 in
        let rest = all_kept ts h.1 parts.1 parts.3 in
        (λ i. onto (one i) (rest i)) ∙ ap (λ ms. Some ms) (sym parts.4)

    term_kept : (t : Term) → IsKept t
    term_kept t = term_ind IsKept at_variable at_symbol t
      where
        at_variable : (n : ℕ) → IsKept (Var n)
        at_variable n v e = fold-Var (Option ℕ) (given_step q a) n ∙ sym (fold-Var (Option ℕ) (given_step p a) n) ∙ e

        at_symbol : (f : SymId) (ts : List Term) → AllByRecursion IsKept ts → IsKept (App f ts)
        at_symbol f ts h v e =
            let here : given_value p f (all_given (map (given_term p a) ts)) ≡ Some v = sym (fold-App (Option ℕ) (given_step p a) f ts) ∙ e in
            let args = value_there f (all_given (map (given_term p a) ts)) v here in
            let later = all_kept ts h args.0 args.1 in
            let now : given_value p f (Some args.0) ≡ Some v = ap (given_value p f) (sym args.1) ∙ here in
            fold-App (Option ℕ) (given_step q a) f ts ∙ ap (given_value q f) later ∙ value_kept f (Some args.0) v now

    every : (ts : List Term) → AllByRecursion IsKept ts
    every [] = tt
    every (t ∷ ts) = (term_kept t, every ts)

    atom_kept : (f : SymId) (ts : List Term) (b : Bool) → given_atom p f (all_given (map (given_term p a) ts)) ≡ Some b → given_atom q f (all_given (map (given_term q a) ts)) ≡ Some b
    atom_kept f ts b e = by (nat_eq f.0 0) e
      where
        by : (r : Bool) → (if r then option_map are_equal (all_given (map (given_term p a) ts)) else option_map (nat_eq 1) (given_value p f (all_given (map (given_term p a) ts)))) ≡ Some b
            → (if r then option_map are_equal (all_given (map (given_term q a) ts)) else option_map (nat_eq 1) (given_value q f (all_given (map (given_term q a) ts)))) ≡ Some b
        by true e =
            let was = was_given are_equal (all_given (map (given_term p a) ts)) b e in
            ap (option_map are_equal) (all_kept ts (every ts) was.0 was.1) ∙ ap (λ (r : Bool). Some r) was.2
        by false e =
            let was = was_given (nat_eq 1) (given_value p f (all_given (map (given_term p a) ts))) b e in
            let args = value_there f (all_given (map (given_term p a) ts)) was.0 was.1 in
            let later = all_kept ts (every ts) args.0 args.1 in
            let now : given_value p f (Some args.0) ≡ Some was.0 = ap (given_value p f) (sym args.1) ∙ was.1 in
            ap (λ o. option_map (nat_eq 1) (given_value q f o)) later ∙ ap (option_map (nat_eq 1)) (value_kept f (Some args.0) was.0 now) ∙ ap (λ (r : Bool). Some r) was.2

    pub false_later : (l : Literal) → IsFalseBy p a l → IsFalseBy q a l
    false_later l h = atom_kept l.pred l.args (not l.positive) h

  pub consistent_before : (clauses : List Clause) (size : ℕ) → IsConsistent clauses size q → IsConsistent clauses size p
  consistent_before clauses size h c a within elements all = h c a within elements (All-weaker (IsFalseBy p a) (IsFalseBy q a) (false_later a) c.literals all)

-- a shorter list of values is consistent where a longer one is
pub shorter_is_consistent : (clauses : List Clause) (size : ℕ) (cells : List Entry) (xs ys : List ℕ)
    → IsConsistent clauses size (record { cells = cells; values = xs ++ ys }) → IsConsistent clauses size (record { cells = cells; values = xs })
shorter_is_consistent clauses size cells xs ys =
    consistent_before (record { cells = cells; values = xs }) (record { cells = cells; values = xs ++ ys }) (keeps_longer cells xs ys) clauses size

-- ---- assignments

-- the largest of a list is at most n: each is
under : (a : ℕ) (ws : List ℕ) (n : ℕ) → fold max a ws ≤ n → AllByRecursion (λ w. w ≤ n) ws
under a [] n h = tt
under a (w ∷ ws) n h = (omega (arith, first (max a w) ws h), under (max a w) ws n h)
  where
    first : (b : ℕ) (vs : List ℕ) → fold max b vs ≤ n → b ≤ n
    first b [] h = h
    first b (v ∷ vs) h = omega (arith, first (max b v) vs h)

-- two assignments that agree below n
module _ (p : Prefix) (a b : Assignment) (n : ℕ) (agree : (k : ℕ) → k < n → a k ≡ b k) where
  abbrev Agrees : Term → Type 0
  Agrees t = term_width t ≤ n → given_term p a t ≡ given_term p b t

  each_agrees : (ts : List Term) → AllByRecursion Agrees ts → AllByRecursion (λ w. w ≤ n) (map term_width ts) → map (given_term p a) ts ≡ map (given_term p b) ts
  each_agrees [] h k = refl
  each_agrees (t ∷ ts) h k = let one = h.0 k.0 in let rest = each_agrees ts h.1 k.1 in (λ i. one i ∷ rest i)

  term_agrees : (t : Term) → Agrees t
  term_agrees t = term_ind Agrees at_variable at_symbol t
    where
      at_variable : (m : ℕ) → Agrees (Var m)
      at_variable m h =
          let below : m < n = omega (arith, width-Var m, h) in
          fold-Var (Option ℕ) (given_step p a) m ∙ ap (λ (v : ℕ). Some v) (agree m below) ∙ sym (fold-Var (Option ℕ) (given_step p b) m)

      at_symbol : (f : SymId) (ts : List Term) → AllByRecursion Agrees ts → Agrees (App f ts)
      at_symbol f ts h k =
          let small = under 0 (map term_width ts) n (subst (λ w. w ≤ n) (width-App f ts) k) in
          fold-App (Option ℕ) (given_step p a) f ts ∙ ap (λ vs. given_value p f (all_given vs)) (each_agrees ts h small) ∙ sym (fold-App (Option ℕ) (given_step p b) f ts)

  terms_agree : (ts : List Term) → AllByRecursion (λ w. w ≤ n) (map term_width ts) → map (given_term p a) ts ≡ map (given_term p b) ts
  terms_agree [] k = refl
  terms_agree (t ∷ ts) k = let one = term_agrees t k.0 in let rest = terms_agree ts k.1 in (λ i. one i ∷ rest i)

  false_alike : (l : Literal) → literal_width l ≤ n → IsFalseBy p a l → IsFalseBy p b l
  false_alike l h e = ap (λ vs. given_atom p l.pred (all_given vs)) (sym (terms_agree l.args (under 0 (map term_width l.args) n h))) ∙ e

  pub all_false_alike : (ls : List Literal) → AllByRecursion (λ w. w ≤ n) (map literal_width ls) → All (IsFalseBy p a) ls → All (IsFalseBy p b) ls
  all_false_alike [] k h = λ i d lt. absurd (omega (arith, lt))
  all_false_alike (l ∷ ls) k h =
      All-cons (IsFalseBy p b) l ls (false_alike l k.0 (All-head (IsFalseBy p a) l ls h)) (all_false_alike ls k.1 (All-tail (IsFalseBy p a) l ls h))

-- the elements of the clause's variables
abbrev pub elements_of : Clause → Assignment → List ℕ
elements_of c a = map a (range_with_len 0 (width c))

pub elements_long : (c : Clause) (a : Assignment) → length (elements_of c a) ≡ width c
elements_long c a = length-map-range_with_len a 0 (width c)

pub elements_within : (c : Clause) (a : Assignment) (size : ℕ) → ((n : ℕ) → a n < size) → All (λ v. v < size) (elements_of c a)
elements_within c a size h k d lt =
    let at = get_or-map-range_with_len a 0 (width c) k k d (subst (λ m. k < m) (elements_long c a) lt) (omega arith) in
    subst (λ v. v < size) (sym at) (h k)

pub false_at_elements : (p : Prefix) (c : Clause) (a : Assignment) → All (IsFalseBy p a) c.literals → All (IsFalseBy p (slice_index (elements_of c a))) c.literals
false_at_elements p c a h =
    all_false_alike p a (slice_index (elements_of c a)) (width c) (λ k lt. sym (get_or-map-range_with_len a 0 (width c) k k 0 lt (omega arith)))
    c.literals (under 0 (map literal_width c.literals) (width c) (omega arith)) h

-- the list as an assignment has elements alone
pub list_within : (values : List ℕ) (size : ℕ) → 1 ≤ size → All (λ v. v < size) values → (n : ℕ) → slice_index values n < size
list_within [] size some h n = omega (arith, some)
list_within (v ∷ vs) size some h zero = All-head (λ v. v < size) v vs h
list_within (v ∷ vs) size some h (suc n) = list_within vs size some (All-tail (λ v. v < size) v vs h) n

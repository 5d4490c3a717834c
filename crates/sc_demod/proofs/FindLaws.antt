-- The first redex of a term, of its arguments and of a clause.
use Rattle.std.proofs.Common.{◌≡◌, ◌∙◌, sym, ap, subst, refl, ℕ, zero, suc, ◌+◌, ◌-◌, ◌<◌, inl, inr, List, [], ◌∷◌, length, get_or, slice_get, Result, Ok, Err, Option, Some, None, IfOk, MatchOption, arith}
use Rattle.std.specs.List.{AllWithin}
use Rattle.sc_term.specs.declared.SymId.{SymId}
use Rattle.sc_term.specs.declared.Term.{Term, Var}
use Rattle.sc_term.specs.declared.Term.TheVariants.{App}
use Rattle.sc_term.specs.declared.Literal.{Literal}
use Rattle.sc_term.specs.declared.Clause.{Clause}
use Rattle.sc_term.specs.declared.Numbered.{Numbered}
use Rattle.sc_term.specs.Numbering.{numbered}
use Rattle.sc_term.specs.Path.{IsSubtermAt}
use Rattle.sc_term.proofs.TermLaws.{App-injective}
use Rattle.sc_steps.proofs.LineLaws.{number_at, number_within}
use Rattle.sc_steps.proofs.ListLaws.{at_number}
use Rattle.sc_core_rules.specs.Rewriting.{Fits, IsRedex, IsFirstRedex, IsBeforeInPostOrder}
use Rattle.sc_demod.specs.declared.find.Redex.{Redex}
use Rattle.sc_demod.specs.Fitting.{IsFirstFit, FitsNone}
use Rattle.sc_demod.specs.Finding.{IsWithin, IsReducible, FindsNone, Finds, FindsIn, FindsNoneIn}

-- ---- elements by their place

pub got_at : {X : Type 0} (xs : List X) (k : ℕ) (x : X) → slice_get xs k ≡ Some x → (k < length xs) × (x ≡ get_or xs k x)
got_at {X} [] k x e = absurd (let bad : ◌≡◌ {A = Option X} None (Some x) = e in cc)
got_at (y ∷ ys) zero x e = (omega arith, cc)
got_at (y ∷ ys) (suc k) x e = let rest = got_at ys k x e in (omega (arith, rest.0), rest.1)

pub at_got : {X : Type 0} (xs : List X) (k : ℕ) (x : X) → k < length xs → x ≡ get_or xs k x → slice_get xs k ≡ Some x
at_got [] k x less e = absurd (omega (arith, less))
at_got (y ∷ ys) zero x less e = ap Some (sym e)
at_got (y ∷ ys) (suc k) x less e = at_got ys k x (omega (arith, less)) e

pub number_got : {X : Type 0} (xs : List X) (k : ℕ) (x : X) → k < length xs → x ≡ get_or xs k x → numbered xs (k + 1) ≡ Some x
number_got xs k x less e = number_at xs (k + 1) x (omega arith) (ap (slice_get xs) (let same : k + 1 - 1 ≡ k = omega arith in same) ∙ at_got xs k x less e)

-- ---- subterms of arguments and of terms

pub split : (args : List Term) (i : ℕ) (path : List ℕ) (s : Term) → IsSubtermAt args (i ∷ path) s → (t : Term) × (numbered args i ≡ Some t) × IsWithin t path s
split args i [] s h = (s, h, refl)
split args i (j ∷ path) s h = (App h.0 h.1, h.2, (h.0, h.1, refl, h.3))

pub join : (args : List Term) (i : ℕ) (path : List ℕ) (s t : Term) → numbered args i ≡ Some t → IsWithin t path s → IsSubtermAt args (i ∷ path) s
join args i [] s t at h = at ∙ ap Some h
join args i (j ∷ path) s t at h = (h.0, h.1, at ∙ ap Some h.2, h.3)

-- what stands at a number is the element of the place before it
pub place_of : {X : Type 0} (P : X → Type 0) (xs : List X) (i n : ℕ) (x : X) → AllWithin P xs 0 i → n < i + 1 → numbered xs n ≡ Some x → P x
place_of P xs i n x all less at =
    let there = at_number xs n x at in
    let got = got_at xs (n - 1) x there.1 in
    subst P (sym got.1) (all (n - 1) x (omega arith) (omega (arith, there.0)))

module _ (demods : List Numbered) where
  abbrev None_in : Term → Type 0
  None_in t = FindsNone demods (IsWithin t)

  pub none_in_terms : (args : List Term) → AllWithin None_in args 0 (length args) → FindsNone demods (IsSubtermAt args)
  none_in_terms args all [] s h = absurd h
  none_in_terms args all (i ∷ path) s h =
      let parts = split args i path s h in
      let within = number_within args i parts.0 parts.1 in
      place_of None_in args (length args) i parts.0 all (omega (arith, within.1)) parts.1 path s parts.2

  -- the first redex of argument i, where there is none in those before it
  pub found_in_terms : (args : List Term) (i : ℕ) (t : Term) (path : List ℕ) (place : ℕ) (terms : List Term) → i < length args → t ≡ get_or args i t
      → AllWithin None_in args 0 i → Finds demods (IsWithin t) path place terms → Finds demods (IsSubtermAt args) ((i + 1) ∷ path) place terms
  found_in_terms args i t path place terms less at none h = record {
    redex = h.redex;
    there = join args (i + 1) path h.redex t (number_got args i t less at) h.there;
    compound = h.compound;
    fits = h.fits;
    first = before;
  }
    where
      inside : (q : List ℕ) (s : Term) → IsBeforeInPostOrder q path → IsSubtermAt args ((i + 1) ∷ q) s → ¬ IsReducible demods s
      inside q s less_q there =
          let parts = split args (i + 1) q s there in
          let same : parts.0 ≡ t = let e : Some parts.0 ≡ Some t = sym parts.1 ∙ number_got args i t less at in cc in
          h.first q s less_q (subst (λ u. IsWithin u q s) same parts.2)

      before : (q : List ℕ) (s : Term) → IsBeforeInPostOrder q ((i + 1) ∷ path) → IsSubtermAt args q s → ¬ IsReducible demods s
      before [] s less_q there = absurd there
      before (j ∷ q) s (inl smaller) there = let parts = split args j q s there in place_of None_in args i j parts.0 none smaller parts.1 q s parts.2
      before (j ∷ q) s (inr both) there = inside q s both.1 (subst (λ n. IsSubtermAt args (n ∷ q) s) both.0 there)

  -- ---- a term from its arguments

  pub found_inner : (t : Term) (f : SymId) (args : List Term) (path : List ℕ) (place : ℕ) (terms : List Term) → t ≡ App f args
      → Finds demods (IsSubtermAt args) path place terms → Finds demods (IsWithin t) path place terms
  found_inner t f args [] place terms e h = absurd h.there
  found_inner t f args (i ∷ path) place terms e h = record {
    redex = h.redex;
    there = (f, args, e, h.there);
    compound = h.compound;
    fits = h.fits;
    first = before;
  }
    where
      before : (q : List ℕ) (s : Term) → IsBeforeInPostOrder q (i ∷ path) → IsWithin t q s → ¬ IsReducible demods s
      before [] s less there = absurd less
      before (j ∷ q) s less there = h.first (j ∷ q) s less (subst (λ us. IsSubtermAt us (j ∷ q) s) (App-injective there.0 f there.1 args (sym there.2 ∙ e)).1 there.3)

  none_below : (t : Term) (f : SymId) (args : List Term) → t ≡ App f args → FindsNone demods (IsSubtermAt args) → (j : ℕ) (q : List ℕ) (s : Term) → IsWithin t (j ∷ q) s → ¬ IsReducible demods s
  none_below t f args e none j q s there = none (j ∷ q) s (subst (λ us. IsSubtermAt us (j ∷ q) s) (App-injective there.0 f there.1 args (sym there.2 ∙ e)).1 there.3)

  pub found_itself : (t : Term) (f : SymId) (args : List Term) (path : List ℕ) (place : ℕ) (terms : List Term) → t ≡ App f args → FindsNone demods (IsSubtermAt args)
      → path ≡ [] → IsFirstFit demods t place terms → Finds demods (IsWithin t) path place terms
  found_itself t f args path place terms e none p fits = subst (λ q. Finds demods (IsWithin t) q place terms) (sym p) (record {
    redex = t;
    there = refl;
    compound = (f, args, e);
    fits = fits;
    first = before;
  })
    where
      before : (q : List ℕ) (s : Term) → IsBeforeInPostOrder q [] → IsWithin t q s → ¬ IsReducible demods s
      before [] s less there = absurd less
      before (j ∷ q) s less there = none_below t f args e none j q s there

  pub none_at_all : (t : Term) (f : SymId) (args : List Term) → t ≡ App f args → FindsNone demods (IsSubtermAt args) → FitsNone demods t → FindsNone demods (IsWithin t)
  none_at_all t f args e none fits [] s there = λ r. fits r.1.1.0 r.1.0 (omega arith) r.1.1.1 (subst (λ u. Fits u t) (sym r.1.1.2) (subst (Fits r.1.0) (sym there) r.1.2))
  none_at_all t f args e none fits (j ∷ q) s there = none_below t f args e none j q s there

  pub none_in_variable : (n : ℕ) (t : Term) → t ≡ Var n → FindsNone demods (IsWithin t)
  none_in_variable n t e [] s there = λ r. differ r.0.0 r.0.1 (sym e ∙ there ∙ r.0.2)
    where
      differ : (f : SymId) (xs : List Term) → ¬ (Var n ≡ App f xs)
      differ f xs e = cc
  none_in_variable n t e (j ∷ q) s there = absurd (let bad : Var n ≡ App there.0 there.1 = sym e ∙ there.2 in cc)

  -- the answer at the term itself, where its arguments have no redex
  pub here_where : {E : Type 0} (r : Result (Option Redex) E) (t : Term) (f : SymId) (args : List Term) → t ≡ App f args → FindsNone demods (IsSubtermAt args)
      → IfOk r (λ found. MatchOption found (FitsNone demods t) (λ x. (x.path.items ≡ []) × IsFirstFit demods t x.place x.terms))
      → IfOk r (λ found. MatchOption found (FindsNone demods (IsWithin t)) (λ x. Finds demods (IsWithin t) x.path.items x.place x.terms))
  here_where (Err x) t f args e none h = tt
  here_where (Ok None) t f args e none h = none_at_all t f args e none h
  here_where (Ok (Some x)) t f args e none h = found_itself t f args x.path.items x.place x.terms e none h.0 h.1

  -- ---- literals

  abbrev None_of : Literal → Type 0
  None_of l = FindsNone demods (IsSubtermAt l.args)

  pub found_in_literals : (literals : List Literal) (i : ℕ) (l : Literal) (path : List ℕ) (place : ℕ) (terms : List Term) → i < length literals → l ≡ get_or literals i l
      → AllWithin None_of literals 0 i → Finds demods (IsSubtermAt l.args) path place terms → FindsIn demods literals (i + 1) path place terms
  found_in_literals literals i l path place terms less at none h = record {
    literal = l;
    literal_there = number_got literals i l less at;
    found = h;
    earlier = λ a m smaller there. place_of None_of literals i a m none smaller there;
  }

  pub none_in_literals : (literals : List Literal) → AllWithin None_of literals 0 (length literals) → FindsNoneIn demods literals
  none_in_literals literals all a l there = let within = number_within literals a l there in place_of None_of literals (length literals) a l all (omega (arith, within.1)) there

  -- ---- redexes

  pub is_redex : (c : Clause) (b : ℕ) (path : List ℕ) (place : ℕ) (terms : List Term) (h : FindsIn demods c.literals b path place terms) → IsRedex demods c b path ((h.found).redex)
  is_redex c b path place terms h = record {
    literal = h.literal;
    literal_there = h.literal_there;
    subterm = h.found.there;
    compound = h.found.compound;
    demodulator = h.found.fits.demodulator;
    listed = (place, h.found.fits.within, sym h.found.fits.there);
    fits = (h.found.fits.fit.left, h.found.fits.fit.right, terms, h.found.fits.fit.equates, h.found.fits.fit.equal);
  }

  pub no_redex : (c : Clause) → FindsNoneIn demods c.literals → (b : ℕ) (path : List ℕ) (s : Term) → ¬ IsRedex demods c b path s
  no_redex c none b path s h = none b h.literal h.literal_there path s h.subterm (h.compound, (h.demodulator, h.listed, h.fits))

  pub is_first : (c : Clause) (b : ℕ) (path : List ℕ) (place : ℕ) (terms : List Term) (h : FindsIn demods c.literals b path place terms) → IsFirstRedex demods c b path ((h.found).redex)
  is_first c b path place terms h = record {
    redex = is_redex c b path place terms h;
    first_literal = λ a p t less r. h.earlier a r.literal less r.literal_there p t r.subterm (r.compound, (r.demodulator, r.listed, r.fits));
    first_path = λ p t less r. let same : r.literal ≡ h.literal = same_some r.literal h.literal r.literal_there h.literal_there in
        h.found.first p t less (subst (λ (l : Literal). IsSubtermAt l.args p t) same r.subterm) (r.compound, (r.demodulator, r.listed, r.fits));
  }
    where
      same_some : (x y : Literal) → numbered c.literals b ≡ Some x → numbered c.literals b ≡ Some y → x ≡ y
      same_some x y p q = let e : Some x ≡ Some y = sym p ∙ q in cc

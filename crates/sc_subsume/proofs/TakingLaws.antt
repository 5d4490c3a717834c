-- One literal taken to another, and to the first place of a list that it can be taken to.
use Rattle.std.proofs.Common.{◌≡◌, ◌≢◌, ◌∙◌, sym, ap, refl, ℕ, ◌+◌, ◌<◌, ◌≤◌, ◌↔◌, List, [], ◌∷◌, ◌++◌, append_assoc, map, length, get_or, slice_get, take, Some, arith}
use Rattle.std.proofs.lemmas.Option.{slice_get_read}
use Rattle.sc_term.specs.declared.Literal.{Literal}
use Rattle.sc_term.specs.Term.{term_under}
use Rattle.sc_term.specs.Substitution.{Substitution, literal_under}
use Rattle.sc_unify.specs.Matching.{Gives, IsMatched}
use Rattle.sc_unify.proofs.TermFacts.{same_or_not}
use Rattle.sc_subsume.specs.declared.bound.Bound.{Bound}
use Rattle.sc_subsume.specs.Search.{AreLike, bindings, Extends, Hits, HitsNone, IsTaken, IsRefused, IsFirstPlace}

pub extends_more : {X : Type 0} (a b c : List X) → Extends a b → Extends b c → Extends a c
extends_more a b c h k = (h.0 ++ k.0, k.1 ∙ ap (λ l. l ++ k.0) h.1 ∙ append_assoc a h.0 k.0)

pub front : {X : Type 0} (old new : List X) → Extends old new → take (length old) new ≡ old
front old new h = ap (take (length old)) h.1 ∙ by old h.0
  where
    by : {X : Type 0} (xs ys : List X) → take (length xs) (xs ++ ys) ≡ xs
    by [] ys = refl
    by (x ∷ xs) ys = ap (λ l. x ∷ l) (by xs ys)

-- ---- one literal onto another of the same sign and predicate

pub literal_same : (s : Substitution) (pattern target : Literal) → pattern.positive ≡ target.positive → pattern.pred ≡ target.pred
    → (map (term_under s) pattern.args ≡ target.args) ↔ (literal_under s pattern ≡ target)
literal_same s pattern target p q = (
  λ e i. record { positive = p i; pred = q i; args = e i },
  λ e. ap (λ (l : Literal). l.args) e,
)

pub is_taken : (pattern target : Literal) (old new : List Bound) (vars : List ℕ) → pattern.positive ≡ target.positive → pattern.pred ≡ target.pred → Extends old new
    → IsMatched (bindings old) (bindings new) (λ s. map (term_under s) pattern.args ≡ target.args) vars → IsTaken pattern target old new
is_taken pattern target old new vars p q grown h = record {
  extends = grown;
  same = λ s. (
    λ g. let both = (h.same s).0 g in (both.0, (literal_same s pattern target p q).0 both.1),
    λ g. (h.same s).1 (g.0, (literal_same s pattern target p q).1 g.1),
  );
  functional = h.functional;
}

pub is_refused : (pattern target : Literal) (old mid new : List Bound) → Extends old mid → new ≡ take (length old) mid
    → ((s : Substitution) → Gives s (bindings old) → map (term_under s) pattern.args ≢ target.args) → IsRefused pattern target old new
is_refused pattern target old mid new grown cut h = record {
  kept = cut ∙ front old mid grown;
  never = λ s g e. h s g (ap (λ (l : Literal). l.args) e);
}

pub is_unlike : (pattern target : Literal) (old : List Bound) → ¬ AreLike pattern target → IsRefused pattern target old old
is_unlike pattern target old ne = record {
  kept = refl;
  never = λ s g e. ne (ap (λ (l : Literal). l.positive) e, ap (λ (l : Literal). l.pred) e);
}

-- ---- the first place

module _ (l : Literal) (d : List Literal) (old : List Bound) (first place : ℕ) (t : Literal) (within : place < length d) (at : t ≡ get_or d place t) (least : first ≤ place) (none : HitsNone old l d first place) where
  here : slice_get d place ≡ Some t
  here = slice_get_read d (length d) place t refl within at

  hit : (s : Substitution) → Hits s l d place → literal_under s l ≡ t
  hit s e = let both : Some (literal_under s l) ≡ Some t = sym e ∙ here in cc

  pub none-more : ((s : Substitution) → Gives s (bindings old) → literal_under s l ≢ t) → HitsNone old l d first (place + 1)
  none-more never s g k low high e = same_or_not k place
      (λ same. never s g (hit s (ap (slice_get d) (sym same) ∙ e)))
      (λ ne _. none s g k low (let other : k ≢ place = (λ same. ne (sym same)) in omega arith) e)

  pub first_place : (new : List Bound) → IsTaken l t old new → IsFirstPlace l d first place old new
  first_place new h = record {
    least = least;
    within = within;
    earlier = none;
    extends = h.extends;
    same = λ s. (
      λ g. let both = (h.same s).0 g in (both.0, here ∙ ap (λ m. Some m) (sym both.1)),
      λ g. (h.same s).1 (g.0, hit s g.1),
    );
    functional = h.functional;
  }

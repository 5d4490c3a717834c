-- One or more, with a sign between, each of which gives some of a list.
use Rattle.std.proofs.Common.{◌≡◌, ◌∙◌, sym, ap, refl, subst, ℕ, suc, ◌+◌, ◌-◌, Bool, true, false, List, [], ◌∷◌, ◌++◌, append_assoc, append-nil, Result, Ok, Err}
use Rattle.sc_input_rules.specs.declared.token.Token.{Token}
use Rattle.sc_input_rules.specs.declared.token.Sign.{Sign}
use Rattle.sc_input_rules.specs.Token.{is_sign}
use Rattle.sc_input_rules.specs.Reader.{Read, ◌>>=◌, next_is, the_sign, separated}
use Rattle.sc_input_scan.specs.declared.stop.Stop.{Stop}
use Rattle.sc_input_scan.specs.declared.stop.Stop.TheVariants.{Memory, At}
use Rattle.sc_input_scan.specs.Told.{Fails, Gives}
use Rattle.sc_input_grammar.specs.Behind.{behind}
use Rattle.sc_input_grammar.proofs.Lists.{one_more, fails_on}
use Rattle.sc_text_section.specs.Clipped.{seen_by}

-- ---- what was seen of what was read

pub record WasRead {A B : Type 0} (f : A → B) (read : Read A) (y : B) (after : List Token) : Type 0 where
  pub value : A
  pub was : read ≡ Ok (value, after)
  pub is : y ≡ f value

pub was_read : {A B : Type 0} (f : A → B) (read : Read A) (y : B) (after : List Token) → seen_by f read ≡ Ok (y, after) → WasRead f read y after
was_read {A} {B} f (Ok r) y after e =
    let both : (f r.0, r.1) ≡ (y, after) = cc in
    record { value = r.0; was = ap (λ (rest : List Token). Ok (r.0, rest)) (ap (λ (q : B × List Token). q.1) both); is = sym (ap (λ (q : B × List Token). q.0) both) }
was_read f (Err e') y after e = absurd cc

pub fails_unseen : {A B : Type 0} (f : A → B) (read : Read A) (e : Stop) → Fails e (seen_by f read) → Fails e read
fails_unseen f read Memory h = tt
fails_unseen f (Ok r) (At left kind) h = absurd cc
fails_unseen f (Err e') (At left kind) h = h

-- what was seen so is seen further so
pub seen_as : {A B C : Type 0} (f : A → B) (h : B → C) (read : Read A) (y : B) (after : List Token) → seen_by f read ≡ Ok (y, after) → seen_by (λ x. h (f x)) read ≡ Ok (h y, after)
seen_as f h (Ok r) y after e = ap (seen_by h) e
seen_as f h (Err e') y after e = absurd cc

pub fails_as : {A B C : Type 0} (f : A → B) (h : B → C) (read : Read A) (e : Stop) → Fails e (seen_by f read) → Fails e (seen_by (λ x. h (f x)) read)
fails_as f h read Memory k = tt
fails_as f h (Ok r) (At left kind) k = absurd cc
fails_as f h (Err e') (At left kind) k = k

-- ---- failures

pub gives_err : {X A : Type 0} (view : X → A × List Token) (result : Result X Stop) (e : Stop) (read : Read A) → result ≡ Err e → Fails e read → Gives view result read
gives_err view (Ok x) e read is h = absurd cc
gives_err view (Err d) e read is h = let same : e ≡ d = cc in subst (λ (s : Stop). Fails s read) same h

-- what is read well, and what fails then
pub fails_then : {A B : Type 0} (e : Stop) (read : Read A) (x : A) (after : List Token) (k : A × List Token → Read B) → read ≡ Ok (x, after) → Fails e (k (x, after)) → Fails e (read >>= k)
fails_then {A} e read x after k is h = subst (λ (r : Read A). Fails e (r >>= k)) (sym is) h

-- the same where it is only known as it is seen
pub fails_behind : {A B C : Type 0} (e : Stop) (f : A → C) (read : Read A) (y : C) (after : List Token) (k : A × List Token → Read B)
    → seen_by f read ≡ Ok (y, after) → ((x : A) → Fails e (k (x, after))) → Fails e (read >>= k)
fails_behind e f read y after k is h = let w = was_read f read y after is in fails_then e read w.value after k w.was (h w.value)

-- ---- one or more

pub first_of_two : {X : Type 0} (b : Bool) (x y : X) → b ≡ true → elim b [ true ↦ x | false ↦ y ] ≡ x
first_of_two true x y e = refl
first_of_two false x y e = absurd cc

pub second_of_two : {X : Type 0} (b : Bool) (x y : X) → b ≡ false → elim b [ true ↦ x | false ↦ y ] ≡ y
second_of_two true x y e = absurd cc
second_of_two false x y e = refl

module _ {A B : Type 0} (f : A → List B) (g : List A → List B) (more : (x : A) (xs : List A) → g (x ∷ xs) ≡ f x ++ g xs) where
  pub one_in_front : (front new : List B) (x : A) (r : Read (List A)) → new ≡ front ++ f x
      → behind new (seen_by g r) ≡ behind front (seen_by g (r >>= λ others. Ok (x ∷ others.0, others.1)))
  one_in_front front new x (Err e') e = refl
  one_in_front front new x (Ok r) e =
      ap (λ (ys : List B). Ok (ys, r.1)) (ap (λ (ys : List B). ys ++ g r.0) e ∙ append_assoc front (f x) (g r.0) ∙ ap (λ (ys : List B). front ++ ys) (sym (more x r.0)))

module _ {A B : Type 0} (between : Sign) (one : List Token → Read A) (f : A → List B) (g : List A → List B) (none : g [] ≡ []) (more : (x : A) (xs : List A) → g (x ∷ xs) ≡ f x ++ g xs) where
  -- one read, and the sign behind it, of those that `most` still allows
  pub gathers_on : (most count : ℕ) (front new ys : List B) (tokens after rest : List Token) → most - count ≡ suc (most - (count + 1)) → new ≡ front ++ ys
      → seen_by f (one tokens) ≡ Ok (ys, after) → next_is (is_sign between) after ≡ true → the_sign between after ≡ Ok (tt, rest)
      → behind new (seen_by g (separated between one (most - (count + 1)) rest)) ≡ behind front (seen_by g (separated between one (most - count) tokens))
  gathers_on most count front new ys tokens after rest still grown e b s =
      let w = was_read f (one tokens) ys after e in
      one_in_front f g more front new w.value (separated between one (most - (count + 1)) rest) (grown ∙ ap (λ (ys : List B). front ++ ys) w.is)
      ∙ sym (ap (λ (k : ℕ). behind front (seen_by g (separated between one k tokens))) still
      ∙ ap (λ (r : Read (List A)). behind front (seen_by g r)) (one_more between one (most - (count + 1)) tokens w.value after rest w.was b s))

  abbrev after_one : ℕ → A × List Token → Read (List A)
  after_one m first =
      elim (next_is (is_sign between) first.1) [
        | true ↦ the_sign between first.1 >>= λ s. separated between one m s.1 >>= λ others. Ok (first.0 ∷ others.0, others.1)
        | false ↦ Ok (first.0 ∷ [], first.1)
      ]

  -- the last one
  pub gathers_last : (most count : ℕ) (front new ys : List B) (tokens after : List Token) → most - count ≡ suc (most - (count + 1)) → new ≡ front ++ ys
      → seen_by f (one tokens) ≡ Ok (ys, after) → next_is (is_sign between) after ≡ false
      → behind front (seen_by g (separated between one (most - count) tokens)) ≡ Ok (new, after)
  gathers_last most count front new ys tokens after still grown e b =
      let m = most - (count + 1) in
      let w = was_read f (one tokens) ys after e in
      let single : g (w.value ∷ []) ≡ ys = more w.value [] ∙ ap (λ (ys : List B). f w.value ++ ys) none ∙ append-nil (f w.value) ∙ sym w.is in
      ap (λ (k : ℕ). behind front (seen_by g (separated between one k tokens))) still
      ∙ ap (λ (r : Read A). behind front (seen_by g (r >>= after_one m))) w.was
      ∙ ap (λ (r : Read (List A)). behind front (seen_by g r)) (second_of_two (next_is (is_sign between) after) (the_sign between after >>= λ s. separated between one m s.1 >>= λ others. Ok (w.value ∷ others.0, others.1)) (Ok (w.value ∷ [], after)) b)
      ∙ ap (λ (ys : List B). Ok (front ++ ys, after)) single ∙ ap (λ (ys : List B). Ok (ys, after)) (sym grown)

  -- where reading the next fails
  pub gathers_fails : {X : Type 0} (view : X → List B × List Token) (result : Result X Stop) (e : Stop) (most count : ℕ) (front : List B) (tokens : List Token) (whole : Read (List B))
      → most - count ≡ suc (most - (count + 1)) → result ≡ Err e → Fails e (seen_by f (one tokens))
      → behind front (seen_by g (separated between one (most - count) tokens)) ≡ whole → Gives view result whole
  gathers_fails {X} view result e most count front tokens whole still is h all =
      let m = most - (count + 1) in
      let step : behind front (seen_by g (one tokens >>= after_one m)) ≡ whole =
      ap (λ (k : ℕ). behind front (seen_by g (separated between one k tokens))) (sym still) ∙ all in
      let fails = fails_on e (one tokens >>= after_one m >>= λ r. Ok (g r.0, r.1)) (λ r. Ok (front ++ r.0, r.1))
      (fails_on e (one tokens >>= after_one m) (λ r. Ok (g r.0, r.1)) (fails_on e (one tokens) (after_one m) (fails_unseen f (one tokens) e h))) in
      gives_err view result e whole is (subst (Fails e) step fails)

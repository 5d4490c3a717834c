-- What reading one or more gives, by what reading the first gives.
use Rattle.std.proofs.Common.{◌≡◌, ◌∙◌, sym, ap, refl, ℕ, zero, suc, ◌+◌, ◌-◌, Bool, true, false, List, [], ◌∷◌, ◌++◌, Result, Ok, Err, subst, append_assoc, append-nil}
use Rattle.sc_input_rules.specs.declared.token.Token.{Token}
use Rattle.sc_input_rules.specs.declared.token.Sign.{Sign}
use Rattle.sc_input_rules.specs.Token.{is_sign}
use Rattle.sc_input_rules.specs.Reader.{Read, ◌>>=◌, next_is, the_sign, separated, repeated, unexpected}
use Rattle.sc_input_scan.specs.declared.stop.Stop.{Stop}
use Rattle.sc_input_scan.specs.declared.stop.Stop.TheVariants.{Memory, At}
use Rattle.sc_input_scan.specs.Told.{Fails, Gives}
use Rattle.sc_input_grammar.specs.Behind.{behind}

-- what fails fails whatever would follow
pub fails_on : {A B : Type 0} (e : Stop) (read : Read A) (f : A × List Token → Read B) → Fails e read → Fails e (read >>= f)
fails_on Memory read f h = tt
fails_on (At left kind) (Ok r) f h = absurd cc
fails_on (At left kind) (Err x) f h = h

pub gives_failure : {X A B : Type 0} (view : X → B × List Token) (result : Result X Stop) (e : Stop) (read : Read A) (f : A × List Token → Read B)
    → result ≡ Err e → Fails e read → Gives view result (read >>= f)
gives_failure view (Ok x) e read f is h = absurd cc
gives_failure view (Err d) e read f is h =
    let same : e ≡ d = cc in
    fails_on d read f (subst (λ (s : Stop). Fails s read) same h)

-- the same where what reads it is a part of another
pub gives_failure_within : {X A B C : Type 0} (view : X → C × List Token) (result : Result X Stop) (e : Stop) (read : Read A) (f : A × List Token → Read B) (g : B × List Token → Read C)
    → result ≡ Err e → Fails e read → Gives view result (read >>= f >>= g)
gives_failure_within view result e read f g is h = gives_failure view result e (read >>= f) g is (fails_on e read f h)

-- ---- one or more, with a sign between

chosen : {X : Type 0} (b : Bool) (x y : X) → b ≡ true → elim b [ true ↦ x | false ↦ y ] ≡ x
chosen true x y e = refl
chosen false x y e = absurd cc

abbrev others_with : {A : Type 0} → Sign → (List Token → Read A) → ℕ → A → List Token → Read (List A)
others_with between one m x tokens = separated between one m tokens >>= λ others. Ok (x ∷ others.0, others.1)

abbrev after_one : {A : Type 0} → Sign → (List Token → Read A) → ℕ → A × List Token → Read (List A)
after_one between one m first =
    elim (next_is (is_sign between) first.1) [
      | true ↦ the_sign between first.1 >>= λ s. others_with between one m first.0 s.1
      | false ↦ Ok (first.0 ∷ [], first.1)
    ]

pub one_more : {A : Type 0} (between : Sign) (one : List Token → Read A) (m : ℕ) (tokens : List Token) (x : A) (after rest : List Token)
    → one tokens ≡ Ok (x, after) → next_is (is_sign between) after ≡ true → the_sign between after ≡ Ok (tt, rest)
    → separated between one (suc m) tokens ≡ others_with between one m x rest
one_more between one m tokens x after rest e b s =
    ap (λ (r : Read _). r >>= after_one between one m) e
    ∙ chosen (next_is (is_sign between) after) (the_sign between after >>= λ t. others_with between one m x t.1) (Ok (x ∷ [], after)) b
    ∙ ap (λ (r : Read (Unit {0})). r >>= λ t. others_with between one m x t.1) s

-- ---- behind others

pub behind_none : {A : Type 0} (r : Read (List A)) → behind [] r ≡ r
behind_none (Ok r) = refl
behind_none (Err f) = refl

pub one_behind : {A : Type 0} (front new : List A) (x : A) (r : Read (List A)) → new ≡ front ++ x ∷ []
    → behind new r ≡ behind front (r >>= λ others. Ok (x ∷ others.0, others.1))
one_behind front new x (Err f) e = refl
one_behind {A} front new x (Ok r) e = ap (λ (xs : List A). Ok (xs, r.1)) (ap (λ (xs : List A). xs ++ r.0) e ∙ append_assoc front (x ∷ []) r.0)

-- one read and pushed, and the sign behind it read too, of those that `most` still allows
pub goes_on : {A : Type 0} (between : Sign) (one : List Token → Read A) (most count : ℕ) (front new : List A) (x : A) (tokens after rest : List Token)
    → most - count ≡ suc (most - (count + 1)) → new ≡ front ++ x ∷ [] → one tokens ≡ Ok (x, after)
    → next_is (is_sign between) after ≡ true → the_sign between after ≡ Ok (tt, rest)
    → behind new (separated between one (most - (count + 1)) rest) ≡ behind front (separated between one (most - count) tokens)
goes_on between one most count front new x tokens after rest more push e b s =
    one_behind front new x (separated between one (most - (count + 1)) rest) push
    ∙ sym (ap (λ (k : ℕ). behind front (separated between one k tokens)) more ∙ ap (behind front) (one_more between one (most - (count + 1)) tokens x after rest e b s))

-- ---- none or more, up to a token that ends them

after_first : {A : Type 0} → (List Token → Bool) → (List Token → Read A) → ℕ → A × List Token → Read (List A)
after_first ends one n first = repeated ends one n first.1 >>= λ others. Ok (first.0 ∷ others.0, others.1)

others_of : {X : Type 0} (b : Bool) (x y : X) → b ≡ false → elim b [ true ↦ x | false ↦ y ] ≡ y
others_of true x y e = absurd cc
others_of false x y e = refl

pub repeats_one : {A : Type 0} (ends : List Token → Bool) (one : List Token → Read A) (most count : ℕ) (front new : List A) (x : A) (tokens after : List Token)
    → most - count ≡ suc (most - (count + 1)) → new ≡ front ++ x ∷ [] → ends tokens ≡ false → one tokens ≡ Ok (x, after)
    → behind new (repeated ends one (most - (count + 1)) after) ≡ behind front (repeated ends one (most - count) tokens)
unfolding after_first
repeats_one ends one most count front new x tokens after more push b e =
    let n = most - (count + 1) in
    one_behind front new x (repeated ends one n after) push
    ∙ sym (ap (λ (k : ℕ). behind front (repeated ends one k tokens)) more
    ∙ ap (behind front) (others_of (ends tokens) (Ok ([], tokens)) (one tokens >>= after_first ends one n) b ∙ ap (λ (r : Read _). r >>= after_first ends one n) e))

-- at the token that ends them
pub repeats_none : {A : Type 0} (ends : List Token → Bool) (one : List Token → Read A) (n : ℕ) (front : List A) (tokens : List Token)
    → ends tokens ≡ true → behind front (repeated ends one n tokens) ≡ Ok (front, tokens)
repeats_none {A} ends one zero front tokens e =
    ap (behind front) (chosen (ends tokens) (Ok ([], tokens)) (unexpected tokens) e) ∙ ap (λ (xs : List A). Ok (xs, tokens)) (append-nil front)
repeats_none {A} ends one (suc n) front tokens e =
    ap (behind front) (chosen (ends tokens) (Ok ([], tokens)) (one tokens >>= λ first. repeated ends one n first.1 >>= λ others. Ok (first.0 ∷ others.0, others.1)) e)
    ∙ ap (λ (xs : List A). Ok (xs, tokens)) (append-nil front)

-- where reading the next fails
pub repeats_fails : {X A : Type 0} (view : X → List A × List Token) (result : Result X Stop) (e : Stop) (ends : List Token → Bool) (one : List Token → Read A) (most count : ℕ) (front : List A) (tokens : List Token) (whole : Read (List A))
    → most - count ≡ suc (most - (count + 1)) → ends tokens ≡ false → result ≡ Err e → Fails e (one tokens)
    → behind front (repeated ends one (most - count) tokens) ≡ whole → Gives view result whole
unfolding after_first
repeats_fails view result e ends one most count front tokens whole more b is h all =
    let n = most - (count + 1) in
    let step : behind front (one tokens >>= after_first ends one n) ≡ whole =
    ap (behind front) (sym (others_of (ends tokens) (Ok ([], tokens)) (one tokens >>= after_first ends one n) b))
    ∙ ap (λ (k : ℕ). behind front (repeated ends one k tokens)) (sym more) ∙ all in
    subst (Gives view result) step (gives_failure_within view result e (one tokens) (after_first ends one n) (λ r. Ok (front ++ r.0, r.1)) is h)

-- The first tokens decide how a side is read, whatever the bound.
use Rattle.std.proofs.Common.{ℕ, zero, suc, List, [], ◌∷◌, length, Ok, arith}
use Rattle.std.specs.Prelude.{flat_map}
use Rattle.sc_input_rules.specs.declared.token.Token.{Token}
use Rattle.sc_input_rules.specs.declared.token.Sign.TheVariants.{Open, Close, Comma}
use Rattle.sc_input_rules.specs.Token.{is_sign}
use Rattle.sc_input_rules.specs.Reader.{Read, Name, the_sign, a_name, separated}
use Rattle.sc_input_rules.specs.Syntax.{Side}
use Rattle.sc_input_rules.specs.ClauseGrammar.{bracketed, arguments, side_within}
use Rattle.sc_input_rules.proofs.ShrinkingOfClauses.{side_within-shrinks}
use Rattle.sc_input_rules.proofs.Prefix.{Good, good_from, good_sign, good_name}
use Rattle.sc_input_rules.proofs.PrefixInTurn.{takes_none, takes_name, bound, good_bind, good_pure, good_next, good_separated}

pub good_bracketed : {A : Type 0} (n m : ℕ) (p q : List Token → Read A) → Good n m p q → Good n m (bracketed p) (bracketed q)
good_bracketed n m p q g =
    good_bind n m n m 0 (the_sign Open) (the_sign Open) (λ o ts. bound (p ts) (λ v ts. bound (the_sign Close ts) (λ c ts. Ok (v, ts)))) (λ o ts. bound (q ts) (λ v ts. bound (the_sign Close ts) (λ c ts. Ok (v, ts)))) (omega arith) (omega arith)
    (good_sign n m Open) (takes_none (the_sign Open) (good_sign n m Open).short) (λ o.
    good_bind n m n m 0 p q (λ v ts. bound (the_sign Close ts) (λ c ts. Ok (v, ts))) (λ v ts. bound (the_sign Close ts) (λ c ts. Ok (v, ts))) (omega arith) (omega arith) g (takes_none p g.short) (λ v.
    good_bind n m n m 0 (the_sign Close) (the_sign Close) (λ c ts. Ok (v, ts)) (λ c ts. Ok (v, ts)) (omega arith) (omega arith) (good_sign n m Close) (takes_none (the_sign Close) (good_sign n m Close).short) (λ c. good_pure n m v)))

pub good_arguments : (n m : ℕ) (p q : List Token → Read (List Side)) → Good n m p q → Good n m (arguments p) (arguments q)
good_arguments n m p q g = good_next n m (is_sign Open) (bracketed p) (bracketed q) (λ ts. Ok ([], ts)) (λ ts. Ok ([], ts)) (good_bracketed n m p q g) (good_pure n m [])

abbrev named : Name → List Side → Side
named name args = record { at = name.at; name = name.text; arity = length args } ∷ flat_map (λ s. s) args

pub good_side : (n m : ℕ) → Good n m (side_within n) (side_within m)
good_side zero m = good_from zero m _ _ (side_within-shrinks zero) (side_within-shrinks m) (λ t front more e e'. absurd (omega (arith, e)))
good_side (suc n) zero = good_from (suc n) zero _ _ (side_within-shrinks (suc n)) (side_within-shrinks zero) (λ t front more e e'. absurd (omega (arith, e')))
good_side (suc n) (suc m) =
    let inside = good_separated n m Comma (side_within n) (side_within m) n m (omega arith) (omega arith) (good_side n m) in
    let args = good_arguments n m (separated Comma (side_within n) n) (separated Comma (side_within m) m) inside in
    good_bind (suc n) (suc m) n m 1 a_name a_name (λ name ts. bound (arguments (separated Comma (side_within n) n) ts) (λ args ts. Ok (named name args, ts)))
    (λ name ts. bound (arguments (separated Comma (side_within m) m) ts) (λ args ts. Ok (named name args, ts))) (omega arith) (omega arith) (good_name (suc n) (suc m)) takes_name (λ name.
    good_bind n m n m 0 (arguments (separated Comma (side_within n) n)) (arguments (separated Comma (side_within m) m)) (λ args ts. Ok (named name args, ts)) (λ args ts. Ok (named name args, ts)) (omega arith) (omega arith)
    args (takes_none (arguments (separated Comma (side_within n) n)) args.short) (λ ss. good_pure n m (named name ss)))

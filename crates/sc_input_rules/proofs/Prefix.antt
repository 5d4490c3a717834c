-- The first tokens of a text decide what is read of it: where a production stops before they end, it stops so on the
-- whole text, and else it goes on at least so far. A larger bound on the repetitions changes nothing.
use Rattle.std.proofs.Common.{◌≡◌, refl, ℕ, ◌≤◌, Bool, true, false, List, [], ◌∷◌, ◌++◌, length, Ok, Err, arith}
use Rattle.std.specs.Prelude.{codes}
use Rattle.sc_input_rules.specs.declared.fault.InputKind.{InputKind}
use Rattle.sc_input_rules.specs.declared.token.Token.{Token}
use Rattle.sc_input_rules.specs.declared.token.Token.TheVariants.{Word, Punctuation, Refused}
use Rattle.sc_input_rules.specs.declared.token.Sign.{Sign}
use Rattle.sc_input_rules.specs.Token.{is_sign, same_text}
use Rattle.sc_input_rules.specs.Reader.{Read, Name, unexpected, the_sign, a_name}
use Rattle.sc_input_rules.proofs.Shrinking.{LeavesAtMost, Shrinks, the_sign-shrinks, a_name-shrinks}

abbrev pub ok_agrees : {A : Type 0} → List Token → A → List Token → Read A → Type 0
ok_agrees more a [] s = LeavesAtMost (length more) s
ok_agrees more a (t ∷ ts) s = s ≡ Ok (a, (t ∷ ts) ++ more)

abbrev pub err_agrees : {A : Type 0} → List Token → InputKind → List Token → Read A → Type 0
err_agrees more kind [] s = LeavesAtMost (length more) s
err_agrees more kind (t ∷ ts) s = s ≡ Err (record { left = (t ∷ ts) ++ more; kind = kind })

-- what is read of the first tokens, and of all, where `more` stand behind the first
abbrev pub Agrees : {A : Type 0} → List Token → Read A → Read A → Type 0
Agrees more (Ok r) s = ok_agrees more r.0 r.1 s
Agrees more (Err f) s = err_agrees more f.kind f.left s

-- p with texts of at most n tokens, q with texts of at most m
pub record Good {A : Type 0} (n m : ℕ) (p q : List Token → Read A) : Type 0 where
  pub short : Shrinks p
  pub long : Shrinks q
  pub agrees : (front more : List Token) → length front ≤ n → length (front ++ more) ≤ m → Agrees more (p front) (q (front ++ more))

pub nothing_left : {A : Type 0} (more : List Token) (x y : Read A) → LeavesAtMost 0 x → LeavesAtMost (length more) y → Agrees more x y
nothing_left more (Ok r) y h k = by r.0 r.1 h
  where
    by : (a : _) (left : List Token) → length left ≤ 0 → ok_agrees more a left y
    by a [] h = k
    by a (t ∷ ts) h = absurd (omega arith)
nothing_left more (Err f) y h k = by f.left h
  where
    by : (left : List Token) → length left ≤ 0 → err_agrees more f.kind left y
    by [] h = k
    by (t ∷ ts) h = absurd (omega arith)

-- what holds of texts that aren't empty is enough
pub good_from : {A : Type 0} (n m : ℕ) (p q : List Token → Read A) → Shrinks p → Shrinks q
    → ((t : Token) (front more : List Token) → length (t ∷ front) ≤ n → length (t ∷ (front ++ more)) ≤ m → Agrees more (p (t ∷ front)) (q (t ∷ (front ++ more)))) → Good n m p q
good_from n m p q h k e = record { short = h; long = k; agrees = by }
  where
    by : (front more : List Token) → length front ≤ n → length (front ++ more) ≤ m → Agrees more (p front) (q (front ++ more))
    by [] more l l' = nothing_left more (p []) (q more) (h []) (k more)
    by (t ∷ front) more l l' = e t front more l l'

-- ---- one token

pub taken : {A : Type 0} (a : A) (ts more : List Token) → Agrees more (Ok (a, ts)) (Ok (a, ts ++ more))
taken a [] more = omega arith
taken a (t ∷ ts) more = refl

pub not_allowed : {A : Type 0} (t : Token) (ts more : List Token) → Agrees {A = A} more (unexpected (t ∷ ts)) (unexpected (t ∷ (ts ++ more)))
not_allowed (Word at text) ts more = refl
not_allowed (Punctuation at s) ts more = refl
not_allowed (Refused at kind) ts more = refl

pub one_of_two : {A : Type 0} (more : List Token) (b : Bool) (x x' y y' : Read A) → Agrees more x x' → Agrees more y y' → Agrees more (elim b [ true ↦ x | false ↦ y ]) (elim b [ true ↦ x' | false ↦ y' ])
one_of_two more true x x' y y' h k = h
one_of_two more false x x' y y' h k = k

pub good_sign : (n m : ℕ) (s : Sign) → Good n m (the_sign s) (the_sign s)
good_sign n m s = good_from n m (the_sign s) (the_sign s) (the_sign-shrinks s) (the_sign-shrinks s) (λ t front more l l'.
    one_of_two more (is_sign s t) (Ok (tt {0}, front)) (Ok (tt {0}, front ++ more)) (unexpected (t ∷ front)) (unexpected (t ∷ (front ++ more))) (taken (tt {0}) front more) (not_allowed t front more))

name_agrees : (t : Token) (front more : List Token) → Agrees more (a_name (t ∷ front)) (a_name (t ∷ (front ++ more)))
name_agrees (Word at text) front more =
    let w : Name = record { at = at; text = text } in
    one_of_two more (same_text (codes "$F") text) (unexpected (Word at text ∷ front)) (unexpected (Word at text ∷ (front ++ more))) (Ok (w, front)) (Ok (w, front ++ more)) refl (taken w front more)
name_agrees (Punctuation at s) front more = refl
name_agrees (Refused at kind) front more = refl

pub good_name : (n m : ℕ) → Good n m a_name a_name
good_name n m = good_from n m a_name a_name a_name-shrinks a_name-shrinks (λ t front more l l'. name_agrees t front more)

-- A clause of a list at which no limit is passed keeps the limits, in each of its parts from its first token on.
use Rattle.std.proofs.Common.{◌≡◌, subst, refl, ℕ, suc, ◌+◌, ◌<◌, ◌≤◌, Bool, true, false, List, [], ◌∷◌, ◌++◌, length, Option, Some, None, arith, length-append}
use Rattle.std.proofs.lemmas.Bool.{leb-false}
use Rattle.std.specs.Prelude.{codes, not, ◌&&◌, nat_le, nat_lt}
use Rattle.sc_input_rules.specs.declared.settings.Home.{Home}
use Rattle.sc_input_rules.specs.declared.token.Token.{Token}
use Rattle.sc_input_rules.specs.declared.token.Token.TheVariants.{Punctuation}
use Rattle.sc_input_rules.specs.declared.token.Sign.TheVariants.{Stop}
use Rattle.sc_input_rules.specs.Token.{at_of, is_word}
use Rattle.sc_input_rules.specs.Position.{closes}
use Rattle.sc_input_rules.specs.Measures.{weight_so_far, depth_so_far, arguments_so_far}
use Rattle.sc_input_rules.specs.Faults.{passed_behind}
use Rattle.sc_input_rules.specs.ClauseLimits.{when, last_at}
use Rattle.sc_input_rules.specs.ProblemLimits.{problem_bounds, problem_fault_at}
use Rattle.sc_input_rules.proofs.Unpassed.{IsClear, is_clear, unpassed_split, unpassed_at}
use Rattle.sc_input_rules.proofs.Standing.{HasNoStop, Stands, standing, standing_ended, stands_behind}

-- no limit is passed at these tokens, which stand behind earlier ones
abbrev pub IsUnpassed : List Token → List Token → Type 0
IsUnpassed earlier ts = passed_behind (problem_fault_at problem_bounds) earlier ts ≡ None

-- what these first tokens of a clause keep
pub record Within (ts : List Token) : Type 0 where
  pub arity : arguments_so_far ts ≤ 7
  pub weight : weight_so_far ts ≤ 1000
  pub depth : depth_so_far ts ≤ 256

-- ---- what a limit that isn't passed says

pub not_when : {X : Type 0} (b : Bool) (x : X) (o : Option X) → o ≡ Some x → when b o ≡ None → b ≡ false
not_when true x o e h = absurd cc
not_when false x o e h = refl

has_last : (t : Token) (ts : List Token) → (n : ℕ) × (last_at (t ∷ ts) ≡ Some n)
has_last t [] = (at_of t, refl)
has_last t (u ∷ us) = has_last u us

below : (m n : ℕ) → nat_le (m + 1) n ≡ false → n ≤ m
below m n e = let l = leb-false (m + 1) n e in omega arith

at_most : (m n : ℕ) → nat_lt m n ≡ false → n ≤ m
at_most m n e = let l = leb-false (suc m) n e in omega arith

clear_within : (h : Home) (cs : List (Home × List Token)) (t : Token) (ts : List Token) → IsClear (record { clauses = cs; home = Some h; sentence = t ∷ ts }) → Within (t ∷ ts)
clear_within h cs t ts c =
    let l = has_last t ts in
    record {
      arity = below 7 (arguments_so_far (t ∷ ts)) (not_when (nat_le 8 (arguments_so_far (t ∷ ts))) l.0 (last_at (t ∷ ts)) l.1 c.arity);
      weight = at_most 1000 (weight_so_far (t ∷ ts)) (not_when (nat_lt 1000 (weight_so_far (t ∷ ts))) l.0 (last_at (t ∷ ts)) l.1 c.weight);
      depth = at_most 256 (depth_so_far (t ∷ ts)) (not_when (nat_lt 256 (depth_so_far (t ∷ ts))) l.0 (last_at (t ∷ ts)) l.1 c.depth);
    }

-- ---- within a clause

clear_at : (earlier : List Token) (h : Home) (cs : List (Home × List Token)) (t : Token) (ts more : List Token) → Stands earlier (Some h) cs → HasNoStop (t ∷ ts) → IsUnpassed earlier ((t ∷ ts) ++ more)
    → IsClear (record { clauses = cs; home = Some h; sentence = t ∷ ts })
clear_at earlier h cs t ts more st n u =
    let first = unpassed_split (problem_fault_at problem_bounds) earlier (t ∷ ts) more u in
    subst IsClear (standing earlier (Some h) cs (t ∷ ts) st n) (is_clear (earlier ++ t ∷ ts) (unpassed_at (problem_fault_at problem_bounds) earlier t ts first.0))

pub within_clause : (earlier : List Token) (h : Home) (cs : List (Home × List Token)) (front more : List Token) → Stands earlier (Some h) cs → HasNoStop front → IsUnpassed earlier (front ++ more) → Within front
within_clause earlier h cs [] more st n u = record { arity = omega arith; weight = omega arith; depth = omega arith }
within_clause earlier h cs (t ∷ ts) more st n u = clear_within h cs t ts (clear_at earlier h cs t ts more st n u)

-- ---- at its ends

room_from : (n : ℕ) (closing : Bool) (at : ℕ) → closing ≡ false → when (nat_le 10000 n && not closing) (Some at) ≡ None → n < 10000
room_from n true at e h = absurd cc
room_from n false at e h = by (nat_le 10000 n) refl h
  where
    by : (b : Bool) → nat_le 10000 n ≡ b → when (b && true) (Some at) ≡ None → n < 10000
    by true k h = absurd cc
    by false k h = leb-false 10000 n k

room : (h : Home) (cs : List (Home × List Token)) (t : Token) → is_word (codes "end_of_list") t ≡ false → IsClear (record { clauses = cs; home = Some h; sentence = t ∷ [] }) → length cs < 10000
room h cs t e c = room_from (length cs) (is_word (codes "end_of_list") t) (at_of t) e c.clauses

not_closing : (t : Token) (ts : List Token) → is_word (codes "end_of_list") t ≡ false → closes (t ∷ ts) ≡ false
not_closing t [] e = e
not_closing t (u ∷ us) e = refl

pub clause_stands : (earlier : List Token) (h : Home) (cs : List (Home × List Token)) (t : Token) (ts : List Token) (at : ℕ) → Stands earlier (Some h) cs → HasNoStop (t ∷ ts)
    → is_word (codes "end_of_list") t ≡ false → IsUnpassed earlier ((t ∷ ts) ++ Punctuation at Stop ∷ []) → Stands (earlier ++ ((t ∷ ts) ++ Punctuation at Stop ∷ [])) (Some h) (cs ++ (h, t ∷ ts) ∷ [])
clause_stands earlier h cs t ts at st n e u =
    let s = t ∷ ts in
    let closing : closes (t ∷ ts) ≡ false = not_closing t ts e in
    let few : length cs < 10000 = room h cs t e (clear_at earlier h cs t [] (ts ++ Punctuation at Stop ∷ []) st (n.0, tt) u) in
    let end : IsClear (record { clauses = cs ++ (h, t ∷ ts) ∷ []; home = Some h; sentence = [] }) =
    subst IsClear (standing_ended earlier (t ∷ ts) at h cs st n closing)
    (is_clear (earlier ++ (s ++ Punctuation at Stop ∷ [])) (unpassed_at (problem_fault_at problem_bounds) earlier t (ts ++ Punctuation at Stop ∷ []) u)) in
    stands_behind earlier (t ∷ ts) at h cs st n closing
    (record { few = omega (arith, few, length-append cs ((h, t ∷ ts) ∷ [])); symbols = end.symbols; demodulators = end.demodulators })

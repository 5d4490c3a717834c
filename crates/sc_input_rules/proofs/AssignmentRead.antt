-- Where an assignment is read and no limit is passed, its number is in the parameter's range.
use Rattle.std.proofs.Common.{◌≡◌, ◌∙◌, sym, ap, subst, refl, ℕ, Bool, true, false, List, [], ◌∷◌, ◌++◌, length, append_assoc, Option, None, Ok, Err}
use Rattle.std.specs.Prelude.{codes, not, ◌&&◌, nat_lt, ℤ, int_le, option_and_then, if◌then◌else◌}
use Rattle.sc_term.proofs.SubstitutionLaws.{all_join}
use Rattle.sc_input_rules.specs.declared.settings.Home.{Home}
use Rattle.sc_input_rules.specs.declared.token.Token.{Token}
use Rattle.sc_input_rules.specs.declared.token.Token.TheVariants.{Word, Punctuation}
use Rattle.sc_input_rules.specs.declared.token.Sign.TheVariants.{Open, Close, Comma, Stop}
use Rattle.sc_input_rules.specs.Token.{at_of, is_sign, same_text}
use Rattle.sc_input_rules.specs.Reader.{Read, Name, the_sign, a_listed_name}
use Rattle.sc_input_rules.specs.Settings.{Range, parameter_words, unsupported_parameters}
use Rattle.sc_input_rules.specs.ProblemGrammar.{Item, Assignment, number, the_close, assignment}
use Rattle.sc_input_rules.specs.ClauseLimits.{when, first_at}
use Rattle.sc_input_rules.specs.ProblemLimits.{problem_bounds, problem_fault_at, is_outside, last_digits}
use Rattle.sc_input_rules.proofs.Taken.{Gives, both, same, sign_taken}
use Rattle.sc_input_rules.proofs.Unpassed.{IsClear, is_clear, unpassed_split, unpassed_at}
use Rattle.sc_input_rules.proofs.Standing.{HasNoStop, Stands, standing}
use Rattle.sc_input_rules.proofs.ClauseWithin.{IsUnpassed, not_when}
use Rattle.sc_input_rules.proofs.ItemWords.{listed_taken, close_taken, number_taken}
use Rattle.sc_input_rules.proofs.ItemsRead.{NumberFits, ItemRead, one_sentence, opened-other}

fits_if : (long fits : Bool) → (if long then true else not fits) ≡ false → fits ≡ true
fits_if true fits e = absurd cc
fits_if false true e = refl
fits_if false false e = absurd cc

outside : Range → List Token → Read ℤ → Bool
outside range value r = elim r [ Ok n ↦ if nat_lt 10 (length (last_digits value)) then true else not (int_le range.low n.0 && int_le n.0 range.high) | Err f ↦ false ]

fits_range : (range : Range) (t : Token) (ts : List Token) (v : ℤ) → Gives (number (t ∷ ts)) v [] → when (is_outside range (t ∷ ts)) (first_at (t ∷ ts)) ≡ None → (int_le range.low v && int_le v range.high) ≡ true
unfolding outside
fits_range range t ts v alone e =
    let inside : is_outside range (t ∷ ts) ≡ false = not_when (is_outside range (t ∷ ts)) (at_of t) (first_at (t ∷ ts)) refl e in
    fits_if (nat_lt 10 (length (last_digits (t ∷ ts)))) (int_le range.low v && int_le v range.high) (sym (ap (outside range (t ∷ ts)) alone) ∙ inside)

told : Bool → Option Range → List Token → Option ℕ
told b range value = when b (option_and_then (λ range. when (is_outside range value) (first_at value)) range)

-- the tokens from `assign` up to the number
module _ (at o c : ℕ) (text : List ℕ) (n : Name) (t : Token) (ts : List Token) where
  abbrev front : List Token
  front = Word at text ∷ Punctuation o Open ∷ Word n.at n.text ∷ Punctuation c Comma ∷ t ∷ ts

  number_fits : (v : ℤ) (earlier more : List Token) (before : List (Home × List Token)) → text ≡ codes "assign" → Gives (number (t ∷ ts)) v [] → HasNoStop (t ∷ ts)
      → Stands earlier None before → IsUnpassed earlier (front ++ more) → NumberFits (Assignment n v)
  unfolding told
  number_fits v earlier more before e alone no_stop st u range r =
      let first = unpassed_split (problem_fault_at problem_bounds) earlier front more u in
      let clear : IsClear (record { clauses = before; home = None; sentence = front }) =
      subst IsClear (standing earlier None before front st (refl, (refl, (refl, (refl, no_stop)))))
      (is_clear (earlier ++ front) (unpassed_at (problem_fault_at problem_bounds) earlier (Word at text) (Punctuation o Open ∷ Word n.at n.text ∷ Punctuation c Comma ∷ t ∷ ts) first.0)) in
      fits_range range t ts v alone
      (sym (λ i. told (same_text (codes "assign") (e i)) (r i) (t ∷ ts)) ∙ clear.number)

pub assignment_read : (at : ℕ) (text : List ℕ) (ts : List Token) (i : Item) (left : List Token) → text ≡ codes "assign" → Gives (assignment ts) i left → ItemRead (Word at text ∷ ts) i left
assignment_read at text ts i left e g =
    let b = both (the_sign Open ts) _ i left g in
    let o = sign_taken Open ts b.value b.left b.first in
    let c = both (a_listed_name parameter_words unsupported_parameters b.left) _ i left b.second in
    let n = listed_taken parameter_words unsupported_parameters b.left c.value c.left c.first in
    let d = both (the_sign Comma c.left) _ i left c.second in
    let k = sign_taken Comma c.left d.value d.left d.first in
    let f = both (number d.left) _ i left d.second in
    let v = number_taken d.left f.value f.left f.first in
    let h = both (the_close f.left) _ i left f.second in
    let q = close_taken f.left h.value h.left h.first in
    let z = same (Assignment c.value f.value) i h.left left h.second in
    let name = Word c.value.at c.value.text in
    let digits = v.first ∷ v.others in
    let end = Punctuation q.closing Close ∷ [] in
    let stop = Punctuation q.stop Stop ∷ [] in
    let start = λ (us : List Token). Word at text ∷ Punctuation o.at Open ∷ name ∷ Punctuation k.at Comma ∷ us in
    subst (λ i. ItemRead (Word at text ∷ ts) i left) z.value
    (one_sentence (start (digits ++ end)) q.stop (Assignment c.value f.value) (Word at text ∷ ts) left refl
    (refl, (refl, (refl, (refl, all_join (λ t. is_sign Stop t ≡ false) digits end v.no_stop (refl, tt)))))
    (opened-other at text (codes "assign") (Punctuation o.at Open) name (Punctuation k.at Comma ∷ (digits ++ end)) e refl)
    (ap (λ us. Word at text ∷ us) (o.tokens ∙ ap (λ us. Punctuation o.at Open ∷ us) (n.tokens ∙ ap (λ us. name ∷ us) (k.tokens ∙ ap (λ us. Punctuation k.at Comma ∷ us)
    (v.tokens ∙ ap (λ us. digits ++ us) (q.tokens ∙ ap (λ us. Punctuation q.closing Close ∷ Punctuation q.stop Stop ∷ us) z.left)
    ∙ sym (append_assoc digits (end ++ stop) left) ∙ ap (λ us. us ++ left) (sym (append_assoc digits end stop)))))))
    (λ earlier before st u.
    number_fits at o.at k.at text c.value v.first v.others f.value earlier (end ++ stop) before e v.alone v.no_stop st
    (subst (λ us. IsUnpassed earlier (start us)) (append_assoc digits end stop) u)))

-- What a position is with one token more, and the first fault with one token more.
use Rattle.std.proofs.Common.{◌≡◌, ◌∙◌, sym, ap, refl, ℕ, Bool, true, false, List, [], ◌∷◌, ◌++◌, take, drop, append_assoc}
use Rattle.std.specs.Prelude.{Option, Some, None, if◌then◌else◌}
use Rattle.std.proofs.lemmas.List.{append-nil, take-append-drop}
use Rattle.sc_input_rules.specs.declared.fault.Place.{Place}
use Rattle.sc_input_rules.specs.declared.settings.Home.{Home}
use Rattle.sc_input_rules.specs.declared.token.Token.{Token}
use Rattle.sc_input_rules.specs.declared.token.Sign.TheVariants.{Stop}
use Rattle.sc_input_rules.specs.Token.{is_sign}
use Rattle.sc_input_rules.specs.Position.{Position, position, sentences, clauses_of, home_behind, opened, closes}
use Rattle.sc_input_rules.specs.Faults.{passed_behind, first_passed}
use Rattle.sc_input_rules.proofs.OneMore.{sentences-stop, sentences-other, home_behind-one_more}
use Rattle.sc_input_limits.specs.Positions.{with_token, clause_ended, behind_stop}

abbrev at_cut : List (List Token) × List Token → Position
at_cut cut = record { clauses = clauses_of None cut.0; home = home_behind None cut.0; sentence = cut.1 }

pub position-token : (tokens : List Token) (t : Token) → is_sign Stop t ≡ false → position (tokens ++ t ∷ []) ≡ with_token t (position tokens)
position-token tokens t e = ap at_cut (sentences-other tokens t e)

abbrev chosen : Bool → List (Home × List Token) → List (Home × List Token) → List (Home × List Token)
chosen b xs ys = elim b [ true ↦ xs | false ↦ ys ]

clauses_of-one_more : (home : Option Home) (ss : List (List Token)) (s : List Token) → clauses_of home (ss ++ s ∷ []) ≡ clauses_of home ss ++ clause_ended (home_behind home ss) s
clauses_of-one_more None [] s = refl
clauses_of-one_more (Some h) [] s = by (closes s)
  where
    by : (b : Bool) → chosen b [] ((h, s) ∷ []) ≡ chosen b [] ((h, s) ∷ [])
    by b = refl
clauses_of-one_more None (u ∷ us) s = clauses_of-one_more (opened u) us s
clauses_of-one_more (Some h) (u ∷ us) s = by (closes u) (clauses_of-one_more None us s) (clauses_of-one_more (Some h) us s)
  where
    by : (b : Bool) → clauses_of None (us ++ s ∷ []) ≡ clauses_of None us ++ clause_ended (home_behind None us) s → clauses_of (Some h) (us ++ s ∷ []) ≡ clauses_of (Some h) us ++ clause_ended (home_behind (Some h) us) s
        → chosen b (clauses_of None (us ++ s ∷ [])) ((h, u) ∷ clauses_of (Some h) (us ++ s ∷ []))
        ≡ chosen b (clauses_of None us) ((h, u) ∷ clauses_of (Some h) us) ++ clause_ended (home_behind (if b then None else Some h) us) s
    by true e e' = e
    by false e e' = ap (λ (cs : List (Home × List Token)). (h, u) ∷ cs) e'

pub position-stop : (tokens : List Token) (t : Token) → is_sign Stop t ≡ true → position (tokens ++ t ∷ []) ≡ behind_stop (position tokens)
position-stop tokens t e =
    let cut = sentences tokens in
    let clauses = clauses_of-one_more None cut.0 cut.1 in
    let home = home_behind-one_more None cut.0 cut.1 in
    ap at_cut (sentences-stop tokens t e) ∙ (λ i. record { clauses = clauses i; home = home i; sentence = [] })

abbrev or_else : Option Place → Option Place → Option Place
or_else o p = elim o [ Some q ↦ Some q | None ↦ p ]

passed_behind-one_more : (fault_at : List Token → Option Place) (earlier tokens : List Token) (t : Token) → passed_behind fault_at earlier tokens ≡ None → passed_behind fault_at earlier (tokens ++ t ∷ []) ≡ fault_at (earlier ++ tokens ++ t ∷ [])
passed_behind-one_more fault_at earlier [] t e = by (fault_at (earlier ++ t ∷ [])) ∙ ap (λ (us : List Token). fault_at (us ++ t ∷ [])) (sym (append-nil earlier))
  where
    by : (o : Option Place) → or_else o None ≡ o
    by None = refl
    by (Some p) = refl
passed_behind-one_more fault_at earlier (u ∷ us) t e =
    by (fault_at (earlier ++ u ∷ [])) e (passed_behind-one_more fault_at (earlier ++ u ∷ []) us t) ∙ ap (λ (xs : List Token). fault_at (xs ++ t ∷ [])) (append_assoc earlier (u ∷ []) us)
  where
    by : (o : Option Place) → or_else o (passed_behind fault_at (earlier ++ u ∷ []) us) ≡ None → (passed_behind fault_at (earlier ++ u ∷ []) us ≡ None → passed_behind fault_at (earlier ++ u ∷ []) (us ++ t ∷ []) ≡ fault_at (earlier ++ u ∷ [] ++ us ++ t ∷ []))
        → or_else o (passed_behind fault_at (earlier ++ u ∷ []) (us ++ t ∷ [])) ≡ fault_at (earlier ++ u ∷ [] ++ us ++ t ∷ [])
    by (Some p) e h = absurd cc
    by None e h = h e

-- where none of the tokens passes a limit, the next decides
pub first_passed-one_more : (fault_at : List Token → Option Place) (tokens : List Token) (t : Token) → first_passed fault_at tokens ≡ None → first_passed fault_at (tokens ++ t ∷ []) ≡ fault_at (tokens ++ t ∷ [])
first_passed-one_more fault_at tokens t e = passed_behind-one_more fault_at [] tokens t e

passed_behind-append : (fault_at : List Token → Option Place) (earlier tokens more : List Token) (p : Place) → passed_behind fault_at earlier tokens ≡ Some p → passed_behind fault_at earlier (tokens ++ more) ≡ Some p
passed_behind-append fault_at earlier [] more p e = absurd cc
passed_behind-append fault_at earlier (t ∷ ts) more p e = by (fault_at (earlier ++ t ∷ [])) e (passed_behind-append fault_at (earlier ++ t ∷ []) ts more p)
  where
    by : (o : Option Place) → or_else o (passed_behind fault_at (earlier ++ t ∷ []) ts) ≡ Some p → (passed_behind fault_at (earlier ++ t ∷ []) ts ≡ Some p → passed_behind fault_at (earlier ++ t ∷ []) (ts ++ more) ≡ Some p)
        → or_else o (passed_behind fault_at (earlier ++ t ∷ []) (ts ++ more)) ≡ Some p
    by (Some q) e h = e
    by None e h = h e

-- a limit that the first tokens pass is the first that all pass
pub passed_by_first : (fault_at : List Token → Option Place) (n : ℕ) (tokens : List Token) (p : Place) → first_passed fault_at (take n tokens) ≡ Some p → first_passed fault_at tokens ≡ Some p
passed_by_first fault_at n tokens p e = ap (first_passed fault_at) (sym (take-append-drop n tokens)) ∙ passed_behind-append fault_at [] (take n tokens) (drop n tokens) p e

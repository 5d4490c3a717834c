-- From what is known behind some tokens to what is known behind one more.
use Rattle.std.proofs.Common.{◌≡◌, ◌∙◌, sym, ap, subst, refl, ℕ, ◌+◌, ◌≤◌, ◌<◌, true, false, List, [], ◌∷◌, ◌++◌, length, take, drop, get_or, length-append, arith, ℤ}
use Rattle.std.specs.Prelude.{Option, Some, None, option_map, is_some}
use Rattle.std.proofs.lemmas.List.{take_more, drop_all, drop-append-le, length-take-le}
use Rattle.sc_input_rules.specs.declared.fault.InputKind.TheVariants.{OutOfRange}
use Rattle.sc_input_rules.specs.declared.fault.Place.{Place}
use Rattle.sc_input_rules.specs.declared.settings.Home.{Home}
use Rattle.sc_input_rules.specs.declared.token.Token.{Token}
use Rattle.sc_input_rules.specs.declared.token.Sign.TheVariants.{Stop}
use Rattle.sc_input_rules.specs.Token.{is_sign}
use Rattle.sc_input_rules.specs.Position.{Position, position, clause_so_far}
use Rattle.sc_input_rules.specs.Faults.{place, passed, first_passed}
use Rattle.sc_input_rules.specs.ProblemLimits.{out_of_range, problem_bounds, problem_limits, problem_fault_at}
use Rattle.sc_input_limits.specs.declared.count.ClauseCount.{ClauseCount}
use Rattle.sc_input_limits.specs.declared.reached.Reached.{Reached}
use Rattle.sc_input_limits.specs.Counted.{Counted}
use Rattle.sc_input_limits.specs.Numbers.{number_of_value}
use Rattle.sc_input_limits.specs.Positions.{with_token, behind_stop}
use Rattle.sc_input_limits.specs.Limits.{fault_in_clause}
use Rattle.sc_input_limits.specs.Reached.{Follows, Reaches, IsBehind}
use Rattle.sc_input_limits.proofs.OnePosition.{position-token, position-stop, first_passed-one_more}
use Rattle.sc_input_limits.proofs.Places.{passed_in_clause, passed_outside, symbols_untold}

pub one_taken : (tokens : List Token) (at : ℕ) (t : Token) → at < length tokens → t ≡ get_or tokens at t → take (at + 1) tokens ≡ take at tokens ++ t ∷ []
one_taken tokens at t lt e = take_more tokens at t lt ∙ ap (λ (u : Token). take at tokens ++ u ∷ []) (sym e)

pub so_many : (tokens : List Token) (at : ℕ) → at < length tokens → length (take at tokens) ≡ at
so_many tokens at lt = length-take-le at tokens (omega arith)

abbrev fault_at : List Token → Option Place
fault_at = problem_fault_at problem_bounds

answered : (front whole : List Token) (t : Token) (p : Position) (told : Option Place) → first_passed fault_at front ≡ None → whole ≡ front ++ t ∷ [] → position (front ++ t ∷ []) ≡ p → told ≡ passed (problem_limits problem_bounds) p → first_passed fault_at whole ≡ told
answered front whole t p told e w f g =
    ap (first_passed fault_at) w ∙ first_passed-one_more fault_at front t e ∙ ap (passed (problem_limits problem_bounds)) f ∙ sym g

some_of : (o : Option Home) → is_some o ≡ true → (home : Home) × (o ≡ Some home)
some_of None e = absurd cc
some_of (Some home) e = (home, refl)

none_of : (o : Option Home) → is_some o ≡ false → o ≡ None
none_of None e = refl
none_of (Some home) e = absurd cc

in_a_list : (o : Option Home) (home : Home) → o ≡ Some home → o ≡ None → ⊥
in_a_list None home e f = cc
in_a_list (Some h) home e f = cc

-- ---- a full stop

pub stop_told : (front whole : List Token) (t : Token) (r ended : Reached) (told : Option Place) → IsBehind front r → whole ≡ front ++ t ∷ [] → is_sign Stop t ≡ true
    → Reaches (behind_stop (position front)) ended told → first_passed fault_at whole ≡ told
stop_told front whole t r ended told h w s k = answered front whole t (behind_stop (position front)) told h.untold w (position-stop front t s) k.told

nothing_so_far : (home : Option Home) → clause_so_far (record { clauses = []; home = home; sentence = [] }) ≡ []
nothing_so_far None = refl
nothing_so_far (Some home) = refl

pub stop_kept : (front whole : List Token) (t : Token) (at : ℕ) (r ended : Reached) (told : Option Place) (count : ClauseCount) → IsBehind front r → whole ≡ front ++ t ∷ [] → length front ≡ at → is_sign Stop t ≡ true
    → Reaches (behind_stop (position front)) ended told → ended.clauses ≤ r.clauses + 1 → Counted [] count → count.weight ≡ 0 → count.literal.atom.around ≡ 0 → told ≡ None
    → IsBehind whole (record { home = ended.home; start = at + 1; number = None; clauses = ended.clauses; count = count; symbols = ended.symbols; spoilt = ended.spoilt })
stop_kept front whole t at r ended told count h w n s k few counted light out none =
    let new : Reached = record { home = ended.home; start = at + 1; number = None; clauses = ended.clauses; count = count; symbols = ended.symbols; spoilt = ended.spoilt } in
    let f = k.follows none in
    let long : length whole ≡ at + 1 = ap length w ∙ length-append front (t ∷ []) ∙ ap (λ (n : ℕ). n + 1) n in
    let p : position whole ≡ behind_stop (position front) = ap position w ∙ position-stop front t s in
    let P : Position → Type 0 = λ p. Follows p new in
    let Q : List Token → Type 0 = λ c. Counted c count in
    let follows : Follows (behind_stop (position front)) new = record { home = f.home; clauses = f.clauses; symbols = f.symbols; spoilt = f.spoilt; untold = f.untold } in
    record {
      follows = subst P (sym p) follows;
      count = subst Q (sym (ap clause_so_far p ∙ nothing_so_far (behind_stop (position front)).home)) counted;
      number = λ closed. sym (ap (λ (p : Position). number_of_value p.sentence) p);
      sentence = ap (λ (p : Position). p.sentence) p ∙ sym (drop_all (at + 1) whole (omega arith));
      start = omega arith;
      clauses = omega (arith, h.clauses);
      weight = omega arith;
      around = omega arith;
      untold = stop_told front whole t r ended told h w s k ∙ none;
    }

-- ---- another token

position_behind : (front whole : List Token) (t : Token) → whole ≡ front ++ t ∷ [] → is_sign Stop t ≡ false → position whole ≡ with_token t (position front)
position_behind front whole t w s = ap position w ∙ position-token front t s

sentence_behind : (front whole : List Token) (t : Token) (r : Reached) → IsBehind front r → whole ≡ front ++ t ∷ [] → drop r.start whole ≡ (position front).sentence ++ t ∷ []
sentence_behind front whole t r h w = ap (drop r.start) w ∙ drop-append-le r.start front (t ∷ []) h.start ∙ ap (λ (s : List Token). s ++ t ∷ []) (sym h.sentence)

follows_behind : (front whole : List Token) (t : Token) (r new : Reached) → IsBehind front r → whole ≡ front ++ t ∷ [] → is_sign Stop t ≡ false → new.home ≡ r.home → new.clauses ≡ r.clauses → new.symbols ≡ r.symbols → new.spoilt ≡ r.spoilt
    → Follows (position whole) new
follows_behind front whole t r new h w s home clauses symbols spoilt =
    let f = h.follows in
    let P : Position → Type 0 = λ p. Follows p new in
    let kept : Follows (with_token t (position front)) new =
    record { home = home ∙ f.home; clauses = clauses ∙ f.clauses; symbols = record { once_each = symbols ∙ f.symbols.once_each; few = rw symbols f.symbols.few }; spoilt = spoilt ∙ f.spoilt; untold = f.untold } in
    subst P (sym (position_behind front whole t w s)) kept

-- ---- in a clause

sentence_so_far : (p : Position) (home : Home) → p.home ≡ Some home → clause_so_far p ≡ p.sentence
sentence_so_far p home e = ap (λ (o : Option Home). elim o [ None ↦ [] | Some home ↦ p.sentence ]) e

counted_behind : (front whole : List Token) (t : Token) (r : Reached) (count : ClauseCount) → IsBehind front r → whole ≡ front ++ t ∷ [] → is_some r.home ≡ true
    → ((tokens : List Token) → Counted tokens r.count → Counted (tokens ++ t ∷ []) count) → Counted (drop r.start whole) count
counted_behind front whole t r count h w listed more =
    let home = some_of r.home listed in
    let P : List Token → Type 0 = λ c. Counted c r.count in
    let Q : List Token → Type 0 = λ c. Counted c count in
    let so_far : clause_so_far (position front) ≡ (position front).sentence = sentence_so_far (position front) home.0 (sym h.follows.home ∙ home.1) in
    subst Q (sym (sentence_behind front whole t r h w)) (more (position front).sentence (subst P so_far h.count))

pub clause_told : (front whole : List Token) (t : Token) (r : Reached) (count : ClauseCount) (clause : List Token) (told : Option Place) → IsBehind front r → whole ≡ front ++ t ∷ [] → is_sign Stop t ≡ false → is_some r.home ≡ true
    → ((tokens : List Token) → Counted tokens r.count → Counted (tokens ++ t ∷ []) count) → clause ≡ drop r.start whole → (Counted clause count → told ≡ fault_in_clause r.clauses clause) → first_passed fault_at whole ≡ told
clause_told front whole t r count clause told h w s listed more c k =
    let home = some_of r.home listed in
    let p = position front in
    let f = h.follows in
    let e : p.home ≡ Some home.0 = sym f.home ∙ home.1 in
    let P : List Token → Type 0 = λ c. Counted c count in
    let answer : told ≡ fault_in_clause (length p.clauses) (p.sentence ++ t ∷ []) =
    k (subst P (sym c) (counted_behind front whole t r count h w listed more)) ∙ ap (fault_in_clause r.clauses) (c ∙ sentence_behind front whole t r h w) ∙ ap (λ (n : ℕ). fault_in_clause n (p.sentence ++ t ∷ [])) f.clauses in
    answered front whole t (with_token t p) told h.untold w (position-token front t s)
    (answer
    ∙ sym (passed_in_clause p.clauses home.0 (p.sentence ++ t ∷ []) (symbols_untold p.clauses (Some home.0) (p.sentence ++ t ∷ []) r.symbols f.symbols) f.untold)
    ∙ sym (ap (λ (o : Option Home). passed (problem_limits problem_bounds) (record { clauses = p.clauses; home = o; sentence = p.sentence ++ t ∷ [] })) e))

pub clause_goes_on : (front whole : List Token) (t : Token) (r : Reached) (count : ClauseCount) → IsBehind front r → whole ≡ front ++ t ∷ [] → is_sign Stop t ≡ false → is_some r.home ≡ true
    → ((tokens : List Token) → Counted tokens r.count → Counted (tokens ++ t ∷ []) count) → count.weight ≤ r.count.weight + 1 → count.literal.atom.around ≤ r.count.literal.atom.around + 1 → first_passed fault_at whole ≡ None
    → IsBehind whole (record { home = r.home; start = r.start; number = r.number; clauses = r.clauses; count = count; symbols = r.symbols; spoilt = r.spoilt })
clause_goes_on front whole t r count h w s listed more light out untold =
    let new : Reached = record { home = r.home; start = r.start; number = r.number; clauses = r.clauses; count = count; symbols = r.symbols; spoilt = r.spoilt } in
    let home = some_of r.home listed in
    let long : length whole ≡ length front + 1 = ap length w ∙ length-append front (t ∷ []) in
    let e : (position front).home ≡ Some home.0 = sym h.follows.home ∙ home.1 in
    let p = position_behind front whole t w s in
    let so_far : clause_so_far (position whole) ≡ drop r.start whole = ap clause_so_far p ∙ sentence_so_far (with_token t (position front)) home.0 e ∙ sym (sentence_behind front whole t r h w) in
    let P : List Token → Type 0 = λ c. Counted c count in
    record {
      follows = follows_behind front whole t r new h w s refl refl refl refl;
      count = subst P (sym so_far) (counted_behind front whole t r count h w listed more);
      number = λ closed. absurd (in_a_list (position whole).home home.0 (ap (λ (p : Position). p.home) p ∙ e) closed);
      sentence = ap (λ (p : Position). p.sentence) p ∙ sym (sentence_behind front whole t r h w);
      start = omega (arith, h.start);
      clauses = omega (arith, h.clauses);
      weight = omega (arith, h.weight);
      around = omega (arith, h.around);
      untold = untold;
    }

-- ---- outside the lists

pub outside_told : (front whole : List Token) (t : Token) (r : Reached) (sentence : List Token) (told : Option Place) → IsBehind front r → whole ≡ front ++ t ∷ [] → is_sign Stop t ≡ false → is_some r.home ≡ false
    → sentence ≡ drop r.start whole → told ≡ option_map (λ n. place n OutOfRange) (out_of_range sentence) → first_passed fault_at whole ≡ told
outside_told front whole t r sentence told h w s closed c k =
    let p = position front in
    let f = h.follows in
    let e : p.home ≡ None = sym f.home ∙ none_of r.home closed in
    answered front whole t (with_token t p) told h.untold w (position-token front t s)
    (k ∙ ap (λ (ts : List Token). option_map (λ n. place n OutOfRange) (out_of_range ts)) (c ∙ sentence_behind front whole t r h w)
    ∙ sym (passed_outside p.clauses (p.sentence ++ t ∷ []) (symbols_untold p.clauses None (p.sentence ++ t ∷ []) r.symbols f.symbols) f.untold)
    ∙ sym (ap (λ (o : Option Home). passed (problem_limits problem_bounds) (record { clauses = p.clauses; home = o; sentence = p.sentence ++ t ∷ [] })) e))

-- the number that the value of the item begins with
pub number_behind : (front whole : List Token) (t : Token) (r : Reached) (sentence : List Token) (number : Option ℤ) → IsBehind front r → whole ≡ front ++ t ∷ [] → is_some r.home ≡ false → sentence ≡ drop r.start whole
    → ((front : List Token) (last : Token) → sentence ≡ front ++ last ∷ [] → r.number ≡ number_of_value front → number ≡ number_of_value sentence) → number ≡ number_of_value sentence
number_behind front whole t r sentence number h w closed c k =
    k (position front).sentence t (c ∙ sentence_behind front whole t r h w) (h.number (sym h.follows.home ∙ none_of r.home closed))

pub outside_goes_on : (front whole : List Token) (t : Token) (r : Reached) (sentence : List Token) (number : Option ℤ) → IsBehind front r → whole ≡ front ++ t ∷ [] → is_sign Stop t ≡ false → is_some r.home ≡ false
    → sentence ≡ drop r.start whole → number ≡ number_of_value sentence → first_passed fault_at whole ≡ None
    → IsBehind whole (record { home = r.home; start = r.start; number = number; clauses = r.clauses; count = r.count; symbols = r.symbols; spoilt = r.spoilt })
outside_goes_on front whole t r sentence number h w s closed c n untold =
    let new : Reached = record { home = r.home; start = r.start; number = number; clauses = r.clauses; count = r.count; symbols = r.symbols; spoilt = r.spoilt } in
    let long : length whole ≡ length front + 1 = ap length w ∙ length-append front (t ∷ []) in
    let e : (position front).home ≡ None = sym h.follows.home ∙ none_of r.home closed in
    let p = position_behind front whole t w s in
    let none : (q : Position) → q.home ≡ None → clause_so_far q ≡ [] = λ q e. ap (λ (o : Option Home). elim o [ None ↦ [] | Some home ↦ q.sentence ]) e in
    let P : List Token → Type 0 = λ c. Counted c r.count in
    let here : (position whole).sentence ≡ drop r.start whole = ap (λ (p : Position). p.sentence) p ∙ sym (sentence_behind front whole t r h w) in
    record {
      follows = follows_behind front whole t r new h w s refl refl refl refl;
      count = subst P (none (position front) e ∙ sym (ap clause_so_far p ∙ none (with_token t (position front)) e)) h.count;
      number = λ closed. n ∙ ap number_of_value (c ∙ sym here);
      sentence = here;
      start = omega (arith, h.start);
      clauses = omega (arith, h.clauses);
      weight = omega (arith, h.weight);
      around = omega (arith, h.around);
      untold = untold;
    }

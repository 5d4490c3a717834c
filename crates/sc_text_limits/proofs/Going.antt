-- From what is known behind some tokens to what is known behind one more.
use Rattle.std.proofs.Common.{◌≡◌, ◌∙◌, sym, ap, subst, refl, ℕ, ◌+◌, ◌≤◌, ◌<◌, Bool, true, false, List, [], ◌∷◌, ◌++◌, length, take, drop, get_or, slice_get, length-append, arith}
use Rattle.std.specs.Prelude.{Option, Some, None, option_map, if◌then◌else◌}
use Rattle.std.proofs.lemmas.List.{take_more, drop_all, drop-append-le, length-take-le}
use Rattle.std.proofs.lemmas.Option.{slice_get-get_or}
use Rattle.sc_term.specs.declared.symbol.Symbol.{Symbol}
use Rattle.sc_input_rules.specs.declared.fault.InputKind.TheVariants.{OutOfRange}
use Rattle.sc_input_rules.specs.declared.fault.Place.{Place}
use Rattle.sc_input_rules.specs.declared.token.Token.{Token}
use Rattle.sc_input_rules.specs.declared.token.Sign.TheVariants.{Stop}
use Rattle.sc_input_rules.specs.Token.{is_sign}
use Rattle.sc_input_rules.specs.Faults.{place, passed, first_passed}
use Rattle.sc_input_limits.specs.Counted.{Counted}
use Rattle.sc_input_limits.proofs.OnePosition.{first_passed-one_more}
use Rattle.sc_text_rules.specs.TextLimits.{large_number, text_bounds, text_fault_at}
use Rattle.sc_text_limits.specs.declared.part.SentencePart.{SentencePart}
use Rattle.sc_text_limits.specs.declared.part.SentencePart.TheVariants.{Start, First, FirstOpen, RowName, Row, Step, Instance, Terms, Clause}
use Rattle.sc_text_limits.specs.declared.formula.FormulaCount.{FormulaCount}
use Rattle.sc_text_limits.specs.declared.reached.Reached.{Reached}
use Rattle.sc_text_limits.specs.Parts.{formula_in, Stands, part_with, joins, sentence_so_far}
use Rattle.sc_text_limits.specs.Formulas.{is_outer, IsKept}
use Rattle.sc_text_limits.specs.Limits.{limits_before, fault_in_formula}
use Rattle.sc_text_limits.specs.Reached.{IsWithin, IsBehind}
use Rattle.sc_text_limits.proofs.OneToken.{stands_with}
use Rattle.sc_text_limits.proofs.Sentences.{sentence-stop, sentence-other, at_last, fault-last}
use Rattle.sc_text_limits.proofs.Faults.{or_else, limits_behind, both_parts, behind_last, is_row_name, before_number}

-- ---- one token more

abbrev kept_by : Bool → List Token → List Token
kept_by b tokens = if b then tokens else []

stands_by : (sentence formula : List Token) (p : SentencePart) (t : Token) (b : Bool) → Stands sentence p formula → joins p (is_outer formula) t ≡ b → Stands (sentence ++ t ∷ []) (part_with t p) (kept_by b (formula ++ t ∷ []))
stands_by sentence formula p t b h e =
    let P : Bool → Type 0 = λ b. Stands (sentence ++ t ∷ []) (part_with t p) (kept_by b (formula ++ t ∷ [])) in subst P e (stands_with sentence formula p t h)

-- the token joins the formula
pub joined : (tokens front sentence : List Token) (n : ℕ) (t : Token) (r : Reached) (p : SentencePart) (g : FormulaCount) → slice_get tokens n ≡ Some t → IsWithin tokens front sentence r
    → p ≡ part_with t r.part → joins r.part (is_outer (drop r.formula.start front)) t ≡ true
    → ((tokens formula : List Token) → slice_get tokens n ≡ Some t → IsKept tokens formula r.formula → IsKept tokens (formula ++ t ∷ []) g)
    → g.start ≡ r.formula.start → g.count.weight ≤ r.formula.count.weight + 1 → g.count.literal.atom.around ≤ r.formula.count.literal.atom.around + 1
    → IsWithin tokens (front ++ t ∷ []) (sentence ++ t ∷ []) (record { part = p; formula = g })
joined tokens front sentence n t r p g at h part joins_it kept start weight around =
    let f = drop r.formula.start front in
    let long : length (front ++ t ∷ []) ≡ length front + 1 = length-append front (t ∷ []) in
    let whole : drop g.start (front ++ t ∷ []) ≡ f ++ t ∷ [] = ap (λ (k : ℕ). drop k (front ++ t ∷ [])) start ∙ drop-append-le r.formula.start front (t ∷ []) h.start in
    let P : List Token → Type 0 = λ f. Stands (sentence ++ t ∷ []) (part_with t r.part) f in
    let Q : SentencePart → Type 0 = λ p. Stands (sentence ++ t ∷ []) p (drop g.start (front ++ t ∷ [])) in
    let R : List Token → Type 0 = λ f. IsKept tokens f g in
    record {
      stands = subst Q (sym part) (subst P (sym whole) (stands_by sentence f r.part t true h.stands joins_it));
      kept = subst R (sym whole) (kept tokens f at h.kept);
      start = omega (arith, h.start);
      weight = omega (arith, h.weight);
      around = omega (arith, h.around);
    }

-- a formula begins behind the token, or none has begun
pub begins_anew : (tokens front sentence : List Token) (n : ℕ) (t : Token) (r : Reached) (p : SentencePart) (g : FormulaCount) → n ≡ length front → IsWithin tokens front sentence r
    → p ≡ part_with t r.part → joins r.part (is_outer (drop r.formula.start front)) t ≡ false
    → IsKept tokens [] g → g.start ≡ n + 1 → g.count.weight ≡ 0 → g.count.literal.atom.around ≡ 0
    → IsWithin tokens (front ++ t ∷ []) (sentence ++ t ∷ []) (record { part = p; formula = g })
begins_anew tokens front sentence n t r p g at h part parts kept start weight around =
    let f = drop r.formula.start front in
    let long : length (front ++ t ∷ []) ≡ length front + 1 = length-append front (t ∷ []) in
    let none : drop g.start (front ++ t ∷ []) ≡ [] = drop_all g.start (front ++ t ∷ []) (omega arith) in
    let P : List Token → Type 0 = λ f. Stands (sentence ++ t ∷ []) (part_with t r.part) f in
    let Q : SentencePart → Type 0 = λ p. Stands (sentence ++ t ∷ []) p (drop g.start (front ++ t ∷ [])) in
    let R : List Token → Type 0 = λ f. IsKept tokens f g in
    record {
      stands = subst Q (sym part) (subst P (sym none) (stands_by sentence f r.part t false h.stands parts));
      kept = subst R (sym none) kept;
      start = omega arith;
      weight = omega arith;
      around = omega arith;
    }

-- ---- at the start of a sentence

at_start : Stands [] Start []
at_start = record { part = refl; so_far = refl; none = λ e. refl }

pub starts_within : (tokens front : List Token) (g : FormulaCount) → IsKept tokens [] g → g.start ≡ length front → g.count.weight ≡ 0 → g.count.literal.atom.around ≡ 0 → IsWithin tokens front [] (record { part = Start; formula = g })
starts_within tokens front g kept start weight around =
    let none : drop g.start front ≡ [] = drop_all g.start front (omega arith) in
    let P : List Token → Type 0 = λ f. Stands [] Start f in
    let R : List Token → Type 0 = λ f. IsKept tokens f g in
    record {
      stands = subst P (sym none) at_start;
      kept = subst R (sym none) kept;
      start = omega arith;
      weight = omega arith;
      around = omega arith;
    }

-- ---- what is told before

-- a part with no formula, other than the name of a row
record HasNumbers (p : SentencePart) (formula : List Token) : Type 0 where
  pub none : formula_in p formula ≡ None
  pub numbers : is_row_name p ≡ false

has_numbers : (p : SentencePart) (formula : List Token) → (p ≡ RowName → ⊥) → (p ≡ Terms → ⊥) → (p ≡ Clause → ⊥) → HasNumbers p formula
has_numbers Start formula a b c = record { none = refl; numbers = refl }
has_numbers First formula a b c = record { none = refl; numbers = refl }
has_numbers FirstOpen formula a b c = record { none = refl; numbers = refl }
has_numbers RowName formula a b c = absurd (a refl)
has_numbers Row formula a b c = record { none = refl; numbers = refl }
has_numbers Step formula a b c = record { none = refl; numbers = refl }
has_numbers Instance formula a b c = record { none = refl; numbers = refl }
has_numbers Terms formula a b c = absurd (b refl)
has_numbers Clause formula a b c = absurd (c refl)

pub number_before : (symbols : List Symbol) (sentence formula : List Token) (p : SentencePart) (t : Token) → Stands sentence p formula → (p ≡ RowName → ⊥) → (p ≡ Terms → ⊥) → (p ≡ Clause → ⊥)
    → option_map (λ n. place n OutOfRange) (large_number t) ≡ passed (limits_before symbols) (at_last sentence t)
number_before symbols sentence formula p t h a b c =
    let has = has_numbers p formula a b c in
    sym (before_number symbols sentence formula p t h has.none ∙ ap (λ (row : Bool). if row then None else option_map (λ n. place n OutOfRange) (large_number t)) has.numbers)

pub row_name_before : (symbols : List Symbol) (sentence formula : List Token) (p : SentencePart) (t : Token) → Stands sentence p formula → p ≡ RowName → None ≡ passed (limits_before symbols) (at_last sentence t)
row_name_before symbols sentence formula p t h e =
    sym (before_number symbols sentence formula p t h (ap (λ (p : SentencePart). formula_in p formula) e) ∙ ap (λ (p : SentencePart). if is_row_name p then None else option_map (λ n. place n OutOfRange) (large_number t)) e)

-- ---- the step

pub one_taken : (tokens : List Token) (at : ℕ) (t : Token) → at < length tokens → t ≡ get_or tokens at t → take (at + 1) tokens ≡ take at tokens ++ t ∷ []
one_taken tokens at t lt e = take_more tokens at t lt ∙ ap (λ (u : Token). take at tokens ++ u ∷ []) (sym e)

abbrev fault_at : List Symbol → List Token → Option Place
fault_at symbols = text_fault_at text_bounds symbols

-- what the token passes, where those before it pass nothing
answered : (symbols : List Symbol) (front whole : List Token) (t : Token) (before behind : Option Place) → first_passed (fault_at symbols) front ≡ None → whole ≡ front ++ t ∷ []
    → before ≡ passed (limits_before symbols) (at_last (sentence_so_far front) t) → behind ≡ passed limits_behind (at_last (sentence_so_far front) t) → first_passed (fault_at symbols) whole ≡ or_else before behind
answered symbols front whole t before behind untold w e f =
    ap (first_passed (fault_at symbols)) w ∙ first_passed-one_more (fault_at symbols) front t untold ∙ fault-last symbols front t ∙ both_parts symbols (at_last (sentence_so_far front) t)
    ∙ sym (ap (λ (o : Option Place). or_else o behind) e ∙ ap (or_else (passed (limits_before symbols) (at_last (sentence_so_far front) t))) f)

-- the token is taken in
pub taken_in : (symbols : List Symbol) (tokens : List Token) (n : ℕ) (t : Token) (r new : Reached) → n < length tokens → t ≡ get_or tokens n t → IsBehind symbols tokens n r
    → ((tokens front sentence : List Token) → n ≡ length front → slice_get tokens n ≡ Some t → IsWithin tokens front sentence r → IsWithin tokens (front ++ t ∷ []) (sentence ++ t ∷ []) new)
    → IsWithin tokens (take n tokens ++ t ∷ []) (sentence_so_far (take n tokens) ++ t ∷ []) new
taken_in symbols tokens n t r new lt e h more =
    more tokens (take n tokens) (sentence_so_far (take n tokens)) (sym (length-take-le n tokens (omega arith))) (slice_get-get_or tokens n t lt ∙ ap Some (sym e)) h.within

pub starts_before : (tokens sentence : List Token) (n : ℕ) (t : Token) (r : Reached) → n < length tokens → IsWithin tokens (take n tokens ++ t ∷ []) sentence r → r.formula.start ≤ n + 1
starts_before tokens sentence n t r lt h = omega (arith, h.start, length-append (take n tokens) (t ∷ []), length-take-le n tokens (omega arith))

-- a limit is passed before the token is taken in
pub told_before : (symbols : List Symbol) (tokens whole : List Token) (n : ℕ) (t : Token) (r : Reached) (told : Option Place) (p : Place) → IsBehind symbols tokens n r → whole ≡ take n tokens ++ t ∷ []
    → told ≡ passed (limits_before symbols) (at_last (sentence_so_far (take n tokens)) t) → told ≡ Some p → first_passed (fault_at symbols) whole ≡ Some p
told_before symbols tokens whole n t r told p h w e some =
    answered symbols (take n tokens) whole t told (passed limits_behind (at_last (sentence_so_far (take n tokens)) t)) h.untold w e refl ∙ ap (λ (o : Option Place). or_else o (passed limits_behind (at_last (sentence_so_far (take n tokens)) t))) some

-- none is, and what is told is told of the formula
pub told_behind : (symbols : List Symbol) (tokens whole : List Token) (n : ℕ) (t : Token) (r new : Reached) (formula : List Token) (before behind : Option Place) → IsBehind symbols tokens n r → whole ≡ take n tokens ++ t ∷ []
    → before ≡ passed (limits_before symbols) (at_last (sentence_so_far (take n tokens)) t) → before ≡ None
    → IsWithin tokens (take n tokens ++ t ∷ []) (sentence_so_far (take n tokens) ++ t ∷ []) new → formula ≡ drop new.formula.start whole → (Counted formula new.formula.count → behind ≡ fault_in_formula formula)
    → first_passed (fault_at symbols) whole ≡ behind
told_behind symbols tokens whole n t r new formula before behind h w e none within f k =
    let front = take n tokens in
    let g : formula ≡ drop new.formula.start (front ++ t ∷ []) = f ∙ ap (drop new.formula.start) w in
    let P : List Token → Type 0 = λ f. Counted f new.formula.count in
    answered symbols front whole t before behind h.untold w e
    (k (subst P (sym g) within.kept.count) ∙ ap fault_in_formula g ∙ sym (behind_last (sentence_so_far front) (drop new.formula.start (front ++ t ∷ [])) t new.part within.stands))
    ∙ ap (λ (o : Option Place). or_else o behind) none

-- behind a token that is no full stop
pub goes_on : (symbols : List Symbol) (tokens : List Token) (n : ℕ) (t : Token) (new : Reached) → take (n + 1) tokens ≡ take n tokens ++ t ∷ [] → is_sign Stop t ≡ false
    → IsWithin tokens (take n tokens ++ t ∷ []) (sentence_so_far (take n tokens) ++ t ∷ []) new → first_passed (fault_at symbols) (take (n + 1) tokens) ≡ None → IsBehind symbols tokens (n + 1) new
goes_on symbols tokens n t new w other within untold =
    let front = take n tokens in
    let P : List Token → Type 0 = λ s. IsWithin tokens (front ++ t ∷ []) s new in
    let Q : List Token → Type 0 = λ ts. IsWithin tokens ts (sentence_so_far ts) new in
    record { within = subst Q (sym w) (subst P (sym (sentence-other front t other)) within); untold = untold }

-- behind a full stop
pub starts_anew : (symbols : List Symbol) (tokens : List Token) (n : ℕ) (t : Token) (g : FormulaCount) → n < length tokens → take (n + 1) tokens ≡ take n tokens ++ t ∷ [] → is_sign Stop t ≡ true
    → IsKept tokens [] g → g.start ≡ n + 1 → g.count.weight ≡ 0 → g.count.literal.atom.around ≡ 0 → first_passed (fault_at symbols) (take (n + 1) tokens) ≡ None
    → IsBehind symbols tokens (n + 1) (record { part = Start; formula = g })
starts_anew symbols tokens n t g lt w stop kept start weight around untold =
    let front = take n tokens in
    let long : length (take (n + 1) tokens) ≡ n + 1 = length-take-le (n + 1) tokens (omega arith) in
    let P : List Token → Type 0 = λ s. IsWithin tokens (take (n + 1) tokens) s (record { part = Start; formula = g }) in
    record {
      within = subst P (sym (ap sentence_so_far w ∙ sentence-stop front t stop)) (starts_within tokens (take (n + 1) tokens) g kept (start ∙ sym long) weight around);
      untold = untold;
    }

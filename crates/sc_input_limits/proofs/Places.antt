-- Which limit is passed at a position, by where it stands.
use Rattle.std.proofs.Common.{◌≡◌, ◌∙◌, sym, ap, subst, refl, ℕ, ◌+◌, ◌≤◌, Bool, true, false, not, ◌||◌, List, [], ◌∷◌, ◌++◌, length, map, ◌&&◌, arith}
use Rattle.std.specs.Prelude.{Option, Some, None, option_map, option_and_then, is_some, find, cond, flat_map, nat_le, if◌then◌else◌}
use Rattle.std.proofs.lemmas.List.{append-nil, map-append, length-map, length_push}
use Rattle.std.proofs.lemmas.Option.{slice_get_past}
use Rattle.std.proofs.lemmas.Grind.{flat_map-append}
use Rattle.sc_term.specs.Symbol.{equality}
use Rattle.sc_input_rules.specs.declared.fault.InputKind.TheVariants.{OutOfRange, TooMany, TooHeavy, TooDeep, BadDemodulator}
use Rattle.sc_input_rules.specs.declared.fault.Place.{Place}
use Rattle.sc_input_rules.specs.declared.settings.Home.{Home}
use Rattle.sc_input_rules.specs.declared.token.Token.{Token}
use Rattle.sc_input_rules.specs.Syntax.{WrittenClause}
use Rattle.sc_input_rules.specs.Position.{Position, closes}
use Rattle.sc_input_rules.specs.Numbering.{Found, found_in, once}
use Rattle.sc_input_rules.specs.Faults.{place, passed}
use Rattle.sc_input_rules.specs.ClauseLimits.{when, first_at, arity_told, weight_told, depth_told}
use Rattle.sc_input_rules.specs.ProblemLimits.{out_of_range, written, is_bad_demodulator, symbols_told, demodulators_told, problem_bounds, problem_limits}
use Rattle.sc_input_limits.specs.declared.reached.Reached.{Reached}
use Rattle.sc_input_limits.specs.declared.symbols.WrittenSymbol.{WrittenSymbol}
use Rattle.sc_input_limits.specs.Symbols.{as_written, same_found, Keeps, one_too_many, FindsMore}
use Rattle.sc_input_limits.specs.Positions.{next_home, clause_ended, behind_stop, behind_clause}
use Rattle.sc_input_limits.specs.Limits.{clauses_told_behind, fault_in_clause}
use Rattle.sc_input_limits.specs.Reached.{found_so_far, Follows, Reaches}

abbrev Clauses : Type 0
Clauses = List (Home × List Token)

abbrev position_of : Clauses → Option Home → List Token → Position
position_of clauses home sentence = record { clauses = clauses; home = home; sentence = sentence }

-- ---- where no limit on whole clauses is passed

abbrev told_of_clauses : Position → Option Place
told_of_clauses p =
    elim (symbols_told problem_bounds p) [
      | Some at ↦ Some (place at TooMany)
      | None ↦ elim (demodulators_told p) [ Some at ↦ Some (place at BadDemodulator) | None ↦ None ]
    ]

none_of_clauses : (p : Position) → symbols_told problem_bounds p ≡ None → demodulators_told p ≡ None → told_of_clauses p ≡ None
none_of_clauses p e f =
    ap (λ (o : Option ℕ). elim o [ Some at ↦ Some (place at TooMany) | None ↦ elim (demodulators_told p) [ Some at ↦ Some (place at BadDemodulator) | None ↦ None ] ]) e
    ∙ ap (λ (o : Option ℕ). elim o [ Some at ↦ Some (place at BadDemodulator) | None ↦ None ]) f

pub passed_in_clause : (clauses : Clauses) (home : Home) (sentence : List Token) → symbols_told problem_bounds (position_of clauses (Some home) sentence) ≡ None → demodulators_told (position_of clauses (Some home) sentence) ≡ None
    → passed (problem_limits problem_bounds) (position_of clauses (Some home) sentence) ≡ fault_in_clause (length clauses) sentence
passed_in_clause clauses home sentence e f =
    ap (λ (rest : Option Place). elim (arity_told problem_bounds sentence) [
      | Some at ↦ Some (place at TooMany)
      | None ↦ elim (clauses_told_behind (length clauses) sentence) [
        | Some at ↦ Some (place at TooMany)
        | None ↦ elim (weight_told problem_bounds sentence) [
          | Some at ↦ Some (place at TooHeavy)
          | None ↦ elim (depth_told problem_bounds sentence) [ Some at ↦ Some (place at TooDeep) | None ↦ rest ]
        ]
      ]
    ]) (none_of_clauses (position_of clauses (Some home) sentence) e f)

when-none : (b : Bool) → when {X = ℕ} b None ≡ None
when-none true = refl
when-none false = refl

-- with no clause so far, no limit on it is passed
without_clause : (clauses : Clauses) (rest : Option Place) →
    elim (when {X = ℕ} (nat_le 10000 (length clauses) && not false) None) [ Some at ↦ Some (place at TooMany) | None ↦ rest ] ≡ rest
without_clause clauses rest = ap (λ (o : Option ℕ). elim o [ Some at ↦ Some (place at TooMany) | None ↦ rest ]) (when-none (nat_le 10000 (length clauses) && not false))

pub passed_outside : (clauses : Clauses) (sentence : List Token) → symbols_told problem_bounds (position_of clauses None sentence) ≡ None → demodulators_told (position_of clauses None sentence) ≡ None
    → passed (problem_limits problem_bounds) (position_of clauses None sentence) ≡ option_map (λ at. place at OutOfRange) (out_of_range sentence)
passed_outside clauses sentence e f =
    ap (λ (rest : Option Place). elim (out_of_range sentence) [ Some at ↦ Some (place at OutOfRange) | None ↦ rest ])
    (without_clause clauses (told_of_clauses (position_of clauses None sentence)) ∙ none_of_clauses (position_of clauses None sentence) e f)
    ∙ mapped (out_of_range sentence)
  where
    mapped : (o : Option ℕ) → elim o [ Some at ↦ Some (place at OutOfRange) | None ↦ None ] ≡ option_map (λ at. place at OutOfRange) o
    mapped None = refl
    mapped (Some at) = refl

pub passed_at_start : (clauses : Clauses) (home : Option Home) → passed (problem_limits problem_bounds) (position_of clauses home []) ≡ told_of_clauses (position_of clauses home [])
passed_at_start clauses None = without_clause clauses (told_of_clauses (position_of clauses None []))
passed_at_start clauses (Some home) = without_clause clauses (told_of_clauses (position_of clauses (Some home) []))

-- ---- symbols of whole clauses

pub symbols_untold : (clauses : Clauses) (home : Option Home) (sentence : List Token) (kept : List WrittenSymbol) → Keeps (found_so_far clauses) kept → symbols_told problem_bounds (position_of clauses home sentence) ≡ None
symbols_untold clauses home sentence kept h =
    let found = found_so_far clauses in
    let few : length (once same_found [] found) ≤ 4096 = omega (arith, h.few, ap length h.once_each, length-map (once same_found [] found) (λ f. as_written f.symbol)) in
    ap (option_map (λ f. f.at)) (slice_get_past (once same_found [] found) 4096 few)

found-one_more : (clauses : Clauses) (home : Home) (s : List Token) → found_so_far (clauses ++ (home, s) ∷ []) ≡ found_so_far clauses ++ flat_map found_in (written s)
found-one_more clauses home s =
    let start : Found = record { symbol = equality; at = 0 } in
    ap (λ (cs : List WrittenClause). start ∷ flat_map (λ c. flat_map found_in c) cs) (map-append (λ (c : Home × List Token). written c.1) clauses ((home, s) ∷ []))
    ∙ ap (λ (fs : List Found). start ∷ fs) (flat_map-append (λ c. flat_map found_in c) (map (λ (c : Home × List Token). written c.1) clauses) (written s ∷ []))
    ∙ ap (λ (fs : List Found). start ∷ (flat_map (λ c. flat_map found_in c) (map (λ (c : Home × List Token). written c.1) clauses) ++ fs)) (append-nil (flat_map found_in (written s)))

-- ---- demodulators

abbrev or_this : {X : Type 0} → Option X → Bool → X → Option X
or_this o b x = elim o [ Some y ↦ Some y | None ↦ cond b (Some x) None ]

find-one_more : {X : Type 0} (p : X → Bool) (xs : List X) (x : X) → find p (xs ++ x ∷ []) ≡ or_this (find p xs) (p x) x
find-one_more p [] x = refl
find-one_more p (y ∷ ys) x = by (p y) (find-one_more p ys x)
  where
    by : (b : Bool) → find p (ys ++ x ∷ []) ≡ or_this (find p ys) (p x) x → cond b (Some y) (find p (ys ++ x ∷ [])) ≡ or_this (cond b (Some y) (find p ys)) (p x) x
    by true e = refl
    by false e = e

bad-one_more : {X : Type 0} (o : Option X) (b : Bool) (x : X) → is_some (or_this o b x) ≡ (is_some o || b)
bad-one_more (Some y) b x = refl
bad-one_more None true x = refl
bad-one_more None false x = refl

told-one_more : {X : Type 0} (f : X → Option ℕ) (o : Option X) (b : Bool) (x : X) → option_and_then f o ≡ None → option_and_then f (or_this o b x) ≡ (if is_some o then None else if b then f x else None)
told-one_more f (Some y) b x e = e
told-one_more f None true x e = refl
told-one_more f None false x e = refl

-- ---- a whole clause more

abbrev ended_by : Bool → Home → List Token → Clauses
ended_by b home s = elim b [ true ↦ [] | false ↦ (home, s) ∷ [] ]

abbrev next_by : Bool → Home → Option Home
next_by b home = if b then None else Some home

pub stop_behind_clause : (p : Position) (home : Home) (s : List Token) → p.home ≡ Some home → p.sentence ≡ s → closes s ≡ false → behind_stop p ≡ behind_clause p home s
stop_behind_clause p home s e f n =
    ap (λ (h : Option Home). position_of (p.clauses ++ clause_ended h p.sentence) (next_home h p.sentence) []) e
    ∙ ap (λ (s : List Token). position_of (p.clauses ++ clause_ended (Some home) s) (next_home (Some home) s) []) f
    ∙ ap (λ (b : Bool). position_of (p.clauses ++ ended_by b home s) (next_by b home) []) n

pub symbol_refused : (p : Position) (r : Reached) (home : Home) (s : List Token) (new : Reached) (symbols : List WrittenSymbol) (at : ℕ) → Follows p r → FindsMore (flat_map found_in (written s)) r.symbols symbols (Some at)
    → Reaches (behind_clause p home s) new (Some (place at TooMany))
symbol_refused p r home s new symbols at h k =
    let clauses = p.clauses ++ (home, s) ∷ [] in
    let e : symbols_told problem_bounds (behind_clause p home s) ≡ Some at = ap one_too_many (found-one_more p.clauses home s) ∙ k (found_so_far p.clauses) h.symbols in
    record {
      told = sym (passed_at_start clauses (Some home)
          ∙ ap (λ (o : Option ℕ). elim o [ Some at ↦ Some (place at TooMany) | None ↦ elim (demodulators_told (behind_clause p home s)) [ Some at ↦ Some (place at BadDemodulator) | None ↦ None ] ]) e);
      follows = λ e. absurd cc;
    }

pub clause_kept : (p : Position) (r : Reached) (home : Home) (s : List Token) (new : Reached) (bad : Bool) (at : Option ℕ) → Follows p r → p.home ≡ Some home
    → FindsMore (flat_map found_in (written s)) r.symbols new.symbols None → bad ≡ is_bad_demodulator (home, s) → at ≡ (if r.spoilt then None else if bad then first_at s else None)
    → new.home ≡ r.home → new.clauses ≡ r.clauses + 1 → new.spoilt ≡ (r.spoilt || bad)
    → Reaches (behind_clause p home s) new (option_map (λ n. place n BadDemodulator) at)
clause_kept p r home s new bad at h e k b t same_home more spoilt =
    let clauses = p.clauses ++ (home, s) ∷ [] in
    let o = find is_bad_demodulator p.clauses in
    let P : List Found → Type 0 = λ fs. Keeps fs new.symbols in
    let symbols : Keeps (found_so_far clauses) new.symbols = subst P (sym (found-one_more p.clauses home s)) (k (found_so_far p.clauses) h.symbols) in
    let found : find is_bad_demodulator clauses ≡ or_this o (is_bad_demodulator (home, s)) (home, s) = find-one_more is_bad_demodulator p.clauses (home, s) in
    let told : demodulators_told (behind_clause p home s) ≡ at =
    ap (option_and_then (λ (c : Home × List Token). first_at c.1)) found
    ∙ told-one_more (λ (c : Home × List Token). first_at c.1) o (is_bad_demodulator (home, s)) (home, s) h.untold
    ∙ ap (λ (b : Bool). if is_some o then None else if b then first_at s else None) (sym b)
    ∙ ap (λ (a : Bool). if a then None else if bad then first_at s else None) (sym h.spoilt) ∙ sym t in
    record {
      told = sym (passed_at_start clauses (Some home)
          ∙ ap (λ (o : Option ℕ). elim o [ Some at ↦ Some (place at TooMany) | None ↦ elim (demodulators_told (behind_clause p home s)) [ Some at ↦ Some (place at BadDemodulator) | None ↦ None ] ]) (symbols_untold clauses (Some home) [] new.symbols symbols)
          ∙ mapped (demodulators_told (behind_clause p home s)) ∙ ap (option_map (λ n. place n BadDemodulator)) told);
      follows = λ none. record {
        home = same_home ∙ h.home ∙ e;
        clauses = more ∙ ap (λ (n : ℕ). n + 1) h.clauses ∙ sym (length_push p.clauses (home, s));
        symbols = symbols;
        spoilt = spoilt ∙ ap (λ (a : Bool). a || bad) h.spoilt ∙ ap (λ (b : Bool). is_some o || b) b ∙ sym (ap is_some found ∙ bad-one_more o (is_bad_demodulator (home, s)) (home, s));
        untold = told ∙ nothing at none;
      };
    }
  where
    mapped : (o : Option ℕ) → elim o [ Some at ↦ Some (place at BadDemodulator) | None ↦ None ] ≡ option_map (λ at. place at BadDemodulator) o
    mapped None = refl
    mapped (Some at) = refl

    nothing : (o : Option ℕ) → option_map (λ n. place n BadDemodulator) o ≡ None → o ≡ None
    nothing None e = refl
    nothing (Some at) e = absurd cc

-- ---- no clause more

pub nothing_ended : (p : Position) (r new : Reached) → Follows p r → clause_ended p.home p.sentence ≡ [] → new.home ≡ next_home p.home p.sentence → new.clauses ≡ r.clauses → new.symbols ≡ r.symbols → new.spoilt ≡ r.spoilt
    → Reaches (behind_stop p) new None
nothing_ended p r new h none home clauses symbols spoilt =
    let same : p.clauses ++ clause_ended p.home p.sentence ≡ p.clauses = ap (λ (cs : Clauses). p.clauses ++ cs) none ∙ append-nil p.clauses in
    let P : Clauses → Type 0 = λ cs. Keeps (found_so_far cs) new.symbols in
    let Q : List WrittenSymbol → Type 0 = λ ks. Keeps (found_so_far p.clauses) ks in
    let kept : Keeps (found_so_far (behind_stop p).clauses) new.symbols = subst P (sym same) (subst Q (sym symbols) h.symbols) in
    let untold : demodulators_told (behind_stop p) ≡ None = ap (λ (cs : Clauses). option_and_then (λ (c : Home × List Token). first_at c.1) (find is_bad_demodulator cs)) same ∙ h.untold in
    record {
      told = sym (passed_at_start (behind_stop p).clauses (behind_stop p).home ∙ none_of_clauses (behind_stop p) (symbols_untold (behind_stop p).clauses (behind_stop p).home [] new.symbols kept) untold);
      follows = λ e. record {
        home = home;
        clauses = clauses ∙ h.clauses ∙ ap length (sym same);
        symbols = kept;
        spoilt = spoilt ∙ h.spoilt ∙ ap (λ (cs : Clauses). is_some (find is_bad_demodulator cs)) (sym same);
        untold = untold;
      };
    }

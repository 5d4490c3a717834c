-- Names by a signature, whose symbols have 8 arguments at most.
use Rattle.std.proofs.Common.{◌≡◌, ◌≢◌, ◌∙◌, sym, ap, subst, refl, ℕ, zero, suc, ◌<◌, ◌≤◌, ◌⊎◌, inl, inr, min, Bool, true, false, not, ◌&&◌, ◌||◌, List, [], ◌∷◌, slice_get, arith}
use Rattle.std.specs.Prelude.{Option, Some, None, is_some, IfSome, IfNone, ◌==◌, if◌then◌else◌}
use Rattle.std.specs.List.{AllByRecursion}
use Rattle.std.proofs.lemmas.Bool.{eqb-true, cases_lt}
use Rattle.sc_term.specs.declared.SymId.{SymId}
use Rattle.sc_term.specs.declared.symbol.Role.TheVariants.{Function, Predicate}
use Rattle.sc_term.specs.declared.symbol.Symbol.{Symbol}
use Rattle.sc_term.specs.Symbol.{same_symbol, IsSignature}
use Rattle.sc_term.proofs.SymbolLaws.{equal_symbols, same_as_itself}
use Rattle.sc_input_rules.specs.declared.fault.InputKind.TheVariants.{UnknownName, OutOfRange}
use Rattle.sc_input_rules.specs.declared.fault.Place.{Place}
use Rattle.sc_input_rules.specs.Faults.{place}
use Rattle.sc_input_rules.specs.declared.written.Occurrence.{Occurrence}
use Rattle.sc_text_rules.specs.TextWords.{is_symbol, is_numbered_variable, is_large_variable}
use Rattle.sc_text_rules.specs.TextLimits.{is_unknown}
use Rattle.sc_text_limits.specs.Names.{symbol_in, low_arity, begins_variable}
use Rattle.sc_text_limits.specs.Limits.{fault_of_name}

absent : (symbols : List Symbol) (s : Symbol) → ((i : ℕ) → slice_get symbols i ≢ Some s) → is_symbol symbols s ≡ false
absent [] s nowhere = refl
absent (x ∷ xs) s nowhere = by (same_symbol s x) refl (absent xs s (λ i. nowhere (suc i)))
  where
    by : (b : Bool) → same_symbol s x ≡ b → is_symbol xs s ≡ false → (b || is_symbol xs s) ≡ false
    by true e h = absurd (nowhere 0 (ap Some (sym (equal_symbols s x e))))
    by false e h = h

present : (symbols : List Symbol) (s : Symbol) (i : ℕ) → slice_get symbols i ≡ Some s → is_symbol symbols s ≡ true
present [] s i at = absurd cc
present (x ∷ xs) s zero at = let e : x ≡ s = cc in ap (λ (b : Bool). b || is_symbol xs s) (ap (same_symbol s) e ∙ same_as_itself s)
present (x ∷ xs) s (suc i) at = by (same_symbol s x) (present xs s i at)
  where
    by : (b : Bool) → is_symbol xs s ≡ true → (b || is_symbol xs s) ≡ true
    by true h = refl
    by false h = h

pub looked_up : (symbols : List Symbol) (s t : Symbol) (found : Option SymId) → s ≡ t → IfSome found (λ id. slice_get symbols id.0 ≡ Some s) → IfNone found ((i : ℕ) → slice_get symbols i ≢ Some s)
    → is_some found ≡ is_symbol symbols t
looked_up symbols s t None e some none = sym (absent symbols s none) ∙ ap (is_symbol symbols) e
looked_up symbols s t (Some id) e some none = sym (present symbols s id.0 some) ∙ ap (is_symbol symbols) e

small_at : (symbols : List Symbol) (s : Symbol) (i : ℕ) → AllByRecursion (λ (x : Symbol). x.arity ≤ 8) symbols → slice_get symbols i ≡ Some s → s.arity ≤ 8
small_at [] s i small at = cc
small_at (x ∷ xs) s zero small at = let e : x ≡ s = cc in subst (λ (y : Symbol). y.arity ≤ 8) e small.0
small_at (x ∷ xs) s (suc i) small at = small_at xs s i small.1 at

-- no symbol of a signature has more than 8 arguments
pub over : (symbols : List Symbol) (s : Symbol) → IsSignature symbols → 8 < s.arity → is_symbol symbols s ≡ false
over symbols s is many = absent symbols s (λ i at. absurd (let small = small_at symbols s i is.arities at in omega arith))

-- ---- names whose arguments are counted up to 9

not_zero : (n : ℕ) → 0 < n → (n == 0) ≡ false
not_zero n h = by (n == 0) refl
  where
    by : (b : Bool) → (n == 0) ≡ b → b ≡ false
    by true e = absurd (let z = eqb-true n 0 e in omega arith)
    by false e = refl

unknown_many : (symbols : List Symbol) (in_term : Bool) (o : Occurrence) → IsSignature symbols → 8 < o.arity → is_unknown symbols in_term o ≡ true
unknown_many symbols true o is many =
    ap (λ (b : Bool). if b && begins_variable o.name then not (is_numbered_variable o) else not (is_symbol symbols (symbol_in Function o))) (not_zero o.arity (omega arith))
    ∙ ap not (over symbols (symbol_in Function o) is many)
unknown_many symbols false o is many = ap not (over symbols (symbol_in Predicate o) is many)

abbrev chosen : Bool → Bool → Occurrence → Option Place
chosen in_term unknown o = if unknown then Some (place o.at UnknownName) else if in_term && is_large_variable o then Some (place o.at OutOfRange) else None

-- what is told of a name with its arguments counted up to 9 is told of the name
pub fault_low : (symbols : List Symbol) (in_term : Bool) (o : Occurrence) → IsSignature symbols → fault_of_name symbols in_term (low_arity o) ≡ fault_of_name symbols in_term o
fault_low symbols in_term o is = by (cases_lt 8 o.arity)
  where
    by : ((8 < o.arity) ⊎ (o.arity ≤ 8)) → fault_of_name symbols in_term (low_arity o) ≡ fault_of_name symbols in_term o
    by (inl many) = ap (λ (b : Bool). chosen in_term b (low_arity o)) (unknown_many symbols in_term (low_arity o) is (omega arith)) ∙ sym (ap (λ (b : Bool). chosen in_term b o) (unknown_many symbols in_term o is many))
    by (inr few) = let e : min o.arity 9 ≡ o.arity = omega arith in ap (fault_of_name symbols in_term) (λ j. record { at = o.at; name = o.name; arity = e j })

-- Every processing keeps a book sound.
use Rattle.std.proofs.Common.{◌≡◌, ◌∙◌, sym, subst, refl, ℕ, ◌<◌, ◌⊎◌, inl, inr, List, [], ◌∷◌, length, Bool, true, false, arith, nat_eq, cond}
use Rattle.std.specs.List.{Contains, filter}
use Rattle.std.proofs.lemmas.Bool.{eqb-true, eqb-false}
use Rattle.std.proofs.lemmas.List.Sums.{length-filter}
use Rattle.sc_term.specs.declared.Clause.{Clause}
use Rattle.sc_term.specs.declared.Line.{Line}
use Rattle.sc_term.specs.Term.{term_variables}
use Rattle.sc_input_rules.specs.Problem.{Stated}
use Rattle.sc_term.specs.declared.Numbered.{Numbered}
use Rattle.sc_core_rules.specs.declared.fate.Processed.{Processed}
use Rattle.sc_core_rules.specs.Order.{Where}
use Rattle.sc_core_rules.specs.Rewriting.{IsDemodulator, BecomesDemodulator}
use Rattle.sc_core_rules.specs.Book.{Book, IsSound, next_number, with_deleted}
use Rattle.sc_core_rules.specs.Processing.{with_kept, Keeps, Sweeps, MeetsFate, Processes}
use Rattle.sc_term.proofs.ContainsLaws.{first_or_later}
use Rattle.sc_core_rules.proofs.ProcessLaws.{Becomes}
use Rattle.sc_core_rules.proofs.SoundLaws.{StandsIn, derived_sound, kept_sound, kept_stands, deleted_sound, demodulator_sound, filter_sub}

-- ---- what becomes a demodulator is one

some_left : (v : ℕ) (ns : List ℕ) → Contains ns v → 0 < length (filter (nat_eq v) ns)
some_left v [] h = absurd (omega (arith, h.1))
some_left v (n ∷ ns) h = by (nat_eq v n) refl (λ k. some_left v ns k) (first_or_later v n ns h)
  where
    by : (b : Bool) → nat_eq v n ≡ b → (Contains ns v → 0 < length (filter (nat_eq v) ns)) → (n ≡ v) ⊎ Contains ns v → 0 < length (cond b (n ∷ filter (nat_eq v) ns) (filter (nat_eq v) ns))
    by true e below k = omega arith
    by false e below (inl f) = absurd (eqb-false v n e (sym f))
    by false e below (inr k) = below k

all_equal : (v : ℕ) (ns : List ℕ) (m : ℕ) → Contains (filter (nat_eq v) ns) m → v ≡ m
all_equal v [] m h = absurd (omega (arith, h.1))
all_equal v (n ∷ ns) m h = by (nat_eq v n) refl (λ k. all_equal v ns m k) h
  where
    or : nat_eq v n ≡ true → (Contains (filter (nat_eq v) ns) m → v ≡ m) → (n ≡ m) ⊎ Contains (filter (nat_eq v) ns) m → v ≡ m
    or e below (inl f) = eqb-true v n e ∙ f
    or e below (inr k) = below k

    by : (b : Bool) → nat_eq v n ≡ b → (Contains (filter (nat_eq v) ns) m → v ≡ m) → Contains (cond b (n ∷ filter (nat_eq v) ns) (filter (nat_eq v) ns)) m → v ≡ m
    by true e below k = or e below (first_or_later m n (filter (nat_eq v) ns) k)
    by false e below k = below k

one_there : (v : ℕ) (ns : List ℕ) → 0 < length (filter (nat_eq v) ns) → Contains ns v
one_there v ns some = by (filter (nat_eq v) ns) some (λ m h. h)
  where
    by : (ms : List ℕ) → 0 < length ms → ((m : ℕ) → Contains ms m → Contains (filter (nat_eq v) ns) m) → Contains ns v
    by [] less sub = absurd (omega (arith, less))
    by (m ∷ ms) less sub =
        let h = sub m (0, omega arith, refl) in
        subst (Contains ns) (sym (all_equal v ns m h)) (filter_sub (nat_eq v) m ns h)

pub is_demodulator : (c : Clause) → BecomesDemodulator c → IsDemodulator c
is_demodulator c h = record { left = h.left; right = h.right; equates = h.equates; compound = h.compound; no_other = no_other }
  where
    no_other : (v : ℕ) → Contains (term_variables h.right) v → Contains (term_variables h.left) v
    no_other v k =
        let right = some_left v (term_variables h.right) k in
        let fewer = h.fewer v in
        let on_right = length-filter (nat_eq v) (term_variables h.right) in
        let on_left = length-filter (nat_eq v) (term_variables h.left) in
        one_there v (term_variables h.left) (omega (arith, right, fewer, on_right, on_left))

-- ---- every fate

sweeps_sound : (problem : Stated) (old : Book) (n : Numbered) (new : Book) (out : Processed) → IsSound problem old → StandsIn problem old n → Sweeps problem old n new out → IsSound problem new
sweeps_sound problem old n new out sound stands h = by h.becomes
  where
    first : IsSound problem (with_deleted old h.subsumed)
    first = deleted_sound problem old h.subsumed sound

    second : IsSound problem (with_deleted (with_deleted old h.subsumed) h.rewritten)
    second = deleted_sound problem (with_deleted old h.subsumed) h.rewritten first

    by : Becomes problem old n new h.subsumed h.rewritten → IsSound problem new
    by (inl k) = subst (IsSound problem) (sym k.1.1) (demodulator_sound problem (with_deleted (with_deleted old h.subsumed) h.rewritten) n stands (is_demodulator n.clause k.0.1) second)
    by (inr k) = subst (IsSound problem) (sym k.1.1) first

pub where_either : {Q A B R : Type 0} → (A → R) → (B → R) → Where Q A B → R
where_either f g (inl h) = f h.1
where_either f g (inr h) = g h.1

keeps_sound : (problem : Stated) (old : Book) (c : Clause) (lines : List Line) (turn : ℕ) (new : Book) (out : Processed) → IsSound problem old
    → Keeps problem (with_kept problem old c lines turn) (record { number = next_number problem old; clause = c }) new out → IsSound problem new
keeps_sound problem old c lines turn new out sound =
    let kept = kept_sound problem old c lines turn sound in
    where_either (λ k. subst (IsSound problem) (sym k.4) (derived_sound problem (with_kept problem old c lines turn) k.1.clause k.1.lines kept))
    (sweeps_sound problem (with_kept problem old c lines turn) (record { number = next_number problem old; clause = c }) new out kept (kept_stands problem old c lines turn))

meets_sound : (problem : Stated) (old : Book) (c : Clause) (lines : List Line) (turn : ℕ) (new : Book) (out : Processed) → IsSound problem old → MeetsFate problem old c lines turn new out → IsSound problem new
meets_sound problem old c lines turn new out sound =
    where_either (λ h. subst (IsSound problem) (sym h.0) (derived_sound problem old c lines sound))
    (where_either (λ h. subst (IsSound problem) (sym h.0) sound)
    (where_either (λ h. subst (IsSound problem) (sym h.0) sound)
    (where_either (λ h. subst (IsSound problem) (sym h.0) sound)
    (where_either (λ h. subst (IsSound problem) (sym h.2.0) sound)
    (keeps_sound problem old c lines turn new out sound)))))

pub processes_sound : (problem : Stated) (old : Book) (lines : List Line) (turn : ℕ) (new : Book) (out : Processed) → IsSound problem old → Processes problem old lines turn new out → IsSound problem new
processes_sound problem old lines turn new out sound h = meets_sound problem old h.clause h.simplified turn new out sound h.fated

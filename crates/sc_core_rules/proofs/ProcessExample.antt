-- Worked: q | q, processed again, is merged to q and kept, and deletes q | q and q | r.
use Rattle.std.proofs.Common.{◌≡◌, ◌∙◌, ap, not, ◌≢◌, refl, sym, subst, ℕ, zero, suc, ◌<◌, inl, inr, List, [], ◌∷◌, take, arith, true, false, Some, Option, ◌-◌}
use Rattle.sc_term.specs.Clause.{literal_instance}
use Rattle.sc_term.specs.Refuted.{equation}
use Rattle.sc_core_rules.proofs.NumberLaws.{numbered-suc}
use Rattle.std.specs.Prelude.{IsSomeAnd}
use Rattle.std.specs.List.{Contains, All, AllPairs}
use Rattle.sc_term.specs.declared.Literal.{Literal}
use Rattle.sc_term.specs.declared.Clause.{Clause}
use Rattle.sc_term.specs.declared.Line.{Line}
use Rattle.sc_term.specs.declared.Step.TheVariants.{Input, Merge}
use Rattle.sc_input_rules.specs.Problem.{Stated}
use Rattle.sc_term.specs.declared.Numbered.{Numbered}
use Rattle.sc_input_rules.specs.declared.settings.Home.TheVariants.{Usable}
use Rattle.sc_core_rules.specs.declared.fate.Fate.TheVariants.{Kept}
use Rattle.sc_core_rules.specs.declared.fate.Processed.{Processed}
use Rattle.sc_core_rules.specs.Order.{IsBefore, AreInOrder, ends, goes}
use Rattle.sc_term.specs.Subsumption.{Subsumes, IsTautology}
use Rattle.sc_core_rules.specs.Rewriting.{number_of, RewritesOnce}
use Rattle.sc_core_rules.specs.Simplification.{Simplifies, MergesOnce, IsRepeated}
use Rattle.sc_core_rules.specs.Book.{Book, live}
use Rattle.sc_core_rules.specs.Processing.{Processes, Sweeps, IsRival, with_kept}
use Rattle.sc_core_rules.proofs.RunExample.{flags, params, symbol}

abbrev q : Literal
q = record { positive = true; pred = record { 0 = 1 }; args = [] }

abbrev r : Literal
r = record { positive = true; pred = record { 0 = 2 }; args = [] }

abbrev q_q : Clause
q_q = record { literals = q ∷ q ∷ [] }

abbrev q_r : Clause
q_r = record { literals = q ∷ r ∷ [] }

abbrev only_q : Clause
only_q = record { literals = q ∷ [] }

abbrev problem : Stated
problem = record { symbols = symbol 2 ∷ symbol 0 ∷ symbol 0 ∷ []; inputs = q_q ∷ q_r ∷ []; homes = Usable ∷ Usable ∷ []; flags = flags; params = params }

abbrev one : Numbered
one = record { number = 1; clause = q_q }

abbrev two : Numbered
two = record { number = 2; clause = q_r }

abbrev three : Numbered
three = record { number = 3; clause = only_q }

abbrev old : Book
old = record { derived = []; usable = one ∷ two ∷ []; sos = []; passive = []; demods = []; kept = [] }

abbrev made_lines : List Line
made_lines = record { step = Input 1; clause = q_q } ∷ []

abbrev merged_lines : List Line
merged_lines = record { step = Input 1; clause = q_q } ∷ record { step = Merge 1 2; clause = only_q } ∷ []

-- ---- simplified

no_rewrite : (lines : List Line) → ¬ RewritesOnce [] made_lines lines
no_rewrite lines h = omega (arith, h.least.listed.1)

merge : MergesOnce made_lines merged_lines
merge = record { clause = q_q; clause_last = refl; a = 2; repeated = (0, omega arith, refl); first = first; merges = (only_q, ((0, omega arith, refl), refl), refl) }
  where
    first : (b : ℕ) → b < 2 → ¬ IsRepeated q_q b
    first zero h e = e
    first (suc zero) h e = omega (arith, e.1)
    first (suc (suc b)) h e = absurd (omega arith)

no_merge : (lines : List Line) → ¬ MergesOnce merged_lines lines
no_merge lines h = none_repeated h.a (subst (λ (c : Clause). IsRepeated c h.a) (some_same h.clause h.clause_last) h.repeated)
  where
    some_same : (c : Clause) → ◌≡◌ {A = Option Clause} (Some only_q) (Some c) → c ≡ only_q
    some_same c e = cc

    none_repeated : (a : ℕ) → ¬ IsRepeated only_q a
    none_repeated zero e = e
    none_repeated (suc zero) e = omega (arith, e.1)
    none_repeated (suc (suc a)) e = subst (λ (l : Option Literal). IsSomeAnd l (λ m. Contains (take (suc (suc a) - 1) (q ∷ [])) m)) (numbered-suc (q ∷ []) (suc a)) e

simplifies : Simplifies flags 1000 [] (live old) made_lines merged_lines
simplifies = record {
  rewritten = made_lines;
  oriented = made_lines;
  cut = made_lines;
  merged = merged_lines;
  rewrites = ends no_rewrite;
  orients = refl;
  cuts = refl;
  merges = goes merge (ends no_merge);
  canonical_last = inl (refl, refl);
}

-- ---- kept

abbrev kept : Book
kept = with_kept problem old only_q merged_lines 3

abbrev new : Book
new = record kept { usable = [] }

abbrev out : Processed
out = record { fate = Kept 3; gone = 1 ∷ 2 ∷ []; again = [] }

no_tautology : ¬ IsTautology only_q
no_tautology (inl h) =
    let l : q ≡ h.0 = just h.0 h.2 in
    let m : q ≡ h.1 = just h.1 h.3 in
    let bad : true ≡ false = ap (λ (x : Literal). x.positive) l ∙ h.4.0 ∙ ap (λ (x : Literal). not x.positive) (sym m) in
    cc
  where
    just : (l : Literal) → Contains (q ∷ []) l → q ≡ l
    just l (zero, within, e) = e
    just l (suc k, within, e) = absurd (omega arith)
no_tautology (inr h) =
    let e : q ≡ equation true h.0 h.0 = just (equation true h.0 h.0) h.1 in
    let bad : ◌≡◌ {A = ℕ} 1 0 = ap (λ (x : Literal). x.pred.0) e in
    omega (arith, bad)
  where
    just : (l : Literal) → Contains (q ∷ []) l → q ≡ l
    just l (zero, within, e) = e
    just l (suc k, within, e) = absurd (omega arith)

none_subsumes : (m : Numbered) → Contains (one ∷ two ∷ []) m → ¬ Subsumes m.clause only_q
none_subsumes m (zero, within, e) h = let long = (subst (λ (p : Numbered). Subsumes p.clause only_q) (sym e) h).no_longer in omega (arith, long)
none_subsumes m (suc zero, within, e) h = let long = (subst (λ (p : Numbered). Subsumes p.clause only_q) (sym e) h).no_longer in omega (arith, long)
none_subsumes m (suc (suc k), within, e) h = absurd (omega arith)

no_rival : (m : Numbered) → Contains (one ∷ two ∷ three ∷ []) m → ¬ IsRival three m
no_rival m (zero, within, e) h = let unit = (subst (IsRival three) (sym e) h).1.1.unit_m in omega (arith, unit)
no_rival m (suc zero, within, e) h = let unit = (subst (IsRival three) (sym e) h).1.1.unit_m in omega (arith, unit)
no_rival m (suc (suc zero), within, e) h = (subst (IsRival three) (sym e) h).0 refl
no_rival m (suc (suc (suc k)), within, e) h = absurd (omega arith)

subsumes_first : Subsumes only_q q_q
subsumes_first = record { terms = []; each = each; no_longer = omega arith }
  where
    each : All (λ l. Contains (q ∷ q ∷ []) (literal_instance [] l)) (q ∷ [])
    each zero d h = (0, omega arith, refl)
    each (suc k) d h = absurd (omega arith)

subsumes_second : Subsumes only_q q_r
subsumes_second = record { terms = []; each = each; no_longer = omega arith }
  where
    each : All (λ l. Contains (q ∷ r ∷ []) (literal_instance [] l)) (q ∷ [])
    each zero d h = (0, omega arith, refl)
    each (suc k) d h = absurd (omega arith)

abbrev IsGone : Numbered → Type 0
IsGone p = Contains (one ∷ two ∷ three ∷ []) p × (p.number ≢ 3) × Subsumes only_q p.clause

others : AreInOrder number_of IsGone (one ∷ two ∷ [])
others = record { rising = rising; only = only; all = all }
  where
    rising : AllPairs (λ x y. IsBefore (number_of x) (number_of y)) (one ∷ two ∷ [])
    rising zero zero d less within = absurd (omega arith)
    rising zero (suc zero) d less within = inl (omega arith)
    rising i (suc (suc j)) d less within = absurd (omega arith)
    rising (suc i) zero d less within = absurd (omega arith)
    rising (suc i) (suc zero) d less within = absurd (omega arith)

    only : All IsGone (one ∷ two ∷ [])
    only zero d h = ((0, omega arith, refl), (λ e. omega (arith, e)), subsumes_first)
    only (suc zero) d h = ((1, omega arith, refl), (λ e. omega (arith, e)), subsumes_second)
    only (suc (suc k)) d h = absurd (omega arith)

    all : (p : Numbered) → IsGone p → Contains (one ∷ two ∷ []) p
    all p ((zero, within, e), h, s) = (0, omega arith, e)
    all p ((suc zero, within, e), h, s) = (1, omega arith, e)
    all p ((suc (suc zero), within, e), h, s) = absurd (h (subst (λ (p : Numbered). p.number ≡ 3) e refl))
    all p ((suc (suc (suc k)), within, e), h, s) = absurd (omega arith)

sweeps : Sweeps problem kept three new out
sweeps = record { subsumed = one ∷ two ∷ []; are_subsumed = others; rewritten = []; becomes = inr (λ h. not_set h.0, (refl, refl)); told = refl }
  where
    not_set : ¬ (false ≡ true)
    not_set e = cc

pub processed : Processes problem old made_lines 3 new out
processed = record {
  simplified = merged_lines;
  simplifies = simplifies;
  clause = only_q;
  clause_last = refl;
  fated = inr (λ e. cc, inr (no_tautology, inr (λ h. omega (arith, h), inr (λ h. omega (arith, h), inr (λ h. none_subsumes h.1.0 h.1.1 h.1.2, inr (λ h. no_rival h.1.0 h.1.1 h.1.2, sweeps))))));
}

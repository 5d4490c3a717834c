-- A clause without a rival deletes what it subsumes and what it rewrites.
use Rattle.std.proofs.Common.{◌≡◌, ◌∙◌, sym, ap, subst, refl, ℕ, inl, inr, Bool, true, false, Option, Some, None, List, [], ◌∷◌, ◌++◌}
use Rattle.std.specs.List.{Contains}
use Rattle.std.proofs.lemmas.List.{map-append}
use Rattle.sc_term.specs.declared.Clause.{Clause}
use Rattle.sc_term.specs.declared.Numbered.{Numbered}
use Rattle.sc_input_rules.specs.Problem.{Stated}
use Rattle.sc_input_rules.specs.declared.settings.Flags.{Flags}
use Rattle.sc_term.specs.Subsumption.{Subsumes}
use Rattle.sc_core_rules.specs.declared.fate.Fate.TheVariants.{Kept}
use Rattle.sc_core_rules.specs.declared.fate.Processed.{Processed}
use Rattle.sc_core_rules.specs.Order.{Where, With}
use Rattle.sc_core_rules.specs.Rewriting.{HasRedex, BecomesDemodulator}
use Rattle.sc_core_rules.specs.Book.{Book, leaving_out, with_deleted}
use Rattle.sc_core_rules.specs.Conflict.{IsUnit}
use Rattle.sc_core_rules.specs.Processing.{AreOthers, IsRival, Keeps, Sweeps, with_demodulator}
use Rattle.sc_keep.specs.declared.rival.Rival.{Rival}
use Rattle.sc_keep.specs.Rivals.{IsLeastRival}
use Rattle.sc_keep.specs.Sweep.{Deletes, Demodulates, numbers, without_numbers}
use Rattle.sc_keep.proofs.OthersLaws.{left_out_by_number}

-- ---- what is deleted

leaves_all : (ps : List Numbered) → ps ≡ leaving_out [] ps
leaves_all [] = refl
leaves_all (p ∷ ps) = ap (λ qs. p ∷ qs) (leaves_all ps)

-- the clauses of these numbers are those that are left out
pub left_out : (old : Book) (others : List Numbered) (gone : List ℕ) (us ss : List Numbered) → gone ≡ numbers others → us ≡ without_numbers gone old.usable → ss ≡ without_numbers gone old.sos
    → record old { usable = us; sos = ss } ≡ with_deleted old others
left_out old others gone us ss is is_us is_ss =
    let usable = is_us ∙ ap (λ ns. without_numbers ns old.usable) is ∙ left_out_by_number others old.usable in
    let sos = is_ss ∙ ap (λ ns. without_numbers ns old.sos) is ∙ left_out_by_number others old.sos in
    λ i. record old { usable = usable i; sos = sos i }

module _ (P : Clause → Type 0) (old : Book) (n : Numbered) (asked : Bool) where
  pub deletes_none : (gone : List ℕ) → asked ≡ false → gone ≡ [] → Deletes asked P old n old gone
  deletes_none gone off none = record {
    others = [];
    are_others = subst (λ f. With f (AreOthers old n P []) (◌≡◌ {A = List Numbered} [] [])) (sym off) refl;
    told = none;
    deleted = λ i. record old { usable = leaves_all old.usable i; sos = leaves_all old.sos i };
  }

  pub deletes_them : (new : Book) (gone seen : List ℕ) → asked ≡ true → (others : List Numbered) × AreOthers old n P others × (gone ≡ numbers others) → seen ≡ gone
      → ((others : List Numbered) → seen ≡ numbers others → new ≡ with_deleted old others) → Deletes asked P old n new gone
  deletes_them new gone seen on found same deleted = record {
    others = found.0;
    are_others = subst (λ f. With f (AreOthers old n P found.0) (found.0 ≡ [])) (sym on) found.1;
    told = found.2;
    deleted = deleted found.0 (same ∙ found.2);
  }

-- ---- a demodulator

module _ (flags : Flags) (old : Book) (n : Numbered) where
  pub stays_out : (again : List ℕ) → ¬ ((flags.dynamic_demod ≡ true) × BecomesDemodulator n.clause) → again ≡ [] → Demodulates flags old n old again
  stays_out again never none = record { rewritten = []; told = none; becomes = inr (never, (refl, refl)) }

  pub comes_in : (mid new : Book) (again : List ℕ) → (flags.dynamic_demod ≡ true) × BecomesDemodulator n.clause → Deletes flags.back_demod (λ c. HasRedex c n) old n mid again → new ≡ with_demodulator mid n
      → Demodulates flags old n new again
  comes_in mid new again becomes d is = record {
    rewritten = d.others;
    told = d.told;
    becomes = inl (becomes, (d.are_others, is ∙ ap (λ (b : Book). with_demodulator b n) d.deleted));
  }

-- ---- both

module _ (problem : Stated) (flags : Flags) (same : problem.flags ≡ flags) (old mid new : Book) (n : Numbered) (gone again : List ℕ) (first : Deletes flags.back_sub (Subsumes n.clause) old n mid gone)
    (second : Demodulates flags mid n new again) where
  abbrev Then : Book → Flags → Type 0
  Then b fs =
      Where ((fs.dynamic_demod ≡ true) × BecomesDemodulator n.clause)
      (With fs.back_demod (AreOthers b n (λ c. HasRedex c n) second.rewritten) (second.rewritten ≡ []) × (new ≡ with_demodulator (with_deleted b second.rewritten) n))
      ((second.rewritten ≡ []) × (new ≡ b))

  pub both_sweep : (out : Processed) → out ≡ record { fate = Kept n.number; gone = gone ++ again; again = again } → Sweeps problem old n new out
  both_sweep out is = record {
    subsumed = first.others;
    are_subsumed = subst (λ (fs : Flags). With fs.back_sub (AreOthers old n (Subsumes n.clause) first.others) (first.others ≡ [])) (sym same) first.are_others;
    rewritten = second.rewritten;
    becomes = subst (λ (fs : Flags). Then (with_deleted old first.others) fs) (sym same) (subst (λ (b : Book). Then b flags) first.deleted second.becomes);
    told = is ∙ (λ i. record {
      fate = Kept n.number;
      gone = ((λ j. first.told j ++ second.told j) ∙ sym (map-append (λ (p : Numbered). p.number) first.others second.rewritten)) i;
      again = second.told i;
    });
  }

no_rivals : (n : Numbered) (ps : List Numbered) (found : Option Rival) → found ≡ None → IsLeastRival n ps found → ¬ (IsUnit n × ((m : Numbered) × Contains ps m × IsRival n m))
no_rivals n ps None is h = λ k. h k.1.0 k.1.1 k.1.2
no_rivals n ps (Some rival) is h = let bad : ◌≡◌ {A = Option Rival} (Some rival) None = is in absurd (cc)

pub without_rival : (problem : Stated) (old new : Book) (n : Numbered) (out : Processed) (us ss ps : List Numbered) (found : Option Rival) → us ≡ old.usable → ss ≡ old.sos → ps ≡ old.passive
    → found ≡ None → IsLeastRival n (us ++ ss ++ ps) found → Sweeps problem old n new out → Keeps problem old n new out
without_rival problem old new n out us ss ps found same_us same_ss same_ps is h sweeps =
    inr (no_rivals n (old.usable ++ old.sos ++ old.passive) found is (subst (λ qs. IsLeastRival n qs found) (λ i. same_us i ++ same_ss i ++ same_ps i) h), sweeps)

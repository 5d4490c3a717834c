-- What marks keep through each call, and what they tell.
use Rattle.std.proofs.Common.{◌≡◌, ◌≢◌, ◌∙◌, sym, ap, subst, ℕ, ◌+◌, ◌<◌, not, nat_eq, Option, None, Some, List, [], ◌∷◌, ◌++◌, length, take, get_or, arith}
use Rattle.std.specs.List.{AllPairs, Contains}
use Rattle.std.proofs.lemmas.List.{take_more, get_or-take, get_or_default, length-take-le}
use Rattle.std.proofs.lemmas.List.Elements.{All-push, All-filter, Contains-get_or}
use Rattle.std.proofs.lemmas.List.Kept.{AllPairs-filter}
use Rattle.std.proofs.lemmas.List.Quantifiers.{all_pairs_push}
use Rattle.sc_term.specs.declared.Clause.{Clause}
use Rattle.sc_term.specs.declared.Numbered.{Numbered}
use Rattle.sc_term.specs.Clause.{IsCanonical, IsWithinLimits}
use Rattle.sc_interp.specs.Structure.{Structure}
use Rattle.sc_interp.specs.Marks.{IsMark}
use Rattle.sc_mark.specs.declared.known.Known.{Known}
use Rattle.sc_mark.specs.Known.{truth_known, IsKnown}
use Rattle.sc_mark.proofs.KnownLaws.{known_marks}
use Rattle.sc_mark.specs.Marked.{Marked, HasNumber, HasMark, HasTruth, without_mark, without_number}
use Rattle.sc_mark.specs.Marking.{known_at, AreSame, IsPut, AreKnown, MayBeMarked, IsMarking}
use Rattle.sc_mark.proofs.TruthLaws.{one_told, none_told, none_yet, same_known, one_more, one_less, none_less}

-- ---- what is told

pub there_told : (m : Marked) (ts : List (Option Known)) (w n : ℕ) (known : Known) → IsMarking m ts w → known_at ts n ≡ Some known → HasTruth m n (truth_known known)
there_told m ts w n known h e =
    let found = h.known.only n known e in
    (found.0, found.1, found.2, known_marks m.version.tables found.0.clause known (one_told m.version.tables m.clauses ts h.known n known e found.0 found.1 found.2))

pub only_told : (m : Marked) (ts : List (Option Known)) (w n : ℕ) (known : Known) → IsMarking m ts w → known_at ts n ≡ Some known
    → (p : Numbered) → Contains m.clauses p → p.number ≡ n → IsMark m.version.tables p.clause (truth_known known)
only_told m ts w n known h e p has is = known_marks m.version.tables p.clause known (one_told m.version.tables m.clauses ts h.known n known e p has is)

pub none_marked : (m : Marked) (ts : List (Option Known)) (w n : ℕ) → IsMarking m ts w → known_at ts n ≡ None → ¬ HasMark m n
none_marked m ts w n h e = none_told m.version.tables m.clauses ts h.known n e

-- ---- what stays

none_may : MayBeMarked []
none_may = record {
  apart = λ i j d before less. absurd (omega (arith, less));
  canonical = λ k d less. absurd (omega (arith, less));
  within = λ k d less. absurd (omega (arith, less));
}

pub starts : (m : Marked) (ts : List (Option Known)) (w : ℕ) → m.clauses ≡ [] → ts ≡ [] → w ≡ 10000 → IsMarking m ts w
starts m ts w no_clauses no_known wide = record {
  known = subst (AreKnown m.version.tables m.clauses) (sym no_known) (subst (λ (cs : List Numbered). AreKnown m.version.tables cs []) (sym no_clauses) (none_yet m.version.tables));
  clauses = subst MayBeMarked (sym no_clauses) none_may;
  register = wide;
}

-- the fields change, and they keep what marks keep
module _ (m : Marked) (old new : List (Option Known)) (w v : ℕ) (h : IsMarking m old w) (wide : v ≡ w) where
  -- a place was made, and nothing else
  pub still_marked : (cs : List Numbered) → cs ≡ m.clauses → AreSame old new → IsMarking (record m { clauses = cs }) new v
  still_marked cs are same = record {
    known = subst (λ (cs : List Numbered). AreKnown m.version.tables cs new) (sym are) (same_known m.version.tables m.clauses old new h.known same);
    clauses = subst MayBeMarked (sym are) h.clauses;
    register = wide ∙ h.register;
  }

  pub marked_more : (cs : List Numbered) (n : ℕ) (c : Clause) (known : Known) → cs ≡ m.clauses ++ record { number = n; clause = c } ∷ []
      → ¬ HasMark m n → IsCanonical c → IsWithinLimits c → IsKnown m.version.tables c known → IsPut n (Some known) old new → IsMarking (record m { clauses = cs }) new v
  marked_more cs n c known are fresh canonical within mark put =
      let added : Numbered = record { number = n; clause = c } in
      let more : MayBeMarked (m.clauses ++ added ∷ []) = record {
        apart = all_pairs_push (λ (p q : Numbered). p.number ≢ q.number) m.clauses added h.clauses.apart (λ k d less e. fresh (get_or m.clauses k d, Contains-get_or m.clauses k d less, e));
        canonical = All-push (λ (p : Numbered). IsCanonical p.clause) m.clauses added h.clauses.canonical canonical;
        within = All-push (λ (p : Numbered). IsWithinLimits p.clause) m.clauses added h.clauses.within within;
      } in
      record {
        known = subst (λ (cs : List Numbered). AreKnown m.version.tables cs new) (sym are) (one_more m.version.tables m.clauses old new h.known n c known fresh mark put);
        clauses = subst MayBeMarked (sym are) more;
        register = wide ∙ h.register;
      }

  pub marked_less : (cs : List Numbered) (n : ℕ) → cs ≡ without_number m.clauses n → IsPut n None old new → IsMarking (record m { clauses = cs }) new v
  marked_less cs n are put =
      let stays = λ (p : Numbered). not (nat_eq p.number n) in
      let less : MayBeMarked (without_number m.clauses n) = record {
        apart = AllPairs-filter (λ (p q : Numbered). p.number ≢ q.number) stays m.clauses h.clauses.apart;
        canonical = All-filter stays (λ (p : Numbered). IsCanonical p.clause) m.clauses h.clauses.canonical;
        within = All-filter stays (λ (p : Numbered). IsWithinLimits p.clause) m.clauses h.clauses.within;
      } in
      record {
        known = subst (λ (cs : List Numbered). AreKnown m.version.tables cs new) (sym are) (one_less m.version.tables m.clauses old new h.known n put);
        clauses = subst MayBeMarked (sym are) less;
        register = wide ∙ h.register;
      }

-- a clause that isn't marked needn't be forgotten
pub not_marked : (m : Marked) (ts : List (Option Known)) (w n : ℕ) → IsMarking m ts w → known_at ts n ≡ None → m ≡ without_mark m n
not_marked m ts w n h e = ap (λ (cs : List Numbered). record m { clauses = cs }) (sym (none_less m.clauses n (none_marked m ts w n h e)))

-- ---- anew

-- the number of clause i isn't among those before
pub not_before : (cs : List Numbered) (i : ℕ) (p : Numbered) → AllPairs (λ (p q : Numbered). p.number ≢ q.number) cs → i < length cs → p ≡ get_or cs i p → ¬ HasNumber (take i cs) p.number
not_before cs i p apart less is found =
    let q = found.0 in
    let k = found.1.0 in
    let short : length (take i cs) ≡ i = length-take-le i cs (omega (arith, less)) in
    let before : k < i = omega (arith, short, found.1.1) in
    let there : get_or cs k q ≡ q = sym (get_or-take i cs k q before) ∙ found.1.2 in
    let here : get_or cs i q ≡ p = get_or_default cs i q p less ∙ sym is in
    apart k i q before less (ap (λ (r : Numbered). r.number) there ∙ found.2 ∙ sym (ap (λ (r : Numbered). r.number) here))

-- one clause more has its truth
pub one_anew : (t : Structure) (cs : List Numbered) (i : ℕ) (p : Numbered) (old new : List (Option Known)) (known : Known)
    → AllPairs (λ (p q : Numbered). p.number ≢ q.number) cs → i < length cs → p ≡ get_or cs i p
    → AreKnown t (take i cs) old → IsKnown t p.clause known → IsPut p.number (Some known) old new → AreKnown t (take (i + 1) cs) new
one_anew t cs i p old new known apart less is h mark put =
    subst (λ (ps : List Numbered). AreKnown t ps new) (ap (λ (q : Numbered). take i cs ++ q ∷ []) is ∙ sym (take_more cs i p less))
    (one_more t (take i cs) old new h p.number p.clause known (not_before cs i p apart less is) mark put)

-- A conclusion has one fate.
use Rattle.std.proofs.Common.{◌≡◌, ◌≢◌, ◌∙◌, sym, ap, subst, ℕ, ◌<◌, ◌⊎◌, inl, inr, List, [], ◌∷◌, ◌++◌, map, Some, true, arith}
use Rattle.std.specs.List.{Contains}
use Rattle.sc_term.specs.declared.Clause.{Clause}
use Rattle.sc_term.specs.declared.Line.{Line}
use Rattle.sc_term.specs.Numbering.{numbered}
use Rattle.sc_term.specs.declared.Pair.{Pair}
use Rattle.sc_input_rules.specs.Problem.{Stated}
use Rattle.sc_term.specs.declared.Numbered.{Numbered}
use Rattle.sc_steps.specs.declared.derivations.derivation.Derived.{Derived}
use Rattle.sc_core_rules.specs.declared.fate.Fate.{Fate}
use Rattle.sc_core_rules.specs.declared.fate.Fate.TheVariants.{Kept, Taut, Heavy, Long, Subsumed}
use Rattle.sc_core_rules.specs.declared.fate.Processed.{Processed}
use Rattle.sc_core_rules.specs.Order.{Where, With, IsLeast}
use Rattle.sc_term.specs.JointInstance.{apart}
use Rattle.sc_core_rules.specs.Inference.{Inference, Concludes, parent_clauses}
use Rattle.sc_core_rules.specs.Pairing.{Place, literal_at, ArePairs, places_in}
use Rattle.sc_core_rules.specs.Conflict.{Conflicts}
use Rattle.sc_term.specs.Subsumption.{Subsumes}
use Rattle.sc_core_rules.specs.Rewriting.{number_of, HasRedex, BecomesDemodulator, IsDemodulator}
use Rattle.sc_core_rules.specs.Book.{Book, IsSound, numbered_clauses, live, next_number, with_derived, with_deleted}
use Rattle.sc_core_rules.specs.Processing.{Drops, with_kept, IsRival, AreOthers, with_demodulator, Sweeps, Keeps, MeetsFate, ProcessingIsOne}
use Rattle.sc_steps.specs.Derivation.{last_clause}
use Rattle.sc_core_rules.proofs.OrderLaws.{in_order_is_one}
use Rattle.sc_term.proofs.ContainsLaws.{first_or_later}
use Rattle.sc_core_rules.proofs.FilterLaws.{in_either, in_first, in_second}
use Rattle.sc_core_rules.proofs.StepLaws.{same_some}
use Rattle.sc_core_rules.proofs.DerivationLaws.{compared, conclusion_is_one}
use Rattle.sc_core_rules.proofs.SimplifyLaws.{NumbersTell, least_one, with_one, simplifies_one}

-- ---- cases

pub where_case : {P A B C D R : Type 0} → (A → C → R) → (B → D → R) → Where P A B → Where P C D → R
where_case f g (inl h) (inl k) = f h.1 k.1
where_case f g (inl h) (inr k) = absurd (k.0 h.0)
where_case f g (inr h) (inl k) = absurd (h.0 k.0)
where_case f g (inr h) (inr k) = g h.1 k.1

-- ---- numbers tell clauses

pub same_numbered : (cs : List Clause) (x y : Numbered) → numbered cs x.number ≡ Some x.clause → numbered cs y.number ≡ Some y.clause → x.number ≡ y.number → x ≡ y
same_numbered cs x y h k e =
    let c : x.clause ≡ y.clause = same_some (numbered cs y.number) x.clause y.clause (subst (λ (n : ℕ). numbered cs n ≡ Some x.clause) e h) k in
    λ i. record { number = e i; clause = c i }

pub all_tell : (problem : Stated) (book : Book) → IsSound problem book → NumbersTell (live book ++ book.demods)
all_tell problem book sound x y h k e = same_numbered (numbered_clauses problem book) x y
    (subst (λ (q : Numbered). numbered (numbered_clauses problem book) q.number ≡ Some q.clause) h.2 (sound.under_numbers h.0 x h.1))
    (subst (λ (q : Numbered). numbered (numbered_clauses problem book) q.number ≡ Some q.clause) k.2 (sound.under_numbers k.0 y k.1)) e

pub live_tell : (problem : Stated) (book : Book) → IsSound problem book → NumbersTell (live book)
live_tell problem book sound x y h k e = all_tell problem book sound x y (in_first x (live book) book.demods h) (in_first y (live book) book.demods k) e

demods_tell : (problem : Stated) (book : Book) → IsSound problem book → NumbersTell book.demods
demods_tell problem book sound x y h k e = all_tell problem book sound x y (in_second x (live book) book.demods h) (in_second y (live book) book.demods k) e

-- ---- conflicts

pub pairs_one : (cs : List Clause) (ms ns : List Place) (ps qs : List Pair) → ArePairs cs ms ns ps → ArePairs cs ms ns qs → ps ≡ qs
pairs_one cs [] [] ps qs h k = h ∙ sym k
pairs_one cs [] (n ∷ ns) ps qs h k = absurd h
pairs_one cs (m ∷ ms) [] ps qs h k = absurd h
pairs_one cs (m ∷ ms) (n ∷ ns) [] qs h k = absurd h
pairs_one cs (m ∷ ms) (n ∷ ns) (p ∷ ps) [] h k = absurd k
pairs_one cs (m ∷ ms) (n ∷ ns) (p ∷ ps) (q ∷ qs) h k =
    let left : p.left ≡ q.left = same_some (literal_at cs m) p.left q.left h.0 k.0 in
    let right : p.right ≡ q.right = same_some (literal_at cs n) p.right q.right h.1 k.1 in
    let rest = pairs_one cs ms ns ps qs h.2 k.2 in
    λ i. record { left = left i; right = right i } ∷ rest i

pub conflict_one : (n m : Numbered) (made other : Derived) → Conflicts n m made → Conflicts n m other → made ≡ other
conflict_one n m made other h k =
    let parents : h.inference.parents ≡ k.inference.parents = h.parents ∙ sym k.parents in
    let pairs : h.inference.pairs ≡ k.inference.pairs =
    pairs_one (apart (parent_clauses k.inference)) (places_in 1 (1 ∷ [])) (places_in 2 (1 ∷ [])) h.inference.pairs k.inference.pairs
    (subst (λ (ps : List Numbered). ArePairs (apart (map (λ (q : Numbered). q.clause) ps)) (places_in 1 (1 ∷ [])) (places_in 2 (1 ∷ [])) h.inference.pairs) parents h.pairs) k.pairs in
    let ending : h.inference.ending ≡ k.inference.ending = h.ending ∙ sym k.ending in
    let same : h.inference ≡ k.inference = λ i. record { parents = parents i; pairs = pairs i; ending = ending i } in
    conclusion_is_one k.inference made other (subst (λ (i : Inference). Concludes i made) same h.concludes) k.concludes

-- ---- the kept clause

module _ (problem : Stated) (old : Book) (sound : IsSound problem old) where
  abbrev kept_one : Clause → Numbered
  kept_one c = record { number = next_number problem old; clause = c }

  -- a live clause of another number than the kept one was live before
  was_live : (c : Clause) (lines : List Line) (turn : ℕ) (m : Numbered) → m.number ≢ next_number problem old → Contains (live (with_kept problem old c lines turn)) m → Contains (live old) m
  was_live c lines turn m differ h = by (in_either m (old.usable ++ (old.sos ++ kept_one c ∷ [])) old.passive h)
    where
      third : (kept_one c ≡ m) ⊎ Contains [] m → Contains (live old) m
      third (inl e) = absurd (differ (ap (λ (q : Numbered). q.number) (sym e)))
      third (inr k) = absurd (omega (arith, k.1))

      second : Contains old.sos m ⊎ Contains (kept_one c ∷ []) m → Contains (live old) m
      second (inl k) = in_first m (old.usable ++ old.sos) old.passive (in_second m old.usable old.sos k)
      second (inr k) = third (first_or_later m (kept_one c) [] k)

      first : Contains old.usable m ⊎ Contains (old.sos ++ kept_one c ∷ []) m → Contains (live old) m
      first (inl k) = in_first m (old.usable ++ old.sos) old.passive (in_first m old.usable old.sos k)
      first (inr k) = second (in_either m old.sos (kept_one c ∷ []) k)

      by : Contains (old.usable ++ (old.sos ++ kept_one c ∷ [])) m ⊎ Contains old.passive m → Contains (live old) m
      by (inl k) = first (in_either m old.usable (old.sos ++ kept_one c ∷ []) k)
      by (inr k) = in_second m (old.usable ++ old.sos) old.passive k

  rival_one : (c : Clause) (lines : List Line) (turn : ℕ) (x y : Numbered) → IsLeast number_of (IsRival (kept_one c)) (live (with_kept problem old c lines turn)) x
      → IsLeast number_of (IsRival (kept_one c)) (live (with_kept problem old c lines turn)) y → x ≡ y
  rival_one c lines turn x y h k =
      live_tell problem old sound x y (was_live c lines turn x h.holds.0 h.listed) (was_live c lines turn y k.holds.0 k.listed) (by (compared x.number y.number))
    where
      by : (x.number < y.number) ⊎ (x.number ≡ y.number) ⊎ (y.number < x.number) → x.number ≡ y.number
      by (inl less) = absurd (k.least x h.listed h.holds (inl less))
      by (inr (inl e)) = e
      by (inr (inr less)) = absurd (h.least y k.listed k.holds (inl less))

others_one : (book : Book) (n : Numbered) (Q : Clause → Type 0) (ps qs : List Numbered) → AreOthers book n Q ps → AreOthers book n Q qs → ps ≡ qs
others_one book n Q ps qs h k = in_order_is_one number_of (λ p. Contains (book.usable ++ book.sos) p × (p.number ≢ n.number) × Q p.clause) ps qs h k

abbrev pub Becomes : Stated → Book → Numbered → Book → List Numbered → List Numbered → Type 0
Becomes problem old n new subsumed rewritten =
    Where ((problem.flags.dynamic_demod ≡ true) × BecomesDemodulator n.clause)
    (With problem.flags.back_demod (AreOthers (with_deleted old subsumed) n (λ c. HasRedex c n) rewritten) (rewritten ≡ [])
    × (new ≡ with_demodulator (with_deleted (with_deleted old subsumed) rewritten) n))
    ((rewritten ≡ []) × (new ≡ with_deleted old subsumed))

becomes_one : (problem : Stated) (old : Book) (n : Numbered) (new other : Book) (subsumed ps qs : List Numbered)
    → Becomes problem old n new subsumed ps → Becomes problem old n other subsumed qs → (new ≡ other) × (ps ≡ qs)
becomes_one problem old n new other subsumed ps qs (inl h) (inr k) = absurd (k.0 h.0)
becomes_one problem old n new other subsumed ps qs (inr h) (inl k) = absurd (h.0 k.0)
becomes_one problem old n new other subsumed ps qs (inr h) (inr k) = (h.1.1 ∙ sym k.1.1, h.1.0 ∙ sym k.1.0)
becomes_one problem old n new other subsumed ps qs (inl h) (inl k) =
    let same : ps ≡ qs = with_one problem.flags.back_demod (AreOthers (with_deleted old subsumed) n (λ c. HasRedex c n)) ps qs []
    (others_one (with_deleted old subsumed) n (λ c. HasRedex c n)) h.1.0 k.1.0 in
    (h.1.1 ∙ ap (λ (l : List Numbered). with_demodulator (with_deleted (with_deleted old subsumed) l) n) same ∙ sym k.1.1, same)

abbrev told : Numbered → List Numbered → List Numbered → Processed
told n subsumed rewritten = record { fate = Kept n.number; gone = map (λ (p : Numbered). p.number) (subsumed ++ rewritten); again = map (λ (p : Numbered). p.number) rewritten }

sweeps_one : (problem : Stated) (old : Book) (n : Numbered) (new other : Book) (out another : Processed)
    → Sweeps problem old n new out → Sweeps problem old n other another → (new ≡ other) × (out ≡ another)
sweeps_one problem old n new other out another h k =
    let first : h.subsumed ≡ k.subsumed = with_one problem.flags.back_sub (AreOthers old n (Subsumes n.clause)) h.subsumed k.subsumed [] (others_one old n (Subsumes n.clause)) h.are_subsumed k.are_subsumed in
    let rest = becomes_one problem old n new other k.subsumed h.rewritten k.rewritten (subst (λ (l : List Numbered). Becomes problem old n new l h.rewritten) first h.becomes) k.becomes in
    (rest.0, h.told ∙ (λ i. told n (first i) (rest.1 i)) ∙ sym k.told)

drops_one : (old new other : Book) (out another : Processed) (fate : Fate) → Drops old new out fate → Drops old other another fate → (new ≡ other) × (out ≡ another)
drops_one old new other out another fate h k = (h.0 ∙ sym k.0, h.1 ∙ sym k.1)

keeps_one : (problem : Stated) (old : Book) → IsSound problem old → (c : Clause) (lines : List Line) (turn : ℕ) (new other : Book) (out another : Processed)
    → Keeps problem (with_kept problem old c lines turn) (record { number = next_number problem old; clause = c }) new out
    → Keeps problem (with_kept problem old c lines turn) (record { number = next_number problem old; clause = c }) other another → (new ≡ other) × (out ≡ another)
keeps_one problem old sound c lines turn new other out another (inl h) (inr k) = absurd (k.0 h.0)
keeps_one problem old sound c lines turn new other out another (inr h) (inl k) = absurd (h.0 k.0)
keeps_one problem old sound c lines turn new other out another (inr h) (inr k) =
    sweeps_one problem (with_kept problem old c lines turn) (record { number = next_number problem old; clause = c }) new other out another h.1 k.1
keeps_one problem old sound c lines turn new other out another (inl h) (inl k) =
    let n : Numbered = record { number = next_number problem old; clause = c } in
    let m : h.1.0 ≡ k.1.0 = rival_one problem old sound c lines turn h.1.0 k.1.0 h.1.2 k.1.2 in
    let made : h.1.1 ≡ k.1.1 = conflict_one n k.1.0 h.1.1 k.1.1 (subst (λ (q : Numbered). Conflicts n q h.1.1) m h.1.3) k.1.3 in
    (h.1.4 ∙ ap (λ (d : Derived). with_derived (with_kept problem old c lines turn) d.clause d.lines) made ∙ sym k.1.4, h.1.5 ∙ sym k.1.5)

subsumed_one : (problem : Stated) (old : Book) → IsSound problem old → (c : Clause) (new other : Book) (out another : Processed) (x y : Numbered)
    → IsLeast number_of (λ p. Subsumes p.clause c) (live old) x → IsLeast number_of (λ p. Subsumes p.clause c) (live old) y
    → Drops old new out (Subsumed x.number) → Drops old other another (Subsumed y.number) → (new ≡ other) × (out ≡ another)
subsumed_one problem old sound c new other out another x y h k drop drop2 =
    let e : x ≡ y = least_one (λ p. Subsumes p.clause c) (live old) x y (live_tell problem old sound) h k in
    drops_one old new other out another (Subsumed y.number) (subst (λ (q : Numbered). Drops old new out (Subsumed q.number)) e drop) drop2

meets_one : (problem : Stated) (old : Book) → IsSound problem old → (c : Clause) (lines : List Line) (turn : ℕ) (new other : Book) (out another : Processed)
    → MeetsFate problem old c lines turn new out → MeetsFate problem old c lines turn other another → (new ≡ other) × (out ≡ another)
meets_one problem old sound c lines turn new other out another =
    where_case (λ a b. (a.0 ∙ sym b.0, a.1 ∙ sym b.1))
    (where_case (drops_one old new other out another Taut)
    (where_case (drops_one old new other out another Heavy)
    (where_case (drops_one old new other out another Long)
    (where_case (λ a b. subsumed_one problem old sound c new other out another a.0 b.0 a.1 b.1 a.2 b.2)
    (keeps_one problem old sound c lines turn new other out another)))))

pub processing_is_one : ProcessingIsOne
processing_is_one problem old lines turn new other out another sound h k =
    let same : h.simplified ≡ k.simplified =
    simplifies_one problem.flags problem.params.demod_limit old.demods (live old) (demods_tell problem old sound) (live_tell problem old sound)
    (λ d there. subst (λ (q : Numbered). IsDemodulator q.clause) there.2 (sound.demodulators there.0 d there.1)) lines h.simplified k.simplified h.simplifies k.simplifies in
    let c : h.clause ≡ k.clause = same_some (last_clause k.simplified) h.clause k.clause (subst (λ (ls : List Line). last_clause ls ≡ Some h.clause) same h.clause_last) k.clause_last in
    meets_one problem old sound k.clause k.simplified turn new other out another
    (subst (λ (d : Clause). MeetsFate problem old d k.simplified turn new out) c (subst (λ (ls : List Line). MeetsFate problem old h.clause ls turn new out) same h.fated)) k.fated

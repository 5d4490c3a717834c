-- The first tokens decide how whole problems are read.
use Rattle.std.proofs.Common.{◌≡◌, refl, ℕ, zero, suc, ◌+◌, ◌≤◌, Bool, true, false, List, [], ◌∷◌, ◌++◌, length, Ok, Err, arith}
use Rattle.std.specs.Prelude.{codes}
use Rattle.sc_input_rules.specs.declared.token.Token.{Token}
use Rattle.sc_input_rules.specs.declared.token.Token.TheVariants.{Word, Punctuation, Refused}
use Rattle.sc_input_rules.specs.declared.token.Sign.TheVariants.{Open, Stop}
use Rattle.sc_input_rules.specs.Token.{same_text}
use Rattle.sc_input_rules.specs.Reader.{Read, Name, the_sign, the_word, a_listed_name, is_listed, refused_name, repeated}
use Rattle.sc_input_rules.specs.Syntax.{WrittenClause}
use Rattle.sc_input_rules.specs.ClauseGrammar.{clause}
use Rattle.sc_input_rules.specs.Settings.{item_words, unsupported_items, list_words, unsupported_lists}
use Rattle.sc_input_rules.specs.ProblemGrammar.{Listing, the_close, setting, assignment, ended_clause, listing, next_is_word, item_named, item, at_end, problem, at_proof_or_end, items}
use Rattle.sc_input_rules.proofs.Shrinking.{LeavesAtMost, Shrinks, repeated-shrinks}
use Rattle.sc_input_rules.proofs.Prefix.{Agrees, Good, good_from, good_sign, taken}
use Rattle.sc_input_rules.proofs.PrefixInTurn.{Takes, OkBy, takes_none, takes_sign, bound, good_bind}
use Rattle.sc_input_rules.proofs.PrefixOfClauses.{good_whole, good_map, good_then, good_clause}
use Rattle.sc_input_rules.proofs.PrefixOfItems.{good_listed, good_the_word, good_close, good_setting, good_assignment, good_ended_clause}

two_tests : {A : Type 0} (more : List Token) (b c : Bool) (x x' y y' : Read A) → b ≡ c → Agrees more x x' → Agrees more y y' → Agrees more (elim b [ true ↦ x | false ↦ y ]) (elim c [ true ↦ x' | false ↦ y' ])
two_tests more true true x x' y y' e h k = h
two_tests more true false x x' y y' e h k = absurd cc
two_tests more false true x x' y y' e h k = absurd cc
two_tests more false false x x' y y' e h k = k

-- ---- how many are taken

later : {A : Type 0} (n n' : ℕ) (r : Read A) → n ≤ n' → OkBy 1 n r → OkBy 1 n' r
later n n' (Ok r) le h = omega (arith, le, h)
later n n' (Err f) le h = tt

one_less : {A : Type 0} (n n' : ℕ) (r : Read A) → n + 1 ≤ n' → LeavesAtMost n r → OkBy 1 n' r
one_less n n' (Ok r) le h = omega (arith, le, h)
one_less n n' (Err f) le h = tt

takes_first : {A B : Type 0} (p : List Token → Read A) (k : A → List Token → Read B) → Takes 1 p → ((a : A) → Shrinks (k a)) → Takes 1 (λ ts. bound (p ts) k)
takes_first {A} p k h g ts = by (p ts) (h ts)
  where
    by : (r : Read A) → OkBy 1 (length ts) r → OkBy 1 (length ts) (bound r k)
    by (Ok r) e = one_less (length r.1) (length ts) (k r.0 r.1) e (g r.0 r.1)
    by (Err f) e = tt

takes_second : {A B : Type 0} (p : List Token → Read A) (k : A → List Token → Read B) → Shrinks p → ((a : A) → Takes 1 (k a)) → Takes 1 (λ ts. bound (p ts) k)
takes_second {A} p k h g ts = by (p ts) (h ts)
  where
    by : (r : Read A) → LeavesAtMost (length ts) r → OkBy 1 (length ts) (bound r k)
    by (Ok r) e = later (length r.1) (length ts) (k r.0 r.1) e (g r.0 r.1)
    by (Err f) e = tt

takes_ended_clause : Takes 1 ended_clause
takes_ended_clause = takes_second clause (λ c ts. bound (the_sign Stop ts) (λ u ts. Ok (c, ts))) (good_clause 0 0).short (λ c. takes_first (the_sign Stop) (λ u ts. Ok (c, ts)) (takes_sign Stop) (λ u ts. omega arith))

takes_listed : (names unsupported : List (List ℕ)) → Takes 1 (a_listed_name names unsupported)
takes_listed names unsupported [] = tt
takes_listed names unsupported (Punctuation at s ∷ ts) = tt
takes_listed names unsupported (Refused at kind ∷ ts) = tt
takes_listed names unsupported (Word at text ∷ ts) = by (is_listed names (record { at = at; text = text })) (is_listed unsupported (record { at = at; text = text }))
  where
    by : (b c : Bool) → OkBy {A = Name} 1 (length (Word at text ∷ ts)) (elim b [ true ↦ Ok (record { at = at; text = text }, ts) | false ↦ refused_name c (Word at text ∷ ts) ])
    by true c = omega arith
    by false true = tt
    by false false = tt

-- ---- several times

good_repeated : {A : Type 0} (n m : ℕ) (ends : List Token → Bool) (one : List Token → Read A) → ((t : Token) (ts us : List Token) → ends (t ∷ ts) ≡ ends (t ∷ us)) → Takes 1 one → Good n m one one
    → Good n m (repeated ends one n) (repeated ends one m)
good_repeated zero m ends one h takes g = good_from zero m _ _ (repeated-shrinks ends one zero g.short) (repeated-shrinks ends one m g.short) (λ t front more e e'. absurd (omega (arith, e)))
good_repeated (suc n) zero ends one h takes g = good_from (suc n) zero _ _ (repeated-shrinks ends one (suc n) g.short) (repeated-shrinks ends one zero g.short) (λ t front more e e'. absurd (omega (arith, e')))
good_repeated (suc n) (suc m) ends one h takes g =
    let smaller : Good n m one one = record { short = g.short; long = g.long; agrees = λ front more e e'. g.agrees front more (omega (arith, e)) (omega (arith, e')) } in
    let both = good_bind (suc n) (suc m) n m 1 one one (λ x ts. bound (repeated ends one n ts) (λ xs ts. Ok (x ∷ xs, ts))) (λ x ts. bound (repeated ends one m ts) (λ xs ts. Ok (x ∷ xs, ts))) (omega arith) (omega arith) g takes (λ x.
    good_bind n m n m 0 (repeated ends one n) (repeated ends one m) (λ xs ts. Ok (x ∷ xs, ts)) (λ xs ts. Ok (x ∷ xs, ts)) (omega arith) (omega arith) (good_repeated n m ends one h takes smaller)
    (takes_none (repeated ends one n) (repeated-shrinks ends one n g.short)) (λ xs. record { short = λ ts. omega arith; long = λ ts. omega arith; agrees = λ front more e e'. taken (x ∷ xs) front more })) in
    good_from (suc n) (suc m) _ _ (repeated-shrinks ends one (suc n) g.short) (repeated-shrinks ends one (suc m) g.short) (λ t front more e e'.
    two_tests more (ends (t ∷ front)) (ends (t ∷ (front ++ more))) (Ok ([], t ∷ front)) (Ok ([], t ∷ (front ++ more)))
    (bound (one (t ∷ front)) (λ x ts. bound (repeated ends one n ts) (λ xs ts. Ok (x ∷ xs, ts)))) (bound (one (t ∷ (front ++ more))) (λ x ts. bound (repeated ends one m ts) (λ xs ts. Ok (x ∷ xs, ts))))
    (h t front (front ++ more)) (taken [] (t ∷ front) more) (both.agrees (t ∷ front) more e e'))

-- ---- items

abbrev clauses_at : List Token → Read (List WrittenClause)
clauses_at ts = repeated (next_is_word (codes "end_of_list")) ended_clause (length ts) ts

good_clauses : (n m : ℕ) → Good n m clauses_at clauses_at
good_clauses n m =
    good_whole (repeated (next_is_word (codes "end_of_list")) ended_clause) (λ n. repeated-shrinks _ ended_clause n (good_ended_clause 0 0).short)
    (λ n m. good_repeated n m (next_is_word (codes "end_of_list")) ended_clause (λ t ts us. refl) takes_ended_clause (good_ended_clause n m)) n m

good_listing : (n m : ℕ) → Good n m listing listing
good_listing n m =
    good_then n m (the_sign Open) (λ u ts. bound (a_listed_name list_words unsupported_lists ts) (λ w ts. bound (the_close ts) (λ u ts. bound (clauses_at ts) (λ cs ts. bound (the_word (codes "end_of_list") ts) (λ u ts. bound (the_sign Stop ts) (λ u ts. Ok (Listing w cs, ts))))))) (good_sign n m Open) (λ u.
    good_then n m (a_listed_name list_words unsupported_lists) (λ w ts. bound (the_close ts) (λ u ts. bound (clauses_at ts) (λ cs ts. bound (the_word (codes "end_of_list") ts) (λ u ts. bound (the_sign Stop ts) (λ u ts. Ok (Listing w cs, ts)))))) (good_listed n m list_words unsupported_lists) (λ w.
    good_then n m the_close (λ u ts. bound (clauses_at ts) (λ cs ts. bound (the_word (codes "end_of_list") ts) (λ u ts. bound (the_sign Stop ts) (λ u ts. Ok (Listing w cs, ts))))) (good_close n m) (λ u.
    good_then n m clauses_at (λ cs ts. bound (the_word (codes "end_of_list") ts) (λ u ts. bound (the_sign Stop ts) (λ u ts. Ok (Listing w cs, ts)))) (good_clauses n m) (λ cs.
    good_then n m (the_word (codes "end_of_list")) (λ u ts. bound (the_sign Stop ts) (λ u ts. Ok (Listing w cs, ts))) (good_the_word n m (codes "end_of_list")) (λ u.
    good_map n m (the_sign Stop) (λ u. Listing w cs) (good_sign n m Stop))))))

good_if : {A : Type 0} (n m : ℕ) (b : Bool) (p q : List Token → Read A) → Good n m p p → Good n m q q → Good n m (λ ts. elim b [ true ↦ p ts | false ↦ q ts ]) (λ ts. elim b [ true ↦ p ts | false ↦ q ts ])
good_if n m true p q g h = g
good_if n m false p q g h = h

good_item_named : (n m : ℕ) (name : List ℕ) → Good n m (item_named name) (item_named name)
good_item_named n m name =
    let third = good_if n m (same_text name (codes "assign")) assignment listing (good_assignment n m) (good_listing n m) in
    let second = good_if n m (same_text name (codes "clear")) (setting false) (λ ts. elim (same_text name (codes "assign")) [ true ↦ assignment ts | false ↦ listing ts ]) (good_setting n m false) third in
    good_if n m (same_text name (codes "set")) (setting true) (λ ts. elim (same_text name (codes "clear")) [ true ↦ setting false ts | false ↦ elim (same_text name (codes "assign")) [ true ↦ assignment ts | false ↦ listing ts ] ]) (good_setting n m true) second

good_item : (n m : ℕ) → Good n m item item
good_item n m = good_then n m (a_listed_name item_words unsupported_items) (λ w ts. item_named w.text ts) (good_listed n m item_words unsupported_items) (λ w. good_item_named n m w.text)

takes_item : Takes 1 item
takes_item = takes_first (a_listed_name item_words unsupported_items) (λ w ts. item_named w.text ts) (takes_listed item_words unsupported_items) (λ w. (good_item_named 0 0 w.text).short)

-- ---- problems

pub good_problem : (n m : ℕ) → Good n m problem problem
good_problem n m = good_whole (repeated at_end item) (λ n. repeated-shrinks at_end item n (good_item 0 0).short) (λ n m. good_repeated n m at_end item (λ t ts us. refl) takes_item (good_item n m)) n m

pub good_items : (n m : ℕ) → Good n m items items
good_items n m = good_whole (repeated at_proof_or_end item) (λ n. repeated-shrinks at_proof_or_end item n (good_item 0 0).short) (λ n m. good_repeated n m at_proof_or_end item (λ t ts us. refl) takes_item (good_item n m)) n m

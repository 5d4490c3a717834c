-- What a problem's items hold, where they are read and no limit is passed: the clauses as trees, with what each keeps.
use Rattle.std.proofs.Common.{◌≡◌, ◌∙◌, sym, ap, subst, refl, ℕ, zero, suc, ◌-◌, Bool, true, false, List, [], ◌∷◌, ◌++◌, map, take, length, length-append, append_assoc, None, Ok, arith}
use Rattle.std.specs.Prelude.{codes, ◌||◌}
use Rattle.std.specs.List.{AllByRecursion, list_any}
use Rattle.std.specs.Cmp.Lexicographic.{bytes_decides}
use Rattle.std.proofs.lemmas.List.{append-nil, map-append}
use Rattle.std.proofs.Math.Seq.{take-append_seam}
use Rattle.sc_term.proofs.SubstitutionLaws.{all_join}
use Rattle.sc_input_rules.specs.declared.settings.Home.{Home}
use Rattle.sc_input_rules.specs.declared.token.Token.{Token}
use Rattle.sc_input_rules.specs.declared.token.Token.TheVariants.{Word}
use Rattle.sc_input_rules.specs.Token.{same_text}
use Rattle.sc_input_rules.specs.Reader.{◌>>=◌, unexpected, a_listed_name, repeated}
use Rattle.sc_input_rules.specs.Settings.{item_words, unsupported_items}
use Rattle.sc_input_rules.specs.ProblemGrammar.{Item, setting, assignment, listing, item_named, item, at_end, problem, at_proof_or_end, items}
use Rattle.sc_input_rules.specs.Problem.{listed_clauses}
use Rattle.sc_input_rules.specs.Faults.{first_passed, before}
use Rattle.sc_input_rules.specs.ProblemLimits.{problem_bounds, problem_fault_at}
use Rattle.sc_input_rules.proofs.Taken.{Gives, both, same}
use Rattle.sc_input_rules.proofs.Unpassed.{unpassed_split}
use Rattle.sc_input_rules.proofs.Standing.{AreWhole, Stands}
use Rattle.sc_input_rules.proofs.Tokenized.{AreTokenized, tokenized_split}
use Rattle.sc_input_rules.proofs.ClauseWithin.{IsUnpassed}
use Rattle.sc_input_rules.proofs.ListedRead.{IsAdmitted}
use Rattle.sc_input_rules.proofs.ItemWords.{listed_taken}
use Rattle.sc_input_rules.proofs.ItemsRead.{NumberFits, Homed, as_tokens, as_written, ItemRead, setting_read}
use Rattle.sc_input_rules.proofs.AssignmentRead.{assignment_read}
use Rattle.sc_input_rules.proofs.ListingRead.{listing_read}

-- ---- an item

last_word : (a b c d : Bool) → (a || (b || (c || (d || false)))) ≡ true → a ≡ false → b ≡ false → c ≡ false → d ≡ true
last_word true b c d e ha hb hc = absurd cc
last_word false true c d e ha hb hc = absurd cc
last_word false false true d e ha hb hc = absurd cc
last_word false false false true e ha hb hc = refl
last_word false false false false e ha hb hc = absurd cc

named_read : (at : ℕ) (text : List ℕ) (ts : List Token) (i : Item) (left : List Token) → list_any (same_text text) item_words ≡ true → Gives (item_named text ts) i left → ItemRead (Word at text ∷ ts) i left
named_read at text ts i left l e = by (same_text text (codes "set")) (same_text text (codes "clear")) (same_text text (codes "assign")) refl refl refl e
  where
    is_word_of : (name : List ℕ) → same_text text name ≡ true → text ≡ name
    is_word_of name h = (bytes_decides text name).0 h

    by : (a b c : Bool) → same_text text (codes "set") ≡ a → same_text text (codes "clear") ≡ b → same_text text (codes "assign") ≡ c
        → Gives (elim a [
          | true ↦ setting true ts
          | false ↦ elim b [ true ↦ setting false ts | false ↦ elim c [ true ↦ assignment ts | false ↦ listing ts ] ]
        ]) i left → ItemRead (Word at text ∷ ts) i left
    by true b c ha hb hc e = setting_read true at text (codes "set") ts i left (is_word_of (codes "set") ha) refl e
    by false true c ha hb hc e = setting_read false at text (codes "clear") ts i left (is_word_of (codes "clear") hb) refl e
    by false false true ha hb hc e = assignment_read at text ts i left (is_word_of (codes "assign") hc) e
    by false false false ha hb hc e = listing_read at text ts i left (is_word_of (codes "list") (last_word _ _ _ _ l ha hb hc)) e

pub item_read : (ts : List Token) (i : Item) (left : List Token) → Gives (item ts) i left → ItemRead ts i left
item_read ts i left e =
    let b = both (a_listed_name item_words unsupported_items ts) _ i left e in
    let w = listed_taken item_words unsupported_items ts b.value b.left b.first in
    subst (λ ts. ItemRead ts i left) (sym w.tokens) (named_read b.value.at b.value.text b.left i left w.listed b.second)

-- ---- items

record ItemsHold (earlier ts : List Token) (before : List (Home × List Token)) (is : List Item) : Type 0 where
  trees : List Homed
  written : listed_clauses is ≡ map as_written trees
  admitted : AllByRecursion (λ (c : Homed). IsAdmitted c.1) trees
  numbers : AllByRecursion NumberFits is
  stands : Stands (earlier ++ ts) None (before ++ map as_tokens trees)

record ItemsRead (ts : List Token) (is : List Item) (left : List Token) : Type 0 where
  taken : List Token
  tokens : ts ≡ taken ++ left
  holds : (earlier : List Token) (before : List (Home × List Token)) → Stands earlier None before → IsUnpassed earlier taken → AreTokenized taken → ItemsHold earlier taken before is

no_items : (ts left : List Token) → ts ≡ left → ItemsRead ts [] left
no_items ts left e =
    record {
      taken = [];
      tokens = e;
      holds = λ earlier before st u tokenized.
          record {
            trees = [];
            written = refl;
            admitted = tt;
            numbers = tt;
            stands = subst (λ us. Stands us None (before ++ [])) (sym (append-nil earlier)) (subst (Stands earlier None) (sym (append-nil before)) st);
          };
    }

one_more_item : (ts us left : List Token) (i : Item) (is : List Item) → ItemRead ts i us → ItemsRead us is left → ItemsRead ts (i ∷ is) left
one_more_item ts us left i is r m =
    record {
      taken = r.taken ++ m.taken;
      tokens = r.tokens ∙ ap (λ us. r.taken ++ us) m.tokens ∙ sym (append_assoc r.taken m.taken left);
      holds = λ earlier before st u tokenized.
          let parts = unpassed_split (problem_fault_at problem_bounds) earlier r.taken m.taken u in
          let halves = tokenized_split r.taken m.taken tokenized in
          let one = r.holds earlier before st parts.0 halves.0 in
          let rest = m.holds (earlier ++ r.taken) (before ++ map as_tokens one.trees) one.stands parts.1 halves.1 in
          record {
            trees = one.trees ++ rest.trees;
            written = (λ j. one.written j ++ rest.written j) ∙ sym (map-append as_written one.trees rest.trees);
            admitted = all_join (λ (c : Homed). IsAdmitted c.1) one.trees rest.trees one.admitted rest.admitted;
            numbers = (one.number, rest.numbers);
            stands = subst (λ us. Stands us None (before ++ map as_tokens (one.trees ++ rest.trees))) (append_assoc earlier r.taken m.taken)
                (subst (λ new. Stands ((earlier ++ r.taken) ++ m.taken) None new)
                (append_assoc before (map as_tokens one.trees) (map as_tokens rest.trees) ∙ ap (λ new. before ++ new) (sym (map-append as_tokens one.trees rest.trees))) rest.stands);
          };
    }

items_read : (ends : List Token → Bool) (n : ℕ) (ts : List Token) (is : List Item) (left : List Token) → Gives (repeated ends item n ts) is left → ItemsRead ts is left
items_read ends zero ts is left e = by (ends ts) e
  where
    by : (b : Bool) → Gives (elim b [ true ↦ Ok ([], ts) | false ↦ unexpected ts ]) is left → ItemsRead ts is left
    by true e = let z = same [] is ts left e in subst (λ is. ItemsRead ts is left) z.value (no_items ts left z.left)
    by false e = absurd cc
items_read ends (suc n) ts is left e = by (ends ts) e (items_read ends n)
  where
    by : (b : Bool) → Gives (elim b [ true ↦ Ok ([], ts) | false ↦ item ts >>= λ first. repeated ends item n first.1 >>= λ others. Ok (first.0 ∷ others.0, others.1) ]) is left
        → ((ts : List Token) (is : List Item) (left : List Token) → Gives (repeated ends item n ts) is left → ItemsRead ts is left) → ItemsRead ts is left
    by true e ih = let z = same [] is ts left e in subst (λ is. ItemsRead ts is left) z.value (no_items ts left z.left)
    by false e ih =
        let b = both (item ts) _ is left e in
        let d = both (repeated ends item n b.left) _ is left b.second in
        let z = same (b.value ∷ d.value) is d.left left d.second in
        subst (λ is. ItemsRead ts is left) z.value
        (one_more_item ts b.left left b.value d.value (item_read ts b.value b.left b.first) (subst (ItemsRead b.left d.value) z.left (ih b.left d.value d.left d.first)))

-- ---- problems

-- what the items of a problem hold
pub record AreSound (is : List Item) : Type 0 where
  pub trees : List Homed
  pub written : listed_clauses is ≡ map as_written trees
  pub admitted : AllByRecursion (λ (c : Homed). IsAdmitted c.1) trees
  pub numbers : AllByRecursion NumberFits is
  pub whole : AreWhole (map as_tokens trees)

begins : Stands [] None []
begins = record { before = []; cut = refl; home_is = refl; clauses = refl; whole = record { few = omega arith; symbols = refl; demodulators = refl } }

take_front : (xs ys : List Token) → take (length (xs ++ ys) - length ys) (xs ++ ys) ≡ xs
take_front xs ys =
    let e : length (xs ++ ys) - length ys ≡ length xs = omega (arith, length-append xs ys) in
    ap (λ (n : ℕ). take n (xs ++ ys)) e ∙ take-append_seam xs ys

sound_from : (ts : List Token) (is : List Item) (left : List Token) → ItemsRead ts is left → first_passed (problem_fault_at problem_bounds) (before left ts) ≡ None → AreTokenized (before left ts) → AreSound is
sound_from ts is left r u tokenized =
    let cut : before left ts ≡ r.taken = ap (before left) r.tokens ∙ take_front r.taken left in
    let h = r.holds [] [] begins (subst (IsUnpassed []) cut u) (subst AreTokenized cut tokenized) in
    record { trees = h.trees; written = h.written; admitted = h.admitted; numbers = h.numbers; whole = h.stands.whole }

pub problem_sound : (ts : List Token) (is : List Item) (left : List Token) → Gives (problem ts) is left → first_passed (problem_fault_at problem_bounds) (before left ts) ≡ None → AreTokenized (before left ts) → AreSound is
problem_sound ts is left e = sound_from ts is left (items_read at_end (length ts) ts is left e)

pub items_sound : (ts : List Token) (is : List Item) (left : List Token) → Gives (items ts) is left → first_passed (problem_fault_at problem_bounds) (before left ts) ≡ None → AreTokenized (before left ts) → AreSound is
items_sound ts is left e = sound_from ts is left (items_read at_proof_or_end (length ts) ts is left e)

-- What a production leaves is an end of what it was given.
use Rattle.std.proofs.Common.{◌≡◌, ◌∙◌, sym, ap, refl, ℕ, zero, suc, Bool, true, false, List, [], ◌∷◌, ◌++◌, length, Ok, Err, append_assoc}
use Rattle.std.specs.Prelude.{codes}
use Rattle.std.specs.List.{list_all}
use Rattle.sc_input_rules.specs.declared.token.Token.{Token}
use Rattle.sc_input_rules.specs.declared.token.Token.TheVariants.{Word, Punctuation, Refused}
use Rattle.sc_input_rules.specs.declared.token.Sign.{Sign}
use Rattle.sc_input_rules.specs.declared.token.Sign.TheVariants.{Open, Close, Comma, Stop, Bar, Minus, Equal, Unequal, Colon}
use Rattle.sc_input_rules.specs.Token.{is_sign, is_word, same_text}
use Rattle.sc_input_rules.specs.Tokens.{is_digit}
use Rattle.sc_input_rules.specs.Reader.{Read, ◌>>=◌, unexpected, next_is, the_sign, the_word, a_word, a_name, Name, separated, repeated, is_listed, refused_name, a_listed_name}
use Rattle.sc_input_rules.specs.declared.written.WrittenLiteral.{WrittenLiteral}
use Rattle.sc_input_rules.specs.Syntax.{Side}
use Rattle.sc_input_rules.specs.ClauseGrammar.{bracketed, arguments, side_within, side, right_of, equation, atom_of, is_equality, plain_literal, bracketed_or, negative_atom, negated, literal, without_first, clause}
use Rattle.sc_input_rules.specs.Settings.{item_words, unsupported_items, list_words, unsupported_lists, flag_words, unsupported_flags, parameter_words, unsupported_parameters}
use Rattle.sc_input_rules.specs.ProblemGrammar.{value_of, a_numeral, number, the_close, setting, assignment, ended_clause, next_is_word, listing, item_named, item, at_end, problem, at_proof_or_end, items}
use Rattle.sc_input_rules.proofs.Shrinking.{left_of}

pub record IsEnd (whole left : List Token) : Type 0 where
  pub used : List Token
  pub is : whole ≡ used ++ left

abbrev pub Leaves : {A : Type 0} → List Token → Read A → Type 0
Leaves whole r = IsEnd whole (left_of r)

abbrev pub LeavesEnd : {A : Type 0} → (List Token → Read A) → Type 0
LeavesEnd p = (tokens : List Token) → Leaves tokens (p tokens)

pub all_left : (ts : List Token) → IsEnd ts ts
all_left ts = record { used = []; is = refl }

pub one_used : (t : Token) (ts : List Token) → IsEnd (t ∷ ts) ts
one_used t ts = record { used = t ∷ []; is = refl }

pub end_of_end : (a b c : List Token) → IsEnd a b → IsEnd b c → IsEnd a c
end_of_end a b c h k = record { used = h.used ++ k.used; is = h.is ∙ ap (λ l. h.used ++ l) k.is ∙ sym (append_assoc h.used k.used c) }

-- ---- joining

pub in_turn : {A B : Type 0} (whole : List Token) (r : Read A) (f : A × List Token → Read B) → Leaves whole r → ((v : A × List Token) → IsEnd whole v.1 → Leaves whole (f v)) → Leaves whole (r >>= f)
in_turn whole (Ok v) f h k = k v h
in_turn whole (Err e) f h k = h

pub behind : {A : Type 0} (p : List Token → Read A) (whole tokens : List Token) → LeavesEnd p → IsEnd whole tokens → Leaves whole (p tokens)
behind p whole tokens h e = end_of_end whole tokens (left_of (p tokens)) e (h tokens)

pub either : {A : Type 0} (whole : List Token) (b : Bool) (x y : Read A) → Leaves whole x → Leaves whole y → Leaves whole (elim b [ true ↦ x | false ↦ y ])
either whole true x y h k = h
either whole false x y h k = k

-- ---- one token

pub the_sign-end : (s : Sign) → LeavesEnd (the_sign s)
the_sign-end s [] = all_left []
the_sign-end s (t ∷ ts) = either (t ∷ ts) (is_sign s t) (Ok (tt, ts)) (unexpected (t ∷ ts)) (one_used t ts) (all_left (t ∷ ts))

pub a_word-end : LeavesEnd a_word
a_word-end [] = all_left []
a_word-end (Word at text ∷ ts) = one_used (Word at text) ts
a_word-end (Punctuation at s ∷ ts) = all_left (Punctuation at s ∷ ts)
a_word-end (Refused at kind ∷ ts) = all_left (Refused at kind ∷ ts)

pub the_word-end : (name : List ℕ) → LeavesEnd (the_word name)
the_word-end name ts = in_turn ts (a_word ts) _ (a_word-end ts) (λ w e. either ts (same_text name w.0.text) (Ok (tt {0}, w.1)) (unexpected ts) e (all_left ts))

pub a_name-end : LeavesEnd a_name
a_name-end ts = in_turn ts (a_word ts) _ (a_word-end ts) (λ w e. either ts (same_text (codes "$F") w.0.text) (unexpected ts) (Ok w) (all_left ts) e)

refused-end : (b : Bool) (ts : List Token) → Leaves {A = Name} ts (refused_name b ts)
refused-end true ts = all_left ts
refused-end false ts = all_left ts

pub a_listed_name-end : (names unsupported : List (List ℕ)) → LeavesEnd (a_listed_name names unsupported)
a_listed_name-end names unsupported ts =
    in_turn ts (a_word ts) _ (a_word-end ts)
    (λ w e. either ts (is_listed names w.0) (Ok w) (refused_name (is_listed unsupported w.0) ts) e (refused-end (is_listed unsupported w.0) ts))

-- ---- several

pub separated-end : {A : Type 0} (s : Sign) (one : List Token → Read A) (n : ℕ) → LeavesEnd one → LeavesEnd (separated s one n)
separated-end s one zero h ts = all_left ts
separated-end s one (suc n) h ts =
    in_turn ts (one ts) _ (h ts) (λ first e.
    either ts (next_is (is_sign s) first.1)
    (the_sign s first.1 >>= λ t. separated s one n t.1 >>= λ others. Ok (first.0 ∷ others.0, others.1)) (Ok (first.0 ∷ [], first.1))
    (in_turn ts (the_sign s first.1) _ (behind (the_sign s) ts first.1 (the_sign-end s) e) (λ t e'.
    in_turn ts (separated s one n t.1) _ (behind (separated s one n) ts t.1 (separated-end s one n h) e') (λ others e''. e''))) e)

pub repeated-end : {A : Type 0} (ends : List Token → Bool) (one : List Token → Read A) (n : ℕ) → LeavesEnd one → LeavesEnd (repeated ends one n)
repeated-end ends one zero h ts = either ts (ends ts) (Ok ([], ts)) (unexpected ts) (all_left ts) (all_left ts)
repeated-end ends one (suc n) h ts =
    either ts (ends ts) (Ok ([], ts)) (one ts >>= λ first. repeated ends one n first.1 >>= λ others. Ok (first.0 ∷ others.0, others.1)) (all_left ts)
    (in_turn ts (one ts) _ (h ts) (λ first e.
    in_turn ts (repeated ends one n first.1) _ (behind (repeated ends one n) ts first.1 (repeated-end ends one n h) e) (λ others e'. e')))

-- ---- clauses

pub bracketed-end : {A : Type 0} (inside : List Token → Read A) → LeavesEnd inside → LeavesEnd (bracketed inside)
bracketed-end inside h ts =
    in_turn ts (the_sign Open ts) _ (the_sign-end Open ts) (λ o e.
    in_turn ts (inside o.1) _ (behind inside ts o.1 h e) (λ v e'.
    in_turn ts (the_sign Close v.1) _ (behind (the_sign Close) ts v.1 (the_sign-end Close) e') (λ c e''. e'')))

arguments-end : (inside : List Token → Read (List Side)) → LeavesEnd inside → LeavesEnd (arguments inside)
arguments-end inside h ts = either ts (next_is (is_sign Open) ts) (bracketed inside ts) (Ok ([], ts)) (bracketed-end inside h ts) (all_left ts)

side_within-end : (n : ℕ) → LeavesEnd (side_within n)
side_within-end zero ts = all_left ts
side_within-end (suc n) ts =
    in_turn ts (a_name ts) _ (a_name-end ts) (λ name e.
    in_turn ts (arguments (separated Comma (side_within n) n) name.1) _
    (behind (arguments (separated Comma (side_within n) n)) ts name.1 (arguments-end (separated Comma (side_within n) n) (separated-end Comma (side_within n) n (side_within-end n))) e) (λ args e'. e'))

pub side-end : LeavesEnd side
side-end ts = side_within-end (length ts) ts

right_of-end : (left : Side) → LeavesEnd (right_of left)
right_of-end left [] = all_left []
right_of-end left (Word at text ∷ ts) = all_left (Word at text ∷ ts)
right_of-end left (Refused at kind ∷ ts) = all_left (Refused at kind ∷ ts)
right_of-end left (Punctuation at Equal ∷ ts) = in_turn (Punctuation at Equal ∷ ts) (side ts) _ (behind side _ ts side-end (one_used _ ts)) (λ r e. e)
right_of-end left (Punctuation at Unequal ∷ ts) = in_turn (Punctuation at Unequal ∷ ts) (side ts) _ (behind side _ ts side-end (one_used _ ts)) (λ r e. e)
right_of-end left (Punctuation at Open ∷ ts) = all_left (Punctuation at Open ∷ ts)
right_of-end left (Punctuation at Close ∷ ts) = all_left (Punctuation at Close ∷ ts)
right_of-end left (Punctuation at Comma ∷ ts) = all_left (Punctuation at Comma ∷ ts)
right_of-end left (Punctuation at Stop ∷ ts) = all_left (Punctuation at Stop ∷ ts)
right_of-end left (Punctuation at Bar ∷ ts) = all_left (Punctuation at Bar ∷ ts)
right_of-end left (Punctuation at Minus ∷ ts) = all_left (Punctuation at Minus ∷ ts)
right_of-end left (Punctuation at Colon ∷ ts) = all_left (Punctuation at Colon ∷ ts)

equation-end : LeavesEnd equation
equation-end ts = in_turn ts (side ts) _ (side-end ts) (λ l e. behind (right_of l.0) ts l.1 (right_of-end l.0) e)

atom_of-end : (positive : Bool) (s : Side) → LeavesEnd (atom_of positive s)
atom_of-end positive [] ts = all_left ts
atom_of-end positive (o ∷ os) ts = all_left ts

plain_literal-end : LeavesEnd plain_literal
plain_literal-end ts =
    in_turn ts (side ts) _ (side-end ts) (λ s e.
    either ts (next_is is_equality s.1) (right_of s.0 s.1) (atom_of true s.0 s.1) (behind (right_of s.0) ts s.1 (right_of-end s.0) e) (behind (atom_of true s.0) ts s.1 (atom_of-end true s.0) e))

bracketed_or-end : (other : List Token → Read WrittenLiteral) → LeavesEnd other → LeavesEnd (bracketed_or other)
bracketed_or-end other h ts = either ts (next_is (is_sign Open) ts) (bracketed equation ts) (other ts) (bracketed-end equation equation-end ts) (h ts)

negative_atom-end : LeavesEnd negative_atom
negative_atom-end ts = in_turn ts (side ts) _ (side-end ts) (λ s e. behind (atom_of true s.0) ts s.1 (atom_of-end true s.0) e)

literal-end : LeavesEnd literal
literal-end ts =
    either ts (next_is (is_sign Minus) ts)
    (the_sign Minus ts >>= λ minus. bracketed_or negative_atom minus.1 >>= λ l. Ok (negated l.0, l.1)) (bracketed_or plain_literal ts)
    (in_turn ts (the_sign Minus ts) _ (the_sign-end Minus ts) (λ m e.
    in_turn ts (bracketed_or negative_atom m.1) _ (behind (bracketed_or negative_atom) ts m.1 (bracketed_or-end negative_atom negative_atom-end) e) (λ l e'. e')))
    (bracketed_or-end plain_literal plain_literal-end ts)

without_first-end : LeavesEnd without_first
without_first-end [] = all_left []
without_first-end (t ∷ ts) = one_used t ts

pub clause-end : LeavesEnd clause
clause-end ts =
    either ts (next_is (is_word (codes "$F")) ts) (without_first ts) (separated Bar literal (length ts) ts)
    (without_first-end ts) (separated-end Bar literal (length ts) literal-end ts)

-- ---- items

a_numeral-end : LeavesEnd a_numeral
a_numeral-end ts = in_turn ts (a_word ts) _ (a_word-end ts) (λ w e. either ts (list_all is_digit w.0.text) (Ok (value_of w.0.text, w.1)) (unexpected ts) e (all_left ts))

number-end : LeavesEnd number
number-end [] = a_numeral-end []
number-end (Word at text ∷ ts) = a_numeral-end (Word at text ∷ ts)
number-end (Refused at kind ∷ ts) = a_numeral-end (Refused at kind ∷ ts)
number-end (Punctuation at Minus ∷ ts) = in_turn (Punctuation at Minus ∷ ts) (a_numeral ts) _ (behind a_numeral _ ts a_numeral-end (one_used _ ts)) (λ n e. e)
number-end (Punctuation at Open ∷ ts) = a_numeral-end (Punctuation at Open ∷ ts)
number-end (Punctuation at Close ∷ ts) = a_numeral-end (Punctuation at Close ∷ ts)
number-end (Punctuation at Comma ∷ ts) = a_numeral-end (Punctuation at Comma ∷ ts)
number-end (Punctuation at Stop ∷ ts) = a_numeral-end (Punctuation at Stop ∷ ts)
number-end (Punctuation at Bar ∷ ts) = a_numeral-end (Punctuation at Bar ∷ ts)
number-end (Punctuation at Equal ∷ ts) = a_numeral-end (Punctuation at Equal ∷ ts)
number-end (Punctuation at Unequal ∷ ts) = a_numeral-end (Punctuation at Unequal ∷ ts)
number-end (Punctuation at Colon ∷ ts) = a_numeral-end (Punctuation at Colon ∷ ts)

the_close-end : LeavesEnd the_close
the_close-end ts = in_turn ts (the_sign Close ts) _ (the_sign-end Close ts) (λ c e. behind (the_sign Stop) ts c.1 (the_sign-end Stop) e)

setting-end : (positive : Bool) → LeavesEnd (setting positive)
setting-end positive ts =
    in_turn ts (the_sign Open ts) _ (the_sign-end Open ts) (λ o e.
    in_turn ts (a_listed_name flag_words unsupported_flags o.1) _ (behind (a_listed_name flag_words unsupported_flags) ts o.1 (a_listed_name-end flag_words unsupported_flags) e) (λ n e'.
    in_turn ts (the_close n.1) _ (behind the_close ts n.1 the_close-end e') (λ c e''. e'')))

assignment-end : LeavesEnd assignment
assignment-end ts =
    in_turn ts (the_sign Open ts) _ (the_sign-end Open ts) (λ o e.
    in_turn ts (a_listed_name parameter_words unsupported_parameters o.1) _ (behind (a_listed_name parameter_words unsupported_parameters) ts o.1 (a_listed_name-end parameter_words unsupported_parameters) e) (λ n e'.
    in_turn ts (the_sign Comma n.1) _ (behind (the_sign Comma) ts n.1 (the_sign-end Comma) e') (λ c e''.
    in_turn ts (number c.1) _ (behind number ts c.1 number-end e'') (λ v e'''.
    in_turn ts (the_close v.1) _ (behind the_close ts v.1 the_close-end e''') (λ z e''''. e'''')))))

ended_clause-end : LeavesEnd ended_clause
ended_clause-end ts =
    in_turn ts (clause ts) _ (clause-end ts) (λ c e.
    in_turn ts (the_sign Stop c.1) _ (behind (the_sign Stop) ts c.1 (the_sign-end Stop) e) (λ s e'. e'))

listing-end : LeavesEnd listing
listing-end ts =
    in_turn ts (the_sign Open ts) _ (the_sign-end Open ts) (λ o e.
    in_turn ts (a_listed_name list_words unsupported_lists o.1) _ (behind (a_listed_name list_words unsupported_lists) ts o.1 (a_listed_name-end list_words unsupported_lists) e) (λ n e'.
    in_turn ts (the_close n.1) _ (behind the_close ts n.1 the_close-end e') (λ b e''.
    in_turn ts (repeated (next_is_word (codes "end_of_list")) ended_clause (length b.1) b.1) _
    (behind (repeated (next_is_word (codes "end_of_list")) ended_clause (length b.1)) ts b.1 (repeated-end (next_is_word (codes "end_of_list")) ended_clause (length b.1) ended_clause-end) e'') (λ cs e'''.
    in_turn ts (the_word (codes "end_of_list") cs.1) _ (behind (the_word (codes "end_of_list")) ts cs.1 (the_word-end (codes "end_of_list")) e''') (λ w e''''.
    in_turn ts (the_sign Stop w.1) _ (behind (the_sign Stop) ts w.1 (the_sign-end Stop) e'''') (λ s e'''''. e'''''))))))

item_named-end : (name : List ℕ) → LeavesEnd (item_named name)
item_named-end name ts =
    let third = either ts (same_text name (codes "assign")) (assignment ts) (listing ts) (assignment-end ts) (listing-end ts) in
    let second = either ts (same_text name (codes "clear")) (setting false ts) (elim (same_text name (codes "assign")) [ true ↦ assignment ts | false ↦ listing ts ]) (setting-end false ts) third in
    either ts (same_text name (codes "set")) (setting true ts) (elim (same_text name (codes "clear")) [ true ↦ setting false ts | false ↦ elim (same_text name (codes "assign")) [ true ↦ assignment ts | false ↦ listing ts ] ]) (setting-end true ts) second

item-end : LeavesEnd item
item-end ts =
    in_turn ts (a_listed_name item_words unsupported_items ts) _ (a_listed_name-end item_words unsupported_items ts) (λ n e.
    behind (item_named n.0.text) ts n.1 (item_named-end n.0.text) e)

-- ---- problems

pub problem-end : LeavesEnd problem
problem-end ts = repeated-end at_end item (length ts) item-end ts

pub items-end : LeavesEnd items
items-end ts = repeated-end at_proof_or_end item (length ts) item-end ts

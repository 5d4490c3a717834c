-- Words spell one list of options, and how what is kept of them goes on from option to option.
use Rattle.std.proofs.Common.{◌≡◌, ◌≤◌, ◌∙◌, sym, ap, refl, subst, inl, inr, ℕ, Bool, true, false, true≢false, List, [], ◌∷◌, ◌++◌, map, filter, length, ◌==◌, append_assoc, append-nil, arith}
use Rattle.std.specs.Prelude.{◌≢◌, Option, Some, None, IfSome, String, string_bytes, codes, cond}
use Rattle.std.specs.declared.alloc.Global.{Global}
use Rattle.std.proofs.lemmas.Bool.{eqb-true}
use Rattle.std.proofs.lemmas.List.{map-append}
use Rattle.std.proofs.lemmas.List.Elements.{filter-append}
use Rattle.sc_top_words.specs.declared.options.OptionName.{OptionName}
use Rattle.sc_top_words.specs.declared.options.OptionName.TheVariants.{Finders, Size, Upto, Nodes, Candidates, Workers}
use Rattle.sc_top_words.specs.declared.options.Row.{Row}
use Rattle.sc_top_words.specs.declared.taking.Taken.{Taken}
use Rattle.sc_top_words.specs.Options.{spelling, row_of, IsValue, Given, in_one, IsFirst, Spell, is_same, values_of, IsChosen, IsKept}
use Rattle.sc_top_words.specs.Words.{texts}
use Rattle.sc_top_words.specs.Taking.{kept_for, with_kept, AreTaken, FitValues, AreFit, MayBeTaken, IsTakenIn, IsIn, AreInRange, chosen_for}

-- ---- lists

abbrev pub first_of : List ℕ → ℕ
first_of [] = 0
first_of (b ∷ bs) = b

abbrev behind_first : List ℕ → List ℕ
behind_first [] = []
behind_first (b ∷ bs) = bs

abbrev pub first_word : List (List ℕ) → List ℕ
first_word [] = []
first_word (word ∷ words) = word

abbrev pub other_words : List (List ℕ) → List (List ℕ)
other_words [] = []
other_words (word ∷ words) = words

pub no_word : (word : List ℕ) (words : List (List ℕ)) → word ∷ words ≡ [] → ⊥
no_word word words e = cc

-- ---- names

-- the third byte of a word, by which the names differ
abbrev initial : List ℕ → ℕ
initial text = first_of (behind_first (behind_first text))

by_initial : (a b : OptionName) → initial (spelling a) ≡ initial (spelling b) → a ≡ b
by_initial Finders Finders e = refl
by_initial Size Size e = refl
by_initial Upto Upto e = refl
by_initial Nodes Nodes e = refl
by_initial Candidates Candidates e = refl
by_initial Workers Workers e = refl
by_initial a b e = absurd (omega (arith, e))

initial_in_one : (o : Given) → initial (in_one o) ≡ initial (spelling o.name)
initial_in_one o = by o.name o.value
  where
    by : (name : OptionName) (value : List ℕ) → initial (in_one (record { name = name; value = value })) ≡ initial (spelling name)
    by Finders value = refl
    by Size value = refl
    by Upto value = refl
    by Nodes value = refl
    by Candidates value = refl
    by Workers value = refl

-- what stands behind so many bytes
abbrev after : List ℕ → List ℕ → List ℕ
after [] text = text
after (b ∷ front) [] = []
after (b ∷ front) (c ∷ text) = after front text

after_front : (front text : List ℕ) → after front (front ++ text) ≡ text
after_front [] text = refl
after_front (b ∷ front) text = after_front front text

after_all : (front : List ℕ) → after front front ≡ []
after_all [] = refl
after_all (b ∷ front) = after_all front

behind_name : (o : Given) → after (spelling o.name) (in_one o) ≡ 61 ∷ o.value
behind_name o = ap (after (spelling o.name)) (append_assoc (spelling o.name) (codes "=") o.value) ∙ after_front (spelling o.name) (61 ∷ o.value)

-- a word isn't a name alone and a name with a value
one_or_two : (o p : Given) → in_one o ≡ spelling p.name → ⊥
one_or_two o p e =
    let same : o.name ≡ p.name = by_initial o.name p.name (sym (initial_in_one o) ∙ ap initial e) in
    let none : 61 ∷ o.value ≡ [] = sym (behind_name o) ∙ ap (after (spelling o.name)) e ∙ ap (λ (name : OptionName). after (spelling o.name) (spelling name)) (sym same) ∙ after_all (spelling o.name) in
    let bad : 61 ≡ 0 = ap first_of none in
    absurd (omega (arith, bad))

given_by : (o p : Given) → o.name ≡ p.name → o.value ≡ p.value → o ≡ p
given_by o p name value = λ i. record { name = name i; value = value i }

one_in_one : (o p : Given) → in_one o ≡ in_one p → o ≡ p
one_in_one o p e =
    let name : o.name ≡ p.name = by_initial o.name p.name (sym (initial_in_one o) ∙ ap initial e ∙ initial_in_one p) in
    let value : 61 ∷ o.value ≡ 61 ∷ p.value =
    sym (behind_name o) ∙ ap (after (spelling o.name)) e ∙ ap (λ (n : OptionName). after (spelling n) (in_one p)) name ∙ behind_name p in
    given_by o p name (ap behind_first value)

-- ---- one first option, and one list of options

pub first_is_one : (words : List (List ℕ)) (o p : Given) (r s : List (List ℕ)) → IsFirst words o r → IsFirst words p s → (o ≡ p) × (r ≡ s)
first_is_one words o p r s (inl h) (inl k) = let e = sym h ∙ k in (one_in_one o p (ap first_word e), ap other_words e)
first_is_one words o p r s (inl h) (inr k) = absurd (one_or_two o p (ap first_word (sym h ∙ k)))
first_is_one words o p r s (inr h) (inl k) = absurd (one_or_two p o (ap first_word (sym k ∙ h)))
first_is_one words o p r s (inr h) (inr k) =
    let e = sym h ∙ k in
    let name : o.name ≡ p.name = by_initial o.name p.name (ap (λ (ws : List (List ℕ)). initial (first_word ws)) e) in
    (given_by o p name (ap (λ (ws : List (List ℕ)). first_word (other_words ws)) e), ap (λ (ws : List (List ℕ)). other_words (other_words ws)) e)

pub first_is_there : (words : List (List ℕ)) (o : Given) (r : List (List ℕ)) → IsFirst words o r → words ≡ [] → ⊥
first_is_there words o r (inl h) e = no_word _ _ (sym h ∙ e)
first_is_there words o r (inr h) e = no_word _ _ (sym h ∙ e)

pub options_are_one : (words : List (List ℕ)) (os ps : List Given) → Spell words os → Spell words ps → os ≡ ps
options_are_one words [] [] h k = refl
options_are_one words [] (p ∷ ps) h k = absurd (first_is_there words p k.0 k.1 h)
options_are_one words (o ∷ os) [] h k = absurd (first_is_there words o h.0 h.1 k)
options_are_one words (o ∷ os) (p ∷ ps) h k =
    let same = first_is_one words o p h.0 k.0 h.1 k.1 in
    λ i. same.0 i ∷ options_are_one h.0 os ps h.2 (subst (λ (ws : List (List ℕ)). Spell ws ps) (sym same.1) k.2) i

-- ---- the values of a name

pub same_name : (a b : OptionName) → is_same a b ≡ true → a ≡ b
same_name Finders Finders e = refl
same_name Size Size e = refl
same_name Upto Upto e = refl
same_name Nodes Nodes e = refl
same_name Candidates Candidates e = refl
same_name Workers Workers e = refl
same_name a b e = absurd (true≢false (sym e))

same_as_itself : (a : OptionName) → is_same a a ≡ true
same_as_itself Finders = refl
same_as_itself Size = refl
same_as_itself Upto = refl
same_as_itself Nodes = refl
same_as_itself Candidates = refl
same_as_itself Workers = refl

pub values_in_parts : (name : OptionName) (os ps : List Given) → values_of name (os ++ ps) ≡ values_of name os ++ values_of name ps
values_in_parts name os ps =
    ap (map (λ (o : Given). o.value)) (filter-append (λ (o : Given). is_same name o.name) os ps)
    ∙ map-append (λ (o : Given). o.value) (filter (λ (o : Given). is_same name o.name) os) (filter (λ (o : Given). is_same name o.name) ps)

value_first : (o : Given) (os : List Given) → values_of o.name (o ∷ os) ≡ o.value ∷ values_of o.name os
value_first o os = rw (same_as_itself o.name) refl

other_first : (name : OptionName) (o : Given) (os : List Given) → is_same name o.name ≡ false → values_of name (o ∷ os) ≡ values_of name os
other_first name o os e = rw e refl

-- ---- what is kept

kept_then : (name other : OptionName) (n : ℕ) (taken : Taken) → kept_for other (with_kept name n taken) ≡ cond (is_same other name) (Some n) (kept_for other taken)
kept_then Finders Finders n taken = refl
kept_then Size Size n taken = refl
kept_then Upto Upto n taken = refl
kept_then Nodes Nodes n taken = refl
kept_then Candidates Candidates n taken = refl
kept_then Workers Workers n taken = refl
kept_then name other n taken = refl

kept_of_none : (row : Row) (kept : Option ℕ) (values : List (List ℕ)) → IsKept row kept values → kept ≡ None → values ≡ []
kept_of_none row None [] h e = refl
kept_of_none row None (value ∷ values) h e = absurd h
kept_of_none row (Some n) values h e = absurd cc

-- the words spell the options that were taken, and then those that the others spell
pub record IsUnder (words : List (List ℕ)) (others : List (List ℕ)) (taken : Taken) : Type 0 where
  pub front : List Given
  pub kept : (name : OptionName) → IsKept (row_of name) (kept_for name taken) (values_of name front)
  pub on : (os : List Given) → Spell others os → Spell words (front ++ os)
  pub back : (os : List Given) → Spell words os → (ps : List Given) × Spell others ps × (os ≡ front ++ ps)

kept_more : (old new : Taken) (o : Given) (front : List Given) → IsTakenIn old new o
    → ((name : OptionName) → IsKept (row_of name) (kept_for name old) (values_of name front))
    → (name : OptionName) → IsKept (row_of name) (kept_for name new) (values_of name (front ++ o ∷ []))
kept_more old new o front h kept name =
    elim (is_same name o.name) as (λ v. is_same name o.name ≡ v → IsKept (row_of name) (kept_for name new) (values_of name (front ++ o ∷ []))) [
      | true ↦ λ e.
          let same : name ≡ o.name = same_name name o.name e in
          let blank : values_of name front ≡ [] = kept_of_none (row_of name) (kept_for name old) (values_of name front) (kept name) (ap (λ (a : OptionName). kept_for a old) same ∙ h.blank) in
          let values : values_of name (front ++ o ∷ []) ≡ o.value ∷ [] =
          values_in_parts name front (o ∷ []) ∙ ap (λ (vs : List (List ℕ)). vs ++ values_of name (o ∷ [])) blank
          ∙ ap (λ (a : OptionName). values_of a (o ∷ [])) same ∙ value_first o [] in
          let number : kept_for name new ≡ Some h.number =
          ap (kept_for name) h.kept ∙ kept_then o.name name h.number old ∙ ap (λ (b : Bool). cond b (Some h.number) (kept_for name old)) e in
          let value : IsValue (row_of name).low (row_of name).high o.value h.number =
          subst (λ (a : OptionName). IsValue (row_of a).low (row_of a).high o.value h.number) (sym same) h.value in
          subst (λ (k : Option ℕ). IsKept (row_of name) k (values_of name (front ++ o ∷ []))) (sym number)
          (subst (λ (vs : List (List ℕ)). IsKept (row_of name) (Some h.number) vs) (sym values) value)
      | false ↦ λ e.
          let values : values_of name (front ++ o ∷ []) ≡ values_of name front =
          values_in_parts name front (o ∷ []) ∙ ap (λ (vs : List (List ℕ)). values_of name front ++ vs) (other_first name o [] e) ∙ append-nil (values_of name front) in
          let number : kept_for name new ≡ kept_for name old =
          ap (kept_for name) h.kept ∙ kept_then o.name name h.number old ∙ ap (λ (b : Bool). cond b (Some h.number) (kept_for name old)) e in
          subst (λ (k : Option ℕ). IsKept (row_of name) k (values_of name (front ++ o ∷ []))) (sym number)
          (subst (λ (vs : List (List ℕ)). IsKept (row_of name) (kept_for name old) vs) (sym values) (kept name))
    ] refl

back_more : (words others behind : List (List ℕ)) (old : Taken) (o : Given) (u : IsUnder words others old) → IsFirst others o behind
    → (os : List Given) → Spell words os → (ps : List Given) × Spell behind ps × (os ≡ u.front ++ (o ∷ ps))
back_more words others behind old o u first os h = by (u.back os h)
  where
    by : ((ps : List Given) × Spell others ps × (os ≡ u.front ++ ps)) → (ps : List Given) × Spell behind ps × (os ≡ u.front ++ (o ∷ ps))
    by ([], s, e) = absurd (first_is_there others o behind first s)
    by ((p ∷ ps), s, e) =
        let same = first_is_one others p o s.0 behind s.1 first in
        (ps, subst (λ (ws : List (List ℕ)). Spell ws ps) same.1 s.2, e ∙ ap (λ (q : Given). u.front ++ (q ∷ ps)) same.0)

-- one option more
pub goes_on : (words others behind : List (List ℕ)) (old new : Taken) (o : Given) → IsUnder words others old → IsFirst others o behind → IsTakenIn old new o → IsUnder words behind new
goes_on words others behind old new o u first h =
    record {
      front = u.front ++ o ∷ [];
      kept = kept_more old new o u.front h u.kept;
      on = λ os s. subst (Spell words) (sym (append_assoc u.front (o ∷ []) os)) (u.on (o ∷ os) (behind, first, s));
      back = λ os s. let b = back_more words others behind old o u first os s in (b.0, b.1, b.2 ∙ sym (append_assoc u.front (o ∷ []) b.0));
    }

-- no word more
pub ends : (words others : List (List ℕ)) (taken : Taken) → IsUnder words others taken → others ≡ [] → AreTaken words taken
ends words others taken u e = record { options = u.front; spelled = subst (Spell words) (append-nil u.front) (u.on [] e); kept = u.kept }

-- ---- what refuses words

-- no option stands first
pub fails_unread : (words others : List (List ℕ)) (taken : Taken) → IsUnder words others taken → (others ≡ [] → ⊥)
    → ((o : Given) (behind : List (List ℕ)) → ¬ IsFirst others o behind) → ¬ AreFit words
fails_unread words others taken u some none fit = by (u.back fit.options fit.spelled)
  where
    by : ((ps : List Given) × Spell others ps × (fit.options ≡ u.front ++ ps)) → ⊥
    by ([], s, e) = some s
    by ((p ∷ ps), s, e) = none p s.0 s.1

fits_then : (row : Row) (kept : Option ℕ) (front behind : List (List ℕ)) (value : List ℕ) → IsKept row kept front → FitValues row (front ++ (value ∷ behind))
    → (kept ≡ None) × (n : ℕ) × IsValue row.low row.high value n
fits_then row None [] [] value h fit = (refl, fit.0, fit.1)
fits_then row None [] (other ∷ behind) value h fit = absurd fit
fits_then row None (first ∷ front) behind value h fit = absurd h
fits_then row (Some n) [] behind value h fit = absurd h
fits_then row (Some n) (first ∷ []) behind value h fit = absurd fit
fits_then row (Some n) (first ∷ second ∷ front) behind value h fit = absurd fit

-- the option that stands first can't be taken
pub fails_untaken : (words others behind : List (List ℕ)) (taken : Taken) (o : Given) → IsUnder words others taken → IsFirst others o behind → ¬ MayBeTaken taken o → ¬ AreFit words
fails_untaken words others behind taken o u first may_not fit =
    let b = back_more words others behind taken o u first fit.options fit.spelled in
    let values : values_of o.name fit.options ≡ values_of o.name u.front ++ (o.value ∷ values_of o.name b.0) =
    ap (values_of o.name) b.2 ∙ values_in_parts o.name u.front (o ∷ b.0) ∙ ap (λ (vs : List (List ℕ)). values_of o.name u.front ++ vs) (value_first o b.0) in
    may_not (fits_then (row_of o.name) (kept_for o.name taken) (values_of o.name u.front) (values_of o.name b.0) o.value (u.kept o.name)
    (subst (FitValues (row_of o.name)) values (fit.fit o.name)))

-- ---- what was taken

pub chosen_fits : (row : Row) (n : ℕ) (values : List (List ℕ)) → IsChosen row values n → FitValues row values
chosen_fits row n [] h = tt
chosen_fits row n (value ∷ []) h = (n, h)
chosen_fits row n (value ∷ other ∷ values) h = absurd h

pub none_fits : (row : Row) (values : List (List ℕ)) → values ≡ [] → FitValues row values
none_fits row values e = subst (FitValues row) (sym e) tt

pub chosen_is_one : (row : Row) (m n : ℕ) (values : List (List ℕ)) → IsChosen row values m → IsChosen row values n → m ≡ n
chosen_is_one row m n [] h k = h ∙ sym k
chosen_is_one row m n (value ∷ []) h k = h.spelled ∙ sym k.spelled
chosen_is_one row m n (value ∷ other ∷ values) h k = absurd h

-- the number that is chosen where that is kept
pub kept_number : (row : Row) (kept : Option ℕ) (values : List (List ℕ)) → IsKept row kept values → IsChosen row values (elim kept [ None ↦ row.usual | Some n ↦ n ])
kept_number row None [] h = refl
kept_number row None (value ∷ values) h = absurd h
kept_number row (Some n) [] h = absurd h
kept_number row (Some n) (value ∷ []) h = h
kept_number row (Some n) (value ∷ other ∷ values) h = absurd h

pub kept_fits : (row : Row) (kept : Option ℕ) (values : List (List ℕ)) → IsKept row kept values → FitValues row values
kept_fits row None [] h = tt
kept_fits row None (value ∷ values) h = absurd h
kept_fits row (Some n) [] h = absurd h
kept_fits row (Some n) (value ∷ []) h = (n, h)
kept_fits row (Some n) (value ∷ other ∷ values) h = absurd h

pub kept_is_one : (row : Row) (a b : Option ℕ) (values : List (List ℕ)) → IsKept row a values → IsKept row b values → a ≡ b
kept_is_one row None None values h k = refl
kept_is_one row None (Some n) [] h k = absurd k
kept_is_one row None (Some n) (value ∷ values) h k = absurd h
kept_is_one row (Some m) None [] h k = absurd h
kept_is_one row (Some m) None (value ∷ values) h k = absurd k
kept_is_one row (Some m) (Some n) [] h k = absurd h
kept_is_one row (Some m) (Some n) (value ∷ []) h k = ap Some (h.spelled ∙ sym k.spelled)
kept_is_one row (Some m) (Some n) (value ∷ other ∷ values) h k = absurd h

some_given : (row : Row) (n : ℕ) (values : List (List ℕ)) → IsKept row (Some n) values → values ≡ [] → ⊥
some_given row n [] h e = h
some_given row n (value ∷ values) h e = no_word value values e

-- where something was kept, something was given, whatever options the words spell
pub is_given : (words : List (List ℕ)) (taken : Taken) (name : OptionName) (n : ℕ) (options : List Given) → AreTaken words taken → kept_for name taken ≡ Some n → Spell words options
    → values_of name options ≡ [] → ⊥
is_given words taken name n options taken_from kept spelled none =
    let same : taken_from.options ≡ options = options_are_one words taken_from.options options taken_from.spelled spelled in
    some_given (row_of name) n (values_of name taken_from.options) (subst (λ (k : Option ℕ). IsKept (row_of name) k (values_of name taken_from.options)) kept (taken_from.kept name))
    (ap (values_of name) same ∙ none)

-- ---- for the code

pub no_texts : (words : List (String Global)) → (length words == 0) ≡ true → texts words ≡ []
no_texts [] e = refl
no_texts (word ∷ words) e = let bad : length (word ∷ words) ≡ 0 = eqb-true (length (word ∷ words)) 0 e in absurd (omega arith)

pub some_texts : (words : List (String Global)) → (length words == 0) ≡ false → texts words ≡ [] → ⊥
some_texts [] e h = absurd cc
some_texts (word ∷ words) e h = no_word (string_bytes word) (texts words) h

pub no_option_in_one : (word : List ℕ) → ((v : List ℕ) → word ≢ codes "--finders=" ++ v) → ((v : List ℕ) → word ≢ codes "--size=" ++ v)
    → ((v : List ℕ) → word ≢ codes "--upto=" ++ v) → ((v : List ℕ) → word ≢ codes "--nodes=" ++ v)
    → ((v : List ℕ) → word ≢ codes "--candidates=" ++ v) → ((v : List ℕ) → word ≢ codes "--workers=" ++ v)
    → (o : Given) → word ≢ in_one o
no_option_in_one word finders size upto nodes candidates workers o = by o.name o.value
  where
    by : (name : OptionName) (value : List ℕ) → word ≢ in_one (record { name = name; value = value })
    by Finders value e = finders value e
    by Size value e = size value e
    by Upto value e = upto value e
    by Nodes value e = nodes value e
    by Candidates value e = candidates value e
    by Workers value e = workers value e

-- ---- ranges

pub more_in_range : (old new : Taken) (o : Given) → IsTakenIn old new o → AreInRange old → AreInRange new
more_in_range old new o h all name =
    elim (is_same name o.name) as (λ v. is_same name o.name ≡ v → IfSome (kept_for name new) (IsIn (row_of name))) [
      | true ↦ λ e.
          let number : kept_for name new ≡ Some h.number =
          ap (kept_for name) h.kept ∙ kept_then o.name name h.number old ∙ ap (λ (b : Bool). cond b (Some h.number) (kept_for name old)) e in
          let within : IsIn (row_of name) h.number = subst (λ (a : OptionName). IsIn (row_of a) h.number) (sym (same_name name o.name e)) (h.value.not_below, h.value.not_above) in
          subst (λ (kept : Option ℕ). IfSome kept (IsIn (row_of name))) (sym number) within
      | false ↦ λ e.
          let number : kept_for name new ≡ kept_for name old =
          ap (kept_for name) h.kept ∙ kept_then o.name name h.number old ∙ ap (λ (b : Bool). cond b (Some h.number) (kept_for name old)) e in
          subst (λ (kept : Option ℕ). IfSome kept (IsIn (row_of name))) (sym number) (all name)
    ] refl

usual_in_range : (name : OptionName) → IsIn (row_of name) (row_of name).usual
usual_in_range Finders = (omega arith, omega arith)
usual_in_range Size = (omega arith, omega arith)
usual_in_range Upto = (omega arith, omega arith)
usual_in_range Nodes = (omega arith, omega arith)
usual_in_range Candidates = (omega arith, omega arith)
usual_in_range Workers = (omega arith, omega arith)

pub chosen_in_range : (name : OptionName) (taken : Taken) → AreInRange taken → IsIn (row_of name) (chosen_for name taken)
chosen_in_range name taken h = by (kept_for name taken) (h name)
  where
    by : (kept : Option ℕ) → IfSome kept (IsIn (row_of name)) → IsIn (row_of name) (elim kept [ None ↦ (row_of name).usual | Some n ↦ n ])
    by None within = usual_in_range name
    by (Some n) within = within

pub last_is_small : (taken : Taken) (n : ℕ) → AreInRange taken → taken.upto ≡ Some n → n ≤ 8
last_is_small taken n h e = (subst (λ (kept : Option ℕ). IfSome kept (IsIn (row_of Upto))) e (h Upto)).1

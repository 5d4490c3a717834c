-- Literals are merged one after another.
use Rattle.std.proofs.Common.{◌≡◌, ◌∙◌, sym, ap, subst, refl, ℕ, zero, suc, ◌+◌, ◌-◌, ◌<◌, ◌≤◌, ◌⊎◌, inl, inr, List, [], ◌∷◌, ◌++◌, length, take, get_or, slice_get, Some, None, Option, arith, length-append}
use Rattle.std.specs.Prelude.{IsSomeAnd, option_map, MatchOption}
use Rattle.std.specs.Option.{unwrap_or}
use Rattle.std.specs.List.{Contains, remove}
use Rattle.std.proofs.lemmas.List.Edits.{length-remove}
use Rattle.std.proofs.lemmas.Option.{slice_get_read, slice_get-get_or}
use Rattle.sc_term.specs.declared.Literal.{Literal}
use Rattle.sc_term.specs.declared.Clause.{Clause}
use Rattle.sc_term.specs.declared.Line.{Line}
use Rattle.sc_term.specs.declared.Step.TheVariants.{Merge}
use Rattle.sc_term.specs.Numbering.{numbered, without}
use Rattle.sc_term.specs.Proof.{IsMerged, clause_of}
use Rattle.sc_steps.specs.Derivation.{last_clause}
use Rattle.sc_steps.proofs.ListLaws.{some_and, mapped}
use Rattle.sc_steps.proofs.LineLaws.{number_at, number_within, map_some, clause_of_end}
use Rattle.sc_core_rules.specs.Simplification.{IsRepeated, MergesOnce}
use Rattle.sc_core_rules.proofs.StepLaws.{same_some}
use Rattle.sc_keep.specs.Repeated.{IsFirstRepeated}

abbrev RepeatedIn : List Literal → ℕ → Type 0
RepeatedIn ls a = IsSomeAnd (numbered ls a) (λ l. Contains (take (a - 1) ls) l)

some_here : {A : Type 0} (o : Option A) (P : A → Type 0) (x : A) → o ≡ Some x → P x → IsSomeAnd o P
some_here o P x e h = subst (λ o. IsSomeAnd o P) (sym e) h

-- ---- the first repeated one

pub no_zeroth : (ls : List Literal) (b : ℕ) → b ≤ 0 → ¬ RepeatedIn ls b
no_zeroth ls zero less h = h
no_zeroth ls (suc b) less h = omega (arith, less)

pub here_repeated : (ls : List Literal) (i : ℕ) (x : Literal) → i < length ls → x ≡ get_or ls i x → Contains (take i ls) x → RepeatedIn ls (i + 1)
here_repeated ls i x less at h =
    let here : i + 1 - 1 ≡ i = omega arith in
    let there : numbered ls (i + 1) ≡ Some x = number_at ls (i + 1) x (omega arith) (ap (slice_get ls) here ∙ slice_get_read ls (length ls) i x refl less at) in
    some_here (numbered ls (i + 1)) (λ l. Contains (take (i + 1 - 1) ls) l) x there (subst (λ n. Contains (take n ls) x) (sym here) h)

pub none_further : (ls : List Literal) (i : ℕ) (x : Literal) → i < length ls → x ≡ get_or ls i x → ¬ Contains (take i ls) x
    → ((b : ℕ) → b ≤ i → ¬ RepeatedIn ls b) → (b : ℕ) → b ≤ i + 1 → ¬ RepeatedIn ls b
none_further ls i x less at never before b within h = by (grind arith)
  where
    last : b ≡ i + 1 → ⊥
    last e =
        let here : i + 1 - 1 ≡ i = omega arith in
        let there : numbered ls (i + 1) ≡ Some x = number_at ls (i + 1) x (omega arith) (ap (slice_get ls) here ∙ slice_get_read ls (length ls) i x refl less at) in
        let found = some_and (numbered ls (i + 1)) (λ l. Contains (take (i + 1 - 1) ls) l) (subst (RepeatedIn ls) e h) in
        let same : found.0 ≡ x = same_some (numbered ls (i + 1)) found.0 x found.1 there in
        never (subst (λ n. Contains (take n ls) x) here (subst (Contains (take (i + 1 - 1) ls)) same found.2))

    by : (b ≤ i) ⊎ (b ≡ i + 1) → ⊥
    by (inl low) = before b low h
    by (inr e) = last e

pub none_at_all : (ls : List Literal) (i : ℕ) → length ls ≤ i → ((b : ℕ) → b ≤ i → ¬ RepeatedIn ls b) → (b : ℕ) → ¬ RepeatedIn ls b
none_at_all ls i all before b h = let found = some_and (numbered ls b) (λ l. Contains (take (b - 1) ls) l) h in
    let within = number_within ls b found.0 found.1 in
    before b (omega (arith, within.1, all)) h

-- ---- one merge

pub merges : (lines : List Line) (line : Line) (c : Clause) (a : ℕ) → last_clause lines ≡ Some c → IsFirstRepeated c.literals a → line.step ≡ Merge (length lines) a
    → line.clause.literals ≡ without c.literals a → MergesOnce lines (lines ++ line ∷ [])
merges lines line c a last h step left = record {
  clause = c;
  clause_last = last;
  a = a;
  repeated = h.repeated;
  first = h.first;
  merges = (line.clause, some_here (last_clause lines) (λ of. IsMerged of a line.clause) c last merged, λ i. lines ++ record { step = step i; clause = line.clause } ∷ []);
}
  where
    merged : IsMerged c a line.clause
    merged =
        let found = some_and (numbered c.literals a) (λ l. Contains (take (a - 1) c.literals) l) h.repeated in
        some_here (numbered c.literals a) (λ l. Contains (take (a - 1) c.literals) l × (line.clause.literals ≡ without c.literals a)) found.0 found.1 (found.2, left)

pub merges_not : (lines : List Line) (c : Clause) → last_clause lines ≡ Some c → ((b : ℕ) → ¬ RepeatedIn c.literals b) → (after : List Line) → ¬ MergesOnce lines after
merges_not lines c last none after h =
    let same : h.clause ≡ c = same_some (last_clause lines) h.clause c h.clause_last last in
    none h.a (subst (λ (d : Clause). IsRepeated d h.a) same h.repeated)

-- the clause of the line added last
pub last_added : (lines : List Line) (line : Line) → last_clause (lines ++ line ∷ []) ≡ Some line.clause
last_added lines line = ap (clause_of (lines ++ line ∷ [])) (length-append lines (line ∷ [])) ∙ clause_of_end lines line

-- how many literals the last clause has
pub shorter : (lines : List Line) (line : Line) (c : Clause) → last_clause lines ≡ Some c → MergesOnce lines (lines ++ line ∷ []) → length line.clause.literals + 1 ≡ length c.literals
shorter lines line c last h =
    let d = h.merges.0 in
    let same : line.clause ≡ d =
    same_some (last_clause (lines ++ line ∷ [])) line.clause d (last_added lines line)
    (ap last_clause h.merges.2 ∙ last_added lines (record { step = Merge (length lines) h.a; clause = d })) in
    let of = some_and (last_clause lines) (λ of. IsMerged of h.a d) h.merges.1 in
    let is : of.0 ≡ c = same_some (last_clause lines) of.0 c of.1 last in
    let found = some_and (numbered c.literals h.a) (λ l. Contains (take (h.a - 1) c.literals) l × (d.literals ≡ without c.literals h.a)) (subst (λ (x : Clause). IsMerged x h.a d) is of.2) in
    let within = number_within c.literals h.a found.0 found.1 in
    let left : length (line.clause).literals ≡ length (remove c.literals (h.a - 1)) = ap (λ (x : Clause). length x.literals) same ∙ ap (λ (ls : List Literal). length ls) found.2.1 in
    omega (arith, left, within.0, within.1, length-remove c.literals (h.a - 1) (omega (arith, within.0, within.1)))

-- how many literals the last clause has
abbrev pub last_length : List Line → ℕ
last_length lines = unwrap_or (option_map (λ (c : Clause). length c.literals) (last_clause lines)) 0

pub last_length_is : (lines : List Line) (c : Clause) → last_clause lines ≡ Some c → last_length lines ≡ length c.literals
last_length_is lines c e = ap (λ (o : Option Clause). unwrap_or (option_map (λ (c : Clause). length c.literals) o) 0) e

-- the last line, as it is read
module _ (lines : List Line) (N : ℕ) (some : IsSomeAnd (last_clause lines) (λ c. length lines + length c.literals < N)) where
  abbrev last_line : Line → Line
  last_line x = get_or lines (length lines - 1) x

  last_read : (x : Line) → last_clause lines ≡ Some (last_line x).clause
  last_read x =
      let found = some_and (last_clause lines) _ some in
      let line = mapped (λ (l : Line). l.clause) (numbered lines (length lines)) found.0 found.1 in
      let within = number_within lines (length lines) line.0 line.1 in
      let there : slice_get lines (length lines - 1) ≡ Some (last_line x) = slice_get-get_or lines (length lines - 1) x (omega (arith, within.0)) in
      map_some (λ (l : Line). l.clause) (numbered lines (length lines)) (last_line x) (number_at lines (length lines) (last_line x) within.0 there)

  pub merges_last : (x : Line) (literals : List Literal) (a : ℕ) (clause : Clause) → literals ≡ (last_line x).clause.literals → IsFirstRepeated literals a
      → clause.literals ≡ without (last_line x).clause.literals a → MergesOnce lines (lines ++ record { step = Merge (length lines) a; clause = clause } ∷ [])
  merges_last x literals a clause same first left =
      merges lines (record { step = Merge (length lines) a; clause = clause }) (last_line x).clause a (last_read x) (subst (λ ls. IsFirstRepeated ls a) same first) refl left

  pub merges_no_more : (x : Line) (literals : List Literal) → literals ≡ (last_line x).clause.literals → ((b : ℕ) → ¬ RepeatedIn literals b) → (after : List Line) → ¬ MergesOnce lines after
  merges_no_more x literals same none = merges_not lines (last_line x).clause (last_read x) (subst (λ (ls : List Literal). (b : ℕ) → ¬ RepeatedIn ls b) same none)

  -- after one more line
  module _ (line : Line) (h : MergesOnce lines (lines ++ line ∷ [])) where
    pub still_short : IsSomeAnd (last_clause (lines ++ line ∷ [])) (λ c. length (lines ++ line ∷ []) + length c.literals < N)
    still_short =
        let found = some_and (last_clause lines) _ some in
        some_here (last_clause (lines ++ line ∷ [])) (λ c. length (lines ++ line ∷ []) + length c.literals < N) line.clause (last_added lines line)
        (omega (arith, found.2, shorter lines line found.0 found.1 h, length-append lines (line ∷ [])))

    pub falls : last_length (lines ++ line ∷ []) < last_length lines
    falls =
        let found = some_and (last_clause lines) _ some in
        omega (arith, shorter lines line found.0 found.1 h, last_length_is lines found.0 found.1, last_length_is (lines ++ line ∷ []) line.clause (last_added lines line))

-- what was found of the lines as they were read
abbrev Finds : List Line → Option Line → Type 0
Finds seen o = MatchOption o ((after : List Line) → ¬ MergesOnce seen after) (λ line. MergesOnce seen (seen ++ line ∷ []))

pub merge_found : (seen lines : List Line) (o : Option Line) (line : Line) → seen ≡ lines → o ≡ Some line → Finds seen o → MergesOnce lines (lines ++ line ∷ [])
merge_found seen lines o line same is h = subst (Finds lines) is (subst (λ ls. Finds ls o) same h)

pub merge_ends : (seen lines : List Line) (o : Option Line) → seen ≡ lines → o ≡ None → Finds seen o → (after : List Line) → ¬ MergesOnce lines after
merge_ends seen lines o same is h = subst (Finds lines) is (subst (λ ls. Finds ls o) same h)

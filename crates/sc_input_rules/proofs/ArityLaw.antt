-- Where no comma stands before a ninth argument, no name has more than eight.
use Rattle.std.proofs.Common.{◌≡◌, ◌∙◌, sym, ap, subst, refl, ℕ, ◌+◌, ◌-◌, ◌≤◌, List, [], ◌∷◌, ◌++◌, append_assoc, arith}
use Rattle.std.specs.List.{AllByRecursion}
use Rattle.sc_term.proofs.SubstitutionLaws.{all_join}
use Rattle.sc_input_rules.specs.declared.token.Token.{Token}
use Rattle.sc_input_rules.specs.declared.token.Token.TheVariants.{Word, Punctuation}
use Rattle.sc_input_rules.specs.declared.token.Sign.TheVariants.{Open, Close, Comma}
use Rattle.sc_input_rules.specs.declared.written.Occurrence.{Occurrence}
use Rattle.sc_input_rules.specs.Measures.{open_commas, first_or_none, commas_behind}
use Rattle.sc_input_rules.proofs.Spelling.{Head, Sides, Empty, Entry, in_brackets, behind_comma, tokens_of, side_tokens, count, occurrences, side_of}

pub open_commas-append : (commas : List ℕ) (xs ys : List Token) → open_commas commas (xs ++ ys) ≡ open_commas (open_commas commas xs) ys
open_commas-append commas [] ys = refl
open_commas-append commas (x ∷ xs) ys = open_commas-append (commas_behind x commas) xs ys

-- at most seven commas stand in the innermost parentheses, at each of the first tokens
abbrev pub FewCommas : List ℕ → List Token → Type 0
FewCommas commas ts = (front more : List Token) → ts ≡ front ++ more → first_or_none (open_commas commas front) ≤ 7

pub few_front : (commas : List ℕ) (xs ys : List Token) → FewCommas commas (xs ++ ys) → FewCommas commas xs
few_front commas xs ys h front more e = h front (more ++ ys) (ap (λ ts. ts ++ ys) e ∙ append_assoc front more ys)

pub few_back : (commas : List ℕ) (xs ys : List Token) → FewCommas commas (xs ++ ys) → FewCommas (open_commas commas xs) ys
few_back commas xs ys h front more e =
    let s = open_commas-append commas xs front in
    subst (λ (commas : List ℕ). first_or_none commas ≤ 7) s (h (xs ++ front) more (ap (λ ts. xs ++ ts) e ∙ sym (append_assoc xs front more)))

abbrev pub SmallArity : Occurrence → Type 0
SmallArity o = o.arity ≤ 8

-- behind sides that stand where n commas stood before them
abbrev commas_then : ℕ → Sides → ℕ
commas_then n f = n + (count f - 1)

brackets-commas : (h : Head) (args : Sides) (commas : List ℕ) → open_commas (0 ∷ commas) (tokens_of args) ≡ commas_then 0 args ∷ commas → open_commas commas (in_brackets h args (tokens_of args)) ≡ commas
brackets-commas h Empty commas e = refl
brackets-commas h (Entry g args comma others) commas e =
    open_commas-append (0 ∷ commas) (tokens_of (Entry g args comma others)) (Punctuation h.closing Close ∷ []) ∙ ap (λ commas. open_commas commas (Punctuation h.closing Close ∷ [])) e

comma-commas : (at : ℕ) (others : Sides) (n : ℕ) (ns : List ℕ) → open_commas ((n + 1) ∷ ns) (tokens_of others) ≡ (commas_then (n + 1) others) ∷ ns
    → open_commas (n ∷ ns) (behind_comma at others (tokens_of others)) ≡ (n + (count others + 1 - 1)) ∷ ns
comma-commas at Empty n ns e = let k : n ≡ n + (0 + 1 - 1) = omega arith in ap (λ (n : ℕ). n ∷ ns) k
comma-commas at (Entry g args comma others) n ns e = let k : n + 1 + (count others + 1 - 1) ≡ n + (count others + 1 + 1 - 1) = omega arith in e ∙ ap (λ (n : ℕ). n ∷ ns) k

pub sides-commas : (f : Sides) (n : ℕ) (ns : List ℕ) → open_commas (n ∷ ns) (tokens_of f) ≡ commas_then n f ∷ ns
sides-commas Empty n ns = let k : n ≡ n + (0 - 1) = omega arith in ap (λ (n : ℕ). n ∷ ns) k
sides-commas (Entry h args comma others) n ns =
    let behind = behind_comma comma others (tokens_of others) in
    open_commas-append (n ∷ ns) (in_brackets h args (tokens_of args)) behind
    ∙ ap (λ (commas : List ℕ). open_commas commas behind) (brackets-commas h args (n ∷ ns) (sides-commas args 0 (n ∷ ns)))
    ∙ comma-commas comma others n ns (sides-commas others (n + 1) ns)

brackets-arity : (h : Head) (args : Sides) (commas : List ℕ) → FewCommas commas (in_brackets h args (tokens_of args))
    → ((n : ℕ) (ns : List ℕ) → n ≤ 7 → FewCommas (n ∷ ns) (tokens_of args) → AllByRecursion SmallArity (occurrences args) × (n + count args ≤ 8))
    → AllByRecursion SmallArity (occurrences args) × (count args ≤ 8)
brackets-arity h Empty commas few ih = (tt, omega arith)
brackets-arity h (Entry g args comma others) commas few ih =
    let ts = tokens_of (Entry g args comma others) in
    let close = Punctuation h.closing Close ∷ [] in
    let inner = few_front (0 ∷ commas) ts close (few_back commas (Punctuation h.opening Open ∷ []) (ts ++ close) few) in
    let k = ih 0 commas (omega arith) inner in
    let le = k.1 in
    (k.0, omega arith)

comma-arity : (at : ℕ) (others : Sides) (n : ℕ) (ns : List ℕ) → n ≤ 7 → FewCommas (n ∷ ns) (behind_comma at others (tokens_of others))
    → ((n : ℕ) (ns : List ℕ) → n ≤ 7 → FewCommas (n ∷ ns) (tokens_of others) → AllByRecursion SmallArity (occurrences others) × (n + count others ≤ 8))
    → AllByRecursion SmallArity (occurrences others) × (n + (count others + 1) ≤ 8)
comma-arity at Empty n ns le few ih = (tt, omega arith)
comma-arity at (Entry g args comma others) n ns le few ih =
    let ts = tokens_of (Entry g args comma others) in
    let comma : n + 1 ≤ 7 = few (Punctuation at Comma ∷ []) ts refl in
    let k = ih (n + 1) ns comma (few_back (n ∷ ns) (Punctuation at Comma ∷ []) ts few) in
    let le = k.1 in
    (k.0, omega arith)

pub sides-arity : (f : Sides) (n : ℕ) (ns : List ℕ) → n ≤ 7 → FewCommas (n ∷ ns) (tokens_of f) → AllByRecursion SmallArity (occurrences f) × (n + count f ≤ 8)
sides-arity Empty n ns le few = (tt, omega arith)
sides-arity (Entry h args comma others) n ns le few =
    let inner = in_brackets h args (tokens_of args) in
    let behind = behind_comma comma others (tokens_of others) in
    let rest = few_back (n ∷ ns) (Word h.at h.text ∷ []) (inner ++ behind) few in
    let a = brackets-arity h args (n ∷ ns) (few_front (n ∷ ns) inner behind rest) (sides-arity args) in
    let b = comma-arity comma others n ns le
    (subst (λ commas. FewCommas commas behind) (brackets-commas h args (n ∷ ns) (sides-commas args 0 (n ∷ ns))) (few_back (n ∷ ns) inner behind rest)) (sides-arity others) in
    ((a.1, all_join SmallArity (occurrences args) (occurrences others) a.0 b.0), b.1)

-- ---- one side

pub side-commas : (h : Head) (args : Sides) (commas : List ℕ) → open_commas commas (side_tokens h args) ≡ commas
side-commas h args commas = brackets-commas h args commas (sides-commas args 0 commas)

pub side-arity : (h : Head) (args : Sides) (commas : List ℕ) → FewCommas commas (side_tokens h args) → AllByRecursion SmallArity (side_of h args)
side-arity h args commas few =
    let a = brackets-arity h args commas (few_back commas (Word h.at h.text ∷ []) (in_brackets h args (tokens_of args)) few) (sides-arity args) in
    (a.1, a.0)

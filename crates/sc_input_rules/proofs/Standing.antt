-- Where the tokens behind some whole sentences stand.
use Rattle.std.proofs.Common.{◌≡◌, ◌∙◌, sym, ap, refl, ℕ, ◌≤◌, Bool, true, false, List, [], ◌∷◌, ◌++◌, length, append_assoc, Option, Some, None}
use Rattle.std.specs.Prelude.{if◌then◌else◌}
use Rattle.std.specs.List.{AllByRecursion}
use Rattle.std.proofs.lemmas.List.{append-nil}
use Rattle.sc_input_rules.specs.declared.settings.Home.{Home}
use Rattle.sc_input_rules.specs.declared.token.Token.{Token}
use Rattle.sc_input_rules.specs.declared.token.Token.TheVariants.{Punctuation}
use Rattle.sc_input_rules.specs.declared.token.Sign.TheVariants.{Stop}
use Rattle.sc_input_rules.specs.Token.{is_sign}
use Rattle.sc_input_rules.specs.Position.{position, sentences, opened, closes, clauses_of, home_behind}
use Rattle.sc_input_rules.specs.ProblemLimits.{problem_bounds, symbols_told, demodulators_told}
use Rattle.sc_input_rules.proofs.OneMore.{sentences-stop, sentences-other, home_behind-one_more}

-- no full stop among them
abbrev pub HasNoStop : List Token → Type 0
HasNoStop ts = AllByRecursion (λ t. is_sign Stop t ≡ false) ts

-- what holds of the whole clauses where no limit is passed
pub record AreWhole (cs : List (Home × List Token)) : Type 0 where
  pub few : length cs ≤ 10000
  pub symbols : symbols_told problem_bounds (record { clauses = cs; home = None; sentence = [] }) ≡ None
  pub demodulators : demodulators_told (record { clauses = cs; home = None; sentence = [] }) ≡ None

-- the tokens end with a full stop, or are none; the list that is open, and the whole clauses
pub record Stands (earlier : List Token) (home : Option Home) (cs : List (Home × List Token)) : Type 0 where
  pub before : List (List Token)
  pub cut : sentences earlier ≡ (before, [])
  pub home_is : home_behind None before ≡ home
  pub clauses : clauses_of None before ≡ cs
  pub whole : AreWhole cs

-- ---- within a sentence

sentences-more : (earlier ts : List Token) (before : List (List Token)) (now : List Token) → sentences earlier ≡ (before, now) → HasNoStop ts → sentences (earlier ++ ts) ≡ (before, now ++ ts)
sentences-more earlier [] before now e h = ap sentences (append-nil earlier) ∙ e ∙ (λ i. (before, sym (append-nil now) i))
sentences-more earlier (t ∷ ts) before now e h =
    let one : sentences (earlier ++ t ∷ []) ≡ (before, now ++ t ∷ []) = sentences-other earlier t h.0 ∙ (λ i. ((e i).0, (e i).1 ++ t ∷ [])) in
    ap sentences (sym (append_assoc earlier (t ∷ []) ts)) ∙ sentences-more (earlier ++ t ∷ []) ts before (now ++ t ∷ []) one h.1 ∙ (λ i. (before, append_assoc now (t ∷ []) ts i))

pub standing : (earlier : List Token) (home : Option Home) (cs : List (Home × List Token)) (ts : List Token) → Stands earlier home cs → HasNoStop ts
    → position (earlier ++ ts) ≡ record { clauses = cs; home = home; sentence = ts }
standing earlier home cs ts s h =
    let e = sentences-more earlier ts s.before [] s.cut h in
    (λ i. record { clauses = clauses_of None ((e i).0); home = home_behind None ((e i).0); sentence = (e i).1 })
    ∙ (λ i. record { clauses = s.clauses i; home = s.home_is i; sentence = ts })

-- ---- behind one more sentence

sentences-ended : (earlier ts : List Token) (at : ℕ) (before : List (List Token)) → sentences earlier ≡ (before, []) → HasNoStop ts → sentences (earlier ++ (ts ++ Punctuation at Stop ∷ [])) ≡ (before ++ ts ∷ [], [])
sentences-ended earlier ts at before e h =
    let all : sentences (earlier ++ ts) ≡ (before, ts) = sentences-more earlier ts before [] e h in
    ap sentences (sym (append_assoc earlier ts (Punctuation at Stop ∷ []))) ∙ sentences-stop (earlier ++ ts) (Punctuation at Stop) refl ∙ (λ i. ((all i).0 ++ (all i).1 ∷ [], []))

abbrev next_home : Option Home → List Token → Option Home
next_home None s = opened s
next_home (Some h) s = if closes s then None else Some h

abbrev clause_at : Option Home → List Token → List (Home × List Token)
clause_at None s = []
clause_at (Some h) s = elim (closes s) [ true ↦ [] | false ↦ (h, s) ∷ [] ]

abbrev home_if : Home → Bool → Option Home
home_if h b = if b then None else Some h

clauses_of-one_more : (home : Option Home) (ss : List (List Token)) (s : List Token) → clauses_of home (ss ++ s ∷ []) ≡ clauses_of home ss ++ clause_at (home_behind home ss) s
clauses_of-one_more None [] s = refl
clauses_of-one_more (Some h) [] s = refl
clauses_of-one_more None (u ∷ us) s = clauses_of-one_more (opened u) us s
clauses_of-one_more (Some h) (u ∷ us) s = by (closes u) (clauses_of-one_more None us s) (clauses_of-one_more (Some h) us s)
  where
    by : (b : Bool) → clauses_of None (us ++ s ∷ []) ≡ clauses_of None us ++ clause_at (home_behind None us) s → clauses_of (Some h) (us ++ s ∷ []) ≡ clauses_of (Some h) us ++ clause_at (home_behind (Some h) us) s
        → elim b [ true ↦ clauses_of None (us ++ s ∷ []) | false ↦ (h, u) ∷ clauses_of (Some h) (us ++ s ∷ []) ]
        ≡ elim b [ true ↦ clauses_of None us | false ↦ (h, u) ∷ clauses_of (Some h) us ] ++ clause_at (home_behind (home_if h b) us) s
    by true e e' = e
    by false e e' = ap (λ cs. (h, u) ∷ cs) e'

stands_next : (earlier s : List Token) (at : ℕ) (home next : Option Home) (cs new : List (Home × List Token)) → Stands earlier home cs → HasNoStop s
    → next_home home s ≡ next → cs ++ clause_at home s ≡ new → AreWhole new → Stands (earlier ++ (s ++ Punctuation at Stop ∷ [])) next new
stands_next earlier s at home next cs new st n e e' w =
    record {
      before = st.before ++ s ∷ [];
      cut = sentences-ended earlier s at st.before st.cut n;
      home_is = home_behind-one_more None st.before s ∙ ap (λ home. next_home home s) st.home_is ∙ e;
      clauses = clauses_of-one_more None st.before s ∙ (λ i. st.clauses i ++ clause_at (st.home_is i) s) ∙ e';
      whole = w;
    }

-- a sentence outside of the lists
pub stands_outside : (earlier s : List Token) (at : ℕ) (home : Option Home) (cs : List (Home × List Token)) → Stands earlier None cs → HasNoStop s → opened s ≡ home → Stands (earlier ++ (s ++ Punctuation at Stop ∷ [])) home cs
stands_outside earlier s at home cs st h e = stands_next earlier s at None home cs cs st h e (append-nil cs) st.whole

-- the end of a list
pub stands_closed : (earlier s : List Token) (at : ℕ) (h : Home) (cs : List (Home × List Token)) → Stands earlier (Some h) cs → HasNoStop s → closes s ≡ true → Stands (earlier ++ (s ++ Punctuation at Stop ∷ [])) None cs
stands_closed earlier s at h cs st n e =
    stands_next earlier s at (Some h) None cs cs st n (ap (home_if h) e) (ap (λ (b : Bool). cs ++ elim b [ true ↦ [] | false ↦ (h, s) ∷ [] ]) e ∙ append-nil cs) st.whole

-- a clause
pub stands_behind : (earlier s : List Token) (at : ℕ) (h : Home) (cs : List (Home × List Token)) → Stands earlier (Some h) cs → HasNoStop s → closes s ≡ false → AreWhole (cs ++ (h, s) ∷ [])
    → Stands (earlier ++ (s ++ Punctuation at Stop ∷ [])) (Some h) (cs ++ (h, s) ∷ [])
stands_behind earlier s at h cs st n e w =
    stands_next earlier s at (Some h) (Some h) cs (cs ++ (h, s) ∷ []) st n (ap (home_if h) e) (ap (λ (b : Bool). cs ++ elim b [ true ↦ [] | false ↦ (h, s) ∷ [] ]) e) w

-- the position right behind a clause, to which no other law applies yet
pub standing_ended : (earlier s : List Token) (at : ℕ) (h : Home) (cs : List (Home × List Token)) → Stands earlier (Some h) cs → HasNoStop s → closes s ≡ false
    → position (earlier ++ (s ++ Punctuation at Stop ∷ [])) ≡ record { clauses = cs ++ (h, s) ∷ []; home = Some h; sentence = [] }
standing_ended earlier s at h cs st n e =
    let all = sentences-ended earlier s at st.before st.cut n in
    let home = home_behind-one_more None st.before s ∙ ap (λ home. next_home home s) st.home_is ∙ ap (home_if h) e in
    let clauses : clauses_of None (st.before ++ s ∷ []) ≡ cs ++ (h, s) ∷ [] =
    clauses_of-one_more None st.before s ∙ (λ i. st.clauses i ++ clause_at (st.home_is i) s) ∙ ap (λ (b : Bool). cs ++ elim b [ true ↦ [] | false ↦ (h, s) ∷ [] ]) e in
    (λ i. record { clauses = clauses_of None ((all i).0); home = home_behind None ((all i).0); sentence = (all i).1 })
    ∙ (λ i. record { clauses = clauses i; home = home i; sentence = [] })

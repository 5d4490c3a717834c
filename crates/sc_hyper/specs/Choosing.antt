-- Choices of electrons for the negative literals of a nucleus.
use Rattle.std.specs.Prelude.{◌≡◌, ◌≢◌, ℕ, ◌+◌, List, [], ◌∷◌, ◌++◌, Some, Contains, All, Bool, true, false, not, nat_eq, ◌||◌, ◌⊎◌, map, slice_get, length}
use Rattle.std.specs.List.{list_any}
use Rattle.sc_term.specs.declared.Term.{Var}
use Rattle.sc_term.specs.declared.Literal.{Literal}
use Rattle.sc_term.specs.declared.Numbered.{Numbered}
use Rattle.sc_term.specs.declared.Pair.{Pair}
use Rattle.sc_term.specs.Clause.{width}
use Rattle.sc_term.specs.Substitution.{literal_under, Unify}
use Rattle.sc_core_rules.specs.declared.site.HyperSite.{HyperSite}
use Rattle.sc_core_rules.specs.declared.site.Pick.{Pick}
use Rattle.sc_core_rules.specs.Pairing.{HaveOppositeSigns}
use Rattle.sc_core_rules.specs.Hyperresolution.{picked_numbers}
use Rattle.sc_hyper.specs.declared.candidates.Candidate.{Candidate}
use Rattle.sc_hyper.specs.declared.choice.PartialSite.{PartialSite}
use Rattle.sc_hyper.specs.Negatives.{ArePicked, IsNegative}

-- the electron with its literal
abbrev pub pick_of : Candidate → Pick
pick_of c = record { number = c.number; lit = c.lit }

-- it is the clause of this number
abbrev pub has : ℕ → Pick → Bool
has n p = nat_eq p.number n

-- the literal of the nucleus against the candidate's, renamed apart
abbrev pub pair_with : ℕ → Literal → Candidate → Pair
pair_with low l c = record { left = l; right = literal_under (λ n. Var (n + low)) c.literal }

-- the literals against the candidates, each renamed apart from those before it
abbrev pub pairs_of : ℕ → List Literal → List Candidate → List Pair
pairs_of low [] cs = []
pairs_of low (l ∷ ls) [] = []
pairs_of low (l ∷ ls) (c ∷ cs) = pair_with low l c ∷ pairs_of (low + c.wide) ls cs

-- the number of variables up to and with these candidates
abbrev pub low_after : ℕ → List Candidate → ℕ
low_after low [] = low
low_after low (c ∷ cs) = low_after (low + c.wide) cs

-- the choice is longer by the candidate, and still unifies
pub record IsExtended (choice : PartialSite) (l : Literal) (next : Candidate) (longer : PartialSite) : Type 0 where
  pub picks : longer.picks ≡ choice.picks ++ pick_of next ∷ []
  pub pairs : longer.pairs ≡ choice.pairs ++ pair_with choice.low l next ∷ []
  pub low : longer.low ≡ choice.low + next.wide
  pub unify : Unify longer.pairs

-- the literals have opposite signs
abbrev pub AreOpposed : Literal → Candidate → Type 0
AreOpposed l c = l.positive ≡ not c.literal.positive

-- the choice is longer by the candidate, has the signs, and still unifies
pub record IsNext (choice : PartialSite) (l : Literal) (next : Candidate) (longer : PartialSite) : Type 0 where
  pub extended : IsExtended choice l next longer
  pub opposed : AreOpposed l next

-- the candidate can't be next: the signs are the same, the pairs don't unify then, or it is the last and the given clause isn't among them
abbrev pub IsRefused : ℕ → ℕ → PartialSite → Literal → Candidate → Bool → Type 0
IsRefused nucleus given choice l next last =
    (¬ Unify (choice.pairs ++ pair_with choice.low l next ∷ []))
    ⊎ (¬ AreOpposed l next)
    ⊎ ((last ≡ true) × (nat_eq next.number given ≡ false) × ((nat_eq nucleus given || list_any (has given) choice.picks) ≡ false))

-- the choice is of these candidates, where the variables of the first become greater by the number
pub record IsChosen (candidates : List Candidate) (low : ℕ) (negatives : List Literal) (cs : List Candidate) (choice : PartialSite) : Type 0 where
  pub among : All (Contains candidates) cs
  pub picks : choice.picks ≡ map pick_of cs
  pub pairs : choice.pairs ≡ pairs_of low negatives cs
  pub signs : HaveOppositeSigns choice.pairs
  pub low_is : choice.low ≡ low_after low cs

-- the site is that of the whole choice, which unifies and has the given clause
pub record IsChoice (nucleus given : ℕ) (candidates : List Candidate) (low : ℕ) (negatives : List Literal) (cs : List Candidate) (site : HyperSite) : Type 0 where
  pub is : site ≡ record { nucleus = nucleus; electrons = map pick_of cs }
  pub many : length cs ≡ length negatives
  pub among : All (Contains candidates) cs
  pub signs : HaveOppositeSigns (pairs_of low negatives cs)
  pub unify : Unify (pairs_of low negatives cs)
  pub has_given : Contains (nucleus ∷ picked_numbers site) given

-- the site is that of a choice that begins with these candidates
abbrev pub Completes : ℕ → ℕ → List Candidate → ℕ → List Literal → List Candidate → HyperSite → Type 0
Completes nucleus given candidates low negatives cs site = (more : List Candidate) × IsChoice nucleus given candidates low negatives (cs ++ more) site

-- the site begins with these candidates and then the one at k
abbrev pub IsWithNext : ℕ → ℕ → List Candidate → ℕ → List Literal → List Candidate → ℕ → HyperSite → Type 0
IsWithNext nucleus given candidates low negatives cs k site =
    (c : Candidate) × (slice_get candidates k ≡ Some c) × Completes nucleus given candidates low negatives (cs ++ c ∷ []) site

-- a site with this nucleus
pub record IsWithNucleus (given : ℕ) (candidates : List Candidate) (nucleus : Numbered) (site : HyperSite) : Type 0 where
  pub numbers : List ℕ
  pub literals : List Literal
  pub negative : ArePicked IsNegative nucleus.clause numbers literals
  pub some : literals ≢ []
  pub choice : Completes nucleus.number given candidates (width nucleus.clause) literals [] site

-- a site with the usable clause at k as its nucleus
abbrev pub IsWithUsable : ℕ → List Candidate → List Numbered → ℕ → HyperSite → Type 0
IsWithUsable given candidates usable k site = (p : Numbered) × (slice_get usable k ≡ Some p) × IsWithNucleus given candidates p site

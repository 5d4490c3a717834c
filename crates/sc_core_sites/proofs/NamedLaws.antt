-- An inference at a site is the same over the clauses that the site names.
use Rattle.std.proofs.Common.{◌≡◌, sym, subst, ℕ, List, [], ◌∷◌}
use Rattle.std.specs.Prelude.{◌↔◌}
use Rattle.std.specs.List.{Contains}
use Rattle.sc_term.specs.declared.Numbered.{Numbered}
use Rattle.sc_core_rules.specs.Hyperresolution.{AreNamed, picked_numbers}
use Rattle.sc_core_rules.specs.Inference.{Inference}
use Rattle.sc_core_rules.specs.Sites.{Site, Binary, Factor, Hyper, Ur, ParaFrom, ParaInto, Infers}
use Rattle.sc_term.proofs.ContainsLaws.{at_first, later}
use Rattle.sc_core_rules.proofs.FilterLaws.{in_first}
use Rattle.sc_core_sites.specs.Sites.{named_numbers}

-- the clauses of the one list with these numbers are in the other
abbrev pub AreThere : List Numbered → List ℕ → List Numbered → Type 0
AreThere usable numbers parents = (p : Numbered) → Contains usable p → Contains numbers p.number → Contains parents p

named_there : (usable parents : List Numbered) (numbers : List ℕ) (ps : List Numbered) → AreThere usable numbers parents → AreNamed usable numbers ps → AreNamed parents numbers ps
named_there usable parents [] [] there h = h
named_there usable parents [] (p ∷ ps) there h = h
named_there usable parents (n ∷ numbers) [] there h = h
named_there usable parents (n ∷ numbers) (p ∷ ps) there h = (
  (h.0.0, there p h.0.1 (subst (Contains (n ∷ numbers)) (sym h.0.0) (at_first n numbers))),
  named_there usable parents numbers ps (λ q listed c. there q listed (later q.number n numbers c)) h.1,
)

first_there : (usable parents : List Numbered) (n : ℕ) (numbers : List ℕ) → AreThere usable (n ∷ numbers) parents → AreThere usable (n ∷ []) parents
first_there usable parents n numbers there p listed c = there p listed (in_first p.number (n ∷ []) numbers c)

rest_there : (usable parents : List Numbered) (n : ℕ) (numbers : List ℕ) → AreThere usable (n ∷ numbers) parents → AreThere usable numbers parents
rest_there usable parents n numbers there p listed c = there p listed (later p.number n numbers c)

-- the one clause with this number
one_there : (usable parents : List Numbered) (n : ℕ) (p : Numbered) → AreThere usable (n ∷ []) parents → Contains usable p → p.number ≡ n → Contains parents p
one_there usable parents n p there listed e = there p listed (subst (Contains (n ∷ [])) (sym e) (at_first n []))

pub infers_there : (given : Numbered) (usable parents : List Numbered) (site : Site) → AreThere usable (named_numbers site) parents → (i : Inference)
    → Infers given usable site i → Infers given parents site i
infers_there given usable parents (Binary s) there i h = record {
  partner = h.partner;
  listed = one_there usable parents s.partner h.partner there h.listed h.named;
  named = h.named;
  parents = h.parents;
  pairs = h.pairs;
  signs = h.signs;
  unify = h.unify;
  ending = h.ending;
}
infers_there given usable parents (Factor s) there i h = h
infers_there given usable parents (Hyper s) there i h = record {
  nucleus = h.nucleus;
  electrons = h.electrons;
  nucleus_named = named_there usable parents (s.nucleus ∷ []) (h.nucleus ∷ []) (first_there usable parents s.nucleus (picked_numbers s) there) h.nucleus_named;
  electrons_named = named_there usable parents (picked_numbers s) h.electrons (rest_there usable parents s.nucleus (picked_numbers s) there) h.electrons_named;
  electrons_positive = h.electrons_positive;
  has_given = h.has_given;
  parents = h.parents;
  negative = h.negative;
  are_negative = h.are_negative;
  some_negative = h.some_negative;
  pairs = h.pairs;
  unify = h.unify;
  ending = h.ending;
}
infers_there given usable parents (Ur s) there i h = record {
  nucleus = h.nucleus;
  units = h.units;
  nucleus_named = named_there usable parents (s.nucleus ∷ []) (h.nucleus ∷ []) (first_there usable parents s.nucleus s.units there) h.nucleus_named;
  nucleus_long = h.nucleus_long;
  units_named = named_there usable parents s.units h.units (rest_there usable parents s.nucleus s.units there) h.units_named;
  units_single = h.units_single;
  has_given = h.has_given;
  target_there = h.target_there;
  parents = h.parents;
  others = h.others;
  are_others = h.are_others;
  pairs = h.pairs;
  signs = h.signs;
  unify = h.unify;
  ending = h.ending;
}
infers_there given usable parents (ParaFrom s) there i h = record {
  into = h.into;
  listed = one_there usable parents s.into h.into there h.listed (h.para).into_named;
  para = h.para;
}
infers_there given usable parents (ParaInto s) there i h = record {
  from = h.from;
  listed = one_there usable parents s.from h.from there h.listed (h.para).from_named;
  para = h.para;
}

-- where the parents are usable clauses, and all of those that the site names, the inferences at the site are the same
pub same_inferences : (given : Numbered) (usable parents : List Numbered) (site : Site) → ((p : Numbered) → Contains parents p → Contains usable p)
    → AreThere usable (named_numbers site) parents → (i : Inference) → Infers given usable site i ↔ Infers given parents site i
same_inferences given usable parents site among there i = (
  infers_there given usable parents site there i,
  infers_there given parents usable site (λ p listed c. among p listed) i,
)

-- The sites that the loops of binary resolution find are its sites.
use Rattle.std.proofs.Common.{◌≡◌, ◌∙◌, sym, ap, subst, refl, ℕ, ◌+◌, ◌-◌, ◌<◌, inl, inr, List, [], ◌∷◌, ◌++◌, length, map, Some, not, false, slice_get, get_or, arith}
use Rattle.std.specs.Prelude.{AllPairs, Contains}
use Rattle.std.proofs.lemmas.Option.{slice_get_within, get_or_from_slice_get}
use Rattle.std.specs.List.{list_any}
use Rattle.sc_term.specs.declared.Term.{Var}
use Rattle.sc_term.specs.declared.Literal.{Literal}
use Rattle.sc_term.specs.declared.Clause.{Clause}
use Rattle.sc_term.specs.declared.Numbered.{Numbered}
use Rattle.sc_term.specs.Clause.{width}
use Rattle.sc_term.specs.Substitution.{Unify}
use Rattle.sc_term.specs.JointInstance.{apart, shift}
use Rattle.sc_core_rules.specs.declared.site.BinarySite.{BinarySite}
use Rattle.sc_core_rules.specs.Order.{IsBefore}
use Rattle.sc_core_rules.specs.Pairing.{ArePairs, HaveOppositeSigns, places_in}
use Rattle.sc_core_rules.specs.Inference.{Inference, Resolving}
use Rattle.sc_core_rules.specs.Resolution.{IsBinary, binary_numbers, AreBinarySites}
use Rattle.sc_core_rules.proofs.PairLaws.{opposite_one}
use Rattle.sc_core_rules.proofs.StepLaws.{same_some}
use Rattle.sc_core_rules.proofs.FactorExample.{one_pair}
use Rattle.sc_resolve.specs.ByNumber.{AreByNumber}
use Rattle.sc_resolve.specs.Extending.{Extends, Below}
use Rattle.sc_resolve.specs.Literals.{pair_of, may_resolve, AreResolvable}
use Rattle.sc_resolve.specs.Binary.{IsWithLiteral, IsWithClause, IsWithPartner, renamed}
use Rattle.sc_resolve.proofs.Extending.{Rising, same, one, nothing}
use Rattle.sc_resolve.proofs.OrderLaws.{first_by_number}
use Rattle.sc_resolve.proofs.LiteralLaws.{numbered_next, numbered_place, contains_at, at_contains, apart_two, no_pair}

-- ---- order

abbrev site : ℕ → ℕ → ℕ → BinarySite
site p a b = record { partner = p; given_lit = a; partner_lit = b }

ordered : (x y u v : BinarySite) → x ≡ u → y ≡ v → IsBefore (binary_numbers u) (binary_numbers v) → IsBefore (binary_numbers x) (binary_numbers y)
ordered x y u v e f h = subst (λ (z : BinarySite). IsBefore (binary_numbers z) (binary_numbers y)) (sym e) (subst (λ (z : BinarySite). IsBefore (binary_numbers u) (binary_numbers z)) (sym f) h)

pub literals_rise : (p a : ℕ) (l : Literal) (others : List Literal) → Rising binary_numbers (IsWithLiteral p a l others)
literals_rise p a l others j k x y less h i = ordered x y (site p a (j + 1)) (site p a (k + 1)) h.0 i.0 (inr (refl, inr (refl, inl (omega arith))))

pub clauses_rise : (p : ℕ) (literals others : List Literal) → Rising binary_numbers (IsWithClause p literals others)
clauses_rise p literals others j k x y less h i =
    ordered x y (site p (j + 1) (h.2.0 + 1)) (site p (k + 1) (i.2.0 + 1)) h.2.2.0 i.2.2.0 (inr (refl, inl (omega arith)))

pub partners_rise : (given : Numbered) (usable : List Numbered) → AllPairs (λ p q. p.number < q.number) usable → Rising binary_numbers (IsWithPartner given usable)
partners_rise given usable up j k x y less h i =
    ordered x y (site h.0.number (h.2.0 + 1) (h.2.2.2.0 + 1)) (site i.0.number (i.2.0 + 1) (i.2.2.2.0 + 1)) h.2.2.2.2.0 i.2.2.2.2.0 (inl numbers)
  where
    numbers : h.0.number < i.0.number
    numbers =
        subst (λ (q : Numbered). h.0.number < q.number) (get_or_from_slice_get usable k i.0 h.0 i.1)
        (subst (λ (q : Numbered). q.number < (get_or usable k h.0).number) (get_or_from_slice_get usable j h.0 h.0 h.1) (up j k h.0 less (slice_get_within usable k i.0 i.1)))

-- ---- what the loops find

abbrev IsSite : Numbered → List Numbered → BinarySite → Type 0
IsSite given usable x = (i : Inference) × IsBinary given usable x i

is_site : (given : Numbered) (usable : List Numbered) (x : BinarySite) → Below (IsWithPartner given usable) (length usable) x → IsSite given usable x
is_site given usable x (n, less, (p, at_p, (j, less_j, (l, at_l, (k, less_k, (e, m, at_m, can)))))) = (
  record { parents = given ∷ p ∷ []; pairs = pair_of l m; ending = Resolving (x.given_lit ∷ []) (x.partner_lit ∷ []) },
  record {
    partner = p;
    listed = contains_at usable n p at_p;
    named = ap (λ (s : BinarySite). s.partner) (sym e);
    parents = refl;
    pairs = subst (λ (s : BinarySite). ArePairs (apart (given.clause ∷ p.clause ∷ [])) (places_in 1 (s.given_lit ∷ [])) (places_in 2 (s.partner_lit ∷ [])) (pair_of l m)) (sym e)
        (subst (λ (cs : List Clause). ArePairs cs (places_in 1 ((j + 1) ∷ [])) (places_in 2 ((k + 1) ∷ [])) (pair_of l m)) (sym (apart_two given.clause p.clause))
        (numbered_next given.clause.literals j ∙ at_l, numbered_next (renamed given p) k ∙ at_m, refl));
    signs = opposite_one (record { left = l; right = m }) can.signs;
    unify = can.unify;
    ending = refl;
  },
)

is_found : (given : Numbered) (usable : List Numbered) (x : BinarySite) → IsSite given usable x → Below (IsWithPartner given usable) (length usable) x
is_found given usable x (i, h) =
    let there : ArePairs (apart (given.clause ∷ h.partner.clause ∷ [])) (places_in 1 (x.given_lit ∷ [])) (places_in 2 (x.partner_lit ∷ [])) i.pairs =
    subst (λ (ps : List Numbered). ArePairs (apart (map (λ (q : Numbered). q.clause) ps)) (places_in 1 (x.given_lit ∷ [])) (places_in 2 (x.partner_lit ∷ [])) i.pairs) h.parents h.pairs in
    let here : ArePairs (given.clause ∷ shift (width given.clause) h.partner.clause ∷ []) (places_in 1 (x.given_lit ∷ [])) (places_in 2 (x.partner_lit ∷ [])) i.pairs =
    subst (λ (cs : List Clause). ArePairs cs (places_in 1 (x.given_lit ∷ [])) (places_in 2 (x.partner_lit ∷ [])) i.pairs) (apart_two given.clause h.partner.clause) there in
    let pair = one_pair (given.clause ∷ shift (width given.clause) h.partner.clause ∷ []) (record { parent = 1; lit = x.given_lit }) (record { parent = 2; lit = x.partner_lit }) i.pairs here in
    let left = numbered_place given.clause.literals x.given_lit pair.0.left pair.2 in
    let right = numbered_place (renamed given h.partner) x.partner_lit pair.0.right pair.3 in
    let e : x ≡ site h.partner.number (left.0 + 1) (right.0 + 1) = λ n. record { partner = sym h.named n; given_lit = left.1 n; partner_lit = right.1 n } in
    let opposite : (pair.0.left).positive ≡ not (pair.0.right).positive = subst HaveOppositeSigns pair.1 h.signs 0 pair.0 (omega arith) in
    let unify : Unify (pair_of pair.0.left pair.0.right) = subst Unify pair.1 h.unify in (
      h.listed.0,
      h.listed.1,
      (
        h.partner,
        at_contains usable h.partner h.listed,
        (
          left.0,
          slice_get_within given.clause.literals left.0 pair.0.left left.2,
          (
            pair.0.left,
            left.2,
            (right.0, slice_get_within (renamed given h.partner) right.0 pair.0.right right.2, (e, pair.0.right, right.2, record { signs = opposite; unify = unify })),
          ),
        ),
      ),
    )

-- the list of what the loops find, from none
pub are_sites : (given : Numbered) (usable : List Numbered) (limit : ℕ) (sites : List BinarySite)
    → Extends binary_numbers (Below (IsWithPartner given usable) (length usable)) limit [] sites → AreBinarySites given usable limit sites
are_sites given usable limit sites h =
    let all = same binary_numbers limit (Below (IsWithPartner given usable) (length usable)) (IsSite given usable) [] sites h (is_site given usable) (is_found given usable) in
    let room : limit - 0 ≡ limit = omega arith in
    subst (AreBinarySites given usable limit) (sym all.grown) (subst (λ n. AreBinarySites given usable n all.found) room all.first)

-- ---- the same clauses in another order

with_more : (given : Numbered) (ps qs : List Numbered) → ((p : Numbered) → Contains ps p → Contains qs p) → (x : BinarySite) → IsSite given ps x → IsSite given qs x
with_more given ps qs more x (i, h) = (
  i,
  record { partner = h.partner; listed = more h.partner h.listed; named = h.named; parents = h.parents; pairs = h.pairs; signs = h.signs; unify = h.unify; ending = h.ending },
)

-- the sites with partners in the order of their numbers are those with the usable clauses
pub sites_by_number : (given : Numbered) (usable ordered : List Numbered) (limit : ℕ) (sites : List BinarySite)
    → AreByNumber usable ordered → AreBinarySites given ordered limit sites → AreBinarySites given usable limit sites
sites_by_number given usable ordered limit sites h first = first_by_number binary_numbers (IsSite given) usable ordered limit sites (with_more given) h first

-- ---- one place more

module _ (limit p a : ℕ) (l : Literal) (others : List Literal) (k : ℕ) (m : Literal) (there : slice_get others k ≡ Some m) (xs ys : List BinarySite) where
  pub added : length xs < limit → ys ≡ xs ++ site p a (k + 1) ∷ [] → AreResolvable l m → Extends binary_numbers (IsWithLiteral p a l others k) limit xs ys
  added room e can = one binary_numbers limit (IsWithLiteral p a l others k) xs ys (site p a (k + 1)) room e (refl, m, there, can) (λ y h. sym h.0)

  pub passed : ys ≡ xs → ¬ AreResolvable l m → Extends binary_numbers (IsWithLiteral p a l others k) limit xs ys
  passed e cannot = subst (Extends binary_numbers (IsWithLiteral p a l others k) limit xs) (sym e)
      (nothing binary_numbers limit (IsWithLiteral p a l others k) xs (λ y h. cannot (subst (AreResolvable l) (same_some (slice_get others k) h.1 m h.2 there) h.3)))

-- the sites of one literal are those at its place
pub with_literal : (limit p : ℕ) (literals others : List Literal) (k : ℕ) (l : Literal) → slice_get literals k ≡ Some l → (xs ys : List BinarySite)
    → Extends binary_numbers (Below (IsWithLiteral p (k + 1) l others) (length others)) limit xs ys → Extends binary_numbers (IsWithClause p literals others k) limit xs ys
with_literal limit p literals others k l there xs ys h =
    same binary_numbers limit (Below (IsWithLiteral p (k + 1) l others) (length others)) (IsWithClause p literals others k) xs ys h
    (λ x b. (l, there, b))
    (λ x b. subst (λ (m : Literal). Below (IsWithLiteral p (k + 1) m others) (length others) x) (same_some (slice_get literals k) b.0 l b.1 there) b.2)

-- and those of one partner those at its place
pub with_partner : (limit : ℕ) (given : Numbered) (usable : List Numbered) (k : ℕ) (p : Numbered) → slice_get usable k ≡ Some p → (xs ys : List BinarySite)
    → Extends binary_numbers (Below (IsWithClause p.number given.clause.literals (renamed given p)) (length given.clause.literals)) limit xs ys
    → Extends binary_numbers (IsWithPartner given usable k) limit xs ys
with_partner limit given usable k p there xs ys h =
    same binary_numbers limit (Below (IsWithClause p.number given.clause.literals (renamed given p)) (length given.clause.literals)) (IsWithPartner given usable k) xs ys h
    (λ x b. (p, there, b))
    (λ x b. subst (λ (q : Numbered). Below (IsWithClause q.number given.clause.literals (renamed given q)) (length given.clause.literals) x) (same_some (slice_get usable k) b.0 p b.1 there) b.2)

-- ---- nothing is found where no literals may be resolved on

pub none_found : (limit p : ℕ) (literals : List Literal) (by : ℕ) (c : Clause) (xs : List BinarySite) → list_any (λ l. list_any (may_resolve l) c.literals) literals ≡ false
    → Extends binary_numbers (Below (IsWithClause p literals (shift by c).literals) (length literals)) limit xs xs
none_found limit p literals by c xs failed = nothing binary_numbers limit (Below (IsWithClause p literals (shift by c).literals) (length literals)) xs none
  where
    none : (x : BinarySite) → ¬ Below (IsWithClause p literals (shift by c).literals) (length literals) x
    none x (j, less_j, (l, at_l, (k, less_k, (e, m, at_m, can)))) = no_pair literals c.literals (λ n. Var (n + by)) failed j k l m at_l at_m can

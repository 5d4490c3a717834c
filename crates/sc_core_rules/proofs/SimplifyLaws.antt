-- A conclusion is simplified in one way.
use Rattle.std.proofs.Common.{◌≡◌, ◌∙◌, sym, ap, subst, refl, ℕ, zero, suc, ◌<◌, ◌⊎◌, inl, inr, List, [], ◌∷◌, length, map, get_or, Option, Some, Bool, true, false, not, arith}
use Rattle.std.specs.Prelude.{IsSomeAnd}
use Rattle.std.specs.List.{Contains, AllByRecursion}
use Rattle.sc_term.specs.declared.Term.{Term}
use Rattle.sc_term.specs.declared.Term.TheVariants.{App}
use Rattle.sc_term.specs.declared.Literal.{Literal}
use Rattle.sc_term.specs.declared.Clause.{Clause}
use Rattle.sc_term.specs.declared.Line.{Line}
use Rattle.sc_term.specs.declared.Step.TheVariants.{Para, Flip, Resolve, Merge}
use Rattle.sc_term.specs.declared.Side.TheVariants.{Left}
use Rattle.sc_term.specs.Term.{value_of, term_instance, term_variables}
use Rattle.sc_term.specs.Clause.{instance, literal_instance}
use Rattle.sc_term.specs.Refuted.{equation}
use Rattle.sc_term.specs.Numbering.{numbered}
use Rattle.sc_term.specs.Path.{IsSubtermAt}
use Rattle.sc_term.proofs.TermLaws.{App-injective}
use Rattle.sc_input_rules.specs.declared.settings.Flags.{Flags}
use Rattle.sc_term.specs.declared.Numbered.{Numbered}
use Rattle.sc_core_rules.specs.Order.{Where, With, IsLeast, Exhausts, ExhaustsWithin, ends, goes, limit}
use Rattle.sc_steps.specs.Derivation.{last_clause}
use Rattle.sc_core_rules.specs.Derivation.{Adds, AddsPart, EndsCanonical}
use Rattle.sc_core_rules.specs.Rewriting.{number_of, IsEquation, Fits, IsRedex, IsBeforeInPostOrder, IsFirstRedex, IsDemodulator, RewritesOnce}
use Rattle.sc_core_rules.specs.Simplification.{IsUphill, Orients, Removes, IsRemovable, DeletesOnce, IsRepeated, MergesOnce, Simplifies}
use Rattle.sc_term.proofs.SubstitutionLaws.{term_laws}
use Rattle.sc_core_rules.proofs.StepLaws.{some_both, same_some, adds_one}
use Rattle.sc_core_rules.proofs.DerivationLaws.{compared, part_one, canonical_one, at_found}

-- ---- choices

-- clauses of the list with the same number are the same
abbrev pub NumbersTell : List Numbered → Type 0
NumbersTell ps = (x y : Numbered) → Contains ps x → Contains ps y → x.number ≡ y.number → x ≡ y

pub least_one : (P : Numbered → Type 0) (ps : List Numbered) (x y : Numbered) → NumbersTell ps → IsLeast number_of P ps x → IsLeast number_of P ps y → x ≡ y
least_one P ps x y tell h k = tell x y h.listed k.listed (by (compared x.number y.number))
  where
    by : (x.number < y.number) ⊎ (x.number ≡ y.number) ⊎ (y.number < x.number) → x.number ≡ y.number
    by (inl less) = absurd (k.least x h.listed h.holds (inl less))
    by (inr (inl e)) = e
    by (inr (inr less)) = absurd (h.least y k.listed k.holds (inl less))

-- the first number of which P holds is one
pub first_number_one : (P : ℕ → Type 0) (m n : ℕ) → P m → P n → ((k : ℕ) → k < m → ¬ P k) → ((k : ℕ) → k < n → ¬ P k) → m ≡ n
first_number_one P m n h k none_m none_n = by (compared m n)
  where
    by : (m < n) ⊎ (m ≡ n) ⊎ (n < m) → m ≡ n
    by (inl less) = absurd (none_n m less h)
    by (inr (inl e)) = e
    by (inr (inr less)) = absurd (none_m n less k)

-- ---- repetition

pub exhausts_one : {X : Type 0} (R : X → X → Type 0) → ((x y z : X) → R x y → R x z → y ≡ z) → (x y z : X) → Exhausts R x y → Exhausts R x z → y ≡ z
exhausts_one R det x y z (ends h) (ends k) = refl
exhausts_one R det x y z (ends h) (goes {y = w} r k) = absurd (h w r)
exhausts_one R det x y z (goes {y = v} r h) (ends k) = absurd (k v r)
exhausts_one R det x y z (goes {y = v} r h) (goes {y = w} q k) =
    exhausts_one R det v y z h (subst (λ u. Exhausts R u z) (det x w v q r) k)

pub within_one : {X : Type 0} (R : X → X → Type 0) → ((x y z : X) → R x y → R x z → y ≡ z) → (n : ℕ) (x y z : X) → ExhaustsWithin R n x y → ExhaustsWithin R n x z → y ≡ z
within_one R det zero x y z limit limit = refl
within_one R det (suc n) x y z (ends h) (ends k) = refl
within_one R det (suc n) x y z (ends h) (goes {y = w} r k) = absurd (h w r)
within_one R det (suc n) x y z (goes {y = v} r h) (ends k) = absurd (k v r)
within_one R det (suc n) x y z (goes {y = v} r h) (goes {y = w} q k) =
    within_one R det n v y z h (subst (λ u. ExhaustsWithin R n u z) (det x w v q r) k)

-- ---- merge, unit deletion, flip

merges_once_one : (before after others : List Line) → MergesOnce before after → MergesOnce before others → after ≡ others
merges_once_one before after others h k =
    let c : h.clause ≡ k.clause = same_some (last_clause before) h.clause k.clause h.clause_last k.clause_last in
    let a : h.a ≡ k.a = first_number_one (IsRepeated k.clause) h.a k.a (subst (λ (c : Clause). IsRepeated c h.a) c h.repeated) k.repeated
    (λ b less r. h.first b less (subst (λ (c : Clause). IsRepeated c b) (sym c) r)) k.first in
    adds_one before (Merge (length before) k.a) after others (subst (λ (n : ℕ). Adds before (Merge (length before) n) after) a h.merges) k.merges

orients_one : (before after others : List Line) → Orients before after → Orients before others → after ≡ others
orients_one before after others h k = by both.1 both.2
  where
    both : (c : Clause) × Where (IsUphill c) (Adds before (Flip (length before) 1) after) (after ≡ before) × Where (IsUphill c) (Adds before (Flip (length before) 1) others) (others ≡ before)
    both = some_both (last_clause before) _ _ h k

    by : Where (IsUphill both.0) (Adds before (Flip (length before) 1) after) (after ≡ before) → Where (IsUphill both.0) (Adds before (Flip (length before) 1) others) (others ≡ before) → after ≡ others
    by (inl a) (inl b) = adds_one before (Flip (length before) 1) after others a.1 b.1
    by (inl a) (inr b) = absurd (b.0 a.0)
    by (inr a) (inl b) = absurd (a.0 b.0)
    by (inr a) (inr b) = a.1 ∙ sym b.1

abbrev negated : Literal → Clause
negated l = record { literals = record l { positive = not l.positive } ∷ [] }

deletes_once_one : (units : List Numbered) → NumbersTell units → (before after others : List Line) → DeletesOnce units before after → DeletesOnce units before others → after ≡ others
deletes_once_one units tell before after others h k =
    let c : h.clause ≡ k.clause = same_some (last_clause before) h.clause k.clause h.clause_last k.clause_last in
    let removable_h : IsRemovable units h.clause h.a = subst (λ (o : Option Literal). IsSomeAnd o (λ l. (u : Numbered) × Contains units u × Removes l u)) (sym h.literal_there) (h.removing, h.least.listed, h.least.holds) in
    let removable_k : IsRemovable units k.clause k.a = subst (λ (o : Option Literal). IsSomeAnd o (λ l. (u : Numbered) × Contains units u × Removes l u)) (sym k.literal_there) (k.removing, k.least.listed, k.least.holds) in
    let a : h.a ≡ k.a = first_number_one (IsRemovable units k.clause) h.a k.a (subst (λ (c : Clause). IsRemovable units c h.a) c removable_h) removable_k
    (λ b less r. h.first b less (subst (λ (c : Clause). IsRemovable units c b) (sym c) r)) k.first in
    let l : h.literal ≡ k.literal = same_some (numbered k.clause.literals k.a) h.literal k.literal
    (subst (λ (n : ℕ). numbered k.clause.literals n ≡ Some h.literal) a (subst (λ (c : Clause). numbered c.literals h.a ≡ Some h.literal) c h.literal_there)) k.literal_there in
    let u : h.removing ≡ k.removing = least_one (Removes k.literal) units h.removing k.removing tell (subst (λ (l : Literal). IsLeast number_of (Removes l) units h.removing) l h.least) k.least in
    let part = part_one before k.removing (negated k.literal) h.mid k.mid h.k k.k
    (subst (λ (l : Literal). AddsPart before k.removing (negated l) h.mid h.k) l (subst (λ (q : Numbered). AddsPart before q (negated h.literal) h.mid h.k) u h.shows)) k.shows in
    adds_one k.mid (Resolve (length before) k.a k.k 1) after others
    (subst (λ (n : ℕ). Adds k.mid (Resolve (length before) k.a n 1) after) part.1
    (subst (λ (n : ℕ). Adds k.mid (Resolve (length before) n h.k 1) after) a
    (subst (λ (ls : List Line). Adds ls (Resolve (length before) h.a h.k 1) after) part.0 h.resolves))) k.resolves

-- ---- rewriting

post_total : (p q : List ℕ) → IsBeforeInPostOrder p q ⊎ (p ≡ q) ⊎ IsBeforeInPostOrder q p
post_total [] [] = inr (inl refl)
post_total [] (j ∷ q) = inr (inr tt)
post_total (i ∷ p) [] = inl tt
post_total (i ∷ p) (j ∷ q) = by (compared i j) (post_total p q)
  where
    by : (i < j) ⊎ (i ≡ j) ⊎ (j < i) → IsBeforeInPostOrder p q ⊎ (p ≡ q) ⊎ IsBeforeInPostOrder q p
        → IsBeforeInPostOrder (i ∷ p) (j ∷ q) ⊎ (i ∷ p ≡ j ∷ q) ⊎ IsBeforeInPostOrder (j ∷ q) (i ∷ p)
    by (inl less) rest = inl (inl less)
    by (inr (inr less)) rest = inr (inr (inl less))
    by (inr (inl e)) (inl h) = inl (inr (e, h))
    by (inr (inl e)) (inr (inl f)) = inr (inl (λ n. e n ∷ f n))
    by (inr (inl e)) (inr (inr h)) = inr (inr (inr (sym e, h)))

pub subterm_one : (args : List Term) (path : List ℕ) (s t : Term) → IsSubtermAt args path s → IsSubtermAt args path t → s ≡ t
subterm_one args [] s t h k = absurd h
subterm_one args (i ∷ []) s t h k = same_some (numbered args i) s t h k
subterm_one args (i ∷ j ∷ path) s t h k =
    let same : App h.0 h.1 ≡ App k.0 k.1 = same_some (numbered args i) (App h.0 h.1) (App k.0 k.1) h.2 k.2 in
    subterm_one k.1 (j ∷ path) s t (subst (λ ts. IsSubtermAt ts (j ∷ path) s) (App-injective h.0 k.0 h.1 k.1 same).1 h.3) k.3

first_redex_one : (demods : List Numbered) (c : Clause) (b d : ℕ) (p q : List ℕ) (s t : Term) → IsFirstRedex demods c b p s → IsFirstRedex demods c d q t
    → (b ≡ d) × (p ≡ q) × (s ≡ t)
first_redex_one demods c b d p q s t h k = (literal, path, term)
  where
    by : (b < d) ⊎ (b ≡ d) ⊎ (d < b) → b ≡ d
    by (inl less) = absurd (k.first_literal b p s less h.redex)
    by (inr (inl e)) = e
    by (inr (inr less)) = absurd (h.first_literal d q t less k.redex)

    literal : b ≡ d
    literal = by (compared b d)

    or : IsBeforeInPostOrder p q ⊎ (p ≡ q) ⊎ IsBeforeInPostOrder q p → p ≡ q
    or (inl less) = absurd (k.first_path p s less (subst (λ n. IsRedex demods c n p s) literal h.redex))
    or (inr (inl e)) = e
    or (inr (inr less)) = absurd (h.first_path q t less (subst (λ n. IsRedex demods c n q t) (sym literal) k.redex))

    path : p ≡ q
    path = or (post_total p q)

    moved : IsRedex demods c d q s
    moved = subst (λ r. IsRedex demods c d r s) path (subst (λ n. IsRedex demods c n p s) literal h.redex)

    term : s ≡ t
    term =
        let l : moved.literal ≡ k.redex.literal = same_some (numbered c.literals d) moved.literal k.redex.literal moved.literal_there k.redex.literal_there in
        subterm_one k.redex.literal.args q s t (subst (λ (m : Literal). IsSubtermAt m.args q s) l moved.subterm) k.redex.subterm

all_within : (P : ℕ → Type 0) (ms ns : List ℕ) → ((v : ℕ) → Contains ms v → Contains ns v) → AllByRecursion P ns → AllByRecursion P ms
all_within P [] ns sub h = tt
all_within P (m ∷ ms) ns sub h = (at_found P ns m h (sub m (0, omega arith, refl)), all_within P ms ns (λ v k. sub v (suc k.0, omega (arith, k.1), k.2)) h)

pub same_sides : (s t u v : Term) → equation true s t ∷ [] ≡ equation true u v ∷ [] → (s ≡ u) × (t ≡ v)
same_sides s t u v e =
    let args : s ∷ t ∷ [] ≡ u ∷ v ∷ [] = ap (λ (ls : List Literal). (get_or ls 0 (equation true s t)).args) e in
    (ap (λ (ts : List Term). get_or ts 0 s) args, ap (λ (ts : List Term). get_or ts 1 s) args)

-- the value of a redex is one
value_one : (c : Clause) (ts us : List Term) (x v w : Term) → IsDemodulator c → IsEquation (instance ts c) x v → IsEquation (instance us c) x w → v ≡ w
value_one c ts us x v w d h k =
    let first = same_sides (term_instance ts d.left) (term_instance ts d.right) x v (sym (ap (map (literal_instance ts)) d.equates) ∙ h) in
    let second = same_sides (term_instance us d.left) (term_instance us d.right) x w (sym (ap (map (literal_instance us)) d.equates) ∙ k) in
    let agree = all_within (λ n. value_of ts n ≡ value_of us n) (term_variables d.right) (term_variables d.left) d.no_other
    ((term_laws d.left).exact (value_of ts) (value_of us) (first.0 ∙ sym second.0)) in
    sym first.1 ∙ (term_laws d.right).agree (value_of ts) (value_of us) agree ∙ second.1

rewrites_once_one : (demods : List Numbered) → NumbersTell demods → ((d : Numbered) → Contains demods d → IsDemodulator d.clause)
    → (before after others : List Line) → RewritesOnce demods before after → RewritesOnce demods before others → after ≡ others
rewrites_once_one demods tell are before after others h k =
    let c : h.clause ≡ k.clause = same_some (last_clause before) h.clause k.clause h.clause_last k.clause_last in
    let at_first = first_redex_one demods k.clause h.b k.b h.path k.path h.redex k.redex (subst (λ (c : Clause). IsFirstRedex demods c h.b h.path h.redex) c h.first) k.first in
    let d : h.demodulator ≡ k.demodulator = least_one (λ d. Fits d k.redex) demods h.demodulator k.demodulator tell
    (subst (λ (t : Term). IsLeast number_of (λ d. Fits d t) demods h.demodulator) at_first.2 h.least) k.least in
    let value_h : IsEquation (instance h.terms k.demodulator.clause) k.redex h.value =
    subst (λ (t : Term). IsEquation (instance h.terms k.demodulator.clause) t h.value) at_first.2
    (subst (λ (q : Numbered). IsEquation (instance h.terms q.clause) h.redex h.value) d h.is_value) in
    let v : h.value ≡ k.value = value_one k.demodulator.clause h.terms k.terms k.redex h.value k.value (are k.demodulator k.least.listed) value_h k.is_value in
    let part : instance h.terms h.demodulator.clause ≡ instance k.terms k.demodulator.clause =
    ap (λ (q : Numbered). instance h.terms q.clause) d
    ∙ ap (λ (ls : List Literal). let r : Clause = record { literals = ls } in r) (value_h ∙ ap (λ (t : Term). equation true k.redex t ∷ []) v ∙ sym k.is_value) in
    let shown = part_one before k.demodulator (instance k.terms k.demodulator.clause) h.mid k.mid h.k k.k
    (subst (λ (e : Clause). AddsPart before k.demodulator e h.mid h.k) part
    (subst (λ (q : Numbered). AddsPart before q (instance h.terms h.demodulator.clause) h.mid h.k) d h.shows)) k.shows in
    adds_one k.mid (Para k.k 1 Left (length before) k.b k.path) after others
    (subst (λ (p : List ℕ). Adds k.mid (Para k.k 1 Left (length before) k.b p) after) at_first.1
    (subst (λ (n : ℕ). Adds k.mid (Para k.k 1 Left (length before) n h.path) after) at_first.0
    (subst (λ (n : ℕ). Adds k.mid (Para n 1 Left (length before) h.b h.path) after) shown.1
    (subst (λ (ls : List Line). Adds ls (Para h.k 1 Left (length before) h.b h.path) after) shown.0 h.replaces)))) k.replaces

-- ---- all of it

pub with_one : {X : Type 0} (flag : Bool) (P : X → Type 0) (x y z : X) → ((x y : X) → P x → P y → x ≡ y) → With flag (P x) (x ≡ z) → With flag (P y) (y ≡ z) → x ≡ y
with_one true P x y z one h k = one x y h k
with_one false P x y z one h k = h ∙ sym k

pub simplifies_one : (flags : Flags) (n : ℕ) (demods units : List Numbered) → NumbersTell demods → NumbersTell units → ((d : Numbered) → Contains demods d → IsDemodulator d.clause)
    → (before after others : List Line) → Simplifies flags n demods units before after → Simplifies flags n demods units before others → after ≡ others
simplifies_one flags n demods units tell_demods tell_units are before after others h k =
    let one : h.rewritten ≡ k.rewritten = within_one (RewritesOnce demods) (rewrites_once_one demods tell_demods are) n before h.rewritten k.rewritten h.rewrites k.rewrites in
    let two : h.oriented ≡ k.oriented = with_one flags.dynamic_demod (Orients k.rewritten) h.oriented k.oriented k.rewritten (orients_one k.rewritten)
    (subst (λ (ls : List Line). With flags.dynamic_demod (Orients ls h.oriented) (h.oriented ≡ ls)) one h.orients) k.orients in
    let three : h.cut ≡ k.cut = with_one flags.unit_deletion (Exhausts (DeletesOnce units) k.oriented) h.cut k.cut k.oriented
    (exhausts_one (DeletesOnce units) (deletes_once_one units tell_units) k.oriented)
    (subst (λ (ls : List Line). With flags.unit_deletion (Exhausts (DeletesOnce units) ls h.cut) (h.cut ≡ ls)) two h.cuts) k.cuts in
    let four : h.merged ≡ k.merged = exhausts_one MergesOnce merges_once_one k.cut h.merged k.merged (subst (λ (ls : List Line). Exhausts MergesOnce ls h.merged) three h.merges) k.merges in
    canonical_one k.merged after others (subst (λ (ls : List Line). EndsCanonical ls after) four h.canonical_last) k.canonical_last

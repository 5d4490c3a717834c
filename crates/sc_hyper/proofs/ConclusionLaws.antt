-- The conclusion of a site whose first parent is resolved with the others, and that the sites are such.
use Rattle.std.proofs.Common.{◌≡◌, ◌≢◌, ◌∙◌, sym, ap, subst, refl, ℕ, ◌+◌, ◌<◌, ◌≤◌, ◌⊎◌, inl, inr, List, [], ◌∷◌, length, map, Some, None, Option, slice_get, arith}
use Rattle.std.specs.Prelude.{IsSomeAnd, MatchOption}
use Rattle.std.specs.List.{All, AllPairs, Contains}
use Rattle.std.proofs.lemmas.List.{length-map}
use Rattle.std.proofs.lemmas.Option.{MatchOption-at_some}
use Rattle.sc_term.specs.declared.Term.{Term}
use Rattle.sc_term.specs.declared.Literal.{Literal}
use Rattle.sc_term.specs.declared.Clause.{Clause}
use Rattle.sc_term.specs.declared.Line.{Line}
use Rattle.sc_term.specs.declared.Numbered.{Numbered}
use Rattle.sc_term.specs.declared.Pair.{Pair}
use Rattle.sc_term.specs.Numbering.{numbered}
use Rattle.sc_term.specs.Clause.{width}
use Rattle.sc_term.specs.Substitution.{Unify, clause_under}
use Rattle.sc_term.specs.JointInstance.{IsJointInstance, apart, apart_above, shift}
use Rattle.sc_steps.specs.declared.derivations.derivation.Derived.{Derived}
use Rattle.sc_steps.specs.declared.derivations.made.Made.{Made}
use Rattle.sc_core_rules.specs.declared.site.HyperSite.{HyperSite}
use Rattle.sc_core_rules.specs.declared.site.UrSite.{UrSite}
use Rattle.sc_core_rules.specs.declared.site.Pick.{Pick}
use Rattle.sc_steps.proofs.LineLaws.{some_so}
use Rattle.sc_core_rules.specs.Order.{IsBefore}
use Rattle.sc_core_rules.specs.Derivation.{AddsParts}
use Rattle.sc_core_rules.specs.Inference.{Inference, Concludes, Ending, Ends}
use Rattle.sc_core_rules.specs.Pairing.{HaveOppositeSigns}
use Rattle.sc_core_rules.specs.Hyperresolution.{IsHyper, IsUr, IsPositive, AreNamed, AreLiteralsWith, picked_numbers, picked_literals, unit_literals}
use Rattle.sc_core_rules.proofs.Enumerations.{in_none}
use Rattle.sc_core_rules.proofs.OrderLaws.{in_order_is_one}
use Rattle.sc_core_rules.proofs.StepLaws.{same_some}
use Rattle.sc_resolve.specs.Kept.{IsKept}
use Rattle.sc_resolve.specs.Parts.{IsOutside, AreJoint}
use Rattle.sc_resolve.proofs.KeptLaws.{kept_length}
use Rattle.sc_resolve.proofs.LiteralLaws.{numbered_next, some_at}
use Rattle.sc_resolve.proofs.PartLaws.{unified}
use Rattle.sc_hyper.specs.declared.parts.Opening.{Opening}
use Rattle.sc_hyper.specs.Negatives.{ArePicked, IsNegative, IsOther}
use Rattle.sc_hyper.specs.Making.{clauses_of, AreOneByNumber, ArePaired, IsResolution, AreTermsOfAll, AreTold, IsOpened, CanResolveParts, AreResolvedAll}
use Rattle.sc_hyper.proofs.ListPieces.{zip_long, all_at}
use Rattle.sc_hyper.proofs.NamedLaws.{named_one, named_kept}
use Rattle.sc_hyper.proofs.PairingLaws.{paired_long}
use Rattle.sc_hyper.proofs.StepsLaws.{opposed_all, can_all, rises}
use Rattle.sc_hyper.proofs.HyperLaws.{made, hyper_signs, literals_at, left_so, parents_so, parents_of}

-- ---- one conclusion

pub concludes : (parents : List Numbered) (lits others : List ℕ) (i : Inference) (parts : List Clause) (lines : List Line) (part_lines : List ℕ) (m : Made) → IsResolution parents lits others i
    → AreJoint (clauses_of parents) i.pairs parts → IsOpened parents parts lines part_lines → AreResolvedAll lines part_lines lits others m.lines → Concludes i (record { clause = m.clause; lines = m.lines })
concludes parents lits others i parts lines part_lines m is joint opened resolved = record {
  parts = parts;
  joint = subst (λ (ps : List Numbered). IsJointInstance (clauses_of ps) i.pairs parts) (sym is.parents_are) joint.joint;
  joint_within = joint.within;
  opening = lines;
  part_lines = part_lines;
  opens = subst (λ (ps : List Numbered). AddsParts [] ps parts lines part_lines) (sym is.parents_are) opened.opens;
  steps = resolved.steps;
  ends = subst (λ (e : Ending). Ends e part_lines lines resolved.steps) (sym is.ending) resolved.ends;
  canonical_last = resolved.canonical_last;
  conclusion = m.ends;
  conclusion_within = record { light = m.light; shallow = m.shallow };
}

pub no_conclusion : (parents : List Numbered) (lits others : List ℕ) (i : Inference) → IsResolution parents lits others i → IsOutside (clauses_of parents) i.pairs → (d : Derived) → ¬ Concludes i d
no_conclusion parents lits others i is outside d h =
    outside h.parts (subst (λ (ps : List Numbered). IsJointInstance (clauses_of ps) i.pairs h.parts) is.parents_are h.joint) h.joint_within

-- ---- the parts can be resolved

pub can_parts : (parents : List Numbered) (lits others : List ℕ) (i : Inference) (parts : List Clause) → IsResolution parents lits others i → AreJoint (clauses_of parents) i.pairs parts → CanResolveParts parts lits others
can_parts [] lits others i parts is joint = absurd (omega (arith, is.many))
can_parts (p ∷ ps) lits others i parts is joint =
    let u = unified (clauses_of (p ∷ ps)) i.pairs parts joint.joint in
    let rest : List Clause = apart_above (0 + width p.clause) (clauses_of ps) in
    let all : List Clause = shift 0 p.clause ∷ rest in
    let opposed = opposed_all u.by all (shift 0 p.clause) refl (shift 0 p.clause ∷ []) rest 2 lits others i.pairs refl (omega arith)
    (omega (arith, is.many, apart_long (0 + width p.clause) ps)) is.pairs is.signs u.unifies in
    subst (λ (cs : List Clause). CanResolveParts cs lits others) (sym u.parts_are)
    (can_all (map (clause_under u.by) rest) (clause_under u.by (shift 0 p.clause)) lits others opposed (rises lits is.rising))
  where
    apart_long : (low : ℕ) (qs : List Numbered) → length (apart_above low (clauses_of qs)) ≡ length qs
    apart_long low [] = refl
    apart_long low (q ∷ qs) = omega (arith, apart_long (low + width q.clause) qs)

-- ---- the sites

rising_numbers : (c : Clause) (P : ℕ → Literal → Type 0) (ns : List ℕ) → AreLiteralsWith P c ns → AllPairs (λ a b. a < b) ns
rising_numbers c P ns h = λ j k d less within. by (h.rising j k d less within)
  where
    by : {a b : ℕ} → IsBefore (a ∷ []) (b ∷ []) → a < b
    by (inl less) = less
    by (inr same) = absurd same.1

pub is_hyper : (given : Numbered) (usable : List Numbered) (site : HyperSite) (i : Inference) (h : IsHyper given usable site i) → IsResolution (h.nucleus ∷ h.electrons) h.negative (picked_literals site) i
is_hyper given usable site i h =
    let p = h.nucleus in
    let es = h.electrons in
    let there : ArePaired (parents_of p es) h.negative (picked_literals site) i.pairs =
    subst (λ (qs : List Numbered). ArePaired (apart (clauses_of qs)) h.negative (picked_literals site) i.pairs) h.parents h.pairs in
    let literals = literals_at (numbered p.clause.literals) IsNegative h.negative h.are_negative.only in
    let choice = made IsPositive usable (parents_of p es) (shift 0 p.clause ∷ []) (width p.clause) 2 site.electrons es h.negative literals.0 i.pairs (parents_so p es) (omega arith) h.electrons_named h.electrons_positive
    (left_so p es h.negative literals.0 literals.1) there in
    record {
      parents_are = h.parents;
      many = omega (arith, zip_long _ (picked_numbers site) es h.electrons_named, length-map site.electrons (λ (q : Pick). q.number), length-map site.electrons (λ (q : Pick). q.lit), (paired_long (parents_of p es) 2 h.negative (picked_literals site) i.pairs there).right);
      some = h.some_negative;
      rising = rising_numbers p.clause IsNegative h.negative h.are_negative;
      pairs = there;
      signs = subst HaveOppositeSigns (sym choice.pairs_are) (hyper_signs usable (width p.clause) choice.cs es h.negative literals.0 choice.of literals.2);
      unify = h.unify;
      ending = h.ending;
    }

-- a clause of two literals has another than the target
other_there : (c : Clause) (target : ℕ) → 2 ≤ length c.literals → (a : ℕ) × IsSomeAnd (numbered c.literals a) (IsOther target a)
other_there c target long = by (decide target)
  where
    decide : (t : ℕ) → (t ≡ 1) ⊎ (1 ≢ t)
    decide t = grind arith

    by : (target ≡ 1) ⊎ (1 ≢ target) → (a : ℕ) × IsSomeAnd (numbered c.literals a) (IsOther target a)
    by (inl e) = let l = some_at c.literals 1 (omega arith) in (2, some_so (numbered c.literals 2) (IsOther target 2) l.0 (numbered_next c.literals 1 ∙ l.1) (λ bad. omega (arith, bad, e)))
    by (inr e) = let l = some_at c.literals 0 (omega arith) in (1, some_so (numbered c.literals 1) (IsOther target 1) l.0 (numbered_next c.literals 0 ∙ l.1) e)

some_others : (c : Clause) (target : ℕ) (others : List ℕ) → 2 ≤ length c.literals → AreLiteralsWith (IsOther target) c others → others ≢ []
some_others c target others long h none =
    let one = other_there c target long in in_none one.0 (subst (λ (ns : List ℕ). Contains ns one.0) none (h.all one.0 one.1))

pub is_ur : (given : Numbered) (usable : List Numbered) (site : UrSite) (i : Inference) (h : IsUr given usable site i) → IsResolution (h.nucleus ∷ h.units) h.others (unit_literals site) i
is_ur given usable site i h =
    let p = h.nucleus in
    let there : ArePaired (parents_of p h.units) h.others (unit_literals site) i.pairs =
    subst (λ (qs : List Numbered). ArePaired (apart (clauses_of qs)) h.others (unit_literals site) i.pairs) h.parents h.pairs in
    record {
      parents_are = h.parents;
      many = omega (arith, zip_long _ site.units h.units h.units_named, length-map {B = ℕ} site.units (λ (n : ℕ). 1), (paired_long (parents_of p h.units) 2 h.others (unit_literals site) i.pairs there).right);
      some = some_others p.clause site.target h.others h.nucleus_long h.are_others;
      rising = rising_numbers p.clause (IsOther site.target) h.others h.are_others;
      pairs = there;
      signs = h.signs;
      unify = h.unify;
      ending = h.ending;
    }

-- ---- from terms to lines

pub told_of : (parents : List Numbered) (lits others : List ℕ) (i : Inference) (moved : List Clause) (found : Option (List (List Term))) → IsResolution parents lits others i → moved ≡ apart (clauses_of parents)
    → ((own : List Clause) (ps : List Pair) → moved ≡ apart own → ArePaired moved lits others ps → Unify ps → MatchOption found (IsOutside own ps) (λ told. AreTermsOfAll own ps told))
    → MatchOption found (IsOutside (clauses_of parents) i.pairs) (λ told. AreTermsOfAll (clauses_of parents) i.pairs told)
told_of parents lits others i moved found is e told = told (clauses_of parents) i.pairs e (subst (λ (cs : List Clause). ArePaired cs lits others i.pairs) (sym e) is.pairs) is.unify

pub terms_at_site : (parents : List Numbered) (lits others : List ℕ) (i : Inference) (moved : List Clause) (found : Option (List (List Term))) (told : List (List Term)) → IsResolution parents lits others i → moved ≡ apart (clauses_of parents)
    → ((own : List Clause) (ps : List Pair) → moved ≡ apart own → ArePaired moved lits others ps → Unify ps → MatchOption found (IsOutside own ps) (λ t. AreTermsOfAll own ps t)) → found ≡ Some told
    → AreTermsOfAll (clauses_of parents) i.pairs told
terms_at_site parents lits others i moved found told is e all some =
    MatchOption-at_some (IsOutside (clauses_of parents) i.pairs) (λ t. AreTermsOfAll (clauses_of parents) i.pairs t) told some (told_of parents lits others i moved found is e all)

-- these parts stand in their lines, and can be resolved
pub record IsReady (parents : List Numbered) (lits others : List ℕ) (i : Inference) (o : Opening) : Type 0 where
  pub joint : AreJoint (clauses_of parents) i.pairs o.parts
  pub opened : IsOpened parents o.parts o.lines o.part_lines
  pub can : CanResolveParts o.parts lits others

pub ready : (parents : List Numbered) (lits others : List ℕ) (i : Inference) (told : List (List Term)) (found : Option Opening) (o : Opening) → IsResolution parents lits others i → AreTermsOfAll (clauses_of parents) i.pairs told
    → ((parts : List Clause) → AreTold parents told parts → IsSomeAnd found (λ x. (x.parts ≡ parts) × IsOpened parents parts x.lines x.part_lines)) → found ≡ Some o → IsReady parents lits others i o
ready parents lits others i told found o is terms opened e =
    let all = some_of found o (λ x. (x.parts ≡ terms.parts) × IsOpened parents terms.parts x.lines x.part_lines) e (opened terms.parts (record { terms = terms.terms; within = terms.joint.within })) in
    let joint = subst (λ (cs : List Clause). AreJoint (clauses_of parents) i.pairs cs) (sym all.0) terms.joint in
    record { joint = joint; opened = subst (λ (cs : List Clause). IsOpened parents cs o.lines o.part_lines) (sym all.0) all.1; can = can_parts parents lits others i o.parts is joint }
  where
    some_of : {X : Type 0} (found : Option X) (x : X) (P : X → Type 0) → found ≡ Some x → IsSomeAnd found P → P x
    some_of {X} found x P e h = subst (λ (f : Option X). IsSomeAnd f P) e h

pub not_opened : (parents : List Numbered) (lits others : List ℕ) (i : Inference) (told : List (List Term)) (found : Option Opening) → AreTermsOfAll (clauses_of parents) i.pairs told
    → ((parts : List Clause) → AreTold parents told parts → IsSomeAnd found (λ x. (x.parts ≡ parts) × IsOpened parents parts x.lines x.part_lines)) → found ≡ None → ⊥
not_opened parents lits others i told found terms opened e =
    subst (λ (f : Option Opening). IsSomeAnd f (λ x. (x.parts ≡ terms.parts) × IsOpened parents terms.parts x.lines x.part_lines)) e (opened terms.parts (record { terms = terms.terms; within = terms.joint.within }))

-- ---- from sites to conclusions

-- the parents and the literals are those that a conclusion is made of
pub record IsReadyToMake (parents : List Numbered) (lits others : List ℕ) (i : Inference) : Type 0 where
  pub few : length parents ≤ 10001
  pub kept : All (λ p. IsKept p.clause) parents
  pub one : AreOneByNumber parents
  pub resolution : IsResolution parents lits others i

as_many : (f : ℕ → Option Literal) (ns : List ℕ) (ls : List Literal) → map Some ls ≡ map f ns → length ns ≡ length ls
as_many f ns ls e = sym (length-map ns f) ∙ ap (λ (xs : List (Option Literal)). length xs) (sym e) ∙ length-map {B = Option Literal} ls Some

module _ (usable : List Numbered) (kept : All (λ p. IsKept p.clause) usable) (differ : AllPairs (λ p q. p.number ≢ q.number) usable) where
  pub ready_to_make : (P : ℕ → Literal → Type 0) (ns : List ℕ) (p : Numbered) (es parents : List Numbered) (q : Numbered) (own lits : List ℕ) (ls : List Literal) (rest others : List ℕ) (i : Inference) → AreNamed usable ns (p ∷ es)
      → parents ≡ p ∷ es → slice_get parents 0 ≡ Some q → AreLiteralsWith P p.clause own → ArePicked P q.clause lits ls → length ls ≤ length q.clause.literals → others ≡ rest → IsResolution (p ∷ es) own rest i
      → IsReadyToMake parents lits others i
  ready_to_make P ns p es parents q own lits ls rest others i named e at are picked few f is =
      let first : p ≡ q = same_some (slice_get parents 0) p q (ap (λ (ps : List Numbered). slice_get ps 0) e) at in
      let same : own ≡ lits = in_order_is_one (λ a. a ∷ []) (λ a. IsSomeAnd (numbered q.clause.literals a) (P a)) own lits (subst (λ (r : Numbered). AreLiteralsWith P r.clause own) first are) picked.are in
      let here : IsResolution parents lits others i =
      subst (λ (ps : List Numbered). IsResolution ps lits others i) (sym e) (subst (λ (ms : List ℕ). IsResolution (p ∷ es) ms others i) same (subst (λ (ms : List ℕ). IsResolution (p ∷ es) own ms i) (sym f) is)) in
      let all : All (λ r. IsKept r.clause) parents = subst (λ (ps : List Numbered). All (λ r. IsKept r.clause) ps) (sym e) (named_kept usable ns (p ∷ es) named kept) in
      record {
        few = omega (arith, here.many, as_many (numbered q.clause.literals) lits ls picked.there, few, kept_length q.clause (all_at (λ (r : Numbered). IsKept r.clause) parents all 0 q at));
        kept = all;
        one = subst AreOneByNumber (sym e) (named_one usable ns (p ∷ es) named differ);
        resolution = here;
      }

pub first_kept : (usable : List Numbered) (ns : List ℕ) (ps parents : List Numbered) (q : Numbered) → All (λ p. IsKept p.clause) usable → AreNamed usable ns ps → parents ≡ ps → slice_get parents 0 ≡ Some q → length q.clause.literals ≤ 10000
first_kept usable ns ps parents q kept named e at =
    kept_length q.clause (all_at (λ (r : Numbered). IsKept r.clause) parents (subst (λ (xs : List Numbered). All (λ r. IsKept r.clause) xs) (sym e) (named_kept usable ns ps named kept)) 0 q at)

-- what is found are the parents of the site
pub found_named : (usable us : List Numbered) (ns ms : List ℕ) (ps : List Numbered) (found : Option (List Numbered)) → us ≡ usable → ms ≡ ns → AreNamed usable ns ps
    → ((xs : List Numbered) → AreNamed us ms xs → found ≡ Some xs) → found ≡ Some ps
found_named usable us ns ms ps found e f named all = all ps (subst (λ (ls : List ℕ). AreNamed us ls ps) (sym f) (subst (λ (vs : List Numbered). AreNamed vs ns ps) (sym e) named))

-- A site has one inference, where a number tells its clause.
use Rattle.std.proofs.Common.{◌≡◌, ◌≢◌, ◌∙◌, sym, ap, subst, refl, ℕ, List, [], ◌∷◌, map, Some, false, true}
use Rattle.sc_term.specs.declared.Side.{Side}
use Rattle.sc_term.specs.declared.Term.{Term}
use Rattle.sc_term.specs.declared.Literal.{Literal}
use Rattle.sc_term.specs.declared.Clause.{Clause}
use Rattle.sc_term.specs.Numbering.{numbered}
use Rattle.sc_term.specs.Refuted.{equation}
use Rattle.sc_term.specs.Proof.{chosen}
use Rattle.sc_term.specs.Path.{IsSubtermAt}
use Rattle.std.specs.Prelude.{IsSomeAnd}
use Rattle.sc_term.specs.declared.Numbered.{Numbered}
use Rattle.sc_core_rules.specs.declared.site.BinarySite.{BinarySite}
use Rattle.sc_core_rules.specs.declared.site.FactorSite.{FactorSite}
use Rattle.sc_core_rules.specs.declared.site.HyperSite.{HyperSite}
use Rattle.sc_core_rules.specs.declared.site.UrSite.{UrSite}
use Rattle.sc_core_rules.specs.declared.site.ParaSite.{ParaSite}
use Rattle.sc_term.specs.JointInstance.{apart}
use Rattle.sc_core_rules.specs.Inference.{Inference, Resolving, parent_clauses}
use Rattle.sc_core_rules.specs.Pairing.{Place, literal_at, ArePairs, places_in, places_from}
use Rattle.sc_core_rules.specs.Resolution.{IsBinary, IsFactor}
use Rattle.sc_core_rules.specs.Hyperresolution.{IsHyper, IsUr, AreNamed, AreLiteralsWith, picked_literals, picked_numbers, unit_literals}
use Rattle.sc_core_rules.specs.Paramodulation.{IsPara, atom_with}
use Rattle.sc_core_rules.specs.Sites.{Site, Binary, Factor, Hyper, Ur, ParaFrom, ParaInto, Infers}
use Rattle.sc_core_rules.proofs.OrderLaws.{in_order_is_one}
use Rattle.sc_core_rules.proofs.StepLaws.{same_some}
use Rattle.sc_core_rules.proofs.SimplifyLaws.{NumbersTell, subterm_one}
use Rattle.sc_core_rules.proofs.ProcessLaws.{pairs_one}

-- by the parents, the places of the pairs and the ending
same_inference : (i j : Inference) (ms ns : List Place) → i.parents ≡ j.parents → i.ending ≡ j.ending
    → ArePairs (apart (parent_clauses i)) ms ns i.pairs → ArePairs (apart (parent_clauses j)) ms ns j.pairs → i ≡ j
same_inference i j ms ns parents ending h k =
    let pairs : i.pairs ≡ j.pairs =
    pairs_one (apart (parent_clauses j)) ms ns i.pairs j.pairs
    (subst (λ (ps : List Numbered). ArePairs (apart (map (λ (q : Numbered). q.clause) ps)) ms ns i.pairs) parents h) k in
    λ n. record { parents = parents n; pairs = pairs n; ending = ending n }

named_one : (usable : List Numbered) → NumbersTell usable → (ns : List ℕ) (ps qs : List Numbered) → AreNamed usable ns ps → AreNamed usable ns qs → ps ≡ qs
named_one usable tell [] [] [] h k = refl
named_one usable tell [] [] (q ∷ qs) h k = absurd k
named_one usable tell [] (p ∷ ps) qs h k = absurd h
named_one usable tell (n ∷ ns) [] qs h k = absurd h
named_one usable tell (n ∷ ns) (p ∷ ps) [] h k = absurd k
named_one usable tell (n ∷ ns) (p ∷ ps) (q ∷ qs) h k =
    let first : p ≡ q = tell p q h.0.1 k.0.1 (h.0.0 ∙ sym k.0.0) in
    let rest = named_one usable tell ns ps qs h.1 k.1 in
    λ i. first i ∷ rest i

head_of : (p q : Numbered) → p ∷ [] ≡ q ∷ [] → p ≡ q
head_of p q e = cc

literals_one : (P : ℕ → Literal → Type 0) (c d : Clause) (ms ns : List ℕ) → c ≡ d → AreLiteralsWith P c ms → AreLiteralsWith P d ns → ms ≡ ns
literals_one P c d ms ns e h k =
    in_order_is_one (λ (a : ℕ). a ∷ []) (λ a. IsSomeAnd (numbered d.literals a) (P a)) ms ns (subst (λ (c : Clause). AreLiteralsWith P c ms) e h) k

-- ---- each rule

binary_one : (given : Numbered) (usable : List Numbered) → NumbersTell usable → (site : BinarySite) (i j : Inference) → IsBinary given usable site i → IsBinary given usable site j → i ≡ j
binary_one given usable tell site i j h k =
    let partner : h.partner ≡ k.partner = tell h.partner k.partner h.listed k.listed (h.named ∙ sym k.named) in
    same_inference i j (places_in 1 (site.given_lit ∷ [])) (places_in 2 (site.partner_lit ∷ []))
    (h.parents ∙ ap (λ (p : Numbered). given ∷ p ∷ []) partner ∙ sym k.parents) (h.ending ∙ sym k.ending) h.pairs k.pairs

factor_one : (given : Numbered) (site : FactorSite) (i j : Inference) → IsFactor given site i → IsFactor given site j → i ≡ j
factor_one given site i j h k =
    same_inference i j (places_in 1 (site.first ∷ [])) (places_in 1 (site.second ∷ [])) (h.parents ∙ sym k.parents) (h.ending ∙ sym k.ending) h.pairs k.pairs

hyper_one : (given : Numbered) (usable : List Numbered) → NumbersTell usable → (site : HyperSite) (i j : Inference) → IsHyper given usable site i → IsHyper given usable site j → i ≡ j
hyper_one given usable tell site i j h k =
    let nucleus : h.nucleus ≡ k.nucleus = head_of h.nucleus k.nucleus (named_one usable tell (site.nucleus ∷ []) (h.nucleus ∷ []) (k.nucleus ∷ []) h.nucleus_named k.nucleus_named) in
    let electrons : h.electrons ≡ k.electrons = named_one usable tell (picked_numbers site) h.electrons k.electrons h.electrons_named k.electrons_named in
    let negative : h.negative ≡ k.negative =
    literals_one (λ a l. l.positive ≡ false) h.nucleus.clause k.nucleus.clause h.negative k.negative (ap (λ (p : Numbered). p.clause) nucleus) h.are_negative k.are_negative in
    same_inference i j (places_in 1 k.negative) (places_from 2 (picked_literals site))
    (h.parents ∙ (λ n. nucleus n ∷ electrons n) ∙ sym k.parents)
    (h.ending ∙ ap (λ (ns : List ℕ). Resolving ns (picked_literals site)) negative ∙ sym k.ending)
    (subst (λ (ns : List ℕ). ArePairs (apart (parent_clauses i)) (places_in 1 ns) (places_from 2 (picked_literals site)) i.pairs) negative h.pairs) k.pairs

ur_one : (given : Numbered) (usable : List Numbered) → NumbersTell usable → (site : UrSite) (i j : Inference) → IsUr given usable site i → IsUr given usable site j → i ≡ j
ur_one given usable tell site i j h k =
    let nucleus : h.nucleus ≡ k.nucleus = head_of h.nucleus k.nucleus (named_one usable tell (site.nucleus ∷ []) (h.nucleus ∷ []) (k.nucleus ∷ []) h.nucleus_named k.nucleus_named) in
    let units : h.units ≡ k.units = named_one usable tell site.units h.units k.units h.units_named k.units_named in
    let others : h.others ≡ k.others =
    literals_one (λ a l. a ≢ site.target) h.nucleus.clause k.nucleus.clause h.others k.others (ap (λ (p : Numbered). p.clause) nucleus) h.are_others k.are_others in
    same_inference i j (places_in 1 k.others) (places_from 2 (unit_literals site))
    (h.parents ∙ (λ n. nucleus n ∷ units n) ∙ sym k.parents)
    (h.ending ∙ ap (λ (ns : List ℕ). Resolving ns (unit_literals site)) others ∙ sym k.ending)
    (subst (λ (ns : List ℕ). ArePairs (apart (parent_clauses i)) (places_in 1 ns) (places_from 2 (unit_literals site)) i.pairs) others h.pairs) k.pairs

equation_left : (s t u v : Term) → equation true s t ≡ equation true u v → (s ≡ u) × (t ≡ v)
equation_left s t u v e = let args : s ∷ t ∷ [] ≡ u ∷ v ∷ [] = ap (λ (l : Literal). l.args) e in (cc, cc)

chosen_one : (side : Side) (s t u v : Term) → s ≡ u → t ≡ v → chosen side s t ≡ chosen side u v
chosen_one side s t u v e f = λ i. chosen side (e i) (f i)

para_one : (from into : Numbered) (site : ParaSite) (i j : Inference) → IsPara from into site i → IsPara from into site j → i ≡ j
para_one from into site i j h k =
    let parents : i.parents ≡ j.parents = h.parents ∙ sym k.parents in
    let clauses : apart (parent_clauses i) ≡ apart (parent_clauses j) = ap (λ (ps : List Numbered). apart (map (λ (q : Numbered). q.clause) ps)) parents in
    let sides = equation_left h.left h.right k.left k.right
    (same_some (literal_at (apart (parent_clauses j)) (record { parent = 1; lit = site.from_lit })) (equation true h.left h.right) (equation true k.left k.right)
    (subst (λ (cs : List Clause). literal_at cs (record { parent = 1; lit = site.from_lit }) ≡ Some (equation true h.left h.right)) clauses h.equation_there) k.equation_there) in
    let target : h.target ≡ k.target =
    same_some (literal_at (apart (parent_clauses j)) (record { parent = 2; lit = site.into_lit })) h.target k.target
    (subst (λ (cs : List Clause). literal_at cs (record { parent = 2; lit = site.into_lit }) ≡ Some h.target) clauses h.target_there) k.target_there in
    let subterm : h.subterm ≡ k.subterm =
    subterm_one k.target.args site.path h.subterm k.subterm (subst (λ (l : Literal). IsSubtermAt l.args site.path h.subterm) target h.subterm_there) k.subterm_there in
    let side = chosen_one site.side h.left h.right k.left k.right sides.0 sides.1 in
    let both : record { left = atom_with (chosen site.side h.left h.right); right = atom_with h.subterm } ∷ [] ≡ record { left = atom_with (chosen site.side k.left k.right); right = atom_with k.subterm } ∷ [] =
    λ n. record { left = atom_with (side n); right = atom_with (subterm n) } ∷ [] in
    let pairs : i.pairs ≡ j.pairs = h.pairs ∙ both ∙ sym k.pairs in
    let ending : i.ending ≡ j.ending = h.ending ∙ sym k.ending in
    λ n. record { parents = parents n; pairs = pairs n; ending = ending n }

pub infers_one : (given : Numbered) (usable : List Numbered) → NumbersTell usable → (site : Site) (i j : Inference) → Infers given usable site i → Infers given usable site j → i ≡ j
infers_one given usable tell (Binary site) i j h k = binary_one given usable tell site i j h k
infers_one given usable tell (Factor site) i j h k = factor_one given site i j h k
infers_one given usable tell (Hyper site) i j h k = hyper_one given usable tell site i j h k
infers_one given usable tell (Ur site) i j h k = ur_one given usable tell site i j h k
infers_one given usable tell (ParaFrom site) i j h k =
    let into : h.into ≡ k.into = tell h.into k.into h.listed k.listed (h.para.into_named ∙ sym k.para.into_named) in
    para_one given k.into site i j (subst (λ (p : Numbered). IsPara given p site i) into h.para) k.para
infers_one given usable tell (ParaInto site) i j h k =
    let from : h.from ≡ k.from = tell h.from k.from h.listed k.listed (h.para.from_named ∙ sym k.para.from_named) in
    para_one k.from given site i j (subst (λ (p : Numbered). IsPara p given site i) from h.para) k.para

-- What follows by a step is one clause.
use Rattle.std.proofs.Common.{◌≡◌, ◌∙◌, sym, ap, subst, refl, ℕ, List, [], ◌∷◌, ◌++◌, Option, Some, None, true}
use Rattle.std.specs.Prelude.{IsSomeAnd}
use Rattle.sc_term.specs.declared.Side.{Side}
use Rattle.sc_term.specs.declared.Term.{Term}
use Rattle.sc_term.specs.declared.Term.TheVariants.{App}
use Rattle.sc_term.specs.declared.Literal.{Literal}
use Rattle.sc_term.specs.declared.Clause.{Clause}
use Rattle.sc_term.specs.declared.Line.{Line}
use Rattle.sc_term.specs.declared.Step.{Step}
use Rattle.sc_term.specs.declared.Step.TheVariants.{Input, Instance, Resolve, Merge, Para, Flip}
use Rattle.sc_term.specs.Numbering.{numbered, without, with_element}
use Rattle.sc_term.specs.Path.{IsReplaced}
use Rattle.sc_term.specs.Refuted.{equation}
use Rattle.sc_term.specs.Proof.{Follows, clause_of, chosen, other, IsResolvent, IsMerged, IsParamodulant, IsFlipped}
use Rattle.sc_term.proofs.TermLaws.{App-injective}
use Rattle.sc_core_rules.specs.Derivation.{Adds}

pub some_both : {X : Type 0} (o : Option X) (P Q : X → Type 0) → IsSomeAnd o P → IsSomeAnd o Q → (x : X) × P x × Q x
some_both None P Q h k = absurd h
some_both (Some x) P Q h k = (x, h, k)

pub same_some : {X : Type 0} (o : Option X) (x y : X) → o ≡ Some x → o ≡ Some y → x ≡ y
same_some o x y h k = let e : Some x ≡ Some y = sym h ∙ k in cc

same_clause : (c d : Clause) (ls : List Literal) → c.literals ≡ ls → d.literals ≡ ls → c ≡ d
same_clause c d ls h k = ap (λ (l : List Literal). let r : Clause = record { literals = l } in r) (h ∙ sym k)

same_two : (s t u v : Term) (ts : List Term) → ts ≡ s ∷ t ∷ [] → ts ≡ u ∷ v ∷ [] → (s ≡ u) × (t ≡ v)
same_two s t u v ts h k = let e : s ∷ t ∷ [] ≡ u ∷ v ∷ [] = sym h ∙ k in (cc, cc)

-- ---- each step

resolvent_one : (left right c d : Clause) (a b : ℕ) → IsResolvent left a right b c → IsResolvent left a right b d → c ≡ d
resolvent_one left right c d a b h k =
    let first = some_both (numbered left.literals a) _ _ h k in
    let second = some_both (numbered right.literals b) _ _ first.1 first.2 in
    same_clause c d (without left.literals a ++ without right.literals b) second.1.1 second.2.1

merged_one : (of c d : Clause) (a : ℕ) → IsMerged of a c → IsMerged of a d → c ≡ d
merged_one of c d a h k =
    let both = some_both (numbered of.literals a) _ _ h k in
    same_clause c d (without of.literals a) both.1.1 both.2.1

flipped_one : (of c d : Clause) (a : ℕ) → IsFlipped of a c → IsFlipped of a d → c ≡ d
flipped_one of c d a h k =
    let both = some_both (numbered of.literals a) _ _ h k in
    let l : Literal = both.0 in
    let sides = same_two both.1.0 both.1.1 both.2.0 both.2.1 l.args both.1.3 both.2.3 in
    let turned : both.1.1 ∷ both.1.0 ∷ [] ≡ both.2.1 ∷ both.2.0 ∷ [] = λ i. sides.1 i ∷ sides.0 i ∷ [] in
    same_clause c d (with_element of.literals a (record l { args = both.2.1 ∷ both.2.0 ∷ [] }))
    (both.1.4 ∙ ap (λ (ts : List Term). with_element of.literals a (record l { args = ts })) turned) both.2.4

replaced_one : (args : List Term) (path : List ℕ) (s t : Term) (new old : List Term) → IsReplaced args path s t new → IsReplaced args path s t old → new ≡ old
replaced_one args [] s t new old h k = absurd h
replaced_one args (i ∷ []) s t new old h k = h.1 ∙ sym k.1
replaced_one args (i ∷ j ∷ path) s t new old h k =
    let same : App h.0 h.1 ≡ App k.0 k.1 = same_some (numbered args i) (App h.0 h.1) (App k.0 k.1) h.3 k.3 in
    let parts = App-injective h.0 k.0 h.1 k.1 same in
    let inner : h.2 ≡ k.2 = replaced_one k.1 (j ∷ path) s t h.2 k.2 (subst (λ ts. IsReplaced ts (j ∷ path) s t h.2) parts.1 h.4) k.4 in
    h.5 ∙ (λ n. with_element args i (App (parts.0 n) (inner n))) ∙ sym k.5

paramodulant_one : (from into c d : Clause) (a b : ℕ) (side : Side) (path : List ℕ) → IsParamodulant from a side into b path c → IsParamodulant from a side into b path d → c ≡ d
paramodulant_one from into c d a b side path h k =
    let same : equation true h.0 h.1 ≡ equation true k.0 k.1 = same_some (numbered from.literals a) (equation true h.0 h.1) (equation true k.0 k.1) h.2 k.2 in
    let sides = same_two h.0 h.1 k.0 k.1 (h.0 ∷ h.1 ∷ []) refl (ap (λ (l : Literal). l.args) same) in
    let both = some_both (numbered into.literals b) _ _ h.3 k.3 in
    let m : Literal = both.0 in
    let moved = subst (λ (s : Term). IsReplaced m.args path (chosen side s k.1) (other side s k.1) both.1.0) sides.0
    (subst (λ (t : Term). IsReplaced m.args path (chosen side h.0 t) (other side h.0 t) both.1.0) sides.1 both.1.1) in
    let args : both.1.0 ≡ both.2.0 = replaced_one m.args path (chosen side k.0 k.1) (other side k.0 k.1) both.1.0 both.2.0 moved both.2.1 in
    same_clause c d (with_element into.literals b (record m { args = both.2.0 }) ++ without from.literals a)
    (both.1.2 ∙ ap (λ (ts : List Term). with_element into.literals b (record m { args = ts }) ++ without from.literals a) args) both.2.2

pub follows_one : (inputs : List Clause) (earlier : List Line) (c d : Clause) (step : Step) → Follows inputs earlier c step → Follows inputs earlier d step → c ≡ d
follows_one inputs earlier c d (Input k) h i = same_some (numbered inputs k) c d h i
follows_one inputs earlier c d (Instance j terms) h i = let both = some_both (clause_of earlier j) _ _ h i in both.1.1 ∙ sym both.2.1
follows_one inputs earlier c d (Resolve j a k b) h i =
    let left = some_both (clause_of earlier j) _ _ h i in
    let right = some_both (clause_of earlier k) _ _ left.1 left.2 in
    resolvent_one left.0 right.0 c d a b right.1 right.2
follows_one inputs earlier c d (Merge j a) h i = let of = some_both (clause_of earlier j) _ _ h i in merged_one of.0 c d a of.1 of.2
follows_one inputs earlier c d (Para j a side k b path) h i =
    let from = some_both (clause_of earlier j) _ _ h i in
    let into = some_both (clause_of earlier k) _ _ from.1 from.2 in
    paramodulant_one from.0 into.0 c d a b side path into.1 into.2
follows_one inputs earlier c d (Flip j a) h i = let of = some_both (clause_of earlier j) _ _ h i in flipped_one of.0 c d a of.1 of.2

pub adds_one : (before : List Line) (step : Step) (after others : List Line) → Adds before step after → Adds before step others → after ≡ others
adds_one before step after others h k =
    h.2 ∙ ap (λ (c : Clause). before ++ record { step = step; clause = c } ∷ []) (follows_one [] before h.0 k.0 step h.1 k.1) ∙ sym k.2

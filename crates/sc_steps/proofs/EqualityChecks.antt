-- When a clause follows by a step on equality, from how its literals are compared.
use Rattle.std.proofs.Common.{◌≡◌, ◌≢◌, ◌∙◌, sym, ap, subst, refl, ℕ, ◌-◌, ◌==◌, Bool, IsTrue, List, [], ◌∷◌, ◌++◌, length, Some, true, arith}
use Rattle.std.proofs.lemmas.Bool.{eqb-true}
use Rattle.std.proofs.lemmas.List.{append-nil}
use Rattle.sc_term.specs.declared.Term.{Term}
use Rattle.sc_term.specs.declared.Term.TheVariants.{App}
use Rattle.sc_term.specs.declared.Literal.{Literal}
use Rattle.sc_term.specs.declared.Clause.{Clause}
use Rattle.sc_term.specs.declared.Side.{Side}
use Rattle.sc_term.specs.Numbering.{numbered, without, with_element}
use Rattle.sc_term.specs.Path.{IsReplaced}
use Rattle.sc_term.specs.Refuted.{equals, equation}
use Rattle.sc_term.specs.Proof.{chosen, other, IsParamodulant, IsFlipped}
use Rattle.sc_steps.specs.Replacement.{IsTermReplaced, IsLiteralReplaced, IsLiteralFlipped}
use Rattle.sc_steps.proofs.ListLaws.{some_and}
use Rattle.sc_steps.proofs.LineLaws.{some_so, number_within}
use Rattle.sc_steps.proofs.ChangedElement.{changed_once, set_once}

pub none_of_length : {A : Type 0} (xs : List A) → (length xs == 0) ≡ true → xs ≡ []
none_of_length [] e = refl
none_of_length (x ∷ xs) e = absurd (omega (arith, eqb-true (length (x ∷ xs)) 0 e))

same_some : {A : Type 0} (x y : A) → Some x ≡ Some y → x ≡ y
same_some x y e = cc

-- two changes of literal n
same_change : (items : List Literal) (n : ℕ) (l x y : Literal) (us vs all : List Literal) → Some l ≡ numbered items n → all ≡ with_element items n x ++ us
    → all ≡ with_element items n y ++ vs → (x ≡ y) × (us ≡ vs)
same_change items n l x y us vs all at first second =
    let within = number_within items n l (sym at) in
    changed_once items (n - 1) x y us vs (omega (arith, within.0, within.1)) (sym first ∙ second)

-- ---- flip

-- literal l of the clause is an equation, which becomes `turned`
record FlippedTo (of : Clause) (a : ℕ) (l : Literal) (c : Clause) : Type 0 where
  turned : Literal
  flips : IsLiteralFlipped l turned
  has : c.literals ≡ with_element of.literals a turned

flipped_to : (of c : Clause) (a : ℕ) (l : Literal) → Some l ≡ numbered of.literals a → IsFlipped of a c → FlippedTo of a l c
flipped_to of c a l at h =
    let m = some_and (numbered of.literals a) (λ l. (s : Term) × (t : Term) × (l.pred ≡ equals) × (l.args ≡ s ∷ t ∷ [])
    × (c.literals ≡ with_element of.literals a (record l { args = t ∷ s ∷ [] }))) h in
    let one : Literal = m.0 in
    let same : one ≡ l = same_some one l (sym m.1 ∙ sym at) in
    record {
      turned = record one { args = m.2.1 ∷ m.2.0 ∷ [] };
      flips = subst (λ (l : Literal). IsLiteralFlipped l (record one { args = m.2.1 ∷ m.2.0 ∷ [] })) same (m.2.0, m.2.1, m.2.2, m.2.3, refl);
      has = m.2.4;
    }

pub flipped_where : (of c : Clause) (a : ℕ) (l turned : Literal) (rest : List Literal) (r : Bool) → Some l ≡ numbered of.literals a
    → c.literals ≡ with_element of.literals a turned ++ rest → rest ≡ [] → (IsTrue r → IsLiteralFlipped l turned) × (IsLiteralFlipped l turned → IsTrue r)
    → (IsTrue r → IsFlipped of a c) × (IsFlipped of a c → IsTrue r)
flipped_where of c a l turned rest r at found none exact =
    let all : c.literals ≡ with_element of.literals a turned = found ∙ ap (λ zs. with_element of.literals a turned ++ zs) none ∙ append-nil (with_element of.literals a turned) in (
      λ so.
          let h = exact.0 so in
          some_so (numbered of.literals a) (λ l. (s : Term) × (t : Term) × (l.pred ≡ equals) × (l.args ≡ s ∷ t ∷ [])
          × (c.literals ≡ with_element of.literals a (record l { args = t ∷ s ∷ [] }))) l (sym at) (h.0, h.1, h.2, h.3, all ∙ ap (with_element of.literals a) h.4),
      λ h.
          let to = flipped_to of c a l at h in
          let same = same_change of.literals a l to.turned turned [] rest c.literals at (to.has ∙ sym (append-nil (with_element of.literals a to.turned))) found in
          exact.1 (subst (IsLiteralFlipped l) same.0 to.flips),
    )

pub not_flipped : (of c : Clause) (a : ℕ) (l : Literal) → Some l ≡ numbered of.literals a
    → ((x : Literal) (rest : List Literal) → c.literals ≢ with_element of.literals a x ++ rest) → ¬ IsFlipped of a c
not_flipped of c a l at none h =
    let to = flipped_to of c a l at h in
    none to.turned [] (to.has ∙ sym (append-nil (with_element of.literals a to.turned)))

-- ---- para

-- literal m of the clause becomes `changed`
record ReplacedTo (from : Clause) (a : ℕ) (side : Side) (into : Clause) (b : ℕ) (path : List ℕ) (l m : Literal) (c : Clause) : Type 0 where
  changed : Literal
  replaces : IsLiteralReplaced l side m path changed
  has : c.literals ≡ with_element into.literals b changed ++ without from.literals a

replaced_to : (from into c : Clause) (a b : ℕ) (side : Side) (path : List ℕ) (l m : Literal) → Some l ≡ numbered from.literals a → Some m ≡ numbered into.literals b
    → IsParamodulant from a side into b path c → ReplacedTo from a side into b path l m c
replaced_to from into c a b side path l m at_from at_into h =
    let of = some_and (numbered into.literals b) (λ m. (args : List Term) × IsReplaced m.args path (chosen side h.0 h.1) (other side h.0 h.1) args
    × (c.literals ≡ with_element into.literals b (record m { args = args }) ++ without from.literals a)) h.3 in
    let one : Literal = of.0 in
    let same : one ≡ m = same_some one m (sym of.1 ∙ sym at_into) in
    let sides : l ≡ equation true h.0 h.1 = same_some l (equation true h.0 h.1) (at_from ∙ h.2) in
    let changed : Literal = record one { args = of.2.0 } in
    record {
      changed = changed;
      replaces = subst (λ (m : Literal). IsLiteralReplaced l side m path changed) same (h.0, h.1, sides, of.2.0, of.2.1, refl);
      has = of.2.2;
    }

pub literal_replaced_where : (l : Literal) (side : Side) (m : Literal) (path : List ℕ) (changed : Literal) (left right s t : Term) (r : Bool) → l ≡ equation true left right
    → s ≡ chosen side left right → t ≡ other side left right → (changed.positive ≡ m.positive) × (changed.pred ≡ m.pred)
    → (IsTrue r → IsReplaced m.args path s t changed.args) × (IsReplaced m.args path s t changed.args → IsTrue r)
    → (IsTrue r → IsLiteralReplaced l side m path changed) × (IsLiteralReplaced l side m path changed → IsTrue r)
literal_replaced_where l side m path changed left right s t r sides first second alike exact = (
  λ so.
      let replaced = subst (λ s. IsReplaced m.args path s (other side left right) changed.args) first
      (subst (λ t. IsReplaced m.args path s t changed.args) second (exact.0 so)) in
      (left, right, sides, changed.args, replaced, λ j. record { positive = alike.0 j; pred = alike.1 j; args = changed.args }),
  λ h.
      let args : List Term = h.3 in
      let both : left ∷ right ∷ [] ≡ h.0 ∷ h.1 ∷ [] = ap (λ (l : Literal). l.args) (sym sides ∙ h.2) in
      let same_left : h.0 ≡ left = cc in
      let same_right : h.1 ≡ right = cc in
      let s_is : chosen side h.0 h.1 ≡ s = (λ j. chosen side (same_left j) (same_right j)) ∙ sym first in
      let t_is : other side h.0 h.1 ≡ t = (λ j. other side (same_left j) (same_right j)) ∙ sym second in
      let args_is : args ≡ changed.args = sym (ap (λ (l : Literal). l.args) h.5) in
      exact.1 (subst (λ s. IsReplaced m.args path s t changed.args) s_is
      (subst (λ t. IsReplaced m.args path (chosen side h.0 h.1) t changed.args) t_is
      (subst (IsReplaced m.args path (chosen side h.0 h.1) (other side h.0 h.1)) args_is h.4))),
)

pub paramodulant_where : (from into c : Clause) (a b : ℕ) (side : Side) (path : List ℕ) (l m changed : Literal) (rest : List Literal) (r : Bool)
    → Some l ≡ numbered from.literals a → Some m ≡ numbered into.literals b → c.literals ≡ with_element into.literals b changed ++ rest → rest ≡ without from.literals a
    → (IsTrue r → IsLiteralReplaced l side m path changed) × (IsLiteralReplaced l side m path changed → IsTrue r)
    → (IsTrue r → IsParamodulant from a side into b path c) × (IsParamodulant from a side into b path c → IsTrue r)
paramodulant_where from into c a b side path l m changed rest r at_from at_into found others exact = (
  λ so.
      let h = exact.0 so in
      let has : c.literals ≡ with_element into.literals b (record m { args = h.3 }) ++ without from.literals a =
      found ∙ (λ j. with_element into.literals b (h.5 j) ++ others j) in (
        h.0,
        h.1,
        sym at_from ∙ ap Some h.2,
        some_so (numbered into.literals b) (λ m. (args : List Term) × IsReplaced m.args path (chosen side h.0 h.1) (other side h.0 h.1) args
            × (c.literals ≡ with_element into.literals b (record m { args = args }) ++ without from.literals a)) m (sym at_into) (h.3, h.4, has),
      ),
  λ h.
      let to = replaced_to from into c a b side path l m at_from at_into h in
      let same = same_change into.literals b m to.changed changed (without from.literals a) rest c.literals at_into to.has found in
      exact.1 (subst (IsLiteralReplaced l side m path) same.0 to.replaces),
)

pub not_paramodulant_but : (from into c : Clause) (a b : ℕ) (side : Side) (path : List ℕ) (l m changed : Literal) (rest : List Literal)
    → Some l ≡ numbered from.literals a → Some m ≡ numbered into.literals b → c.literals ≡ with_element into.literals b changed ++ rest → rest ≢ without from.literals a
    → ¬ IsParamodulant from a side into b path c
not_paramodulant_but from into c a b side path l m changed rest at_from at_into found others h =
    let to = replaced_to from into c a b side path l m at_from at_into h in
    others (sym (same_change into.literals b m to.changed changed (without from.literals a) rest c.literals at_into to.has found).1)

-- ---- one level of a path

-- an argument changes as a term does at the rest of the path
record ArgumentReplaced (args : List Term) (n : ℕ) (path : List ℕ) (s t : Term) (new : List Term) : Type 0 where
  old : Term
  changed : Term
  at : numbered args n ≡ Some old
  replaces : IsTermReplaced old path s t changed
  has : new ≡ with_element args n changed

argument_replaced : (args : List Term) (n : ℕ) (path : List ℕ) (s t : Term) (new : List Term) → IsReplaced args (n ∷ path) s t new → ArgumentReplaced args n path s t new
argument_replaced args n [] s t new h = record { old = s; changed = t; at = h.0; replaces = (refl, refl); has = h.1 }
argument_replaced args n (j ∷ path) s t new h =
    record { old = App h.0 h.1; changed = App h.0 h.2; at = h.3; replaces = (h.0, h.1, h.2, refl, h.4, refl); has = h.5 }

replaces_argument : (args : List Term) (n : ℕ) (path : List ℕ) (s t : Term) (new : List Term) (old changed : Term) → numbered args n ≡ Some old
    → IsTermReplaced old path s t changed → new ≡ with_element args n changed → IsReplaced args (n ∷ path) s t new
replaces_argument args n [] s t new old changed at h is = (at ∙ ap Some h.0, is ∙ ap (with_element args n) h.1)
replaces_argument args n (j ∷ path) s t new old changed at h is =
    (h.0, h.1, h.2, at ∙ ap Some h.3, h.4, is ∙ ap (with_element args n) h.5)

pub replaced_where : (args : List Term) (path : List ℕ) (n : ℕ) (rest : List ℕ) (s t : Term) (new : List Term) (old changed : Term) (r : Bool) → path ≡ n ∷ rest
    → Some old ≡ numbered args n → new ≡ with_element args n changed → (IsTrue r → IsTermReplaced old rest s t changed) × (IsTermReplaced old rest s t changed → IsTrue r)
    → (IsTrue r → IsReplaced args path s t new) × (IsReplaced args path s t new → IsTrue r)
replaced_where args path n rest s t new old changed r is at has exact = (
  λ so. subst (λ ns. IsReplaced args ns s t new) (sym is) (replaces_argument args n rest s t new old changed (sym at) (exact.0 so) has),
  λ h.
      let by = argument_replaced args n rest s t new (subst (λ ns. IsReplaced args ns s t new) is h) in
      let within = number_within args n old (sym at) in
      let same_old : by.old ≡ old = same_some by.old old (sym by.at ∙ sym at) in
      let same_new : by.changed ≡ changed = set_once args (n - 1) by.changed changed (omega (arith, within.0, within.1)) (sym by.has ∙ has) in
      exact.1 (subst (λ o. IsTermReplaced o rest s t changed) same_old (subst (IsTermReplaced by.old rest s t) same_new by.replaces)),
)

-- A work list is worked in one way, and keeps a book sound.
use Rattle.std.proofs.Common.{◌≡◌, ◌∙◌, sym, ap, subst, refl, ℕ, List, [], ◌∷◌, ◌++◌, map}
use Rattle.sc_term.specs.declared.Step.TheVariants.{Input}
use Rattle.sc_term.specs.Numbering.{numbered}
use Rattle.sc_input_rules.specs.Problem.{Stated}
use Rattle.sc_term.specs.declared.Numbered.{Numbered}
use Rattle.sc_steps.specs.declared.derivations.derivation.Derived.{Derived}
use Rattle.sc_core_rules.specs.declared.fate.Fate.TheVariants.{Empty}
use Rattle.sc_core_rules.specs.declared.fate.Processed.{Processed}
use Rattle.sc_core_rules.specs.Inference.{Inference, Concludes}
use Rattle.sc_core_rules.specs.Book.{Book, IsSound, numbered_clauses}
use Rattle.sc_core_rules.specs.Processing.{Processes}
use Rattle.sc_core_rules.specs.Sites.{Site}
use Rattle.sc_core_rules.specs.WorkList.{Item, At, Again, Gives, Finish, Found, Works, done, too_many, nothing, found, goes_on}
use Rattle.sc_core_rules.proofs.StepLaws.{same_some}
use Rattle.sc_core_rules.proofs.DerivationLaws.{conclusion_is_one}
use Rattle.sc_core_rules.proofs.SimplifyLaws.{NumbersTell}
use Rattle.sc_core_rules.proofs.ProcessLaws.{processing_is_one}
use Rattle.sc_core_rules.proofs.InferenceLaws.{infers_one}
use Rattle.sc_core_rules.proofs.SoundProcessing.{processes_sound}

gives_one : (problem : Stated) (book : Book) (given : Numbered) (usable : List Numbered) (passed : Site → Type 0) → NumbersTell usable → (item : Item) (made other : Derived)
    → Gives problem book given usable passed item made → Gives problem book given usable passed item other → made ≡ other
gives_one problem book given usable passed tell (At site) made other (kept, h) (still, k) =
    let i : h.0 ≡ k.0 = infers_one given usable tell site h.0 k.0 h.1 k.1 in
    conclusion_is_one k.0 made other (subst (λ (i : Inference). Concludes i made) i h.2) k.2
gives_one problem book given usable passed tell (Again n) made other h k =
    let c : h.0 ≡ k.0 = same_some (numbered (numbered_clauses problem book) n) h.0 k.0 h.1 k.1 in
    h.2 ∙ (λ i. record { clause = c i; lines = record { step = Input n; clause = c i } ∷ [] }) ∙ sym k.2

same_empty : (j k : ℕ) → Empty j ≡ Empty k → j ≡ k
same_empty j k e = cc

module _ (problem : Stated) (turn : ℕ) (given : Numbered) (usable : List Numbered) (passed : Site → Type 0) (tell : NumbersTell usable) where
  -- one item gives one conclusion with one outcome
  treated : (book new other : Book) (item : Item) (m1 m2 : Derived) (o1 o2 : Processed) → IsSound problem book → Gives problem book given usable passed item m1 → Gives problem book given usable passed item m2
      → Processes problem book m1.lines turn new o1 → Processes problem book m2.lines turn other o2 → (new ≡ other) × (o1 ≡ o2)
  treated book new other item m1 m2 o1 o2 sound g1 g2 p1 p2 =
      let made : m1 ≡ m2 = gives_one problem book given usable passed tell item m1 m2 g1 g2 in
      processing_is_one problem book m2.lines turn new other o1 o2 sound (subst (λ (m : Derived). Processes problem book m.lines turn new o1) made p1) p2

  pub works_one : (n : ℕ) (book new other : Book) (items : List Item) (f g : Finish) → IsSound problem book → Works problem turn given usable passed n book items new f → Works problem turn given usable passed n book items other g
      → (new ≡ other) × (f ≡ g)
  works_one n book new other items f g sound done done = (refl, refl)
  works_one n book new other items f g sound too_many too_many = (refl, refl)
  works_one n book new other items f g sound (nothing h w) (nothing k v) = works_one _ book new other _ f g sound w v
  works_one n book new other items f g sound (nothing h w) (found m o gives p e) = absurd (h m gives)
  works_one n book new other items f g sound (nothing h w) (goes_on m o gives p e v) = absurd (h m gives)
  works_one n book new other items f g sound (found m o gives p e) (nothing k v) = absurd (k m gives)
  works_one n book new other items f g sound (goes_on m o gives p e w) (nothing k v) = absurd (k m gives)
  works_one n book new other items f g sound (found {k = j} m1 o1 g1 p1 e1) (found {k = k} m2 o2 g2 p2 e2) =
      let t = treated book new other _ m1 m2 o1 o2 sound g1 g2 p1 p2 in
      (t.0, ap Found (same_empty j k (sym e1 ∙ ap (λ (o : Processed). o.fate) t.1 ∙ e2)))
  works_one n book new other items f g sound (found {k = j} m1 o1 g1 p1 e1) (goes_on {mid = mid} m2 o2 g2 p2 e2 v) =
      let t = treated book new mid _ m1 m2 o1 o2 sound g1 g2 p1 p2 in
      absurd (e2 j (sym (ap (λ (o : Processed). o.fate) t.1) ∙ e1))
  works_one n book new other items f g sound (goes_on {mid = mid} m1 o1 g1 p1 e1 w) (found {k = k} m2 o2 g2 p2 e2) =
      let t = treated book mid other _ m1 m2 o1 o2 sound g1 g2 p1 p2 in
      absurd (e1 k (ap (λ (o : Processed). o.fate) t.1 ∙ e2))
  works_one n book new other items f g sound (goes_on {n = l} {mid = mid1} {items = rest} m1 o1 g1 p1 e1 w) (goes_on {mid = mid2} m2 o2 g2 p2 e2 v) =
      let t = treated book mid1 mid2 _ m1 m2 o1 o2 sound g1 g2 p1 p2 in
      works_one l mid2 new other (rest ++ map Again o2.again) f g
      (processes_sound problem book m2.lines turn mid2 o2 sound p2)
      (subst (λ (o : Processed). Works problem turn given usable passed l mid2 (rest ++ map Again o.again) new f) t.1
      (subst (λ (b : Book). Works problem turn given usable passed l b (rest ++ map Again o1.again) new f) t.0 w)) v

  pub works_sound : (n : ℕ) (book new : Book) (items : List Item) (f : Finish) → IsSound problem book → Works problem turn given usable passed n book items new f → IsSound problem new
  works_sound n book new items f sound done = sound
  works_sound n book new items f sound too_many = sound
  works_sound n book new items f sound (nothing h w) = works_sound _ book new _ f sound w
  works_sound n book new items f sound (found m o gives p e) = processes_sound problem book m.lines turn new o sound p
  works_sound n book new items f sound (goes_on {mid = mid} m o gives p e w) = works_sound _ mid new _ f (processes_sound problem book m.lines turn mid o sound p) w

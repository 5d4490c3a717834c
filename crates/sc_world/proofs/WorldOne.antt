-- So many finders and a list of events lead to one machine.
use Rattle.std.proofs.Common.{◌≡◌, ◌∙◌, sym, ap, subst, refl, ℕ, inl, inr, List, [], ◌∷◌, ◌++◌, replicate, Some}
use Rattle.sc_term.specs.Numbering.{numbered, with_element}
use Rattle.sc_steps.proofs.ListLaws.{some_and}
use Rattle.sc_input_rules.specs.Problem.{Stated}
use Rattle.sc_input_rules.specs.WellFormed.{IsProblem}
use Rattle.sc_interp.specs.Versions.{ClaimedStructure}
use Rattle.sc_core_rules.specs.Book.{IsSound}
use Rattle.sc_core_rules.specs.Selection.{Seen}
use Rattle.sc_core_rules.specs.Turn.{Run}
use Rattle.sc_core_rules.specs.Run.{Goes, started}
use Rattle.sc_core_rules.proofs.RunLaws.{run_is_one, starts_sound}
use Rattle.sc_core_rules.proofs.TurnLaws.{turns_one, turns_sound}
use Rattle.sc_world.specs.Events.{Machine, Event, Publish, Look, Turn, Happens, HappenAll, IsAtStart, EventsAreOne}

module _ (problem : Stated) where
  goes_one : (old : Run) (look : Seen) (new other : Run) → IsSound problem old.book → Goes problem old look new → Goes problem old look other → new ≡ other
  goes_one old look new other sound (inl h) (inl k) = h.1 ∙ sym k.1
  goes_one old look new other sound (inl h) (inr k) = absurd (k.0 h.0)
  goes_one old look new other sound (inr h) (inl k) = absurd (h.0 k.0)
  goes_one old look new other sound (inr h) (inr k) = turns_one problem old look new other sound h.1 k.1

  goes_sound : (old : Run) (look : Seen) (new : Run) → IsSound problem old.book → Goes problem old look new → IsSound problem new.book
  goes_sound old look new sound (inl h) = subst (λ (r : Run). IsSound problem r.book) (sym h.1) sound
  goes_sound old look new sound (inr h) = turns_sound problem old look new sound h.1

  abbrev HasSoundBook : Machine → Type 0
  HasSoundBook m = IsSound problem m.run.book

  module _ (old : Machine) where
    abbrev published : ℕ → ClaimedStructure → List ClaimedStructure → Machine
    published f v versions = record old { published = with_element old.published f (versions ++ v ∷ []) }

    abbrev looked : ℕ → List ClaimedStructure → Machine
    looked f versions = record old { seen = with_element old.seen f versions }

    happens_one : (e : Event) (m other : Machine) → HasSoundBook old → Happens problem old e m → Happens problem old e other → m ≡ other
    happens_one (Publish f v) m other sound h k =
        let first = some_and (numbered old.published f) (λ versions. m ≡ published f v versions) h in
        let second = some_and (numbered old.published f) (λ versions. other ≡ published f v versions) k in
        let some : Some (first.0) ≡ Some (second.0) = sym first.1 ∙ second.1 in
        let same : first.0 ≡ second.0 = cc in
        first.2 ∙ ap (published f v) same ∙ sym second.2
    happens_one (Look f) m other sound h k =
        let first = some_and (numbered old.published f) (λ versions. m ≡ looked f versions) h in
        let second = some_and (numbered old.published f) (λ versions. other ≡ looked f versions) k in
        let some : Some (first.0) ≡ Some (second.0) = sym first.1 ∙ second.1 in
        let same : first.0 ≡ second.0 = cc in
        first.2 ∙ ap (looked f) same ∙ sym second.2
    happens_one Turn m other sound h k = h.2 ∙ ap (λ (r : Run). record old { run = r }) (goes_one old.run old.seen h.0 k.0 sound h.1 k.1) ∙ sym k.2

    happens_sound : (e : Event) (m : Machine) → HasSoundBook old → Happens problem old e m → HasSoundBook m
    happens_sound (Publish f v) m sound h = let is = some_and (numbered old.published f) (λ versions. m ≡ published f v versions) h in subst HasSoundBook (sym is.2) sound
    happens_sound (Look f) m sound h = let is = some_and (numbered old.published f) (λ versions. m ≡ looked f versions) h in subst HasSoundBook (sym is.2) sound
    happens_sound Turn m sound h = subst HasSoundBook (sym h.2) (goes_sound old.run old.seen h.0 sound h.1)

  all_one : (es : List Event) (old m other : Machine) → HasSoundBook old → HappenAll problem old es m → HappenAll problem old es other → m ≡ other
  all_one [] old m other sound h k = h ∙ sym k
  all_one (e ∷ es) old m other sound h k =
      let mid : h.0 ≡ k.0 = happens_one old e h.0 k.0 sound h.1 k.1 in
      all_one es k.0 m other (happens_sound old e k.0 sound k.1) (subst (λ (x : Machine). HappenAll problem x es m) mid h.2) k.2

  start_one : (finders : ℕ) (m other : Machine) → IsProblem problem → IsAtStart problem finders m → IsAtStart problem finders other → m ≡ other
  start_one finders m other such h k =
      let same : started h.0 h.1 ≡ started k.0 k.1 =
      run_is_one problem [] (started h.0 h.1) (started k.0 k.1) such (record { book = h.0; goal = h.1; starts = h.2; goes = refl }) (record { book = k.0; goal = k.1; starts = k.2; goes = refl }) in
      h.3 ∙ ap (λ (r : Run). record { published = replicate finders []; seen = replicate finders []; run = r }) same ∙ sym k.3

  start_sound : (finders : ℕ) (m : Machine) → IsProblem problem → IsAtStart problem finders m → HasSoundBook m
  start_sound finders m such h = subst HasSoundBook (sym h.3) (starts_sound problem h.0 h.1 such h.2)

pub one_machine : EventsAreOne
one_machine problem finders events m other such h k =
    let first : h.0 ≡ k.0 = start_one problem finders h.0 k.0 such h.1 k.1 in
    all_one problem events k.0 m other (start_sound problem finders k.0 such k.1) (subst (λ (x : Machine). HappenAll problem x events m) first h.2) k.2

-- Marks that are right stay right, and tell what is false in the guide.
use Rattle.std.proofs.Common.{◌≡◌, ◌∙◌, sym, ap, subst, refl, ℕ, ◌+◌, ◌<◌, ◌⊎◌, inl, inr, List, [], ◌∷◌, ◌++◌, length, get_or, take, Some, not, nat_eq, arith}
use Rattle.std.specs.List.{Contains}
use Rattle.std.proofs.lemmas.List.{take_more}
use Rattle.sc_term.specs.declared.Clause.{Clause}
use Rattle.sc_term.specs.declared.Numbered.{Numbered}
use Rattle.sc_term.specs.Numbering.{numbered}
use Rattle.sc_term.proofs.ContainsLaws.{first_or_later}
use Rattle.sc_input_rules.specs.Problem.{Stated}
use Rattle.sc_interp.specs.declared.plain.VersionName.{VersionName}
use Rattle.sc_interp.specs.declared.plain.Truth.TheVariants.{False}
use Rattle.sc_interp.specs.Marks.{IsMark}
use Rattle.sc_interp.specs.Versions.{ClaimedStructure}
use Rattle.sc_core_rules.specs.Book.{Book, IsSound, numbered_clauses}
use Rattle.sc_core_rules.specs.Selection.{Seen, IsFalse, IsGuide}
use Rattle.sc_core_rules.specs.Turn.{Run, Turns}
use Rattle.sc_core_rules.proofs.DerivedBook.{all_stand}
use Rattle.sc_core_rules.proofs.FilterLaws.{in_first, in_second, in_either}
use Rattle.sc_core_rules.proofs.SoundLaws.{StandsIn, filter_sub}
use Rattle.sc_core_rules.proofs.StepLaws.{same_some}
use Rattle.sc_core_laws.specs.TrueRows.{IsNamed, IsFrontOf}
use Rattle.sc_mark.specs.Marked.{Marked, unmarked, with_mark, without_mark, HasMark}
use Rattle.sc_sos.specs.Waiting.{IsFalseIn}
use Rattle.sc_guide.specs.Guided.{Guided}
use Rattle.sc_core.specs.Choice.{weighed}
use Rattle.sc_core.specs.Marking.{AreRight, AreMarked, in_guide}
use Rattle.sc_core.proofs.GrowingLaws.{still_stands}
use Rattle.sc_core.proofs.SeenLaws.{guide_named, named_one, still_named}

-- ---- more marks

-- nothing joins
pub none_marked : (marks : Marked) → AreMarked marks marks []
none_marked marks = record {
  name = refl;
  version = refl;
  kept = λ p h. h;
  only = λ p h. inl h;
  all = λ p h. absurd (omega (arith, h.1));
}

-- the mark of a clause is there
pub known_mark : (marks : Marked) (p : Numbered) → HasMark marks p.number → AreMarked marks marks (p ∷ [])
known_mark marks p there = record {
  name = refl;
  version = refl;
  kept = λ q h. h;
  only = λ q h. inl h;
  all = λ q h. by q (first_or_later q p [] h);
}
  where
    by : (q : Numbered) → (p ≡ q) ⊎ Contains [] q → HasMark marks q.number
    by q (inl e) = subst (λ (r : Numbered). HasMark marks r.number) e there
    by q (inr h) = absurd (omega (arith, h.1))

-- or is taken
pub new_mark : (old new : Marked) (p : Numbered) → new ≡ with_mark old p.number p.clause → AreMarked old new (p ∷ [])
new_mark old new p e = subst (λ (marks : Marked). AreMarked old marks (p ∷ [])) (sym e) (record {
  name = refl;
  version = refl;
  kept = λ q h. in_first q old.clauses (p ∷ []) h;
  only = λ q h. in_either q old.clauses (p ∷ []) h;
  all = λ q h. (q, in_second q old.clauses (p ∷ []) h, refl);
})

-- one clause after the others
pub marked_more : (old mid new : Marked) (front : List Numbered) (p : Numbered) → AreMarked old mid front → AreMarked mid new (p ∷ []) → AreMarked old new (front ++ p ∷ [])
marked_more old mid new front p h k = record {
  name = k.name ∙ h.name;
  version = k.version ∙ h.version;
  kept = λ q there. k.kept q (h.kept q there);
  only = λ q there. from q (k.only q there);
  all = λ q there. marked q (in_either q front (p ∷ []) there);
}
  where
    before : (q : Numbered) → Contains old.clauses q ⊎ Contains front q → Contains old.clauses q ⊎ Contains (front ++ p ∷ []) q
    before q (inl there) = inl there
    before q (inr there) = inr (in_first q front (p ∷ []) there)

    from : (q : Numbered) → Contains mid.clauses q ⊎ Contains (p ∷ []) q → Contains old.clauses q ⊎ Contains (front ++ p ∷ []) q
    from q (inl there) = before q (h.only q there)
    from q (inr there) = inr (in_second q front (p ∷ []) there)

    marked : (q : Numbered) → Contains front q ⊎ Contains (p ∷ []) q → HasMark new q.number
    marked q (inl there) = let had = h.all q there in (had.0, k.kept had.0 had.1, had.2)
    marked q (inr there) = k.all q there

-- the next clause of a list after those before it
pub next_marked : (old mid new : Marked) (sos : List Numbered) (i : ℕ) (p : Numbered) → i < length sos → p ≡ get_or sos i p
    → AreMarked old mid (take i sos) → AreMarked mid new (p ∷ []) → AreMarked old new (take (i + 1) sos)
next_marked old mid new sos i p less here h k =
    subst (AreMarked old new) (ap (λ (q : Numbered). take i sos ++ q ∷ []) here ∙ sym (take_more sos i p less)) (marked_more old mid new (take i sos) p h k)

-- as the values tell it
pub marked_as : (old new other : Marked) (ps qs : List Numbered) → old ≡ other → ps ≡ qs → AreMarked old new ps → AreMarked other new qs
marked_as old new other ps qs e f h = subst (λ (marks : Marked). AreMarked marks new qs) e (subst (AreMarked old new) f h)

-- the clauses of sos stand under their numbers
pub sos_stand : (problem : Stated) (book : Book) → IsSound problem book → (p : Numbered) → Contains book.sos p → StandsIn problem book p
sos_stand problem book sound p there = all_stand problem book sound p (in_first p (book.usable ++ book.sos) book.passive (in_second p book.usable book.sos there))

-- ---- marks stay right

module _ (problem : Stated) where
  -- no clause is marked in the opening version
  pub unmarked_right : (seen : Seen) (book : Book) (marks : Marked) → marks ≡ unmarked problem.symbols → AreRight problem seen book marks
  unmarked_right seen book marks e = subst (AreRight problem seen book) (sym e) (record { named = inl (refl, refl); stand = λ p h. absurd (omega (arith, h.1)) })

  module _ (seen : Seen) (book : Book) where
    -- a mark is dropped
    pub dropped_right : (marks new : Marked) (n : ℕ) → new ≡ without_mark marks n → AreRight problem seen book marks → AreRight problem seen book new
    dropped_right marks new n e h = subst (AreRight problem seen book) (sym e) (record {
      named = h.named;
      stand = λ p there. h.stand p (filter_sub (λ (q : Numbered). not (nat_eq q.number n)) p marks.clauses there);
    })

    -- marks of the name of the guide are marks in the guide
    pub same_as_guide : (marks : Marked) (guide : Guided) → AreRight problem seen book marks → IsGuide problem seen guide.name guide.version
        → marks.name ≡ guide.name → marks.version ≡ guide.version
    same_as_guide marks guide h guides e =
        named_one problem seen guide.name marks.version guide.version (subst (λ (n : VersionName). IsNamed problem seen n marks.version) e h.named)
        (guide_named problem seen guide.name guide.version guides)

    -- the clauses of sos are marked in the guide
    pub marked_right : (marks new : Marked) (guide : Guided) → IsSound problem book → IsGuide problem seen guide.name guide.version → AreRight problem seen book marks
        → AreMarked (in_guide marks guide) new book.sos → AreRight problem seen book new
    marked_right marks new guide sound guides h k = record {
      named = subst (λ (v : ClaimedStructure). IsNamed problem seen new.name v) (sym k.version)
          (subst (λ (n : VersionName). IsNamed problem seen n guide.version) (sym k.name) (guide_named problem seen guide.name guide.version guides));
      stand = λ p there. by p (k.only p there);
    }
      where
        by : (p : Numbered) → Contains marks.clauses p ⊎ Contains book.sos p → StandsIn problem book p
        by p (inl there) = h.stand p there
        by p (inr there) = sos_stand problem book sound p there

  -- a turn keeps the numbers of clauses
  pub turned_right : (seen : Seen) (old new : Run) (marks : Marked) → Turns problem old seen new → AreRight problem seen old.book marks → AreRight problem seen new.book marks
  turned_right seen old new marks turn h = record { named = h.named; stand = λ p there. still_stands problem old seen new turn p (h.stand p there) }

  -- more versions are seen
  pub grown_right : (seen other : Seen) (book : Book) (marks : Marked) → IsFrontOf other seen → AreRight problem seen book marks → AreRight problem other book marks
  grown_right seen other book marks front h = record { named = still_named problem seen other front marks.name marks.version h.named; stand = h.stand }

  -- ---- what the marks tell

  module _ (seen : Seen) (book : Book) (sound : IsSound problem book) (marks : Marked) (right : AreRight problem seen book marks) where
    agree : (p q : Numbered) → Contains marks.clauses p → Contains book.sos q → p.number ≡ q.number → p.clause ≡ q.clause
    agree p q h k e =
        same_some (numbered (numbered_clauses problem book) q.number) p.clause q.clause
        (subst (λ (n : ℕ). numbered (numbered_clauses problem book) n ≡ Some p.clause) e (right.stand p h)) (sos_stand problem book sound q k)

    -- a clause of sos that is marked False is false in the version, and the other way round
    pub to_false : (q : Numbered) → Contains book.sos q → IsFalseIn marks (weighed q) → IsFalse marks.version q
    to_false q k h = subst (λ (c : Clause). IsMark marks.version.tables c False) (agree h.0 q h.1 k h.2) h.3

    pub from_false : (q : Numbered) → Contains book.sos q → HasMark marks q.number → IsFalse marks.version q → IsFalseIn marks (weighed q)
    from_false q k there h = (there.0, there.1, there.2, subst (λ (c : Clause). IsMark marks.version.tables c False) (sym (agree there.0 q there.1 k there.2)) h)

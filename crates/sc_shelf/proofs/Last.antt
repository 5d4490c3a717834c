-- Taking apart what a call answers, and the last look at a closed shelf.
use Rattle.std.proofs.Common.{◌≡◌, List, subst, ap, ◌∙◌, true}
use Rattle.std.specs.Prelude.{Option, Some, None, IfSome, Result, Ok, Err, OnOk, MatchResult}
use Rattle.sc_term.specs.declared.symbol.Symbol.{Symbol}
use Rattle.sc_interp.specs.Versions.{ClaimedStructure}
use Rattle.sc_shelf.specs.declared.entry.Entry.{Entry}
use Rattle.sc_shelf.specs.Entries.{StartsWith, versions, has_close, AreEntries}
use Rattle.sc_shelf.specs.State.{Note, PressState, WindowState, StaysLearnt, listed, is_closed}
use Rattle.std.specs.Option.{option_map}
use Rattle.sc_shelf.proofs.EntryLaws.{closed_is_final}

pub ok_side : {A E : Type 0} (P : A → Type 0) (Q : E → Type 0) (r : Result A E) (x : A) → r ≡ Ok x → MatchResult r P Q → P x
ok_side {A} {E} P Q r x is m = subst (λ (z : Result A E). MatchResult z P Q) is m

-- what was told and not lost can't be missed
from_note : (told : Option Note) (note : Note) (met : List Entry) → IfSome told (λ n. n ≡ note) → StaysLearnt (option_map (λ n. n.entries) told) (Some met) → StartsWith met note.entries
from_note None note met is l = cc
from_note (Some n) note met is l = subst (λ (z : Note). StartsWith met z.entries) is l

-- a look that is Ok, after a closed press has told, sees all that the press has published
pub all_seen : (symbols : List Symbol) (told : Option Note) (note : Note) (met : List Entry) (seen : List ClaimedStructure) → IfSome told (λ n. n ≡ note) → StaysLearnt (option_map (λ n. n.entries) told) (Some met)
    → AreEntries symbols met → has_close note.entries ≡ true → seen ≡ versions met → seen ≡ versions note.entries
all_seen symbols told note met seen is l kept closed e = e ∙ ap versions (closed_is_final symbols note.entries met kept (from_note told note met is l) closed)

pub look_sees : (told : Option Note) (p : PressState) (before after : WindowState) → IfSome told (λ n. n ≡ record { symbols = p.symbols; entries = p.entries }) → before.learnt ≡ option_map (λ n. n.entries) told
    → StaysLearnt before.learnt after.learnt → AreEntries after.symbols after.met → is_closed p ≡ true → after.learnt ≡ Some after.met → after.seen ≡ versions after.met → after.seen ≡ listed p
look_sees told p before after is same l kept closed met all =
    let note : Note = record { symbols = p.symbols; entries = p.entries } in
    let l2 : StaysLearnt (option_map (λ n. n.entries) told) (Some after.met) = subst (λ (z : Option (List Entry)). StaysLearnt (option_map (λ n. n.entries) told) z) met (subst (λ (z : Option (List Entry)). StaysLearnt z after.learnt) same l) in
    all_seen after.symbols told note after.met after.seen is l2 kept closed all

pub ok_both : {A E : Type 0} (P Q R : Type 0) (r : Result A E) → OnOk r P → OnOk r Q → (P → Q → R) → OnOk r R
ok_both P Q R (Ok a) p q f = f p q
ok_both P Q R (Err e) p q f = tt

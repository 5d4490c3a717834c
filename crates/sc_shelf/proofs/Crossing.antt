-- What may go to another thread: versions, the press and the window of a shelf. `crossing` is the set of them for `search`,
-- to be listed before the sets of std and of terms: alone, these look into a shelf so often that they find no end.
use mathlib.Core.List.{[], ◌∷◌}
use mir.Syntax.{Sym}
use denote.RattleType.{RattleType}
use denote.Ref.{NamedLft, ShrRef, MutRef}
use denote.Slice.{ShrSlice}
use denote.Struct.Tuple.{TupleAt, type_at}
use denote.Struct.Declared.{shape}
use denote.Param.Send.{IsSend, IsSync, sendable, AllSend, struct_send, recorded_send, shr_send, mut_send, shr_slice_send}
use Rattle.std.specs.contracts.alloc.Global as Global
use Rattle.std.proofs.Crossing.{crosses}
use Rattle.left_right.proofs.writer.Writer.TheSendSync as writer
use Rattle.left_right.proofs.reader.Reader.TheSendSync as reader
use Rattle.sc_term.proofs.Term.TheLaws.TheKnot as terms
use Rattle.sc_interp.specs.contracts.version.Version as Version
use Rattle.sc_shelf.specs.contracts.entry.Entry as Entry
use Rattle.sc_shelf.specs.contracts.store.Store as Store
use Rattle.sc_shelf.specs.contracts.press.Press as Press
use Rattle.sc_shelf.specs.contracts.window.Window as Window

pub version_send : IsSend Version.the_row
version_send = search (crosses, terms.crosses, sendable) depth 60 fits 20000

pub version_sync : IsSync Version.the_row
version_sync = search (crosses, terms.crosses, sendable) depth 60 fits 20000

entry_send : IsSend Entry.the_row
entry_send = search (version_send, crosses, sendable) depth 60 fits 20000

entry_sync : IsSync Entry.the_row
entry_sync = search (version_sync, crosses, sendable) depth 60 fits 20000

store_send : IsSend Store.the_row
store_send = search (entry_send, crosses, terms.crosses, sendable) depth 60 fits 20000

store_sync : IsSync Store.the_row
store_sync = search (entry_sync, crosses, terms.crosses, sendable) depth 60 fits 20000

pub press_send : IsSend Press.the_row
press_send = search (writer.the_field_send, store_send, store_sync, entry_send, crosses, sendable) depth 60 fits 20000

pub window_send : IsSend Window.the_row
window_send = search (reader.the_field_send, reader.the_send, version_send, store_sync, crosses, sendable) depth 60 fits 20000

pub ruleset crossing = (press_send, window_send, version_send, version_sync)

heap_sync : IsSync Global.the_row
heap_sync = search (crosses, sendable) depth 20

abbrev captured : RattleType → NamedLft → NamedLft → NamedLft → NamedLft → mathlib.Core.List.List RattleType
captured T a b c d = ShrRef a.mir a.lft T ∷ ShrRef b.mir b.lft Global.the_row ∷ MutRef c.mir c.lft Press.the_row ∷ ShrSlice d.mir d.lft Version.the_row ∷ []

captured_send : (T : RattleType) → IsSync T → (a b c d : NamedLft) → AllSend (captured T a b c d)
captured_send T y a b c d = (shr_send a.mir a.lft T y, (shr_send b.mir b.lft Global.the_row heap_sync, (mut_send c.mir c.lft Press.the_row press_send, (shr_slice_send d.mir d.lft Version.the_row version_sync, tt))))

pub publishing_send : (ν : Sym) (T : RattleType) → IsSync T → (a b c d : NamedLft) → IsSend (TupleAt ν (captured T a b c d))
publishing_send ν T y a b c d = recorded_send _ _ _ (type_at ν (captured T a b c d)).to_one (struct_send (shape (type_at ν (captured T a b c d))) (captured_send T y a b c d))

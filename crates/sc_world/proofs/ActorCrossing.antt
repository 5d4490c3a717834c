-- A finder with its end may go to another thread, and so may what the thread of the finders works with.
use mathlib.Core.List.{[], ◌∷◌}
use mir.Syntax.{Sym}
use denote.RattleType.{RattleType}
use denote.Ref.{NamedLft, ShrRef}
use denote.Slice.{MutSlice}
use denote.Struct.Tuple.{TupleAt, type_at}
use denote.Struct.Declared.{shape}
use denote.Param.Send.{IsSend, IsSync, sendable, AllSend, struct_send, recorded_send, shr_send, mut_slice_send}
use Rattle.std.specs.contracts.alloc.Global as Global
use Rattle.std.proofs.Crossing.{crosses}
use Rattle.core.specs.contracts.atomic.AtomicU64 as Word
use Rattle.sc_worker.proofs.Crossing.{finder_send}
use Rattle.sc_world.specs.contracts.actors.Actor as Actor

pub actor_send : (a : NamedLft) → IsSend (Actor.the_row a)
actor_send a = search (finder_send, crosses, sendable) depth 60 fits 20000

heap_sync : IsSync Global.the_row
heap_sync = search (crosses, sendable) depth 20

word_sync : IsSync Word.the_row
word_sync = search (crosses, sendable) depth 20

-- the runtime, the allocator, the word, the gate and the finders
abbrev captured : RattleType → RattleType → NamedLft → NamedLft → NamedLft → NamedLft → NamedLft → NamedLft → mathlib.Core.List.List RattleType
captured T S a b w d e f = ShrRef a.mir a.lft T ∷ ShrRef b.mir b.lft Global.the_row ∷ ShrRef w.mir w.lft Word.the_row ∷ ShrRef d.mir d.lft S ∷ MutSlice e.mir e.lft (Actor.the_row f) ∷ []

captured_send : (T S : RattleType) → IsSync T → IsSync S → (a b w d e f : NamedLft) → AllSend (captured T S a b w d e f)
captured_send T S y z a b w d e f =
    (shr_send a.mir a.lft T y, (shr_send b.mir b.lft Global.the_row heap_sync, (shr_send w.mir w.lft Word.the_row word_sync, (shr_send d.mir d.lft S z, (mut_slice_send e.mir e.lft (Actor.the_row f) (actor_send f), tt)))))

pub working_send : (ν : Sym) (T S : RattleType) → IsSync T → IsSync S → (a b w d e f : NamedLft) → IsSend (TupleAt ν (captured T S a b w d e f))
working_send ν T S y z a b w d e f =
    recorded_send _ _ _ (type_at ν (captured T S a b w d e f)).to_one (struct_send (shape (type_at ν (captured T S a b w d e f))) (captured_send T S y z a b w d e f))

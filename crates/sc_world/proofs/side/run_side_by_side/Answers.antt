use denote.Exit.{no}
use denote.Param.Send.{param_send, arg_send}
use Rattle.sc_world.proofs.ActorCrossing.{working_send}
use Rattle.sc_world.proofs.side.run_side_by_side.Goals as goal

pub join_mut-ended-requires-send-F : goal.join_mut-ended-requires-send-F
join_mut-ended-requires-send-F g c κs within = param_send 1 _ (arg_send _ no _ (working_send _ _ _ c.type_bounds.sync-R c.type_bounds.sync-G _ _ _ _ _ _))

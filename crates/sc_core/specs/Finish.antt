-- How the work of a turn ends, as a value of the program.
use Rattle.sc_core_rules.specs.WorkList.{Finish, Done, Found, TooMany}
use Rattle.sc_core.specs.declared.finish.Finish.{Finish as Told}
use Rattle.sc_core.specs.declared.finish.Finish.TheVariants as told

-- the end that the value tells
abbrev pub finish_of : Told → Finish
finish_of told.Done = Done
finish_of (told.Found n) = Found n
finish_of told.TooMany = TooMany

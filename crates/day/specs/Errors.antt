-- Why a call is not done, by what the desk told. Assumes nothing.
use Rattle.desk.specs.declared.errors.DrawError.{DrawError}
use Rattle.desk.specs.declared.errors.DrawError.TheVariants as of_draw
use Rattle.desk.specs.declared.errors.SpendError.{SpendError}
use Rattle.desk.specs.declared.errors.SpendError.TheVariants as of_spend
use Rattle.day.specs.declared.call_error.CallError.{CallError}
use Rattle.day.specs.declared.call_error.CallError.TheVariants.{Memory, NotInHand, Refused}

abbrev pub from_draw : DrawError → CallError
from_draw (of_draw.Memory e) = Memory e
from_draw (of_draw.Refused w) = Refused w

abbrev pub from_spend : SpendError → CallError
from_spend of_spend.NotInHand = NotInHand
from_spend (of_spend.Refused w) = Refused w

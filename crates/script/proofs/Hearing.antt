-- What the code heard, told of an equal part. Assumes nothing.
use Rattle.std.proofs.Common.{◌≡◌, Ok, Err, Result, ◌∙◌}
use Rattle.script.specs.declared.fault.Fault.{Fault}
use Rattle.script.specs.declared.fault.Fault.TheVariants.{Memory, NotACall}
use Rattle.script.specs.declared.reason.Reason.{Reason}
use Rattle.script.specs.Heard.{Heard}

pub heard_as : {A B : Type 0} (f : A → B) (r : Result A Fault) (o o' : Result B Reason) → o ≡ o' → Heard f r o
    → Heard f r o'
heard_as f (Ok x) o o' same h = h ∙ same
heard_as f (Err Memory) o o' same h = tt
heard_as f (Err (NotACall w)) o o' same h = h ∙ same

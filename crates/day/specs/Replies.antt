-- How the day answers what a desk told. Assumes nothing.
use Rattle.std.specs.Prelude.{Ok, Err, Result}
use Rattle.refusal.specs.declared.Refusal.{Refusal}
use Rattle.desk.specs.declared.errors.SpendError.{SpendError}
use Rattle.desk.specs.declared.errors.SpendError.TheVariants.{NotInHand, Refused}
use Rattle.day.specs.declared.answer.Answer.{Answer}
use Rattle.day.specs.declared.answer.Answer.TheVariants as is

-- by `say` where there is no refusal
abbrev pub reply : {A : Type 0} → (A → Answer) → Result A Refusal → Answer
reply say (Ok x) = say x
reply say (Err w) = is.Refused w

-- and where the draw may not be in hand
abbrev pub reply_spent : {A : Type 0} → (A → Answer) → Result A SpendError → Answer
reply_spent say (Ok x) = say x
reply_spent say (Err NotInHand) = is.NotInHand
reply_spent say (Err (Refused w)) = is.Refused w

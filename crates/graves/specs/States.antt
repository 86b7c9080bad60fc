-- How a grave's state goes on, by the causes of refusal that the calls' rules name. Assumes nothing.
use Rattle.std.specs.Prelude.{not, List, [], ◌∷◌, Ok, Err, Result}
use Rattle.refusal.specs.declared.Refusal.{Refusal}
use Rattle.refusal.specs.Numbers.{number_of}
use Rattle.refusal.specs.Outcomes.{Outcome, gives, refuses, Cause, ◌when◌, decided}
use Rattle.promise.specs.Records as rule
use Rattle.graves.specs.declared.entry.State.{State}
use Rattle.graves.specs.declared.entry.State.TheVariants as is
use Rattle.graves.specs.declared.entry.Event.{Event}
use Rattle.graves.specs.declared.entry.Event.TheVariants as on

-- a state of the code, as the rules have it
abbrev pub state : State → rule.State
state is.Free = rule.Free
state (is.Open n) = rule.Open n
state is.Locked = rule.Locked
state is.Closed = rule.Closed

abbrev pub stated : Result State Refusal → Outcome rule.State
stated (Ok s) = gives (state s)
stated (Err w) = refuses (number_of w)

-- why a state refuses an event
abbrev pub state_causes : rule.State → Event → List Cause
state_causes s on.Open = 2 when not (rule.is_free s) ∷ []
state_causes s on.Draw = 4 when rule.free_or_closed s ∷ 5 when rule.is_locked s ∷ []
state_causes s on.Seal = 4 when rule.free_or_closed s ∷ []
state_causes s on.Void = 4 when rule.free_or_closed s ∷ []
state_causes s on.FalseSeal = 4 when rule.free_or_closed s ∷ 5 when rule.is_locked s ∷ []
state_causes s on.Clear = 4 when rule.free_or_closed s ∷ []
state_causes s on.Close = 4 when rule.free_or_closed s ∷ []

-- the state after an event that is not refused
abbrev pub state_after : rule.State → Event → rule.State
state_after s on.Open = rule.Open 0
state_after s on.Draw = s
state_after s on.Seal = s
state_after s on.Void = s
state_after s on.FalseSeal = rule.one_more s
state_after s on.Clear = rule.Open 0
state_after s on.Close = rule.Closed

abbrev pub next_outcome : State → Event → Outcome rule.State
next_outcome s e = decided (state_causes (state s) e) (gives (state_after (state s) e))

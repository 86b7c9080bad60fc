-- What a call makes of its grave's record, by those causes that the record decides. Assumes nothing.
use Rattle.std.specs.Prelude.{◌≡◌, ℕ, Bool, not, List, [], ◌∷◌, ◌++◌}
use Rattle.refusal.specs.Outcomes.{Outcome, gives, refuses, Cause, ◌when◌, decided}
use Rattle.promise.specs.Draws.{holds}
use Rattle.promise.specs.Records.{Record, row, is_free}
use Rattle.graves.specs.declared.entry.Event.{Event}
use Rattle.graves.specs.States.{state_causes}

-- the record afterwards: the next one, or where the call is refused the record as it was
abbrev pub left : Record → Outcome Record → Record
left r (gives next) = next
left r (refuses n) = r

-- by these causes, a call on record r answers v and makes the next record of it, or is refused; it answered o and left r'
pub record Turned {A : Type 0} (cs : List Cause) (v : A) (next r : Record) (o : Outcome A) (r' : Record) : Type 0 where
  pub answers : o ≡ decided cs (gives v)
  pub leaves : r' ≡ left r (decided cs (gives next))

-- by the causes that the record gives, the value, and the record afterwards
abbrev pub TurnsBy : {A : Type 0} → (Record → List Cause) → (Record → A) → (Record → Record) → Record → Outcome A
    → Record → Type 0
TurnsBy causes value after r o r' = Turned (causes r) (value r) (after r) r o r'

-- why a grave is not opened: the test of its record, and then whether its key is used
abbrev pub open_here : Record → Bool → List Cause
open_here r used = 2 when not (is_free r.state) ∷ 3 when used ∷ []

-- why a draw is not given up: the state refuses it, or the draw is not held
abbrev pub give_up_causes : Record → Event → ℕ → List Cause
give_up_causes r e d = state_causes r.state e ++ (8 when not (holds d r.held) ∷ [])

abbrev pub with_held : List ℕ → Record → Record
with_held ds r = row r.state r.key r.next ds r.sealed r.voided r.current

-- What the book promises of every run: its law, true records, and seldom a collision. Assumes nothing.
use Rattle.std.specs.Prelude.{◌≡◌, ℕ, Bool, true, false, List, length, Some, None, Option}
use Rattle.cipher.specs.declared.Key.{Key}
use Rattle.field.specs.Model.{Model}
use Rattle.bound.specs.Bound.{OnlyZeroMakesZero, CollisionBound}
use Rattle.seal.specs.Sealing.{Sealing}
use Rattle.promise.specs.History.{Act, History, acts}
use Rattle.promise.specs.Past.{key, in_use, false_seals, handed_out, sheets, newest, held, voids}
use Rattle.promise.specs.Records.{State, Free, Closed, Record, no_key, in_use_with, Table, grave}
use Rattle.promise.specs.Register.{Reached}
use Rattle.promise.specs.Law.{Law}

-- A grave's record, read off what was done there.

abbrev pub state_of : Option Key → Bool → ℕ → State
state_of None u n = Free
state_of (Some k) true n = in_use_with n
state_of (Some k) false n = Closed

abbrev pub key_or_none : Option Key → Key
key_or_none None = no_key
key_or_none (Some k) = k

abbrev pub recorded : List Act → Record
recorded past = record {
  state = state_of (key past) (in_use past) (false_seals past);
  key = key_or_none (key past);
  next = handed_out past;
  held = held past;
  sealed = length (sheets past);
  voided = voids past;
  current = newest (sheets past);
}

-- Over a field and a sealing: whatever calls are made on a new book, the law holds of all that happened, and each
-- record says what was done at its grave; and if only a zero factor makes a zero product, two texts seldom share a
-- hash.
pub record Promise (m : Model) (S : Sealing) : Type 0 where
  pub law_holds : (h : History) (t : Table) → Reached S h t → Law S h
  pub records_true : (h : History) (t : Table) → Reached S h t → (g : ℕ) → grave t g ≡ recorded (acts g h)
  pub collisions_few : OnlyZeroMakesZero m → CollisionBound m

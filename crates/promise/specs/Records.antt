-- The record of a grave, the book's table, and what each call makes of a record. Assumes nothing.
use Rattle.std.specs.Prelude.{ℕ, ◌+◌, Bool, true, false, cond, not, ◌&&◌, ◌||◌, List, [], ◌∷◌, length, replicate, Some, None, Option, ◌==◌, nat_lt, slice_index_or}
use Rattle.cipher.specs.declared.Key.{Key}
use Rattle.promise.specs.Draws.{without}

pub data State : Type 0 where
  Free : State
  Open : (false_seals : ℕ) → State
  Locked : State
  Closed : State

pub record Record : Type 0 where
  pub state : State
  pub key : Key
  -- the number of the next draw, and the draws that are held, newest first
  pub next : ℕ
  pub held : List ℕ
  -- how many sheets were sealed and draws voided, and the current draw, that of the newest sheet
  pub sealed : ℕ
  pub voided : ℕ
  pub current : Option ℕ

abbrev pub no_key : Key
no_key = record { first = 0; second = 0 }

-- a record's fields in their order
abbrev pub row : State → Key → ℕ → List ℕ → ℕ → ℕ → Option ℕ → Record
row s k n ds x v d = record { state = s; key = k; next = n; held = ds; sealed = x; voided = v; current = d }

abbrev pub free : Record
free = row Free no_key 0 [] 0 0 None

abbrev pub Table : Type 0
Table = List Record

abbrev pub new : Table
new = replicate 256 free

abbrev pub grave : Table → ℕ → Record
grave t g = slice_index_or t g free

-- What the tests ask.

abbrev pub is_free : State → Bool
is_free Free = true
is_free (Open n) = false
is_free Locked = false
is_free Closed = false

abbrev pub free_or_closed : State → Bool
free_or_closed Free = true
free_or_closed (Open n) = false
free_or_closed Locked = false
free_or_closed Closed = true

abbrev pub is_locked : State → Bool
is_locked Free = false
is_locked (Open n) = false
is_locked Locked = true
is_locked Closed = false

abbrev pub same_key : Key → Key → Bool
same_key j k = j.first == k.first && j.second == k.second

-- some grave that is not free has the key
abbrev pub is_used : Table → Key → Bool
is_used [] k = false
is_used (r ∷ rs) k = (not (is_free r.state) && same_key r.key k) || is_used rs k

-- The grave's record after a call that is not refused, and after a false seal.

abbrev pub after_open : Key → Record → Record
after_open k r = row (Open 0) k r.next r.held r.sealed r.voided r.current

abbrev pub after_draw : Record → Record
after_draw r = row r.state r.key (r.next + 1) (r.next ∷ r.held) r.sealed r.voided r.current

abbrev pub after_seal : ℕ → Record → Record
after_seal d r = row r.state r.key r.next (without d r.held) (r.sealed + 1) r.voided (Some d)

abbrev pub after_void : ℕ → Record → Record
after_void d r = row r.state r.key r.next (without d r.held) r.sealed (r.voided + 1) r.current

abbrev pub with_state : State → Record → Record
with_state s r = row s r.key r.next r.held r.sealed r.voided r.current

abbrev pub after_clear : Record → Record
after_clear r = with_state (Open 0) r

-- the state in use with n false seals: the fourth locks
abbrev pub in_use_with : ℕ → State
in_use_with n = cond (nat_lt n 4) (Open n) Locked

abbrev pub one_more : State → State
one_more Free = Free
one_more (Open n) = in_use_with (n + 1)
one_more Locked = Locked
one_more Closed = Closed

abbrev pub after_false_seal : Record → Record
after_false_seal r = with_state (one_more r.state) r

abbrev pub after_close : Record → Record
after_close r = row Closed r.key r.next [] r.sealed (r.voided + length r.held) r.current

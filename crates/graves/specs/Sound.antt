-- What holds of every record that can exist. Assumes nothing.
use Rattle.std.specs.Prelude.{◌≡◌, ℕ, ◌+◌, ◌≤◌, Bool, true, not, ◌&&◌, List, [], ◌∷◌, length, nat_lt}
use Rattle.promise.specs.Draws.{holds}
use Rattle.graves.specs.declared.entry.Entry.{Entry}
use Rattle.graves.specs.Held.{draws}

abbrev pub all_different : List ℕ → Bool
all_different [] = true
all_different (d ∷ ds) = not (holds d ds) && all_different ds

abbrev pub all_below : ℕ → List ℕ → Bool
all_below n [] = true
all_below n (d ∷ ds) = nat_lt d n && all_below n ds

-- no draw is held twice, and none that was not handed out
abbrev pub held_soundly : Entry → Bool
held_soundly e = all_different (draws e.held) && all_below e.next (draws e.held)

abbrev pub handed_out : Entry → ℕ
handed_out e = (e.sealed + e.voided) + length (draws e.held)

-- a held draw was given up here, and is not counted as sealed or voided yet
pub record Uncounted (e : Entry) : Type 0 where
  pub soundly : held_soundly e ≡ true
  pub one_short : handed_out e + 1 ≡ e.next
  pub few : e.next ≤ 1000000

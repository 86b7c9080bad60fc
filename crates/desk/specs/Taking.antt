-- A draw taken out of the hand. Assumes nothing.
use Rattle.std.specs.Prelude.{◌≡◌, ℕ, true, false, List, Some, None, Option}
use Rattle.book.specs.declared.calls.Draw.{Draw}
use Rattle.desk.specs.Hands.{draw_of, in_hand, without}

-- that draw taken out, with what is then left; or none, and the hand is left as it was
abbrev pub Taken : ℕ → ℕ → List Draw → Option Draw → List Draw → Type 0
Taken g n hand (Some d) left = (d ≡ draw_of g n) × (in_hand g n hand ≡ true) × (left ≡ without g n hand)
Taken g n hand None left = (in_hand g n hand ≡ false) × (left ≡ hand)

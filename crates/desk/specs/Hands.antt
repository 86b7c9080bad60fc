-- The draws in hand, oldest first. Assumes nothing.
use Rattle.std.specs.Prelude.{ℕ, Bool, false, cond, ◌&&◌, ◌||◌, List, [], ◌∷◌, ◌++◌, Ok, Err, Result, ◌==◌}
use Rattle.refusal.specs.declared.Refusal.{Refusal}
use Rattle.book.specs.declared.calls.Draw.{Draw}

-- draw n of grave g
abbrev pub draw_of : ℕ → ℕ → Draw
draw_of g n = record { grave = g; number = n }

abbrev pub is_draw : ℕ → ℕ → Draw → Bool
is_draw g n d = d.grave == g && d.number == n

abbrev pub in_hand : ℕ → ℕ → List Draw → Bool
in_hand g n [] = false
in_hand g n (d ∷ ds) = is_draw g n d || in_hand g n ds

-- the hand with the first such draw left out
abbrev pub without : ℕ → ℕ → List Draw → List Draw
without g n [] = []
without g n (d ∷ ds) = cond (is_draw g n d) ds (d ∷ without g n ds)

-- one draw more
abbrev pub with_draw : ℕ → ℕ → List Draw → List Draw
with_draw g n hand = hand ++ (draw_of g n ∷ [])

-- the hand after a draw at grave g was answered so: a draw that was handed out is in hand
abbrev pub after_draw : ℕ → Result ℕ Refusal → List Draw → List Draw
after_draw g (Ok n) hand = with_draw g n hand
after_draw g (Err w) hand = hand

-- the hand after a seal under draw n of grave g was answered so: the draw is spent, or comes back
abbrev pub after_seal : ℕ → ℕ → Result ℕ Refusal → List Draw → List Draw
after_seal g n (Ok s) hand = without g n hand
after_seal g n (Err w) hand = with_draw g n (without g n hand)

-- The steps of Noekeon, each a change of four words. Assumes nothing.
use Rattle.std.specs.Prelude.{ℕ, ◌-◌, ◌^◌, bit_and}
use Rattle.cipher.specs.Words.{◌⊕◌, left, right}
use Rattle.noekeon.specs.declared.Words.{Words}

-- theta: the sum of the words 0 and 2, spread, goes into the words 1 and 3; each key word into its word; and the sum
-- of the words 1 and 3, spread, into the words 0 and 2
abbrev pub spread_of : ℕ → ℕ
spread_of u = u ⊕ left 8 u ⊕ right 8 u

abbrev pub into_odd : ℕ → Words → Words
into_odd t a = record { a0 = a.a0; a1 = a.a1 ⊕ t; a2 = a.a2; a3 = a.a3 ⊕ t }

abbrev pub into_even : ℕ → Words → Words
into_even t a = record { a0 = a.a0 ⊕ t; a1 = a.a1; a2 = a.a2 ⊕ t; a3 = a.a3 }

abbrev pub keyed : Words → Words → Words
keyed k a = record { a0 = a.a0 ⊕ k.a0; a1 = a.a1 ⊕ k.a1; a2 = a.a2 ⊕ k.a2; a3 = a.a3 ⊕ k.a3 }

abbrev pub evens_spread : Words → Words
evens_spread a = into_odd (spread_of (a.a0 ⊕ a.a2)) a

abbrev pub odds_spread : Words → Words
odds_spread a = into_even (spread_of (a.a1 ⊕ a.a3)) a

unfoldable pub theta_of : Words → Words → Words
theta_of k a = odds_spread (keyed k (evens_spread a))

-- pi1 and pi2: rotations, which undo each other
unfoldable pub pi1_of : Words → Words
pi1_of a = record { a0 = a.a0; a1 = left 1 a.a1; a2 = left 5 a.a2; a3 = left 2 a.a3 }

unfoldable pub pi2_of : Words → Words
pi2_of a = record { a0 = a.a0; a1 = right 1 a.a1; a2 = right 5 a.a2; a3 = right 2 a.a3 }

-- every bit of a word turned over
abbrev pub flipped : ℕ → ℕ
flipped x = 2 ^ 32 - 1 - x

-- gamma: two products go into the words 1 and 0; the words 0 and 3 are exchanged, and their sum and word 1 go into
-- word 2; and two products again
abbrev pub nor_into_1 : Words → Words
nor_into_1 a = record { a0 = a.a0; a1 = a.a1 ⊕ bit_and (flipped a.a3) (flipped a.a2); a2 = a.a2; a3 = a.a3 }

abbrev pub and_into_0 : Words → Words
and_into_0 a = record { a0 = a.a0 ⊕ bit_and a.a2 a.a1; a1 = a.a1; a2 = a.a2; a3 = a.a3 }

abbrev pub exchanged : Words → Words
exchanged a = record { a0 = a.a3; a1 = a.a1; a2 = a.a2 ⊕ (a.a3 ⊕ a.a1 ⊕ a.a0); a3 = a.a0 }

unfoldable pub gamma_of : Words → Words
gamma_of a = and_into_0 (nor_into_1 (exchanged (and_into_0 (nor_into_1 a))))

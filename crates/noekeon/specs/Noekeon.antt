-- Noekeon in direct-key mode: sixteen rounds, each with its constant, and a last step. Assumes nothing.
use Rattle.std.specs.Prelude.{ℕ, zero, suc, ◌+◌, ◌*◌, ◌/◌, ◌%◌, ◌^◌, cond, List, [], ◌∷◌, fold, nat_lt}
use Rattle.cipher.specs.declared.Block.{Block}
use Rattle.cipher.specs.declared.Key.{Key}
use Rattle.cipher.specs.Words.{◌⊕◌}
use Rattle.noekeon.specs.declared.Words.{Words}
use Rattle.noekeon.specs.Steps.{theta_of, pi1_of, gamma_of, pi2_of}

-- each constant is the double of the one before, brought back to a byte where it passes 0xff
abbrev pub doubled : ℕ → ℕ
doubled c = cond (nat_lt 0xff (2 * c)) ((2 * c) ⊕ 0x11b) (2 * c)

abbrev pub constant : ℕ → ℕ
constant zero = 0x80
constant (suc r) = doubled (constant r)

-- the constants of n rounds, from round r on
abbrev pub constants : ℕ → ℕ → List ℕ
constants zero r = []
constants (suc n) r = constant r ∷ constants n (suc r)

abbrev pub with_constant : ℕ → Words → Words
with_constant c a = record { a0 = a.a0 ⊕ c; a1 = a.a1; a2 = a.a2; a3 = a.a3 }

unfoldable pub round_of : Words → Words → ℕ → Words
round_of k a c = pi2_of (gamma_of (pi1_of (theta_of k (with_constant c a))))

abbrev pub rounds_of : Words → Words → List ℕ → Words
rounds_of k a cs = fold (round_of k) a cs

unfoldable pub enciphered_of : Words → Words → Words
enciphered_of k a = theta_of k (with_constant (constant 16) (rounds_of k a (constants 16 0)))

-- words are the halves of the two numbers, the high one first
abbrev pub words_of : ℕ → ℕ → Words
words_of first second =
    record { a0 = first / 2 ^ 32; a1 = first % 2 ^ 32; a2 = second / 2 ^ 32; a3 = second % 2 ^ 32 }

abbrev pub block_of : Words → Block
block_of a = record { first = a.a0 * 2 ^ 32 + a.a1; second = a.a2 * 2 ^ 32 + a.a3 }

unfoldable pub noekeon : Key → Block → Block
noekeon k b = block_of (enciphered_of (words_of k.first k.second) (words_of b.first b.second))

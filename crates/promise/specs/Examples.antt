-- A book's answers in one small case, as the rules define them. Assumes nothing.
use Rattle.std.specs.Prelude.{◌≡◌, ℕ, ◌+◌, ◌-◌, ◌^◌, List, [], ◌∷◌}
use Rattle.field.specs.Modular.{modulo}
use Rattle.cipher.specs.declared.Key.{Key}
use Rattle.refusal.specs.Outcomes.{Outcome, gives, refuses}
use Rattle.seal.specs.Sealing.{Sealing}
use Rattle.seal.specs.Seals.{sealing}
use Rattle.promise.specs.History.{Call, to_open, to_draw, to_seal, to_void, to_check, to_clear, to_close}
use Rattle.promise.specs.History.{Given, current, superseded}
use Rattle.promise.specs.Register.{answer}
use Rattle.promise.specs.Runs.{left_by}

-- a cipher that adds its key's first number, to see the numbers: no cipher to use
abbrev pub adding : Sealing
adding = sealing (modulo (2 ^ 61 - 1)) (λ key block. record { first = key.first + block.first; second = 0 })

abbrev pub key_of : ℕ → Key
key_of n = record { first = n; second = 0 }

-- the answer to a call on a new book after these calls, newest first
abbrev pub Answers : List Call → (c : Call) → Outcome (Given c) → Type 0
Answers before c o = answer adding (left_by adding before) c ≡ o

-- grave 7 has key 3 and hands out draw 0; the text of one byte, 5, has the hash 5 · 3 + 1
abbrev pub drawn_once : List Call
drawn_once = to_draw 7 ∷ to_open 7 (key_of 3) ∷ []

abbrev pub sealing_5 : Call
sealing_5 = to_seal 7 0 (5 ∷ []) 1

abbrev pub sealed_once : List Call
sealed_once = sealing_5 ∷ drawn_once

-- a check of that text under draw d of grave g
abbrev pub checking : ℕ → ℕ → ℕ → Call
checking g d seal = to_check g (record { draw = d; text = 5 ∷ []; seal = seal }) 1

abbrev pub true_check : Call
true_check = checking 7 0 (2 ^ 63 + 19)

-- after those calls, four false seals at grave g
abbrev pub four_wrong : ℕ → List Call → List Call
four_wrong g before = checking g 0 1 ∷ checking g 0 2 ∷ checking g 0 3 ∷ checking g 0 4 ∷ before

abbrev pub four_held : List Call
four_held = to_draw 9 ∷ to_draw 9 ∷ to_draw 9 ∷ to_draw 9 ∷ to_open 9 (key_of 1) ∷ []

pub record Examples : Type 0 where
  pub sealed : Answers drawn_once sealing_5 (gives (2 ^ 63 + 19))
  pub passes : Answers sealed_once true_check (gives current)
  pub supersedes : Answers (to_seal 7 1 [] 1 ∷ to_draw 7 ∷ sealed_once) true_check (gives superseded)
  pub one_sheet : Answers sealed_once sealing_5 (refuses 8)
  pub wrong_seal : Answers sealed_once (checking 7 0 1) (refuses 12)
  pub wrong_draw : Answers sealed_once (checking 7 1 1) (refuses 11)
  pub bears_three :
      Answers (checking 7 0 1 ∷ checking 7 0 2 ∷ checking 7 0 3 ∷ sealed_once) true_check (gives current)
  pub locks : Answers (four_wrong 7 sealed_once) true_check (refuses 5)
  pub clears : Answers (to_clear 7 ∷ four_wrong 7 sealed_once) true_check (gives current)
  pub locks_one : Answers (four_wrong 8 (to_draw 8 ∷ to_open 8 (key_of 4) ∷ sealed_once)) true_check (gives current)
  pub closes : Answers (to_close 7 ∷ sealed_once) true_check (refuses 4)
  pub keeps_its_key : Answers (to_close 7 ∷ sealed_once) (to_open 8 (key_of 3)) (refuses 3)
  pub holds_four : Answers four_held (to_draw 9) (refuses 6)
  pub voids_one : Answers (to_void 9 1 ∷ four_held) (to_draw 9) (gives 4)

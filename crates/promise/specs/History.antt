-- What happened at a book: the calls and the answers that were heard, newest first. Assumes nothing.
use Rattle.std.specs.Prelude.{ℕ, cond, List, [], ◌∷◌, ◌==◌}
use Rattle.cipher.specs.declared.Key.{Key}
use Rattle.refusal.specs.Outcomes.{Outcome, gives, refuses}

-- a text under a draw, with its seal, as it is written down
pub record Sheet : Type 0 where
  pub draw : ℕ
  pub text : List ℕ
  pub seal : ℕ

-- the calls with all that they are given; places is the length of the ring that the subkeys are put into
pub data Call : Type 0 where
  to_open : (grave : ℕ) (key : Key) → Call
  to_draw : (grave : ℕ) → Call
  to_seal : (grave draw : ℕ) (text : List ℕ) (places : ℕ) → Call
  to_void : (grave draw : ℕ) → Call
  to_check : (grave : ℕ) (sheet : Sheet) (places : ℕ) → Call
  to_clear : (grave : ℕ) → Call
  to_close : (grave : ℕ) → Call

pub data Standing : Type 0 where
  current : Standing
  superseded : Standing

-- what a call gives where it is not refused: draw a number, seal a seal, check a standing, and the others nothing
abbrev pub Given : Call → Type 0
Given (to_open g k) = Unit {0}
Given (to_draw g) = ℕ
Given (to_seal g d x p) = ℕ
Given (to_void g d) = Unit {0}
Given (to_check g s p) = Standing
Given (to_clear g) = Unit {0}
Given (to_close g) = Unit {0}

-- what a call did at its grave
pub data Act : Type 0 where
  opened : (key : Key) → Act
  drawn : (draw : ℕ) → Act
  sealed : Sheet → Act
  voided : (draw : ℕ) → Act
  checked : Sheet → (places : ℕ) → Outcome Standing → Act
  cleared : Act
  closed : Act

pub data Event : Type 0 where
  on : (grave : ℕ) → Act → Event
  turned_away : (refusal : ℕ) → Event

-- a call and its answer: a check is an act whatever it answers, any other call only where it is not refused
abbrev pub event : (c : Call) → Outcome (Given c) → Event
event (to_open g k) (gives u) = on g (opened k)
event (to_open g k) (refuses n) = turned_away n
event (to_draw g) (gives d) = on g (drawn d)
event (to_draw g) (refuses n) = turned_away n
event (to_seal g d x p) (gives t) = on g (sealed (record { draw = d; text = x; seal = t }))
event (to_seal g d x p) (refuses n) = turned_away n
event (to_void g d) (gives u) = on g (voided d)
event (to_void g d) (refuses n) = turned_away n
event (to_check g s p) o = on g (checked s p o)
event (to_clear g) (gives u) = on g cleared
event (to_clear g) (refuses n) = turned_away n
event (to_close g) (gives u) = on g closed
event (to_close g) (refuses n) = turned_away n

abbrev pub History : Type 0
History = List Event

-- what was done at grave g
abbrev pub acts : ℕ → History → List Act
acts g [] = []
acts g (on i a ∷ es) = cond (i == g) (a ∷ acts g es) (acts g es)
acts g (turned_away n ∷ es) = acts g es

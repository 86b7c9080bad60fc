-- What a call leaves where it was to write one value. Assumes nothing.
use Rattle.refusal.specs.Outcomes.{Outcome, gives, refuses}

-- a value takes the old one's place, and a refusal leaves it
abbrev pub value_after : {A : Type 0} → Outcome A → A → A
value_after (gives x) old = x
value_after (refuses n) old = old

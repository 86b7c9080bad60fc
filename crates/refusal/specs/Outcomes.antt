-- What a call answers, in the words of the rules: a value, or a refusal's number. Assumes nothing.
use Rattle.std.specs.Prelude.{ℕ, Bool, cond, List, [], ◌∷◌, Ok, Err, Result}
use Rattle.refusal.specs.declared.Refusal.{Refusal}
use Rattle.refusal.specs.Numbers.{number_of}

pub data Outcome (A : Type 0) : Type 0 where
  gives : A → Outcome A
  refuses : ℕ → Outcome A

-- the outcome that an answer of the code stands for; the numbers differ from case to case, so it pins the answer
abbrev pub told : {A : Type 0} → Result A Refusal → Outcome A
told (Ok x) = gives x
told (Err r) = refuses (number_of r)

-- the outcome with its value turned into another
abbrev pub mapped : {A B : Type 0} → (A → B) → Outcome A → Outcome B
mapped f (gives x) = gives (f x)
mapped f (refuses n) = refuses n

-- a refusal stands, and a value is gone on with
abbrev pub then : {A B : Type 0} → Outcome A → (A → Outcome B) → Outcome B
then (gives x) next = next x
then (refuses n) next = refuses n

infix 70 ◌when◌
-- a cause of refusal: the refusal's number, and whether the cause is there
pub record Cause : Type 0 where
  pub number : ℕ
  pub there : Bool

abbrev pub ◌when◌ : ℕ → Bool → Cause
n when b = record { number = n; there = b }

-- the first cause that is there decides; where none is, the outcome is the one given
abbrev pub decided : {A : Type 0} → List Cause → Outcome A → Outcome A
decided [] o = o
decided (c ∷ cs) o = cond c.there (refuses c.number) (decided cs o)

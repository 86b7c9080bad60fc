-- What the code read of a line, but where memory was lacking. Assumes nothing.
use Rattle.std.specs.Prelude.{◌≡◌, ℕ, List, Ok, Err, Result}
use Rattle.script.specs.declared.fault.Fault.{Fault}
use Rattle.script.specs.declared.fault.Fault.TheVariants.{Memory, NotACall}
use Rattle.script.specs.declared.reason.Reason.{Reason}

abbrev pub Failed : {B : Type 0} → Fault → Result B Reason → Type 0
Failed Memory o = Unit {0}
Failed (NotACall w) o = Err w ≡ o

abbrev pub Heard : {A B : Type 0} → (A → B) → Result A Fault → Result B Reason → Type 0
Heard f (Ok x) o = Ok (f x) ≡ o
Heard f (Err e) o = Failed e o

-- what the code read of a line where it needed no memory, and what it left of the line
abbrev pub seen : {A B : Type 0} → (A → B) → Result A Reason → List ℕ → Result (B × List ℕ) Reason
seen f (Ok x) rest = Ok (f x, rest)
seen f (Err w) rest = Err w

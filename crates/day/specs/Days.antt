-- A line of the script, answered. Assumes nothing.
use Rattle.std.specs.Prelude.{◌≡◌, ℕ, Some, None, Ok, Err, Option, Result}
use Rattle.std.specs.declared.alloc.AllocError.{AllocError}
use Rattle.std.specs.Option.{option_map}
use Rattle.script.specs.declared.reason.Reason.{Reason}
use Rattle.script.specs.Lines.{Ask, Said, nothing, a_book, a_ring, a_call}
use Rattle.day.specs.declared.Day.{Day}
use Rattle.day.specs.declared.answer.Answer.{Answer}
use Rattle.day.specs.declared.answer.Answer.TheVariants as is
use Rattle.day.specs.Offices.{DeskState, desk_of, new_desk}
use Rattle.day.specs.Calls.{Made}

-- the desk of the current book, if there is one, and the places that calls are lent
pub record Now : Type 0 where
  pub desk : Option DeskState
  pub places : ℕ

abbrev pub now_at : Day → Now
now_at d = record { desk = option_map desk_of d.office; places = d.places.count }

-- a call at the current desk
abbrev pub MadeAt : Option DeskState → Ask → ℕ → Answer → Option DeskState → Type 0
MadeAt None q p a o = (a ≡ is.NoBook) × (o ≡ None)
MadeAt (Some d) q p a o = (d' : DeskState) × (o ≡ Some d') × Made d q p a d'

-- that, and the places stay; without memory nothing changes
abbrev pub Ran : Now → Ask → Result Answer AllocError → Now → Type 0
Ran n q (Ok a) n' = MadeAt n.desk q n.places a n'.desk × (n'.places ≡ n.places)
Ran n q (Err e) n' = n' ≡ n

-- what a line says decides its answer and what is there afterwards
abbrev pub Answered : Now → Result Said Reason → Option Answer → Now → Type 0
Answered n (Err w) a n' = (a ≡ Some (is.NotACall w)) × (n' ≡ n)
Answered n (Ok nothing) a n' = (a ≡ None) × (n' ≡ n)
Answered n (Ok (a_book f c)) a n' =
    (a ≡ Some is.Done) × (n' ≡ record { desk = Some (new_desk f c); places = n.places })
Answered n (Ok (a_ring p)) a n' = (a ≡ Some is.Done) × (n' ≡ record { desk = n.desk; places = p })
Answered n (Ok (a_call q)) a n' = (b : Answer) × (a ≡ Some b) × Ran n q (Ok b) n'

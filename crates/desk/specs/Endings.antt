-- A book whose draws in hand are given to void, one after the other. Assumes nothing.
use Rattle.std.specs.Prelude.{List, [], ◌∷◌}
use Rattle.seal.specs.Sealing.{Sealing}
use Rattle.promise.specs.History.{Call, event, History, to_void}
use Rattle.promise.specs.Records.{Table}
use Rattle.promise.specs.Register.{answer, table}
use Rattle.book.specs.declared.calls.Draw.{Draw}

abbrev pub voiding : Draw → Call
voiding d = to_void d.grave d.number

-- the table after these draws were given to void, the first of them first
abbrev pub all_voided : Sealing → List Draw → Table → Table
all_voided S [] t = t
all_voided S (d ∷ ds) t = all_voided S ds (table S t (voiding d))

-- what had happened, and then those voids
abbrev pub and_voids : Sealing → List Draw → Table → History → History
and_voids S [] t h = h
and_voids S (d ∷ ds) t h =
    and_voids S ds (table S t (voiding d)) (event (voiding d) (answer S t (voiding d)) ∷ h)

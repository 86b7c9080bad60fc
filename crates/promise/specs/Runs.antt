-- What is heard when calls are made on a new book, newest first, and the table that they leave. Assumes nothing.
use Rattle.std.specs.Prelude.{List, [], ◌∷◌}
use Rattle.seal.specs.Sealing.{Sealing}
use Rattle.promise.specs.History.{Call, event, History}
use Rattle.promise.specs.Records.{Table, new}
use Rattle.promise.specs.Register.{answer, table}

abbrev pub left_by : Sealing → List Call → Table
left_by S [] = new
left_by S (c ∷ cs) = table S (left_by S cs) c

abbrev pub heard : Sealing → List Call → History
heard S [] = []
heard S (c ∷ cs) = event c (answer S (left_by S cs) c) ∷ heard S cs

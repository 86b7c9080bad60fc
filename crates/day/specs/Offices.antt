-- The desk of a book, over the field and the cipher that its line named. Assumes nothing.
use Rattle.std.specs.Prelude.{[]}
use Rattle.m61.specs.Mersenne.{m61}
use Rattle.b63.specs.Binary.{b63}
use Rattle.ciphers.specs.declared.CipherName.{CipherName}
use Rattle.ciphers.specs.Ciphers.{function_of}
use Rattle.fields.specs.declared.FieldName.{FieldName}
use Rattle.fields.specs.declared.FieldName.TheVariants.{M61, B63}
use Rattle.fields.specs.Names.{model_of}
use Rattle.seal.specs.Seals.{sealing}
use Rattle.promise.specs.Records.{new}
use Rattle.desk.specs.Desks.{State, state}
use Rattle.day.specs.declared.office.Office.{Office}
use Rattle.day.specs.declared.office.Office.TheVariants as over

-- what is there of an office: a desk's state, its field and its cipher by name
abbrev pub DeskState : Type 0
DeskState = State FieldName CipherName

abbrev pub named : {F C : Type 0} → FieldName → State F C → State FieldName C
named f d = record {
  book = record { field = f; cipher = d.book.cipher; sealing = d.book.sealing; table = d.book.table };
  hand = d.hand;
}

abbrev pub desk_of : Office → DeskState
desk_of (over.M61 d) = named M61 (state m61 function_of d)
desk_of (over.B63 d) = named B63 (state b63 function_of d)

-- a new book, and no draw in hand
abbrev pub new_desk : FieldName → CipherName → DeskState
new_desk f c = record {
  book = record { field = f; cipher = c; sealing = sealing (model_of f) (function_of c); table = new };
  hand = [];
}

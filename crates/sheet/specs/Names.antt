-- What the code's own types stand for. Assumes nothing.
use Rattle.std.specs.Prelude.{ℕ, List}
use Rattle.sheet.specs.declared.Draft.{Draft}
use Rattle.sheet.specs.declared.Read.{Read}
use Rattle.sheet.specs.declared.Sheet.{Sheet}
use Rattle.sheet.specs.Sheets.{SealedSheet}

abbrev pub sealed : ℕ → ℕ → ℕ → List ℕ → SealedSheet
sealed g d s bytes = record { grave = g; draw = d; seal = s; text = bytes }

-- a sheet to be written
abbrev pub drafted : Draft → SealedSheet
drafted d = sealed d.grave d.draw d.seal d.text.now

-- what the code answers, its references read
abbrev pub sheet_seen : Sheet → SealedSheet
sheet_seen s = sealed s.grave s.draw s.seal s.text.now

abbrev pub all_seen : Read → SealedSheet × List ℕ
all_seen r = (sheet_seen r.sheet, r.rest.now)

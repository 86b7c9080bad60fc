-- What a writer does to a buffer, and how writing and reading belong together. Assumes nothing.
use Rattle.std.specs.Prelude.{◌≡◌, ℕ, ◌+◌, ◌≤◌, List, [], ◌∷◌, ◌++◌, length, take, drop, nat_lt}
use Rattle.refusal.specs.Outcomes.{Cause, ◌when◌, Outcome, gives, refuses, decided}
use Rattle.sheet.specs.Sheets.{SealedSheet, sheet_bytes, limit_causes, read_outcome}

-- into a buffer of so many bytes
abbrev pub write_causes : SealedSheet → ℕ → List Cause
write_causes s room = limit_causes s.grave s.text ++ 16 when nat_lt room (length (sheet_bytes s)) ∷ []

abbrev pub write_outcome : SealedSheet → ℕ → Outcome ℕ
write_outcome s room = decided (write_causes s room) (gives (length (sheet_bytes s)))

-- the record in front, and beyond it what was there; a refusal leaves all
abbrev pub laid : List ℕ → List ℕ → Outcome ℕ → List ℕ
laid bytes old (gives n) = bytes ++ drop n old
laid bytes old (refuses n) = old

abbrev pub buffer_after : SealedSheet → List ℕ → List ℕ
buffer_after s old = laid (sheet_bytes s) old (write_outcome s (length old))

-- whatever stands behind the bytes, a reader takes them for the sheet, and the rest for the rest
abbrev pub ReadsBack : List ℕ → SealedSheet → Type 0
ReadsBack bytes s = (behind : List ℕ) → read_outcome (bytes ++ behind) ≡ gives (s, behind)

-- a writer takes the sheet, and writes what stands in front of the rest
pub record WritesBack (bytes : List ℕ) (read : SealedSheet × List ℕ) : Type 0 where
  pub accepted : (room : ℕ) → length (sheet_bytes read.0) ≤ room
      → write_outcome read.0 room ≡ gives (length (sheet_bytes read.0))
  pub same : bytes ≡ sheet_bytes read.0 ++ read.1

-- the bytes from place i on in place of as many old ones
abbrev pub put_at : List ℕ → ℕ → List ℕ → List ℕ
put_at old i bytes = take i old ++ (bytes ++ drop (i + length bytes) old)

-- What is told of a sheet that was read, and where its text lies in the input. Assumes nothing.
use Rattle.std.specs.Prelude.{◌≡◌, ℕ, ◌+◌, ◌≤◌, List, length, take, drop}
use Rattle.refusal.specs.Outcomes.{Outcome, gives, refuses}
use Rattle.sheet.specs.Sheets.{SealedSheet, sheet_bytes}
use Rattle.hemmuzhan.specs.declared.sheets.Found.{Found}

-- the bytes of a record before its text
abbrev pub before_text : ℕ
before_text = 24

abbrev pub grave_read : SealedSheet × List ℕ → ℕ
grave_read read = read.0.grave

abbrev pub draw_read : SealedSheet × List ℕ → ℕ
draw_read read = read.0.draw

abbrev pub seal_read : SealedSheet × List ℕ → ℕ
seal_read read = read.0.seal

abbrev pub text_length_read : SealedSheet × List ℕ → ℕ
text_length_read read = length read.0.text

-- the parts that the code gives
abbrev pub found_in : SealedSheet × List ℕ → Found
found_in read = record {
  grave = grave_read read;
  draw = draw_read read;
  seal = seal_read read;
  text_length = text_length_read read;
}

-- the text begins behind the first 24 bytes of the input, all of it is there, and the rest follows it
pub record LiesIn (input : List ℕ) (read : SealedSheet × List ℕ) : Type 0 where
  pub whole : before_text + text_length_read read ≤ length input
  pub text : read.0.text ≡ take (text_length_read read) (drop before_text input)
  pub rest : read.1 ≡ drop (before_text + text_length_read read) input

abbrev pub Placed : List ℕ → Outcome (SealedSheet × List ℕ) → Type 0
Placed input (gives read) = LiesIn input read
Placed input (refuses n) = Unit {0}

abbrev pub RecordLength : SealedSheet → Type 0
RecordLength s = length (sheet_bytes s) ≡ before_text + length s.text

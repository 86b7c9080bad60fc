-- A sealed sheet, its record of kind 1, and what a reader makes of an input. Assumes nothing.
use Rattle.std.specs.Prelude.{ℕ, not, List, [], ◌∷◌, ◌++◌, length, take, drop, Some, None, Option, ◌==◌, nat_lt}
use Rattle.refusal.specs.Outcomes.{Cause, ◌when◌, Outcome, gives, refuses, decided}
use Rattle.byte_rows.specs.Limits.{longest_text}
use Rattle.byte_rows.specs.Numbers.{number, bytes_of}
use Rattle.record.specs.Records.{Parts, record_of, record_bytes}

pub record SealedSheet : Type 0 where
  pub grave : ℕ
  pub draw : ℕ
  pub seal : ℕ
  pub text : List ℕ

abbrev pub sheet_kind : ℕ
sheet_kind = 1

abbrev pub highest_grave : ℕ
highest_grave = 255

-- what follows the kind: grave, draw, seal and text
abbrev pub sheet_body : SealedSheet → List ℕ
sheet_body s = bytes_of 2 s.grave ++ (bytes_of 8 s.draw ++ (bytes_of 8 s.seal ++ s.text))

abbrev pub sheet_bytes : SealedSheet → List ℕ
sheet_bytes s = record_bytes sheet_kind (sheet_body s)

-- the parts in a body that has them
abbrev pub sheet_in : List ℕ → SealedSheet
sheet_in body = record {
  grave = number (take 2 body);
  draw = number (take 8 (drop 2 body));
  seal = number (take 8 (drop 10 body));
  text = drop 18 body;
}

-- against a grave and a text
abbrev pub limit_causes : ℕ → List ℕ → List Cause
limit_causes g bytes = 1 when nat_lt highest_grave g ∷ 9 when nat_lt longest_text (length bytes) ∷ []

abbrev pub body_causes : List ℕ → List Cause
body_causes body = 14 when nat_lt (length body) 18 ∷ limit_causes (sheet_in body).grave (sheet_in body).text

abbrev pub read_causes : ℕ → List ℕ → List Cause
read_causes kind body = 15 when not (kind == sheet_kind) ∷ body_causes body

-- the sheet and what follows it
abbrev pub heard : Option Parts → Outcome (SealedSheet × List ℕ)
heard None = refuses 14
heard (Some r) = decided (read_causes r.kind r.body) (gives (sheet_in r.body, r.rest))

abbrev pub read_outcome : List ℕ → Outcome (SealedSheet × List ℕ)
read_outcome input = heard (record_of input)

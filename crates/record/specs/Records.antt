-- A record: a length of four bytes, which counts what follows it, a kind of two bytes, and the kind's own body.
-- Assumes nothing.
use Rattle.std.specs.Prelude.{ℕ, ◌+◌, ◌-◌, cond, ◌||◌, List, ◌++◌, length, take, drop, Some, None, Option, nat_lt}
use Rattle.byte_rows.specs.Numbers.{number, bytes_of}
use Rattle.record.specs.declared.Record.{Record}

pub record Parts : Type 0 where
  pub kind : ℕ
  -- what follows the kind within the record
  pub body : List ℕ
  -- what follows the record
  pub rest : List ℕ

-- what the length says
abbrev pub stated : List ℕ → ℕ
stated input = number (take 4 input)

-- the parts of the record at the front, where it is whole
abbrev pub front_parts : List ℕ → Parts
front_parts input = record {
  kind = number (take 2 (drop 4 input));
  body = take (stated input - 2) (drop 6 input);
  rest = drop (4 + stated input) input;
}

-- the record at the front of the input, unless its length or its kind is cut short
abbrev pub record_of : List ℕ → Option Parts
record_of input =
    cond (nat_lt (length input) 4 || nat_lt (length input) (4 + stated input) || nat_lt (stated input) 2) None
    (Some (front_parts input))

-- the bytes of a record
abbrev pub record_bytes : ℕ → List ℕ → List ℕ
record_bytes kind body = bytes_of 4 (2 + length body) ++ (bytes_of 2 kind ++ body)

-- what the code answers, its references read
abbrev pub parts : Option Record → Option Parts
parts None = None
parts (Some r) = Some (record { kind = r.kind; body = r.body.now; rest = r.rest.now })

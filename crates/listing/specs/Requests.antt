-- A record of kind 2 asks for a hash: a field byte, a count of subkeys, the subkeys, and the text. Assumes nothing.
use Rattle.std.specs.Prelude.{ℕ, zero, suc, ◌+◌, ◌*◌, not, ◌||◌, List, [], ◌∷◌, length, take, drop, is_some, ◌==◌, nat_lt, slice_index}
use Rattle.refusal.specs.Outcomes.{Cause, ◌when◌, Outcome, decided}
use Rattle.byte_rows.specs.Numbers.{number}
use Rattle.fields.specs.Fields.{field_called, hash_over_field}

abbrev pub hash_kind : ℕ
hash_kind = 2

abbrev pub most_subkeys : ℕ
most_subkeys = 8

-- n numbers of eight bytes
abbrev pub subkeys : ℕ → List ℕ → List ℕ
subkeys zero bytes = []
subkeys (suc n) bytes = number (take 8 bytes) ∷ subkeys n (drop 8 bytes)

-- the body's parts
abbrev pub field_byte : List ℕ → ℕ
field_byte body = slice_index body 0

abbrev pub count : List ℕ → ℕ
count body = slice_index body 1

abbrev pub ring : List ℕ → List ℕ
ring body = subkeys (count body) (drop 2 body)

abbrev pub text : List ℕ → List ℕ
text body = drop (2 + 8 * count body) body

abbrev pub request_causes : ℕ → List ℕ → List Cause
request_causes kind body =
    15 when not (kind == hash_kind)
    ∷ 14 when nat_lt (length body) 2
    ∷ 15 when (not (is_some (field_called (field_byte body))) || nat_lt most_subkeys (count body))
    ∷ 14 when nat_lt (length body) (2 + 8 * count body)
    ∷ []

abbrev pub request_outcome : ℕ → List ℕ → Outcome ℕ
request_outcome kind body =
    decided (request_causes kind body) (hash_over_field (field_called (field_byte body)) (ring body) (text body))

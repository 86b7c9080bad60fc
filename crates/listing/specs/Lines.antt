-- The listing of an input: a line for each record, until one is cut short. Assumes nothing.
use Rattle.std.specs.Prelude.{◌≡◌, ℕ, zero, suc, ◌+◌, ◌/◌, ◌%◌, Bool, false, cond, List, [], ◌∷◌, ◌++◌, length, Some, None, Option, ◌==◌, nat_lt}
use Rattle.std.specs.Borrow.{Bor}
use Rattle.refusal.specs.Numbers.{refused_line}
use Rattle.refusal.specs.Outcomes.{Outcome, gives, refuses}
use Rattle.record.specs.Records.{Parts, record_of}
use Rattle.listing.specs.Requests.{request_outcome}

-- the outcome of the record at the front of an input
abbrev pub heard : Option Parts → Outcome ℕ
heard None = refuses 14
heard (Some r) = request_outcome r.kind r.body

abbrev pub outcome_of : List ℕ → Outcome ℕ
outcome_of input = heard (record_of input)

abbrev pub cut_short : Outcome ℕ → Bool
cut_short (gives h) = false
cut_short (refuses n) = n == 14

-- where the next record begins; nothing is read behind a record that is cut short
abbrev pub behind : Option Parts → Option (List ℕ)
behind None = None
behind (Some r) = cond (cut_short (request_outcome r.kind r.body)) None (Some r.rest)

abbrev pub next_of : List ℕ → Option (List ℕ)
next_of input = behind (record_of input)

-- what the code answers of the next record, its reference read
abbrev pub seen : Option (Bor (List ℕ)) → Option (List ℕ)
seen None = None
seen (Some x) = Some x.now

-- a hexadecimal digit, in lower case
abbrev pub hex_digit : ℕ → ℕ
hex_digit d = cond (nat_lt d 10) (48 + d) (87 + d)

-- the k lowest hexadecimal digits of n, the highest first
abbrev pub hex : ℕ → ℕ → List ℕ
hex zero n = []
hex (suc k) n = hex k (n / 16) ++ hex_digit (n % 16) ∷ []

-- a line's bytes, with the newline
abbrev pub line_of : Outcome ℕ → List ℕ
line_of (gives h) = hex 16 h ++ 10 ∷ []
line_of (refuses n) = refused_line n ++ 10 ∷ []

abbrev pub continued : (List ℕ → List ℕ) → Option (List ℕ) → List ℕ
continued go_on None = []
continued go_on (Some rest) = go_on rest

-- the lines of an input, n at most
abbrev pub lines : ℕ → List ℕ → List ℕ
lines zero input = []
lines (suc n) [] = []
lines (suc n) (b ∷ bs) = line_of (outcome_of (b ∷ bs)) ++ continued (lines n) (next_of (b ∷ bs))

-- a record has at least six bytes, so an input has fewer lines than bytes
abbrev pub listing_of : List ℕ → List ℕ
listing_of input = lines (length input) input

-- the bound on the lines is never met: a listing is the first record's line and the listing of what follows
abbrev pub LineByLine : Type 0
LineByLine =
    (listing_of [] ≡ [])
    × ((b : ℕ) (bs : List ℕ)
    → listing_of (b ∷ bs) ≡ line_of (outcome_of (b ∷ bs)) ++ continued listing_of (next_of (b ∷ bs)))

-- A block's words and its number, read from its bytes and written to them. Assumes nothing.
use Rattle.std.proofs.Common.{◌≡◌, ℕ, ◌+◌, ◌*◌, ◌^◌, ◌<◌, ◌≤◌, List, length, get_or, take, drop, min, sym, ap, ◌∙◌, inl, inr, ◌-◌, lit<, arith}
use Rattle.std.proofs.lemmas.List.{get_or-take, get_or-drop, length-take, length-drop}
use Rattle.std.proofs.lemmas.Bool.{cases_lt}
use Rattle.std.proofs.lemmas.Bool.Decides.{nat_tests}
use Rattle.std.specs.Int.{w128, to_le_bytes, from_le_bytes}
use Rattle.chaskey.specs.declared.Words.{Words}
use Rattle.chaskey.specs.Order.{word_at, bytes_of, words_of as words_of_bytes}
use Rattle.vectors.specs.Mac.{word, words_of, number_of, byte_at, block_at}

pub words_read : (n : ℕ) → words_of_bytes (to_le_bytes w128 n) ≡ words_of n
words_read n =
    let bytes = to_le_bytes w128 n in
    let e0 : word_at 0 bytes ≡ word n 0 = omega arith in
    let e1 : word_at 4 bytes ≡ word n 32 = omega arith in
    let e2 : word_at 8 bytes ≡ word n 64 = omega arith in
    let e3 : word_at 12 bytes ≡ word n 96 = omega arith in
    cc

pub number_written : (v : Words) → v.v0 < 2 ^ 32 → v.v1 < 2 ^ 32 → v.v2 < 2 ^ 32 → v.v3 < 2 ^ 32
    → from_le_bytes w128 (bytes_of v) ≡ number_of v
number_written v h0 h1 h2 h3 = omega arith

-- the word of four bytes from place i on, and the block of sixteen
abbrev word_by : (ℕ → ℕ) → ℕ → ℕ
word_by b i = b i + b (i + 1) * 2 ^ 8 + b (i + 2) * 2 ^ 16 + b (i + 3) * 2 ^ 24

abbrev block_by : (ℕ → ℕ) → ℕ → ℕ
block_by b i = number_of record {
  v0 = word_by b i;
  v1 = word_by b (i + 4);
  v2 = word_by b (i + 8);
  v3 = word_by b (i + 12);
}

same_block : (b d : ℕ → ℕ) (i : ℕ) → ((k j : ℕ) → k ≡ i + j → j < 16 → b k ≡ d j) → block_by b i ≡ block_by d 0
same_block b d i same =
    let at : (k j : ℕ) → k ≡ i + j → j < 16 → b k ≡ d j = same in
    omega (
      arith,
      at i 0 (omega arith) (lit< tt),
      at (i + 1) 1 (omega arith) (lit< tt),
      at (i + 2) 2 (omega arith) (lit< tt),
      at (i + 3) 3 (omega arith) (lit< tt),
      at (i + 4) 4 (omega arith) (lit< tt),
      at (i + 4 + 1) 5 (omega arith) (lit< tt),
      at (i + 4 + 2) 6 (omega arith) (lit< tt),
      at (i + 4 + 3) 7 (omega arith) (lit< tt),
      at (i + 8) 8 (omega arith) (lit< tt),
      at (i + 8 + 1) 9 (omega arith) (lit< tt),
      at (i + 8 + 2) 10 (omega arith) (lit< tt),
      at (i + 8 + 3) 11 (omega arith) (lit< tt),
      at (i + 12) 12 (omega arith) (lit< tt),
      at (i + 12 + 1) 13 (omega arith) (lit< tt),
      at (i + 12 + 2) 14 (omega arith) (lit< tt),
      at (i + 12 + 3) 15 (omega arith) (lit< tt),
    )

-- the number of sixteen bytes
number_by : (bytes : List ℕ) → from_le_bytes w128 bytes ≡ block_by (λ i. get_or bytes i 0) 0
number_by bytes = omega arith

byte_in_part : (message part : List ℕ) (i k j : ℕ) → i ≤ length message → part ≡ take 16 (drop i message)
    → k ≡ i + j → j < 16 → byte_at message k ≡ byte_at part j
byte_in_part message part i k j within is place few =
    let long : length part ≡ min 16 (length message - i) =
    ap length is ∙ length-take 16 (drop i message) ∙ ap (min 16) (length-drop i message) in
    elim (cases_lt j (length part)) [
      | inl in_front ↦
          let here : k < length message = omega arith in
          let same : get_or message k 0 ≡ get_or part j 0 =
          ap (λ (n : ℕ). get_or message n 0) place
          ∙ sym (get_or-drop i message j 0)
          ∙ sym (get_or-take 16 (drop i message) j 0 few)
          ∙ sym (ap (λ (xs : List ℕ). get_or xs j 0) is) in
          grind (arith, nat_tests, in_front, here, same)
      | inr behind ↦
          let past : length message ≤ k = omega arith in
          let gap : k - length message ≡ j - length part = omega arith in
          grind (arith, nat_tests, behind, past, gap)
    ]

-- the number of the sixteen bytes that a part is filled up to
pub filled_block : (part bytes : List ℕ) → ((i : ℕ) → i < 16 → get_or bytes i 0 ≡ byte_at part i)
    → from_le_bytes w128 bytes ≡ block_at part 0
unfolding block_at
filled_block part bytes filled =
    number_by bytes
    ∙ same_block (λ i. get_or bytes i 0) (byte_at part) 0
    (λ k j place few. ap (λ (i : ℕ). get_or bytes i 0) (omega (arith, place)) ∙ filled j few)

-- a part's block is the message's at the part's place
pub block_of_part : (message part : List ℕ) (i : ℕ) → i ≤ length message → part ≡ take 16 (drop i message)
    → block_at message i ≡ block_at part 0
unfolding block_at
block_of_part message part i within is =
    same_block (byte_at message) (byte_at part) i (λ k j place few. byte_in_part message part i k j within is place few)

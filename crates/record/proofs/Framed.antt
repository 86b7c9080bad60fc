-- The record that the slice pattern and the split give is the one at the front of the input. Assumes nothing.
use Rattle.std.proofs.Common.{◌≡◌, ℕ, ◌+◌, ◌-◌, ◌≤◌, false, ltb, List, length, take, drop, Some, ap, ◌∙◌, arith}
use Rattle.std.proofs.lemmas.List.{take_rest, drop-drop}
use Rattle.std.proofs.lemmas.Bool.{le-ltb}
use Rattle.byte_rows.specs.Numbers.{number}
use Rattle.byte_rows.proofs.Places.{by_place, number_by_place}
use Rattle.record.specs.Records.{stated, record_of}

pub framed : (input : List ℕ) (kind len : ℕ) (body rest : List ℕ) → 6 ≤ length input
    → len ≡ by_place 4 0 input → kind ≡ by_place 2 4 input → 2 ≤ len → len - 2 ≤ length input - 6
    → body ≡ take (len - 2) (take (length input - 6) (drop 6 input))
    → rest ≡ drop (len - 2) (take (length input - 6) (drop 6 input))
    → Some (record { kind = kind; body = body; rest = rest }) ≡ record_of input
framed input kind len body rest six is_len is_kind two within is_body is_rest =
    let states : len ≡ stated input = is_len ∙ number_by_place 4 0 input (omega arith) in
    let names : kind ≡ number (take 2 (drop 4 input)) = is_kind ∙ number_by_place 2 4 input (omega arith) in
    let four = le-ltb (length input) 4 (omega arith) in
    let whole : ltb (length input) (4 + stated input) ≡ false = le-ltb (length input) (4 + stated input) (omega arith) in
    let kinded : ltb (stated input) 2 ≡ false = le-ltb (stated input) 2 (omega arith) in
    let past : 6 + (len - 2) ≡ 4 + stated input = omega arith in
    let behind : rest ≡ drop (4 + stated input) input =
    is_rest ∙ ap (drop (len - 2)) (take_rest input 6) ∙ drop-drop (len - 2) 6 input
    ∙ ap (λ (n : ℕ). drop n input) past in
    let inside : body ≡ take (stated input - 2) (drop 6 input) =
    is_body ∙ ap (take (len - 2)) (take_rest input 6)
    ∙ ap (λ (n : ℕ). take (n - 2) (drop 6 input)) states in
    simp (four, whole, kinded, names, inside, behind)

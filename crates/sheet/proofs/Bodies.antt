-- The parts that follow the kind: what is written is read, and what is read is written. Assumes nothing.
use Rattle.std.proofs.Common.{◌≡◌, ℕ, ◌^◌, ◌<◌, ◌≤◌, List, ◌++◌, length, take, drop, sym, ap, ◌∙◌, arith}
use Rattle.std.proofs.ByRecursion.{All-drop}
use Rattle.std.proofs.lemmas.List.{length-drop, drop-drop}
use Rattle.byte_rows.specs.Numbers.{number, bytes_of}
use Rattle.byte_rows.proofs.Back.{Bytes, number_bytes_of, front_back}
use Rattle.sheet.specs.Sheets.{sheet_body, sheet_in}
use Rattle.sheet.specs.Names.{sealed}

pub body_read : (g d s : ℕ) (text : List ℕ) → g < 256 ^ 2 → d < 256 ^ 8 → s < 256 ^ 8
    → sheet_in (sheet_body (sealed g d s text)) ≡ sealed g d s text
body_read g d s text is_g is_d is_s =
    let grave = number_bytes_of 2 g is_g in
    let draw = number_bytes_of 8 d is_d in
    let seal = number_bytes_of 8 s is_s in
    cc

pub body_written : (body : List ℕ) → 18 ≤ length body → Bytes body → sheet_body (sheet_in body) ≡ body
body_written body enough bytes =
    let draw_on = drop 2 body in
    let seal_on = drop 10 body in
    let small = λ (n : ℕ). All-drop (λ b. b < 256) n body bytes in
    let seal : bytes_of 8 (number (take 8 seal_on)) ++ drop 18 body ≡ seal_on =
    ap (λ (xs : List ℕ). bytes_of 8 (number (take 8 seal_on)) ++ xs) (sym (drop-drop 8 10 body))
    ∙ front_back 8 seal_on (simp length-drop (omega arith)) (small 10) in
    let draw : bytes_of 8 (number (take 8 draw_on)) ++ seal_on ≡ draw_on =
    ap (λ (xs : List ℕ). bytes_of 8 (number (take 8 draw_on)) ++ xs) (sym (drop-drop 8 2 body))
    ∙ front_back 8 draw_on (simp length-drop (omega arith)) (small 2) in
    ap (λ (xs : List ℕ). bytes_of 2 (number (take 2 body)) ++ (bytes_of 8 (number (take 8 draw_on)) ++ xs)) seal
    ∙ ap (λ (xs : List ℕ). bytes_of 2 (number (take 2 body)) ++ xs) draw
    ∙ front_back 2 body (omega arith) bytes

-- Steps with one subkey: through a piece of the bytes, and then through the rest. Assumes nothing.
use Rattle.std.proofs.Common.{◌≡◌, ℕ, zero, suc, ◌+◌, ◌*◌, ◌<◌, ◌≤◌, min, List, ◌++◌, length, take, drop, sym, refl, ap, ◌∙◌, ap₂, inl, inr, add-zero, add-suc, arith}
use Rattle.std.proofs.lemmas.List.{length-append, take-append-le, drop-append-le, drop_at, drop-drop, length-drop, nil_from_length, take_all}
use Rattle.field.specs.Model.{Model}
use Rattle.hash.specs.Texts.{block_bytes, number, block, block_count}
use Rattle.hash.specs.Steps.{stepped, through}
use Rattle.hash.proofs.Cutting.{all_or_full}

-- a block that lies within the piece
pub block_front : (piece rest : List ℕ) (j : ℕ) → block_bytes * j + block_bytes ≤ length piece
    → block (piece ++ rest) j ≡ block piece j
block_front piece rest j within =
    let start : block_bytes * j ≤ length piece = omega arith in
    let long : block_bytes ≤ length (drop (block_bytes * j) piece) = omega (arith, length-drop (block_bytes * j) piece) in
    ap (λ (bs : List ℕ). number (take block_bytes bs)) (drop-append-le (block_bytes * j) piece rest start)
    ∙ ap number (take-append-le block_bytes (drop (block_bytes * j) piece) rest long)

-- a block behind a piece of p blocks
pub block_behind : (piece rest : List ℕ) (p j : ℕ) → length piece ≡ block_bytes * p
    → block (piece ++ rest) (p + j) ≡ block rest j
block_behind piece rest p j long =
    let split : block_bytes * (p + j) ≡ block_bytes * p + block_bytes * j = omega arith in
    ap (λ (bs : List ℕ). number (take block_bytes bs))
    (ap (λ (n : ℕ). drop n (piece ++ rest)) split
    ∙ sym (drop-drop (block_bytes * j) (block_bytes * p) (piece ++ rest))
    ∙ ap (drop (block_bytes * j)) (drop_at piece rest (block_bytes * p) long))

module _ (m : Model) (k x : ℕ) where
  pub stepped_front : (piece rest : List ℕ) (n : ℕ) → block_bytes * n ≤ length piece
      → stepped m k x (piece ++ rest) n ≡ stepped m k x piece n
  stepped_front piece rest zero within = refl
  stepped_front piece rest (suc n) within =
      ap₂ (λ (y b : ℕ). m.times (m.plus y b) k)
      (stepped_front piece rest n (omega arith))
      (block_front piece rest n (omega arith))

  stepped_behind : (piece rest : List ℕ) (p n : ℕ) → length piece ≡ block_bytes * p
      → stepped m k x (piece ++ rest) (p + n) ≡ stepped m k (stepped m k x piece p) rest n
  stepped_behind piece rest p zero long =
      ap (stepped m k x (piece ++ rest)) (add-zero p) ∙ stepped_front piece rest p (omega arith)
  stepped_behind piece rest p (suc n) long =
      ap (stepped m k x (piece ++ rest)) (add-suc p n)
      ∙ ap₂ (λ (y b : ℕ). m.times (m.plus y b) k)
      (stepped_behind piece rest p n long)
      (block_behind piece rest p n long)

  -- through a piece of p blocks, or what is there if that is less, and then through the rest
  pub through_piece : (bytes piece rest : List ℕ) (p : ℕ) → bytes ≡ piece ++ rest
      → length piece ≡ min (block_bytes * p) (length bytes)
      → through m k x bytes ≡ through m k (through m k x piece) rest
  through_piece bytes piece rest p is long = elim (all_or_full bytes piece rest (block_bytes * p) is long) [
    | inl all ↦ ap (through m k x) all.1 ∙ ap (through m k (through m k x piece)) (sym all.0)
    | inr full ↦
        let both = ap length is ∙ length-append piece rest in
        let count : block_count piece ≡ p = omega arith in
        let counts : block_count bytes ≡ p + block_count rest = omega arith in
        ap₂ (stepped m k x) is counts
        ∙ stepped_behind piece rest p (block_count rest) full
        ∙ ap (λ (n : ℕ). through m k (stepped m k x piece n) rest) (sym count)
  ]

  -- as many steps as such a piece has blocks
  pub stepped_piece : (bytes piece rest : List ℕ) (p : ℕ) → bytes ≡ piece ++ rest
      → length piece ≡ min (block_bytes * p) (length bytes)
      → stepped m k x bytes (block_count piece) ≡ through m k x piece
  stepped_piece bytes piece rest p is long = elim (all_or_full bytes piece rest (block_bytes * p) is long) [
    | inl all ↦ ap (λ (bs : List ℕ). stepped m k x bs (block_count piece)) all.1
    | inr full ↦
        ap (λ (bs : List ℕ). stepped m k x bs (block_count piece)) is
        ∙ stepped_front piece rest (block_count piece) (omega arith)
  ]

  -- one block
  pub through_one : (piece : List ℕ) → 0 < length piece → length piece ≤ block_bytes
      → through m k x piece ≡ m.times (m.plus x (number piece)) k
  through_one piece some short =
      let one : block_count piece ≡ 1 = omega arith in
      ap (stepped m k x piece) one
      ∙ ap (λ (bs : List ℕ). m.times (m.plus x (number bs)) k) (take_all block_bytes piece short)

-- a turn of a loop over pieces: where all leads from x, the rest leads from where the piece has led
pub turned : (m : Model) (k x y : ℕ) {end : ℕ} (bytes piece rest : List ℕ) (p : ℕ) {size : ℕ}
    → through m k x bytes ≡ end → bytes ≡ piece ++ rest → length piece ≡ min size (length bytes)
    → size ≡ block_bytes * p → y ≡ through m k x piece → through m k y rest ≡ end
turned m k x y bytes piece rest p before is long pieces led =
    ap (λ (z : ℕ). through m k z rest) led
    ∙ sym (through_piece m k x bytes piece rest p is (long ∙ ap (λ (n : ℕ). min n (length bytes)) pieces))
    ∙ before

-- where nothing is left
pub arrived : (m : Model) (k : ℕ) {x end : ℕ} (rest : List ℕ) → through m k x rest ≡ end → length rest ≡ 0 → x ≡ end
arrived m k {x} rest before none = sym (ap (through m k x) (nil_from_length rest none)) ∙ before

-- The hash's loop over chunks: from the code's working numbers and cut text to the definition. Assumes nothing.
use Rattle.std.proofs.Common.{◌≡◌, ℕ, zero, suc, ◌+◌, ◌-◌, ◌*◌, ◌^◌, ◌<◌, ◌≤◌, min, List, ◌++◌, map, length, get_or, take, drop, sym, ap, ◌∙◌, ap₂, add-zero, add-suc, arith, lit<}
use Rattle.std.proofs.lemmas.List.{length-drop, drop-drop, get_or-map}
use Rattle.field.specs.Model.{Model}
use Rattle.field.specs.Laws.{FieldLaws}
use Rattle.hash.specs.Texts.{block_bytes, chunk_blocks, number, block, block_count, chunk_count, chunk_of}
use Rattle.hash.specs.Hash.{after}
use Rattle.hash.specs.Steps.{stepped, through}
use Rattle.hash.proofs.Cutting.{cut_next}
use Rattle.hash.proofs.Steps.{stepped_piece}

abbrev pub chunk_bytes : ℕ
chunk_bytes = block_bytes * chunk_blocks

-- the blocks of the first c chunks
abbrev pub blocks_in : List ℕ → ℕ → ℕ
blocks_in text c = min (chunk_blocks * c) (block_count text)

-- c chunks are in x, and the rest of the text is still to come
pub record Sofar (m : Model) (ring text : List ℕ) (c : ℕ) (rest : List ℕ) (x : ℕ) : Type 0 where
  pub to_come : rest ≡ drop (chunk_bytes * c) text
  pub value : m.means x ≡ after m ring text (blocks_in text c)

-- the blocks of chunk c, all with subkey c
within_chunk : (m : Model) (ring text : List ℕ) (c n : ℕ) → n ≤ chunk_blocks
    → after m ring text (chunk_blocks * c + n)
    ≡ stepped m (get_or ring c 0) (after m ring text (chunk_blocks * c)) (drop (chunk_bytes * c) text) n
within_chunk m ring text c zero few = ap (after m ring text) (add-zero (chunk_blocks * c))
within_chunk m ring text c (suc n) few =
    let here : chunk_of (chunk_blocks * c + n) ≡ c = omega arith in
    let place : chunk_bytes * c + block_bytes * n ≡ block_bytes * (chunk_blocks * c + n) = omega arith in
    let same : block text (chunk_blocks * c + n) ≡ block (drop (chunk_bytes * c) text) n =
    ap (λ (bs : List ℕ). number (take block_bytes bs))
    (ap (λ (i : ℕ). drop i text) (sym place) ∙ sym (drop-drop (block_bytes * n) (chunk_bytes * c) text)) in
    ap (after m ring text) (add-suc (chunk_blocks * c) n)
    ∙ ap₂ m.times
    (ap₂ m.plus (within_chunk m ring text c n (omega arith)) same)
    (ap (λ (i : ℕ). get_or ring i 0) here)

module _ {m : Model} (laws : FieldLaws m) where
  -- zero, a block's number and a text's length are elements' own numbers
  pub small_own : (n : ℕ) → n < 2 ^ 56 → m.means n ≡ n
  small_own n small = laws.means_own n (omega (arith, laws.many))

  module _ {ring text : List ℕ} where
    pub begun : {c : ℕ} {rest : List ℕ} → c ≡ 0 → rest ≡ text → Sofar m ring text c rest 0
    begun {c} {rest} first all =
        let none : 0 ≡ blocks_in text c = omega arith in
        record {
          to_come = all ∙ ap (λ (n : ℕ). drop (chunk_bytes * n) text) (sym first);
          value = small_own 0 (lit< tt) ∙ ap (after m ring text) none;
        }

    left : {c : ℕ} {rest : List ℕ} {x : ℕ} → Sofar m ring text c rest x → length rest ≡ length text - chunk_bytes * c
    left {c} s = ap length s.to_come ∙ length-drop (chunk_bytes * c) text

    -- while something is left there is a subkey for it
    pub served : {c places : ℕ} {rest : List ℕ} {x : ℕ} → Sofar m ring text c rest x → 0 < length rest
        → chunk_count text ≤ places → c < places
    served s some enough = let l = left s in omega arith

    pub ended : {c : ℕ} {rest : List ℕ} {x : ℕ} → Sofar m ring text c rest x → length rest ≡ 0
        → m.means x ≡ after m ring text (block_count text)
    ended {c} s none =
        let l = left s in
        let all : blocks_in text c ≡ block_count text = omega arith in
        s.value ∙ ap (after m ring text) all

  -- a turn of the loop, in the words of the iterators and calls: chunk k, of at most `size` bytes, is worked in
  pub turned : (ring text : List ℕ) {c : ℕ} {rest : List ℕ} (piece rest' : List ℕ) {size x y k j : ℕ}
      → Sofar m (map m.means ring) text c rest x → chunk_count text ≤ length ring
      → rest ≡ piece ++ rest' → length piece ≡ min size (length rest) → 0 < length rest
      → k ≡ c → j ≡ c + 1 → size ≡ chunk_bytes
      → m.means y ≡ through m (m.means (get_or ring k 0)) (m.means x) piece
      → Sofar m (map m.means ring) text j rest' y
  turned ring text {c} {rest} piece rest' {size} {x} {y} {k} {j} s enough cut long some here next full led =
      let elements : List ℕ = map m.means ring in
      let l = left s in
      let within : c < length ring = served s some enough in
      let element : m.means (get_or ring k 0) ≡ get_or elements c 0 =
      ap (λ (i : ℕ). m.means (get_or ring i 0)) here ∙ sym (get_or-map m.means ring c 0 0 within) in
      let tail : List ℕ = drop (chunk_bytes * c) text in
      let is : tail ≡ piece ++ rest' = sym s.to_come ∙ cut in
      let lengths : length piece ≡ min chunk_bytes (length tail) =
      long ∙ ap₂ (λ (n : ℕ) (bs : List ℕ). min n (length bs)) full s.to_come in
      let pieces = cut_next text piece rest' chunk_bytes c is lengths in
      let before : blocks_in text c ≡ chunk_blocks * c = omega arith in
      let behind : chunk_blocks * c + block_count piece ≡ blocks_in text j = omega arith in
      let few : block_count piece ≤ chunk_blocks = omega arith in
      record {
        to_come = pieces.1 ∙ ap (λ (n : ℕ). drop (chunk_bytes * n) text) (sym next);
        value =
            led
            ∙ ap₂ (λ (κ z : ℕ). through m κ z piece) element (s.value ∙ ap (after m elements text) before)
            ∙ sym (stepped_piece m (get_or elements c 0) (after m elements text (chunk_blocks * c)) tail piece rest' chunk_blocks is lengths)
            ∙ sym (within_chunk m elements text c (block_count piece) few)
            ∙ ap (after m elements text) behind;
      }

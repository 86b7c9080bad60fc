-- A text cut at a chunk: the blocks before it, those in it and those behind it. Assumes nothing.
use Rattle.std.proofs.Common.{◌≡◌, ℕ, suc, ◌+◌, ◌-◌, ◌*◌, ◌<◌, ◌≤◌, min, ◌⊎◌, List, length, sym, ap, ◌∙◌, inl, inr, arith}
use Rattle.std.proofs.Math.Decide.{dec_le}
use Rattle.hash.specs.Texts.{block_bytes, chunk_blocks, groups, block_count, chunk_count, chunk_of}

-- chunk c has i of the text's blocks, and l blocks are behind it
pub record Cut (text : List ℕ) (c i l : ℕ) : Type 0 where
  pub whole : block_count text ≡ chunk_blocks * c + i + l
  pub fits : i ≤ chunk_blocks
  pub full : (l ≡ 0) ⊎ (i ≡ chunk_blocks)

-- the blocks of the text's fullest chunk
abbrev pub fullest : List ℕ → ℕ
fullest text = min chunk_blocks (block_count text)

pub cut_fullest : (text : List ℕ) (c i l : ℕ) → Cut text c i l → i ≤ fullest text
cut_fullest text c i l cut = omega arith

pub cut_last : (text : List ℕ) (c : ℕ) → chunk_count text ≡ suc c → (i : ℕ) × Cut text c (suc i) 0
cut_last text c e =
    let i = block_count text - suc (chunk_blocks * c) in
    (i, record { whole = omega arith; fits = omega arith; full = inl (omega arith) })

pub cut_at : (text : List ℕ) (j : ℕ) → j < block_count text →
    (i l : ℕ) × Cut text (chunk_of j) i l × (j < chunk_blocks * chunk_of j + i)
cut_at text j h =
    elim (dec_le (block_count text) (chunk_blocks * chunk_of j + chunk_blocks)) [
      | yes last ↦
          let i = block_count text - chunk_blocks * chunk_of j in
          (i, 0, record { whole = omega arith; fits = omega arith; full = inl (omega arith) }, omega arith)
      | no more ↦
          let l = block_count text - (chunk_blocks * chunk_of j + chunk_blocks) in
          (chunk_blocks, l, record { whole = omega arith; fits = omega arith; full = inr (omega arith) }, omega arith)
    ]

pub cut_same_length : (a b : List ℕ) (c i l : ℕ) → length a ≡ length b → Cut a c i l → Cut b c i l
cut_same_length a b c i l e cut =
    record { whole = ap (λ n. groups n block_bytes) (sym e) ∙ cut.whole; fits = cut.fits; full = cut.full }

pub chunk_before : (c j : ℕ) → j < chunk_blocks * c → chunk_of j < c
chunk_before c j h = omega arith

pub chunk_within : (c j : ℕ) → j < chunk_blocks → chunk_of (chunk_blocks * c + j) ≡ c
chunk_within c j h = omega arith

pub chunk_behind : (text : List ℕ) (c i l j : ℕ) → Cut text c i l → j < l →
    (c < chunk_of (chunk_blocks * c + i + j)) × (chunk_of (chunk_blocks * c + i + j) < chunk_count text)
chunk_behind text c i l j cut h = (omega arith, omega arith)

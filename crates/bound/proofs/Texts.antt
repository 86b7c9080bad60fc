-- Texts by the numbers of their blocks: these are below 2 ^ 56, and tell texts of one length apart. Assumes nothing.
use Rattle.std.proofs.Common.{◌≡◌, ℕ, zero, suc, ◌+◌, ◌-◌, ◌*◌, ◌/◌, ◌%◌, ◌^◌, ◌<◌, min, ◌≢◌, ◌⊎◌, List, [], ◌∷◌, length, get_or, take, drop, sym, refl, ap, ◌∙◌, ap₂, inl, inr, pow-suc, arith, length-drop, length-take, get_or-drop, get_or-take}
use Rattle.std.proofs.Math.Decide.{ℕ_discrete}
use Rattle.std.specs.List.{AllByRecursion}
use Rattle.std.proofs.ByRecursion.{All-take, All-drop}
use Rattle.std.proofs.lemmas.List.{ext_get_or}
use Rattle.hash.specs.Texts.{block_bytes, number, block, block_count}

abbrev pub Bytes : List ℕ → Type 0
Bytes xs = AllByRecursion (λ byte. byte < 256) xs

number_below : (n : ℕ) (xs : List ℕ) → Bytes xs → number (take n xs) < 256 ^ n
number_below zero xs bytes = omega arith
number_below (suc n) [] bytes = rw (pow-suc 256 n) (omega (arith, number_below n [] tt))
number_below (suc n) (x ∷ xs) bytes = rw (pow-suc 256 n) (omega (arith, number_below n xs bytes.1, bytes.0))

pub block_below : (text : List ℕ) (i : ℕ) → Bytes text → block text i < 2 ^ 56
block_below text i bytes =
    number_below block_bytes (drop (block_bytes * i) text) (All-drop (λ byte. byte < 256) (block_bytes * i) text bytes)

number_same : (xs ys : List ℕ) → length xs ≡ length ys → Bytes xs → Bytes ys → number xs ≡ number ys → xs ≡ ys
number_same [] [] l bx by e = refl
number_same [] (y ∷ ys) l bx by e = absurd (omega arith)
number_same (x ∷ xs) [] l bx by e = absurd (omega arith)
number_same (x ∷ xs) (y ∷ ys) l bx by e =
    let first : x ≡ y = omega (arith, bx.0, by.0) in
    ap₂ ◌∷◌ first (number_same xs ys (omega arith) bx.1 by.1 (omega arith))

-- the bytes of block q
piece : List ℕ → ℕ → List ℕ
piece text q = take block_bytes (drop (block_bytes * q) text)

piece_bytes : (text : List ℕ) (q : ℕ) → Bytes text → Bytes (piece text q)
unfolding piece
piece_bytes text q bytes =
    All-take (λ byte. byte < 256) block_bytes (drop (block_bytes * q) text)
    (All-drop (λ byte. byte < 256) (block_bytes * q) text bytes)

piece_length : (a b : List ℕ) (q : ℕ) → length a ≡ length b → length (piece a q) ≡ length (piece b q)
unfolding piece
piece_length a b q l = simp (length-take, length-drop) (ap (λ n. min block_bytes (n - block_bytes * q)) l)

-- byte i stands in block i / 7 at place i % 7
byte_in_piece : (text : List ℕ) (i : ℕ) → get_or text i 0 ≡ get_or (piece text (i / block_bytes)) (i % block_bytes) 0
unfolding piece
byte_in_piece text i =
    let q = i / block_bytes in
    let place : i ≡ block_bytes * q + i % block_bytes = omega arith in
    ap (λ n. get_or text n 0) place
    ∙ sym (get_or-take block_bytes (drop (block_bytes * q) text) (i % block_bytes) 0 (omega arith)
    ∙ get_or-drop (block_bytes * q) text (i % block_bytes) 0)

same_text : (a b : List ℕ) → length a ≡ length b → Bytes a → Bytes b →
    ((j : ℕ) → j < block_count a → block a j ≡ block b j) → a ≡ b
unfolding piece
same_text a b l bytes_a bytes_b blocks = ext_get_or 0 a b l byte
  where
    byte : (i : ℕ) → i < length a → get_or a i 0 ≡ get_or b i 0
    byte i below =
        let q = i / block_bytes in
        let same = number_same (piece a q) (piece b q) (piece_length a b q l)
        (piece_bytes a q bytes_a) (piece_bytes b q bytes_b) (blocks q (omega arith)) in
        byte_in_piece a i ∙ ap (λ xs. get_or xs (i % block_bytes) 0) same ∙ sym (byte_in_piece b i)

-- the functions differ at j and not before it
abbrev pub FirstDifference : (ℕ → ℕ) → (ℕ → ℕ) → ℕ → Type 0
FirstDifference f g j = (f j ≢ g j) × ((i : ℕ) → i < j → f i ≡ g i)

first_difference : (f g : ℕ → ℕ) (n : ℕ) →
    ((j : ℕ) → j < n → f j ≡ g j) ⊎ ((j : ℕ) × (j < n) × FirstDifference f g j)
first_difference f g zero = inl (λ j h. absurd (omega arith))
first_difference f g (suc n) =
    elim (first_difference f g n) [
      | inr d ↦ inr (d.0, omega (arith, d.1), d.2)
      | inl all ↦ elim (ℕ_discrete (f n) (g n)) [
        | yes e ↦ inl (λ j h. elim (ℕ_discrete j n) [ yes q ↦ ap f q ∙ e ∙ ap g (sym q) | no d ↦ all j (omega arith) ])
        | no d ↦ inr (n, omega arith, (d, all))
      ]
    ]

pub first_other_block : (a b : List ℕ) → length a ≡ length b → Bytes a → Bytes b → a ≢ b →
    (j : ℕ) × (j < block_count a) × FirstDifference (block a) (block b) j
first_other_block a b l bytes_a bytes_b a≢b =
    elim (first_difference (block a) (block b) (block_count a)) [
      | inl all ↦ absurd (a≢b (same_text a b l bytes_a bytes_b all))
      | inr d ↦ d
    ]

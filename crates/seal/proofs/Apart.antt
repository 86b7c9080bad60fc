-- No seal's own block is a subkey's block, and an own block shows its draw and its hash. Assumes nothing.
use Rattle.std.proofs.Common.{◌≡◌, ℕ, ◌+◌, ◌^◌, ◌<◌, List, [], ◌∷◌, ◌++◌, map, refl, ap, inl, inr, arith}
use Rattle.std.specs.List.{range_with_len}
use Rattle.field.specs.Model.{Model}
use Rattle.hash.specs.Texts.{chunk_count}
use Rattle.cipher.specs.declared.Block.{Block}
use Rattle.cipher.specs.declared.Key.{Key}
use Rattle.seal.specs.Sealing.{Among, SealingLaws}
use Rattle.seal.specs.Seals.{subkey_block, hash_under, own_block, sealing}

-- a block that is no subkey's, found among subkeys' blocks and one more, is that one
not_a_subkeys : (b last : Block) (cs : List ℕ) → 0 < b.first → Among b (map subkey_block cs ++ last ∷ []) → b ≡ last
not_a_subkeys b last [] high i = elim i [ inl p ↦ p | inr n ↦ absurd n ]
not_a_subkeys b last (c ∷ cs) high i =
    elim i [
      | inl p ↦ let zero : b.first ≡ 0 = ap (λ (b : Block). b.first) p in absurd (omega arith)
      | inr j ↦ not_a_subkeys b last cs high j
    ]

pub sealing_laws : (m : Model) (f : Key → Block → Block) → SealingLaws (sealing m f)
sealing_laws m f = record {
  seal_answer = λ k d x. refl;
  own_alike = λ k d e x y p. (
    ap (λ (b : Block). b.second) p,
    high_same (hash_under m f k x) (hash_under m f k y) (ap (λ (b : Block). b.first) p),
  );
  own_apart = λ k d e x y. not_a_subkeys (own_block m f k d x) (own_block m f k e y) (range_with_len 0 (chunk_count y))
      (high (hash_under m f k x));
}
  where
    high_same : (a b : ℕ) → 2 ^ 63 + a ≡ 2 ^ 63 + b → a ≡ b
    high_same a b p = omega arith

    high : (a : ℕ) → 0 < 2 ^ 63 + a
    high a = omega arith

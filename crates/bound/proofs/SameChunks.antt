-- Two texts with as many chunks, of different lengths: the subkey of the last chunk tells them apart. Assumes nothing.
use Rattle.std.proofs.Common.{◌≡◌, ℕ, suc, ◌*◌, ◌^◌, ◌≤◌, ◌≢◌, List, length, le_refl, arith}
use Rattle.std.specs.List.{AllByRecursion}
use Rattle.field.specs.Model.{Model}
use Rattle.field.specs.Laws.{Element, FieldLaws}
use Rattle.hash.specs.Texts.{chunk_count}
use Rattle.hash.specs.Hash.{hash_of}
use Rattle.bound.specs.Counting.{Distinct}
use Rattle.bound.specs.Bound.{OnlyZeroMakesZero, Text}
use Rattle.bound.proofs.Sums.{sum}
use Rattle.bound.proofs.Rings.{rings}
use Rattle.bound.proofs.Put.{put}
use Rattle.bound.proofs.Places.{place_bound_even}
use Rattle.bound.proofs.Chunks.{fullest}
use Rattle.bound.proofs.Hashes.{length_element}
use Rattle.bound.proofs.LastChunk.{hash_has_constant, constants_differ}
use Rattle.bound.proofs.Meets.{meets}

module _ {m : Model} (F : FieldLaws m) (Z : OnlyZeroMakesZero m)
    (keys : List ℕ) (distinct : Distinct keys) (elements : AllByRecursion (Element m) keys) where
  pub same_chunks : (a b : List ℕ) → Text a → Text b → length a ≢ length b →
      (c : ℕ) → chunk_count a ≡ suc c → chunk_count b ≡ suc c → (d : ℕ) → fullest a ≤ d → fullest b ≤ d →
      sum (meets m a b) (rings keys (suc c)) ≤ d * length keys ^ c
  same_chunks a b ta tb a≢b c ca cb d da db =
      place_bound_even keys (Element m) elements c c d (le_refl c) (meets m a b) each
    where
      each : (r : List ℕ) → length r ≡ c → AllByRecursion (Element m) r → sum (λ k. meets m a b (put c k r)) keys ≤ d
      each r l er =
          constants_differ F Z keys distinct elements d (λ k. hash_of m (put c k r) a) (λ k. hash_of m (put c k r) b)
          (length a) (length b) (length_element F a ta) (length_element F b tb) a≢b
          (hash_has_constant F Z c r (omega arith) er a ta ca d da)
          (hash_has_constant F Z c r (omega arith) er b tb cb d db)

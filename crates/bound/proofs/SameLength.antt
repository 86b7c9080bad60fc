-- Two different texts of one length: the subkey of the first chunk that differs tells them apart, but for the rings
-- with a zero subkey elsewhere. Assumes nothing.
use Rattle.std.proofs.Common.{◌≡◌, ℕ, zero, suc, ◌+◌, ◌-◌, ◌*◌, ◌^◌, ◌<◌, ◌≤◌, eqb, ◌≢◌, List, length, get_or, sym, refl, ap, ◌∙◌, subst, arith}
use Rattle.std.specs.List.{AllByRecursion}
use Rattle.std.proofs.ByRecursion.{All-get_or}
use Rattle.field.specs.Model.{Model}
use Rattle.field.specs.Laws.{Element, FieldLaws}
use Rattle.hash.specs.Texts.{chunk_blocks, block, block_count, chunk_count, chunk_of}
use Rattle.hash.specs.Hash.{hash_of}
use Rattle.bound.specs.Counting.{Distinct}
use Rattle.bound.specs.Bound.{OnlyZeroMakesZero, Text}
use Rattle.bound.proofs.Roots.{Zeros}
use Rattle.bound.proofs.Differences.{minus}
use Rattle.bound.proofs.Horner.{run_same}
use Rattle.bound.proofs.OneSubkey.{others_length, same_blocks}
use Rattle.bound.proofs.Elements.{El, el, el_own, 𝟘, one_is_not_zero, domain}
use Rattle.bound.proofs.Agreement.{agree_seldom}
use Rattle.bound.proofs.Sums.{sum, count_le}
use Rattle.bound.proofs.Rings.{rings}
use Rattle.bound.proofs.Put.{put, put_all, put_behind}
use Rattle.bound.proofs.Places.{place_bound}
use Rattle.bound.proofs.Zeros.{zeros, no_zero, zeros_bound}
use Rattle.bound.proofs.Texts.{FirstDifference, first_other_block}
use Rattle.bound.proofs.Chunks.{Cut, fullest, cut_fullest, cut_at, cut_same_length, chunk_behind}
use Rattle.bound.proofs.Hashes.{blocks, block_element, subkey_element}
use Rattle.bound.proofs.HashPolynomial.{rest, entry, others_of, coefficients, hash_polynomial}
use Rattle.bound.proofs.Meets.{meets}

module _ {m : Model} (F : FieldLaws m) (Z : OnlyZeroMakesZero m) where
  -- the subkeys behind chunk c are not zero, if none of the ring is
  rest_nonzero : (c : ℕ) (r : List ℕ) → c ≤ length r → AllByRecursion (Element m) r → AllByRecursion (λ k. k ≢ 0) r →
      (n : ℕ) → c < chunk_of n → chunk_of n ≤ length r → rest F Z c r n ≢ 𝟘 F
  rest_nonzero c r place elements nonzero n low high z =
      All-get_or (λ k. k ≢ 0) r q 0 (omega arith) nonzero
      (sym (put_behind c 0 r q place (omega arith))
      ∙ ap (λ i. get_or (put c 0 r) i 0) (sym at)
      ∙ sym (el_own F _ (subkey_element F (put c 0 r) n (put_all (Element m) c 0 r (𝟘 F).1 elements)))
      ∙ ap (λ (x : El m). x.0) z)
    where
      q : ℕ
      q = chunk_of n - 1

      at : chunk_of n ≡ suc q
      at = omega arith

module _ {m : Model} (F : FieldLaws m) (Z : OnlyZeroMakesZero m)
    (keys : List ℕ) (distinct : Distinct keys) (elements : AllByRecursion (Element m) keys)
    (a b : List ℕ) (ta : Text a) (tb : Text b) (same_length : length a ≡ length b) where
  -- chunk c is the first that differs, and no other subkey is zero
  meets_seldom : (c i l : ℕ) → Cut a c i l → ((j : ℕ) → j < chunk_blocks * c → block a j ≡ block b j) →
      (j : ℕ) → j < i → block a (chunk_blocks * c + j) ≢ block b (chunk_blocks * c + j) →
      (r : List ℕ) → suc (length r) ≡ chunk_count a → c ≤ length r → AllByRecursion (Element m) r → AllByRecursion (λ k. k ≢ 0) r →
      sum (λ k. meets m a b (put c k r)) keys ≤ i
  unfolding minus
  meets_seldom c i l cut before j j<i differ r lr place er nonzero =
      agree_seldom m (domain F Z) keys distinct elements i (λ k. hash_of m (put c k r) a) (λ k. hash_of m (put c k r) b)
      (coefficients F Z c r a X i l) (coefficients F Z c r b X i l)
      (hash_polynomial F Z c r place er a ta i l cut X refl)
      (hash_polynomial F Z c r place er b tb i l (cut_same_length a b c i l same_length cut) X entered)
      (omega (arith, degree a)) (omega (arith, degree b))
      (λ zero_coefficients. differ (same_numbers (same_elements zero_coefficients.1)))
    where
      X : El m
      X = entry F Z c r a

      entered : entry F Z c r b ≡ X
      entered =
          run_same (domain F Z) (blocks F b) (blocks F a) (rest F Z c r) (rest F Z c r) (chunk_blocks * c)
          (λ j h. ap (el F) (sym (before j h))) (λ j h. refl)

      degree : (text : List ℕ) → length (others_of F Z c r text X i l) ≡ i
      degree text = others_length (domain F Z) (blocks F text) (rest F Z c r) X (chunk_blocks * c) i l

      behind : (j : ℕ) → j < l → rest F Z c r (chunk_blocks * c + i + j) ≢ 𝟘 F
      behind j h =
          let (low, high) = chunk_behind a c i l j cut h in
          rest_nonzero F Z c r place er nonzero (chunk_blocks * c + i + j) low (omega arith)

      same_elements : Zeros (domain F Z) (minus (domain F Z) (others_of F Z c r a X i l) (others_of F Z c r b X i l)) →
          blocks F a (chunk_blocks * c + j) ≡ blocks F b (chunk_blocks * c + j)
      same_elements zs =
          same_blocks (domain F Z) (one_is_not_zero F) (blocks F a) (blocks F b) (rest F Z c r) X (chunk_blocks * c) i l
          behind zs j j<i

      same_numbers : blocks F a (chunk_blocks * c + j) ≡ blocks F b (chunk_blocks * c + j) →
          block a (chunk_blocks * c + j) ≡ block b (chunk_blocks * c + j)
      same_numbers e =
          sym (el_own F _ (block_element F a _ ta)) ∙ ap (λ (x : El m). x.0) e ∙ el_own F _ (block_element F b _ tb)

  -- block j is the first that differs, in the chunk of i blocks with l blocks behind it
  from_first : (j : ℕ) → j < block_count a → FirstDifference (block a) (block b) j →
      (i l : ℕ) → Cut a (chunk_of j) i l → j < chunk_blocks * chunk_of j + i →
      (n : ℕ) → chunk_count a ≡ suc n → (d : ℕ) → fullest a ≤ d →
      sum (meets m a b) (rings keys (suc n)) ≤ (d + n) * length keys ^ n
  from_first j j<count (differ, before) i l cut inside n cn d most =
      omega (
        arith,
        zeros_bound keys distinct n,
        place_bound keys (Element m) elements c n d (omega arith) (meets m a b) zeros each,
      )
    where
      c : ℕ
      c = chunk_of j

      place : ℕ
      place = j - chunk_blocks * c

      at : j ≡ chunk_blocks * c + place
      at = omega arith

      each : (r : List ℕ) → length r ≡ n → AllByRecursion (Element m) r →
          sum (λ k. meets m a b (put c k r)) keys ≤ d + zeros r * length keys
      each r lr er = go (zeros r) refl
        where
          go : (z : ℕ) → zeros r ≡ z → sum (λ k. meets m a b (put c k r)) keys ≤ d + z * length keys
          go zero none =
              let few = meets_seldom c i l cut (λ j h. before j (omega arith)) place (omega arith)
              (subst (λ j. block a j ≢ block b j) at differ) r (omega arith) (omega arith) er (no_zero r none) in
              omega (arith, few, cut_fullest a c i l cut)
          go (suc z) some =
              omega (arith, count_le (λ k. eqb (hash_of m (put c k r) a) (hash_of m (put c k r) b)) keys)

  pub same_length_bound : a ≢ b → (n : ℕ) → chunk_count a ≡ suc n → (d : ℕ) → fullest a ≤ d →
      sum (meets m a b) (rings keys (suc n)) ≤ (d + n) * length keys ^ n
  same_length_bound a≢b =
      let (j, j<count, first) = first_other_block a b same_length ta.1 tb.1 a≢b in
      let (i, l, cut, inside) = cut_at a j j<count in
      from_first j j<count first i l cut inside

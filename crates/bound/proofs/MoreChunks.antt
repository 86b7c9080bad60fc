-- Two texts of which the first has more chunks: the subkey of its last chunk tells them apart, but for the rings under
-- which the other's hash is the first one's length, and those are few. Assumes nothing.
use Rattle.std.proofs.Common.{◌≡◌, ℕ, zero, suc, ◌+◌, ◌*◌, ◌^◌, ◌<◌, ◌≤◌, Bool, true, false, eqb, ◌≢◌, List, length, sym, refl, ap, ◌∙◌, ap₂, zero-le, le_refl, mul-le-mul_right, mul_assoc, pow-suc, zero-mul, arith}
use Rattle.std.specs.List.{AllByRecursion}
use Rattle.std.proofs.lemmas.List.{nil_from_length}
use Rattle.std.proofs.lemmas.Bool.{eqb-false, ne_eqb}
use Rattle.field.specs.Model.{Model}
use Rattle.field.specs.Laws.{Element, FieldLaws}
use Rattle.hash.specs.Texts.{block, block_count, chunk_count, chunk_of}
use Rattle.hash.specs.Hash.{subkey, after, hash_of}
use Rattle.bound.specs.Counting.{Distinct}
use Rattle.bound.specs.Bound.{OnlyZeroMakesZero, Text}
use Rattle.bound.proofs.Sums.{sum, sum_same, one_if, count_le}
use Rattle.bound.proofs.Rings.{rings, sum_rings_const}
use Rattle.bound.proofs.Put.{put, put_before}
use Rattle.bound.proofs.Places.{place_bound, place_bound_even}
use Rattle.bound.proofs.Elements.{𝟘}
use Rattle.bound.proofs.Chunks.{fullest}
use Rattle.bound.proofs.Hashes.{length_element, hash_element}
use Rattle.bound.proofs.LastChunk.{number_has_constant, hash_has_constant, constants_differ}
use Rattle.bound.proofs.Meets.{meets, equals}

after_same : (m : Model) (ring ring' text : List ℕ) (n : ℕ) → ((j : ℕ) → j < n → subkey ring j ≡ subkey ring' j) →
    after m ring text n ≡ after m ring' text n
after_same m ring ring' text zero same = refl
after_same m ring ring' text (suc n) same =
    let before = after_same m ring ring' text n (λ j h. same j (omega arith)) in
    ap₂ m.times (ap (λ x. m.plus x (block text n)) before) (same n (omega arith))

-- a subkey past the text's chunks changes nothing
hash_unused : (m : Model) (c k : ℕ) (r text : List ℕ) → c ≤ length r → chunk_count text ≤ c →
    hash_of m (put c k r) text ≡ hash_of m r text
hash_unused m c k r text place few =
    ap (λ x. m.plus x (length text))
    (after_same m (put c k r) r text (block_count text) (λ j h. put_before c k r (chunk_of j) place (omega arith)))

module _ {m : Model} (F : FieldLaws m) (Z : OnlyZeroMakesZero m)
    (keys : List ℕ) (distinct : Distinct keys) (elements : AllByRecursion (Element m) keys) where
  -- the text's hash is seldom v, as the subkey of its last chunk varies
  hash_seldom : (text : List ℕ) → Text text → (v : ℕ) → Element m v → length text ≢ v →
      (c : ℕ) → chunk_count text ≡ suc c → (d : ℕ) → fullest text ≤ d →
      (r : List ℕ) → c ≤ length r → AllByRecursion (Element m) r → sum (λ k. equals m text v (put c k r)) keys ≤ d
  hash_seldom text t v element ne c e d most r place er =
      constants_differ F Z keys distinct elements d (λ k. hash_of m (put c k r) text) (λ k. v)
      (length text) v (length_element F text t) element ne
      (hash_has_constant F Z c r place er text t e d most) (number_has_constant F Z v d element)

  pub more_chunks : (a b : List ℕ) → Text a → Text b → (c : ℕ) → chunk_count a ≡ suc c → chunk_count b ≤ c →
      (d : ℕ) → fullest a ≤ d →
      sum (meets m a b) (rings keys (suc c))
      ≤ d * length keys ^ c + sum (equals m b (length a)) (rings keys c) * length keys
  more_chunks a b ta tb c ca cb d da =
      place_bound keys (Element m) elements c c d (le_refl c) (meets m a b) (equals m b (length a)) each
    where
      each : (r : List ℕ) → length r ≡ c → AllByRecursion (Element m) r →
          sum (λ k. meets m a b (put c k r)) keys ≤ d + equals m b (length a) r * length keys
      each r l er = go (eqb w (length a)) refl
        where
          w : ℕ
          w = hash_of m r b

          fixed : sum (λ k. meets m a b (put c k r)) keys ≡ sum (λ k. equals m a w (put c k r)) keys
          fixed =
              sum_same _ _ keys
              (λ k. ap (λ v. one_if (eqb (hash_of m (put c k r) a) v)) (hash_unused m c k r b (omega arith) cb))

          go : (t : Bool) → eqb w (length a) ≡ t →
              sum (λ k. meets m a b (put c k r)) keys ≤ d + one_if t * length keys
          go true e = omega (arith, count_le (λ k. eqb (hash_of m (put c k r) a) (hash_of m (put c k r) b)) keys)
          go false e =
              let ne : length a ≢ w = λ q. eqb-false w (length a) e (sym q) in
              let few = hash_seldom a ta w (hash_element F Z r b er tb) ne c ca d da r (omega arith) er in
              omega (arith, fixed, few)

  pub equals_never : (b : List ℕ) (v c : ℕ) → length b ≡ 0 → v ≢ 0 → sum (equals m b v) (rings keys c) ≡ 0
  equals_never b v c lb v≢0 =
      sum_same (equals m b v) (λ r. 0) (rings keys c) none ∙ sum_rings_const keys 0 c ∙ zero-mul (length keys ^ c)
    where
      none : (r : List ℕ) → equals m b v r ≡ 0
      none r =
          ap (λ text. equals m text v r) (nil_from_length b lb)
          ∙ ap one_if (ap (λ x. eqb x v) (F.plus_zero 0 (𝟘 F).1) ∙ ne_eqb 0 v (λ e. v≢0 (sym e)))

  pub equals_seldom : (a b : List ℕ) → Text a → Text b → (c : ℕ) → chunk_count a ≡ suc c → chunk_count b ≤ c →
      (d : ℕ) → fullest b ≤ d → sum (equals m b (length a)) (rings keys c) * length keys ≤ d * length keys ^ c
  equals_seldom a b ta tb zero ca cb d db =
      rw (equals_never b (length a) 0 (omega arith) (omega arith), zero-mul) zero-le
  equals_seldom a b ta tb (suc n) ca cb d db = go (chunk_count b) refl
    where
      go : (q : ℕ) → chunk_count b ≡ q →
          sum (equals m b (length a)) (rings keys (suc n)) * length keys ≤ d * length keys ^ suc n
      go zero e = rw (equals_never b (length a) (suc n) (omega arith) (omega arith), zero-mul) zero-le
      go (suc q) e =
          let few = place_bound_even keys (Element m) elements q n d (omega arith) (equals m b (length a))
          (λ r l er. hash_seldom b tb (length a) (length_element F a ta) (omega arith) q e d db r (omega arith) er) in
          rw (pow-suc (length keys) n, ← mul_assoc) (mul-le-mul_right (length keys) few)

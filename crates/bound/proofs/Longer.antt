-- The three cases joined, of two different texts of which the first has no fewer chunks. Assumes nothing.
use Rattle.std.proofs.Common.{◌≡◌, ℕ, suc, ◌+◌, ◌*◌, ◌^◌, ◌≤◌, max, ◌≢◌, List, length, ap, ◌∙◌, mul-le-mul_right, zero-mul, mul-one, arith}
use Rattle.std.proofs.Math.Nat.{pow-zero}
use Rattle.std.proofs.Math.Decide.{ℕ_discrete}
use Rattle.std.specs.List.{AllByRecursion}
use Rattle.field.specs.Model.{Model}
use Rattle.field.specs.Laws.{Element, FieldLaws}
use Rattle.hash.specs.Texts.{chunk_count}
use Rattle.bound.specs.Counting.{Distinct}
use Rattle.bound.specs.Bound.{OnlyZeroMakesZero, Text}
use Rattle.bound.proofs.Sums.{sum}
use Rattle.bound.proofs.Rings.{rings}
use Rattle.bound.proofs.Chunks.{fullest}
use Rattle.bound.proofs.SameLength.{same_length_bound}
use Rattle.bound.proofs.SameChunks.{same_chunks}
use Rattle.bound.proofs.MoreChunks.{more_chunks, equals_never, equals_seldom}
use Rattle.bound.proofs.Meets.{meets, equals}

-- the blocks of the fullest chunk of two texts
abbrev pub widest : List ℕ → List ℕ → ℕ
widest a b = max (fullest a) (fullest b)

module _ {m : Model} (F : FieldLaws m) (Z : OnlyZeroMakesZero m)
    (keys : List ℕ) (distinct : Distinct keys) (elements : AllByRecursion (Element m) keys)
    (a b : List ℕ) (ta : Text a) (tb : Text b) (a≢b : a ≢ b)
    (c : ℕ) (ca : chunk_count a ≡ suc c) (cb : chunk_count b ≤ suc c) where
  -- over c + 1 subkeys, and over one
  abbrev pub Few : Type 0
  Few =
      (sum (meets m a b) (rings keys (suc c)) ≤ 2048 * length keys ^ c)
      × (c ≡ 0 → sum (meets m a b) (rings keys (suc c)) ≤ widest a b)

  alone : (n : ℕ) → c ≡ 0 → n * length keys ^ c ≡ n
  alone n z = ap (λ p. n * p) (ap (λ e. length keys ^ e) z ∙ pow-zero (length keys)) ∙ mul-one n

  up : widest a b * length keys ^ c ≤ 1024 * length keys ^ c
  up = mul-le-mul_right (length keys ^ c) (omega arith)

  of_one_length : length a ≡ length b → Few
  of_one_length e = (omega (arith, bound, enough), λ z. omega (arith, bound, alone (widest a b + c) z))
    where
      bound : sum (meets m a b) (rings keys (suc c)) ≤ (widest a b + c) * length keys ^ c
      bound = same_length_bound F Z keys distinct elements a b ta tb e a≢b c ca (widest a b) (omega arith)

      enough : (widest a b + c) * length keys ^ c ≤ 2048 * length keys ^ c
      enough = mul-le-mul_right (length keys ^ c) (omega (arith, ta.0))

  of_as_many_chunks : length a ≢ length b → chunk_count b ≡ suc c → Few
  of_as_many_chunks ne e = (omega (arith, bound, up), λ z. omega (arith, bound, alone (widest a b) z))
    where
      bound : sum (meets m a b) (rings keys (suc c)) ≤ widest a b * length keys ^ c
      bound = same_chunks F Z keys distinct elements a b ta tb ne c ca e (widest a b) (omega arith) (omega arith)

  of_more_chunks : chunk_count b ≤ c → Few
  of_more_chunks fewer = (omega (arith, bound, seldom, up), λ z. omega (arith, bound, alone (widest a b) z, never z))
    where
      E : ℕ
      E = sum (equals m b (length a)) (rings keys c)

      bound : sum (meets m a b) (rings keys (suc c)) ≤ widest a b * length keys ^ c + E * length keys
      bound = more_chunks F Z keys distinct elements a b ta tb c ca fewer (widest a b) (omega arith)

      seldom : E * length keys ≤ widest a b * length keys ^ c
      seldom = equals_seldom F Z keys distinct elements a b ta tb c ca fewer (widest a b) (omega arith)

      never : c ≡ 0 → E * length keys ≡ 0
      never z =
          ap (λ n. n * length keys)
          (equals_never F Z keys distinct elements b (length a) c (omega arith) (omega arith))
          ∙ zero-mul (length keys)

  pub longer : Few
  longer =
      elim (ℕ_discrete (length a) (length b)) [
        | yes e ↦ of_one_length e
        | no ne ↦ elim (ℕ_discrete (chunk_count b) (suc c)) [
          | yes e ↦ of_as_many_chunks ne e
          | no fewer ↦ of_more_chunks (omega arith)
        ]
      ]

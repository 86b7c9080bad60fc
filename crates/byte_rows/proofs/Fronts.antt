-- What a number taken off the front, or a missing one, says of the bytes. Assumes nothing.
use Rattle.std.proofs.Common.{◌≡◌, ℕ, suc, ◌<◌, ◌≤◌, List, length, take, drop, Some, None, ap, inl, inr, arith}
use Rattle.std.proofs.lemmas.Bool.Decides.{nat_tests, leb_tells}
use Rattle.byte_rows.specs.Numbers.{number}
use Rattle.byte_rows.specs.Fronts.{front}

-- what a number that is missing, or there, says of the bytes
pub front_none : (n : ℕ) (bytes : List ℕ) → None ≡ front n bytes → length bytes < n
front_none n bytes missing = grind (arith, nat_tests)

pub record Taken (n : ℕ) (bytes : List ℕ) (x : ℕ) (rest : List ℕ) : Type 0 where
  pub enough : n ≤ length bytes
  pub value : x ≡ number (take n bytes)
  pub behind : rest ≡ drop n bytes

pub front_some : (n : ℕ) (bytes rest : List ℕ) (x : ℕ) → Some (x, rest) ≡ front n bytes → Taken n bytes x rest
front_some n bytes rest x is =
    elim (leb_tells (suc (length bytes)) n) [
      | inl few ↦ let never : ◌≡◌ {A = ℕ} 0 1 = cc in absurd (omega arith)
      | inr enough ↦
          let both : ◌≡◌ {A = ℕ × List ℕ} (x, rest) (number (take n bytes), drop n bytes) = cc in
          record {
            enough = omega arith;
            value = ap (λ (p : ℕ × List ℕ). p.0) both;
            behind = ap (λ (p : ℕ × List ℕ). p.1) both;
          }
    ]

-- All rings of c subkeys that are taken from a list of keys, and sums over them. Assumes nothing.
use Rattle.std.proofs.Common.{◌≡◌, ℕ, zero, suc, ◌*◌, ◌^◌, List, [], ◌∷◌, map, length, sym, refl, ap, ◌∙◌, inl, inr, add-zero, mul_assoc, one-mul, pow-suc, mul-one, arith}
use Rattle.std.proofs.Math.Nat.{pow-zero}
use Rattle.std.specs.List.{flat_map, AllByRecursion}
use Rattle.bound.specs.Counting.{Distinct}
use Rattle.bound.proofs.Each.{all_joined}
use Rattle.bound.proofs.Apart.{distinct_joined}
use Rattle.bound.proofs.Members.{Member, member_left, member_right, member_map}
use Rattle.bound.proofs.Sums.{sum, sum_same, sum_const, sum_joined}

module _ (keys : List ℕ) where
  unfoldable pub rings : ℕ → List (List ℕ)
  rings zero = [] ∷ []
  rings (suc c) = flat_map (λ k. map (λ r. k ∷ r) (rings c)) keys

  pub rings_all : (P : ℕ → Type 0) → AllByRecursion P keys → (c : ℕ) → AllByRecursion (λ r. (length r ≡ c) × AllByRecursion P r) (rings c)
  unfolding rings
  rings_all P all zero = ((refl, tt), tt)
  rings_all P all (suc c) =
      all_joined P (λ r. (length r ≡ c) × AllByRecursion P r) (λ r. (length r ≡ suc c) × AllByRecursion P r) (λ k r. k ∷ r)
      (λ k r p h. (ap suc h.0, (p, h.1))) keys (rings c) all (rings_all P all c)

  pub rings_distinct : Distinct keys → (c : ℕ) → Distinct (rings c)
  unfolding rings
  rings_distinct distinct zero = (tt, tt)
  rings_distinct distinct (suc c) =
      distinct_joined (λ k r. k ∷ r) (λ k k' r r' e. (cc, cc)) keys (rings c) distinct (rings_distinct distinct c)

  pub rings_member : (c : ℕ) (r : List ℕ) → length r ≡ c → AllByRecursion (Member keys) r → Member (rings c) r
  unfolding rings
  rings_member zero [] e members = inl refl
  rings_member zero (k ∷ r) e members = absurd (omega arith)
  rings_member (suc c) [] e members = absurd (omega arith)
  rings_member (suc c) (k ∷ r) e members =
      of_keys keys members.0 (rings_member c r (omega arith) members.1)
    where
      of_keys : (ks : List ℕ) → Member ks k → Member (rings c) r →
          Member (flat_map (λ k. map (λ r. k ∷ r) (rings c)) ks) (k ∷ r)
      of_keys [] h m = absurd h
      of_keys (x ∷ ks) (inl q) m = rw q (member_left _ _ _ (member_map (λ r. x ∷ r) (rings c) r m))
      of_keys (x ∷ ks) (inr h) m = member_right (map (λ r. x ∷ r) (rings c)) _ _ (of_keys ks h m)

  pub sum_step : (f : List ℕ → ℕ) (c : ℕ) → sum f (rings (suc c)) ≡ sum (λ k. sum (λ r. f (k ∷ r)) (rings c)) keys
  unfolding rings
  sum_step f c = sum_joined f (λ k r. k ∷ r) keys (rings c)

  pub sum_rings_const : (n c : ℕ) → sum (λ r. n) (rings c) ≡ n * length keys ^ c
  unfolding rings
  sum_rings_const n zero = add-zero n ∙ sym (ap (λ p. n * p) (pow-zero (length keys)) ∙ mul-one n)
  sum_rings_const n (suc c) =
      sum_step (λ r. n) c
      ∙ sum_same _ _ keys (λ k. sum_rings_const n c)
      ∙ sum_const (n * length keys ^ c) keys
      ∙ mul_assoc n (length keys ^ c) (length keys)
      ∙ ap (λ p. n * p) (sym (pow-suc (length keys) c))

  pub rings_length : (c : ℕ) → length (rings c) ≡ length keys ^ c
  rings_length c = sym (one-mul _) ∙ sym (sum_const 1 (rings c)) ∙ sum_rings_const 1 c ∙ one-mul _

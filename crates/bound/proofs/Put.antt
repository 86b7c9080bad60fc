-- A ring with one more subkey put in, and how it reads. Assumes nothing.
use Rattle.std.proofs.Common.{◌≡◌, ℕ, zero, suc, ◌<◌, ◌≤◌, ◌≢◌, List, [], ◌∷◌, length, get_or, refl, ap, arith}
use Rattle.std.specs.List.{AllByRecursion}

-- the ring with k put in at place c
unfoldable pub put : ℕ → ℕ → List ℕ → List ℕ
put zero k r = k ∷ r
put (suc c) k [] = k ∷ []
put (suc c) k (x ∷ r) = x ∷ put c k r

pub put_all : (P : ℕ → Type 0) (c k : ℕ) (r : List ℕ) → P k → AllByRecursion P r → AllByRecursion P (put c k r)
unfolding put
put_all P zero k r p all = (p, all)
put_all P (suc c) k [] p all = (p, tt)
put_all P (suc c) k (x ∷ r) p all = (all.0, put_all P c k r p all.1)

pub put_at : (c k : ℕ) (r : List ℕ) → c ≤ length r → get_or (put c k r) c 0 ≡ k
unfolding put
put_at zero k r h = refl
put_at (suc c) k [] h = absurd (omega arith)
put_at (suc c) k (x ∷ r) h = put_at c k r (omega arith)

pub put_before : (c k : ℕ) (r : List ℕ) (i : ℕ) → c ≤ length r → i < c → get_or (put c k r) i 0 ≡ get_or r i 0
unfolding put
put_before zero k r i h below = absurd (omega arith)
put_before (suc c) k [] i h below = absurd (omega arith)
put_before (suc c) k (x ∷ r) zero h below = refl
put_before (suc c) k (x ∷ r) (suc i) h below = put_before c k r i (omega arith) (omega arith)

pub put_behind : (c k : ℕ) (r : List ℕ) (i : ℕ) → c ≤ length r → c ≤ i → get_or (put c k r) (suc i) 0 ≡ get_or r i 0
unfolding put
put_behind zero k r i h above = refl
put_behind (suc c) k [] i h above = absurd (omega arith)
put_behind (suc c) k (x ∷ r) zero h above = absurd (omega arith)
put_behind (suc c) k (x ∷ r) (suc i) h above = put_behind c k r i (omega arith) (omega arith)

pub put_other : (c k k' : ℕ) (r : List ℕ) (i : ℕ) → c ≤ length r → i ≢ c → get_or (put c k r) i 0 ≡ get_or (put c k' r) i 0
unfolding put
put_other zero k k' r zero h i≢c = absurd (i≢c refl)
put_other zero k k' r (suc i) h i≢c = refl
put_other (suc c) k k' [] i h i≢c = absurd (omega arith)
put_other (suc c) k k' (x ∷ r) zero h i≢c = refl
put_other (suc c) k k' (x ∷ r) (suc i) h i≢c = put_other c k k' r i (omega arith) (λ e. i≢c (ap suc e))

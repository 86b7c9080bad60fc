-- At most as many rings pass a test as the sum over all rings says. Assumes nothing.
use Rattle.std.proofs.Common.{◌≡◌, ℕ, ◌≤◌, Bool, true, List, length, filter, subst, le_trans}
use Rattle.std.specs.List.{AllByRecursion}
use Rattle.std.proofs.ByRecursion.{All-weaker}
use Rattle.bound.specs.Counting.{AtMost}
use Rattle.bound.proofs.Members.{Member, member_kept, no_longer}
use Rattle.bound.proofs.Sums.{sum, one_if, kept_length}
use Rattle.bound.proofs.Rings.{rings, rings_member}

pub at_most_fewer : {X : Type 0} (P Q : X → Type 0) (k : ℕ) → ((x : X) → P x → Q x) → AtMost k Q → AtMost k P
at_most_fewer P Q k weaker at_most xs distinct all = at_most xs distinct (All-weaker P Q weaker xs all)

pub at_most_up : {X : Type 0} (P : X → Type 0) (j k : ℕ) → j ≤ k → AtMost j P → AtMost k P
at_most_up P j k le at_most xs distinct all = le_trans (at_most xs distinct all) le

-- a ring of c subkeys, each of them good, that passes
abbrev pub Passes : (ℕ → Type 0) → ℕ → (List ℕ → Bool) → List ℕ → Type 0
Passes Good c test r = (length r ≡ c) × AllByRecursion Good r × (test r ≡ true)

pub at_most_sum : (keys : List ℕ) (Good : ℕ → Type 0) → ((k : ℕ) → Good k → Member keys k) →
    (c : ℕ) (test : List ℕ → Bool) → AtMost (sum (λ r. one_if (test r)) (rings keys c)) (Passes Good c test)
at_most_sum keys Good listed c test rs distinct all =
    subst (λ n. length rs ≤ n) (kept_length test (rings keys c))
    (no_longer rs (filter test (rings keys c)) distinct (All-weaker _ _ member rs all))
  where
    member : (r : List ℕ) → Passes Good c test r → Member (filter test (rings keys c)) r
    member r (l, good, passes) =
        member_kept test (rings keys c) r passes (rings_member keys c r l (All-weaker Good (Member keys) listed r good))

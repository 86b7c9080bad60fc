-- Over a field of N elements there are N ^ c rings of c subkeys. Assumes nothing.
use Rattle.std.proofs.Common.{◌≡◌, ℕ, ◌^◌, ◌≤◌, List, length, ap, ◌∙◌, subst, arith}
use Rattle.std.specs.List.{range_with_len, AllByRecursion}
use Rattle.std.proofs.lemmas.List.FromFn.{length-range_with_len}
use Rattle.std.proofs.ByRecursion.{All-weaker}
use Rattle.field.specs.Model.{Model}
use Rattle.field.specs.Laws.{Element}
use Rattle.bound.specs.Counting.{Exactly}
use Rattle.bound.specs.Bound.{Ring}
use Rattle.bound.proofs.Members.{Member, no_longer}
use Rattle.bound.proofs.Rings.{rings, rings_all, rings_distinct, rings_length, rings_member}
use Rattle.bound.proofs.Keys.{counting_within, counting_distinct, counting_member}

module _ (m : Model) (c : ℕ) where
  all_keys : List ℕ
  all_keys = range_with_len 0 m.size

  all_keys_below : AllByRecursion (Element m) all_keys
  unfolding all_keys
  all_keys_below = All-weaker _ (Element m) (λ k h. omega arith) all_keys (counting_within 0 m.size)

  size : length (rings all_keys c) ≡ m.size ^ c
  unfolding all_keys
  size = rings_length all_keys c ∙ ap (λ n. n ^ c) (length-range_with_len 0 m.size)

  listed : (k : ℕ) → Element m k → Member all_keys k
  unfolding all_keys
  listed k h = counting_member 0 m.size k (omega arith) (omega arith)

  member : (r : List ℕ) → Ring m c r → Member (rings all_keys c) r
  member r (l, elements) = rings_member all_keys c r l (All-weaker (Element m) (Member all_keys) listed r elements)

  pub rings_in_all : Exactly (m.size ^ c) (Ring m c)
  unfolding all_keys
  rings_in_all = (
    λ rs distinct all.
        let members = All-weaker (Ring m c) (Member (rings all_keys c)) member rs all in
        subst (λ n. length rs ≤ n) size (no_longer rs (rings all_keys c) distinct members),
    (
      rings all_keys c,
      rings_distinct all_keys (counting_distinct 0 m.size) c,
      rings_all all_keys (Element m) all_keys_below c,
      size,
    ),
  )

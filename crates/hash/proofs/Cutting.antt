-- A list cut into pieces of k from the front. Assumes nothing.
use Rattle.std.proofs.Common.{◌≡◌, ℕ, ◌+◌, ◌*◌, ◌≤◌, min, ◌⊎◌, List, [], ◌++◌, length, take, drop, sym, ap, ◌∙◌, inl, inr, append-nil, mul-one, mul-add, arith}
use Rattle.std.proofs.lemmas.List.{length-append, take_at, drop_at, take_all, drop_all, drop-drop, nil_from_length}
use Rattle.std.proofs.lemmas.Bool.{cases_lt}

-- what comes first, as long as it can be up to k, is all that there is, or has k elements
pub all_or_full : {X : Type 0} (xs piece rest : List X) (k : ℕ) → xs ≡ piece ++ rest → length piece ≡ min k (length xs)
    → ((rest ≡ []) × (xs ≡ piece)) ⊎ (length piece ≡ k)
all_or_full {X} xs piece rest k is long =
    let both = ap length is ∙ length-append piece rest in
    elim (cases_lt (length xs) k) [
      | inl few ↦
          let none : rest ≡ [] = nil_from_length rest (omega arith) in
          inl (none, is ∙ ap (λ (ys : List X). piece ++ ys) none ∙ append-nil piece)
      | inr enough ↦ inr (omega arith)
    ]

-- so it is the front of k
pub cut : {X : Type 0} (xs piece rest : List X) (k : ℕ) → xs ≡ piece ++ rest → length piece ≡ min k (length xs)
    → (piece ≡ take k xs) × (rest ≡ drop k xs)
cut xs piece rest k is long = elim (all_or_full xs piece rest k is long) [
  | inl all ↦
      let short : length xs ≤ k = omega (arith, ap length all.1) in
      (sym all.1 ∙ sym (take_all k xs short), all.0 ∙ sym (drop_all k xs short))
  | inr full ↦ (sym (ap (take k) is ∙ take_at piece rest k full), sym (ap (drop k) is ∙ drop_at piece rest k full))
]

-- the piece behind i pieces, and what follows it
pub cut_next : {X : Type 0} (xs piece rest : List X) (k i : ℕ)
    → drop (k * i) xs ≡ piece ++ rest → length piece ≡ min k (length (drop (k * i) xs))
    → (piece ≡ take k (drop (k * i) xs)) × (rest ≡ drop (k * (i + 1)) xs)
cut_next xs piece rest k i is long =
    let here = cut (drop (k * i) xs) piece rest k is long in
    let on : k * i + k ≡ k * (i + 1) = omega (arith, mul-add k i 1, mul-one k) in
    (here.0, here.1 ∙ drop-drop k (k * i) xs ∙ ap (λ (n : ℕ). drop n xs) on)

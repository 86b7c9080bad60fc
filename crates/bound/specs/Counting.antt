-- How many things have a property, said of lists of different things. Assumes nothing.
use Rattle.std.specs.Prelude.{◌≡◌, ℕ, ◌≤◌, ◌≢◌, List, [], ◌∷◌, length}
use Rattle.std.specs.List.{AllByRecursion}

-- no two of the list are equal
abbrev pub Distinct : {X : Type 0} → List X → Type 0
Distinct [] = Unit {0}
Distinct (x ∷ xs) = AllByRecursion (λ y. x ≢ y) xs × Distinct xs

-- at most k things have the property: no list of different ones is longer
abbrev pub AtMost : {X : Type 0} → ℕ → (X → Type 0) → Type 0
AtMost {X} k P = (xs : List X) → Distinct xs → AllByRecursion P xs → length xs ≤ k

-- and some list of different ones is as long
abbrev pub Exactly : {X : Type 0} → ℕ → (X → Type 0) → Type 0
Exactly {X} k P = AtMost k P × ((xs : List X) × Distinct xs × AllByRecursion P xs × (length xs ≡ k))

-- Lists of different things, made from such lists. Assumes nothing.
use Rattle.std.proofs.Common.{◌≡◌, Bool, true, false, cond, ◌≢◌, List, [], ◌∷◌, ◌++◌, map, filter}
use Rattle.std.specs.List.{flat_map, AllByRecursion}
use Rattle.std.proofs.ByRecursion.{All-append, All-map, All-weaker, all_kept_by}
use Rattle.bound.specs.Counting.{Distinct}
use Rattle.bound.proofs.Each.{all_always, all_joined}

distinct_append : {X : Type 0} (xs ys : List X) → Distinct xs → Distinct ys → AllByRecursion (λ x. AllByRecursion (λ y. x ≢ y) ys) xs →
    Distinct (xs ++ ys)
distinct_append [] ys dx dy apart = dy
distinct_append (x ∷ xs) ys dx dy apart =
    (All-append (λ y. x ≢ y) xs ys dx.0 apart.0, distinct_append xs ys dx.1 dy apart.1)

pub distinct_map : {X Y : Type 0} (f : X → Y) → ((x y : X) → f x ≡ f y → x ≡ y) → (xs : List X) → Distinct xs →
    Distinct (map f xs)
distinct_map f injective [] d = tt
distinct_map f injective (x ∷ xs) d = (
  All-map (λ y. f x ≢ y) f xs (All-weaker (λ y. x ≢ y) (λ y. f x ≢ f y) (λ y ne e. ne (injective x y e)) xs d.0),
  distinct_map f injective xs d.1,
)

pub distinct_joined : {X Y Z : Type 0} (g : X → Y → Z) →
    ((x x' : X) (y y' : Y) → g x y ≡ g x' y' → (x ≡ x') × (y ≡ y')) → (xs : List X) (ys : List Y) →
    Distinct xs → Distinct ys → Distinct (flat_map (λ x. map (g x) ys) xs)
distinct_joined g injective [] ys dx dy = tt
distinct_joined {X} {Y} {Z} g injective (x ∷ xs) ys dx dy =
    distinct_append (map (g x) ys) (flat_map (λ x. map (g x) ys) xs)
    (distinct_map (g x) (λ y y' e. (injective x x y y' e).1) ys dy)
    (distinct_joined g injective xs ys dx.1 dy)
    (All-map (λ z. AllByRecursion (λ z'. z ≢ z') (flat_map (λ x. map (g x) ys) xs)) (g x) ys (all_always _ apart ys))
  where
    apart : (y : Y) → AllByRecursion (λ z. g x y ≢ z) (flat_map (λ x. map (g x) ys) xs)
    apart y =
        all_joined (λ x'. x ≢ x') (λ y'. Unit) (λ z. g x y ≢ z) g (λ x' y' ne u e. ne (injective x x' y y' e).0)
        xs ys dx.0 (all_always (λ y'. Unit) (λ y'. tt) ys)

pub distinct_kept : {X : Type 0} (p : X → Bool) (xs : List X) → Distinct xs → Distinct (filter p xs)
distinct_kept p [] d = tt
distinct_kept {X} p (x ∷ xs) d =
    kept_or_not (p x) (filter p xs) (all_kept_by p (λ y. x ≢ y) xs d.0) (distinct_kept p xs d.1)
  where
    kept_or_not : (b : Bool) (ys : List X) → AllByRecursion (λ y. x ≢ y) ys → Distinct ys → Distinct (cond b (x ∷ ys) ys)
    kept_or_not true ys apart dy = (apart, dy)
    kept_or_not false ys apart dy = dy

-- What holds of each thing of a list. Assumes nothing.
use Rattle.std.proofs.Common.{ℕ, zero, suc, List, [], ◌∷◌, map, get_or}
use Rattle.std.specs.List.{flat_map, AllByRecursion}
use Rattle.std.proofs.ByRecursion.{All-append, All-map, All-weaker}

pub all_always : {X : Type 0} (P : X → Type 0) → ((x : X) → P x) → (xs : List X) → AllByRecursion P xs
all_always P h [] = tt
all_always P h (x ∷ xs) = (h x, all_always P h xs)

pub all_both : {X : Type 0} (P Q : X → Type 0) (xs : List X) → AllByRecursion P xs → AllByRecursion Q xs → AllByRecursion (λ x. P x × Q x) xs
all_both P Q [] p q = tt
all_both P Q (x ∷ xs) p q = ((p.0, q.0), all_both P Q xs p.1 q.1)

-- of each x with each y
pub all_joined : {X Y Z : Type 0} (P : X → Type 0) (Q : Y → Type 0) (R : Z → Type 0) (g : X → Y → Z) →
    ((x : X) (y : Y) → P x → Q y → R (g x y)) → (xs : List X) (ys : List Y) → AllByRecursion P xs → AllByRecursion Q ys →
    AllByRecursion R (flat_map (λ x. map (g x) ys) xs)
all_joined P Q R g both [] ys p q = tt
all_joined P Q R g both (x ∷ xs) ys p q =
    All-append R (map (g x) ys) (flat_map (λ x. map (g x) ys) xs)
    (All-map R (g x) ys (All-weaker Q (λ y. R (g x y)) (λ y. both x y p.0) ys q))
    (all_joined P Q R g both xs ys p.1 q)

-- and of what stands for a thing past the end
pub all_get_or_default : {X : Type 0} (P : X → Type 0) (xs : List X) (i : ℕ) (d : X) → AllByRecursion P xs → P d → P (get_or xs i d)
all_get_or_default P [] i d all p = p
all_get_or_default P (x ∷ xs) zero d all p = all.0
all_get_or_default P (x ∷ xs) (suc i) d all p = all_get_or_default P xs i d all.1 p

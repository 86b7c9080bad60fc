-- Sums over a list: added, multiplied, compared, and put in another order. Assumes nothing.
use Rattle.std.proofs.Common.{◌≡◌, ℕ, ◌+◌, ◌*◌, ◌≤◌, Bool, true, false, cond, List, [], ◌∷◌, ◌++◌, map, length, filter, sym, refl, ap, ◌∙◌, zero-le, le_refl, add-mul, mul-zero, zero-mul, arith}
use Rattle.std.proofs.Math.Path.{fun_ext}
use Rattle.std.specs.List.{flat_map, AllByRecursion}

abbrev pub sum : {X : Type 0} → (X → ℕ) → List X → ℕ
sum f [] = 0
sum f (x ∷ xs) = f x + sum f xs

pub sum_same : {X : Type 0} (f g : X → ℕ) (xs : List X) → ((x : X) → f x ≡ g x) → sum f xs ≡ sum g xs
sum_same {X} f g xs e = ap (λ (h : X → ℕ). sum h xs) (fun_ext e)

pub sum_add : {X : Type 0} (f g : X → ℕ) (xs : List X) → sum (λ x. f x + g x) xs ≡ sum f xs + sum g xs
sum_add f g [] = refl
sum_add f g (x ∷ xs) = omega (arith, sum_add f g xs)

pub sum_scale : {X : Type 0} (f : X → ℕ) (n : ℕ) (xs : List X) → sum (λ x. f x * n) xs ≡ sum f xs * n
sum_scale f n [] = sym (zero-mul n)
sum_scale f n (x ∷ xs) = ap (λ s. f x * n + s) (sum_scale f n xs) ∙ sym (add-mul (f x) (sum f xs) n)

pub sum_const : {X : Type 0} (n : ℕ) (xs : List X) → sum (λ x. n) xs ≡ n * length xs
sum_const n [] = sym (mul-zero n)
sum_const n (x ∷ xs) = omega (arith, sum_const n xs)

pub sum_le : {X : Type 0} (P : X → Type 0) (f g : X → ℕ) → ((x : X) → P x → f x ≤ g x) →
    (xs : List X) → AllByRecursion P xs → sum f xs ≤ sum g xs
sum_le P f g le [] all = le_refl _
sum_le P f g le (x ∷ xs) all = omega (arith, le x all.0, sum_le P f g le xs all.1)

sum_append : {X : Type 0} (f : X → ℕ) (xs ys : List X) → sum f (xs ++ ys) ≡ sum f xs + sum f ys
sum_append f [] ys = omega arith
sum_append f (x ∷ xs) ys = omega (arith, sum_append f xs ys)

sum_map : {X Y : Type 0} (f : X → ℕ) (g : Y → X) (ys : List Y) → sum f (map g ys) ≡ sum (λ y. f (g y)) ys
sum_map f g [] = refl
sum_map f g (y ∷ ys) = ap (λ s. f (g y) + s) (sum_map f g ys)

-- over each x with each y
pub sum_joined : {X Y Z : Type 0} (f : Z → ℕ) (g : X → Y → Z) (xs : List X) (ys : List Y) →
    sum f (flat_map (λ x. map (g x) ys) xs) ≡ sum (λ x. sum (λ y. f (g x y)) ys) xs
sum_joined f g [] ys = refl
sum_joined f g (x ∷ xs) ys =
    omega (arith, sum_append f (map (g x) ys) (flat_map (λ x. map (g x) ys) xs), sum_map f (g x) ys, sum_joined f g xs ys)

pub sum_swap : {X Y : Type 0} (f : X → Y → ℕ) (xs : List X) (ys : List Y) →
    sum (λ x. sum (f x) ys) xs ≡ sum (λ y. sum (λ x. f x y) xs) ys
sum_swap f [] ys = sym (sum_const 0 ys ∙ zero-mul (length ys))
sum_swap f (x ∷ xs) ys =
    ap (λ s. sum (f x) ys + s) (sum_swap f xs ys) ∙ sym (sum_add (f x) (λ y. sum (λ x. f x y) xs) ys)

abbrev pub one_if : Bool → ℕ
one_if true = 1
one_if false = 0

one_if_le : (b : Bool) → one_if b ≤ 1
one_if_le true = le_refl _
one_if_le false = zero-le

pub count_le : {X : Type 0} (p : X → Bool) (xs : List X) → sum (λ x. one_if (p x)) xs ≤ length xs
count_le p [] = zero-le
count_le p (x ∷ xs) = omega (arith, one_if_le (p x), count_le p xs)

pub kept_length : {X : Type 0} (p : X → Bool) (xs : List X) → length (filter p xs) ≡ sum (λ x. one_if (p x)) xs
kept_length {X} p [] = refl
kept_length {X} p (x ∷ xs) = kept_or_not (p x) (filter p xs) ∙ ap (λ n. one_if (p x) + n) (kept_length p xs)
  where
    kept_or_not : (b : Bool) (ys : List X) → length (cond b (x ∷ ys) ys) ≡ one_if b + length ys
    kept_or_not true ys = omega arith
    kept_or_not false ys = omega arith

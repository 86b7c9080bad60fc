-- What is among a list, and what holds of all of it. Assumes nothing.
use Rattle.std.proofs.Common.{◌⊎◌, List, [], ◌∷◌, sym, refl, subst, inl, inr}
use Rattle.std.specs.List.{AllByRecursion}
use Rattle.seal.specs.Sealing.{Among}

pub all_among : {X : Type 0} (P : X → Type 0) (xs : List X) (x : X) → AllByRecursion P xs → Among x xs → P x
all_among P [] x all i = absurd i
all_among P (y ∷ ys) x all i = elim i [ inl e ↦ subst P (sym e) all.0 | inr j ↦ all_among P ys x all.1 j ]

pub all_from_among : {X : Type 0} (P : X → Type 0) (xs : List X) → ((x : X) → Among x xs → P x) → AllByRecursion P xs
all_from_among P [] f = tt
all_from_among P (y ∷ ys) f = (f y (inl refl), all_from_among P ys (λ x i. f x (inr i)))

-- where P can be told, some of a list has it or none has
pub some_or_none : {X : Type 0} (P : X → Type 0) → ((x : X) → P x ⊎ (P x → ⊥)) → (xs : List X) →
    ((x : X) × Among x xs × P x) ⊎ ((x : X) → Among x xs → P x → ⊥)
some_or_none P told [] = inr (λ x i. absurd i)
some_or_none P told (y ∷ ys) =
    elim (told y) [
      | inl p ↦ inl (y, inl refl, p)
      | inr n ↦ elim (some_or_none P told ys) [
        | inl w ↦ inl (w.0, inr w.1, w.2)
        | inr m ↦ inr (λ x i p. elim i [ inl e ↦ n (subst P e p) | inr j ↦ m x j p ])
      ]
    ]

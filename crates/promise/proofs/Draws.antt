-- Held draws: what is left without one. Assumes nothing.
use Rattle.std.proofs.Common.{◌≡◌, ℕ, ◌+◌, true, eqb, ◌≢◌, List, [], ◌∷◌, length, sym, inl, inr, arith}
use Rattle.std.specs.List.{AllByRecursion}
use Rattle.std.proofs.lemmas.Bool.{cond_both, eqb-true, eqb-false, or_cases, false≢true}
use Rattle.bound.specs.Counting.{Distinct}
use Rattle.seal.specs.Sealing.{Among}
use Rattle.promise.specs.Draws.{holds, without}
use Rattle.promise.proofs.Among.{all_among}

pub among_from_holds : (d : ℕ) (ds : List ℕ) → holds d ds ≡ true → Among d ds
among_from_holds d [] h = absurd (false≢true h)
among_from_holds d (e ∷ es) h =
    elim (or_cases (eqb e d) (holds d es) h) [
      | inl p ↦ inl (sym (eqb-true e d p))
      | inr q ↦ inr (among_from_holds d es q)
    ]

-- what follows of the list without d, from both ways that its first draw can go
split : (P : List ℕ → Type 0) (d e : ℕ) (es : List ℕ) → (e ≡ d → P es) → (e ≢ d → P (e ∷ without d es)) →
    P (without d (e ∷ es))
split P d e es same other =
    cond_both (eqb e d) es (e ∷ without d es) P (λ t. same (eqb-true e d t)) (λ t. other (eqb-false e d t))

pub among_without : (d x : ℕ) (ds : List ℕ) → Among x (without d ds) → Among x ds
among_without d x [] i = i
among_without d x (e ∷ es) here =
    split (λ l. Among x l → Among x (e ∷ es)) d e es (λ same i. inr i)
    (λ other i. elim i [ inl p ↦ inl p | inr j ↦ inr (among_without d x es j) ]) here

pub all_without : (P : ℕ → Type 0) (d : ℕ) (ds : List ℕ) → AllByRecursion P ds → AllByRecursion P (without d ds)
all_without P d [] all = tt
all_without P d (e ∷ es) all =
    split (AllByRecursion P) d e es (λ same. all.1) (λ other. (all.0, all_without P d es all.1))

pub distinct_without : (d : ℕ) (ds : List ℕ) → Distinct ds → Distinct (without d ds)
distinct_without d [] once = tt
distinct_without d (e ∷ es) once =
    split Distinct d e es (λ same. once.1)
    (λ other. (all_without (λ y. e ≢ y) d es once.0, distinct_without d es once.1))

pub not_among_without : (d : ℕ) (ds : List ℕ) → Distinct ds → Among d (without d ds) → ⊥
not_among_without d [] once i = i
not_among_without d (e ∷ es) once here =
    split (λ l. Among d l → ⊥) d e es (λ same i. all_among (λ y. e ≢ y) es d once.0 i same)
    (λ other i. elim i [ inl p ↦ other (sym p) | inr j ↦ not_among_without d es once.1 j ]) here

pub length_without : (d : ℕ) (ds : List ℕ) → Among d ds → length ds ≡ length (without d ds) + 1
length_without d [] i = absurd i
length_without d (e ∷ es) i =
    split (λ l. length (e ∷ es) ≡ length l + 1) d e es (λ same. omega arith)
    (λ other. elim i [ inl p ↦ absurd (other (sym p)) | inr j ↦ omega (arith, length_without d es j) ])

-- Two functions of a key that are different polynomials agree at no more keys than their degree. Assumes nothing.
use Rattle.std.proofs.Common.{◌≡◌, ℕ, suc, ◌≤◌, Bool, true, eqb, List, length, filter, sym, ◌∙◌, arith}
use Rattle.std.proofs.Math.Decide.{dec_le}
use Rattle.std.specs.List.{AllByRecursion}
use Rattle.std.proofs.ByRecursion.{all_kept_by, kept_by_passes}
use Rattle.std.proofs.lemmas.Bool.{eqb-true}
use Rattle.field.specs.Model.{Model}
use Rattle.field.specs.Laws.{Element}
use Rattle.bound.specs.Counting.{Distinct}
use Rattle.bound.proofs.Domain.{Domain}
use Rattle.bound.proofs.Roots.{eval, Zeros}
use Rattle.bound.proofs.Differences.{minus, same_coefficients}
use Rattle.bound.proofs.Apart.{distinct_kept}
use Rattle.bound.proofs.Sums.{sum, one_if, kept_length}
use Rattle.bound.proofs.Elements.{El, same, els, els_length, els_all, els_distinct}

module _ (m : Model) {𝟘 𝟙 : El m} {plus times : El m → El m → El m} {neg : El m → El m}
    (D : Domain (El m) 𝟘 𝟙 plus times neg) where
  -- the function's value at every element is the polynomial's
  abbrev pub IsPolynomial : (ℕ → ℕ) → List (El m) → Type 0
  IsPolynomial f ps = (x : El m) → f x.0 ≡ (eval D ps x).0

  pub agree_seldom : (keys : List ℕ) → Distinct keys → AllByRecursion (Element m) keys →
      (d : ℕ) (f g : ℕ → ℕ) (ps qs : List (El m)) → IsPolynomial f ps → IsPolynomial g qs →
      length ps ≤ suc d → length qs ≤ suc d → (Zeros D (minus D ps qs) → ⊥) →
      sum (λ k. one_if (eqb (f k) (g k))) keys ≤ d
  agree_seldom keys distinct elements d f g ps qs f_is g_is hp hq differ =
      elim (dec_le (length kept) d) [ yes few ↦ rw (kept_length agrees keys) at few | no many ↦ absurd (too_many many) ]
    where
      agrees : ℕ → Bool
      agrees k = eqb (f k) (g k)

      kept : List ℕ
      kept = filter agrees keys

      kept_elements : AllByRecursion (Element m) kept
      kept_elements = all_kept_by agrees (Element m) keys elements

      row : List (El m)
      row = els m kept kept_elements

      row_distinct : Distinct row
      row_distinct = els_distinct m kept kept_elements (distinct_kept agrees keys distinct)

      row_agrees : AllByRecursion (λ x. eval D ps x ≡ eval D qs x) row
      row_agrees =
          els_all m (λ k. agrees k ≡ true) (λ x. eval D ps x ≡ eval D qs x)
          (λ x e. same m _ _ (sym (f_is x) ∙ eqb-true _ _ e ∙ g_is x))
          kept kept_elements (kept_by_passes agrees keys)

      too_many : (length kept ≤ d → ⊥) → ⊥
      too_many many =
          let row_length = els_length m kept kept_elements in
          differ (same_coefficients D row ps qs row_distinct row_agrees (omega arith) (omega arith))

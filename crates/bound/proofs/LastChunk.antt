-- A text's hash in the subkey of its last chunk has the text's length for its constant coefficient. Assumes nothing.
use Rattle.std.proofs.Common.{◌≡◌, ℕ, suc, ◌*◌, ◌≤◌, eqb, ◌≢◌, List, [], ◌∷◌, length, sym, refl, ap, ◌∙◌, subst, zero-le, arith}
use Rattle.std.specs.List.{AllByRecursion}
use Rattle.field.specs.Model.{Model}
use Rattle.field.specs.Laws.{Element, FieldLaws}
use Rattle.hash.specs.Texts.{chunk_blocks, chunk_count}
use Rattle.hash.specs.Hash.{hash_of}
use Rattle.bound.specs.Counting.{Distinct}
use Rattle.bound.specs.Bound.{OnlyZeroMakesZero, Text}
use Rattle.bound.proofs.Domain.{minus_zero, times_zero}
use Rattle.bound.proofs.Roots.{eval}
use Rattle.bound.proofs.Differences.{minus}
use Rattle.bound.proofs.OneSubkey.{others_length, last_constant}
use Rattle.bound.proofs.Sums.{sum, one_if}
use Rattle.bound.proofs.Put.{put}
use Rattle.bound.proofs.Elements.{El, el, el_own, plus, domain}
use Rattle.bound.proofs.Agreement.{IsPolynomial, agree_seldom}
use Rattle.bound.proofs.Chunks.{Cut, fullest, cut_fullest, cut_last}
use Rattle.bound.proofs.Hashes.{blocks}
use Rattle.bound.proofs.HashPolynomial.{rest, entry, constant_of, others_of, hash_polynomial}

module _ {m : Model} (F : FieldLaws m) (Z : OnlyZeroMakesZero m) where
  -- the function is a polynomial of degree d at most with the constant coefficient v
  abbrev pub HasConstant : (ℕ → ℕ) → ℕ → ℕ → Type 0
  HasConstant f v d = (ps : List (El m)) × IsPolynomial m (domain F Z) f (el F v ∷ ps) × (length ps ≤ d)

  pub number_has_constant : (v d : ℕ) → Element m v → HasConstant (λ k. v) v d
  unfolding eval
  number_has_constant v d element = ([], value, zero-le)
    where
      value : IsPolynomial m (domain F Z) (λ k. v) (el F v ∷ [])
      value x =
          let only = ap (plus F (el F v)) (times_zero (domain F Z) x) ∙ (domain F Z).plus_zero (el F v) in
          sym (el_own F v element) ∙ sym (ap (λ (y : El m). y.0) only)

  pub hash_has_constant : (c : ℕ) (r : List ℕ) → c ≤ length r → AllByRecursion (Element m) r → (text : List ℕ) → Text text →
      chunk_count text ≡ suc c → (d : ℕ) → fullest text ≤ d →
      HasConstant (λ k. hash_of m (put c k r) text) (length text) d
  hash_has_constant c r place elements text t e d most =
      (ps, subst IsHash first (hash_polynomial F Z c r place elements text t (suc i) 0 cut X refl), few)
    where
      i : ℕ
      i = (cut_last text c e).0

      cut : Cut text c (suc i) 0
      cut = (cut_last text c e).1

      X : El m
      X = entry F Z c r text

      ps : List (El m)
      ps = others_of F Z c r text X (suc i) 0

      IsHash : El m → Type 0
      IsHash v = IsPolynomial m (domain F Z) (λ k. hash_of m (put c k r) text) (v ∷ ps)

      first : constant_of F Z c r text X (suc i) 0 ≡ el F (length text)
      first = last_constant (domain F Z) (blocks F text) (rest F Z c r) X (el F (length text)) (chunk_blocks * c) i

      few : length ps ≤ d
      few =
          let degree = others_length (domain F Z) (blocks F text) (rest F Z c r) X (chunk_blocks * c) (suc i) 0 in
          omega (arith, degree, cut_fullest text c (suc i) 0 cut)

  pub constants_differ : (keys : List ℕ) → Distinct keys → AllByRecursion (Element m) keys → (d : ℕ) (f g : ℕ → ℕ) (v w : ℕ) →
      Element m v → Element m w → v ≢ w → HasConstant f v d → HasConstant g w d →
      sum (λ k. one_if (eqb (f k) (g k))) keys ≤ d
  unfolding minus
  constants_differ keys distinct elements d f g v w v_element w_element v≢w (ps, f_is, hp) (qs, g_is, hq) =
      agree_seldom m (domain F Z) keys distinct elements d f g (el F v ∷ ps) (el F w ∷ qs) f_is g_is
      (omega arith) (omega arith) (λ zeros. v≢w (same_numbers (minus_zero (domain F Z) _ _ zeros.0)))
    where
      same_numbers : el F v ≡ el F w → v ≡ w
      same_numbers e = sym (el_own F v v_element) ∙ ap (λ (x : El m). x.0) e ∙ el_own F w w_element

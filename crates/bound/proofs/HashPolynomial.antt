-- A text's hash, as the subkey at one place of the ring varies, is a polynomial in that subkey. Assumes nothing.
use Rattle.std.proofs.Common.{◌≡◌, ℕ, ◌+◌, ◌*◌, ◌≤◌, ◌≢◌, List, ◌∷◌, length, get_or, ap, ◌∙◌, arith}
use Rattle.std.specs.List.{AllByRecursion}
use Rattle.field.specs.Model.{Model}
use Rattle.field.specs.Laws.{Element, FieldLaws}
use Rattle.hash.specs.Texts.{chunk_blocks, chunk_of}
use Rattle.hash.specs.Hash.{hash_of}
use Rattle.bound.specs.Bound.{OnlyZeroMakesZero, Text}
use Rattle.bound.proofs.Roots.{eval}
use Rattle.bound.proofs.Horner.{run}
use Rattle.bound.proofs.OneSubkey.{DiffersAt, constant, others, run_polynomial}
use Rattle.bound.proofs.Elements.{El, el, el_of, plus, domain}
use Rattle.bound.proofs.Agreement.{IsPolynomial}
use Rattle.bound.proofs.Put.{put, put_all, put_at, put_other}
use Rattle.bound.proofs.Chunks.{Cut, chunk_before, chunk_within, chunk_behind}
use Rattle.bound.proofs.Hashes.{blocks, subkeys, hash_value}

module _ {m : Model} (F : FieldLaws m) (Z : OnlyZeroMakesZero m) (c : ℕ) (r : List ℕ) where
  -- the subkeys of the blocks, with zero at place c
  abbrev pub rest : ℕ → El m
  rest = subkeys F (put c 0 r)

  -- what the blocks before chunk c make
  abbrev pub entry : List ℕ → El m
  entry text = run (domain F Z) (blocks F text) rest (chunk_blocks * c)

  -- the coefficients, where the blocks before chunk c make X
  abbrev pub constant_of : List ℕ → El m → (i l : ℕ) → El m
  constant_of text X i l = constant (domain F Z) (blocks F text) rest X (el F (length text)) (chunk_blocks * c) i l

  abbrev pub others_of : List ℕ → El m → (i l : ℕ) → List (El m)
  others_of text X i l = others (domain F Z) (blocks F text) rest X (chunk_blocks * c) i l

  abbrev pub coefficients : List ℕ → El m → (i l : ℕ) → List (El m)
  coefficients text X i l = constant_of text X i l ∷ others_of text X i l

  differs_at : c ≤ length r → (text : List ℕ) (i l : ℕ) → Cut text c i l → (k : El m) →
      DiffersAt (domain F Z) (subkeys F (put c k.0 r)) rest k (chunk_blocks * c) i l
  differs_at place text i l cut k = record {
    before = λ j h. elsewhere j (omega (arith, chunk_before c j h));
    within = λ j h. here (chunk_blocks * c + j) (chunk_within c j (omega arith));
    behind = λ j h. elsewhere (chunk_blocks * c + i + j) (omega (arith, chunk_behind text c i l j cut h));
  }
    where
      here : (j : ℕ) → chunk_of j ≡ c → subkeys F (put c k.0 r) j ≡ k
      here j e = ap (λ n. el F (get_or (put c k.0 r) n 0)) e ∙ ap (el F) (put_at c k.0 r place) ∙ el_of F k

      elsewhere : (j : ℕ) → chunk_of j ≢ c → subkeys F (put c k.0 r) j ≡ rest j
      elsewhere j ne = ap (el F) (put_other c k.0 0 r (chunk_of j) place ne)

  pub hash_polynomial : c ≤ length r → AllByRecursion (Element m) r → (text : List ℕ) → Text text → (i l : ℕ) → Cut text c i l →
      (X : El m) → entry text ≡ X →
      IsPolynomial m (domain F Z) (λ k. hash_of m (put c k r) text) (coefficients text X i l)
  hash_polynomial place elements text t i l cut X start k =
      hash_value F Z (put c k.0 r) text (put_all (Element m) c k.0 r k.1 elements) t
      ∙ ap (λ (x : El m). x.0) (ap to_the_end cut.whole ∙ polynomial)
    where
      to_the_end : ℕ → El m
      to_the_end n = plus F (run (domain F Z) (blocks F text) (subkeys F (put c k.0 r)) n) (el F (length text))

      polynomial : to_the_end (chunk_blocks * c + i + l) ≡ eval (domain F Z) (coefficients text X i l) k
      polynomial =
          run_polynomial (domain F Z) (blocks F text) (subkeys F (put c k.0 r)) rest X k (el F (length text))
          (chunk_blocks * c) i l start (differs_at place text i l cut k)

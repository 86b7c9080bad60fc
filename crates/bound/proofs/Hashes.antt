-- The hash over the field's elements as a type. Assumes nothing.
use Rattle.std.proofs.Common.{◌≡◌, ℕ, zero, suc, List, length, sym, refl, subst, ap₂, arith}
use Rattle.std.specs.List.{AllByRecursion}
use Rattle.field.specs.Model.{Model}
use Rattle.field.specs.Laws.{Element, FieldLaws}
use Rattle.hash.specs.Texts.{block, block_count, chunk_of}
use Rattle.hash.specs.Hash.{subkey, after, hash_of}
use Rattle.bound.specs.Bound.{OnlyZeroMakesZero, Text}
use Rattle.bound.proofs.Each.{all_get_or_default}
use Rattle.bound.proofs.Horner.{run}
use Rattle.bound.proofs.Elements.{El, el, el_own, plus, domain}
use Rattle.bound.proofs.Texts.{block_below}

module _ {m : Model} (F : FieldLaws m) where
  pub block_element : (text : List ℕ) (j : ℕ) → Text text → Element m (block text j)
  block_element text j t = omega (arith, block_below text j t.1, F.many)

  pub length_element : (text : List ℕ) → Text text → Element m (length text)
  length_element text t = omega (arith, t.0, F.many)

  pub subkey_element : (ring : List ℕ) (j : ℕ) → AllByRecursion (Element m) ring → Element m (subkey ring j)
  subkey_element ring j elements =
      let zero_element : Element m 0 = omega (arith, F.many) in
      all_get_or_default (Element m) ring (chunk_of j) 0 elements zero_element

  -- the text's blocks and the subkeys that serve them, as elements
  abbrev pub blocks : List ℕ → ℕ → El m
  blocks text j = el F (block text j)

  abbrev pub subkeys : List ℕ → ℕ → El m
  subkeys ring j = el F (subkey ring j)

module _ {m : Model} (F : FieldLaws m) (Z : OnlyZeroMakesZero m) where
  run_value : (ring text : List ℕ) → AllByRecursion (Element m) ring → Text text → (n : ℕ) →
      after m ring text n ≡ (run (domain F Z) (blocks F text) (subkeys F ring) n).0
  unfolding run
  run_value ring text elements t zero = refl
  run_value ring text elements t (suc n) =
      ap₂ m.times
      (ap₂ m.plus (run_value ring text elements t n) (sym (el_own F _ (block_element F text n t))))
      (sym (el_own F _ (subkey_element F ring n elements)))

  abbrev pub hash_el : List ℕ → List ℕ → El m
  hash_el ring text =
      plus F (run (domain F Z) (blocks F text) (subkeys F ring) (block_count text)) (el F (length text))

  pub hash_value : (ring text : List ℕ) → AllByRecursion (Element m) ring → Text text → hash_of m ring text ≡ (hash_el ring text).0
  hash_value ring text elements t =
      ap₂ m.plus (run_value ring text elements t (block_count text)) (sym (el_own F _ (length_element F text t)))

  pub hash_element : (ring text : List ℕ) → AllByRecursion (Element m) ring → Text text → Element m (hash_of m ring text)
  hash_element ring text elements t = subst (Element m) (sym (hash_value ring text elements t)) (hash_el ring text).1

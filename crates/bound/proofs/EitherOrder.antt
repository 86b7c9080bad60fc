-- Rings of good subkeys under which two different texts share a hash, whichever text is longer. Assumes nothing.
use Rattle.std.proofs.Common.{◌≡◌, ℕ, zero, suc, ◌-◌, ◌*◌, ◌^◌, ◌≤◌, Bool, eqb, ◌≢◌, List, length, sym, ◌∙◌, arith}
use Rattle.std.proofs.Math.Decide.{dec_le}
use Rattle.std.specs.List.{AllByRecursion}
use Rattle.std.proofs.lemmas.List.{nil_from_length}
use Rattle.std.proofs.lemmas.Bool.{eq-eqb}
use Rattle.field.specs.Model.{Model}
use Rattle.field.specs.Laws.{Element, FieldLaws}
use Rattle.hash.specs.Texts.{chunk_count}
use Rattle.hash.specs.Hash.{hash_of}
use Rattle.bound.specs.Counting.{Distinct, AtMost}
use Rattle.bound.specs.Bound.{OnlyZeroMakesZero, Text, chunks}
use Rattle.bound.proofs.Members.{Member}
use Rattle.bound.proofs.Sums.{sum}
use Rattle.bound.proofs.Rings.{rings}
use Rattle.bound.proofs.Counts.{at_most_fewer, at_most_up, Passes, at_most_sum}
use Rattle.bound.proofs.Meets.{meets}
use Rattle.bound.proofs.Longer.{widest, longer}

-- a ring of c good subkeys under which the texts have the same hash
abbrev pub Meeting : Model → (ℕ → Type 0) → List ℕ → List ℕ → ℕ → List ℕ → Type 0
Meeting m Good a b c ring = ((length ring ≡ c) × AllByRecursion Good ring) × (hash_of m ring a ≡ hash_of m ring b)

-- there are few of them, out of K keys, and fewer where c is 1
abbrev pub FewMeetings : Model → (ℕ → Type 0) → ℕ → List ℕ → List ℕ → ℕ → Type 0
FewMeetings m Good K a b c =
    AtMost (2048 * K ^ (c - 1)) (Meeting m Good a b c) × (c ≡ 1 → AtMost (widest a b) (Meeting m Good a b c))

module _ {m : Model} (F : FieldLaws m) (Z : OnlyZeroMakesZero m)
    (keys : List ℕ) (distinct : Distinct keys) (elements : AllByRecursion (Element m) keys)
    (Good : ℕ → Type 0) (listed : (k : ℕ) → Good k → Member keys k) where
  at_most_meets : (a b : List ℕ) (c : ℕ) → AtMost (sum (meets m a b) (rings keys c)) (Meeting m Good a b c)
  at_most_meets a b c =
      at_most_fewer (Meeting m Good a b c) (Passes Good c same) _ (λ r h. (h.0.0, h.0.1, eq-eqb _ _ h.1))
      (at_most_sum keys Good listed c same)
    where
      same : List ℕ → Bool
      same r = eqb (hash_of m r a) (hash_of m r b)

  first_longer : (a b : List ℕ) → Text a → Text b → a ≢ b → (c : ℕ) → chunk_count a ≡ c → chunk_count b ≤ c →
      FewMeetings m Good (length keys) a b c
  first_longer a b ta tb a≢b zero ca cb =
      absurd (a≢b (nil_from_length a (omega arith) ∙ sym (nil_from_length b (omega arith))))
  first_longer a b ta tb a≢b (suc c) ca cb =
      let (few, few_in_one) = longer F Z keys distinct elements a b ta tb a≢b c ca cb in
      let less : suc c - 1 ≡ c = omega arith in (
        at_most_up (Meeting m Good a b (suc c)) _ _ (rw less few) (at_most_meets a b (suc c)),
        λ e. at_most_up (Meeting m Good a b (suc c)) _ _ (few_in_one (omega arith)) (at_most_meets a b (suc c)),
      )

  pub either_order : (a b : List ℕ) → Text a → Text b → a ≢ b →
      FewMeetings m Good (length keys) a b (chunks a b)
  either_order a b ta tb a≢b =
      elim (dec_le (chunk_count b) (chunk_count a)) [
        | yes le ↦ first_longer a b ta tb a≢b (chunks a b) (omega arith) (omega arith)
        | no gt ↦
            let b≢a : b ≢ a = λ e. a≢b (sym e) in
            let (few, few_in_one) = first_longer b a tb ta b≢a (chunks a b) (omega arith) (omega arith) in
            (turned few, λ e. at_most_up _ _ _ (omega arith) (turned (few_in_one e)))
      ]
    where
      turned : {k : ℕ} → AtMost k (Meeting m Good b a (chunks a b)) → AtMost k (Meeting m Good a b (chunks a b))
      turned = at_most_fewer _ _ _ (λ r h. (h.0, sym h.1))

-- The collision bound, over any field. Assumes nothing.
use Rattle.std.proofs.Common.{◌≡◌, ℕ, ◌+◌, ◌-◌, ◌*◌, ◌^◌, ◌<◌, ◌≤◌, Bool, true, false, cond, eqb, ◌≢◌, List, refl, ap, ◌∙◌, subst, mul-le-mul_right, arith}
use Rattle.std.proofs.Math.Nat.{pow-zero}
use Rattle.std.specs.List.{range_with_len, AllByRecursion}
use Rattle.std.proofs.lemmas.List.FromFn.{length-range_with_len}
use Rattle.std.proofs.ByRecursion.{All-weaker}
use Rattle.std.proofs.lemmas.Bool.{eqb-true}
use Rattle.field.specs.Model.{Model}
use Rattle.field.specs.Laws.{Element, FieldLaws}
use Rattle.bound.specs.Counting.{AtMost}
use Rattle.bound.specs.Bound.{OnlyZeroMakesZero, Text, chunks, Shares, CollisionBound, share, ShareAtMost}
use Rattle.bound.proofs.Each.{all_both}
use Rattle.bound.proofs.Members.{Member}
use Rattle.bound.proofs.Keys.{counting_within, counting_distinct, counting_member}
use Rattle.bound.proofs.Counts.{at_most_fewer, at_most_up}
use Rattle.bound.proofs.RingsInAll.{rings_in_all}
use Rattle.bound.proofs.SomeCollision.{some_collision}
use Rattle.bound.proofs.EitherOrder.{FewMeetings, either_order}

module _ {m : Model} (F : FieldLaws m) (Z : OnlyZeroMakesZero m) where
  -- where the good subkeys are n numbers from lo on
  few_of_counting : (lo n : ℕ) → lo + n ≤ m.size → (Good : ℕ → Type 0) → ((k : ℕ) → Good k → (lo ≤ k) × (k < lo + n)) →
      (a b : List ℕ) → Text a → Text b → a ≢ b → FewMeetings m Good n a b (chunks a b)
  few_of_counting lo n room Good within a b ta tb a≢b =
      subst (λ K. FewMeetings m Good K a b (chunks a b)) (length-range_with_len lo n)
      (either_order F Z (range_with_len lo n) (counting_distinct lo n) elements Good listed a b ta tb a≢b)
    where
      elements : AllByRecursion (Element m) (range_with_len lo n)
      elements = All-weaker _ (Element m) (λ k h. omega (arith, h.1)) (range_with_len lo n) (counting_within lo n)

      listed : (k : ℕ) → Good k → Member (range_with_len lo n) k
      listed k good = counting_member lo n k (within k good).0 (within k good).1

  few_of_all : (a b : List ℕ) → Text a → Text b → a ≢ b → FewMeetings m (Element m) m.size a b (chunks a b)
  few_of_all = few_of_counting 0 m.size (omega arith) (Element m) (λ k h. (omega arith, omega arith))

  few_of_nonzero : (a b : List ℕ) → Text a → Text b → a ≢ b →
      FewMeetings m (λ k. Element m k × (k ≢ 0)) (m.size - 1) a b (chunks a b)
  few_of_nonzero =
      few_of_counting 1 (m.size - 1) (omega (arith, F.many)) (λ k. Element m k × (k ≢ 0))
      (λ k h. (omega (arith, h.1), omega (arith, h.0)))

  pub collision_bound : CollisionBound m
  collision_bound = record {
    rings = rings_in_all m;
    few = λ a b ta tb a≢b. at_most_up (Shares m a b) _ _
        (mul-le-mul_right (m.size ^ (chunks a b - 1)) (omega arith)) (few_of_all a b ta tb a≢b).0;
    few_in_one_chunk = λ a b ta tb a≢b e. at_most_up (Shares m a b) _ _ (omega arith) ((few_of_all a b ta tb a≢b).1 e);
    fewer = λ a b ta tb a≢b. (few_of_all a b ta tb a≢b).0;
    fewer_without_zero = λ a b ta tb a≢b. at_most_fewer _ _ _
        (λ r h. ((h.0.0.0, all_both _ _ r h.0.0.1 h.1), h.0.1)) (few_of_nonzero a b ta tb a≢b).0;
    not_none = some_collision F;
  }

pub share_at_most : {m : Model} → FieldLaws m → (k : ℕ) (a b : List ℕ) → k ≡ share (chunks a b) → ShareAtMost m k a b
share_at_most {m} F k a b e Z ta tb a≢b = rw e (go (eqb (chunks a b) 1) refl)
  where
    go : (t : Bool) → eqb (chunks a b) 1 ≡ t →
        AtMost (cond t 1024 (2048 + chunks a b) * m.size ^ (chunks a b - 1)) (Shares m a b)
    go true one =
        let power = ap (λ c. m.size ^ (c - 1)) (eqb-true (chunks a b) 1 one) ∙ pow-zero m.size in
        at_most_up (Shares m a b) 1024 _ (omega (arith, power))
        ((collision_bound F Z).few_in_one_chunk a b ta tb a≢b (eqb-true (chunks a b) 1 one))
    go false more = (collision_bound F Z).few a b ta tb a≢b

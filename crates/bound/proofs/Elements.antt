-- A field's elements are a domain, where only a zero factor makes a zero product. Assumes nothing.
use Rattle.std.proofs.Common.{◌≡◌, ℕ, suc, ◌≢◌, List, [], ◌∷◌, length, refl, ap, inl, inr, arith}
use Rattle.std.specs.List.{AllByRecursion}
use Rattle.field.specs.Model.{Model}
use Rattle.field.specs.Laws.{Element, FieldLaws}
pub use Rattle.field.proofs.Elements.{El, same, el, el_own, el_of, 𝟘, 𝟙, plus, times, neg}
use Rattle.bound.specs.Counting.{Distinct}
use Rattle.bound.specs.Bound.{OnlyZeroMakesZero}
use Rattle.bound.proofs.Domain.{Domain}

module _ {m : Model} (F : FieldLaws m) where
  pub one_is_not_zero : 𝟙 F ≢ 𝟘 F
  one_is_not_zero e = let z : ◌≡◌ {A = ℕ} 1 0 = ap (λ (x : El m). x.0) e in omega arith

  pub domain : OnlyZeroMakesZero m → Domain (El m) (𝟘 F) (𝟙 F) (plus F) (times F) (neg F)
  domain only_zero = record {
    plus_assoc = λ x y z. same m _ _ (F.plus_assoc x.0 y.0 z.0 x.1 y.1 z.1);
    plus_comm = λ x y. same m _ _ (F.plus_comm x.0 y.0 x.1 y.1);
    plus_zero = λ x. same m _ _ (F.plus_zero x.0 x.1);
    plus_neg = λ x. same m _ _ (F.plus_neg x.0 x.1);
    times_assoc = λ x y z. same m _ _ (F.times_assoc x.0 y.0 z.0 x.1 y.1 z.1);
    times_comm = λ x y. same m _ _ (F.times_comm x.0 y.0 x.1 y.1);
    times_one = λ x. same m _ _ (F.times_one x.0 x.1);
    times_plus = λ x y z. same m _ _ (F.times_plus x.0 y.0 z.0 x.1 y.1 z.1);
    zero_factor = λ x y e. elim (only_zero x.0 y.0 x.1 y.1 (ap (λ (z : El m). z.0) e)) [
      | inl z ↦ inl (same m x (𝟘 F) z)
      | inr z ↦ inr (same m y (𝟘 F) z)
    ];
  }

-- numbers that are elements, as elements
unfoldable pub els : (m : Model) (xs : List ℕ) → AllByRecursion (Element m) xs → List (El m)
els m [] all = []
els m (x ∷ xs) all = (x, all.0) ∷ els m xs all.1

pub els_length : (m : Model) (xs : List ℕ) (all : AllByRecursion (Element m) xs) → length (els m xs all) ≡ length xs
unfolding els
els_length m [] all = refl
els_length m (x ∷ xs) all = ap suc (els_length m xs all.1)

pub els_all : (m : Model) (P : ℕ → Type 0) (Q : El m → Type 0) → ((x : El m) → P x.0 → Q x) →
    (xs : List ℕ) (all : AllByRecursion (Element m) xs) → AllByRecursion P xs → AllByRecursion Q (els m xs all)
unfolding els
els_all m P Q h [] all p = tt
els_all m P Q h (x ∷ xs) all p = (h (x, all.0) p.0, els_all m P Q h xs all.1 p.1)

pub els_distinct : (m : Model) (xs : List ℕ) (all : AllByRecursion (Element m) xs) → Distinct xs → Distinct (els m xs all)
unfolding els
els_distinct m [] all d = tt
els_distinct m (x ∷ xs) all d = (
  els_all m (λ y. x ≢ y) (λ y. (x, all.0) ≢ y) (λ y ne e. ne (ap (λ (z : El m). z.0) e)) xs all.1 d.0,
  els_distinct m xs all.1 d.1,
)

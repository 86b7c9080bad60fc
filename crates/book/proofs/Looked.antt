-- A key is looked for only where the grave is free: elsewhere it makes no difference. Assumes nothing.
use Rattle.std.proofs.Common.{◌≡◌, Bool, true, false, not, ◌&&◌, [], ◌∷◌, refl, ap, ◌∙◌}
use Rattle.refusal.specs.Outcomes.{Outcome, ◌when◌, decided}
use Rattle.promise.specs.Records.{Record, is_free}
use Rattle.graves.specs.Turns.{Turned, open_here, left}

alike : {A : Type 0} (f u : Bool) (o : Outcome A) → decided (2 when not f ∷ 3 when (f && u) ∷ []) o ≡ decided (2 when not f ∷ 3 when u ∷ []) o
alike true u o = refl
alike false u o = refl

module _ (r : Record) (used u : Bool) (is : used ≡ (is_free r.state && u)) where
  so : {A : Type 0} (o : Outcome A) → decided (open_here r used) o ≡ decided (open_here r u) o
  so o = ap (λ (b : Bool). decided (open_here r b) o) is ∙ alike (is_free r.state) u o

  pub looked_for : {A : Type 0} (v : A) (next : Record) (o : Outcome A) (r' : Record)
      → Turned (open_here r used) v next r o r' → Turned (open_here r u) v next r o r'
  looked_for v next o r' by = record { answers = by.answers ∙ so _; leaves = by.leaves ∙ ap (left r) (so _) }

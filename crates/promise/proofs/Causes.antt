-- What an outcome says of the causes that decided it. Assumes nothing.
use Rattle.std.proofs.Common.{◌≡◌, ℕ, Bool, true, false, cond, eqb, List, [], ◌∷◌, refl}
use Rattle.std.proofs.lemmas.Bool.{cond_both, eqb-false}
use Rattle.refusal.specs.Outcomes.{gives, refuses, Cause, decided}
use Rattle.refusal.proofs.Decided.{Absent}

infixr 20 ◌also◌
pub ◌also◌ : {A B : Type 0} → A → B → A × B
a also b = (a, b)

-- whether the cause numbered n is there
abbrev pub is_there : ℕ → List Cause → Bool
is_there n [] = false
is_there n (c ∷ cs) = cond (eqb c.number n) c.there (is_there n cs)

pub absent : (n : ℕ) (cs : List Cause) → Absent cs → is_there n cs ≡ false
absent n [] none = refl
absent n (c ∷ cs) none =
    cond_both (eqb c.number n) c.there (is_there n cs) (λ b. b ≡ false)
    (λ same. none.0) (λ other. absent n cs none.1)

-- no cause before the one numbered n is there
abbrev pub NoneBefore : ℕ → List Cause → Type 0
NoneBefore n [] = Unit {0}
NoneBefore n (c ∷ cs) = cond (eqb c.number n) (Unit {0}) ((c.there ≡ false) × NoneBefore n cs)

pub none_before_refusal : {X : Type 0} (cs : List Cause) (x : X) (n : ℕ) → decided cs (gives x) ≡ refuses n →
    NoneBefore n cs
none_before_refusal [] x n e = tt
none_before_refusal (c ∷ cs) x n refused =
    cond_both c.there (refuses c.number) (decided cs (gives x))
    (λ d. d ≡ refuses n → cond (eqb c.number n) (Unit {0}) ((c.there ≡ false) × NoneBefore n cs))
    (λ there e. let same : c.number ≡ n = cc in go (eqb c.number n) refl same)
    (λ absent e. later (eqb c.number n) absent (none_before_refusal cs x n e)) refused
  where
    go : (b : Bool) → eqb c.number n ≡ b → c.number ≡ n → cond b (Unit {0}) ((c.there ≡ false) × NoneBefore n cs)
    go true t e = tt
    go false t e = absurd (eqb-false c.number n t e)

    later : (b : Bool) → c.there ≡ false → NoneBefore n cs → cond b (Unit {0}) ((c.there ≡ false) × NoneBefore n cs)
    later true absent before = tt
    later false absent before = (absent, before)

-- A key that no grave has used is no grave's key. Assumes nothing.
use Rattle.std.proofs.Common.{◌≡◌, ℕ, zero, suc, true, false, [], ◌∷◌, ap}
use Rattle.std.proofs.lemmas.Bool.{eq-eqb, or_parts, and_from, both_ways, true≢false, not_from_false}
use Rattle.cipher.specs.declared.Key.{Key}
use Rattle.promise.specs.Records.{Table, grave, is_free, same_key, is_used}

same_key_true : (j k : Key) → j ≡ k → same_key j k ≡ true
same_key_true j k e =
    and_from _ _ (eq-eqb _ _ (ap (λ (key : Key). key.first) e)) (eq-eqb _ _ (ap (λ (key : Key). key.second) e))

pub unused : (t : Table) (k : Key) (g : ℕ) → is_used t k ≡ false → is_free (grave t g).state ≡ false →
    (grave t g).key ≡ k → ⊥
unused [] k g u f e = true≢false f
unused (r ∷ rs) k zero u f e =
    both_ways _ (or_parts _ _ u).0 (and_from _ _ (not_from_false _ f) (same_key_true _ _ e))
unused (r ∷ rs) k (suc g) u f e = unused rs k g (or_parts _ _ u).1 f e

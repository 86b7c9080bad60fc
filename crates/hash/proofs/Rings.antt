-- Rings: whether some subkey is too large, and what follows where none is. Assumes nothing.
use Rattle.std.proofs.Common.{◌≡◌, ℕ, ◌+◌, ◌<◌, ◌≤◌, Bool, true, false, ◌||◌, leb, List, [], ◌∷◌, map, length, get_or, drop, sym, refl, ap, ap₂}
use Rattle.std.proofs.lemmas.List.{drop_more, drop_all}
use Rattle.std.proofs.lemmas.Bool.{leb-false, true≢false}
use Rattle.field.specs.Model.{Model}
use Rattle.field.specs.Laws.{FieldLaws}
use Rattle.hash.specs.Hash.{some_from}

-- whether something was found, or is to be found from place i on: one place further on, and at the end
pub from_next : (n : ℕ) (ring : List ℕ) (i : ℕ) (found : Bool) → i < length ring
    → ((found || leb n (get_or ring i 0)) || some_from n (drop (i + 1) ring)) ≡ (found || some_from n (drop i ring))
from_next n ring i true within = refl
from_next n ring i false within = sym (ap (some_from n) (drop_more ring i 0 within))

pub from_none : (n : ℕ) (ring : List ℕ) (i : ℕ) (found : Bool) → length ring ≤ i → (found || some_from n (drop i ring)) ≡ found
from_none n ring i true past = refl
from_none n ring i false past = ap (some_from n) (drop_all i ring past)

or_false : {a b : Bool} → (a || b) ≡ false → (a ≡ false) × (b ≡ false)
or_false {a = true} e = absurd (true≢false e)
or_false {a = false} e = (refl, e)

-- where no subkey is too large, each is its own element
pub all_own : {m : Model} → FieldLaws m → (ring : List ℕ) → false ≡ some_from m.size ring → map m.means ring ≡ ring
all_own laws [] none = refl
all_own {m} laws (k ∷ ks) none =
    let parts = or_false (sym none) in
    ap₂ ◌∷◌ (laws.means_own k (leb-false m.size k parts.0)) (all_own laws ks (sym parts.1))

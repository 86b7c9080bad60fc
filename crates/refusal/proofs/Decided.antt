-- Causes of refusal: where none is there they decide nothing, and only then is a value given. Assumes nothing.
use Rattle.std.proofs.Common.{◌≡◌, ℕ, Bool, true, false, cond, List, [], ◌∷◌, sym, refl, ap, ◌∙◌, arith}
use Rattle.refusal.specs.Outcomes.{Outcome, gives, refuses, mapped, Cause, decided}

abbrev pub Absent : List Cause → Type 0
Absent [] = Unit {0}
Absent (c ∷ cs) = (c.there ≡ false) × Absent cs

pub undecided : {A : Type 0} (cs : List Cause) (o : Outcome A) → Absent cs → o ≡ decided cs o
undecided [] o none = refl
undecided {A} (c ∷ cs) o none =
    undecided cs o none.1
    ∙ ap (λ (t : Bool). cond {A = Outcome A} t (refuses c.number) (decided cs o)) (sym none.0)

gives_unless : {A : Type 0} (there : Bool) (x : A) (n : ℕ) (o : Outcome A) → gives x ≡ cond there (refuses n) o
    → (there ≡ false) × (gives x ≡ o)
gives_unless true x n o is = let never : ◌≡◌ {A = ℕ} 0 1 = cc in absurd (omega arith)
gives_unless false x n o is = (refl, is)

-- where a value was given, no cause is there, and the value is the one that was to be given
pub given : {A : Type 0} (cs : List Cause) (x y : A) → gives x ≡ decided cs (gives y) → Absent cs × (x ≡ y)
given [] x y is = (tt, cc)
given {A} (c ∷ cs) x y is =
    let first = gives_unless c.there x c.number (decided cs (gives y)) is in
    let later = given cs x y first.1 in
    ((first.0, later.0), later.1)

pub absent : {A : Type 0} (cs : List Cause) {x : A} (y : A) → gives x ≡ decided cs (gives y) → Absent cs
absent cs {x} y is = (given cs x y is).0

pub same_value : {A : Type 0} (cs : List Cause) {x : A} (y : A) → gives x ≡ decided cs (gives y) → x ≡ y
same_value cs {x} y is = (given cs x y is).1

-- a refusal does not rest on what would have been given
pub alike : {A B : Type 0} (cs : List Cause) (n : ℕ) (x : A) (o : Outcome B) → refuses n ≡ decided cs (gives x)
    → refuses n ≡ decided cs o
alike [] n x o is = let never : ◌≡◌ {A = ℕ} 0 1 = cc in absurd (omega arith)
alike {A} {B} (c ∷ cs) n x o is = by_test c.there c.number (decided cs (gives x)) (decided cs o) (alike cs n x o) is
  where
    by_test : (t : Bool) (m : ℕ) (d : Outcome A) (d' : Outcome B) → (refuses n ≡ d → refuses n ≡ d')
        → refuses n ≡ cond {A = Outcome A} t (refuses m) d → refuses n ≡ cond {A = Outcome B} t (refuses m) d'
    by_test true m d d' rest e = let same : n ≡ m = cc in ap refuses same
    by_test false m d d' rest e = rest e

pub mapped_decided : {A B : Type 0} (f : A → B) (cs : List Cause) (o : Outcome A)
    → mapped f (decided cs o) ≡ decided cs (mapped f o)
mapped_decided f [] o = refl
mapped_decided {A} {B} f (c ∷ cs) o =
    mapped_unless c.there
    ∙ ap (λ (p : Outcome B). cond c.there (refuses c.number) p) (mapped_decided f cs o)
  where
    mapped_unless : (there : Bool) → mapped f (cond there (refuses c.number) (decided cs o))
        ≡ cond there (refuses c.number) (mapped f (decided cs o))
    mapped_unless true = refl
    mapped_unless false = refl

-- A list of different members of another is no longer than that. Assumes nothing.
use Rattle.std.proofs.Common.{◌≡◌, suc, ◌≤◌, Bool, true, false, cond, ◌≢◌, ◌⊎◌, List, [], ◌∷◌, ◌++◌, map, length, filter, sym, refl, ap, ◌∙◌, inl, inr, zero-le, arith}
use Rattle.std.specs.List.{AllByRecursion}
use Rattle.bound.specs.Counting.{Distinct}

abbrev pub Member : {X : Type 0} → List X → X → Type 0
Member [] x = ⊥
Member (y ∷ ys) x = (x ≡ y) ⊎ Member ys x

pub member_left : {X : Type 0} (ys zs : List X) (x : X) → Member ys x → Member (ys ++ zs) x
member_left [] zs x h = absurd h
member_left (y ∷ ys) zs x (inl e) = inl e
member_left (y ∷ ys) zs x (inr h) = inr (member_left ys zs x h)

pub member_right : {X : Type 0} (ys zs : List X) (x : X) → Member zs x → Member (ys ++ zs) x
member_right [] zs x h = h
member_right (y ∷ ys) zs x h = inr (member_right ys zs x h)

pub member_map : {X Y : Type 0} (f : Y → X) (ys : List Y) (y : Y) → Member ys y → Member (map f ys) (f y)
member_map f [] y h = absurd h
member_map f (z ∷ ys) y (inl e) = inl (ap f e)
member_map f (z ∷ ys) y (inr h) = inr (member_map f ys y h)

pub member_kept : {X : Type 0} (p : X → Bool) (ys : List X) (x : X) → p x ≡ true → Member ys x → Member (filter p ys) x
member_kept p [] x passes h = absurd h
member_kept p (y ∷ ys) x passes (inl e) = rw (ap p (sym e) ∙ passes) (inl e)
member_kept p (y ∷ ys) x passes (inr h) = kept_or_not (p y) (member_kept p ys x passes h)
  where
    kept_or_not : (b : Bool) → Member (filter p ys) x → Member (cond b (y ∷ filter p ys) (filter p ys)) x
    kept_or_not true m = inr m
    kept_or_not false m = m

without : {X : Type 0} (x : X) (ys : List X) → Member ys x → List X
without x [] h = absurd h
without x (y ∷ ys) (inl e) = ys
without x (y ∷ ys) (inr h) = y ∷ without x ys h

length_without : {X : Type 0} (x : X) (ys : List X) (h : Member ys x) → suc (length (without x ys h)) ≡ length ys
unfolding without
length_without x [] h = absurd h
length_without x (y ∷ ys) (inl e) = refl
length_without x (y ∷ ys) (inr h) = ap suc (length_without x ys h)

others_stay : {X : Type 0} (x : X) (ys : List X) (h : Member ys x) (z : X) → x ≢ z → Member ys z →
    Member (without x ys h) z
unfolding without
others_stay x [] h z x≢z m = absurd h
others_stay x (y ∷ ys) (inl e) z x≢z (inl q) = absurd (x≢z (e ∙ sym q))
others_stay x (y ∷ ys) (inl e) z x≢z (inr m) = m
others_stay x (y ∷ ys) (inr h) z x≢z (inl q) = inl q
others_stay x (y ∷ ys) (inr h) z x≢z (inr m) = inr (others_stay x ys h z x≢z m)

pub no_longer : {X : Type 0} (xs ys : List X) → Distinct xs → AllByRecursion (Member ys) xs → length xs ≤ length ys
no_longer {X} [] ys distinct members = zero-le
no_longer {X} (x ∷ xs) ys distinct members =
    let rest = all_stay xs distinct.0 members.1 in
    omega (arith, no_longer xs (without x ys members.0) distinct.1 rest, length_without x ys members.0)
  where
    all_stay : (zs : List X) → AllByRecursion (λ z. x ≢ z) zs → AllByRecursion (Member ys) zs → AllByRecursion (Member (without x ys members.0)) zs
    all_stay [] differ ms = tt
    all_stay (z ∷ zs) differ ms = (others_stay x ys members.0 z differ.0 ms.0, all_stay zs differ.1 ms.1)

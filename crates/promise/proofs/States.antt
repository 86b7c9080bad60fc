-- What a state says of the past that it is read off. Assumes nothing.
use Rattle.std.proofs.Common.{◌≡◌, ℕ, ◌+◌, ◌<◌, Bool, true, false, ltb, Some, None, Option, sym, refl, ap, ◌∙◌}
use Rattle.std.proofs.lemmas.Bool.{cond_both, cond-true, ltb-true, lt-ltb, true≢false, false≢true}
use Rattle.cipher.specs.declared.Key.{Key}
use Rattle.promise.specs.Records.{State, Free, Open, Locked, Closed, is_free, free_or_closed, is_locked, one_more}
use Rattle.promise.specs.Promise.{state_of, key_or_none}

pub free_has_no_key : (o : Option Key) (u : Bool) (n : ℕ) → is_free (state_of o u n) ≡ true → o ≡ None
free_has_no_key None u n f = refl
free_has_no_key (Some k) true n free =
    cond_both (ltb n 4) (Open n) Locked (λ s. is_free s ≡ true → Some k ≡ None)
    (λ t f. absurd (false≢true f)) (λ t f. absurd (false≢true f)) free
free_has_no_key (Some k) false n f = absurd (false≢true f)

-- a grave in use has a key
pub record Used (o : Option Key) (u : Bool) : Type 0 where
  pub its_key : o ≡ Some (key_or_none o)
  pub in_use_now : u ≡ true

pub used : (o : Option Key) (u : Bool) (n : ℕ) → free_or_closed (state_of o u n) ≡ false → Used o u
used None u n f = absurd (true≢false f)
used (Some k) true n f = record { its_key = refl; in_use_now = refl }
used (Some k) false n f = absurd (true≢false f)

pub used_not_free : (s : State) → free_or_closed s ≡ false → is_free s ≡ false
used_not_free Free f = f
used_not_free (Open n) f = refl
used_not_free Locked f = refl
used_not_free Closed f = refl

pub keyed_not_free : (k : Key) (u : Bool) (n : ℕ) → is_free (state_of (Some k) u n) ≡ false
keyed_not_free k true n = cond_both (ltb n 4) (Open n) Locked (λ s. is_free s ≡ false) (λ t. refl) (λ t. refl)
keyed_not_free k false n = refl

pub below_four : (o : Option Key) (u : Bool) (n : ℕ) → free_or_closed (state_of o u n) ≡ false →
    is_locked (state_of o u n) ≡ false → n < 4
below_four None u n f l = absurd (true≢false f)
below_four (Some k) true n f unlocked =
    cond_both (ltb n 4) (Open n) Locked (λ s. is_locked s ≡ false → n < 4) (λ t l. ltb-true n 4 t)
    (λ t l. absurd (true≢false l)) unlocked
below_four (Some k) false n f l = absurd (true≢false f)

pub open_state : (k : Key) (n : ℕ) → n < 4 → state_of (Some k) true n ≡ Open n
open_state k n few = cond-true (ltb n 4) (Open n) Locked (lt-ltb n 4 few)

pub one_false_seal_more : (o : Option Key) (u : Bool) (n : ℕ) → free_or_closed (state_of o u n) ≡ false →
    is_locked (state_of o u n) ≡ false → one_more (state_of o u n) ≡ state_of o u (n + 1)
one_false_seal_more None u n f l = absurd (true≢false f)
one_false_seal_more (Some k) true n f l = ap one_more (open_state k n (below_four (Some k) true n f l))
one_false_seal_more (Some k) false n f l = absurd (true≢false f)

pub cleared_state : (o : Option Key) (u : Bool) → Used o u → Open 0 ≡ state_of o u 0
cleared_state o u w =
    ap (λ (u : Bool). state_of (Some (key_or_none o)) u 0) (sym w.in_use_now)
    ∙ ap (λ (o : Option Key). state_of o u 0) (sym w.its_key)

pub closed_state : (o : Option Key) (u : Bool) (n : ℕ) → Used o u → Closed ≡ state_of o false n
closed_state o u n w = ap (λ (o : Option Key). state_of o false n) (sym w.its_key)

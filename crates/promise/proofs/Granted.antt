-- A call that is not refused leaves a book of which the same is true, each but check. Assumes nothing.
use Rattle.std.proofs.Common.{◌≡◌, ℕ, ◌<◌, true, false, List, ◌∷◌, length, set, sym, refl, ap, subst, add-one, arith}
use Rattle.std.proofs.lemmas.Bool.{ltb-false, leb-false, not-false}
use Rattle.cipher.specs.declared.Key.{Key}
use Rattle.seal.specs.Sealing.{Sealing}
use Rattle.promise.specs.History.{Act, opened, drawn, sealed, voided, cleared, closed, on, History, acts}
use Rattle.promise.specs.Past.{key, in_use, false_seals, handed_out, held}
use Rattle.promise.specs.Records.{State, Record, Table, grave, is_free, free_or_closed, with_state}
use Rattle.promise.specs.Records.{after_open, after_draw, after_seal, after_void, after_clear, after_close}
use Rattle.promise.specs.Register.{open_causes, draw_causes, seal_causes, void_causes, use_causes, named}
use Rattle.promise.specs.Promise.{key_or_none, recorded}
use Rattle.promise.proofs.Draws.{among_from_holds}
use Rattle.refusal.proofs.Decided.{Absent}
use Rattle.promise.proofs.Causes.{absent}
use Rattle.promise.proofs.States.{Used, used, used_not_free, cleared_state, closed_state}
use Rattle.promise.proofs.Pasts.{sound_drawn, sound_voided, sound_cleared, sound_closed}
use Rattle.promise.proofs.Quiet.{drawn_quiet, voided_quiet, cleared_quiet, closed_quiet}
use Rattle.promise.proofs.Runs.{TrueBook, one_of_the_book, true_act}
use Rattle.promise.proofs.Opened.{true_open}
use Rattle.promise.proofs.Sealed.{true_seal}

module _ (S : Sealing) {h : History} {t : Table} (B : TrueBook S h t) (g : ℕ) where
  abbrev past : List Act
  past = acts g h

  -- the grave's record is the one that its past has
  pub at_record : (P : Record → Type 0) → P (recorded past) → P (grave t g)
  at_record P p = subst P (sym (B.records g)) p

  used_now : free_or_closed (recorded past).state ≡ false → Used (key past) (in_use past)
  used_now = used (key past) (in_use past) (false_seals past)

  pub in_the_book : free_or_closed (recorded past).state ≡ false → g < 256
  in_the_book in_use = one_of_the_book S B g (used_not_free (recorded past).state in_use)

  pub opens : (k : Key) → Absent (named g (open_causes t (grave t g) k)) →
      TrueBook S (on g (opened k) ∷ h) (set t g (after_open k (grave t g)))
  opens k none =
      let causes = named g (open_causes t (grave t g) k) in
      let low = ltb-false 255 g (absent 1 causes none) in
      let free = not-false (is_free (grave t g).state) (absent 2 causes none) in
      let new_key = absent 3 causes none in
      true_open S B g k (subst (λ (r : Record). is_free r.state ≡ true) (B.records g) free) new_key (omega arith)
      (after_open k (grave t g)) (ap (after_open k) (B.records g))

  pub draws : Absent (named g (draw_causes (grave t g))) →
      TrueBook S (on g (drawn (grave t g).next) ∷ h) (set t g (after_draw (grave t g)))
  draws =
      at_record (λ r. Absent (named g (draw_causes r)) →
      TrueBook S (on g (drawn r.next) ∷ h) (set t g (after_draw r)))
      (λ none.
      let causes = named g (draw_causes (recorded past)) in
      let room = leb-false 4 (length (held past)) (absent 6 causes none) in
      let more = leb-false 1000000 (handed_out past) (absent 7 causes none) in
      true_act S B g (drawn (handed_out past)) (drawn_quiet (handed_out past)) (sound_drawn S (B.sound g) room more)
      (after_draw (recorded past)) (in_the_book (absent 4 causes none)) refl)

  pub seals : (d : ℕ) (x : List ℕ) (p : ℕ) → Absent (seal_causes S (grave t g) d x p) →
      TrueBook S (on g (sealed (record { draw = d; text = x; seal = S.seal (grave t g).key d x })) ∷ h)
      (set t g (after_seal d (grave t g)))
  seals d x p =
      at_record (λ r. Absent (seal_causes S r d x p) →
      TrueBook S (on g (sealed (record { draw = d; text = x; seal = S.seal r.key d x })) ∷ h)
      (set t g (after_seal d r)))
      (λ none.
      let k = key_or_none (key past) in
      let causes = seal_causes S (recorded past) d x p in
      let in_use_now = absent 4 causes none in
      let here = among_from_holds d (held past) (not-false _ (absent 8 causes none)) in
      let short = ltb-false S.longest (length x) (absent 9 causes none) in
      true_seal S B g (record { draw = d; text = x; seal = S.seal k d x }) k (used_now in_use_now).its_key here
      (in_the_book in_use_now) short refl (after_seal d (recorded past)) (rw add-one))

  pub voids : (d : ℕ) → Absent (void_causes (grave t g) d) →
      TrueBook S (on g (voided d) ∷ h) (set t g (after_void d (grave t g)))
  voids d =
      at_record (λ r. Absent (void_causes r d) → TrueBook S (on g (voided d) ∷ h) (set t g (after_void d r)))
      (λ none.
      let causes = void_causes (recorded past) d in
      let here = among_from_holds d (held past) (not-false _ (absent 8 causes none)) in
      true_act S B g (voided d) (voided_quiet d) (sound_voided S (B.sound g) d here)
      (after_void d (recorded past)) (in_the_book (absent 4 causes none)) refl)

  pub clears : Absent (named g (use_causes (grave t g))) →
      TrueBook S (on g cleared ∷ h) (set t g (after_clear (grave t g)))
  clears =
      at_record (λ r. Absent (named g (use_causes r)) → TrueBook S (on g cleared ∷ h) (set t g (after_clear r)))
      (λ none.
      let in_use_now = absent 4 (named g (use_causes (recorded past))) none in
      let its_state = cleared_state (key past) (in_use past) (used_now in_use_now) in
      true_act S B g cleared cleared_quiet (sound_cleared S (B.sound g)) (after_clear (recorded past))
      (in_the_book in_use_now) (ap (λ (s : State). with_state s (recorded past)) its_state))

  pub closes : Absent (named g (use_causes (grave t g))) →
      TrueBook S (on g closed ∷ h) (set t g (after_close (grave t g)))
  closes =
      at_record (λ r. Absent (named g (use_causes r)) → TrueBook S (on g closed ∷ h) (set t g (after_close r)))
      (λ none.
      let in_use_now = absent 4 (named g (use_causes (recorded past))) none in
      let its_state = closed_state (key past) (in_use past) (false_seals past) (used_now in_use_now) in
      true_act S B g closed closed_quiet (sound_closed S (B.sound g)) (after_close (recorded past))
      (in_the_book in_use_now) (ap (λ (s : State). with_state s (after_close (recorded past))) its_state))

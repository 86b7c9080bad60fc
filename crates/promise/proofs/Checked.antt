-- A check leaves a book of which the same is true, whatever it answers. Assumes nothing.
use Rattle.std.proofs.Common.{◌≡◌, ℕ, ◌+◌, Bool, true, false, cond, eqb, List, ◌∷◌, set, sym, refl, ap, ◌∙◌, subst}
use Rattle.std.proofs.lemmas.Bool.{cond-false, eqb-true}
use Rattle.refusal.specs.Outcomes.{Outcome, gives, refuses, Cause, decided}
use Rattle.seal.specs.Sealing.{Sealing, SealingLaws}
use Rattle.promise.specs.History.{Sheet, to_check, Standing, Act, checked, on, History, acts}
use Rattle.promise.specs.Past.{key, in_use, false_seals, with_false_seal, sheets, newest, standing}
use Rattle.promise.specs.Records.{State, Table, grave, with_state, after_false_seal}
use Rattle.promise.specs.Register.{check_causes, named, answer, after_check}
use Rattle.promise.specs.Promise.{state_of, recorded}
use Rattle.promise.proofs.Causes.{none_before_refusal}
use Rattle.promise.proofs.States.{one_false_seal_more}
use Rattle.promise.proofs.Pasts.{Sound, sound_checked}
use Rattle.promise.proofs.Checks.{fair}
use Rattle.promise.proofs.Quiet.{checked_quiet}
use Rattle.promise.proofs.Runs.{TrueBook, one_of_the_book, true_act, true_left}
use Rattle.promise.proofs.Granted.{at_record, in_the_book}

module _ (S : Sealing) (L : SealingLaws S) {h : History} {t : Table} (B : TrueBook S h t) (g : ℕ)
    (s : Sheet) (p : ℕ) where
  abbrev past : List Act
  past = acts g h

  abbrev causes : List Cause
  causes = named g (check_causes S (recorded past) s p)

  abbrev given : Outcome Standing
  given = gives (standing (newest (sheets past)) s.draw)

  module _ (o : Outcome Standing) (e : decided causes given ≡ o) where
    sound_check : Sound S (checked s p o ∷ past)
    sound_check = sound_checked S (B.sound g) s p o (fair S L g (B.sound g) s p (one_of_the_book S B g) o e)

    -- no false seal: the table stays
    stays : with_false_seal o (false_seals past) ≡ false_seals past → TrueBook S (on g (checked s p o) ∷ h) t
    stays same =
        true_left S B g (checked s p o) (checked_quiet s p o) sound_check
        (ap (λ (n : ℕ). with_state (state_of (key past) (in_use past) n) (recorded past)) (sym same))

  false_seal : decided causes given ≡ refuses 12 →
      TrueBook S (on g (checked s p (refuses 12)) ∷ h) (set t g (after_false_seal (grave t g)))
  false_seal e =
      let before = none_before_refusal causes _ 12 e in
      let used_now = before.1.0 in
      let unlocked = before.1.1.0 in
      true_act S B g (checked s p (refuses 12)) (checked_quiet s p (refuses 12)) (sound_check (refuses 12) e)
      (after_false_seal (grave t g)) (in_the_book S B g used_now)
      (ap after_false_seal (B.records g)
      ∙ ap (λ (s : State). with_state s (recorded past))
      (one_false_seal_more (key past) (in_use past) (false_seals past) used_now unlocked))

  checks_at : (o : Outcome Standing) → decided causes given ≡ o →
      TrueBook S (on g (checked s p o) ∷ h) (after_check t g o)
  checks_at (gives v) e = stays (gives v) e refl
  checks_at (refuses n) e = go (eqb n 12) refl
    where
      go : (b : Bool) → eqb n 12 ≡ b →
          TrueBook S (on g (checked s p (refuses n)) ∷ h) (cond b (set t g (after_false_seal (grave t g))) t)
      go true twelve =
          let is_twelve = eqb-true n 12 twelve in
          subst (λ (n : ℕ). TrueBook S (on g (checked s p (refuses n)) ∷ h) (set t g (after_false_seal (grave t g))))
          (sym is_twelve) (false_seal (e ∙ ap refuses is_twelve))
      go false other = stays (refuses n) e (cond-false (eqb n 12) (false_seals past + 1) (false_seals past) other)

  pub checks : TrueBook S (on g (checked s p (answer S t (to_check g s p))) ∷ h)
      (after_check t g (answer S t (to_check g s p)))
  checks =
      at_record S B g (λ r.
      let o = decided (named g (check_causes S r s p)) (gives (standing r.current s.draw)) in
      TrueBook S (on g (checked s p o) ∷ h) (after_check t g o))
      (checks_at (decided causes given) refl)

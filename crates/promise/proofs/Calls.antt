-- Every call leaves a book of which the same is true. Assumes nothing.
use Rattle.std.proofs.Common.{◌≡◌, ℕ, Bool, true, false, cond, List, [], ◌∷◌, set, sym, refl, subst}
use Rattle.refusal.specs.Outcomes.{Outcome, gives, refuses, Cause, decided}
use Rattle.seal.specs.Sealing.{Sealing, SealingLaws}
use Rattle.promise.specs.History.{Call, to_open, to_draw, to_seal, to_void, to_check, to_clear, to_close}
use Rattle.promise.specs.History.{Event, turned_away, event, History}
use Rattle.promise.specs.Records.{Record, Table, grave}
use Rattle.promise.specs.Records.{after_open, after_draw, after_seal, after_void, after_clear, after_close}
use Rattle.promise.specs.Register.{open_causes, draw_causes, seal_causes, void_causes, use_causes, named}
use Rattle.promise.specs.Register.{answer, written, table}
use Rattle.refusal.proofs.Decided.{Absent}
use Rattle.promise.proofs.Runs.{TrueBook, true_refused}
use Rattle.promise.proofs.Granted.{opens, draws, seals, voids, clears, closes}
use Rattle.promise.proofs.Checked.{checks}

module _ (S : Sealing) {h : History} {t : Table} (B : TrueBook S h t) (g : ℕ) where
  -- where a call that is not refused leaves a true book, so does the call
  decides : {X : Type 0} (e : Outcome X → Event) → ((n : ℕ) → e (refuses n) ≡ turned_away n) →
      (cs : List Cause) (x : X) (r : Record) → (Absent cs → TrueBook S (e (gives x) ∷ h) (set t g r)) →
      TrueBook S (e (decided cs (gives x)) ∷ h) (written t g (decided cs (gives r)))
  decides e away [] x r f = f tt
  decides e away (c ∷ cs) x r f = go c.there (λ absent. decides e away cs x r (λ none. f (absent, none)))
    where
      go : (b : Bool) →
          (b ≡ false → TrueBook S (e (decided cs (gives x)) ∷ h) (written t g (decided cs (gives r)))) →
          TrueBook S (e (cond b (refuses c.number) (decided cs (gives x))) ∷ h)
          (written t g (cond b (refuses c.number) (decided cs (gives r))))
      go true rest =
          subst (λ (e : Event). TrueBook S (e ∷ h) t) (sym (away c.number)) (true_refused S B c.number)
      go false rest = rest refl

module _ (S : Sealing) (L : SealingLaws S) {h : History} {t : Table} (B : TrueBook S h t) where
  pub true_call : (c : Call) → TrueBook S (event c (answer S t c) ∷ h) (table S t c)
  true_call (to_open g k) =
      decides S B g (event (to_open g k)) (λ n. refl) (named g (open_causes t (grave t g) k)) tt
      (after_open k (grave t g)) (opens S B g k)
  true_call (to_draw g) =
      decides S B g (event (to_draw g)) (λ n. refl) (named g (draw_causes (grave t g))) (grave t g).next
      (after_draw (grave t g)) (draws S B g)
  true_call (to_seal g d x p) =
      decides S B g (event (to_seal g d x p)) (λ n. refl) (seal_causes S (grave t g) d x p)
      (S.seal (grave t g).key d x) (after_seal d (grave t g)) (seals S B g d x p)
  true_call (to_void g d) =
      decides S B g (event (to_void g d)) (λ n. refl) (void_causes (grave t g) d) tt
      (after_void d (grave t g)) (voids S B g d)
  true_call (to_check g s p) = checks S L B g s p
  true_call (to_clear g) =
      decides S B g (event (to_clear g)) (λ n. refl) (named g (use_causes (grave t g))) tt
      (after_clear (grave t g)) (clears S B g)
  true_call (to_close g) =
      decides S B g (event (to_close g)) (λ n. refl) (named g (use_causes (grave t g))) tt
      (after_close (grave t g)) (closes S B g)

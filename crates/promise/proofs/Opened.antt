-- Opening a free grave with a key that no grave has used. Assumes nothing.
use Rattle.std.proofs.Common.{◌≡◌, ℕ, ◌<◌, true, false, ◌≢◌, List, ◌∷◌, set, Some, None, Option, sym, refl, ap, ◌∙◌, length-set}
use Rattle.cipher.specs.declared.Key.{Key}
use Rattle.seal.specs.Sealing.{Sealing, Among}
use Rattle.promise.specs.History.{Sheet, Act, opened, on, History, acts}
use Rattle.promise.specs.Past.{key, in_use, false_seals, sheets}
use Rattle.promise.specs.Records.{Record, Table, is_free, is_used}
use Rattle.promise.specs.Promise.{key_or_none, state_of, recorded}
use Rattle.promise.proofs.Among.{all_among}
use Rattle.promise.proofs.States.{keyed_not_free, free_has_no_key}
use Rattle.promise.proofs.Keys.{unused}
use Rattle.promise.proofs.Pasts.{sound_opened}
use Rattle.promise.proofs.Runs.{at_each, none≢some, TrueBook, records_after, sound_after}

module _ (S : Sealing) {h : History} {t : Table} (B : TrueBook S h t) (g : ℕ) (k : Key)
    (free_now : is_free (recorded (acts g h)).state ≡ true) (new_key : is_used t k ≡ false) where
  no_key : key (acts g h) ≡ None
  no_key = free_has_no_key (key (acts g h)) (in_use (acts g h)) (false_seals (acts g h)) free_now

  no_others_key : (i : ℕ) → key (acts i h) ≡ Some k → ⊥
  no_others_key i e =
      unused t k i new_key
      (ap (λ (r : Record). is_free r.state) (B.records i)
      ∙ (ap (λ (o : Option Key). is_free (state_of o (in_use (acts i h)) (false_seals (acts i h)))) e
      ∙ keyed_not_free k (in_use (acts i h)) (false_seals (acts i h))))
      (ap (λ (r : Record). r.key) (B.records i) ∙ ap key_or_none e)

  no_sheet : (s : Sheet) → Among s (sheets (acts g h)) → ⊥
  no_sheet s i = none≢some no_key (all_among _ (sheets (acts g h)) s (B.sound g).right i).true_sheet.by_is

  -- what is true of another grave's past, and not of g's, stays true
  others_stay : (P : ℕ → List Act → Type 0) → (P g (acts g h) → ⊥) → (i : ℕ) → P i (acts i h) →
      P i (acts i (on g (opened k) ∷ h))
  others_stay P not_here =
      at_each (λ i past. P i (acts i h) → P i past) g (opened k) h (λ p. absurd (not_here p)) (λ i other p. p)

  keys_apart : (i j : ℕ) (c : Key) → key (acts i (on g (opened k) ∷ h)) ≡ Some c →
      key (acts j (on g (opened k) ∷ h)) ≡ Some c → i ≡ j
  keys_apart =
      at_each (λ i past. (j : ℕ) (c : Key) → key past ≡ Some c → key (acts j (on g (opened k) ∷ h)) ≡ Some c → i ≡ j)
      g (opened k) h here there
    where
      here : (j : ℕ) (c : Key) → Some k ≡ Some c → key (acts j (on g (opened k) ∷ h)) ≡ Some c → g ≡ j
      here =
          at_each (λ j past. (c : Key) → Some k ≡ Some c → key past ≡ Some c → g ≡ j) g (opened k) h
          (λ c p q. refl) (λ j other c p q. absurd (no_others_key j (q ∙ sym p)))

      there : (i : ℕ) → g ≢ i → (j : ℕ) (c : Key) → key (acts i h) ≡ Some c →
          key (acts j (on g (opened k) ∷ h)) ≡ Some c → i ≡ j
      there i other =
          at_each (λ j past. (c : Key) → key (acts i h) ≡ Some c → key past ≡ Some c → i ≡ j) g (opened k) h
          (λ c p q. absurd (no_others_key i (p ∙ sym q))) (λ j other c p q. B.keys_apart i j c p q)

  pub true_open : g < 256 → (r : Record) → r ≡ recorded (opened k ∷ acts g h) →
      TrueBook S (on g (opened k) ∷ h) (set t g r)
  true_open low r e = record {
    size = length-set t g r ∙ B.size;
    records = records_after S B g (opened k) r low e;
    sound = sound_after S B g (opened k) (sound_opened S (B.sound g) k no_key);
    keys_apart = keys_apart;
    source = λ under i.
        let w = B.source under i in
        let kept = others_stay (λ i past. (key past ≡ under.0) × Among w.sheet (sheets past))
        (λ both. no_sheet w.sheet both.1) w.at (w.its_key, w.sealed_there) in
        record { at = w.at; its_key = kept.0; sheet = w.sheet; sealed_there = kept.1; its_draw = w.its_draw };
    once = B.once;
  }

-- Sealing a sheet under a held draw. Assumes nothing.
use Rattle.std.proofs.Common.{◌≡◌, ℕ, ◌<◌, ◌≤◌, ◌≢◌, ◌∷◌, length, set, Some, Option, sym, refl, ap, ◌∙◌, subst, inl, inr, length-set}
use Rattle.cipher.specs.declared.Key.{Key}
use Rattle.seal.specs.Sealing.{Sealing, Among}
use Rattle.promise.specs.History.{Sheet, sealed, on, History, acts}
use Rattle.promise.specs.Past.{key, sheets, held, sealed_under}
use Rattle.promise.specs.Records.{Record, Table}
use Rattle.promise.specs.Promise.{recorded}
use Rattle.promise.proofs.Among.{all_among, all_from_among}
use Rattle.promise.proofs.Pasts.{sound_sealed}
use Rattle.promise.proofs.Runs.{at_each, Source, TrueBook, records_after, sound_after, keys_after, keys_apart_after}
use Rattle.promise.proofs.Runs.{source_after}

module _ (S : Sealing) {h : History} {t : Table} (B : TrueBook S h t) (g : ℕ) (s : Sheet) (k : Key)
    (its_key : key (acts g h) ≡ Some k) (i : Among s.draw (held (acts g h))) where
  -- no sheet was sealed under this key and draw: its grave would be g, where the draw is held
  new_under : (under : Option Key × ℕ) → Among under (sealed_under h) → (key (acts g h), s.draw) ≢ under
  new_under under j e =
      let w = B.source under j in
      let same_grave : w.at ≡ g = B.keys_apart w.at g k
      (w.its_key ∙ (sym (ap (λ (u : Option Key × ℕ). u.0) e) ∙ its_key)) its_key in
      let there = subst (λ n. Among w.sheet (sheets (acts n h))) same_grave w.sealed_there in
      let same_draw : s.draw ≡ w.sheet.draw = ap (λ (u : Option Key × ℕ). u.1) e ∙ sym w.its_draw in
      (all_among _ (sheets (acts g h)) w.sheet (B.sound g).right there).not_held
      (subst (λ d. Among d (held (acts g h))) same_draw i)

  kept : (j : ℕ) (s' : Sheet) → Among s' (sheets (acts j h)) → Among s' (sheets (acts j (on g (sealed s) ∷ h)))
  kept j s' =
      at_each (λ j past. Among s' (sheets (acts j h)) → Among s' (sheets past)) g (sealed s) h inr (λ j other m. m) j

  this_source : Source (on g (sealed s) ∷ h) (key (acts g h), s.draw)
  this_source = record {
    at = g;
    its_key = keys_after S B g (sealed s) (λ past. refl) g;
    sheet = s;
    sealed_there = at_each (λ j past. g ≡ j → Among s (sheets past)) g (sealed s) h (λ e. inl refl)
        (λ j other e. absurd (other e)) g refl;
    its_draw = refl;
  }

  pub true_seal : g < 256 → length s.text ≤ S.longest → s.seal ≡ S.seal k s.draw s.text →
      (r : Record) → r ≡ recorded (sealed s ∷ acts g h) → TrueBook S (on g (sealed s) ∷ h) (set t g r)
  true_seal low short true_one r e = record {
    size = length-set t g r ∙ B.size;
    records = records_after S B g (sealed s) r low e;
    sound = sound_after S B g (sealed s) (sound_sealed S (B.sound g) s k i short its_key true_one);
    keys_apart = keys_apart_after S B g (sealed s) (λ past. refl);
    source = λ under j. elim j [
      | inl same ↦ subst (Source (on g (sealed s) ∷ h)) (sym same) this_source
      | inr m ↦ source_after S B g (sealed s) (λ past. refl) kept under m
    ];
    once = (all_from_among _ (sealed_under h) new_under, B.once);
  }

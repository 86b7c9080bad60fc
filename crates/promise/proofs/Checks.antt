-- A check's answer is fair. Assumes nothing.
use Rattle.std.proofs.Common.{◌≡◌, ℕ, ◌<◌, Bool, false, ◌≢◌, ◌⊎◌, List, length, Some, Option, sym, refl, ap, ◌∙◌, subst, inl, inr, arith}
use Rattle.std.specs.Str.{bytes_eq}
use Rattle.std.proofs.lemmas.Slice.Eq.{bytes_eq-Decides}
use Rattle.std.proofs.lemmas.Bool.Decides.{not_from_Decides}
use Rattle.std.proofs.lemmas.Bool.{ltb-false, leb-false, le-ltb, lt-leb, eq-eqb, eqb-true, not-false, not_from_true, cases_eq, cases_Bool}
use Rattle.cipher.specs.declared.Key.{Key}
use Rattle.refusal.specs.Outcomes.{Outcome, gives, refuses, Cause, decided}
use Rattle.seal.specs.Sealing.{Sealing, SealingLaws, Among}
use Rattle.promise.specs.History.{Sheet, Standing, Act}
use Rattle.promise.specs.Past.{key, in_use, false_seals, handed_out, sheets, newest, standing}
use Rattle.promise.specs.Records.{Open, is_free, free_or_closed, is_locked}
use Rattle.promise.specs.Register.{check_causes, named}
use Rattle.promise.specs.Law.{Untouched, Known, was_sealed, shares_hash, never_asked, Earned, Fair}
use Rattle.promise.specs.Promise.{state_of, key_or_none, recorded}
use Rattle.promise.proofs.Among.{all_among, some_or_none}
use Rattle.refusal.proofs.Decided.{Absent, undecided, given}
use Rattle.promise.proofs.Causes.{◌also◌, absent}
use Rattle.promise.proofs.States.{used, below_four, open_state}
use Rattle.promise.proofs.Pasts.{Sound}

cases_text : (x y : List ℕ) → (x ≡ y) ⊎ (x ≢ y)
cases_text x y =
    elim (cases_Bool (bytes_eq x y)) [
      | inl t ↦ inl ((bytes_eq-Decides x y).0 t)
      | inr f ↦ inr (not_from_Decides (bytes_eq x y) (bytes_eq-Decides x y) f)
    ]

module _ (S : Sealing) (L : SealingLaws S) (k : Key) (s : Sheet) where
  -- r has the draw of s, and its text the hash
  abbrev Meets : Sheet → Type 0
  Meets r = (r.draw ≡ s.draw) × (S.hash k r.text ≡ S.hash k s.text)

  cases_meets : (r : Sheet) → Meets r ⊎ (Meets r → ⊥)
  cases_meets r =
      elim (cases_eq r.draw s.draw) [
        | inl e ↦ elim (cases_eq (S.hash k r.text) (S.hash k s.text)) [
          | inl h ↦ inl (e, h)
          | inr n ↦ inr (λ m. n m.1)
        ]
        | inr n ↦ inr (λ m. n m.0)
      ]

  asked_meets : (r : Sheet) → Among (S.own_block k s.draw s.text) (S.blocks k r.draw r.text) → Meets r
  asked_meets r asked =
      let own = L.own_apart k s.draw r.draw s.text r.text asked in
      let alike = L.own_alike k s.draw r.draw s.text r.text own in
      (sym alike.0, sym alike.1)

  -- some sheet here has the draw and the hash, with this text or another, or nothing here asked for the own block
  known : (past : List Act) → s.seal ≡ S.seal k s.draw s.text → Known S past k s
  known past true_seal =
      elim (some_or_none Meets cases_meets (sheets past)) [
        | inl w ↦ elim (cases_text w.0.text s.text) [
          | inl same ↦ was_sealed (w.0, w.1, w.2.0, same)
          | inr other ↦ shares_hash (w.0, w.1, w.2.0, (other, w.2.1))
        ]
        | inr none ↦ never_asked (true_seal ∙ L.seal_answer k s.draw s.text)
            (λ r i asked. none r i (asked_meets r asked))
      ]

module _ (S : Sealing) (L : SealingLaws S) (g : ℕ) {past : List Act} (P : Sound S past) (s : Sheet) (p : ℕ) where
  abbrev causes : List Cause
  causes = named g (check_causes S (recorded past) s p)

  earned : Absent causes → Earned S past s (standing (newest (sheets past)) s.draw)
  earned none =
      let k = key_or_none (key past) in
      let in_use_now = absent 4 causes none in
      let u = used (key past) (in_use past) (false_seals past) in_use_now in
      let few = below_four (key past) (in_use past) (false_seals past) in_use_now (absent 5 causes none) in
      let t = eqb-true s.seal (S.seal k s.draw s.text) (not-false _ (absent 12 causes none)) in record {
        open_then = (u.in_use_now, few);
        true_sheet = record {
          by = k;
          by_is = u.its_key;
          true_seal = t;
          its_draw = leb-false (handed_out past) s.draw (absent 11 causes none);
          short = ltb-false S.longest (length s.text) (absent 9 causes none);
        };
        known = known S L k s past t;
        standing_is = refl;
      }

  -- an untouched sheet meets no cause of refusal
  passes : (is_free (recorded past).state ≡ false → g < 256) → Untouched S past s p → Absent causes
  passes low u =
      let r = (all_among _ (sheets past) s P.right u.sealed_here).true_sheet in
      let state_is = open_now r.by r.by_is in
      let not_Free = ap is_free state_is in
      let its_seal = r.true_seal ∙ ap (λ k. S.seal k s.draw s.text) (sym (ap key_or_none r.by_is)) in
      le-ltb 255 g (omega (arith, low not_Free))
      also ap free_or_closed state_is
      also ap is_locked state_is
      also le-ltb S.longest (length s.text) r.short
      also le-ltb p (S.chunks s.text) u.room
      also lt-leb (handed_out past) s.draw r.its_draw
      also not_from_true _ (eq-eqb _ _ its_seal)
      also tt
    where
      open_now : (k : Key) → key past ≡ Some k → (recorded past).state ≡ Open (false_seals past)
      open_now k e =
          ap (λ (o : Option Key). state_of o (in_use past) (false_seals past)) e
          ∙ (ap (λ (b : Bool). state_of (Some k) b (false_seals past)) u.open_then.0
          ∙ open_state k (false_seals past) u.open_then.1)

  pub fair : (is_free (recorded past).state ≡ false → g < 256) → (o : Outcome Standing) →
      decided causes (gives (standing (newest (sheets past)) s.draw)) ≡ o → Fair S past s p o
  fair low (gives v) e =
      let w = given causes v (standing (newest (sheets past)) s.draw) (sym e) in
      subst (Earned S past s) (sym w.1) (earned w.0)
  fair low (refuses n) e = λ u.
      let never : refuses n ≡ gives (standing (newest (sheets past)) s.draw) =
      sym e ∙ sym (undecided causes (gives (standing (newest (sheets past)) s.draw)) (passes low u)) in
      cc

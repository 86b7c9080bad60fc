-- What is true of a book after any calls, and what one act more makes of it. Assumes nothing.
use Rattle.std.proofs.Common.{◌≡◌, ℕ, ◌<◌, ◌≤◌, false, eqb, ◌≢◌, List, [], ◌∷◌, length, set, replicate, Some, None, Option, sym, refl, ap, ◌∙◌, subst, inl, inr, arith, length-set}
use Rattle.std.proofs.lemmas.List.{get_or-set_same, get_or-set_other, get_or_past, length-replicate, get_or-replicate}
use Rattle.std.proofs.lemmas.Bool.{cond_both, eqb-true, eqb-false, cases_lt, true≢false}
use Rattle.cipher.specs.declared.Key.{Key}
use Rattle.bound.specs.Counting.{Distinct}
use Rattle.seal.specs.Sealing.{Sealing, Among}
use Rattle.promise.specs.History.{Sheet, Act, on, turned_away, History, acts}
use Rattle.promise.specs.Past.{key, sheets, sealed_under}
use Rattle.promise.specs.Records.{Record, Table, free, new, grave, is_free}
use Rattle.promise.specs.Promise.{recorded}
use Rattle.promise.proofs.Pasts.{Sound, sound_none}
use Rattle.promise.proofs.Quiet.{Quiet}

-- an act at g is one more of g's, and none of another's
pub at_each : (P : ℕ → List Act → Type 0) (g : ℕ) (a : Act) (h : History) → P g (a ∷ acts g h) →
    ((i : ℕ) → g ≢ i → P i (acts i h)) → (i : ℕ) → P i (acts i (on g a ∷ h))
at_each P g a h here there i =
    cond_both (eqb g i) (a ∷ acts i h) (acts i h) (P i)
    (λ e. subst (λ j. P j (a ∷ acts j h)) (eqb-true g i e) here) (λ e. there i (eqb-false g i e))

-- the grave that sealed a sheet under a key and a draw
pub record Source (h : History) (under : Option Key × ℕ) : Type 0 where
  pub at : ℕ
  pub its_key : key (acts at h) ≡ under.0
  pub sheet : Sheet
  pub sealed_there : Among sheet (sheets (acts at h))
  pub its_draw : sheet.draw ≡ under.1

pub none≢some : {o : Option Key} {k : Key} → o ≡ None → o ≡ Some k → ⊥
none≢some n s = let z : ◌≡◌ {A = ℕ} 0 1 = cc in omega arith

module _ (S : Sealing) where
  pub record TrueBook (h : History) (t : Table) : Type 0 where
    pub size : length t ≡ 256
    pub records : (g : ℕ) → grave t g ≡ recorded (acts g h)
    pub sound : (g : ℕ) → Sound S (acts g h)
    pub keys_apart : (g i : ℕ) (k : Key) → key (acts g h) ≡ Some k → key (acts i h) ≡ Some k → g ≡ i
    pub source : (under : Option Key × ℕ) → Among under (sealed_under h) → Source h under
    pub once : Distinct (sealed_under h)

  free_in : (g n : ℕ) → grave (replicate n free) g ≡ free
  free_in g n =
      elim (cases_lt g n) [
        | inl l ↦ get_or-replicate n g free free l
        | inr m ↦ get_or_past (replicate n free) g free (omega (arith, length-replicate n free))
      ]

  pub true_new : TrueBook [] new
  true_new = record {
    size = length-replicate 256 free;
    records = λ g. free_in g 256;
    sound = λ g. sound_none S;
    keys_apart = λ g i k p q. absurd (none≢some refl p);
    source = λ under i. absurd i;
    once = tt;
  }

  module _ {h : History} {t : Table} (B : TrueBook h t) where
    pub true_refused : (n : ℕ) → TrueBook (turned_away n ∷ h) t
    true_refused n = record {
      size = B.size;
      records = B.records;
      sound = B.sound;
      keys_apart = B.keys_apart;
      source = λ under i. let w = B.source under i in record {
        at = w.at;
        its_key = w.its_key;
        sheet = w.sheet;
        sealed_there = w.sealed_there;
        its_draw = w.its_draw;
      };
      once = B.once;
    }

    -- a grave that is not free is one of the book's
    pub one_of_the_book : (g : ℕ) → is_free (recorded (acts g h)).state ≡ false → g < 256
    one_of_the_book g f =
        elim (cases_lt g 256) [
          | inl l ↦ l
          | inr m ↦ absurd (true≢false (sym (ap (λ (r : Record). is_free r.state) (beyond m)) ∙ f))
        ]
      where
        beyond : 256 ≤ g → recorded (acts g h) ≡ free
        beyond m = sym (B.records g) ∙ get_or_past t g free (omega (arith, B.size))

    module _ (g : ℕ) where
      pub records_after : (a : Act) (r : Record) → g < 256 → r ≡ recorded (a ∷ acts g h) →
          (i : ℕ) → grave (set t g r) i ≡ recorded (acts i (on g a ∷ h))
      records_after a r low e =
          at_each (λ i past. grave (set t g r) i ≡ recorded past) g a h
          (get_or-set_same t g r free (omega (arith, B.size)) ∙ e)
          (λ i other. get_or-set_other t g i r free (λ e. other (sym e)) ∙ B.records i)

      pub sound_after : (a : Act) → Sound S (a ∷ acts g h) → (i : ℕ) → Sound S (acts i (on g a ∷ h))
      sound_after a P = at_each (λ i past. Sound S past) g a h P (λ i other. B.sound i)

      module _ (a : Act) (same_key : (past : List Act) → key (a ∷ past) ≡ key past) where
        pub keys_after : (i : ℕ) → key (acts i (on g a ∷ h)) ≡ key (acts i h)
        keys_after = at_each (λ i past. key past ≡ key (acts i h)) g a h (same_key (acts g h)) (λ i other. refl)

        pub keys_apart_after : (i j : ℕ) (k : Key) → key (acts i (on g a ∷ h)) ≡ Some k →
            key (acts j (on g a ∷ h)) ≡ Some k → i ≡ j
        keys_apart_after i j k p q = B.keys_apart i j k (sym (keys_after i) ∙ p) (sym (keys_after j) ∙ q)

        pub source_after :
            ((i : ℕ) (s : Sheet) → Among s (sheets (acts i h)) → Among s (sheets (acts i (on g a ∷ h)))) →
            (under : Option Key × ℕ) → Among under (sealed_under h) → Source (on g a ∷ h) under
        source_after kept under i =
            let w = B.source under i in record {
              at = w.at;
              its_key = keys_after w.at ∙ w.its_key;
              sheet = w.sheet;
              sealed_there = kept w.at w.sheet w.sealed_there;
              its_draw = w.its_draw;
            }

      module _ (a : Act) (q : Quiet a) (P : Sound S (a ∷ acts g h)) where
        true_quiet : (t' : Table) → length t' ≡ 256 → ((i : ℕ) → grave t' i ≡ recorded (acts i (on g a ∷ h))) →
            TrueBook (on g a ∷ h) t'
        true_quiet t' size records = record {
          size = size;
          records = records;
          sound = sound_after a P;
          keys_apart = keys_apart_after a q.same_key;
          source = λ under i. source_after a q.same_key kept under (subst (Among under) (q.same_under g h) i);
          once = subst Distinct (sym (q.same_under g h)) B.once;
        }
          where
            kept : (i : ℕ) (s : Sheet) → Among s (sheets (acts i h)) → Among s (sheets (acts i (on g a ∷ h)))
            kept i s = at_each (λ i past. Among s (sheets (acts i h)) → Among s (sheets past)) g a h
                (subst (Among s) (sym (q.same_sheets (acts g h)))) (λ i other j. j) i

        pub true_act : (r : Record) → g < 256 → r ≡ recorded (a ∷ acts g h) → TrueBook (on g a ∷ h) (set t g r)
        true_act r low e = true_quiet (set t g r) (length-set t g r ∙ B.size) (records_after a r low e)

        -- an act that leaves the table
        pub true_left : recorded (acts g h) ≡ recorded (a ∷ acts g h) → TrueBook (on g a ∷ h) t
        true_left e =
            true_quiet t B.size
            (at_each (λ i past. grave t i ≡ recorded past) g a h (B.records g ∙ e) (λ i other. B.records i))

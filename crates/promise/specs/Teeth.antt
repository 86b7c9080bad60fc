-- What the law refutes: histories, newest event first, of books that go wrong. Assumes nothing.
use Rattle.std.specs.Prelude.{ℕ, zero, suc, ◌+◌, List, [], ◌∷◌}
use Rattle.cipher.specs.declared.Key.{Key}
use Rattle.refusal.specs.Outcomes.{Outcome, gives, refuses}
use Rattle.seal.specs.Sealing.{Sealing}
use Rattle.promise.specs.History.{Sheet, Standing, current, superseded, opened, drawn, sealed, voided, checked}
use Rattle.promise.specs.History.{cleared, closed, Event, on, History}
use Rattle.promise.specs.Law.{Law}

module _ (S : Sealing) (k j : Key) (x y : List ℕ) where
  -- the sheet of text z under draw d
  abbrev pub sheet : ℕ → List ℕ → Sheet
  sheet d z = record { draw = d; text = z; seal = S.seal k d z }

  -- with a seal that is wrong
  abbrev pub forged : Sheet
  forged = record { draw = 0; text = y; seal = S.seal k 0 y + 1 }

  -- a check at grave g, with room for the subkeys, and its answer
  abbrev pub check : ℕ → Sheet → Outcome Standing → Event
  check g s o = on g (checked s (S.chunks s.text) o)

  -- grave 7 is opened, hands out draw 0, and seals text x under it
  abbrev pub sealed_once : History
  sealed_once = on 7 (sealed (sheet 0 x)) ∷ on 7 (drawn 0) ∷ on 7 (opened k) ∷ []

  -- then grave 8 is opened with another key and hands out a draw
  abbrev pub two_open : History
  two_open = on 8 (drawn 0) ∷ on 8 (opened j) ∷ sealed_once

  -- n false seals at grave g, after what happened before
  abbrev pub false_seals_at : ℕ → ℕ → History → History
  false_seals_at g zero h = h
  false_seals_at g (suc n) h = check g forged (refuses 12) ∷ false_seals_at g n h

  abbrev pub Refuted : History → Type 0
  Refuted h = Law S h → ⊥

  pub record Teeth : Type 0 where
    -- an untouched sheet is refused: at once, after three false seals, after four at another grave, after a clearing
    pub turns_all_away : (n : ℕ) → Refuted (check 7 (sheet 0 x) (refuses n) ∷ sealed_once)
    pub locks_after_three : (n : ℕ) → Refuted (check 7 (sheet 0 x) (refuses n) ∷ false_seals_at 7 3 sealed_once)
    pub locks_another : (n : ℕ) → Refuted (check 7 (sheet 0 x) (refuses n) ∷ false_seals_at 8 4 two_open)
    pub stays_locked : (n : ℕ) →
        Refuted (check 7 (sheet 0 x) (refuses n) ∷ on 7 cleared ∷ false_seals_at 7 4 sealed_once)
    -- a sheet passes: at a locked grave, at a closed one, with a wrong seal, under a draw that was never handed out
    pub never_locks : (v : Standing) → Refuted (check 7 (sheet 0 x) (gives v) ∷ false_seals_at 7 4 sealed_once)
    pub passes_at_closed : (v : Standing) → Refuted (check 7 (sheet 0 x) (gives v) ∷ on 7 closed ∷ sealed_once)
    pub takes_any_seal : (v : Standing) → Refuted (check 7 forged (gives v) ∷ sealed_once)
    pub takes_any_draw : (v : Standing) → Refuted (check 7 (sheet 1 x) (gives v) ∷ sealed_once)
    -- the current sheet is called superseded, and a superseded one current
    pub not_current : Refuted (check 7 (sheet 0 x) (gives superseded) ∷ sealed_once)
    pub still_current :
        Refuted (check 7 (sheet 0 x) (gives current) ∷ on 7 (sealed (sheet 1 y)) ∷ on 7 (drawn 1) ∷ sealed_once)
    -- a wrong seal is handed out
    pub seals_wrong : Refuted (on 7 (sealed forged) ∷ on 7 (drawn 0) ∷ on 7 (opened k) ∷ [])
    -- two sheets under one key and draw: at one grave, and at two, since a closed grave's key was let in again
    pub seals_twice : Refuted (on 7 (sealed (sheet 0 y)) ∷ sealed_once)
    pub seals_again :
        Refuted (on 8 (sealed (sheet 0 y)) ∷ on 8 (drawn 0) ∷ on 8 (opened k) ∷ on 7 closed ∷ sealed_once)
    -- letting the key in is refuted by itself
    pub opens_with_used : Refuted (on 8 (opened k) ∷ on 7 closed ∷ sealed_once)
    -- draws that do not add up: one is sealed and voided, sealed and never handed out, handed out twice; five are held
    pub voids_a_sealed : Refuted (on 7 (voided 0) ∷ sealed_once)
    pub seals_undrawn : Refuted (on 7 (sealed (sheet 0 x)) ∷ on 7 (opened k) ∷ [])
    pub draws_again : Refuted (on 7 (drawn 0) ∷ on 7 (drawn 0) ∷ on 7 (opened k) ∷ [])
    pub holds_five : Refuted (
        on 7 (drawn 4) ∷ on 7 (drawn 3) ∷ on 7 (drawn 2) ∷ on 7 (drawn 1) ∷ on 7 (drawn 0) ∷ on 7 (opened k) ∷ [])

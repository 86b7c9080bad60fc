-- The rules of the calls: why each is refused, what it answers, the table afterwards, and runs. Assumes nothing.
use Rattle.std.specs.Prelude.{ℕ, cond, not, List, [], ◌∷◌, length, ◌==◌, nat_le, nat_lt, slice_set}
use Rattle.cipher.specs.declared.Key.{Key}
use Rattle.refusal.specs.Outcomes.{Outcome, gives, refuses, Cause, ◌when◌, decided}
use Rattle.seal.specs.Sealing.{Sealing}
use Rattle.promise.specs.Draws.{holds}
use Rattle.promise.specs.History.{Sheet, Call, to_open, to_draw, to_seal, to_void, to_check, to_clear, to_close}
use Rattle.promise.specs.History.{Given, Standing, event, History}
use Rattle.promise.specs.Past.{standing}
use Rattle.promise.specs.Records.{Record, Table, new, grave, is_free, free_or_closed, is_locked, is_used}
use Rattle.promise.specs.Records.{after_open, after_draw, after_seal, after_void, after_clear, after_close}
use Rattle.promise.specs.Records.{after_false_seal}

-- Why each call is refused at the grave's record, in the order of the tests.

abbrev pub open_causes : Table → Record → Key → List Cause
open_causes t r k = 2 when not (is_free r.state) ∷ 3 when is_used t k ∷ []

abbrev pub draw_causes : Record → List Cause
draw_causes r =
    4 when free_or_closed r.state
    ∷ 5 when is_locked r.state
    ∷ 6 when nat_le 4 (length r.held)
    ∷ 7 when nat_le 1000000 r.next
    ∷ []

abbrev pub seal_causes : Sealing → Record → ℕ → List ℕ → ℕ → List Cause
seal_causes S r d x p =
    4 when free_or_closed r.state
    ∷ 8 when not (holds d r.held)
    ∷ 9 when nat_lt S.longest (length x)
    ∷ 10 when nat_lt p (S.chunks x)
    ∷ []

abbrev pub void_causes : Record → ℕ → List Cause
void_causes r d = 4 when free_or_closed r.state ∷ 8 when not (holds d r.held) ∷ []

abbrev pub check_causes : Sealing → Record → Sheet → ℕ → List Cause
check_causes S r s p =
    4 when free_or_closed r.state
    ∷ 5 when is_locked r.state
    ∷ 9 when nat_lt S.longest (length s.text)
    ∷ 10 when nat_lt p (S.chunks s.text)
    ∷ 11 when nat_le r.next s.draw
    ∷ 12 when not (s.seal == S.seal r.key s.draw s.text)
    ∷ []

-- to clear a grave, and to close it
abbrev pub use_causes : Record → List Cause
use_causes r = 4 when free_or_closed r.state ∷ []

-- before these, where the call names its grave: there is no such grave
abbrev pub named : ℕ → List Cause → List Cause
named g cs = 1 when nat_lt 255 g ∷ cs

-- What each call answers.

abbrev pub answer : Sealing → Table → (c : Call) → Outcome (Given c)
answer S t (to_open g k) = decided (named g (open_causes t (grave t g) k)) (gives tt)
answer S t (to_draw g) = decided (named g (draw_causes (grave t g))) (gives (grave t g).next)
answer S t (to_seal g d x p) = decided (seal_causes S (grave t g) d x p) (gives (S.seal (grave t g).key d x))
answer S t (to_void g d) = decided (void_causes (grave t g) d) (gives tt)
answer S t (to_check g s p) =
    decided (named g (check_causes S (grave t g) s p)) (gives (standing (grave t g).current s.draw))
answer S t (to_clear g) = decided (named g (use_causes (grave t g))) (gives tt)
answer S t (to_close g) = decided (named g (use_causes (grave t g))) (gives tt)

-- The table after each call.

-- what is given is written at grave g, and a refusal leaves the table
abbrev pub written : Table → ℕ → Outcome Record → Table
written t g (gives r) = slice_set t g r
written t g (refuses n) = t

-- a check leaves the table, but for a false seal
abbrev pub after_check : Table → ℕ → Outcome Standing → Table
after_check t g (gives v) = t
after_check t g (refuses n) = cond (n == 12) (slice_set t g (after_false_seal (grave t g))) t

abbrev pub table : Sealing → Table → Call → Table
table S t (to_open g k) =
    written t g (decided (named g (open_causes t (grave t g) k)) (gives (after_open k (grave t g))))
table S t (to_draw g) = written t g (decided (named g (draw_causes (grave t g))) (gives (after_draw (grave t g))))
table S t (to_seal g d x p) =
    written t g (decided (seal_causes S (grave t g) d x p) (gives (after_seal d (grave t g))))
table S t (to_void g d) = written t g (decided (void_causes (grave t g) d) (gives (after_void d (grave t g))))
table S t (to_check g s p) = after_check t g (answer S t (to_check g s p))
table S t (to_clear g) = written t g (decided (named g (use_causes (grave t g))) (gives (after_clear (grave t g))))
table S t (to_close g) = written t g (decided (named g (use_causes (grave t g))) (gives (after_close (grave t g))))

-- the histories and tables that there can be: a new book's, and with one call more those that follow
pub data Reached (S : Sealing) : History → Table → Type 0 where
  fresh : Reached S [] new
  next_call : {h : History} {t : Table} → Reached S h t → (c : Call) →
      Reached S (event c (answer S t c) ∷ h) (table S t c)

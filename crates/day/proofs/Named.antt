-- What a call did at a desk it did at the desk with its field by name. Assumes nothing.
use Rattle.std.proofs.Common.{◌≡◌, ℕ, List, Ok, Err, Result, refl, ap}
use Rattle.std.specs.Result.{MatchResult}
use Rattle.std.specs.declared.alloc.AllocError.{AllocError}
use Rattle.fields.specs.declared.FieldName.{FieldName}
use Rattle.refusal.specs.Outcomes.{Outcome}
use Rattle.promise.specs.History.{Call, Given}
use Rattle.book.specs.Calls.{Done}
use Rattle.desk.specs.declared.errors.SpendError.{SpendError}
use Rattle.desk.specs.declared.errors.SpendError.TheVariants.{NotInHand, Refused}
use Rattle.desk.specs.Desks.{State, PassedOn, Absent, Seals, Voids}
use Rattle.script.specs.Lines.{Ask, open_it, draw_it, seal_it, void_it, check_it, clear_it, close_it, tell_it, owing}
use Rattle.day.specs.declared.answer.Answer.{Answer}
use Rattle.day.specs.Calls.{Made}
use Rattle.day.specs.Offices.{named}

module _ {F C : Type 0} (f : FieldName) (d d' : State F C) where
  done : (c : Call) (o : Outcome (Given c)) → Done d.book c o d'.book → Done (named f d).book c o (named f d').book
  done c o h = record {
    answers = h.answers;
    writes = h.writes;
    keeps = h.keeps;
    field = refl;
    cipher = h.cipher;
    goes_on = h.goes_on;
  }

  passed : (c : Call) (o : Outcome (Given c)) → PassedOn d c o d' → PassedOn (named f d) c o (named f d')
  passed c o h = record { asked = done c o h.asked; hand = h.hand }

  absent : (g n : ℕ) → Absent d g n d' → Absent (named f d) g n (named f d')
  absent g n h = record { not_in_hand = h.not_in_hand; unchanged = ap (named f) h.unchanged }

  seals : (g n : ℕ) (x : List ℕ) (p : ℕ) (r : Result ℕ SpendError) → Seals d g n x p r d' → Seals (named f d) g n x p r (named f d')
  seals g n x p (Ok s) h = record { was_in_hand = h.was_in_hand; asked = done _ _ h.asked; hand = h.hand }
  seals g n x p (Err NotInHand) h = absent g n h
  seals g n x p (Err (Refused w)) h = record { was_in_hand = h.was_in_hand; asked = done _ _ h.asked; hand = h.hand }

  voids : (g n : ℕ) (r : Result (Unit {0}) SpendError) → Voids d g n r d' → Voids (named f d) g n r (named f d')
  voids g n (Ok u) h = record { was_in_hand = h.was_in_hand; asked = done _ _ h.asked; hand = h.hand }
  voids g n (Err NotInHand) h = absent g n h
  voids g n (Err (Refused w)) h = record { was_in_hand = h.was_in_hand; asked = done _ _ h.asked; hand = h.hand }

  made_named : (q : Ask) (p : ℕ) (a : Answer) → Made d q p a d' → Made (named f d) q p a (named f d')
  made_named (open_it g k) p a h = (h.0, h.1, passed _ _ h.2)
  made_named (draw_it g) p a h = (h.0, h.1, record { asked = done _ _ h.2.asked; hand = h.2.hand })
  made_named (seal_it g n x) p a h = (h.0, h.1, seals g n x p h.0 h.2)
  made_named (void_it g n) p a h = (h.0, h.1, voids g n h.0 h.2)
  made_named (check_it g n x s) p a h = (h.0, h.1, passed _ _ h.2)
  made_named (clear_it g) p a h = (h.0, h.1, passed _ _ h.2)
  made_named (close_it g) p a h = (h.0, h.1, passed _ _ h.2)
  made_named (tell_it g) p a h = (h.0, h.1, h.2, ap (named f) h.3)
  made_named owing p a h = (h.0, h.1, h.2, ap (named f) h.3)

  pub run_named : (q : Ask) (p : ℕ) (r : Result Answer AllocError) → MatchResult r (λ a. Made d q p a d') (λ _. d' ≡ d)
      → MatchResult r (λ a. Made (named f d) q p a (named f d')) (λ _. named f d' ≡ named f d)
  run_named q p (Ok a) h = made_named q p a h
  run_named q p (Err e) h = ap (named f) h

-- The acts that neither open a grave nor seal a sheet. Assumes nothing.
use Rattle.std.proofs.Common.{◌≡◌, ℕ, List, ◌∷◌, refl}
use Rattle.refusal.specs.Outcomes.{Outcome}
use Rattle.promise.specs.History.{Sheet, Standing, Act, drawn, voided, checked, cleared, closed, on, History}
use Rattle.promise.specs.Past.{key, sheets, sealed_under}

-- the act leaves keys and sheets as they were
pub record Quiet (a : Act) : Type 0 where
  pub same_key : (past : List Act) → key (a ∷ past) ≡ key past
  pub same_sheets : (past : List Act) → sheets (a ∷ past) ≡ sheets past
  pub same_under : (g : ℕ) (h : History) → sealed_under (on g a ∷ h) ≡ sealed_under h

pub drawn_quiet : (d : ℕ) → Quiet (drawn d)
drawn_quiet d = record { same_key = λ past. refl; same_sheets = λ past. refl; same_under = λ g h. refl }

pub voided_quiet : (d : ℕ) → Quiet (voided d)
voided_quiet d = record { same_key = λ past. refl; same_sheets = λ past. refl; same_under = λ g h. refl }

pub checked_quiet : (s : Sheet) (p : ℕ) (o : Outcome Standing) → Quiet (checked s p o)
checked_quiet s p o = record { same_key = λ past. refl; same_sheets = λ past. refl; same_under = λ g h. refl }

pub cleared_quiet : Quiet cleared
cleared_quiet = record { same_key = λ past. refl; same_sheets = λ past. refl; same_under = λ g h. refl }

pub closed_quiet : Quiet closed
closed_quiet = record { same_key = λ past. refl; same_sheets = λ past. refl; same_under = λ g h. refl }

-- A call of the script, made at a desk. Assumes nothing.
use Rattle.std.specs.Prelude.{◌≡◌, ℕ, Ok, Err, Option, Result}
use Rattle.refusal.specs.declared.Refusal.{Refusal}
use Rattle.refusal.specs.Outcomes.{told}
use Rattle.promise.specs.History.{to_open, to_check, to_clear, to_close}
use Rattle.graves.specs.declared.turns.Standing.{Standing}
use Rattle.graves.specs.Checks.{checked_told}
use Rattle.book.specs.declared.calls.Account.{Account}
use Rattle.book.specs.Calls.{account_told, tell_outcome, Owing}
use Rattle.desk.specs.declared.errors.SpendError.{SpendError}
use Rattle.desk.specs.Desks.{State, PassedOn, Drawn, Seals, Voids}
use Rattle.script.specs.Lines.{Ask, open_it, draw_it, seal_it, void_it, check_it, clear_it, close_it, tell_it, owing}
use Rattle.day.specs.declared.answer.Answer.{Answer}
use Rattle.day.specs.declared.answer.Answer.TheVariants as is
use Rattle.day.specs.declared.call_error.CallError.{CallError}
use Rattle.day.specs.declared.call_error.CallError.TheVariants.{Memory, NotInHand, Refused}
use Rattle.day.specs.Replies.{reply, reply_spent}

module _ {F C : Type 0} where
  -- the call was made at desk d with a ring of p places, and left d'; the answer is what the desk told
  abbrev pub Made : State F C → Ask → ℕ → Answer → State F C → Type 0
  Made d (open_it g k) p a d' =
      (r : Result (Unit {0}) Refusal) × (a ≡ reply (λ _. is.Done) r) × PassedOn d (to_open g k) (told r) d'
  Made d (draw_it g) p a d' = (r : Result ℕ Refusal) × (a ≡ reply is.Drawn r) × Drawn d g r d'
  Made d (seal_it g n x) p a d' = (r : Result ℕ SpendError) × (a ≡ reply_spent is.Sealed r) × Seals d g n x p r d'
  Made d (void_it g n) p a d' =
      (r : Result (Unit {0}) SpendError) × (a ≡ reply_spent (λ _. is.Done) r) × Voids d g n r d'
  Made d (check_it g n x s) p a d' =
      (r : Result Standing Refusal)
      × (a ≡ reply is.Standing r)
      × PassedOn d (to_check g (record { draw = n; text = x; seal = s }) p) (checked_told r) d'
  Made d (clear_it g) p a d' =
      (r : Result (Unit {0}) Refusal) × (a ≡ reply (λ _. is.Done) r) × PassedOn d (to_clear g) (told r) d'
  Made d (close_it g) p a d' =
      (r : Result (Unit {0}) Refusal) × (a ≡ reply (λ _. is.Done) r) × PassedOn d (to_close g) (told r) d'
  Made d (tell_it g) p a d' =
      (r : Result Account Refusal)
      × (a ≡ reply is.Account r)
      × (account_told r ≡ tell_outcome d.book.table g)
      × (d' ≡ d)
  Made d owing p a d' = (r : Option ℕ) × (a ≡ is.Owing r) × Owing d.book.table r × (d' ≡ d)

  -- the same, where the answer or why there is none is at hand; without memory nothing changes
  abbrev pub Left : State F C → Ask → ℕ → Result Answer CallError → State F C → Type 0
  Left d q p (Ok a) d' = Made d q p a d'
  Left d q p (Err NotInHand) d' = Made d q p is.NotInHand d'
  Left d q p (Err (Refused w)) d' = Made d q p (is.Refused w) d'
  Left d q p (Err (Memory e)) d' = d' ≡ d

-- What a call of the book's code did, by the rules. Assumes nothing.
use Rattle.std.specs.Prelude.{◌≡◌, ℕ, ◌<◌, [], ◌∷◌, length, Some, None, Ok, Err, Option, Result}
use Rattle.refusal.specs.declared.Refusal.{Refusal}
use Rattle.refusal.specs.Numbers.{number_of}
use Rattle.refusal.specs.Outcomes.{Outcome, gives, refuses, decided}
use Rattle.cipher.specs.declared.Block.{Block}
use Rattle.cipher.specs.declared.Key.{Key}
use Rattle.field.specs.Model.{Model}
use Rattle.seal.specs.Sealing.{Sealing}
use Rattle.seal.specs.Seals as seals
use Rattle.promise.specs.History.{Call, Given, to_open, to_draw, to_seal, to_void, to_check, to_clear, to_close}
use Rattle.promise.specs.History.{event, History}
use Rattle.promise.specs.Records.{Table, Record, State, grave}
use Rattle.promise.specs.Register.{named, answer, table, Reached}
use Rattle.book.specs.declared.calls.Book.{Book}
use Rattle.book.specs.declared.calls.Draw.{Draw}
use Rattle.book.specs.declared.calls.Returned.{Returned}
use Rattle.book.specs.declared.calls.Account.{Account}
use Rattle.graves.specs.States as graves
use Rattle.graves.specs.Entries.{records}

-- a book as the rules have it, with its field and its cipher
pub record BookState (F C : Type 0) : Type 0 where
  pub field : F
  pub cipher : C
  pub sealing : Sealing
  pub table : Table

-- of a book over the field with model m, whose cipher has the function f
abbrev pub state : {F C : Type 0} → Model → (C → Key → Block → Block) → Book F C → BookState F C
state m f b = record {
  field = b.field;
  cipher = b.cipher;
  sealing = seals.sealing m (f b.cipher);
  table = records b.graves.table;
}

-- a call that does not ask the cipher leaves it as it was
abbrev pub KeepsCipher : {C : Type 0} → Call → C → C → Type 0
KeepsCipher (to_open g k) x x' = x' ≡ x
KeepsCipher (to_draw g) x x' = x' ≡ x
KeepsCipher (to_seal g d t p) x x' = Unit {0}
KeepsCipher (to_void g d) x x' = x' ≡ x
KeepsCipher (to_check g s p) x x' = Unit {0}
KeepsCipher (to_clear g) x x' = x' ≡ x
KeepsCipher (to_close g) x x' = x' ≡ x

-- From state b, the call c was answered by o, and left state b'.
pub record Done {F C : Type 0} (b : BookState F C) (c : Call) (o : Outcome (Given c)) (b' : BookState F C) : Type 0 where
  -- by the rules
  pub answers : o ≡ answer b.sealing b.table c
  pub writes : b'.table ≡ table b.sealing b.table c
  pub keeps : b'.sealing ≡ b.sealing
  -- over the same field and cipher
  pub field : b'.field ≡ b.field
  pub cipher : KeepsCipher c b.cipher b'.cipher
  -- so that every run that led to the book as it was goes on to the book as it is
  pub goes_on : (h : History) → Reached b.sealing h b.table → Reached b'.sealing (event c o ∷ h) b'.table

-- the outcomes that the code's answers stand for

abbrev pub drawn_told : Result Draw Refusal → Outcome ℕ
drawn_told (Ok d) = gives d.number
drawn_told (Err w) = refuses (number_of w)

abbrev pub sealed_told : Result ℕ Returned → Outcome ℕ
sealed_told (Ok s) = gives s
sealed_told (Err b) = refuses (number_of b.refusal)

-- the grave's number, or that there is no such grave
abbrev pub place_outcome : ℕ → Outcome ℕ
place_outcome g = decided (named g []) (gives g)

-- what the book tells of a grave
pub record Told : Type 0 where
  pub state : State
  pub sealed : ℕ
  pub voided : ℕ
  pub held : ℕ
  pub current : Option ℕ

abbrev pub told_of : Record → Told
told_of r = record {
  state = r.state;
  sealed = r.sealed;
  voided = r.voided;
  held = length r.held;
  current = r.current;
}

abbrev pub account : Account → Told
account a = record {
  state = graves.state a.state;
  sealed = a.sealed;
  voided = a.voided;
  held = a.held;
  current = a.current;
}

abbrev pub account_told : Result Account Refusal → Outcome Told
account_told (Ok a) = gives (account a)
account_told (Err w) = refuses (number_of w)

abbrev pub tell_outcome : Table → ℕ → Outcome Told
tell_outcome t g = decided (named g []) (gives (told_of (grave t g)))

-- a grave with held draws, or none where no grave has any
abbrev pub Owing : Table → Option ℕ → Type 0
Owing t (Some g) = (g < 256) × (0 < length (grave t g).held)
Owing t None = (g : ℕ) → g < 256 → (grave t g).held ≡ []

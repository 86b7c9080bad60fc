-- What a desk's calls do: the call that its book was asked, its answer, and the draws in hand. Assumes nothing.
use Rattle.std.specs.Prelude.{◌≡◌, ℕ, true, false, List, length, replicate, reverse, vec_items, Ok, Err, Result}
use Rattle.refusal.specs.declared.Refusal.{Refusal}
use Rattle.refusal.specs.Outcomes.{Outcome, told}
use Rattle.cipher.specs.declared.Block.{Block}
use Rattle.cipher.specs.declared.Key.{Key}
use Rattle.field.specs.Model.{Model}
use Rattle.promise.specs.History.{Call, Given, History, to_draw, to_seal, to_void}
use Rattle.promise.specs.Register.{Reached}
use Rattle.book.specs.declared.calls.Draw.{Draw}
use Rattle.book.specs.Calls.{BookState, Done}
use Rattle.book.specs.Calls as books
use Rattle.desk.specs.declared.errors.DrawError.{DrawError}
use Rattle.desk.specs.declared.errors.DrawError.TheVariants as of_draw
use Rattle.desk.specs.declared.errors.SpendError.{SpendError}
use Rattle.desk.specs.declared.errors.SpendError.TheVariants as of_spend
use Rattle.desk.specs.declared.Desk.{Desk}
use Rattle.desk.specs.Hands.{in_hand, without, after_draw, after_seal}
use Rattle.desk.specs.Endings.{all_voided, and_voids}

-- the book as the rules have it, and the draws in hand, oldest first
pub record State (F C : Type 0) : Type 0 where
  pub book : BookState F C
  pub hand : List Draw

abbrev pub state : {F C : Type 0} → Model → (C → Key → Block → Block) → Desk F C → State F C
state m f d = record { book = books.state m f d.book; hand = vec_items d.hand }

module _ {F C : Type 0} where
  -- the book was asked this call and answered so, and the hand is as it was
  pub record PassedOn (d : State F C) (c : Call) (o : Outcome (Given c)) (d' : State F C) : Type 0 where
    pub asked : Done d.book c o d'.book
    pub hand : d'.hand ≡ d.hand

  -- the book was asked for a draw, which is then in hand
  pub record Drawn (d : State F C) (g : ℕ) (a : Result ℕ Refusal) (d' : State F C) : Type 0 where
    pub asked : Done d.book (to_draw g) (told a) d'.book
    pub hand : d'.hand ≡ after_draw g a d.hand

  -- without memory for the draw the book is not asked, and nothing changes
  abbrev pub Draws : State F C → ℕ → Result ℕ DrawError → State F C → Type 0
  Draws d g (Ok n) d' = Drawn d g (Ok n) d'
  Draws d g (Err (of_draw.Memory e)) d' = d' ≡ d
  Draws d g (Err (of_draw.Refused w)) d' = Drawn d g (Err w) d'

  -- the draw was not in hand; the book was not asked, and nothing changed
  pub record Absent (d : State F C) (g n : ℕ) (d' : State F C) : Type 0 where
    pub not_in_hand : in_hand g n d.hand ≡ false
    pub unchanged : d' ≡ d

  -- the book was asked to seal text x under draw n of grave g, which was in hand; p is the length of the ring
  pub record Sealed (d : State F C) (g n : ℕ) (x : List ℕ) (p : ℕ) (a : Result ℕ Refusal) (d' : State F C) : Type 0 where
    pub was_in_hand : in_hand g n d.hand ≡ true
    pub asked : Done d.book (to_seal g n x p) (told a) d'.book
    pub hand : d'.hand ≡ after_seal g n a d.hand

  abbrev pub Seals : State F C → ℕ → ℕ → List ℕ → ℕ → Result ℕ SpendError → State F C → Type 0
  Seals d g n x p (Ok s) d' = Sealed d g n x p (Ok s) d'
  Seals d g n x p (Err of_spend.NotInHand) d' = Absent d g n d'
  Seals d g n x p (Err (of_spend.Refused w)) d' = Sealed d g n x p (Err w) d'

  -- the book was asked to void draw n of grave g, which was in hand and is no more
  pub record Voided (d : State F C) (g n : ℕ) (a : Result (Unit {0}) Refusal) (d' : State F C) : Type 0 where
    pub was_in_hand : in_hand g n d.hand ≡ true
    pub asked : Done d.book (to_void g n) (told a) d'.book
    pub hand : d'.hand ≡ without g n d.hand

  abbrev pub Voids : State F C → ℕ → ℕ → Result (Unit {0}) SpendError → State F C → Type 0
  Voids d g n (Ok u) d' = Voided d g n (Ok u) d'
  Voids d g n (Err of_spend.NotInHand) d' = Absent d g n d'
  Voids d g n (Err (of_spend.Refused w)) d' = Voided d g n (Err w) d'

  -- the draws in hand were given to void, the newest first, and the book is handed over
  pub record Ended (d : State F C) (b : BookState F C) : Type 0 where
    pub field : b.field ≡ d.book.field
    pub cipher : b.cipher ≡ d.book.cipher
    pub table : b.table ≡ all_voided d.book.sealing (reverse d.hand) d.book.table
    -- and every run that led to the desk's book goes on by those voids
    pub run : (h : History) → Reached d.book.sealing h d.book.table
        → Reached b.sealing (and_voids d.book.sealing (reverse d.hand) d.book.table h) b.table

-- the ring afterwards: as it was where the draw was not in hand, and else zeros
abbrev pub RingLeft : Result ℕ SpendError → List ℕ → List ℕ → Type 0
RingLeft (Ok s) ring ring' = ring' ≡ replicate (length ring) 0
RingLeft (Err of_spend.NotInHand) ring ring' = ring' ≡ ring
RingLeft (Err (of_spend.Refused w)) ring ring' = ring' ≡ replicate (length ring) 0

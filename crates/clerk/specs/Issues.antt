-- What issuing a sheet adds to the history of a book. Assumes nothing.
use Rattle.std.specs.Prelude.{◌≡◌, ℕ, ◌⊎◌, List, [], ◌∷◌, ◌++◌}
use Rattle.refusal.specs.Outcomes.{Outcome}
use Rattle.promise.specs.History.{Event, History, Sheet, on, drawn, sealed, turned_away, to_void, event}
use Rattle.promise.specs.Register.{Reached}
use Rattle.book.specs.Calls.{BookState}

module _ {F C : Type 0} where
  -- every run that led to the first state goes on to the second by these events, newest first, over the same field
  pub record GoesOn (b : BookState F C) (es : List Event) (b' : BookState F C) : Type 0 where
    pub run : (h : History) → Reached b.sealing h b.table → Reached b'.sealing (es ++ h) b'.table
    pub field : b'.field ≡ b.field

  -- a draw, and a sheet sealed under it
  abbrev pub Issues : BookState F C → ℕ → Sheet → BookState F C → Type 0
  Issues b g s b' = GoesOn b (on g (sealed s) ∷ on g (drawn s.draw) ∷ []) b'

  -- no draw was handed out; or one was, its seal was refused for that reason, and it was given up to be voided
  abbrev pub GivesUp : BookState F C → ℕ → ℕ → BookState F C → Type 0
  GivesUp b g n b' =
      GoesOn b (turned_away n ∷ []) b'
      ⊎ ((d : ℕ) × ((o : Outcome (Unit {0})) ×
      GoesOn b (event (to_void g d) o ∷ turned_away n ∷ on g (drawn d) ∷ []) b'))

-- A call that answers and leaves the table as defined carries any run on. Assumes nothing.
use Rattle.std.proofs.Common.{◌≡◌, ◌∷◌, sym, subst₂}
use Rattle.refusal.specs.Outcomes.{Outcome}
use Rattle.seal.specs.Sealing.{Sealing}
use Rattle.promise.specs.History.{Call, Given, event, History}
use Rattle.promise.specs.Records.{Table}
use Rattle.promise.specs.Register.{answer, table, Reached, next_call}

pub continues : (S : Sealing) (t t' : Table) (c : Call) (o : Outcome (Given c)) →
    o ≡ answer S t c → t' ≡ table S t c → (h : History) → Reached S h t → Reached S (event c o ∷ h) t'
continues S t t' c o answered left h run =
    subst₂ (λ (o : Outcome (Given c)) (t : Table). Reached S (event c o ∷ h) t) (sym answered) (sym left)
    (next_call run c)

-- What a void adds to a history is the same under equal graves and draws. Assumes nothing.
use Rattle.std.proofs.Common.{◌≡◌, ℕ, List, ◌∷◌, subst}
use Rattle.refusal.specs.Outcomes.{Outcome}
use Rattle.promise.specs.History.{Event, to_void, event}
use Rattle.book.specs.declared.calls.Draw.{Draw}
use Rattle.book.specs.Calls.{BookState}
use Rattle.clerk.specs.Issues.{GoesOn}

pub void_of : {F C : Type 0} (b b' : BookState F C) (es : List Event) (o : Outcome (Unit {0})) (back draw : Draw) (g : ℕ)
    → back ≡ draw → draw.grave ≡ g → GoesOn b (event (to_void back.grave back.number) o ∷ es) b'
    → GoesOn b (event (to_void g draw.number) o ∷ es) b'
void_of b b' es o back draw g same of_grave run =
    let AtDraw : Draw → Type 0 = λ d. GoesOn b (event (to_void d.grave d.number) o ∷ es) b' in
    let AtGrave : ℕ → Type 0 = λ a. GoesOn b (event (to_void a draw.number) o ∷ es) b' in
    subst AtGrave of_grave (subst AtDraw same run)

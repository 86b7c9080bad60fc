use Rattle.std.proofs.Common.{◌≡◌, true, false, refl, ◌∙◌, rules, tests, arith}
use Rattle.std.proofs.lemmas.Iterator.{YieldsList-from_slice, IsFirst-from_position}
use Rattle.std.proofs.lemmas.List.Recursion.{or_at, or_from_places}
use Rattle.book.specs.declared.calls.Draw.{Draw}
use Rattle.desk.specs.Hands.{is_draw, in_hand}
use Rattle.desk.proofs.Looking.{it_is, left_out}
use Rattle.desk.proofs.take.Goals as goal

-- what an element that cannot be there is read as
abbrev none : Draw
none = record { grave = 0; number = 0 }

pub returns-in_err-place-clause-taken : goal.returns-in_err-place-clause-taken
returns-in_err-place-clause-taken c =
    let g = c.args.grave in
    let n = c.args.number in
    let hand = c.args.hand.now.items in
    let first = IsFirst-from_position _ _ c.position.result (λ (d : Draw). is_draw g n d ≡ true) (λ (d : Draw). is_draw g n d ≡ false)
    c.position.ensures.ran (YieldsList-from_slice hand cc) (λ x q k. search (rules, tests)) (λ x q k. search (rules, tests)) in
    let others = rw c.in_err-place.was at first in
    rw c.from_residual.ensures
    (or_from_places (in_hand g n) (is_draw g n) refl (λ _ _. refl) hand none (λ i within. others i none (omega arith) within), refl)

pub returns-clause-taken : goal.returns-clause-taken
returns-clause-taken c =
    let g = c.args.grave in
    let n = c.args.number in
    let hand = c.args.hand.now.items in
    let i = c.in_ok-place.place in
    let first = IsFirst-from_position _ _ c.position.result (λ (d : Draw). is_draw g n d ≡ true) (λ (d : Draw). is_draw g n d ≡ false)
    c.position.ensures.ran (YieldsList-from_slice hand cc) (λ x q k. search (rules, tests)) (λ x q k. search (rules, tests)) in
    let found = rw c.in_ok-place.was at first in (
      c.remove.ensures.value ∙ it_is g n _ (found.1 c.remove.result),
      or_at (in_hand g n) (is_draw g n) refl (λ _ _. refl) hand i none found.0 (found.1 none),
      c.remove.ensures.items ∙ left_out g n none hand i found.0 (found.1 none) (λ k less. found.2 k none (omega arith) less),
    )

use Rattle.std.proofs.Common.{◌≡◌, ℕ, ◌-◌, ◌≤◌, List, length, take, sym, refl, ap, ◌∙◌, arith}
use Rattle.std.proofs.lemmas.List.{length-take}
use Rattle.byte_rows.proofs.Fronts.{front_some}
use Rattle.fields.proofs.Called.{called}
use Rattle.record.specs.Kinds.{number_of}
use Rattle.record.proofs.Named.{named}
use Rattle.listing.proofs.Requests.{opened, answered}
use Rattle.listing.proofs.answer.answer.Goals as goal

-- the first n of eight places
places : (zeros : List ℕ) (n : ℕ) → length zeros ≡ 8 → n ≤ 8 → length (take (n - 0) zeros) ≡ n
places zeros n eight few = length-take (n - 0) zeros ∙ omega arith

pub returns : goal.returns
returns c =
    let body = c.args.body.now in
    let after_field = c.in-Some.after_field.now in
    let after_count = c.in-Some-take.after_count.now in
    let n = c.in-Some-take.count in
    let few : n ≤ 8 = omega arith in
    let many = c.from-count.result in
    let fits : many ≤ 8 = omega arith in
    answered (named c.args.kind _ c.in-Ok-HashRequest.ensures ∙ ap number_of c.in-Ok-HashRequest.field-0-is)
    (opened (front_some 1 body after_field c.in-Some.field c.in-Some.ensures)
    (front_some 1 after_field after_count n c.in-Some-take.ensures))
    (sym (called c.in-Some.field c.in_ok-field.field c.in_ok-field.ensures)) few (places _ many refl fits ∙ c.from-count.ensures)
    c.in-Some-take_subkeys.ensures.rest (c.in-Some-take_subkeys.ensures.ring refl)
    c.hash_over.ensures

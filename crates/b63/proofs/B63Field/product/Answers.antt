use Rattle.std.proofs.Common.{◌≡◌, ap₂, ◌∙◌, ℕ, mod-lt, mod-eq_of_lt, lit<}
use Rattle.std.proofs.lemmas.Nat.{and_mask}
use Rattle.b63.specs.Binary.{means63, times63, Remainder}
use Rattle.b63.proofs.Remainder.{remainder63}
use Rattle.b63.proofs.B63Field.product.Goals as goal

pub returns : goal.returns
returns c =
    let a : ℕ = means63 c.args.a in
    let b : ℕ = means63 c.args.b in
    let r : ℕ = c.multiply.result in
    let masks = ap₂ times63 (and_mask c.args.a 63) (and_mask c.args.b 63) in
    let is : r ≡ times63 a b = c.multiply.ensures ∙ masks in
    let left : Remainder a b r = rw is (remainder63 a b (mod-lt c.args.b (lit< tt))) in
    let own : means63 r ≡ r = mod-eq_of_lt left.below in
    record { element = own ∙ is; remainder = rw own left }

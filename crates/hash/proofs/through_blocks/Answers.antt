use Rattle.std.proofs.Common.{ℕ, ◌<◌, ◌≤◌, length, sym, ap, ◌∙◌, arith}
use Rattle.std.specs.Slice.Iter.{chunks_rest}
use Rattle.hash.specs.Texts.{block_bytes}
use Rattle.hash.proofs.Horner.{small_own}
use Rattle.hash.proofs.Steps.{through_one, turned}
use Rattle.hash.proofs.through_blocks.Goals as goal

pub loop-block-preserved : goal.loop-block-preserved
loop-block-preserved g c =
    let m = g.F.Field.model in
    let k : ℕ = m.means c.args.subkey in
    let x : ℕ = m.means c.loop-block.x in
    let piece = c.in-Some.block.now in
    let step = c.in-Some.ensures.steps in
    let own = small_own g.met.F.Field.holds c.block_number.result c.block_number.ensures.small in
    let short : length piece ≤ block_bytes = omega (arith, step.1.1, c.loop-block.invariant.0) in
    let some : 0 < length piece = omega (arith, step.1.1, step.1.2, c.loop-block.invariant.0) in (
      step.0 ∙ c.loop-block.invariant.0,
      turned m k x (m.means c.product-x.result) (chunks_rest c.loop-block.block-iterator) piece (chunks_rest c.next.new.self) 1
          c.loop-block.invariant.1 step.1.0 step.1.1 c.loop-block.invariant.0
          (c.product-x.ensures.element
          ∙ ap (λ (y : ℕ). m.times y k)
          (c.sum.ensures.element ∙ ap (m.plus x) (own ∙ c.block_number.ensures.value))
          ∙ sym (through_one m k x piece some short)),
    )

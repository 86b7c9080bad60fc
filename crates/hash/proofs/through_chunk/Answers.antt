use Rattle.std.proofs.Common.{ℕ, ap, ◌∙◌}
use Rattle.std.specs.Slice.Iter.{chunks_rest}
use Rattle.hash.specs.Steps.{group_blocks, through}
use Rattle.hash.proofs.Steps.{turned}
use Rattle.hash.proofs.through_chunk.Goals as goal

pub loop-group-preserved-then-group-eq-GROUP_BYTES : goal.loop-group-preserved-then-group-eq-GROUP_BYTES
loop-group-preserved-then-group-eq-GROUP_BYTES g c =
    let m = g.F.Field.model in
    let x : ℕ = m.means c.loop-group.x in
    let piece = c.in-Some.group.now in
    let step = c.in-Some.ensures.steps in (
      step.0 ∙ c.loop-group.invariant.0,
      turned m (m.means c.args.subkey) x (m.means c.through_group-x.result)
          (chunks_rest c.loop-group.group-iterator) piece (chunks_rest c.next.new.self) group_blocks
          c.loop-group.invariant.1 step.1.0 step.1.1 c.loop-group.invariant.0
          (c.through_group-x.ensures.element
          ∙ ap (λ (k : ℕ). through m (m.means k) x piece) c.powers-powers.ensures.subkey),
    )

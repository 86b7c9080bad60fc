use Rattle.std.proofs.Common.{◌∙◌}
use Rattle.std.specs.Iterator.Adapters.{enumerate_source}
use Rattle.std.specs.Slice.Iter.{chunks_rest}
use Rattle.hash.proofs.Horner.{turned}
use Rattle.hash.proofs.polynomial.Goals as goal

pub loop-c-preserved : goal.loop-c-preserved
loop-c-preserved g c =
    let step = c.in-Some.ensures.steps in (
      step.0.0 ∙ c.loop-c.invariant.0,
      turned g.met.F.Field.holds c.args.ring.now c.args.text.now c.in-Some.chunk.now
          (chunks_rest (enumerate_source c.next.new.self)) c.loop-c.invariant.1 c.requires
          step.0.1.0 step.0.1.1 step.0.1.2 step.1 step.2 c.loop-c.invariant.0
          c.through_chunk-x.ensures.element,
    )

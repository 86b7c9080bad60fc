use Rattle.bound.proofs.Theorem.{collision_bound}
use Rattle.bound.proofs.collisions.Goals as goal

pub returns-then-chunks-eq1-clause-bound : goal.returns-then-chunks-eq1-clause-bound
returns-then-chunks-eq1-clause-bound g c = collision_bound g.met.F.Field.holds

pub returns-else-chunks-eq1-clause-bound : goal.returns-else-chunks-eq1-clause-bound
returns-else-chunks-eq1-clause-bound g c = collision_bound g.met.F.Field.holds

use Rattle.std.proofs.Common.{refl}
use Rattle.promise.proofs.Theorem.{promise}
use Rattle.promise.proofs.Examples.{any_calls}
use Rattle.promise.proofs.graves.Goals as goal

pub returns : goal.returns
returns c = record { count = refl; promise = promise; any = any_calls }

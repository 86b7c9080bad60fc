use Rattle.std.proofs.Common.{ltb, refl}
use Rattle.std.proofs.lemmas.Bool.{cond-true, lt-ltb}
use Rattle.promise.specs.Records.{Open, Locked}
use Rattle.promise.proofs.Teeth.{teeth}
use Rattle.promise.proofs.Examples.{examples}
use Rattle.promise.proofs.false_seals_to_lock.Goals as goal

pub returns : goal.returns
returns c = record {
  locks = refl;
  fewer = λ n few. cond-true (ltb n 4) (Open n) Locked (lt-ltb n 4 few);
  teeth = teeth;
  examples = examples;
}

use Rattle.std.proofs.lemmas.Nat.{xor_mod}
use Rattle.b63.proofs.B63Field.sum.Goals as goal

pub returns : goal.returns
returns c = record { element = xor_mod c.args.a c.args.b 63 }

use Rattle.promise.specs.Register.{fresh}
use Rattle.promise.proofs.Theorem.{promise}
use Rattle.book.proofs.calls.Book.new.Goals as goal

pub returns-clause-starts : goal.returns-clause-starts
returns-clause-starts g c = fresh

pub returns-clause-promise : goal.returns-clause-promise
returns-clause-promise g c = promise _ _ g.met.F.Field.holds

use Rattle.std.proofs.Common.{◌<◌, length, refl, arith}
use Rattle.promise.specs.Records.{Record, after_void}
use Rattle.promise.specs.Register.{void_causes}
use Rattle.book.proofs.Placed.{by_draw, turned}
use Rattle.book.proofs.Finished.{finished}
use Rattle.book.proofs.calls.Book.void.Goals as goal

pub returns : goal.returns
returns g c =
    let rs = c.args.self.now.graves.table in
    let n = c.args.draw.number in
    let there : c.from.result < length rs = grind arith in
    finished _ _ _ _ refl refl refl
    (turned (by_draw rs _ _ c.from.ensures there) _ (λ (q : Record). void_causes q n) (λ _. tt) (after_void n) _ _ c.void.ensures)

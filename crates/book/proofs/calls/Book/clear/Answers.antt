use Rattle.std.proofs.Common.{◌<◌, length, refl, arith}
use Rattle.std.proofs.lemmas.Result.{err_from_is_err_and}
use Rattle.promise.specs.Records.{after_clear}
use Rattle.promise.specs.Register.{use_causes}
use Rattle.book.proofs.Placed.{by_name, turned}
use Rattle.book.proofs.Finished.{finished}
use Rattle.book.proofs.Nowhere.{nowhere}
use Rattle.book.proofs.calls.Book.clear.Goals as goal

pub returns-in_err-grave : goal.returns-in_err-grave
returns-in_err-grave g c =
    let p = err_from_is_err_and c.from_residual.result c.from_residual.ensures.1 in
    rw (p.1, p.2) (nowhere _ _ c.args.grave _ refl c.in_err-grave.ensures)

pub returns : goal.returns
returns g c =
    let rs = c.args.self.now.graves.table in
    let there : c.from.result < length rs = grind arith in
    let at = by_name rs c.args.grave _ _ c.in_ok-grave.ensures c.from.ensures there in
    finished _ _ _ _ refl refl refl (turned at _ use_causes (λ _. tt) after_clear _ _ c.clear.ensures)

use Rattle.std.proofs.Common.{◌<◌, length, refl, arith}
use Rattle.std.proofs.lemmas.Result.{err_from_is_err_and}
use Rattle.promise.specs.Records.{Record, after_draw}
use Rattle.promise.specs.Register.{draw_causes}
use Rattle.book.proofs.Placed.{by_name, turned}
use Rattle.book.proofs.Finished.{finished}
use Rattle.book.proofs.Nowhere.{nowhere}
use Rattle.book.proofs.calls.Book.draw.Goals as goal

pub returns-in_err-grave-clause-done : goal.returns-in_err-grave-clause-done
returns-in_err-grave-clause-done g c =
    let p = err_from_is_err_and c.from_residual.result c.from_residual.ensures.1 in
    rw (p.1, p.2) (nowhere _ _ c.args.grave _ refl c.in_err-grave.ensures)

pub returns-in_err-number-clause-done : goal.returns-in_err-number-clause-done
returns-in_err-number-clause-done g c =
    let rs = c.args.self.now.graves.table in
    let there : c.from.result < length rs = grind arith in
    let at = by_name rs c.args.grave _ _ c.in_ok-grave.ensures c.from.ensures there in
    let p = err_from_is_err_and c.from_residual-in_err-number.result c.from_residual-in_err-number.ensures.1 in
    rw (p.1, p.2) (finished _ _ _ _ refl refl refl (turned at _ draw_causes (λ (q : Record). q.next) after_draw _ _ c.in_err-number.ensures))

pub returns-clause-done : goal.returns-clause-done
returns-clause-done g c =
    let rs = c.args.self.now.graves.table in
    let there : c.from.result < length rs = grind arith in
    let at = by_name rs c.args.grave _ _ c.in_ok-grave.ensures c.from.ensures there in
    finished _ _ _ _ refl refl refl (turned at _ draw_causes (λ (q : Record). q.next) after_draw _ _ c.in_ok-number.ensures)

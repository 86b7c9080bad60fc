use Rattle.std.proofs.Common.{◌<◌, length, refl, ap, arith}
use Rattle.std.proofs.lemmas.Result.{err_from_is_err_and}
use Rattle.seal.specs.Seals.{sealing}
use Rattle.graves.specs.Checks.{claimed}
use Rattle.book.proofs.Placed.{by_name, checked}
use Rattle.book.proofs.Finished.{finished}
use Rattle.book.proofs.Nowhere.{nowhere}
use Rattle.book.proofs.calls.Book.check.Goals as goal

pub returns-in_err-grave-clause-done : goal.returns-in_err-grave-clause-done
returns-in_err-grave-clause-done g c =
    let p = err_from_is_err_and c.from_residual.result c.from_residual.ensures.1 in
    rw (p.1, p.2) (nowhere _ _ c.args.grave _ refl c.in_err-grave.ensures)

pub returns-clause-done : goal.returns-clause-done
returns-clause-done g c =
    let m = g.F.Field.model in
    let rs = c.args.self.now.graves.table in
    let there : c.from.result < length rs = grind arith in
    let at = by_name rs c.args.grave _ _ c.in_ok-grave.ensures c.from.ensures there in
    finished _ _ _ _ refl tt (ap (sealing m) c.check.ensures.kept)
    (checked at _ (sealing m (g.C.Cipher.function c.args.self.now.cipher)) (claimed c.args.claim) (length c.args.ring.now) _ _
    c.check.ensures.answer c.check.ensures.after)

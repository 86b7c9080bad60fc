use Rattle.std.proofs.Common.{◌<◌, length, refl, ap, arith}
use Rattle.seal.specs.Seals.{sealing}
use Rattle.promise.specs.Records.{Record, after_seal}
use Rattle.promise.specs.Register.{seal_causes}
use Rattle.book.proofs.Placed.{by_draw, turned}
use Rattle.book.proofs.Finished.{finished}
use Rattle.book.proofs.calls.Book.seal.Goals as goal

pub returns-in-Err-clause-done : goal.returns-in-Err-clause-done
returns-in-Err-clause-done g c =
    let m = g.F.Field.model in
    let S = sealing m (g.C.Cipher.function c.args.self.now.cipher) in
    let rs = c.args.self.now.graves.table in
    let n = c.args.draw.number in
    let text = c.args.text.now in
    let there : c.from.result < length rs = grind arith in
    finished _ _ _ _ refl tt (ap (sealing m) c.in-Err.ensures.kept)
    (turned (by_draw rs _ _ c.from.ensures there) _ (λ (q : Record). seal_causes S q n text (length c.args.ring.now))
    (λ (q : Record). S.seal q.key n text) (after_seal n) _ _ c.in-Err.ensures.sealed)

pub returns-clause-done : goal.returns-clause-done
returns-clause-done g c =
    let m = g.F.Field.model in
    let S = sealing m (g.C.Cipher.function c.args.self.now.cipher) in
    let rs = c.args.self.now.graves.table in
    let n = c.args.draw.number in
    let text = c.args.text.now in
    let there : c.from.result < length rs = grind arith in
    finished _ _ _ _ refl tt (ap (sealing m) c.in-Ok.ensures.kept)
    (turned (by_draw rs _ _ c.from.ensures there) _ (λ (q : Record). seal_causes S q n text (length c.args.ring.now))
    (λ (q : Record). S.seal q.key n text) (after_seal n) _ _ c.in-Ok.ensures.sealed)

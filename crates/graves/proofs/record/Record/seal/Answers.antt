use Rattle.std.proofs.Common.{◌+◌, [], Some, length}
use Rattle.std.proofs.lemmas.Result.{err_from_is_err_and}
use Rattle.seal.specs.Sealing.{text_causes}
use Rattle.seal.specs.Seals.{sealing}
use Rattle.promise.specs.Records.{Record, row, after_seal}
use Rattle.promise.specs.Register.{void_causes}
use Rattle.graves.specs.Entries.{the_record}
use Rattle.graves.proofs.Refused.{refused, let_through, done}
use Rattle.graves.proofs.record.Record.seal.Goals as goal

pub returns-in_err-entry-clause-sealed : goal.returns-in_err-entry-clause-sealed
returns-in_err-entry-clause-sealed g c =
    let S = sealing g.F.Field.model (g.C.Cipher.function c.args.cipher.now) in
    let r = the_record c.args.self.now in
    let d = c.args.draw in
    let x = c.args.text.now in
    let p = err_from_is_err_and c.from_residual.result c.from_residual.ensures.1 in
    rw (p.1, p.2)
    (refused (void_causes r d) (text_causes S x (length c.args.ring.now)) (S.seal r.key d x) (after_seal d r) r _ _ c.in_err-entry.ensures.given)

pub returns-in_err-seal-clause-sealed : goal.returns-in_err-seal-clause-sealed
returns-in_err-seal-clause-sealed g c =
    let S = sealing g.F.Field.model (g.C.Cipher.function c.args.cipher.now) in
    let r = the_record c.args.self.now in
    let d = c.args.draw in
    let x = c.args.text.now in
    let of_text = text_causes S x (length c.args.ring.now) in
    let p = err_from_is_err_and c.from_residual-in_err-seal.result c.from_residual-in_err-seal.ensures.1 in
    rw (p.1, p.2)
    (let_through (void_causes r d) of_text (S.seal r.key d x) (after_seal d r) r _ _ _ _ c.in_ok-entry.ensures.given
    (refused of_text [] (S.seal r.key d x) (after_seal d r) r _ _ c.in_err-seal.ensures.answer))

pub returns-clause-sealed : goal.returns-clause-sealed
returns-clause-sealed g c =
    let S = sealing g.F.Field.model (g.C.Cipher.function c.args.cipher.now) in
    let r = the_record c.args.self.now in
    let d = c.args.draw in
    let x = c.args.text.now in
    done (void_causes r d) (text_causes S x (length c.args.ring.now)) (S.seal r.key d x) _
    (λ (q : Record). row q.state q.key q.next q.held (q.sealed + 1) q.voided (Some d)) r _ _ c.in_ok-entry.ensures.given c.in_ok-seal.ensures.answer

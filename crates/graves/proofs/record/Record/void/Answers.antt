use Rattle.std.proofs.Common.{◌+◌, [], refl}
use Rattle.std.proofs.lemmas.Result.{err_from_is_err_and}
use Rattle.promise.specs.Records.{Record, row, after_void}
use Rattle.promise.specs.Register.{void_causes}
use Rattle.graves.specs.Entries.{the_record}
use Rattle.graves.proofs.Refused.{refused, done}
use Rattle.graves.proofs.record.Record.void.Goals as goal

pub returns-in_err-entry : goal.returns-in_err-entry
returns-in_err-entry c =
    let r = the_record c.args.self.now in
    let p = err_from_is_err_and c.from_residual.result c.from_residual.ensures.1 in
    rw (p.1, p.2) (refused (void_causes r c.args.draw) [] tt (after_void c.args.draw r) r _ _ c.in_err-entry.ensures.given)

pub returns : goal.returns
returns c =
    let r = the_record c.args.self.now in
    done (void_causes r c.args.draw) [] tt tt
    (λ (q : Record). row q.state q.key q.next q.held q.sealed (q.voided + 1) q.current) r _ _ c.in_ok-entry.ensures.given refl

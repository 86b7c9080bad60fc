use Rattle.std.proofs.Common.{◌≡◌, ◌<◌, length, arith, rules, tests}
use Rattle.std.proofs.lemmas.Iterator.{YieldsList-from_slice, IsFirst-from_position}
use Rattle.graves.specs.declared.record.Record.{Record}
use Rattle.graves.specs.Held.{draws}
use Rattle.book.proofs.Idle.{none_held}
use Rattle.book.proofs.calls.Book.owing.Goals as goal

pub returns-in_err-grave : goal.returns-in_err-grave
returns-in_err-grave g c =
    let rs = c.args.self.now.graves.table in
    let first = IsFirst-from_position _ _ c.position.result (λ (r : Record). 0 < length (draws r.entry.held)) (λ (r : Record). length (draws r.entry.held) ≡ 0)
    c.position.ensures.ran (YieldsList-from_slice rs cc) (λ x q k. search (rules, tests)) (λ x q k. search (rules, tests)) in
    let none = rw c.in_err-grave.was at first in
    rw c.from_residual.ensures (record { owing = λ k few. none_held rs none k (omega arith) })

use Rattle.std.proofs.Common.{◌≡◌, Some, sym, ap, ◌∙◌, arith}
use Rattle.std.specs.Option.{option_map}
use Rattle.graves.specs.Held.{draws}
use Rattle.graves.proofs.Removed.{taken_out}
use Rattle.graves.proofs.record.Record.given_up.Goals as goal

pub returns-clause-uncounted : goal.returns-clause-uncounted
returns-clause-uncounted c =
    let some : c.remove.result ≡ Some c.in_ok-held.held = grind arith in
    taken_out c.in_ok-entry.field-0 c.args.draw c.in_ok-held.held (ap (option_map draws) (sym some) ∙ c.remove.ensures)

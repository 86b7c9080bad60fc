use Rattle.std.proofs.Common.{ap, ◌∙◌}
use Rattle.std.specs.Fmt.{styled_decimal}
use Rattle.refusal.proofs.TwoDigits.{two_digits}
use Rattle.refusal.proofs.RefusalDisplay.fmt.Goals as goal

pub returns-clause-writes : goal.returns-clause-writes
returns-clause-writes g c =
    let n = c.number-number.result in
    let digits = ap (λ s. styled_decimal s n) c.laid_out.ensures ∙ two_digits c.args.self.now n c.number-number.ensures in
    simp (← digits) c.write.ensures.writes

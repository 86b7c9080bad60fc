use Rattle.std.proofs.Common.{length}
use Rattle.fields.specs.declared.FieldName.TheVariants.{M61, B63}
use Rattle.script.specs.Lines.{asked}
use Rattle.day.proofs.Named.{run_named}
use Rattle.day.proofs.office.Office.run.Goals as goal

pub returns-in-M61 : goal.returns-in-M61
returns-in-M61 c =
    rw c.in-M61.is
    (run_named M61 _ _ (asked c.args.call) (length c.args.ring.now) c.run_call.result c.run_call.ensures)

pub returns-in-B63 : goal.returns-in-B63
returns-in-B63 c =
    rw c.in-B63.is
    (run_named B63 _ _ (asked c.args.call) (length c.args.ring.now) c.run_call-in-B63.result c.run_call-in-B63.ensures)

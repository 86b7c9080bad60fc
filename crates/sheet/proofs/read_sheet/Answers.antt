use Rattle.std.proofs.Common.{◌≡◌, ◌<◌, ap, ◌∙◌, arith}
use Rattle.std.proofs.ByRecursion.{All-from_get_or}
use Rattle.refusal.specs.Outcomes.{gives}
use Rattle.record.specs.Kinds as kind
use Rattle.record.specs.Records.{Parts}
use Rattle.record.proofs.Named.{named}
use Rattle.sheet.specs.Sheets.{read_outcome}
use Rattle.sheet.specs.Names.{sheet_seen}
use Rattle.sheet.proofs.Trips.{body_decides, writes_back}
use Rattle.sheet.proofs.read_sheet.Goals as goal

pub returns : goal.returns
returns c =
    let input = c.args.input.now in
    let r = c.in-Some.field-0 in
    let frame : Parts = record { kind = r.kind; body = r.body.now; rest = r.rest.now } in
    let sheet = sheet_seen c.in_ok-sheet.sheet in
    let answered : gives (sheet, frame.rest) ≡ read_outcome input =
    body_decides input frame (gives sheet) c.in-Some.ensures (named r.kind _ c.in-Ok-SealedSheet.ensures ∙ ap kind.number_of c.in-Ok-SealedSheet.field-0-is) c.in_ok-sheet.ensures in
    let small = All-from_get_or (λ b. b < 256) input 0 (λ i _. omega (arith, c.type_inv.input i)) in
    record { answer = answered; exact = writes_back input (sheet, frame.rest) small answered }

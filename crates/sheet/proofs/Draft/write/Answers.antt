use Rattle.std.proofs.Common.{ℕ, ◌+◌, length, refl, ap, ◌∙◌, arith}
use Rattle.std.proofs.lemmas.Bool.{ltb-false}
use Rattle.refusal.proofs.Decided.{given}
use Rattle.byte_rows.specs.Limits.{longest_text}
use Rattle.byte_rows.specs.Numbers.{bytes_of}
use Rattle.byte_rows.proofs.Back.{divided}
use Rattle.sheet.specs.Sheets.{sheet_kind, highest_grave, sheet_body, limit_causes}
use Rattle.sheet.specs.Names.{sealed}
use Rattle.sheet.proofs.Laying.{begun, laid_on, promised}
use Rattle.sheet.proofs.Draft.write.Goals as goal

pub returns : goal.returns
returns c =
    let g = c.args.self.grave in
    let d = c.args.self.draw in
    let s = c.args.self.seal in
    let text = c.args.self.text.now in
    let size : ℕ = 2 + length (sheet_body (sealed g d s text)) in
    let length_in = laid_on 4 (bytes_of 4 size) (begun c.args.buffer.now) c.put.ensures
    (c.to_le_bytes.ensures ∙ divided 3 _ ∙ ap (bytes_of 4) (omega arith)) refl in
    let kind_in = laid_on 6 (bytes_of 2 sheet_kind) length_in c.put-2.ensures
    (c.to_le_bytes-2.ensures ∙ divided 1 c.number.result ∙ ap (bytes_of 2) c.number.ensures) refl in
    let grave_in = laid_on 8 (bytes_of 2 g) kind_in c.put-3.ensures
    (c.to_le_bytes-3.ensures ∙ divided 1 g) refl in
    let draw_in = laid_on 16 (bytes_of 8 d) grave_in c.put-4.ensures
    (c.to_le_bytes-4.ensures ∙ divided 7 d) refl in
    let seal_in = laid_on 24 (bytes_of 8 s) draw_in c.put-5.ensures
    (c.to_le_bytes-5.ensures ∙ divided 7 s) refl in
    let text_in = laid_on (24 + length text) text seal_in c.put-6.ensures refl refl in
    let fit = (given (limit_causes g text) tt tt c.in_ok-check_limits.ensures).0 in
    let low = ltb-false highest_grave g fit.0 in
    let few = ltb-false longest_text (length text) fit.1.0 in
    let all = promised {g = g} {d = d} {s = s} {text = text} low (omega arith) (omega arith) few (omega arith) text_in in
    record { answer = all.answer; buffer = all.buffer; back = all.back }

use Rattle.std.proofs.Common.{vec_items, sym, ◌∙◌, arith, ltb-false}
use Rattle.script.specs.Digits.{pairs}
use Rattle.script.proofs.Paired.{pair_more}
use Rattle.script.proofs.hex.hex_bytes.Goals as goal

pub loop-rest-preserved : goal.loop-rest-preserved
loop-rest-preserved c =
    let up = c.in-len2-up in
    pair_more c.loop-rest.rest.now (vec_items c.loop-rest.bytes) (vec_items c.push.new.self) c.in_ok-ok_or.field-0
    (pairs c.args.digits.now) (omega (arith, ltb-false, up)) (sym c.in_ok-ok_or.ensures.ok_part ∙ c.byte_of.ensures)
    c.loop-rest.invariant c.in_ok-push.ensures.items

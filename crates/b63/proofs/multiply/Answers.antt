use Rattle.std.proofs.Common.{◌≡◌, refl, ap, ◌∙◌, ℕ, ◌-◌, ◌*◌, ◌/◌, ◌^◌, div-one, arith, lit<}
use Rattle.b63.specs.Binary.{by_z, rows}
use Rattle.b63.specs.Product.{rows_lt}
use Rattle.b63.proofs.Window.{rows_spare}
use Rattle.b63.proofs.Fours.{four_rows, four_more}
use Rattle.b63.proofs.multiply.Goals as goal

pub by_power-requires : goal.by_power-requires
by_power-requires c = (lit< tt, rw c.loop-i.invariant (rows_lt _ _ _ c.requires.1))

pub loop-i-init : goal.loop-i-init
unfolding rows
loop-i-init c = refl

pub loop-i-preserved : goal.loop-i-preserved
loop-i-preserved c =
    let x : ℕ = c.args.x in
    let y : ℕ = c.args.y in
    let i : ℕ = c.loop-i.i in
    four_more i x y c.loop-i-test.true c.loop-i.auto.i c.loop-i.invariant
    c.by_power.ensures
    (four_rows (x / 2 ^ (4 * (i - 1))) y
    c.by_power-yz.ensures c.by_power-yz2.ensures c.by_power-yz3.ensures
    c.row.ensures c.row-in-loop-i.ensures c.row-in-loop-i-2.ensures c.row-in-loop-i-3.ensures)

pub returns : goal.returns
returns c =
    let x : ℕ = c.args.x in
    let y : ℕ = c.args.y in
    let last : c.loop-i.i ≡ 0 = omega arith in
    c.loop-i.invariant
    ∙ ap (λ (i : ℕ). rows by_z (64 - 4 * i) (x / 2 ^ (4 * i)) y) last
    ∙ ap (λ (u : ℕ). rows by_z 64 u y) (div-one x)
    ∙ rows_spare 63 x y c.requires.0

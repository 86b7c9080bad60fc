use Rattle.std.proofs.Common.{◌-◌, ◌^◌, [], false, Some, codes, subst, ap, ◌∙◌}
use Rattle.std.specs.Fmt.{DisplaysOnOk, format_spec, padded_integral, styled_digits_output, ◌++?◌}
use Rattle.std.specs.Option.{option_map}
use Rattle.day.proofs.SealDigits.{in_sixteen_places}
use Rattle.day.proofs.answer.AnswerDisplay.fmt.Goals as goal

pub returns-in-Sealed-clause-writes : goal.returns-in-Sealed-clause-writes
returns-in-Sealed-clause-writes g c =
    let digits =
    ap (λ s. styled_digits_output c.in_radix.result s) c.laid_out.ensures
    ∙ ap (option_map (padded_integral (format_spec 32 0 4 16 (2 ^ 64 - 1)) false [])) c.in_radix.ensures
    ∙ ap Some (in_sixteen_places c.in-Sealed.seal) in
    let w =
    subst
    (λ o. DisplaysOnOk g.W.Write.write_str_gives c.args.f.now c.write-in-Sealed.result (Some (codes "seal ") ++? o) c.write-in-Sealed.new.self)
    digits c.write-in-Sealed.ensures.writes in
    rw c.in-Sealed.is w

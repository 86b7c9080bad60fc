use Rattle.std.proofs.Common.{◌≡◌, ℕ, List, Some, None, Option, refl, ap, ◌∙◌}
use Rattle.std.specs.Option.{ok_or}
use Rattle.script.specs.declared.reason.Reason.{Reason}
use Rattle.script.specs.Heard.{seen}
use Rattle.script.specs.Parts.{by_word, given}
use Rattle.script.proofs.words.Words.part.Goals as goal

-- what was read of the word, or why it cannot be
or_why : {A : Type 0} (v : Option A) (why : Reason) (rest : List ℕ) → seen (λ x. x) (ok_or v why) rest ≡ given v why rest
or_why None why rest = refl
or_why (Some x) why rest = refl

pub returns : goal.returns
returns g c = λ f k.
    let why = c.args.otherwise in
    let rest = c.word.new.self in
    let w = c.in_ok-word.field-0.now in
    ap (λ r. seen (λ x. x) r rest) c.ok_or.ensures.value
    ∙ or_why c.read.result why rest
    ∙ ap (λ v. given v why rest) (k w c.read.result (c.in_ok-word.field-0, c.read.ensures, refl))
    ∙ ap (by_word f why) c.in_ok-word.ensures

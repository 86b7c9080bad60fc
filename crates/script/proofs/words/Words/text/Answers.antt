use Rattle.std.proofs.Common.{Some, None, vec_items, ap, ◌∙◌, arith}
use Rattle.std.proofs.lemmas.Str.Pattern.{strip_prefix_char}
use Rattle.std.proofs.lemmas.Result.{err_from_is_err_and}
use Rattle.script.specs.declared.reason.Reason.TheVariants.{NotAText}
use Rattle.script.specs.Parts.{by_word, given, quoted, text_of, text_part}
use Rattle.script.specs.Words.{skipped}
use Rattle.script.proofs.Hearing.{heard_as}
use Rattle.script.proofs.Texts.{quoted_text, plain_text, heard_with}
use Rattle.script.proofs.words.Words.text.Goals as goal

pub returns-in-Some : goal.returns-in-Some
returns-in-Some c =
    let s = c.args.self.now in
    let t = c.skip_white.result.now in
    let rest = c.in-Some.quoted in
    heard_as _ c.quoted.result (quoted rest.now) (text_part s)
    (quoted_text s t rest.now (c.skip_white.ensures ∙ ap skipped c.self.view_is)
    (strip_prefix_char 34 t (Some rest) c.in-Some.ensures.cases (omega arith))) c.quoted.ensures

pub returns-in_err-word : goal.returns-in_err-word
returns-in_err-word c =
    let s = c.args.self.now in
    let t = c.skip_white.result.now in
    let p = err_from_is_err_and c.from_residual.result c.from_residual.ensures.1 in
    rw (p.1, p.2)
    (ap (by_word text_of NotAText) c.in_err-word.ensures
    ∙ plain_text s t (c.skip_white.ensures ∙ ap skipped c.self.view_is)
    (strip_prefix_char 34 t None c.in_default.ensures.cases (omega arith)))

pub returns : goal.returns
returns c =
    let s = c.args.self.now in
    let t = c.skip_white.result.now in
    let o = text_of c.in_ok-word.field-0.now in
    let rest = c.word.new.self in
    heard_as _ c.text_of.result (given o NotAText rest) (text_part s)
    (ap (by_word text_of NotAText) c.in_ok-word.ensures
    ∙ plain_text s t (c.skip_white.ensures ∙ ap skipped c.self.view_is)
    (strip_prefix_char 34 t None c.in_default.ensures.cases (omega arith)))
    (heard_with (λ v. vec_items v) c.text_of.result o rest c.text_of.ensures)

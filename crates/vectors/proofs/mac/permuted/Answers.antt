use Rattle.std.proofs.Common.{◌≡◌, ap, ◌∙◌, rules}
use Rattle.std.specs.Int.{w128, from_le_bytes}
use Rattle.chaskey.specs.Order.{bytes_of, words_of as words_of_bytes}
use Rattle.chaskey.specs.Chaskey.{permuted}
use Rattle.vectors.specs.Mac.{words_of, number_of, permuted_number}
use Rattle.vectors.proofs.Bytes.{words_read, number_written}
use Rattle.vectors.proofs.mac.permuted.Goals as goal

pub returns : goal.returns
unfolding permuted_number
returns c =
    let w = c.permute-words.result in
    let read : c.from.result ≡ words_of c.args.x = c.from.ensures ∙ ap words_of_bytes c.to_le_bytes.ensures ∙ words_read c.args.x in
    let bytes : c.into.result ≡ bytes_of w = c.into.ensures in
    c.from_le_bytes.ensures
    ∙ ap (from_le_bytes w128) bytes
    ∙ number_written w (search rules) (search rules) (search rules) (search rules)
    ∙ ap number_of (c.permute-words.ensures ∙ ap permuted read)

use Rattle.std.proofs.Common.{◌≡◌, ℕ, ◌%◌, true, cond, List, [], ◌∷◌, ◌++◌, take, Some, None, sym, ap, ◌∙◌, div-one}
use Rattle.cipher.specs.Bytes.{highest_first}
use Rattle.cipher.specs.Pairs.{key_of}
use Rattle.script.specs.Numbers.{as_key, exact, number, key_named}
use Rattle.script.proofs.Numbered.{parsed}
use Rattle.script.proofs.hex.key_of.Goals as goal

-- a number's bytes but for the lowest, highest first
abbrev be_front : ℕ → List ℕ
be_front n = take 15 (highest_first 16 n)

pub returns : goal.returns
unfolding key_named
returns c =
    let w = c.args.word.now in
    let key = c.in_ok-key.key in
    let exactly : exact 32 w ≡ true = sym c.is_exact.ensures ∙ c.if-not-is_exact.false in
    ap Some
    (
    c.from_bytes.ensures
    ∙ ap key_of (c.to_be_bytes.ensures ∙ ap (λ b. be_front key ++ (b % 256 ∷ [])) (sym (div-one key)))
    )
    ∙ ap as_key (c.in_ok-key.ensures.value ∙ sym (parsed 128 16 w c.from_str_radix.result c.from_str_radix.ensures.value))
    ∙ sym (ap (λ b. cond b (as_key (number 128 16 w)) None) exactly)

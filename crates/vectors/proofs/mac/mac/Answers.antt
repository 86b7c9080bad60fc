use Rattle.std.proofs.Common.{◌≡◌, ℕ, suc, ◌+◌, ◌-◌, ◌*◌, ◌/◌, eqb, List, ◌++◌, length, take, drop, sym, ap, ◌∙◌, ap₂, append_assoc, div-one, arith}
use Rattle.std.proofs.lemmas.List.{length-append, length-drop, take_at, drop_at, take_all, drop-drop, nil_from_length}
use Rattle.std.proofs.lemmas.Bool.Decides.{nat_tests}
use Rattle.std.specs.Slice.Iter.{chunks_rest}
use Rattle.cipher.specs.Pairs.{key_of, block_of}
use Rattle.cipher.specs.Words.{◌⊕◌}
use Rattle.chaskey.specs.Chaskey.{chaskey}
use Rattle.vectors.specs.Mac.{permuted_number, block_at, subkey_of, lowest_first, last_of, mac_of}
use Rattle.vectors.proofs.Bytes.{block_of_part}
use Rattle.vectors.proofs.mac.mac.Goals as goal

-- the block of a part that stands in front of what is left of the message
part_in_front : (message part rest : List ℕ) (i : ℕ) → part ++ rest ≡ drop i message → length part ≡ 16
    → block_at message i ≡ block_at part 0
part_in_front message part rest i is whole =
    let both = ap length is in
    let long = length-append part rest in
    let left = length-drop i message in
    block_of_part message part i (omega arith) (sym (take_at part rest 16 whole) ∙ ap (take 16) is)

pub loop-part-preserved : goal.loop-part-preserved
loop-part-preserved c =
    let step = c.in-Some.ensures.steps in
    let message : List ℕ = c.args.message.now in
    let last : List ℕ = c.split_at.result.1.now in
    let part : List ℕ = c.in-Some.part.now in
    let rest : List ℕ = chunks_rest c.next.new.self in
    let n : ℕ = c.loop-part.invariant.1 in
    let long : length (part ++ rest) ≡ length part + length rest = length-append part rest in
    let all = ap length step.1.0 in
    let whole : length part ≡ 16 = omega (arith, step.1.1, step.1.2, c.loop-part.invariant.0, c.loop-part.invariant.3) in
    let cut : part ++ (rest ++ last) ≡ drop (16 * n) message =
    sym (append_assoc part rest last) ∙ ap (λ (xs : List ℕ). xs ++ last) (sym step.1.0) ∙ c.loop-part.invariant.4 in (
      step.0 ∙ c.loop-part.invariant.0,
      suc n,
      c.permuted-state.ensures
          ∙ ap₂ (λ (v b : ℕ). permuted_number (v ⊕ b)) c.loop-part.invariant.2
          (c.block.ensures ∙ sym (part_in_front message part (rest ++ last) (16 * n) cut whole)),
      omega (arith, c.loop-part.invariant.3),
      sym (drop_at part (rest ++ last) 16 whole) ∙ ap (drop 16) cut ∙ drop-drop 16 (16 * n) message
          ∙ ap (λ (i : ℕ). drop i message) (omega arith),
    )

-- what is left behind i bytes is a whole block if the message ends 16 bytes behind them
same_test : (i left long : ℕ) → long ≡ i + left → eqb left 16 ≡ eqb long (i + 16)
same_test i left long is = grind (arith, nat_tests, is)

pub returns : goal.returns
unfolding mac_of
returns c =
    let message : List ℕ = c.args.message.now in
    let key : ℕ = c.args.key in
    let last : List ℕ = c.split_at.result.1.now in
    let rest : List ℕ = chunks_rest c.loop-part.part-iterator in
    let n : ℕ = c.loop-part.invariant.1 in
    let none : length rest ≡ 0 = c.in-None.ensures.steps.1.0 in
    let all : n ≡ (length message - 1) / 16 = omega (arith, c.loop-part.invariant.3) in
    let tail : last ≡ drop (16 * n) message =
    sym (ap (λ (xs : List ℕ). xs ++ last) (nil_from_length rest none)) ∙ c.loop-part.invariant.4 in
    let long : length last ≡ length message - 16 * n = ap length tail ∙ length-drop (16 * n) message in
    let block = c.block-2.ensures
    ∙ sym (block_of_part message last (16 * n) (omega arith) (tail ∙ sym (take_all 16 (drop (16 * n) message) (omega (arith, long, ap length tail))))) in
    let under = c.subkey.ensures ∙ ap (subkey_of key) (same_test (16 * n) (length last) (length message) (omega arith)) in
    let key_bytes : c.to_le_bytes.result ≡ lowest_first c.subkey.result = simp div-one c.to_le_bytes.ensures in
    let block_bytes : c.to_le_bytes-2.result ≡ lowest_first (c.loop-part.state ⊕ c.block-2.result) =
    simp div-one c.to_le_bytes-2.ensures in
    c.encipher.ensures.answer
    ∙ ap₂ chaskey
    (c.from_bytes-under.ensures ∙ ap key_of key_bytes ∙ ap (λ (s : ℕ). key_of (lowest_first s)) under)
    (c.from_bytes.ensures ∙ ap block_of block_bytes ∙ ap₂ (λ (v b : ℕ). block_of (lowest_first (v ⊕ b))) c.loop-part.invariant.2 block)
    ∙ ap (last_of key message) all

-- The number of a stretch of bytes, from the bytes read place by place. Assumes nothing.
use Rattle.std.proofs.Common.{◌≡◌, ℕ, zero, suc, ◌+◌, ◌*◌, ◌≤◌, List, length, get_or, take, drop, sym, refl, ap, ◌∙◌, arith}
use Rattle.std.proofs.lemmas.List.{drop_more}
use Rattle.byte_rows.specs.Numbers.{number}

-- the n bytes from place i on
abbrev pub by_place : ℕ → ℕ → List ℕ → ℕ
by_place zero i bytes = 0
by_place (suc n) i bytes = get_or bytes i 0 + 256 * by_place n (i + 1) bytes

pub number_by_place : (n i : ℕ) (bytes : List ℕ) → i + n ≤ length bytes
    → by_place n i bytes ≡ number (take n (drop i bytes))
number_by_place zero i bytes within = refl
number_by_place (suc n) i bytes within =
    ap (λ (x : ℕ). get_or bytes i 0 + 256 * x) (number_by_place n (i + 1) bytes (omega arith))
    ∙ ap (λ (bs : List ℕ). number (take (suc n) bs)) (sym (drop_more bytes i 0 (omega arith)))

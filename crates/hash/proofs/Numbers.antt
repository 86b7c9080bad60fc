-- The number of a row of bytes, as it grows by one byte at the top. Assumes nothing.
use Rattle.std.proofs.Common.{◌≡◌, ℕ, suc, ◌+◌, ◌*◌, ◌^◌, ◌<◌, List, [], ◌∷◌, ◌++◌, length, get_or, take, sym, ap, ◌∙◌, mul-one, mul_left_comm, add-one, arith}
use Rattle.std.proofs.lemmas.Nat.{mul-le, pow-add}
use Rattle.std.proofs.lemmas.List.{length-take-le, take_more}
use Rattle.hash.specs.Texts.{number}

pub place_more : (i : ℕ) → 2 ^ (8 * (i + 1)) ≡ 256 * 2 ^ (8 * i)
place_more i = ap (λ (k : ℕ). 2 ^ k) e ∙ pow-add 2 8 (8 * i)
  where
    e : 8 * (i + 1) ≡ 8 + 8 * i
    e = omega arith

number_push : (xs : List ℕ) (b : ℕ) → number (xs ++ b ∷ []) ≡ number xs + b * 2 ^ (8 * length xs)
number_push [] b = let one = mul-one b in omega arith
number_push (x ∷ xs) b =
    let place : ℕ = 2 ^ (8 * length xs) in
    let rest = number_push xs b in
    let top : b * 2 ^ (8 * suc (length xs)) ≡ 256 * (b * place) =
    ap (λ (k : ℕ). b * 2 ^ (8 * k)) (sym (add-one (length xs)))
    ∙ ap (λ (p : ℕ). b * p) (place_more (length xs)) ∙ mul_left_comm b 256 place in
    omega arith

-- the byte at place i is worth 2 ^ (8 i)
pub number_more : (bs : List ℕ) (i : ℕ) → i < length bs
    → number (take (i + 1) bs) ≡ number (take i bs) + get_or bs i 0 * 2 ^ (8 * i)
number_more bs i within =
    let long : length (take i bs) ≡ i = length-take-le i bs (omega arith) in
    ap number (take_more bs i 0 within)
    ∙ number_push (take i bs) (get_or bs i 0)
    ∙ ap (λ (k : ℕ). number (take i bs) + get_or bs i 0 * 2 ^ (8 * k)) long

pub number_below : (n b i : ℕ) → b < 256 → n < 2 ^ (8 * i) → n + b * 2 ^ (8 * i) < 2 ^ (8 * (i + 1))
number_below n b i byte below =
    let most = mul-le b (2 ^ (8 * i)) 255 (2 ^ (8 * i)) (omega arith) (omega arith) in
    let more = place_more i in
    omega arith

-- A number is that of its bytes, and bytes are those of their number. Assumes nothing.
use Rattle.std.proofs.Common.{◌≡◌, ℕ, zero, suc, ◌+◌, ◌*◌, ◌/◌, ◌%◌, ◌^◌, ◌<◌, ◌≤◌, List, [], ◌∷◌, ◌++◌, length, take, drop, sym, refl, ap, ◌∙◌, ap₂, arith}
use native.Mathlib.Nat.{pow-succ', div-div-eq-div-mul}
use Rattle.std.specs.List.{AllByRecursion}
use Rattle.std.proofs.lemmas.List.{length-take-le, take-append-drop}
use Rattle.std.proofs.ByRecursion.{All-take}
use Rattle.byte_rows.specs.Numbers.{number, bytes_of}

pub length_bytes_of : (n x : ℕ) → length (bytes_of n x) ≡ n
length_bytes_of zero x = refl
length_bytes_of (suc n) x = ap suc (length_bytes_of n (x / 256))

pub number_bytes_of : (n x : ℕ) → x < 256 ^ n → number (bytes_of n x) ≡ x
number_bytes_of zero x small = omega arith
number_bytes_of (suc n) x small =
    let more = pow-succ' 256 n in
    let back = number_bytes_of n (x / 256) (omega arith) in
    omega arith

abbrev pub Bytes : List ℕ → Type 0
Bytes bs = AllByRecursion (λ b. b < 256) bs

pub bytes_of_number : (bs : List ℕ) → Bytes bs → bytes_of (length bs) (number bs) ≡ bs
bytes_of_number [] bytes = refl
bytes_of_number (b ∷ bs) bytes =
    let small = bytes.0 in
    let low : (b + 256 * number bs) % 256 ≡ b = omega arith in
    let high : (b + 256 * number bs) / 256 ≡ number bs = omega arith in
    ap₂ (λ (c : ℕ) (cs : List ℕ). c ∷ cs) low
    (ap (bytes_of (length bs)) high ∙ bytes_of_number bs bytes.1)

-- a number at the front of bytes, written out again
pub front_back : (n : ℕ) (bs : List ℕ) → n ≤ length bs → Bytes bs → bytes_of n (number (take n bs)) ++ drop n bs ≡ bs
front_back n bs enough bytes =
    let long = length-take-le n bs enough in
    ap (λ (k : ℕ). bytes_of k (number (take n bs)) ++ drop n bs) (sym long)
    ∙ ap (λ (front : List ℕ). front ++ drop n bs) (bytes_of_number (take n bs) (All-take (λ b. b < 256) n bs bytes))
    ∙ take-append-drop n bs

-- the n bytes of x from the one of worth d up
abbrev pub from_worth : ℕ → ℕ → ℕ → List ℕ
from_worth zero d x = []
from_worth (suc n) d x = (x / d % 256) ∷ from_worth n (d * 256) x

pub from_worth_is : (n d x : ℕ) → from_worth n d x ≡ bytes_of n (x / d)
from_worth_is zero d x = refl
from_worth_is (suc n) d x =
    ap (λ (bs : List ℕ). (x / d % 256) ∷ bs)
    (from_worth_is n (d * 256) x ∙ ap (bytes_of n) (sym (div-div-eq-div-mul x d 256)))

-- as the code divides: the lowest byte by nothing, each other by its worth
pub divided : (n x : ℕ) → (x % 256) ∷ from_worth n 256 x ≡ bytes_of (suc n) x
divided n x = ap (λ (bs : List ℕ). (x % 256) ∷ bs) (from_worth_is n 256 x)

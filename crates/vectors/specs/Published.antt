-- Published test vectors, as statements of the definitions. Assumes nothing.
use Rattle.std.specs.Prelude.{◌≡◌, ℕ, zero, suc, ◌-◌, ◌^◌, List, [], ◌∷◌}
use Rattle.std.specs.List.{AllByRecursion}
use Rattle.noekeon.specs.Noekeon.{noekeon}
use Rattle.vectors.specs.Asked.{asked_of}
use Rattle.vectors.specs.Mac.{mac_of}

-- Noekeon: a key, a block and the answer
pub record Row : Type 0 where
  pub key : ℕ
  pub block : ℕ
  pub answer : ℕ

abbrev row : ℕ → ℕ → ℕ → Row
row key block answer = record { key = key; block = block; answer = answer }

abbrev pub noekeon_rows : List Row
noekeon_rows =
    row 0 0 0xb1656851699e29fa24b70148503d2dfc
    ∷ row (2 ^ 128 - 1) (2 ^ 128 - 1) 0x2a78421b87c7d0924f26113f1d1349b2
    ∷ row 0xb1656851699e29fa24b70148503d2dfc 0x2a78421b87c7d0924f26113f1d1349b2 0xe2f687e07b75660ffc372233bc47532c
    ∷ []

-- the MAC Chaskey-12: how many of the bytes 0, 1, 2 and so on make the message, and the MAC's first eight bytes
pub record Tag : Type 0 where
  pub length : ℕ
  pub first : ℕ

abbrev tag : ℕ → ℕ → Tag
tag length first = record { length = length; first = first }

abbrev pub mac_rows : List Tag
mac_rows =
    tag 0 0xdd3e1849d6824555
    ∷ tag 1 0xed1da89ec93179ca
    ∷ tag 15 0x6a3ee3d35c043397
    ∷ tag 16 0xd13970d7be9b2350
    ∷ tag 17 0x32acd914bfda3bc8
    ∷ tag 32 0xb465c2412610bf84
    ∷ []

-- n bytes from i on, each one more than the one before
abbrev pub counted : ℕ → ℕ → List ℕ
counted zero i = []
counted (suc n) i = i ∷ counted n (suc i)

abbrev pub mac_key : ℕ
mac_key = 0xffeeddccbbaa99887766554433221100

pub record Published : Type 0 where
  pub ciphers : AllByRecursion (λ r. asked_of noekeon r.key r.block ≡ r.answer) noekeon_rows
  pub macs : AllByRecursion (λ t. (mac_of mac_key (counted t.length 0)).first ≡ t.first) mac_rows

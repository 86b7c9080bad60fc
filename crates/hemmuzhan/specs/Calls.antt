-- What each call answers, as a number, and what it leaves in the lists that were lent. Assumes nothing.
use Rattle.std.specs.Prelude.{Bool, true, false, List, [], ◌∷◌, ℕ, ◌==◌, set}
use Rattle.refusal.specs.Outcomes.{Outcome, gives, refuses, then, ◌when◌, decided}
use Rattle.cipher.specs.declared.Key.{Key}
use Rattle.seal.specs.Sealing.{seal_outcome, check_outcome}
use Rattle.hemmuzhan.specs.Suites.{suite_outcome, sealing_of}

abbrev pub key_of : ℕ → ℕ → Key
key_of first second = record { first = first; second = second }

-- the seal, where a ring list of so many places is lent, and a list of so many places for the seal
abbrev pub sealed_outcome : ℕ → ℕ → Key → ℕ → List ℕ → ℕ → ℕ → Outcome ℕ
sealed_outcome field cipher key draw text ring places =
    then (suite_outcome field cipher)
    (λ suite. decided (16 when (places == 0) ∷ []) (seal_outcome (sealing_of suite) key draw text ring))

-- whether the seal is the text's
abbrev pub checked_outcome : ℕ → ℕ → Key → ℕ → List ℕ → ℕ → ℕ → Outcome Bool
checked_outcome field cipher key draw text seal ring =
    then (suite_outcome field cipher) (λ suite. check_outcome (sealing_of suite) key draw text seal ring)

-- 0, or the refusal's number
abbrev pub status : {A : Type 0} → Outcome A → ℕ
status (gives x) = 0
status (refuses n) = n

-- a seal that is not the text's is refused with 12
abbrev pub verdict : Outcome Bool → ℕ
verdict (gives true) = 0
verdict (gives false) = 12
verdict (refuses n) = n

-- a seal goes to the first place, and a refusal leaves the list as it was
abbrev pub seal_after : Outcome ℕ → List ℕ → List ℕ
seal_after (gives s) places = set places 0 s
seal_after (refuses n) places = places

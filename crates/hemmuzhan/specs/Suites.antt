-- A field and a cipher, chosen by number. Assumes nothing.
use Rattle.std.specs.Prelude.{ℕ}
use Rattle.refusal.specs.Outcomes.{Outcome, gives, then}
use Rattle.seal.specs.Sealing.{Sealing}
use Rattle.seal.specs.Seals.{sealing}
use Rattle.fields.specs.Names.{model_of, field_named}
use Rattle.ciphers.specs.Ciphers.{function_of, cipher_named}
use Rattle.hemmuzhan.specs.declared.suite.Suite.{Suite}

-- field 0 is M61, and 1 is B63; cipher 0 is Noekeon, and 1 is the Chaskey cipher
abbrev pub suite_outcome : ℕ → ℕ → Outcome Suite
suite_outcome field cipher =
    then (field_named field) (λ f. then (cipher_named cipher) (λ c. gives (record { field = f; cipher = c })))

abbrev pub sealing_of : Suite → Sealing
sealing_of s = sealing (model_of s.field) (function_of s.cipher)

use Rattle.std.proofs.Common.{◌≡◌}
use Rattle.seal.specs.Seals.{Subkeys}
use Rattle.seal.proofs.write_subkeys.Given as goal

abbrev pub invariant-loop-c : goal.invariant-loop-c
invariant-loop-c g l =
    (g.C.Cipher.function l.cipher ≡ g.C.Cipher.function l.initial.cipher)
    × Subkeys g.F.Field.model (g.C.Cipher.function l.initial.cipher) l.key l.c l.place-items

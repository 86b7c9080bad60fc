use Rattle.std.proofs.Common.{◌≡◌, ◌||◌, drop}
use Rattle.hash.specs.Hash.{some_from}
use Rattle.hash.proofs.too_large.Given as goal

-- what was found, or what is left, decides
abbrev pub invariant-loop-subkey : goal.invariant-loop-subkey
invariant-loop-subkey g l =
    (l.found || some_from g.F.Field.model.size (drop l.subkey-index l.ring)) ≡ some_from g.F.Field.model.size l.ring

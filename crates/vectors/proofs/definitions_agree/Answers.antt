use Rattle.std.proofs.Common.{refl}
use Rattle.noekeon.specs.Steps.{theta_of, pi1_of, gamma_of, pi2_of}
use Rattle.noekeon.specs.Noekeon.{round_of, enciphered_of, noekeon}
use Rattle.chaskey.specs.Chaskey.{round_of as chaskey-round-of, permuted, chaskey}
use Rattle.vectors.specs.Mac.{permuted_number, block_at, mac_of}
use Rattle.vectors.proofs.definitions_agree.Goals as goal

pub returns : goal.returns
unfolding theta_of pi1_of gamma_of pi2_of round_of enciphered_of noekeon chaskey-round-of permuted chaskey permuted_number block_at mac_of
returns c = record {
  ciphers = (refl, (refl, (refl, tt)));
  macs = (refl, (refl, (refl, (refl, (refl, (refl, tt))))));
}

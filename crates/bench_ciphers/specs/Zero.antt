-- The block of zeros. Assumes nothing.
use Rattle.cipher.specs.declared.Block.{Block}

abbrev pub zero_block : Block
zero_block = record { first = 0; second = 0 }

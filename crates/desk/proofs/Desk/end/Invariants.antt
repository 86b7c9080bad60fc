use Rattle.std.proofs.Common.{◌≡◌, reverse, vec_items, vec_len}
use Rattle.seal.specs.Seals.{sealing}
use Rattle.graves.specs.Entries.{records}
use Rattle.desk.specs.Endings.{all_voided}
use Rattle.desk.proofs.Desk.end.Given as goal

abbrev pub decreases-loop-draw : goal.decreases-loop-draw
decreases-loop-draw g l = vec_len l.hand

-- the draws that are left lead to the table that all of them led to
abbrev pub invariant-loop-draw : goal.invariant-loop-draw
invariant-loop-draw g l =
    let S = sealing g.F.Field.model (g.C.Cipher.function l.initial.book.cipher) in
    record {
      field : l.book.field ≡ l.initial.book.field;
      cipher : l.book.cipher ≡ l.initial.book.cipher;
      table :
          all_voided S (reverse (vec_items l.hand)) (records l.book.graves.table)
          ≡ all_voided S (reverse (vec_items l.initial.hand)) (records l.initial.book.graves.table);
    }

-- The promise holds over every sealing with the laws, and so over that of any field and cipher. Assumes nothing.
use Rattle.std.proofs.ByRecursion.{All-weaker}
use Rattle.cipher.specs.declared.Block.{Block}
use Rattle.cipher.specs.declared.Key.{Key}
use Rattle.field.specs.Model.{Model}
use Rattle.field.specs.Laws.{FieldLaws}
use Rattle.bound.proofs.Theorem.{collision_bound}
use Rattle.seal.specs.Sealing.{Sealing, SealingLaws}
use Rattle.seal.specs.Seals.{sealing}
use Rattle.seal.proofs.Apart.{sealing_laws}
use Rattle.promise.specs.History.{History}
use Rattle.promise.specs.Records.{Table}
use Rattle.promise.specs.Register.{Reached, fresh, next_call}
use Rattle.promise.specs.Promise.{Promise}
use Rattle.promise.proofs.Runs.{TrueBook, true_new}
use Rattle.promise.proofs.Calls.{true_call}

module _ (S : Sealing) (L : SealingLaws S) where
  true_book : (h : History) (t : Table) → Reached S h t → TrueBook S h t
  true_book h t fresh = true_new S
  true_book h t (next_call {h = before} {t = table} run c) = true_call S L (true_book before table run) c

  pub promise_over : {m : Model} → FieldLaws m → Promise m S
  promise_over F = record {
    law_holds = λ h t run.
        let B = true_book h t run in record {
          draws_add_up = λ g. (B.sound g).adds_up;
          sheets_true = λ g. All-weaker _ _ (λ s r. r.true_sheet) _ (B.sound g).right;
          one_sheet_a_draw = B.once;
          one_grave_a_key = B.keys_apart;
          checks_fair = λ g. (B.sound g).fair;
        };
    records_true = λ h t run. (true_book h t run).records;
    collisions_few = collision_bound F;
  }

pub promise : (m : Model) (f : Key → Block → Block) → FieldLaws m → Promise m (sealing m f)
promise m f F = promise_over (sealing m f) (sealing_laws m f) F

-- A call that answered and wrote by the rules is done, and carries every run on. Assumes nothing.
use Rattle.std.proofs.Common.{◌≡◌, ◌∷◌, sym, subst}
use Rattle.refusal.specs.Outcomes.{Outcome}
use Rattle.seal.specs.Sealing.{Sealing}
use Rattle.promise.specs.History.{Call, Given, event}
use Rattle.promise.specs.Records.{Table}
use Rattle.promise.specs.Register.{answer, table, Reached}
use Rattle.promise.proofs.Continues.{continues}
use Rattle.book.specs.Calls.{BookState, KeepsCipher, Done}

-- what a call from state b answered, and the table that it left, are those of the rules
abbrev pub ByRules : {F C : Type 0} → BookState F C → (c : Call) → Outcome (Given c) → Table → Type 0
ByRules b c o t' = (o ≡ answer b.sealing b.table c) × (t' ≡ table b.sealing b.table c)

pub finished : {F C : Type 0} (b b' : BookState F C) (c : Call) (o : Outcome (Given c)) → b'.field ≡ b.field
    → KeepsCipher c b.cipher b'.cipher → b'.sealing ≡ b.sealing → ByRules b c o b'.table → Done b c o b'
finished b b' c o field cipher kept by_rule = record {
  answers = by_rule.0;
  writes = by_rule.1;
  keeps = kept;
  field = field;
  cipher = cipher;
  goes_on = λ h run.
      subst (λ (X : Sealing). Reached X (event c o ∷ h) b'.table) (sym kept)
      (continues b.sealing b.table b'.table c o by_rule.0 by_rule.1 h run);
}

use Rattle.std.proofs.Common.{◌≡◌, ◌&&◌, ◌∙◌, Bool, refl, sym, ap, arith}
use Rattle.std.proofs.lemmas.Result.{err_from_is_err_and}
use Rattle.promise.specs.Records.{Record, is_free, is_used, after_open}
use Rattle.promise.specs.Register.{open_causes}
use Rattle.graves.specs.Entries.{records}
use Rattle.book.proofs.Placed.{by_name, place, turned}
use Rattle.book.proofs.Looked.{looked_for}
use Rattle.book.proofs.Finished.{finished}
use Rattle.book.proofs.Nowhere.{nowhere}
use Rattle.book.proofs.calls.Book.open.Goals as goal
use Rattle.book.proofs.calls.Book.open.Goals.{then-is_free, else-is_free}

pub returns-in_err-grave : goal.returns-in_err-grave
returns-in_err-grave g c =
    let p = err_from_is_err_and c.from_residual.result c.from_residual.ensures.1 in
    rw (p.1, p.2) (nowhere _ _ c.args.grave _ refl c.in_err-grave.ensures)

pub returns : goal.returns
returns g c =
    let rs = c.args.self.now.graves.table in
    let looked_at = by_name rs c.args.grave _ _ c.in_ok-grave.ensures c.from.ensures (grind arith) in
    let at = by_name rs c.args.grave _ _ c.in_ok-grave.ensures c.from-2.ensures (grind arith) in
    let k = c.args.key in
    let free = c.is_free.ensures ∙ ap (λ (q : Record). is_free q.state) (place looked_at _ ∙ sym (place at _)) in
    let used : c.if-is_free.used ≡ (c.is_free.result && is_used (records rs) k) = elim c.if-is_free.branch [
      | then-is_free w ↦ rw w.if-is_free.true (w.used-is ∙ w.key_used-used.ensures)
      | else-is_free w ↦ rw w.if-is_free.false (w.used-is ∙ w.if-is_free.false)
    ] in
    let by = looked_for _ _ _ (used ∙ ap (λ (f : Bool). f && is_used (records rs) k) free) _ _ _ _ c.open.ensures in
    finished _ _ _ _ refl refl refl (turned at _ (λ (q : Record). open_causes (records rs) q k) (λ _. tt) (after_open k) _ _ by)

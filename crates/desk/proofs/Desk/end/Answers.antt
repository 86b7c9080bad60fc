use Rattle.std.proofs.Common.{◌≡◌, [], reverse, vec_items, sym, ap, ◌∙◌}
use Rattle.std.proofs.lemmas.List.{nil_from_length}
use Rattle.seal.specs.Seals.{sealing}
use Rattle.promise.specs.Register.{table}
use Rattle.graves.specs.Entries.{records}
use Rattle.desk.specs.Endings.{voiding, all_voided}
use Rattle.desk.proofs.Ended.{newest_first, none_left, run_of_all}
use Rattle.desk.proofs.Desk.end.Goals as goal

pub loop-draw-preserved : goal.loop-draw-preserved
loop-draw-preserved g c =
    let S = sealing g.F.Field.model (g.C.Cipher.function c.args.self.book.cipher) in
    let t = records c.loop-draw.book.graves.table in
    let before = c.loop-draw.invariant in
    record {
      field = c.void.ensures.field ∙ before.field;
      cipher = c.void.ensures.cipher ∙ before.cipher;
      table =
          newest_first S (vec_items c.loop-draw.hand) (vec_items c.pop.new.self) c.in-Some.draw t _ c.in-Some.ensures.items
          (c.void.ensures.writes
          ∙ ap (λ k. table (sealing g.F.Field.model (g.C.Cipher.function k)) t (voiding c.in-Some.draw)) before.cipher)
          ∙ before.table;
    }

pub returns : goal.returns
returns g c =
    let S = sealing g.F.Field.model (g.C.Cipher.function c.args.self.book.cipher) in
    let t = records c.args.self.book.graves.table in
    let hand = vec_items c.args.self.hand in
    let after = c.loop-draw.invariant in
    let empty : vec_items c.loop-draw.hand ≡ [] =
    nil_from_length _ (sym c.loop-draw.hand.ok.0 ∙ c.in_default.ensures.cases.0) in
    let left : records c.loop-draw.book.graves.table ≡ all_voided S (reverse hand) t =
    none_left S (vec_items c.loop-draw.hand) _ _ empty after.table in
    record {
      field = after.field;
      cipher = after.cipher;
      table = left;
      run =
          run_of_all S _ (reverse hand) t _
          (ap (λ k. sealing g.F.Field.model (g.C.Cipher.function k)) after.cipher) left;
    }

use Rattle.std.proofs.Common.{Bool, not, ◌&&◌, ◌||◌, List, refl, ◌∙◌, rules, tests}
use Rattle.std.specs.List.{list_any}
use Rattle.std.proofs.lemmas.Iterator.{YieldsList-from_slice}
use Rattle.std.proofs.lemmas.Iterator.Search.{any_from_yields_List}
use Rattle.std.proofs.lemmas.List.Recursion.{same_from_clauses}
use Rattle.promise.specs.Records.{is_free, same_key, is_used}
use Rattle.graves.specs.declared.record.Record.{Record}
use Rattle.graves.specs.Entries.{the_record, records}
use Rattle.book.proofs.calls.key_used.Goals as goal

pub returns : goal.returns
returns c =
    let key = c.args.key in
    let has_key = λ (r : Record). not (is_free (the_record r).state) && same_key (the_record r).key key in
    any_from_yields_List has_key _ _ _ c.any.ensures.ran (YieldsList-from_slice c.args.table.now cc) (λ x b q k. search (rules, tests))
    ∙ same_from_clauses (list_any has_key) (λ (rs : List Record). is_used (records rs) key) (λ (r : Record) (u : Bool). has_key r || u) refl
    (λ _ _. refl) (λ _ _. refl) c.args.table.now

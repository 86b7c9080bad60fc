-- Graves whose records hold no draw. Assumes nothing.
use Rattle.std.proofs.Common.{◌≡◌, ℕ, ◌<◌, List, [], ◌∷◌, length, ap, ◌∙◌, arith}
use Rattle.std.specs.List.{AllWithin}
use Rattle.std.proofs.lemmas.List.{get_or-map, nil_from_length}
use Rattle.promise.specs.Records.{grave, free}
use Rattle.promise.specs.Records as rule
use Rattle.graves.specs.declared.record.Record.{Record}
use Rattle.graves.specs.Entries.{the_record, records}
use Rattle.graves.specs.Held.{draws}

pub none_held : (rs : List Record) → AllWithin (λ (r : Record). length (draws r.entry.held) ≡ 0) rs 0 (length rs)
    → (g : ℕ) → g < length rs → (grave (records rs) g).held ≡ []
none_held [] none g within = absurd (omega arith)
none_held (r ∷ rs) none g within =
    nil_from_length _
    (ap (λ (q : rule.Record). length q.held) (get_or-map the_record (r ∷ rs) g r free within) ∙ none g r (omega arith) within)

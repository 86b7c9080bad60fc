-- The words for a grave's state. Assumes nothing.
use Rattle.std.specs.Prelude.{ℕ, List, ◌++◌, codes, decimal}
use Rattle.graves.specs.declared.entry.State.{State}
use Rattle.graves.specs.declared.entry.State.TheVariants.{Free, Open, Locked, Closed}

abbrev pub none_word : List ℕ
none_word = codes "none"

abbrev pub state_words : State → List ℕ
state_words Free = codes "free"
state_words (Open false_seals) = codes "open " ++ decimal false_seals
state_words Locked = codes "locked"
state_words Closed = codes "closed"

-- A check of the code, as the rules have it. Assumes nothing.
use Rattle.std.specs.Prelude.{cond, Ok, Err, Result, ◌==◌}
use Rattle.refusal.specs.declared.Refusal.{Refusal}
use Rattle.refusal.specs.Numbers.{number_of}
use Rattle.refusal.specs.Outcomes.{Outcome, gives, refuses}
use Rattle.promise.specs.History.{Sheet}
use Rattle.promise.specs.History as heard
use Rattle.promise.specs.Records.{Record, after_false_seal}
use Rattle.seal.specs.declared.Claim.{Claim}
use Rattle.graves.specs.declared.turns.Standing.{Standing}
use Rattle.graves.specs.Entries.{standing_told}

abbrev pub claimed : Claim → Sheet
claimed c = record { draw = c.draw; text = c.text.now; seal = c.seal }

abbrev pub checked_told : Result Standing Refusal → Outcome heard.Standing
checked_told (Ok v) = gives (standing_told v)
checked_told (Err w) = refuses (number_of w)

-- the grave's record after a check that was answered so: a false seal is counted, and nothing else changes
abbrev pub after_answer : Record → Outcome heard.Standing → Record
after_answer r (gives v) = r
after_answer r (refuses n) = cond (n == 12) (after_false_seal r) r

-- The code's records, as the rules have them. Assumes nothing.
use Rattle.std.specs.Prelude.{List, map, Ok, Err, Result}
use Rattle.refusal.specs.declared.Refusal.{Refusal}
use Rattle.refusal.specs.Numbers.{number_of}
use Rattle.refusal.specs.Outcomes.{Outcome, gives, refuses}
use Rattle.promise.specs.Records as rule
use Rattle.promise.specs.History as heard
use Rattle.graves.specs.declared.entry.Entry.{Entry}
use Rattle.graves.specs.declared.record.Record.{Record}
use Rattle.graves.specs.declared.turns.Standing.{Standing}
use Rattle.graves.specs.declared.turns.Standing.TheVariants.{Current, Superseded}
use Rattle.graves.specs.Held.{draws}
use Rattle.graves.specs.States.{state}

abbrev pub entry : Entry → rule.Record
entry e = record {
  state = state e.state;
  key = e.key;
  next = e.next;
  held = draws e.held;
  sealed = e.sealed;
  voided = e.voided;
  current = e.current;
}

abbrev pub the_record : Record → rule.Record
the_record r = entry r.entry

abbrev pub records : List Record → rule.Table
records rs = map the_record rs

abbrev pub turned : Result Record Refusal → Outcome rule.Record
turned (Ok r) = gives (the_record r)
turned (Err w) = refuses (number_of w)

abbrev pub given : Result Entry Refusal → Outcome rule.Record
given (Ok e) = gives (entry e)
given (Err w) = refuses (number_of w)

abbrev pub standing_told : Standing → heard.Standing
standing_told Current = heard.current
standing_told Superseded = heard.superseded

-- What a reader counts over what was done at one grave, newest first. Nothing here knows of records. Assumes nothing.
use Rattle.std.specs.Prelude.{◌≡◌, ℕ, ◌+◌, ◌<◌, Bool, true, false, cond, List, [], ◌∷◌, length, Some, None, Option, ◌==◌}
use Rattle.cipher.specs.declared.Key.{Key}
use Rattle.refusal.specs.Outcomes.{Outcome, gives, refuses}
use Rattle.promise.specs.Draws.{without}
use Rattle.promise.specs.History.{Sheet, Standing, current, superseded, on, turned_away, History, acts}
use Rattle.promise.specs.History.{Act, opened, drawn, sealed, voided, checked, cleared, closed}

-- the key that the grave was opened with
abbrev pub key : List Act → Option Key
key [] = None
key (opened k ∷ past) = Some k
key (drawn d ∷ past) = key past
key (sealed s ∷ past) = key past
key (voided d ∷ past) = key past
key (checked s p o ∷ past) = key past
key (cleared ∷ past) = key past
key (closed ∷ past) = key past

-- whether it was opened, and not closed since
abbrev pub in_use : List Act → Bool
in_use [] = false
in_use (opened k ∷ past) = true
in_use (drawn d ∷ past) = in_use past
in_use (sealed s ∷ past) = in_use past
in_use (voided d ∷ past) = in_use past
in_use (checked s p o ∷ past) = in_use past
in_use (cleared ∷ past) = in_use past
in_use (closed ∷ past) = false

-- n, and one more if a check turned its sheet away for a wrong seal
abbrev pub with_false_seal : Outcome Standing → ℕ → ℕ
with_false_seal (gives v) n = n
with_false_seal (refuses r) n = cond (r == 12) (n + 1) n

-- its false seals since it was opened or last cleared
abbrev pub false_seals : List Act → ℕ
false_seals [] = 0
false_seals (opened k ∷ past) = 0
false_seals (drawn d ∷ past) = false_seals past
false_seals (sealed s ∷ past) = false_seals past
false_seals (voided d ∷ past) = false_seals past
false_seals (checked s p o ∷ past) = with_false_seal o (false_seals past)
false_seals (cleared ∷ past) = 0
false_seals (closed ∷ past) = false_seals past

abbrev pub IsOpen : List Act → Type 0
IsOpen past = (in_use past ≡ true) × (false_seals past < 4)

-- how many draws it handed out
abbrev pub handed_out : List Act → ℕ
handed_out [] = 0
handed_out (opened k ∷ past) = handed_out past
handed_out (drawn d ∷ past) = handed_out past + 1
handed_out (sealed s ∷ past) = handed_out past
handed_out (voided d ∷ past) = handed_out past
handed_out (checked s p o ∷ past) = handed_out past
handed_out (cleared ∷ past) = handed_out past
handed_out (closed ∷ past) = handed_out past

-- the sheets it sealed
abbrev pub sheets : List Act → List Sheet
sheets [] = []
sheets (opened k ∷ past) = sheets past
sheets (drawn d ∷ past) = sheets past
sheets (sealed s ∷ past) = s ∷ sheets past
sheets (voided d ∷ past) = sheets past
sheets (checked s p o ∷ past) = sheets past
sheets (cleared ∷ past) = sheets past
sheets (closed ∷ past) = sheets past

-- the draw of the newest of some sheets
abbrev pub newest : List Sheet → Option ℕ
newest [] = None
newest (s ∷ ss) = Some s.draw

-- the standing of a sheet under draw d, where this is the current draw
abbrev pub standing : Option ℕ → ℕ → Standing
standing None d = superseded
standing (Some e) d = cond (e == d) current superseded

-- the draws it holds
abbrev pub held : List Act → List ℕ
held [] = []
held (opened k ∷ past) = held past
held (drawn d ∷ past) = d ∷ held past
held (sealed s ∷ past) = without s.draw (held past)
held (voided d ∷ past) = without d (held past)
held (checked s p o ∷ past) = held past
held (cleared ∷ past) = held past
held (closed ∷ past) = []

-- how many draws were voided; closing voids those that it holds
abbrev pub voids : List Act → ℕ
voids [] = 0
voids (opened k ∷ past) = voids past
voids (drawn d ∷ past) = voids past
voids (sealed s ∷ past) = voids past
voids (voided d ∷ past) = voids past + 1
voids (checked s p o ∷ past) = voids past
voids (cleared ∷ past) = voids past
voids (closed ∷ past) = voids past + length (held past)

-- the key and the draw of each sheet that any grave sealed, the key being the grave's at that time
abbrev pub sealed_under : History → List (Option Key × ℕ)
sealed_under [] = []
sealed_under (on g (opened k) ∷ es) = sealed_under es
sealed_under (on g (drawn d) ∷ es) = sealed_under es
sealed_under (on g (sealed s) ∷ es) = (key (acts g es), s.draw) ∷ sealed_under es
sealed_under (on g (voided d) ∷ es) = sealed_under es
sealed_under (on g (checked s p o) ∷ es) = sealed_under es
sealed_under (on g cleared ∷ es) = sealed_under es
sealed_under (on g closed ∷ es) = sealed_under es
sealed_under (turned_away n ∷ es) = sealed_under es

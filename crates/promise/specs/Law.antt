-- The law of what happened at a book, whatever calls were made. Assumes nothing.
use Rattle.std.specs.Prelude.{◌≡◌, ℕ, ◌+◌, ◌<◌, ◌≤◌, ◌≢◌, List, [], ◌∷◌, length, Some, Option}
use Rattle.std.specs.List.{AllByRecursion}
use Rattle.cipher.specs.declared.Block.{Block}
use Rattle.cipher.specs.declared.Key.{Key}
use Rattle.refusal.specs.Outcomes.{Outcome, gives, refuses}
use Rattle.bound.specs.Counting.{Distinct}
use Rattle.seal.specs.Sealing.{Sealing, Among}
use Rattle.promise.specs.History.{Sheet, Standing, Act, opened, drawn, sealed, voided, checked, cleared, closed}
use Rattle.promise.specs.History.{History, acts}
use Rattle.promise.specs.Past.{key, IsOpen, handed_out, sheets, newest, held, voids, standing, sealed_under}

-- A grave's draws: how many were handed out, sealed and voided, and which are held.
pub record AddUp (handed sealed voided : ℕ) (held : List ℕ) : Type 0 where
  pub sum : handed ≡ (sealed + voided) + length held
  pub held_once : Distinct held
  pub held_handed : AllByRecursion (λ d. d < handed) held
  pub held_few : length held ≤ 4
  pub handed_few : handed ≤ 1000000

abbrev pub DrawsAddUp : List Act → Type 0
DrawsAddUp past = AddUp (handed_out past) (length (sheets past)) (voids past) (held past)

-- Checks. Something was done at a grave; then sheet s was checked there with p places for subkeys.
module _ (S : Sealing) where
  -- a sheet sealed here earlier, with room for its subkeys, while the grave is open
  pub record Untouched (past : List Act) (s : Sheet) (p : ℕ) : Type 0 where
    pub sealed_here : Among s (sheets past)
    pub room : S.chunks s.text ≤ p
    pub open_then : IsOpen past

  -- a text was sealed here under the draw, and P of it
  abbrev pub SealedUnder : List Act → ℕ → (List ℕ → Type 0) → Type 0
  SealedUnder past d P = (s : Sheet) × Among s (sheets past) × (s.draw ≡ d) × P s.text

  -- no seal made here asked the cipher for the block
  abbrev pub NeverAsked : List Act → Key → Block → Type 0
  NeverAsked past k b = (s : Sheet) → Among s (sheets past) → Among b (S.blocks k s.draw s.text) → ⊥

  -- at a grave with this key that has handed out so many draws, the sheet has the defined seal
  pub record TrueSheet (k : Option Key) (handed : ℕ) (s : Sheet) : Type 0 where
    pub by : Key
    pub by_is : k ≡ Some by
    pub true_seal : s.seal ≡ S.seal by s.draw s.text
    pub its_draw : s.draw < handed
    pub short : length s.text ≤ S.longest

  -- how a sheet can come by the defined seal: its text was sealed here under its draw; or another text was that shares
  -- its hash; or the seal is the cipher's first number for a block that no seal made here ever asked for
  pub data Known (past : List Act) (k : Key) (s : Sheet) : Type 0 where
    was_sealed : SealedUnder past s.draw (λ x. x ≡ s.text) → Known past k s
    shares_hash : SealedUnder past s.draw (λ x. (x ≢ s.text) × (S.hash k x ≡ S.hash k s.text)) →
        Known past k s
    never_asked : s.seal ≡ (S.answer k (S.own_block k s.draw s.text)).first →
        NeverAsked past k (S.own_block k s.draw s.text) → Known past k s

  -- what is known of a sheet that passes, and of its standing
  pub record Earned (past : List Act) (s : Sheet) (v : Standing) : Type 0 where
    pub open_then : IsOpen past
    pub true_sheet : TrueSheet (key past) (handed_out past) s
    pub known : Known past true_sheet.by s
    pub standing_is : v ≡ standing (newest (sheets past)) s.draw

  -- what passes was earned, and what is turned away was no untouched sheet
  abbrev pub Fair : List Act → Sheet → ℕ → Outcome Standing → Type 0
  Fair past s p (gives v) = Earned past s v
  Fair past s p (refuses n) = Untouched past s p → ⊥

  -- every check that was made at a grave was fair
  abbrev pub ChecksFair : List Act → Type 0
  ChecksFair [] = Unit {0}
  ChecksFair (opened k ∷ past) = ChecksFair past
  ChecksFair (drawn d ∷ past) = ChecksFair past
  ChecksFair (sealed s ∷ past) = ChecksFair past
  ChecksFair (voided d ∷ past) = ChecksFair past
  ChecksFair (checked s p o ∷ past) = Fair past s p o × ChecksFair past
  ChecksFair (cleared ∷ past) = ChecksFair past
  ChecksFair (closed ∷ past) = ChecksFair past

  -- the law of what happened
  pub record Law (h : History) : Type 0 where
    pub draws_add_up : (g : ℕ) → DrawsAddUp (acts g h)
    pub sheets_true : (g : ℕ) → AllByRecursion (TrueSheet (key (acts g h)) (handed_out (acts g h))) (sheets (acts g h))
    pub one_sheet_a_draw : Distinct (sealed_under h)
    pub one_grave_a_key : (g i : ℕ) (k : Key) → key (acts g h) ≡ Some k → key (acts i h) ≡ Some k → g ≡ i
    pub checks_fair : (g : ℕ) → ChecksFair (acts g h)

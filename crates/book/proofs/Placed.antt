-- A call that its grave's record decides: what it answers, and what it leaves at that grave's place. Assumes nothing.
use Rattle.std.proofs.Common.{◌≡◌, ℕ, ◌<◌, true, false, cond, eqb, List, [], length, get_or, set, sym, refl, ap, ◌∙◌, subst}
use lib.Seq.{map-set, set-get_or}
use Rattle.std.proofs.lemmas.List.{get_or-map}
use Rattle.refusal.specs.Outcomes.{Outcome, gives, refuses, Cause, decided}
use Rattle.refusal.proofs.Decided.{Absent, absent, undecided, same_value}
use Rattle.seal.specs.Sealing.{Sealing}
use Rattle.promise.specs.History.{Sheet, Standing}
use Rattle.promise.specs.Records.{grave, free, after_false_seal}
use Rattle.promise.specs.Records as rule
use Rattle.promise.specs.Past.{standing}
use Rattle.promise.specs.Register.{named, written, check_causes, after_check}
use Rattle.graves.specs.declared.record.Record.{Record}
use Rattle.graves.specs.Entries.{the_record, records}
use Rattle.graves.specs.Turns.{TurnsBy, left}
use Rattle.graves.specs.Checks.{after_answer}
use Rattle.book.specs.Calls.{place_outcome}

-- a record that was left, put at its place, is what is written there
left_at : (t : rule.Table) (g : ℕ) (o : Outcome rule.Record) → set t g (left (grave t g) o) ≡ written t g o
left_at t g (gives r) = refl
left_at t g (refuses n) = set-get_or t g free

checked_at : (t : rule.Table) (g : ℕ) (o : Outcome Standing) → set t g (after_answer (grave t g) o) ≡ after_check t g o
checked_at t g (gives v) = set-get_or t g free
checked_at t g (refuses n) =
    elim (eqb n 12) as (λ b. set t g (cond b (after_false_seal (grave t g)) (grave t g)) ≡ cond b (set t g (after_false_seal (grave t g))) t) [
      | true ↦ refl
      | false ↦ set-get_or t g free
    ]

-- i is the place of grave g in the code's table, and these causes are not there
pub record At (rs : List Record) (g i : ℕ) (first : List Cause) : Type 0 where
  pub is : i ≡ g
  pub there : i < length rs
  pub none : Absent first

-- the call names the grave, and the code found its place
pub by_name : (rs : List Record) (g k i : ℕ) → gives k ≡ place_outcome g → i ≡ k → i < length rs → At rs g i (named g [])
by_name rs g k i found same there = record {
  is = same ∙ same_value (named g []) g found;
  there = there;
  none = absent (named g []) g found;
}

-- the call's draw is of the grave
pub by_draw : (rs : List Record) (g i : ℕ) → i ≡ g → i < length rs → At rs g i []
by_draw rs g i is there = record { is = is; there = there; none = tt }

-- the rule of a check's answer at a record
abbrev heard : Sealing → Sheet → ℕ → rule.Record → Outcome Standing
heard S s p r = decided (check_causes S r s p) (gives (standing r.current s.draw))

module _ {rs : List Record} {g i : ℕ} {first : List Cause} (at : At rs g i first) (d : Record) where
  -- the grave's record, as the code and as the rules find it
  pub place : the_record (get_or rs i d) ≡ grave (records rs) g
  place = sym (get_or-map the_record rs i d free at.there) ∙ ap (grave (records rs)) at.is

  put : (next : Record) (q : rule.Record) → the_record next ≡ q → records (set rs i next) ≡ set (records rs) g q
  put next q is = map-set the_record rs i next ∙ ap (set (records rs) i) is ∙ ap (λ (j : ℕ). set (records rs) j q) at.is

  pub turned : {A : Type 0} (cs : rule.Record → List Cause) (v : rule.Record → A) (f : rule.Record → rule.Record)
      (o : Outcome A) (next : Record) → TurnsBy cs v f (the_record (get_or rs i d)) o (the_record next)
      → let q = grave (records rs) g in
      (o ≡ decided first (decided (cs q) (gives (v q))))
      × (records (set rs i next) ≡ written (records rs) g (decided first (decided (cs q) (gives (f q)))))
  turned cs v f o next by =
      let t = records rs in
      let q = grave t g in
      let by_rule : TurnsBy cs v f q o (the_record next) =
      subst (λ (r : rule.Record). TurnsBy cs v f r o (the_record next)) place by in
      let so : Outcome rule.Record = decided (cs q) (gives (f q)) in (
        by_rule.answers ∙ undecided first (decided (cs q) (gives (v q))) at.none,
        put next (left q so) by_rule.leaves ∙ left_at t g so ∙ ap (written t g) (undecided first so at.none),
      )

  pub checked : (S : Sealing) (s : Sheet) (p : ℕ) (o : Outcome Standing) (next : Record)
      → o ≡ heard S s p (the_record (get_or rs i d)) → the_record next ≡ after_answer (the_record (get_or rs i d)) o
      → let q = grave (records rs) g in
      (o ≡ decided first (heard S s p q)) × (records (set rs i next) ≡ after_check (records rs) g (decided first (heard S s p q)))
  checked S s p o next answers leaves =
      let t = records rs in
      let q = grave t g in
      let answered : o ≡ decided first (heard S s p q) =
      answers ∙ ap (heard S s p) place ∙ undecided first (heard S s p q) at.none in (
        answered,
        put next (after_answer q o) (leaves ∙ ap (λ (r : rule.Record). after_answer r o) place)
            ∙ checked_at t g o ∙ ap (after_check t g) answered,
      )

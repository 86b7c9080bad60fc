-- Each history of a book that goes wrong, with the part of the law that it breaks. Assumes nothing.
use Rattle.std.proofs.Common.{◌≡◌, ℕ, ◌+◌, List, Some, sym, refl, ap, ◌∙◌, inl, le_refl, arith}
use Rattle.std.proofs.lemmas.Bool.{false≢true}
use Rattle.cipher.specs.declared.Key.{Key}
use Rattle.seal.specs.Sealing.{Sealing, Among}
use Rattle.promise.specs.History.{Sheet, current, superseded, Act}
use Rattle.promise.specs.Past.{sheets, IsOpen}
use Rattle.promise.specs.Law.{TrueSheet, Untouched}
use Rattle.promise.specs.Teeth.{Teeth}

current≢superseded : current ≡ superseded → ⊥
current≢superseded e = let z : ◌≡◌ {A = ℕ} 0 1 = cc in omega arith

module _ (S : Sealing) (k : Key) (y : List ℕ) where
  -- a seal with one added is not the defined one
  not-true : {handed : ℕ} → TrueSheet S (Some k) handed (record { draw = 0; text = y; seal = S.seal k 0 y + 1 }) → ⊥
  not-true t =
      let same : t.by ≡ k = same_key t.by_is in
      let e = t.true_seal ∙ ap (λ (j : Key). S.seal j 0 y) same in
      omega arith
    where
      same_key : {j : Key} → Some k ≡ Some j → j ≡ k
      same_key e = cc

untouched : (S : Sealing) (past : List Act) (s : Sheet) → Among s (sheets past) → IsOpen past →
    Untouched S past s (S.chunks s.text)
untouched S past s here open_then = record { sealed_here = here; room = le_refl _; open_then = open_then }

pub teeth : (S : Sealing) (k j : Key) (x y : List ℕ) → Teeth S k j x y
teeth S k j x y = record {
  turns_all_away = λ n L. (L.checks_fair 7).0 (untouched S _ _ (inl refl) (refl, omega arith));
  locks_after_three = λ n L. (L.checks_fair 7).0 (untouched S _ _ (inl refl) (refl, omega arith));
  locks_another = λ n L. (L.checks_fair 7).0 (untouched S _ _ (inl refl) (refl, omega arith));
  stays_locked = λ n L. (L.checks_fair 7).0 (untouched S _ _ (inl refl) (refl, omega arith));
  never_locks = λ v L. let few = (L.checks_fair 7).0.open_then.1 in omega arith;
  passes_at_closed = λ v L. false≢true (L.checks_fair 7).0.open_then.0;
  takes_any_seal = λ v L. not-true S k y (L.checks_fair 7).0.true_sheet;
  takes_any_draw = λ v L. let few = (L.checks_fair 7).0.true_sheet.its_draw in omega arith;
  not_current = λ L. current≢superseded (sym (L.checks_fair 7).0.standing_is);
  still_current = λ L. current≢superseded (L.checks_fair 7).0.standing_is;
  seals_wrong = λ L. not-true S k y (L.sheets_true 7).0;
  seals_twice = λ L. L.one_sheet_a_draw.0.0 refl;
  seals_again = λ L. L.one_sheet_a_draw.0.0 refl;
  opens_with_used = λ L. let e = L.one_grave_a_key 7 8 k refl refl in omega arith;
  voids_a_sealed = λ L. let e = (L.draws_add_up 7).sum in omega arith;
  seals_undrawn = λ L. let e = (L.draws_add_up 7).sum in omega arith;
  draws_again = λ L. (L.draws_add_up 7).held_once.0.0 refl;
  holds_five = λ L. let few = (L.draws_add_up 7).held_few in omega arith;
}

-- A call that names no grave of the book is refused with 1, and nothing changes. Assumes nothing.
use Rattle.std.proofs.Common.{◌≡◌, ℕ, Bool, true, false, cond, ltb, sym, refl, ap, ◌∙◌, subst, arith}
use Rattle.refusal.specs.Outcomes.{Outcome, gives, refuses}
use Rattle.promise.specs.History.{Call, to_open, to_draw, to_seal, to_void, to_check, to_clear, to_close}
use Rattle.promise.specs.Records.{Record, Table}
use Rattle.promise.specs.Register.{written, after_check}
use Rattle.book.specs.Calls.{BookState, KeepsCipher, Done, place_outcome}
use Rattle.book.proofs.Finished.{ByRules, finished}

-- the call names the grave of this number
abbrev pub Names : ℕ → Call → Type 0
Names i (to_open g k) = g ≡ i
Names i (to_draw g) = g ≡ i
Names i (to_seal g d x p) = ⊥
Names i (to_void g d) = ⊥
Names i (to_check g s p) = g ≡ i
Names i (to_clear g) = g ≡ i
Names i (to_close g) = g ≡ i

beyond : (u : Bool) (i n : ℕ) → refuses n ≡ cond u (refuses 1) (gives i) → (u ≡ true) × (1 ≡ n)
beyond true i n is = (refl, cc)
beyond false i n is = let never : ◌≡◌ {A = ℕ} 0 1 = cc in absurd (omega arith)

answers_so : {A : Type 0} (u : Bool) (o : Outcome A) → u ≡ true → refuses 1 ≡ cond u (refuses 1) o
answers_so u o is = ap (λ v. cond v (refuses 1) o) (sym is)

writes_so : (t : Table) (g : ℕ) (u : Bool) (o : Outcome Record) → u ≡ true → t ≡ written t g (cond u (refuses 1) o)
writes_so t g u o is = ap (written t g) (answers_so u o is)

module _ {F C : Type 0} (b : BookState F C) where
  kept : (c : Call) → KeepsCipher c b.cipher b.cipher
  kept (to_open g k) = refl
  kept (to_draw g) = refl
  kept (to_seal g d x p) = tt
  kept (to_void g d) = refl
  kept (to_check g s p) = tt
  kept (to_clear g) = refl
  kept (to_close g) = refl

  module _ (i : ℕ) (above : ltb 255 i ≡ true) where
    at : (g : ℕ) → g ≡ i → ltb 255 g ≡ true
    at g is = ap (ltb 255) is ∙ above

    refused : (c : Call) → Names i c → ByRules b c (refuses 1) b.table
    refused (to_open g k) is = (answers_so _ _ (at g is), writes_so _ _ _ _ (at g is))
    refused (to_draw g) is = (answers_so _ _ (at g is), writes_so _ _ _ _ (at g is))
    refused (to_seal g d x p) is = absurd is
    refused (to_void g d) is = absurd is
    refused (to_check g s p) is = (answers_so _ _ (at g is), ap (after_check b.table g) (answers_so _ _ (at g is)))
    refused (to_clear g) is = (answers_so _ _ (at g is), writes_so _ _ _ _ (at g is))
    refused (to_close g) is = (answers_so _ _ (at g is), writes_so _ _ _ _ (at g is))

  pub nowhere : (c : Call) (i n : ℕ) → Names i c → refuses n ≡ place_outcome i → Done b c (refuses n) b
  nowhere c i n names is =
      let parts = beyond (ltb 255 i) i n is in
      let one = finished b b c (refuses 1) refl (kept c) refl (refused i parts.0 c names) in
      subst (λ (m : ℕ). Done b c (refuses m) b) parts.1 one

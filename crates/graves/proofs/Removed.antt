-- A list of draws without one of them: still of different draws that were handed out, and one shorter. Assumes nothing.
use Rattle.std.proofs.Common.{◌≡◌, ℕ, suc, ◌+◌, Bool, true, false, cond, not, ◌&&◌, ◌||◌, eqb, ltb, List, [], ◌∷◌, length, Some, None, sym, refl, ap, ◌∙◌, ap₂, arith}
use Rattle.std.proofs.lemmas.Bool.{and_parts, true≢false, not-true}
use Rattle.promise.specs.Draws.{holds, without}
use Rattle.graves.specs.declared.held.Held.{Held}
use Rattle.graves.specs.declared.record.Record.{Record}
use Rattle.graves.specs.Held.{draws}
use Rattle.graves.specs.Sound.{all_different, all_below, Uncounted}

or_false : (a b : Bool) → (a || b) ≡ false → (a ≡ false) × (b ≡ false)
or_false true b e = absurd (true≢false e)
or_false false b e = (refl, e)

not_held : (x d : ℕ) (ds : List ℕ) → holds x ds ≡ false → holds x (without d ds) ≡ false
not_held x d [] h = refl
not_held x d (e ∷ es) h =
    let parts = or_false (eqb e x) (holds x es) h in
    elim (eqb e d) as (λ t. holds x (cond t es (e ∷ without d es)) ≡ false) [
      | true ↦ parts.1
      | false ↦ ap₂ ◌||◌ parts.0 (not_held x d es parts.1)
    ]

different_still : (d : ℕ) (ds : List ℕ) → all_different ds ≡ true → all_different (without d ds) ≡ true
different_still d [] h = refl
different_still d (e ∷ es) h =
    let parts = and_parts (not (holds e es)) (all_different es) h in
    elim (eqb e d) as (λ t. all_different (cond t es (e ∷ without d es)) ≡ true) [
      | true ↦ parts.1
      | false ↦
          ap₂ ◌&&◌ (ap not (not_held e d es (not-true (holds e es) parts.0))) (different_still d es parts.1)
    ]

below_still : (n d : ℕ) (ds : List ℕ) → all_below n ds ≡ true → all_below n (without d ds) ≡ true
below_still n d [] h = refl
below_still n d (e ∷ es) h =
    let parts = and_parts (ltb e n) (all_below n es) h in
    elim (eqb e d) as (λ t. all_below n (cond t es (e ∷ without d es)) ≡ true) [
      | true ↦ parts.1
      | false ↦ ap₂ ◌&&◌ parts.0 (below_still n d es parts.1)
    ]

one_fewer : (d : ℕ) (ds : List ℕ) → holds d ds ≡ true → length (without d ds) + 1 ≡ length ds
one_fewer d [] h = absurd (true≢false (sym h))
one_fewer d (e ∷ es) h =
    let by_test : (eqb e d || holds d es) ≡ true → length (cond (eqb e d) es (e ∷ without d es)) + 1 ≡ suc (length es) =
    elim (eqb e d) as (λ t. (t || holds d es) ≡ true → length (cond t es (e ∷ without d es)) + 1 ≡ suc (length es)) [
      | true ↦ λ q. omega arith
      | false ↦ λ q. let fewer = one_fewer d es q in omega arith
    ] in
    by_test h

-- what a record says once a draw was found among those that it holds, and is taken out
pub taken_out : (r : Record) (d : ℕ) (left : Held)
    → Some (draws left) ≡ cond (holds d (draws r.entry.held)) (Some (without d (draws r.entry.held))) None
    → Uncounted (record r.entry { held = left })
taken_out r d left is =
    let n = r.entry.next in
    let ds = draws r.entry.held in
    let found : (holds d ds ≡ true) × (draws left ≡ without d ds) = chosen (holds d ds) is in
    let parts = and_parts (all_different ds) (all_below n ds) r.held in
    let fewer : length (draws left) + 1 ≡ length ds =
    ap (λ (xs : List ℕ). length xs + 1) found.1 ∙ one_fewer d ds found.0 in
    record {
      soundly =
          ap (λ (xs : List ℕ). all_different xs && all_below n xs) found.1
          ∙ ap₂ ◌&&◌ (different_still d ds parts.0) (below_still n d ds parts.1);
      one_short = omega (arith, r.counts);
      few = r.few;
    }
  where
    chosen : (t : Bool) → Some (draws left) ≡ cond t (Some (without d (draws r.entry.held))) None
        → (t ≡ true) × (draws left ≡ without d (draws r.entry.held))
    chosen true e = (refl, cc)
    chosen false e = let never : ◌≡◌ {A = ℕ} 0 1 = cc in absurd (omega arith)

-- The first draw of a number at a grave, found in the hand. Assumes nothing.
use Rattle.std.proofs.Common.{◌≡◌, ℕ, zero, suc, ◌<◌, Bool, true, false, cond, eqb, List, [], ◌∷◌, length, get_or, sym, ap, ◌∙◌, arith}
use Rattle.std.specs.List.{remove}
use Rattle.std.proofs.lemmas.Bool.{and_parts, eqb-true}
use Rattle.book.specs.declared.calls.Draw.{Draw}
use Rattle.desk.specs.Hands.{draw_of, is_draw, without}

pub it_is : (g n : ℕ) (d : Draw) → is_draw g n d ≡ true → d ≡ draw_of g n
it_is g n d is =
    let parts = and_parts (eqb d.grave g) (eqb d.number n) is in
    ap (λ x. draw_of x d.number) (eqb-true d.grave g parts.0) ∙ ap (draw_of g) (eqb-true d.number n parts.1)

-- what is left once it is taken out
pub left_out : (g n : ℕ) (z : Draw) (hand : List Draw) (i : ℕ) → i < length hand → is_draw g n (get_or hand i z) ≡ true
    → ((k : ℕ) → k < i → is_draw g n (get_or hand k z) ≡ false) → remove hand i ≡ without g n hand
left_out g n z [] i within is others = absurd (omega arith)
left_out g n z (d ∷ ds) zero within is others =
    ap (λ (b : Bool). cond b ds (d ∷ without g n ds)) (sym is)
left_out g n z (d ∷ ds) (suc i) within is others =
    ap (λ (ks : List Draw). d ∷ ks) (left_out g n z ds i (omega arith) is (λ k less. others (suc k) (omega arith)))
    ∙ ap (λ (b : Bool). cond b ds (d ∷ without g n ds)) (sym (others 0 (omega arith)))

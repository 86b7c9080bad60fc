-- The empty text and the byte 1 share a hash under the negative of one, over any field. Assumes nothing.
use Rattle.std.proofs.Common.{◌≡◌, [], ◌∷◌, sym, refl, ap, ◌∙◌}
use Rattle.field.specs.Model.{Model}
use Rattle.field.specs.Laws.{Element, FieldLaws}
use Rattle.bound.specs.Bound.{Shares}
use Rattle.bound.proofs.Elements.{𝟘, 𝟙}

pub some_collision : {m : Model} (F : FieldLaws m) → Shares m [] (1 ∷ []) (m.neg 1 ∷ [])
some_collision {m} F = ((refl, (below, tt)), F.plus_zero 0 zero_in ∙ sym hash_of_one)
  where
    zero_in : Element m 0
    zero_in = (𝟘 F).1

    one_in : Element m 1
    one_in = (𝟙 F).1

    below : Element m (m.neg 1)
    below = F.neg_below 1 one_in

    hash_of_one : m.plus (m.times (m.plus 0 1) (m.neg 1)) 1 ≡ 0
    hash_of_one =
        ap (λ x. m.plus (m.times x (m.neg 1)) 1) (F.plus_comm 0 1 zero_in one_in ∙ F.plus_zero 1 one_in)
        ∙ ap (λ x. m.plus x 1) (F.times_comm 1 (m.neg 1) one_in below ∙ F.times_one (m.neg 1) below)
        ∙ F.plus_comm (m.neg 1) 1 below one_in
        ∙ F.plus_neg 1 one_in

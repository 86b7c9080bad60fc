-- The held draws as a list, newest first. Assumes nothing.
use Rattle.std.specs.Prelude.{ℕ, List, [], ◌∷◌}
use Rattle.graves.specs.declared.held.Held.{Held}
use Rattle.graves.specs.declared.held.Held.TheVariants.{Zero, One, Two, Three, Four}

abbrev pub draws : Held → List ℕ
draws Zero = []
draws (One a) = a ∷ []
draws (Two a b) = b ∷ a ∷ []
draws (Three a b c) = c ∷ b ∷ a ∷ []
draws (Four a b c d) = d ∷ c ∷ b ∷ a ∷ []

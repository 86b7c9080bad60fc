-- Lists of held draws, newest first. Assumes nothing.
use Rattle.std.specs.Prelude.{ℕ, Bool, false, cond, ◌||◌, List, [], ◌∷◌, ◌==◌}

abbrev pub holds : ℕ → List ℕ → Bool
holds d [] = false
holds d (e ∷ es) = e == d || holds d es

-- the list with the first d in it left out
abbrev pub without : ℕ → List ℕ → List ℕ
without d [] = []
without d (e ∷ es) = cond (e == d) es (e ∷ without d es)

-- Pairs of digits, read one after the other. Assumes nothing.
use Rattle.std.proofs.Common.{◌≡◌, ℕ, ◌-◌, ◌≤◌, List, [], ◌∷◌, ◌++◌, length, get_or, take, drop, Some, None, Option, sym, refl, ap, ◌∙◌, append_assoc, arith}
use Rattle.std.proofs.lemmas.List.{take_all}
use Rattle.script.specs.Digits.{put_first, pair_value, pairs}

-- bytes, and those that come behind them
abbrev pub and_then : List ℕ → Option (List ℕ) → Option (List ℕ)
and_then bytes None = None
and_then bytes (Some more) = Some (bytes ++ more)

pub and_none : (o : Option (List ℕ)) → and_then [] o ≡ o
and_none None = refl
and_none (Some bs) = refl

pub and_one : (bytes : List ℕ) (b : ℕ) (o : Option (List ℕ))
    → and_then bytes (put_first (Some b) o) ≡ and_then (bytes ++ (b ∷ [])) o
and_one bytes b None = refl
and_one bytes b (Some bs) = ap Some (sym (append_assoc bytes (b ∷ []) bs))

-- one pair more
pub pair_more : (rest bytes bytes' : List ℕ) (b : ℕ) (all : Option (List ℕ)) → 2 ≤ length rest
    → Some b ≡ pair_value (get_or rest 0 0) (get_or rest 1 0) → all ≡ and_then bytes (pairs rest)
    → bytes' ≡ bytes ++ (b ∷ []) → all ≡ and_then bytes' (pairs (take (length rest - 2) (drop 2 rest)))
pair_more [] bytes bytes' b all two pair so_far more = absurd (omega arith)
pair_more (x ∷ []) bytes bytes' b all two pair so_far more = absurd (omega arith)
pair_more (x ∷ y ∷ zs) bytes bytes' b all two pair so_far more =
    so_far
    ∙ ap (λ o. and_then bytes (put_first o (pairs zs))) (sym pair)
    ∙ and_one bytes b (pairs zs)
    ∙ ap (λ bs. and_then bs (pairs zs)) (sym more)
    ∙ ap (λ ds. and_then bytes' (pairs ds)) (sym (take_all (length (x ∷ y ∷ zs) - 2) zs (omega arith)))

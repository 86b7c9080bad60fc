-- What std parses is the number that the word writes, and an error where it writes none. Assumes nothing.
use Rattle.std.proofs.Common.{◌≡◌, ℕ, ◌^◌, ◌<◌, false, List, [], ◌∷◌, length, Some, Ok, Err, Result, sym, refl, ap, ◌∙◌}
use borrow.Author.Tests.{clash}
use Rattle.std.specs.Bool.{Decides}
use Rattle.std.specs.Char.{digit_value}
use Rattle.std.specs.Result.{result_ok}
use Rattle.std.specs.Str.Parse.{AllDigits, IsNumeral, ParsesUnsigned, digits_value, without_leading_plus}
use Rattle.std.proofs.lemmas.Bool.Decides.{Decides-and, Decides-ltb, same_from_decides}
use Rattle.script.specs.Numbers.{all_digits, writes_number, number, when}

digits_decide : (radix : ℕ) (ds : List ℕ) → Decides (all_digits radix ds) (AllDigits radix ds)
digits_decide radix [] = (λ _. tt, λ _. refl)
digits_decide radix (c ∷ cs) = Decides-and _ _ (Decides-ltb (digit_value c) radix) (digits_decide radix cs)

writes_decides : (k radix : ℕ) (ds : List ℕ)
    → Decides (writes_number k radix ds) (IsNumeral radix ds × (digits_value radix ds < 2 ^ k))
writes_decides k radix ds =
    Decides-and _ _ (Decides-and _ _ (Decides-ltb 0 (length ds)) (digits_decide radix ds))
    (Decides-ltb (digits_value radix ds) (2 ^ k))

pub parsed : {E : Type 0} (k radix : ℕ) (w : List ℕ) (r : Result ℕ E) → ParsesUnsigned k radix w r
    → number k radix w ≡ result_ok r
unfolding number
parsed k radix w (Ok x) h =
    let ds = without_leading_plus w in
    ap (λ b. when b (digits_value radix ds)) ((writes_decides k radix ds).1 h.0) ∙ ap Some (sym h.1)
parsed k radix w (Err e) h =
    let ds = without_leading_plus w in
    ap (λ b. when b (digits_value radix ds))
    (same_from_decides (writes_number k radix ds) false (writes_decides k radix ds) (λ e. absurd (clash e), λ p. absurd (h p)))

-- A number printed in sixteen hexadecimal places is its sixteen digits. Assumes nothing.
use Rattle.std.proofs.Common.{◌≡◌, ℕ, zero, suc, ◌+◌, ◌-◌, ◌/◌, ◌%◌, ◌^◌, ◌<◌, Bool, true, false, cond, List, [], ◌∷◌, ◌++◌, length, replicate, sym, refl, ap, ◌∙◌, append_assoc, append-nil, ◌==◌, arith}
use Rattle.std.specs.Fmt.{char_count, digits, digits_onto, padded_integral, format_spec}
use Rattle.std.proofs.lemmas.Bool.{eq-eqb, eqb-true, false≢true}
use Rattle.std.proofs.lemmas.List.{replicate_more}
use Rattle.std.proofs.Math.Nat.{pow-suc}
use Rattle.listing.specs.Lines.{hex, hex_digit}

-- of zero
hex_zero : (w : ℕ) → hex w 0 ≡ replicate w 48
hex_zero zero = refl
hex_zero (suc w) = ap (λ (xs : List ℕ). xs ++ 48 ∷ []) (hex_zero w) ∙ replicate_more w 48 ∙ ap (λ (k : ℕ). replicate k 48) {x = w + 1} {y = suc w} (omega arith)

-- z zeros in front of the digits fill w places in front of what follows them
record Filled (w n : ℕ) (shown follows : List ℕ) : Type 0 where
  z : ℕ
  size : z + length shown ≡ w + length follows
  text : replicate z 48 ++ shown ≡ hex w n ++ follows

-- the lowest digit goes behind those of what is left of n
module _ (n : ℕ) (follows : List ℕ) where
  abbrev lowest : ℕ
  lowest = hex_digit (n % 16)

  behind : (w : ℕ) (shown : List ℕ) → Filled w (n / 16) shown (lowest ∷ follows) → Filled (suc w) n shown follows
  behind w shown rest = record {
    z = rest.z;
    size = omega (arith, rest.size);
    text = rest.text ∙ sym (append_assoc (hex w (n / 16)) (lowest ∷ []) follows);
  }

  alone : (w : ℕ) → n / 16 ≡ 0 → Filled (suc w) n (lowest ∷ follows) follows
  alone w none = record {
    z = w;
    size = omega arith;
    text =
        ap (λ (xs : List ℕ). xs ++ (lowest ∷ follows)) (sym (hex_zero w) ∙ ap (hex w) (sym none))
        ∙ sym (append_assoc (hex w (n / 16)) (lowest ∷ []) follows);
  }

  either : (w : ℕ) (shown : List ℕ) (none : Bool) → (n / 16 == 0) ≡ none
      → ((n / 16 ≡ 0 → ⊥) → Filled w (n / 16) shown (lowest ∷ follows))
      → Filled (suc w) n (cond none (lowest ∷ follows) shown) follows
  either w shown true is rest = alone w (eqb-true (n / 16) 0 is)
  either w shown false is rest =
      behind w shown (rest (λ none. absurd (false≢true (sym is ∙ eq-eqb (n / 16) 0 none))))

filled : (w k n : ℕ) (follows : List ℕ) → w < k → n < 16 ^ suc w
    → Filled (suc w) n (digits_onto k 16 false n follows) follows
filled w zero n follows room small = absurd (omega arith)
filled zero (suc k) n follows room small =
    either n follows 0 (digits_onto k 16 false (n / 16) (hex_digit (n % 16) ∷ follows)) (n / 16 == 0) refl
    (λ more. absurd (more (omega (arith, small))))
filled (suc w) (suc k) n follows room small =
    let power = pow-suc 16 (suc w) in
    let left = filled w k (n / 16) (hex_digit (n % 16) ∷ follows) (omega (arith, room)) (omega (arith, small, power)) in
    either n follows (suc w) _ (n / 16 == 0) refl (λ more. left)

in_places : (w n : ℕ) (shown : List ℕ) → Filled w n shown []
    → padded_integral (format_spec 32 0 4 w (2 ^ 64 - 1)) false [] shown ≡ hex w n
unfolding padded_integral char_count
in_places w n shown f =
    let zeros : w - length shown - 0 - 0 ≡ f.z = omega (arith, f.size) in
    ap (λ (k : ℕ). replicate k 48 ++ (shown ++ [])) zeros
    ∙ ap (λ (xs : List ℕ). replicate f.z 48 ++ xs) (append-nil shown)
    ∙ f.text
    ∙ append-nil (hex w n)

from_64 : (n : ℕ) → digits 16 false n ≡ digits_onto 64 16 false n []
unfolding digits
from_64 n = refl

pub sixteen_places : (n : ℕ) → n < 2 ^ 64
    → padded_integral (format_spec 32 0 4 16 (2 ^ 64 - 1)) false [] (digits 16 false n) ≡ hex 16 n
sixteen_places n small =
    ap (padded_integral (format_spec 32 0 4 16 (2 ^ 64 - 1)) false []) (from_64 n)
    ∙ in_places 16 n (digits_onto 64 16 false n []) (filled 15 64 n [] (omega arith) small)

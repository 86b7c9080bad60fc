-- The listing, record by record: the first line, and then the listing of what follows. Assumes nothing.
use Rattle.std.proofs.Common.{◌≡◌, ℕ, zero, suc, ◌+◌, ◌<◌, ◌≤◌, Bool, true, false, cond, ◌||◌, List, [], ◌∷◌, ◌++◌, length, Some, None, Option, sym, refl, ap, ◌∙◌, ap₂, append_assoc, append-nil, arith}
use Rattle.std.proofs.lemmas.List.{length-drop, nil_from_length}
use Rattle.std.proofs.lemmas.Bool.{ltb-false, true≢false}
use Rattle.record.specs.Records.{Parts, stated}
use Rattle.listing.specs.Requests.{request_outcome}
use Rattle.listing.specs.Lines.{outcome_of, cut_short, behind, next_of, line_of, continued, lines, listing_of, LineByLine}

-- a choice with something in it was made for it
chosen : (t : Bool) (rest kept : List ℕ) → Some rest ≡ cond t None (Some kept) → rest ≡ kept
chosen true rest kept is = let never : ◌≡◌ {A = ℕ} 0 1 = cc in absurd (omega arith)
chosen false rest kept is = cc

chosen_behind : (t : Bool) (p : Parts) (rest : List ℕ) → Some rest ≡ behind (cond t None (Some p))
    → (t ≡ false) × (rest ≡ p.rest)
chosen_behind true p rest is = let never : ◌≡◌ {A = ℕ} 0 1 = cc in absurd (omega arith)
chosen_behind false p rest is = (refl, chosen (cut_short (request_outcome p.kind p.body)) rest p.rest is)

or_false : (a b : Bool) → (a || b) ≡ false → a ≡ false
or_false true b e = absurd (true≢false e)
or_false false b e = refl

-- what follows a record is shorter than the input
pub shorter : (input rest : List ℕ) → Some rest ≡ next_of input → length rest < length input
shorter input rest is =
    let got = chosen_behind _ _ rest is in
    let four = ltb-false (length input) 4 (or_false _ _ (or_false _ _ got.0)) in
    let long = ap length got.1 ∙ length-drop (4 + stated input) input in
    omega arith

continued_same : (f g : List ℕ → List ℕ) (o : Option (List ℕ))
    → ((rest : List ℕ) → Some rest ≡ o → f rest ≡ g rest) → continued f o ≡ continued g o
continued_same f g None same = refl
continued_same f g (Some rest) same = same rest refl

-- more lines than bytes are as good as more still
lines_enough : (n m : ℕ) (input : List ℕ) → length input ≤ n → length input ≤ m → lines n input ≡ lines m input
lines_enough zero zero input a b = refl
lines_enough zero (suc m) [] a b = refl
lines_enough zero (suc m) (x ∷ xs) a b = absurd (omega arith)
lines_enough (suc n) zero [] a b = refl
lines_enough (suc n) zero (x ∷ xs) a b = absurd (omega arith)
lines_enough (suc n) (suc m) [] a b = refl
lines_enough (suc n) (suc m) (x ∷ xs) a b =
    ap (λ (ys : List ℕ). line_of (outcome_of (x ∷ xs)) ++ ys)
    (continued_same (lines n) (lines m) (next_of (x ∷ xs))
    (λ rest is. let less = shorter (x ∷ xs) rest is in lines_enough n m rest (omega arith) (omega arith)))

listing_step : (b : ℕ) (bs : List ℕ)
    → listing_of (b ∷ bs) ≡ line_of (outcome_of (b ∷ bs)) ++ continued listing_of (next_of (b ∷ bs))
listing_step b bs =
    ap (λ (ys : List ℕ). line_of (outcome_of (b ∷ bs)) ++ ys)
    (continued_same (lines (length bs)) listing_of (next_of (b ∷ bs))
    (λ rest is. let less = shorter (b ∷ bs) rest is in lines_enough (length bs) (length rest) rest (omega arith) (omega arith)))

pub line_by_line : LineByLine
line_by_line = (refl, listing_step)

-- a line more behind what is written: either the listing goes on, or this was its last line
pub gone_on : (input written written' line rest : List ℕ) (o : Option (List ℕ)) → 0 < length rest
    → written ++ listing_of rest ≡ listing_of input → written' ≡ written ++ line → line ≡ line_of (outcome_of rest)
    → o ≡ next_of rest → written' ++ continued listing_of o ≡ listing_of input
gone_on input written written' line [] o some sofar put is next = absurd (omega arith)
gone_on input written written' line (b ∷ bs) o some sofar put is next =
    ap₂ (λ (xs ys : List ℕ). xs ++ ys)
    (put ∙ ap (λ (xs : List ℕ). written ++ xs) is) (ap (continued listing_of) next)
    ∙ append_assoc written (line_of (outcome_of (b ∷ bs))) (continued listing_of (next_of (b ∷ bs)))
    ∙ ap (λ (xs : List ℕ). written ++ xs) (sym (listing_step b bs))
    ∙ sofar

pub ended : (input written rest : List ℕ) → length rest ≡ 0 → written ++ listing_of rest ≡ listing_of input
    → written ≡ listing_of input
ended input written rest none sofar =
    sym (append-nil written)
    ∙ ap (λ (xs : List ℕ). written ++ listing_of xs) (sym (nil_from_length rest none))
    ∙ sofar

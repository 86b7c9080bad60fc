-- A record's bytes are read as its kind and body, and what is read as a record is its bytes. Assumes nothing.
use Rattle.std.proofs.Common.{◌≡◌, ℕ, ◌+◌, ◌-◌, ◌^◌, ◌<◌, ◌≤◌, Bool, true, false, cond, ◌||◌, ltb, List, ◌++◌, length, take, drop, Some, None, sym, refl, ap, ◌∙◌, subst, ap₂, arith}
use Rattle.std.proofs.ByRecursion.{All-take, All-drop}
use Rattle.std.proofs.lemmas.List.{length-append, length-drop, length-take-le, take_at, drop_at, drop-drop, take-append-drop}
use Rattle.std.proofs.lemmas.Bool.{le-ltb, ltb-false, or_parts}
use Rattle.byte_rows.specs.Numbers.{number, bytes_of}
use Rattle.byte_rows.proofs.Back.{Bytes, number_bytes_of, front_back}
use Rattle.record.specs.Records.{Parts, stated, front_parts, record_of, record_bytes}

pub read_back : (kind : ℕ) (body rest : List ℕ) → kind < 256 ^ 2 → 2 + length body < 256 ^ 4
    → record_of (record_bytes kind body ++ rest) ≡ Some (record { kind = kind; body = body; rest = rest })
read_back kind body rest is_kind fits =
    let input : List ℕ = record_bytes kind body ++ rest in
    let long = length-append body rest in
    let states : stated input ≡ 2 + length body = number_bytes_of 4 (2 + length body) fits in
    let names : number (take 2 (drop 4 input)) ≡ kind = number_bytes_of 2 kind is_kind in
    let four : ltb (length input) 4 ≡ false = le-ltb (length input) 4 (omega arith) in
    let whole : ltb (length input) (4 + stated input) ≡ false =
    le-ltb (length input) (4 + stated input) (omega arith) in
    let kinded : ltb (stated input) 2 ≡ false = le-ltb (stated input) 2 (omega arith) in
    let inside : take (stated input - 2) (drop 6 input) ≡ body = take_at body rest (stated input - 2) (omega arith) in
    let behind : drop (4 + stated input) input ≡ rest =
    drop_at (record_bytes kind body) rest (4 + stated input) (omega arith) in
    simp (four, whole, kinded, names, inside, behind)

-- what a record that was read says of the input
record Found (input : List ℕ) (p : Parts) : Type 0 where
  pub four : 4 ≤ length input
  pub whole : 4 + stated input ≤ length input
  pub two : 2 ≤ stated input
  pub is : p ≡ front_parts input

some_unless : {A : Type 0} (b : Bool) (x y : A) → Some x ≡ cond b None (Some y) → (b ≡ false) × (x ≡ y)
some_unless true x y is = let never : ◌≡◌ {A = ℕ} 0 1 = cc in absurd (omega arith)
some_unless false x y is = (refl, cc)

found : (input : List ℕ) (p : Parts) → Some p ≡ record_of input → Found input p
found input p is =
    let few = ltb (length input) 4 in
    let cut = ltb (length input) (4 + stated input) in
    let bare = ltb (stated input) 2 in
    let all = some_unless (few || cut || bare) p (front_parts input) is in
    let front = or_parts (few || cut) bare all.0 in
    let fours = or_parts few cut front.0 in
    record {
      four = ltb-false (length input) 4 fours.0;
      whole = ltb-false (length input) (4 + stated input) fours.1;
      two = ltb-false (stated input) 2 front.1;
      is = all.1;
    }

-- the parts of a whole record, written out again
written : (input : List ℕ) (p : Parts) → Bytes input → Found input p
    → record_bytes (front_parts input).kind (front_parts input).body ++ (front_parts input).rest ≡ input
written input p bytes f =
    let n : ℕ = stated input - 2 in
    let tail = drop 4 input in
    let size : length (take n (drop 6 input)) ≡ n =
    length-take-le n (drop 6 input) (simp length-drop (omega (arith, f.whole))) in
    let states : 2 + length (take n (drop 6 input)) ≡ stated input = omega (arith, f.two) in
    let past : 6 + n ≡ 4 + stated input = omega (arith, f.two) in
    let behind : drop (4 + stated input) input ≡ drop n (drop 6 input) =
    ap (λ (k : ℕ). drop k input) (sym past) ∙ sym (drop-drop n 6 input) in
    let inner : take n (drop 6 input) ++ drop (4 + stated input) input ≡ drop 2 tail =
    ap (λ (xs : List ℕ). take n (drop 6 input) ++ xs) behind
    ∙ take-append-drop n (drop 6 input)
    ∙ sym (drop-drop 2 4 input) in
    let kinded : bytes_of 2 (number (take 2 tail)) ++ drop 2 tail ≡ tail =
    front_back 2 tail (simp length-drop (omega (arith, f.whole, f.two))) (All-drop (λ b. b < 256) 4 input bytes) in
    ap₂ (λ (k : ℕ) (xs : List ℕ). bytes_of 4 k ++ (bytes_of 2 (number (take 2 tail)) ++ xs)) states inner
    ∙ ap (λ (xs : List ℕ). bytes_of 4 (stated input) ++ xs) kinded
    ∙ front_back 4 input f.four bytes

pub exact : (input : List ℕ) (p : Parts) → Bytes input → Some p ≡ record_of input
    → input ≡ record_bytes p.kind p.body ++ p.rest
exact input p bytes is =
    let f = found input p is in
    sym (written input p bytes f)
    ∙ ap (λ (q : Parts). record_bytes q.kind q.body ++ q.rest) (sym f.is)

pub body_bytes : (input : List ℕ) (p : Parts) → Bytes input → Some p ≡ record_of input → Bytes p.body
body_bytes input p bytes is =
    let f = found input p is in
    subst (λ (q : Parts). Bytes q.body) (sym f.is)
    (All-take (λ b. b < 256) (stated input - 2) (drop 6 input) (All-drop (λ b. b < 256) 6 input bytes))

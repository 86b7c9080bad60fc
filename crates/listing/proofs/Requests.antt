-- The parts of a request, taken one after another, are those of its definition. Assumes nothing.
use Rattle.std.proofs.Common.{◌≡◌, ℕ, suc, ◌+◌, ◌*◌, ◌≤◌, Bool, false, not, ◌||◌, ltb, List, length, take, drop, is_some, Some, Option, sym, ap, ◌∙◌, ap₂, inl, inr, arith}
use Rattle.std.proofs.lemmas.List.{length-drop, drop-drop}
use Rattle.std.proofs.lemmas.Bool.{le-ltb, eq-eqb}
use Rattle.std.proofs.lemmas.Bool.Decides.{leb_tells}
use Rattle.refusal.specs.Outcomes.{Outcome}
use Rattle.refusal.proofs.Decided.{undecided}
use Rattle.field.specs.Model.{Model}
use Rattle.byte_rows.specs.Numbers.{number}
use Rattle.byte_rows.proofs.Places.{number_by_place}
use Rattle.byte_rows.proofs.Fronts.{Taken}
use Rattle.hash.specs.Hash.{hash_outcome}
use Rattle.fields.specs.Fields.{field_called, hash_over_field}
use Rattle.listing.specs.Names.{subkeys_read}
use Rattle.listing.specs.Requests.{
  hash_kind,
  most_subkeys,
  subkeys,
  field_byte,
  count,
  ring,
  text,
  request_causes,
  request_outcome,
}

-- field byte and count, and what follows them
pub record Opened (body : List ℕ) (f n : ℕ) (rest : List ℕ) : Type 0 where
  pub two : 2 ≤ length body
  pub field_is : f ≡ field_byte body
  pub count_is : n ≡ count body
  pub behind : rest ≡ drop 2 body

pub opened : {body : List ℕ} {f n : ℕ} {after_field rest : List ℕ} → Taken 1 body f after_field → Taken 1 after_field n rest
    → Opened body f n rest
opened {body} {f} {n} {after_field} {rest} t u =
    let short = ap length t.behind ∙ length-drop 1 body in
    let two : 2 ≤ length body = omega (arith, u.enough) in
    let first = number_by_place 1 0 body (omega arith) in
    let second = number_by_place 1 1 body (omega arith) in
    let here : n ≡ number (take 1 (drop 1 body)) = u.value ∙ ap (λ (bs : List ℕ). number (take 1 bs)) t.behind in
    record {
      two = two;
      field_is = omega (arith, t.value);
      count_is = omega arith;
      behind = u.behind ∙ ap (drop 1) t.behind ∙ drop-drop 1 1 body;
    }

-- the subkeys were there
read_through : (n : ℕ) (bytes rest : List ℕ) → Some rest ≡ subkeys_read n bytes
    → (8 * n ≤ length bytes) × (rest ≡ drop (8 * n) bytes)
read_through n bytes rest is =
    elim (leb_tells (suc (length bytes)) (8 * n)) [
      | inl few ↦ let never : ◌≡◌ {A = ℕ} 0 1 = cc in absurd (omega arith)
      | inr enough ↦ (omega arith, cc)
    ]

pub answered : {kind : ℕ} {body : List ℕ} {f n k : ℕ} {rest : List ℕ} {m : Model} {ks bytes : List ℕ} {o : Outcome ℕ}
    → kind ≡ hash_kind → Opened body f n rest → Some m ≡ field_called f → n ≤ most_subkeys → k ≡ n
    → Some bytes ≡ subkeys_read k rest → ks ≡ subkeys k rest → o ≡ hash_outcome m ks bytes
    → o ≡ request_outcome kind body
answered {kind} {body} {f} {n} {k} {rest} {m} {ks} {bytes} is_kind head is_field few all read keys is =
    let through = read_through k rest bytes read in
    let long = ap length head.behind ∙ length-drop 2 body in
    let counted : k ≡ count body = all ∙ head.count_is in
    let model : Some m ≡ field_called (field_byte body) = is_field ∙ ap field_called head.field_is in
    let ring_is : ks ≡ ring body = keys ∙ ap₂ subkeys counted head.behind in
    let text_is : bytes ≡ text body =
    through.1 ∙ ap (drop (8 * k)) head.behind ∙ drop-drop (8 * k) 2 body
    ∙ ap (λ (i : ℕ). drop (2 + 8 * i) body) counted in
    let some_few : ltb most_subkeys (count body) ≡ false = le-ltb most_subkeys (count body) (omega arith) in
    is
    ∙ ap₂ (hash_outcome m) ring_is text_is
    ∙ ap (λ (q : Option Model). hash_over_field q (ring body) (text body)) model
    ∙ undecided (request_causes kind body) (hash_over_field (field_called (field_byte body)) (ring body) (text body)) (
      ap not (eq-eqb kind hash_kind is_kind),
      (
        le-ltb (length body) 2 head.two,
        (
          ap₂ (λ (a b : Bool). not a || b) (ap is_some (sym model)) some_few,
          (le-ltb (length body) (2 + 8 * count body) (omega (arith, head.two, through.0)), tt),
        ),
      ),
    )

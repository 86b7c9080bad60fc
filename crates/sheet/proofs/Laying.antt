-- A record laid into a buffer, one piece behind the other. Assumes nothing.
use Rattle.std.proofs.Common.{◌≡◌, ℕ, ◌+◌, ◌^◌, ◌<◌, ◌≤◌, List, [], ◌++◌, length, take, drop, sym, refl, ap, ◌∙◌, ap₂, append_assoc, arith}
use lib.Seq.{drop-append-add}
use Rattle.std.proofs.lemmas.List.{length-append, take_at, drop-drop}
use Rattle.std.proofs.lemmas.Bool.{le-ltb}
use Rattle.refusal.specs.Outcomes.{gives}
use Rattle.refusal.proofs.Decided.{undecided}
use Rattle.byte_rows.specs.Limits.{longest_text}
use Rattle.sheet.specs.Sheets.{highest_grave, sheet_bytes, read_outcome}
use Rattle.sheet.specs.Names.{sealed}
use Rattle.sheet.specs.Writing.{write_causes, write_outcome, laid, buffer_after, put_at, ReadsBack}
use Rattle.sheet.proofs.Trips.{reads_back}

-- the front is in its place, and beyond it all is as it was
pub record Sofar (old front : List ℕ) (n : ℕ) (new : List ℕ) : Type 0 where
  pub long : length front ≡ n
  pub is : new ≡ front ++ drop n old

pub begun : (old : List ℕ) → Sofar old [] 0 old
begun old = record { long = refl; is = refl }

-- a piece more, whose bytes are the ones wanted
pub laid_on : {old front new : List ℕ} {i : ℕ} (j : ℕ) {bytes new' : List ℕ} (wanted : List ℕ) → Sofar old front i new
    → new' ≡ put_at new i bytes → bytes ≡ wanted → i + length wanted ≡ j → Sofar old (front ++ wanted) j new'
laid_on {old} {front} {new} {i} j {bytes} {new'} wanted sofar put same next =
    let past : drop (i + length wanted) (front ++ drop i old) ≡ drop (i + length wanted) old =
    ap (λ (k : ℕ). drop (k + length wanted) (front ++ drop i old)) (sym sofar.long)
    ∙ drop-append-add front (drop i old) (length wanted)
    ∙ drop-drop (length wanted) i old in
    record {
      long = length-append front wanted ∙ omega (arith, sofar.long);
      is =
          put
          ∙ ap₂ (λ (xs ys : List ℕ). put_at xs i ys) sofar.is same
          ∙ ap₂ (λ (xs ys : List ℕ). xs ++ (wanted ++ ys)) (take_at front (drop i old) i sofar.long) past
          ∙ sym (append_assoc front wanted (drop (i + length wanted) old))
          ∙ ap (λ (k : ℕ). (front ++ wanted) ++ drop k old) next;
    }

-- what a writer promises, once the whole record is in its place
pub record Promised (g d s : ℕ) (text old : List ℕ) (n : ℕ) (new : List ℕ) : Type 0 where
  pub answer : gives n ≡ write_outcome (sealed g d s text) (length old)
  pub buffer : new ≡ buffer_after (sealed g d s text) old
  pub back : ReadsBack (take n new) (sealed g d s text)

pub promised : {g d s : ℕ} {text old new : List ℕ} {n : ℕ} → g ≤ highest_grave → d < 2 ^ 64 → s < 2 ^ 64
    → length text ≤ longest_text → n ≤ length old → Sofar old (sheet_bytes (sealed g d s text)) n new
    → Promised g d s text old n new
promised {g} {d} {s} {text} {old} {new} {n} is_grave is_draw is_seal few room whole =
    let sheet = sealed g d s text in
    let answered : gives n ≡ write_outcome sheet (length old) =
    ap gives (sym whole.long)
    ∙ undecided (write_causes sheet (length old)) (gives (length (sheet_bytes sheet))) (
      le-ltb highest_grave g is_grave,
      (
        le-ltb longest_text (length text) few,
        (le-ltb (length old) (length (sheet_bytes sheet)) (omega (arith, whole.long)), tt),
      ),
    ) in
    let record_is : take n new ≡ sheet_bytes sheet =
    ap (take n) whole.is ∙ take_at (sheet_bytes sheet) (drop n old) n whole.long in
    record {
      answer = answered;
      buffer = whole.is ∙ ap (laid (sheet_bytes sheet) old) answered;
      back = λ behind.
          ap (λ (bs : List ℕ). read_outcome (bs ++ behind)) record_is
          ∙ reads_back g d s text is_grave is_draw is_seal few behind;
    }

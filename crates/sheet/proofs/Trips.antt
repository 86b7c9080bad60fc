-- What is written is read back, and what is read would be written so. Assumes nothing.
use Rattle.std.proofs.Common.{◌≡◌, ℕ, ◌^◌, ◌<◌, ◌≤◌, Bool, cond, not, List, ◌++◌, length, Some, None, Option, sym, refl, ap, ◌∙◌, subst, arith, lit<}
use Rattle.std.proofs.lemmas.Bool.{le-ltb, eq-eqb, eqb-true, ltb-false, not-false}
use Rattle.refusal.specs.Outcomes.{Outcome, gives, refuses, mapped, decided}
use Rattle.refusal.proofs.Decided.{undecided, given, mapped_decided}
use Rattle.byte_rows.specs.Limits.{longest_text}
use Rattle.byte_rows.proofs.Back.{Bytes, number_bytes_of}
use Rattle.record.specs.Records.{Parts, record_of, record_bytes}
use Rattle.record.proofs.Back.{read_back, exact, body_bytes}
use Rattle.sheet.specs.Sheets.{
  SealedSheet,
  sheet_kind,
  highest_grave,
  sheet_body,
  sheet_bytes,
  sheet_in,
  body_causes,
  read_causes,
  heard,
  read_outcome,
}
use Rattle.sheet.specs.Names.{sealed}
use Rattle.sheet.specs.Writing.{write_causes, ReadsBack, WritesBack}
use Rattle.sheet.proofs.Bodies.{body_read, body_written}

-- the outcome of the body decides, where the frame is whole and of the kind
pub body_decides : (input : List ℕ) (p : Parts) (o : Outcome SealedSheet) → Some p ≡ record_of input
    → p.kind ≡ sheet_kind → o ≡ decided (body_causes p.body) (gives (sheet_in p.body))
    → mapped (λ (s : SealedSheet). (s, p.rest)) o ≡ read_outcome input
body_decides input p o framed is_kind is =
    let whole : Outcome (SealedSheet × List ℕ) =
    decided (body_causes p.body) (gives (sheet_in p.body, p.rest)) in
    ap (mapped (λ (s : SealedSheet). (s, p.rest))) is
    ∙ mapped_decided (λ (s : SealedSheet). (s, p.rest)) (body_causes p.body) (gives (sheet_in p.body))
    ∙ ap (λ (t : Bool). cond (not t) (refuses 15) whole) (sym (eq-eqb p.kind sheet_kind is_kind))
    ∙ ap heard framed

pub writes_back : (input : List ℕ) (x : SealedSheet × List ℕ) → Bytes input → gives x ≡ read_outcome input
    → WritesBack input x
writes_back input x bytes is = by_frame (record_of input) refl is
  where
    by_frame : (q : Option Parts) → q ≡ record_of input → gives x ≡ heard q → WritesBack input x
    by_frame None framed is = let never : ◌≡◌ {A = ℕ} 0 1 = cc in absurd (omega arith)
    by_frame (Some p) framed is =
        let body = p.body in
        let s = sheet_in body in
        let all = given (read_causes p.kind body) x (s, p.rest) is in
        let is_kind = eqb-true p.kind sheet_kind (not-false _ all.0.0) in
        let enough = ltb-false (length body) 18 all.0.1.0 in
        let again = body_written body enough (body_bytes input p bytes framed) in
        subst (WritesBack input) (sym all.1) (record {
          accepted = λ room fits.
              sym (undecided (write_causes s room) (gives (length (sheet_bytes s)))
              (all.0.1.1.0, (all.0.1.1.1.0, (le-ltb room (length (sheet_bytes s)) fits, tt))));
          same =
              exact input p bytes framed
              ∙ ap (λ (k : ℕ). record_bytes k body ++ p.rest) is_kind
              ∙ ap (λ (bs : List ℕ). record_bytes sheet_kind bs ++ p.rest) (sym again);
        })

pub reads_back : (g d s : ℕ) (text : List ℕ) → g ≤ highest_grave → d < 2 ^ 64 → s < 2 ^ 64 → length text ≤ longest_text
    → ReadsBack (sheet_bytes (sealed g d s text)) (sealed g d s text)
reads_back g d s text is_grave is_draw is_seal few behind =
    let body = sheet_body (sealed g d s text) in
    let again = body_read g d s text (omega arith) is_draw is_seal in
    let grave = number_bytes_of 2 g (omega arith) in
    ap heard (read_back sheet_kind body behind (lit< tt) (omega arith))
    ∙ sym (undecided (read_causes sheet_kind body) (gives (sheet_in body, behind)) (
      refl,
      (
        le-ltb (length body) 18 (omega arith),
        (le-ltb highest_grave (sheet_in body).grave (omega arith), (le-ltb longest_text (length text) few, tt)),
      ),
    ))
    ∙ ap (λ (t : SealedSheet). gives (t, behind)) again

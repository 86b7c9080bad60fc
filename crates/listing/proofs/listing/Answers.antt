use Rattle.std.proofs.Common.{◌≡◌, ℕ, ◌<◌, false, eqb, List, ◌++◌, length, Some, None, string_bytes, sym, ap, ◌∙◌, append-nil, arith, rules}
use Rattle.std.proofs.lemmas.Bool.{eqb-true, eqb-false}
use Rattle.listing.specs.Lines.{listing_of, seen}
use Rattle.listing.proofs.Following.{shorter, line_by_line, gone_on, ended}
use Rattle.listing.proofs.listing.Goals as goal

pub loop-rest-init : goal.loop-rest-init
loop-rest-init c = ap (λ (xs : List ℕ). xs ++ listing_of c.args.input.now) c.new-text.ensures.bytes

-- a line is made only while something is left
some_left : (n : ℕ) → false ≡ eqb n 0 → 0 < n
some_left n is = let some = eqb-false n 0 (sym is) in omega arith

pub loop-rest-smaller : goal.loop-rest-smaller
loop-rest-smaller c =
    let next = ap seen (sym c.in-Some.is) ∙ c.in_ok-line.ensures.1 in
    shorter c.loop-rest.rest.now c.in-Some.next.now next

pub loop-rest-preserved : goal.loop-rest-preserved
loop-rest-preserved c =
    gone_on c.args.input.now (string_bytes c.loop-rest.text) _ _ c.loop-rest.rest.now
    (Some c.in-Some.next.now)
    (some_left (length c.loop-rest.rest.now) c.loop-rest-test.ensures) c.loop-rest.invariant
    c.in_ok-push_str.ensures.bytes (c.as_str.ensures.value ∙ c.in_ok-line.ensures.0)
    (ap seen (sym c.in-Some.is) ∙ c.in_ok-line.ensures.1)

pub returns-in_err-line : goal.returns-in_err-line
returns-in_err-line c = record { bytes = search rules; lines = line_by_line }

pub returns-in_err-push_str : goal.returns-in_err-push_str
returns-in_err-push_str c = record { bytes = search rules; lines = line_by_line }

pub returns-in_default : goal.returns-in_default
returns-in_default c =
    record {
      bytes =
          sym (append-nil _)
          ∙ gone_on c.args.input.now (string_bytes c.loop-rest.text) _ _ c.loop-rest.rest.now None
          (some_left (length c.loop-rest.rest.now) c.loop-rest-test.ensures) c.loop-rest.invariant
          c.in_ok-push_str.ensures.bytes (c.as_str.ensures.value ∙ c.in_ok-line.ensures.0)
          (ap seen (sym c.in_default.is) ∙ c.in_ok-line.ensures.1);
      lines = line_by_line;
    }

pub returns : goal.returns
returns c =
    let none = eqb-true (length c.loop-rest.rest.now) 0 (sym c.loop-rest-test.ensures) in
    record {
      bytes = ended c.args.input.now (string_bytes c.loop-rest.text) c.loop-rest.rest.now none c.loop-rest.invariant;
      lines = line_by_line;
    }

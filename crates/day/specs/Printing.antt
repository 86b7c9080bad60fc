-- How an answer prints. Assumes nothing.
use Rattle.std.specs.Prelude.{ℕ, ◌-◌, false, List, ◌++◌, length, replicate, Some, None, Option, codes, decimal}
use Rattle.std.specs.Fmt.{digits}
use Rattle.refusal.specs.Numbers as refusal
use Rattle.book.specs.declared.calls.Account.{Account}
use Rattle.graves.specs.declared.turns.Standing.TheVariants.{Current, Superseded}
use Rattle.script.specs.Reasons.{words_of}
use Rattle.day.specs.declared.answer.Answer.{Answer}
use Rattle.day.specs.declared.answer.Answer.TheVariants as is
use Rattle.day.specs.Words.{none_word, state_words}

-- 16 hexadecimal digits
abbrev pub seal_digits : ℕ → List ℕ
seal_digits s = replicate (16 - length (digits 16 false s)) 48 ++ digits 16 false s

abbrev pub number_or_none : Option ℕ → List ℕ
number_or_none None = none_word
number_or_none (Some n) = decimal n

abbrev pub account_words : Account → List ℕ
account_words a =
    state_words a.state
    ++ (codes ", sealed " ++ (decimal a.sealed
    ++ (codes ", voided " ++ (decimal a.voided
    ++ (codes ", held " ++ (decimal a.held
    ++ (codes ", current " ++ number_or_none a.current)))))))

abbrev pub printed : Answer → List ℕ
printed is.Done = codes "ok"
printed (is.Drawn n) = codes "draw " ++ decimal n
printed (is.Sealed s) = codes "seal " ++ seal_digits s
printed (is.Standing Current) = codes "current"
printed (is.Standing Superseded) = codes "superseded"
printed (is.Refused r) = refusal.printed r
printed (is.Account a) = account_words a
printed (is.Owing g) = codes "owing " ++ number_or_none g
printed is.NotInHand = codes "not in hand"
printed is.NoBook = codes "not a call: no book is begun yet"
printed (is.NotACall w) = codes "not a call: " ++ words_of w

-- The parts of a line: each stands at the front, and the others behind it. Assumes nothing.
use Rattle.std.specs.Prelude.{◌≡◌, ℕ, cond, List, [], ◌∷◌, Some, None, Ok, Err, codes, Option, Result, ◌==◌, nat_le}
use Rattle.std.specs.Str.{bytes_eq}
use Rattle.cipher.specs.declared.Key.{Key}
use Rattle.ciphers.specs.declared.CipherName.{CipherName}
use Rattle.ciphers.specs.Ciphers.{cipher_spelled}
use Rattle.fields.specs.declared.FieldName.{FieldName}
use Rattle.fields.specs.Names.{field_spelled}
use Rattle.script.specs.declared.names.Name.{Name}
use Rattle.script.specs.declared.reason.Reason.{Reason}
use Rattle.script.specs.declared.reason.Reason.TheVariants as is
use Rattle.script.specs.Digits.{pairs}
use Rattle.script.specs.Names.{name_of}
use Rattle.script.specs.Numbers.{number, the_seal_of, key_named}
use Rattle.script.specs.Words.{skipped, has, before, behind, is_empty, word, after_word}

-- a part's value and what is behind it, or why it cannot be read
abbrev pub Part : Type 0 → Type 0
Part A = Result (A × List ℕ) Reason

-- a word
unfoldable pub word_part : List ℕ → Part (List ℕ)
word_part s = cond (is_empty (word s)) (Err is.WordMissing) (Ok (word s, after_word s))

-- a word that stands for a value
abbrev pub given : {A : Type 0} → Option A → Reason → List ℕ → Part A
given None why rest = Err why
given (Some x) why rest = Ok (x, rest)

abbrev pub by_word : {A : Type 0} → (List ℕ → Option A) → Reason → Part (List ℕ) → Part A
by_word f why (Ok p) = given (f p.0) why p.1
by_word f why (Err w) = Err w

-- a part is read by a reader of words: where f is what the reader tells of each word, the part is the word's under f
abbrev pub ReadBy : {A : Type 0} → (List ℕ → Option A → Type 0) → Reason → Part (List ℕ) → Part A → Type 0
ReadBy {A} Tells why at_front part =
    (f : List ℕ → Option A) → ((w : List ℕ) (v : Option A) → Tells w v → v ≡ f w) → part ≡ by_word f why at_front

unfoldable pub name_part : List ℕ → Part Name
name_part s = by_word name_of is.UnknownWord (word_part s)

unfoldable pub field_part : List ℕ → Part FieldName
field_part s = by_word field_spelled is.NotAField (word_part s)

unfoldable pub cipher_part : List ℕ → Part CipherName
cipher_part s = by_word cipher_spelled is.NotACipher (word_part s)

-- at most 64
abbrev pub few : Part ℕ → Part ℕ
few (Ok p) = cond (nat_le p.0 64) (Ok p) (Err is.NotARing)
few (Err w) = Err w

unfoldable pub places_part : List ℕ → Part ℕ
places_part s = few (by_word (number 64 10) is.NotARing (word_part s))

unfoldable pub grave_part : List ℕ → Part ℕ
grave_part s = by_word (number 16 10) is.NotAGrave (word_part s)

unfoldable pub draw_part : List ℕ → Part ℕ
draw_part s = by_word (number 64 10) is.NotADraw (word_part s)

unfoldable pub key_part : List ℕ → Part Key
key_part s = by_word key_named is.NotAKey (word_part s)

unfoldable pub seal_part : List ℕ → Part ℕ
seal_part s = by_word the_seal_of is.NotASeal (word_part s)

-- a text: what stands up to the next double quote, where one stands in front; else a word, `-` or pairs of digits
unfoldable pub quoted : List ℕ → Part (List ℕ)
quoted s = cond (has 34 s) (Ok (before 34 s, behind 34 s)) (Err is.NotAText)

-- the bytes, or that it is no text
abbrev pub bytes_or : Option (List ℕ) → Result (List ℕ) Reason
bytes_or None = Err is.NotAText
bytes_or (Some bytes) = Ok bytes

unfoldable pub text_of : List ℕ → Option (List ℕ)
text_of w = cond (bytes_eq w (codes "-")) (Some []) (pairs w)

abbrev pub text_at : List ℕ → List ℕ → Part (List ℕ)
text_at s [] = by_word text_of is.NotAText (word_part s)
text_at s (c ∷ cs) = cond (c == 34) (quoted cs) (by_word text_of is.NotAText (word_part s))

unfoldable pub text_part : List ℕ → Part (List ℕ)
text_part s = text_at s (skipped s)

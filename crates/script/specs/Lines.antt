-- What a line says: its first word names the call, and the parts behind it are the call's, in order. Assumes nothing.
use Rattle.std.specs.Prelude.{ℕ, Bool, cond, ◌||◌, List, Ok, Err, vec_items, Result, ◌==◌, slice_index}
use Rattle.cipher.specs.declared.Key.{Key}
use Rattle.ciphers.specs.declared.CipherName.{CipherName}
use Rattle.fields.specs.declared.FieldName.{FieldName}
use Rattle.script.specs.declared.names.Name.{Name}
use Rattle.script.specs.declared.names.Name.TheVariants as to
use Rattle.script.specs.declared.line.Call.{Call}
use Rattle.script.specs.declared.line.Call.TheVariants as call
use Rattle.script.specs.declared.line.Line.{Line}
use Rattle.script.specs.declared.line.Line.TheVariants as line
use Rattle.script.specs.declared.reason.Reason.{Reason}
use Rattle.script.specs.declared.reason.Reason.TheVariants as is
use Rattle.script.specs.Parts.{Part, name_part, field_part, cipher_part, places_part, grave_part, draw_part, key_part}
use Rattle.script.specs.Parts.{seal_part, text_part}
use Rattle.std.specs.Str.{trim}
use Rattle.script.specs.Words.{skipped, is_empty}

-- what a call asks for
pub data Ask : Type 0 where
  open_it : (grave : ℕ) → Key → Ask
  draw_it : (grave : ℕ) → Ask
  seal_it : (grave draw : ℕ) (text : List ℕ) → Ask
  void_it : (grave draw : ℕ) → Ask
  check_it : (grave draw : ℕ) (text : List ℕ) (seal : ℕ) → Ask
  clear_it : (grave : ℕ) → Ask
  close_it : (grave : ℕ) → Ask
  tell_it : (grave : ℕ) → Ask
  owing : Ask

pub data Said : Type 0 where
  nothing : Said
  a_book : FieldName → CipherName → Said
  a_ring : (places : ℕ) → Said
  a_call : Ask → Said

-- what the code read
abbrev pub asked : Call → Ask
asked (call.Open g k) = open_it g k
asked (call.Draw g) = draw_it g
asked (call.Seal g d x) = seal_it g d (vec_items x)
asked (call.Void g d) = void_it g d
asked (call.Check g d x s) = check_it g d (vec_items x) s
asked (call.Clear g) = clear_it g
asked (call.Close g) = close_it g
asked (call.Tell g) = tell_it g
asked call.Owing = owing

abbrev pub said : Line → Said
said line.Blank = nothing
said (line.Book f c) = a_book f c
said (line.Ring p) = a_ring p.count
said (line.Call c) = a_call (asked c)

-- a part, and then what comes behind it
abbrev pub then : {A B : Type 0} → Part A → (A → List ℕ → Part B) → Part B
then (Ok p) f = f p.0 p.1
then (Err w) f = Err w

-- the parts that each line has behind its name
abbrev pub form : Name → List ℕ → Part Said
form to.Book s = then (field_part s) (λ f r. then (cipher_part r) (λ c e. Ok (a_book f c, e)))
form to.Ring s = then (places_part s) (λ n e. Ok (a_ring n, e))
form to.Open s = then (grave_part s) (λ g r. then (key_part r) (λ k e. Ok (a_call (open_it g k), e)))
form to.Draw s = then (grave_part s) (λ g e. Ok (a_call (draw_it g), e))
form to.Seal s =
    then (grave_part s)
    (λ g r. then (draw_part r) (λ d q. then (text_part q) (λ x e. Ok (a_call (seal_it g d x), e))))
form to.Void s = then (grave_part s) (λ g r. then (draw_part r) (λ d e. Ok (a_call (void_it g d), e)))
form to.Check s =
    then (grave_part s)
    (λ g r. then (draw_part r)
    (λ d q. then (text_part q) (λ x p. then (seal_part p) (λ t e. Ok (a_call (check_it g d x t), e)))))
form to.Clear s = then (grave_part s) (λ g e. Ok (a_call (clear_it g), e))
form to.Close s = then (grave_part s) (λ g e. Ok (a_call (close_it g), e))
form to.Tell s = then (grave_part s) (λ g e. Ok (a_call (tell_it g), e))
form to.Owing s = Ok (a_call owing, s)

-- nothing but white space may be left
abbrev pub whole : Part Said → Result Said Reason
whole (Ok p) = cond (is_empty (skipped p.1)) (Ok p.0) (Err is.WordsTooMany)
whole (Err w) = Err w

-- an empty line and a comment say nothing
abbrev pub blank_line : List ℕ → Bool
blank_line s = is_empty s || slice_index s 0 == 35

-- what a line says that no white space surrounds
abbrev pub says_bare : List ℕ → Result Said Reason
says_bare s = cond (blank_line s) (Ok nothing) (whole (then (name_part s) form))

unfoldable pub says : List ℕ → Result Said Reason
says s = says_bare (trim s)

-- A text is quoted where a double quote stands in front, and else a word. Assumes nothing.
use Rattle.std.proofs.Common.{◌≡◌, ℕ, cond, List, [], ◌∷◌, Some, None, Ok, Err, Option, Result, sym, refl, ap, ◌∙◌, ne_eqb}
use Rattle.script.specs.declared.fault.Fault.{Fault}
use Rattle.script.specs.declared.fault.Fault.TheVariants.{Memory, NotACall}
use Rattle.script.specs.declared.reason.Reason.TheVariants.{NotAText}
use Rattle.script.specs.Heard.{Heard}
use Rattle.script.specs.Parts.{word_part, by_word, given, bytes_or, text_of, text_at, text_part, quoted}
use Rattle.script.specs.Words.{skipped}

pub quoted_text : (s t rest : List ℕ) → t ≡ skipped s → t ≡ 34 ∷ rest → quoted rest ≡ text_part s
unfolding text_part
quoted_text s t rest skips front = ap (text_at s) (sym front ∙ skips)

no_quote : (s t : List ℕ) → ((rest : List ℕ) → t ≡ 34 ∷ rest → ⊥) → by_word text_of NotAText (word_part s) ≡ text_at s t
no_quote s [] other = refl
no_quote s (c ∷ cs) other =
    sym (
    ap (λ b. cond b (quoted cs) (by_word text_of NotAText (word_part s)))
    (ne_eqb c 34 (λ same. other cs (ap (λ x. x ∷ cs) same)))
    )

pub plain_text : (s t : List ℕ) → t ≡ skipped s → ((rest : List ℕ) → t ≡ 34 ∷ rest → ⊥) → by_word text_of NotAText (word_part s) ≡ text_part s
unfolding text_part
plain_text s t skips other = no_quote s t other ∙ ap (text_at s) skips

-- what stands behind a word goes along with what the word stands for
pub heard_with : {A : Type 0} (f : A → List ℕ) (r : Result A Fault) (o : Option (List ℕ)) (rest : List ℕ)
    → Heard f r (bytes_or o) → Heard (λ x. (f x, rest)) r (given o NotAText rest)
heard_with f (Ok x) None rest h = cc
heard_with f (Ok x) (Some bs) rest h = cc
heard_with f (Err Memory) o rest h = tt
heard_with f (Err (NotACall w)) None rest h = cc
heard_with f (Err (NotACall w)) (Some bs) rest h = cc

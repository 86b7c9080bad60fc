-- The cipher's answer to a seal's own block is the seal. Assumes nothing.
use Rattle.std.proofs.Common.{◌≡◌, ℕ, ◌+◌, ◌^◌, List, ap, ◌∙◌}
use Rattle.refusal.specs.Outcomes.{gives, decided}
use Rattle.refusal.proofs.Decided.{absent, same_value, undecided}
use Rattle.field.specs.Model.{Model}
use Rattle.hash.specs.Hash.{text_causes}
use Rattle.cipher.specs.declared.Block.{Block}
use Rattle.cipher.specs.declared.Key.{Key}
use Rattle.seal.specs.Sealing.{seal_outcome}
use Rattle.seal.specs.Seals.{hash_under, the_seal_of, sealing}

pub sealed : (m : Model) (f f' : Key → Block → Block) (key : Key) (draw : ℕ) (text : List ℕ) (places hash : ℕ) (answer : Block)
    → gives hash ≡ decided (text_causes text places) (gives (hash_under m f key text)) → f' ≡ f
    → answer ≡ f' key (record { first = 2 ^ 63 + hash; second = draw })
    → gives answer.first ≡ seal_outcome (sealing m f) key draw text places
sealed m f f' key draw text places hash answer heard kept is =
    let causes = text_causes text places in
    let value : hash ≡ hash_under m f key text = same_value causes (hash_under m f key text) heard in
    ap (λ (b : Block). gives b.first)
    (is
    ∙ ap (λ (g : Key → Block → Block). g key (record { first = 2 ^ 63 + hash; second = draw })) kept
    ∙ ap (λ (h : ℕ). f key (record { first = 2 ^ 63 + h; second = draw })) value)
    ∙ undecided causes (gives (the_seal_of m f key draw text)) (absent causes (hash_under m f key text) heard)

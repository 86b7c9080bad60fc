-- A ring list that holds a key's subkeys gives the hash under that key. Assumes nothing.
use Rattle.std.proofs.Common.{◌≡◌, ℕ, ◌≤◌, List, map, length, sym, ap, ◌∙◌, zero-add, arith}
use Rattle.std.proofs.lemmas.List.{get_or-map}
use Rattle.std.proofs.lemmas.List.FromFn.{get_or-map-range_with_len}
use Rattle.field.specs.Model.{Model}
use Rattle.field.specs.Laws.{FieldLaws}
use Rattle.hash.specs.Texts.{chunk_count}
use Rattle.hash.specs.Hash.{hash_of}
use Rattle.hash.proofs.Same.{same_hash}
use Rattle.cipher.specs.declared.Block.{Block}
use Rattle.cipher.specs.declared.Key.{Key}
use Rattle.seal.specs.Seals.{subkey, subkey_block, ring, Subkeys, hash_under}

pub hash_from_ring : {m : Model} → FieldLaws m → (f : Key → Block → Block) (key : Key) (places text : List ℕ)
    → chunk_count text ≤ length places → Subkeys m f key (chunk_count text) places
    → hash_of m (map m.means places) text ≡ hash_under m f key text
hash_from_ring {m} laws f key places text enough filled =
    same_hash m (map m.means places) (ring m f key (chunk_count text)) text
    (λ c h.
    get_or-map m.means places c 0 0 (omega arith)
    ∙ ap m.means (filled c h)
    ∙ laws.means_own (subkey m f key c) (laws.means_below (f key (subkey_block c)).first)
    ∙ sym (get_or-map-range_with_len (subkey m f key) 0 (chunk_count text) c c 0 h (zero-add c)))

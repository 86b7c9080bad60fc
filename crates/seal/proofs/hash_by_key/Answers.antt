use Rattle.std.proofs.Common.{◌≡◌, ℕ, length, ◌∙◌, ap₂, arith}
use Rattle.std.proofs.lemmas.Bool.{ltb-false}
use Rattle.refusal.specs.Outcomes.{gives, decided}
use Rattle.refusal.proofs.Decided.{absent}
use Rattle.hash.specs.Texts.{chunk_count}
use Rattle.hash.specs.Hash.{text_causes}
use Rattle.seal.specs.Seals.{Subkeys}
use Rattle.seal.proofs.Subkeys.{hash_from_ring}
use Rattle.seal.proofs.hash_by_key.Goals as goal

pub returns-clause-hash : goal.returns-clause-hash
returns-clause-hash g c =
    let m = g.F.Field.model in
    let f = g.C.Cipher.function c.args.cipher.now in
    let ring = c.write_subkeys.new.ring in
    let text = c.args.text.now in
    let long : length ring ≡ length c.args.ring.now = omega arith in
    let none = absent (text_causes text (length c.args.ring.now)) tt c.in_ok-admit.ensures in
    let enough = ltb-false (length c.args.ring.now) (chunk_count text) none.1.0 in
    let filled : Subkeys m f c.args.key (chunk_count text) ring = λ k h. c.write_subkeys.ensures.ring k (omega arith) in
    c.hash_by_working.ensures.answer
    ∙ ap₂ (λ (n h : ℕ). decided (text_causes text n) (gives h)) long
    (hash_from_ring g.met.F.Field.holds f c.args.key ring text (omega arith) filled)

-- The subkeys of a record, read one after another. Assumes nothing.
use Rattle.std.proofs.Common.{◌≡◌, ℕ, zero, suc, ◌+◌, ◌*◌, ◌<◌, ◌≤◌, List, [], ◌∷◌, ◌++◌, length, take, drop, set, sym, refl, ap, ◌∙◌, add-one, arith}
use Rattle.std.proofs.lemmas.List.{length-drop, drop-drop, take_more_set}
use Rattle.byte_rows.specs.Numbers.{number}
use Rattle.byte_rows.proofs.Fronts.{Taken}
use Rattle.listing.specs.Requests.{subkeys}

-- one subkey more behind n
subkeys_push : (n : ℕ) (bytes : List ℕ)
    → subkeys (suc n) bytes ≡ subkeys n bytes ++ number (take 8 (drop (8 * n) bytes)) ∷ []
subkeys_push zero bytes = refl
subkeys_push (suc n) bytes =
    ap (λ (ks : List ℕ). number (take 8 bytes) ∷ ks) (subkeys_push n (drop 8 bytes))
    ∙ ap (λ (bs : List ℕ). number (take 8 bytes) ∷ (subkeys n (drop 8 bytes) ++ number (take 8 bs) ∷ []))
    (drop-drop (8 * n) 8 bytes ∙ ap (λ (k : ℕ). drop k bytes) e)
  where
    e : 8 + 8 * n ≡ 8 * suc n
    e = omega arith

-- i subkeys stand in their places, and the rest of the bytes is still to be read
pub record Sofar (bytes : List ℕ) (i : ℕ) (ring rest : List ℕ) : Type 0 where
  pub enough : 8 * i ≤ length bytes
  pub to_come : rest ≡ drop (8 * i) bytes
  pub placed : take i ring ≡ subkeys i bytes

pub turned : {bytes : List ℕ} {i : ℕ} {ring rest : List ℕ} (x : ℕ) (rest' : List ℕ) → Sofar bytes i ring rest
    → i < length ring → Taken 8 rest x rest' → Sofar bytes (i + 1) (set ring i x) rest'
turned {bytes} {i} {ring} x rest' s within t =
    let left = ap length s.to_come ∙ length-drop (8 * i) bytes in
    let next : 8 * i + 8 ≡ 8 * (i + 1) = omega arith in
    let here : x ≡ number (take 8 (drop (8 * i) bytes)) = t.value ∙ ap (λ (bs : List ℕ). number (take 8 bs)) s.to_come in
    record {
      enough = omega (arith, t.enough);
      to_come = t.behind ∙ ap (drop 8) s.to_come ∙ drop-drop 8 (8 * i) bytes ∙ ap (λ (k : ℕ). drop k bytes) next;
      placed =
          take_more_set ring i x within
          ∙ ap (λ (ks : List ℕ). ks ++ x ∷ []) s.placed
          ∙ ap (λ (k : ℕ). subkeys i bytes ++ k ∷ []) here
          ∙ sym (subkeys_push i bytes)
          ∙ ap (λ (n : ℕ). subkeys n bytes) (sym (add-one i));
    }

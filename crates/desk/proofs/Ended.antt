-- A run goes on by the voids of the draws in hand. Assumes nothing.
use Rattle.std.proofs.Common.{◌≡◌, List, [], ◌∷◌, ◌++◌, reverse, sym, ap, ◌∙◌, subst}
use Rattle.std.proofs.lemmas.List.{reverse-append}
use Rattle.seal.specs.Sealing.{Sealing}
use Rattle.promise.specs.History.{History, event}
use Rattle.promise.specs.Records.{Table}
use Rattle.promise.specs.Register.{answer, table, Reached, next_call}
use Rattle.book.specs.declared.calls.Draw.{Draw}
use Rattle.desk.specs.Endings.{voiding, all_voided, and_voids}

pub goes_on : (S : Sealing) (ds : List Draw) (t : Table) (h : History) → Reached S h t
    → Reached S (and_voids S ds t h) (all_voided S ds t)
goes_on S [] t h run = run
goes_on S (d ∷ ds) t h run =
    goes_on S ds (table S t (voiding d)) (event (voiding d) (answer S t (voiding d)) ∷ h) (next_call run (voiding d))

-- the newest draw is the first to be voided
pub newest_first : (S : Sealing) (hand rest : List Draw) (d : Draw) (t t' : Table) → hand ≡ rest ++ (d ∷ [])
    → t' ≡ table S t (voiding d) → all_voided S (reverse rest) t' ≡ all_voided S (reverse hand) t
newest_first S hand rest d t t' split left =
    ap (all_voided S (reverse rest)) left
    ∙ sym (ap (λ ds. all_voided S ds t) (ap reverse split ∙ reverse-append rest (d ∷ [])))

-- no draw is left to be voided
pub none_left : (S : Sealing) (hand : List Draw) (t all : Table) → hand ≡ [] → all_voided S (reverse hand) t ≡ all
    → t ≡ all
none_left S hand t all empty led = sym (ap (λ ds. all_voided S (reverse ds) t) empty) ∙ led

pub run_of_all : (S S' : Sealing) (ds : List Draw) (t t' : Table) → S' ≡ S → t' ≡ all_voided S ds t → (h : History)
    → Reached S h t → Reached S' (and_voids S ds t h) t'
run_of_all S S' ds t t' same left h run =
    let AtTable : Table → Type 0 = λ u. Reached S (and_voids S ds t h) u in
    let AtSealing : Sealing → Type 0 = λ X. Reached X (and_voids S ds t h) t' in
    subst AtSealing (sym same) (subst AtTable (sym left) (goes_on S ds t h run))

-- A call that some first causes refuse, or that they let through to the others. Assumes nothing.
use Rattle.std.proofs.Common.{◌≡◌, ℕ, cond, List, [], ◌∷◌, ◌++◌, refl, ap, ◌∙◌}
use Rattle.refusal.specs.Outcomes.{Outcome, gives, refuses, Cause, decided}
use Rattle.refusal.proofs.Decided.{absent, undecided, same_value, alike}
use Rattle.promise.specs.Records.{Record}
use Rattle.graves.specs.Turns.{Turned, left}

in_turn : {A : Type 0} (first cs : List Cause) (o : Outcome A) → decided first (decided cs o) ≡ decided (first ++ cs) o
in_turn [] cs o = refl
in_turn {A} (c ∷ first) cs o =
    ap (λ (p : Outcome A). cond {A = Outcome A} c.there (refuses c.number) p) (in_turn first cs o)

module _ {A B : Type 0} (first cs : List Cause) (v : A) (next r : Record) where
  pub refused : (x : B) (n : ℕ) → refuses n ≡ decided first (gives x) → Turned (first ++ cs) v next r (refuses n) r
  refused x n is = record {
    answers = alike first n x (decided cs (gives v)) is ∙ in_turn first cs (gives v);
    leaves = ap (left r) (alike first n x (decided cs (gives next)) is ∙ in_turn first cs (gives next));
  }

  pub let_through : (x y : B) (o : Outcome A) (r' : Record) → gives x ≡ decided first (gives y)
      → Turned cs v next r o r' → Turned (first ++ cs) v next r o r'
  let_through x y o r' is later =
      let none = absent first y is in record {
        answers = later.answers ∙ undecided first (decided cs (gives v)) none ∙ in_turn first cs (gives v);
        leaves = later.leaves ∙ ap (left r) (undecided first (decided cs (gives next)) none ∙ in_turn first cs (gives next));
      }

-- a call that no cause refuses: what it makes of the record goes on from what the first causes left
pub done : {A : Type 0} (first cs : List Cause) (v w : A) (f : Record → Record) (r q q' : Record)
    → gives q ≡ decided first (gives q') → gives w ≡ decided cs (gives v)
    → Turned (first ++ cs) v (f q') r (gives w) (f q)
done first cs v w f r q q' is later =
    let_through first cs v (f q') r q q' (gives w) (f q) is
    (record {
      answers = later;
      leaves = ap f (same_value first q' is) ∙ ap (left r) (undecided cs (gives (f q')) (absent cs v later));
    })

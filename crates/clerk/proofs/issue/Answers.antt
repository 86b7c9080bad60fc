use Rattle.std.proofs.Common.{[], ◌∷◌, ◌∙◌, inr}
use Rattle.refusal.specs.Numbers.{number_of}
use Rattle.refusal.specs.Outcomes.{told}
use Rattle.promise.specs.History.{on, drawn, turned_away}
use Rattle.clerk.proofs.GivenUp.{void_of}
use Rattle.clerk.proofs.issue.Goals as goal

pub returns-in-Err-clause-issued : goal.returns-in-Err-clause-issued
returns-in-Err-clause-issued g c =
    let drawn_so = c.in_ok-draw.ensures in
    let refused_so = c.in-Err.ensures in
    let before = turned_away (number_of c.in-Err.field-0.refusal) ∷ on c.args.grave (drawn c.in_ok-draw.draw.number) ∷ [] in
    inr (
      c.in_ok-draw.draw.number,
      (
        told c.void.result,
        void_of _ _ before _ _ _ _ refused_so.back drawn_so.token
            (record {
              run = λ h reached. c.void.ensures.goes_on _ (refused_so.done.goes_on _ (drawn_so.done.goes_on h reached));
              field = c.void.ensures.field ∙ refused_so.done.field ∙ drawn_so.done.field;
            }),
      ),
    )

-- What is true of one grave's past, whatever was done there last. Assumes nothing.
use Rattle.std.proofs.Common.{◌≡◌, ℕ, ◌+◌, ◌<◌, ◌≤◌, List, [], ◌∷◌, length, Some, None, Option, sym, refl, ◌∙◌, inl, inr, arith}
use Rattle.std.specs.List.{AllByRecursion}
use Rattle.std.proofs.ByRecursion.{All-weaker}
use Rattle.cipher.specs.declared.Key.{Key}
use Rattle.refusal.specs.Outcomes.{Outcome}
use Rattle.seal.specs.Sealing.{Sealing, Among}
use Rattle.promise.specs.Draws.{without}
use Rattle.promise.specs.History.{Sheet, Standing, Act, opened, drawn, sealed, voided, checked, cleared, closed}
use Rattle.promise.specs.Past.{key, handed_out, sheets, held}
use Rattle.promise.specs.Law.{DrawsAddUp, TrueSheet, Fair, ChecksFair}
use Rattle.promise.proofs.Among.{all_among, all_from_among}
use Rattle.promise.proofs.Draws.{among_without, all_without, distinct_without, not_among_without, length_without}

module _ (S : Sealing) where
  -- of a sheet that was sealed, at a grave that holds these draws
  pub record Right (k : Option Key) (handed : ℕ) (held : List ℕ) (s : Sheet) : Type 0 where
    pub true_sheet : TrueSheet S k handed s
    pub not_held : Among s.draw held → ⊥

  pub record Sound (past : List Act) : Type 0 where
    pub adds_up : DrawsAddUp past
    pub right : AllByRecursion (Right (key past) (handed_out past) (held past)) (sheets past)
    pub fair : ChecksFair S past

  pub sound_none : Sound []
  sound_none = record {
    adds_up = record {
      sum = refl;
      held_once = tt;
      held_handed = tt;
      held_few = omega arith;
      handed_few = omega arith;
    };
    right = tt;
    fair = tt;
  }

  module _ {past : List Act} (P : Sound past) where
    -- a sheet stays right while its draw stays handed out and not held
    still_right : (n : ℕ) (ds : List ℕ) → handed_out past ≤ n →
        ((d : ℕ) → d < handed_out past → Among d ds → Among d (held past)) → AllByRecursion (Right (key past) n ds) (sheets past)
    still_right n ds more back =
        All-weaker _ _ (λ s r.
        let t = r.true_sheet in record {
          true_sheet = record {
            by = t.by;
            by_is = t.by_is;
            true_seal = t.true_seal;
            its_draw = omega (arith, t.its_draw);
            short = t.short;
          };
          not_held = λ i. r.not_held (back s.draw t.its_draw i);
        }) (sheets past) P.right

    -- a grave that was never opened has sealed nothing
    pub sound_opened : (k : Key) → key past ≡ None → Sound (opened k ∷ past)
    sound_opened k none = record {
      adds_up = P.adds_up;
      right = all_from_among _ (sheets past) (λ s i.
          absurd (no_key (all_among _ (sheets past) s P.right i)));
      fair = P.fair;
    }
      where
        no_key : {s : Sheet} → Right (key past) (handed_out past) (held past) s → ⊥
        no_key r = let same = sym none ∙ r.true_sheet.by_is in let z : ◌≡◌ {A = ℕ} 0 1 = cc in omega arith

    pub sound_drawn : length (held past) < 4 → handed_out past < 1000000 → Sound (drawn (handed_out past) ∷ past)
    sound_drawn room more =
        let a = P.adds_up in record {
          adds_up = record {
            sum = omega (arith, a.sum);
            held_once = (All-weaker _ _ (λ d below same. omega arith) (held past) a.held_handed, a.held_once);
            held_handed = (omega arith, All-weaker _ _ (λ d below. omega arith) (held past) a.held_handed);
            held_few = omega arith;
            handed_few = omega arith;
          };
          right = still_right (handed_out past + 1) (handed_out past ∷ held past) (omega arith)
              (λ d below i. elim i [ inl e ↦ absurd (omega arith) | inr j ↦ j ]);
          fair = P.fair;
        }

    pub sound_sealed : (s : Sheet) (k : Key) → Among s.draw (held past) → length s.text ≤ S.longest →
        key past ≡ Some k → s.seal ≡ S.seal k s.draw s.text → Sound (sealed s ∷ past)
    sound_sealed s k i short its_key true_seal =
        let a = P.adds_up in
        let fewer = length_without s.draw (held past) i in record {
          adds_up = record {
            sum = omega (arith, a.sum);
            held_once = distinct_without s.draw (held past) a.held_once;
            held_handed = all_without _ s.draw (held past) a.held_handed;
            held_few = omega (arith, a.held_few);
            handed_few = a.handed_few;
          };
          right = (
            record {
              true_sheet = record {
                by = k;
                by_is = its_key;
                true_seal = true_seal;
                its_draw = all_among _ (held past) s.draw a.held_handed i;
                short = short;
              };
              not_held = not_among_without s.draw (held past) a.held_once;
            },
            still_right (handed_out past) (without s.draw (held past)) (omega arith)
                (λ d below. among_without s.draw d (held past)),
          );
          fair = P.fair;
        }

    pub sound_voided : (d : ℕ) → Among d (held past) → Sound (voided d ∷ past)
    sound_voided d i =
        let a = P.adds_up in
        let fewer = length_without d (held past) i in record {
          adds_up = record {
            sum = omega (arith, a.sum);
            held_once = distinct_without d (held past) a.held_once;
            held_handed = all_without _ d (held past) a.held_handed;
            held_few = omega (arith, a.held_few);
            handed_few = a.handed_few;
          };
          right = still_right (handed_out past) (without d (held past)) (omega arith)
              (λ e below. among_without d e (held past));
          fair = P.fair;
        }

    pub sound_checked : (s : Sheet) (p : ℕ) (o : Outcome Standing) → Fair S past s p o → Sound (checked s p o ∷ past)
    sound_checked s p o fair = record { adds_up = P.adds_up; right = P.right; fair = (fair, P.fair) }

    pub sound_cleared : Sound (cleared ∷ past)
    sound_cleared = record { adds_up = P.adds_up; right = P.right; fair = P.fair }

    pub sound_closed : Sound (closed ∷ past)
    sound_closed =
        let a = P.adds_up in record {
          adds_up = record {
            sum = omega (arith, a.sum);
            held_once = tt;
            held_handed = tt;
            held_few = omega arith;
            handed_few = a.handed_few;
          };
          right = still_right (handed_out past) [] (omega arith) (λ d below i. absurd i);
          fair = P.fair;
        }

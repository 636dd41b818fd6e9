-- The controller of the finished family with two migrations keeps its law.
use Rattle.std.proofs.Common.{◌≡◌, ℕ, zero, suc, ◌<◌, refl, subst, arith, false, List, [], ◌∷◌}
use Rattle.std.specs.Prelude.{reverse, drop}
use Rattle.epoch_tags.specs.declared.message.ToController.TheVariants.{Ask, Drained}
use Rattle.load_controller.specs.declared.line.TurnLine.{TurnLine}
use Rattle.load_controller.specs.declared.line.Cause.TheVariants.{Settle}
use Rattle.load_controller.specs.Journal.{begun, Follows}
use Rattle.load_controller.specs.Law.{ControllerLaw, CountsMessages, CountsSettled, sent_by}
use Rattle.trace_law.specs.Family.{rules_of, first_rest}
use Rattle.trace_law.specs.Worked.{journal}
use Rattle.trace_law.proofs.TwoMigrations.{setting, orders, requests, family}

follows : Follows (rules_of setting) (begun (first_rest setting).line) (reverse journal)
follows =
    let count : 0 < 1 = omega arith in
    let none : 0 < 4 = omega arith in
    let one : 1 < 4 = omega arith in
    let two : 2 < 4 = omega arith in
    let three : 3 < 4 = omega arith in (
      refl,
      (none, refl, refl),
      (
        refl,
        (one, refl, refl),
        (
          refl,
          (two, refl, refl),
          (
            refl,
            (three, refl, refl),
            (
              refl,
              count,
              (
                refl,
                count,
                (
                  refl,
                  count,
                  (
                    refl,
                    count,
                    (
                      refl,
                      (three, refl, refl),
                      (
                        refl,
                        (
                          two,
                          refl,
                          refl,
                        ),
                        (refl, (one, refl, refl), (refl, (none, refl, refl), (refl, count, refl))),
                      ),
                    ),
                  ),
                ),
              ),
            ),
          ),
        ),
      ),
    )

-- what the last line is, and the lines before it
abbrev line : TurnLine
line =
    record {
      cause = Settle 0;
      rows_r = 8;
      rows_s = 8;
      base_r = 8;
      base_s = 8;
      epoch = 2;
      shift = 1;
      goal = 1;
      moving = false;
    }

abbrev past : List TurnLine
past = drop 1 (reverse journal)

counts : CountsMessages 0 line past requests
counts = record {
  counted = requests;
  passed = [];
  splits = refl;
  are_counted = record {
    earlier = Ask 4 0 ∷ Ask 4 0 ∷ Ask 0 4 ∷ Ask 0 4 ∷ [];
    passed = [];
    m = Drained;
    splits = refl;
    passes = tt;
    in_place = refl;
    is = refl;
    are_earlier = record {
      earlier = Ask 4 0 ∷ Ask 4 0 ∷ Ask 0 4 ∷ [];
      passed = [];
      m = Ask 0 4;
      splits = refl;
      passes = tt;
      in_place = (refl, omega arith, omega arith);
      is = refl;
      are_earlier = record {
        earlier = Ask 4 0 ∷ Ask 4 0 ∷ [];
        passed = [];
        m = Ask 0 4;
        splits = refl;
        passes = tt;
        in_place = (refl, omega arith, omega arith);
        is = refl;
        are_earlier = record {
          earlier = Ask 4 0 ∷ [];
          passed = [];
          m = Ask 4 0;
          splits = refl;
          passes = tt;
          in_place = (refl, omega arith, omega arith);
          is = refl;
          are_earlier = record {
            earlier = [];
            passed = [];
            m = Ask 4 0;
            splits = refl;
            passes = tt;
            in_place = (refl, omega arith, omega arith);
            is = refl;
            are_earlier = refl;
          };
        };
      };
    };
  };
  not_in_place = tt;
}

abbrev Settles : ℕ → Type 0
Settles j = CountsSettled j line past (1 ∷ 2 ∷ [])

settles : (j : ℕ) → j < 4 → Settles j
settles zero low = record {
  counted = 1 ∷ 2 ∷ [];
  held = [];
  splits = refl;
  are_settled = record {
    earlier = 1 ∷ [];
    epoch = 2;
    splits = refl;
    in_place = (refl, refl, refl);
    are_earlier = record { earlier = []; epoch = 1; splits = refl; in_place = (refl, refl, refl); are_earlier = refl };
  };
  stuck = λ epoch rest is. absurd (cc);
}
settles (suc zero) low = record {
  counted = 1 ∷ 2 ∷ [];
  held = [];
  splits = refl;
  are_settled = record {
    earlier = 1 ∷ [];
    epoch = 2;
    splits = refl;
    in_place = (refl, refl, refl);
    are_earlier = record { earlier = []; epoch = 1; splits = refl; in_place = (refl, refl, refl); are_earlier = refl };
  };
  stuck = λ epoch rest is. absurd (cc);
}
settles (suc (suc zero)) low = record {
  counted = 1 ∷ 2 ∷ [];
  held = [];
  splits = refl;
  are_settled = record {
    earlier = 1 ∷ [];
    epoch = 2;
    splits = refl;
    in_place = (refl, refl, refl);
    are_earlier = record { earlier = []; epoch = 1; splits = refl; in_place = (refl, refl, refl); are_earlier = refl };
  };
  stuck = λ epoch rest is. absurd (cc);
}
settles (suc (suc (suc zero))) low = record {
  counted = 1 ∷ 2 ∷ [];
  held = [];
  splits = refl;
  are_settled = record {
    earlier = 1 ∷ [];
    epoch = 2;
    splits = refl;
    in_place = (refl, refl, refl);
    are_earlier = record { earlier = []; epoch = 1; splits = refl; in_place = (refl, refl, refl); are_earlier = refl };
  };
  stuck = λ epoch rest is. absurd (cc);
}
settles (suc (suc (suc (suc j)))) low = absurd (omega arith)

-- so the controller keeps its law
pub controller_law : ControllerLaw (rules_of setting) (begun (first_rest setting).line) family.controller
controller_law = record {
  line = line;
  past = past;
  journal = refl;
  follows = follows;
  counts = λ p low. let is : 0 ≡ p = omega arith in subst (λ q. CountsMessages q line past requests) is counts;
  settles = settles;
  sends = λ p low. let is : 0 ≡ p = omega arith in
      subst (λ q. orders ≡ sent_by (rules_of setting) q (line ∷ past)) is refl;
}

-- The controller of the finished family with an old row that is moved keeps its law.
use Rattle.std.proofs.Common.{◌≡◌, ℕ, zero, suc, ◌<◌, refl, arith, false, List, [], ◌∷◌}
use Rattle.std.specs.Prelude.{reverse, drop}
use Rattle.epoch_tags.specs.declared.message.ToController.TheVariants.{Ask, Drained}
use Rattle.load_controller.specs.declared.line.Cause.TheVariants.{Settle}
use Rattle.load_controller.specs.declared.line.TurnLine.{TurnLine}
use Rattle.load_controller.specs.Journal.{begun, Follows}
use Rattle.load_controller.specs.Law.{ControllerLaw, CountsMessages, CountsSettled, sent_by}
use Rattle.trace_law.specs.Family.{rules_of, first_rest}
use Rattle.trace_law.proofs.Late.{setting, journal, orders, requests, family}

abbrev line : TurnLine
line =
    record {
      cause = Settle 1;
      rows_r = 2;
      rows_s = 3;
      base_r = 2;
      base_s = 3;
      epoch = 1;
      shift = 1;
      goal = 1;
      moving = false;
    }

abbrev past : List TurnLine
past = drop 1 (reverse journal)

follows : Follows (rules_of setting) (begun (first_rest setting).line) (line ∷ past)
follows =
    let none : 0 < 2 = omega arith in
    let one : 1 < 2 = omega arith in
    (refl, (one, refl, refl), (refl, (none, refl, refl), (refl, none, (refl, one, (refl, none, (refl, one, refl))))))

counts : (p : ℕ) → p < 2 → CountsMessages p line past (requests p)
counts zero low = record {
  counted = requests 0;
  passed = [];
  splits = refl;
  are_counted = record {
    earlier = Ask 1 2 ∷ [];
    passed = [];
    m = Drained;
    splits = refl;
    passes = tt;
    in_place = refl;
    is = refl;
    are_earlier =
        record {
          earlier = [];
          passed = [];
          m = Ask 1 2;
          splits = refl;
          passes = tt;
          in_place = (refl, omega arith, omega arith);
          is = refl;
          are_earlier = refl;
        };
  };
  not_in_place = tt;
}
counts (suc zero) low = record {
  counted = requests 1;
  passed = [];
  splits = refl;
  are_counted = record {
    earlier = Ask 1 1 ∷ [];
    passed = [];
    m = Drained;
    splits = refl;
    passes = tt;
    in_place = refl;
    is = refl;
    are_earlier =
        record {
          earlier = [];
          passed = [];
          m = Ask 1 1;
          splits = refl;
          passes = tt;
          in_place = (refl, omega arith, omega arith);
          is = refl;
          are_earlier = refl;
        };
  };
  not_in_place = tt;
}
counts (suc (suc p)) low = absurd (omega arith)

settles : (j : ℕ) → j < 2 → CountsSettled j line past (1 ∷ [])
settles zero low = record {
  counted = 1 ∷ [];
  held = [];
  splits = refl;
  are_settled = record { earlier = []; epoch = 1; splits = refl; in_place = (refl, refl, refl); are_earlier = refl };
  stuck = λ epoch rest is. absurd (cc);
}
settles (suc zero) low = record {
  counted = 1 ∷ [];
  held = [];
  splits = refl;
  are_settled = record { earlier = []; epoch = 1; splits = refl; in_place = (refl, refl, refl); are_earlier = refl };
  stuck = λ epoch rest is. absurd (cc);
}
settles (suc (suc j)) low = absurd (omega arith)

sends : (p : ℕ) → p < 2 → orders p ≡ sent_by (rules_of setting) p (line ∷ past)
sends zero low = refl
sends (suc zero) low = refl
sends (suc (suc p)) low = absurd (omega arith)

-- so the controller keeps its law
pub controller_law : ControllerLaw (rules_of setting) (begun (first_rest setting).line) family.controller
controller_law =
    record {
      line = line;
      past = past;
      journal = refl;
      follows = follows;
      counts = counts;
      settles = settles;
      sends = sends;
    }

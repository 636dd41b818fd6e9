-- The controller of the finished family of a later wave keeps its law.
use Rattle.std.proofs.Common.{◌≡◌, ℕ, zero, suc, ◌<◌, refl, arith, false, List, [], ◌∷◌}
use Rattle.std.specs.Prelude.{reverse, drop}
use Rattle.epoch_tags.specs.declared.message.ToController.TheVariants.{Ask, Drained}
use Rattle.load_controller.specs.declared.line.Cause.TheVariants.{Settle}
use Rattle.load_controller.specs.declared.line.TurnLine.{TurnLine}
use Rattle.load_controller.specs.Journal.{begun, Follows}
use Rattle.load_controller.specs.Law.{ControllerLaw, CountsMessages, CountsSettled, sent_by}
use Rattle.trace_law.specs.Family.{rules_of}
use Rattle.trace_law.proofs.Later.{setting, earlier, journal, orders, requests, family}

-- the last line
abbrev line : TurnLine
line =
    record {
      cause = Settle 1;
      rows_r = 1;
      rows_s = 2;
      base_r = 1;
      base_s = 2;
      epoch = 4;
      shift = 1;
      goal = 1;
      moving = false;
    }

-- the lines before it
abbrev past : List TurnLine
past = drop 1 (reverse journal)

-- the journal follows from the wave's first line
follows : Follows (rules_of setting) (begun earlier) (line ∷ past)
follows =
    let none : 0 < 2 = omega arith in
    let one : 1 < 2 = omega arith in
    let feeder : 0 < 1 = omega arith in
    (refl, (one, refl, refl), (refl, (none, refl, refl), (refl, feeder, (refl, feeder, refl))))

-- it counts the feeder's messages
counts : (p : ℕ) → p < 1 → CountsMessages p line past requests
counts zero low = record {
  counted = requests;
  passed = [];
  splits = refl;
  are_counted = record {
    earlier = Ask 0 1 ∷ [];
    passed = [];
    m = Drained;
    splits = refl;
    passes = tt;
    in_place = refl;
    is = refl;
    are_earlier = record {
      earlier = [];
      passed = [];
      m = Ask 0 1;
      splits = refl;
      passes = tt;
      in_place = (refl, omega arith, omega arith);
      is = refl;
      are_earlier = refl;
    };
  };
  not_in_place = tt;
}
counts (suc p) low = absurd (omega arith)

-- and what the joiners say
settles : (j : ℕ) → j < 2 → CountsSettled j line past (4 ∷ [])
settles zero low = record {
  counted = 4 ∷ [];
  held = [];
  splits = refl;
  are_settled = record { earlier = []; epoch = 4; splits = refl; in_place = (refl, refl, refl); are_earlier = refl };
  stuck = λ epoch rest is. absurd (cc);
}
settles (suc zero) low = record {
  counted = 4 ∷ [];
  held = [];
  splits = refl;
  are_settled = record { earlier = []; epoch = 4; splits = refl; in_place = (refl, refl, refl); are_earlier = refl };
  stuck = λ epoch rest is. absurd (cc);
}
settles (suc (suc j)) low = absurd (omega arith)

-- the feeder is sent what the lines say
sends : (p : ℕ) → p < 1 → orders ≡ sent_by (rules_of setting) p (line ∷ past)
sends zero low = refl
sends (suc p) low = absurd (omega arith)

-- so the controller keeps its law
pub controller_law : ControllerLaw (rules_of setting) (begun earlier) family.controller
controller_law =
    record {
      line = line;
      past = past;
      journal = refl;
      follows = follows;
      counts = counts;
      settles = settles;
      sends = sends;
    }

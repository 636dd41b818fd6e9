-- A joiner that has just started keeps the law with empty lists.
use Rattle.std.proofs.Common.{◌≡◌, ℕ, zero, suc, ◌<◌, ◌≤◌, inl, refl, ap, arith, [], ◌++◌}
use Rattle.row_cells.specs.Lists.{gather, greatest}
use Rattle.epoch_tags.specs.declared.message.ToJoiner.{ToJoiner}
use Rattle.joiner_law.specs.Law.{JoinerStart, JoinerLists, JoinerLaw, Taken, IsTakenOf, opened, arrived, found}

-- nothing received and nothing sent
abbrev pub no_lists : JoinerLists
no_lists = record {
  from_feeder = λ p. [];
  from_joiner = λ q. [];
  to_joiner = λ q. [];
  to_controller = [];
  to_collector = [];
}

-- nothing taken, and the shift with which the joiner begins, whatever the epoch
abbrev pub none_taken : JoinerStart → Taken
none_taken s = record { from_feeder = λ p. []; from_joiner = λ q. []; shift_at = λ e. s.shift }

gather_none : {X : Type 0} (n : ℕ) → gather {X = X} n (λ i. []) ≡ []
gather_none zero = refl
gather_none (suc n) = ap (λ xs. xs ++ []) (gather_none n)

none_opened : (n : ℕ) → greatest n (λ p. 0) ≡ 0
none_opened zero = refl
none_opened (suc n) = let rest = none_opened n in omega arith

nothing_held : (can_take : ToJoiner → Type 0) → IsTakenOf can_take [] []
nothing_held can_take = record { held = []; splits = refl; stuck = λ m rest is. absurd (cc) }

none_found : (s : JoinerStart) → s.base ≡ [] → found s (none_taken s) 0 ≡ []
none_found s empty =
    let none : arrived s (none_taken s) s.epoch ≡ [] = gather_none s.feeders in
    rw (none, empty) refl

-- where there is a feeder, the shift is one of the grid and the base is empty, these lists keep the law
pub fresh : (s : JoinerStart) → 0 < s.feeders → s.shift ≤ s.k → s.base ≡ [] → JoinerLaw s no_lists (none_taken s)
fresh s some within empty =
    let none : opened s (none_taken s) ≡ 0 = none_opened s.feeders in
    record {
      done = 0;
      of_feeders = λ p low. nothing_held _;
      of_joiners = λ q low. nothing_held _;
      counts_up = λ p low. tt;
      first_shift = refl;
      same_shifts = λ p n low. tt;
      by_one = λ n low. absurd (omega arith);
      within = λ n low. within;
      settled = λ n low. absurd (omega arith);
      unsettled = λ settled. let first = settled.0 0 some in absurd (omega arith);
      one_open = omega arith;
      of_partner = λ q n low has. absurd (omega arith);
      founds = [];
      fins = [];
      to_collector = refl;
      pairs = λ older. record { sums = λ f. rw (none, none_found s empty) refl };
      none_empty = tt;
      few_founds = omega arith;
      moved = λ n low. absurd (omega arith);
      ended = λ n turned. let first = turned 0 some in absurd (omega arith);
      moved_only = λ q e has. absurd (omega arith);
      ended_only = λ q e has. absurd (omega arith);
      never_falls = λ q. tt;
      told = refl;
      fin_last = inl refl;
      finished = λ is. let first = is.0.0 0 some in absurd (omega arith);
    }

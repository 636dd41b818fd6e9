-- Why a rest's stores have no stamp above the wave's first epoch: a family that begins with such a store agrees, and
-- sends the pair of two rows from before the wave. Its lists are those of Later.antt, but that joiner 0 has the older
-- row of S with the stamp of the next epoch, and so finds its pair in the step to that epoch.
use Rattle.std.proofs.Common.{ℕ, zero, suc, ◌+◌, ◌<◌, ◌≤◌, inr, refl, arith, [], ◌∷◌, ◌++◌, List}
use Rattle.std.specs.Prelude.{map, filter}
use Rattle.std.proofs.lemmas.List.{append-nil}
use Rattle.row_cells.specs.Lists.{SameBag}
use Rattle.epoch_tags.specs.declared.tuple.Pair.{Pair}
use Rattle.epoch_tags.specs.declared.message.ToCollector.{ToCollector}
use Rattle.epoch_tags.specs.declared.message.ToCollector.TheVariants.{Found}
use Rattle.epoch_tags.specs.Messages.{moved_of}
use Rattle.migration_plan.specs.Steps.{is_of}
use Rattle.reshuffler_core.specs.Law.{FeederLaw}
use Rattle.joiner_law.specs.Law.{JoinerLaw, JoinerStart, exchanged, partner_of, store}
use Rattle.joiner_law.proofs.Row.{all_of}
use Rattle.trace_law.specs.Family.{Family, IsRestFor, IsAgreeing, NothingWrongIsSent, feeder_start, joiner_start}
use Rattle.trace_law.specs.Laws.{SendsNothingWrong}
use Rattle.trace_law.proofs.AcrossWaves.{old_pair, ahead}
use Rattle.trace_law.proofs.Later.{input, setting, orders, fed, passed, founds, last_words, taken, family}
use Rattle.trace_law.proofs.LaterController.{controller_law}
use Rattle.trace_law.proofs.LaterLaws.{feeder_law, counts_up, shifts_of, by_one, settled, at_rest, turned_in}
use Rattle.trace_law.proofs.LaterLaws.{never_falls, ended, moved_only, ended_only, took_of_partner, joiner_law, valid}

-- ---- the lists

-- what joiner j finds: joiner 0 the pair of the two older rows, and joiner 1 what it found
abbrev pub founds_ahead : ℕ → List (List Pair)
founds_ahead zero = (old_pair ∷ []) ∷ []
founds_ahead (suc j) = founds (suc j)

-- all that it sends to the collector
abbrev pub collected_ahead : ℕ → List ToCollector
collected_ahead j = map Found (founds_ahead j) ++ last_words j ∷ []

-- all lists
abbrev pub family_ahead : Family
family_ahead = record family {
  joiner = λ j. record (family.joiner j) { to_collector = collected_ahead j };
  collector = record { from_joiner = collected_ahead };
}

-- how joiner j begins
abbrev start : ℕ → JoinerStart
start j = joiner_start input setting ahead j

-- ---- each joiner keeps its law

-- joiner 0 has no row of R to move
moved : (n : ℕ) → n < 1
    → SameBag (moved_of (3 + n + 1) (passed 0 (partner_of (start 0) (taken 0) n)))
    (filter (is_of (exchanged (start 0) (taken 0) n)) (store (start 0) (taken 0) n))
moved zero low = record { sums = λ f. refl }
moved (suc n) low = absurd (omega arith)

-- joiner 0 by what it finds, joiner 1 as before
law_ahead : (j : ℕ) → j < 2 → JoinerLaw (start j) (family_ahead.joiner j) (taken j)
law_ahead zero low = record {
  done = 1;
  of_feeders = λ p low_p. all_of _ (fed 0);
  of_joiners = λ q low_q. all_of _ (passed q 0);
  counts_up = λ p low_p. counts_up 0;
  first_shift = refl;
  same_shifts = λ p n low_p. shifts_of 0 n;
  by_one = λ n low_n. by_one 0 n low_n;
  within = λ n low_n. omega arith;
  settled = λ n low_n. settled 0 n low low_n;
  unsettled = λ is. let turned = is.0 0 (omega arith) in absurd (omega arith);
  one_open = omega arith;
  of_partner = λ q n low_q has. took_of_partner 0 q n low low_q has;
  founds = founds_ahead 0;
  fins = last_words 0 ∷ [];
  to_collector = refl;
  pairs = λ older. record { sums = λ f. refl };
  none_empty = (omega arith, tt);
  few_founds = omega arith;
  moved = λ n low_n. moved n low_n;
  ended = λ n turned. ended 0 n low (turned_in 0 n low turned);
  moved_only = λ q e has. moved_only 0 q e low has;
  ended_only = λ q e has. ended_only 0 q e low has;
  never_falls = never_falls 0;
  told = refl;
  fin_last = inr (refl, at_rest 0 low);
  finished = λ is. refl;
}
law_ahead (suc zero) low = joiner_law 1 low
law_ahead (suc (suc j)) low = absurd (omega arith)

-- so does the feeder, which knows nothing of stores
feeder_ahead : (p : ℕ) → p < 1 → FeederLaw (feeder_start input setting ahead p) (family_ahead.feeder p) orders
feeder_ahead p low = feeder_law p low

-- ---- all of them

-- they agree
pub agrees_ahead : IsAgreeing input setting ahead family_ahead
agrees_ahead = record {
  taken_by_feeder = λ p. orders;
  taken_by_joiner = taken;
  feeders = feeder_ahead;
  joiners = law_ahead;
  controller = controller_law;
  feeder_joiner = λ p j low low'. record { rest = []; joins = append-nil (fed j) };
  joiner_joiner = λ i j low low'. record { rest = []; joins = append-nil (passed i j) };
  controller_feeder = λ p low. record { rest = []; joins = refl };
  feeder_controller = λ p low. record { rest = []; joins = refl };
  joiner_controller = λ j low. record { rest = []; joins = refl };
  joiner_collector = λ j low. record { rest = []; joins = append-nil (collected_ahead j) };
}

-- and send two pairs, where the wave has one
pub sends_it_again : ¬ NothingWrongIsSent input setting ahead family_ahead
sends_it_again = λ within.
    let two : 2 ≤ 1 = within.sums (λ pair. 1) in
    absurd (omega arith)

-- so the law that nothing wrong is sent fails where such a store may be a rest's
pub bound_is_needed : IsRestFor input setting ahead → ¬ SendsNothingWrong
bound_is_needed = λ stands law. sends_it_again (law input setting ahead family_ahead valid stands agrees_ahead)

-- Some waves, and the next behind them.
use Rattle.std.proofs.Common.{◌≡◌, ◌∙◌, ◌+◌, ◌≤◌, ℕ, List, [], ◌∷◌, ◌++◌, append-nil, append_assoc, arith, refl}
use Rattle.std.proofs.Common.{sym, ap}
use Rattle.std.proofs.Common.{◌-◌, ◌<◌, ap₂, drop, get_or, length, subst, take}
use Rattle.std.proofs.Math.Seq.{take-length}
use Rattle.std.specs.Prelude.{filter, flat_map}
use Rattle.epoch_tags.specs.declared.tuple.Pair.{Pair}
use Rattle.load_controller.specs.declared.line.TurnLine.{TurnLine}
use Rattle.load_controller.specs.Journal.{last_line}
use Rattle.pair_collector.specs.declared.collected.Held.{Held}
use Rattle.trace_law.specs.declared.input.Input.{Input}
use Rattle.trace_law.specs.declared.run.Run.{Run}
use Rattle.trace_law.specs.declared.setting.Setting.{Setting}
use Rattle.trace_law.specs.Family.{first_rest}
use Rattle.trace_law.specs.Runs.{IsRunOf}
use Rattle.trace_law.specs.Join.{nested_loop}
use Rattle.trace_law.specs.Validity.{IsValid}
use Rattle.trace_law.proofs.Validity.{within_limits}
use Rattle.trace_law.proofs.FixedShift.{all_stay, no_migration}
use Rattle.actor_core.specs.declared.rests.Rest.{Rest}
use Rattle.actor_core.specs.Rests.{IsRestOf, rest_of, upto}
use Rattle.actor_core.proofs.LaterEnds.{stands_upto}
use Rattle.join_plan.specs.declared.waves.WaveEnd.{WaveEnd}
use Rattle.join_cli.specs.declared.waves.Waved.{Waved}
use Rattle.join_cli.specs.WaveSteps.{AreAhead, AreAllWaves, AreWavesBehind, IsWaveBehind}
use Rattle.join_cli.specs.Left.{AreBehind, counted, end_behind, line_behind}
use Rattle.join_cli.specs.WaveTexts.{no_waves, sums_of, wave_over, waves_over, with_wave}
use Rattle.join_cli.specs.Waves.{WentInWave, WentThrough, is_new, upto_of, waves_pairs}
use Rattle.join_cli.proofs.WaveCounts.{counts_all, few_epochs, rows_upto, valid_wave}
use Rattle.join_cli.specs.Works.{WorkView, view_of}
use Rattle.join_cli.specs.declared.work.Work.{Work}
use Rattle.join_cli.specs.WaveSteps.{AreFewWaves, MayGoTo, MayGoThrough, IsWaveFrom}
use Rattle.join_cli.specs.Waves.{up_to}

-- some waves with the next, by its parts
abbrev with_parts : Run → List Pair → List ℕ → List Held → List ℕ → List TurnLine → Run
with_parts before pairs made loads moved journal = record {
  pairs = before.pairs ++ pairs;
  made = sums_of before.made made;
  loads = loads;
  moved = before.moved ++ moved;
  journal = before.journal ++ journal;
  bouts = 0;
}

-- a wave's run is the one over its journal
same_wave : (before : Run) (input : Input) (setting : Setting) (line : TurnLine) (run : Run)
    → IsRunOf input setting line run.journal run
    → with_wave before run ≡ with_wave before (wave_over input setting line run.journal)
same_wave before input setting line run is =
    let over = wave_over input setting line run.journal in
    ap (λ p. with_parts before p run.made run.loads run.moved run.journal) is.pairs
    ∙ ap (λ m. with_parts before over.pairs m run.loads run.moved run.journal) is.made
    ∙ ap (λ l. with_parts before over.pairs over.made l run.moved run.journal) is.loads
    ∙ ap (λ v. with_parts before over.pairs over.made over.loads v run.journal) is.moved

-- the input and the setting of a work are within the limits
pub limits_of : (work : Work) → IsValid work.input.now work.setting.now
limits_of work = within_limits work.input.now work.setting.now work.valid_input work.valid_setting

-- a wave that is run from a rest that stands for the input went so
went_so : (work : Work) (before : Waved) (end : WaveEnd) (next : Waved) → MayGoTo work before.rest (upto_of end)
    → IsWaveFrom work.number work before.rest (upto_of end) next
    → WentInWave (up_to end (view_of work)) (rest_of before.rest) next.run.journal next.trail
went_so work before end next may from =
    let setting = work.setting.now in
    let its = (stands_upto (upto_of end) work.input.now setting before.rest may.behind may.stands).stands in
    let whole = upto (upto_of end) work.input.now in
    let run = from.run in
    record {
      stands = its;
      lawful = record {
        lawful = run.lawful;
        near = run.near;
        no_epoch = λ shift fixed.
            no_migration whole setting before.rest.line its.line next.run.journal run.lawful.so_far shift fixed;
        stays = λ shift fixed.
            all_stay whole setting before.rest.line its.line next.run.journal run.lawful.so_far shift fixed;
      };
      went = from.went;
    }

-- so with it the waves are those and it
pub wave_behind : (work : Work) (before : Waved) (end : WaveEnd) (next after : Waved)
    → MayGoTo work before.rest (upto_of end) → IsWaveFrom work.number work before.rest (upto_of end) next
    → (after.run ≡ with_wave before.run next.run) × (after.trail ≡ before.trail ++ next.trail)
    × (after.rest ≡ next.rest)
    → IsWaveBehind (view_of work) before end after
wave_behind work before end next after may from (run_is, trail_is, rest_is) =
    let input = work.input.now in
    let setting = work.setting.now in
    let whole = upto (upto_of end) input in
    let within = may.behind.within in
    let its = (stands_upto (upto_of end) input setting before.rest may.behind may.stands).stands in
    let valid = valid_wave (upto_of end) input setting work.valid_input work.valid_setting within in
    let lawful = from.run.lawful in
    let all = counts_all whole setting before.rest.line next.run.journal valid its.line lawful in
    let rows = rows_upto (upto_of end) input within in
    let few = few_epochs whole setting before.rest.line next.run.journal valid its.line lawful in
    let same : after.rest.line ≡ last_line before.rest.line next.run.journal =
    ap (λ r. r.line) rest_is ∙ from.line in
    record {
      journal = next.run.journal;
      left = next.trail;
      went = went_so work before end next may from;
      line = same;
      run = run_is ∙ same_wave before.run whole setting before.rest.line next.run from.run;
      trail = trail_is;
      stands = subst (IsRestOf input setting) (sym rest_is) from.stands;
      counted_r = ap (λ (l : TurnLine). l.rows_r) same ∙ all.0 ∙ rows.0;
      counted_s = ap (λ (l : TurnLine). l.rows_s) same ∙ all.1 ∙ rows.1;
      few = subst (λ (l : TurnLine). l.epoch ≤ before.rest.line.epoch + 304) (sym same) few;
    }

-- ---- those behind

-- behind the last there is none
none_behind : (work : WorkView) (before : Waved)
    → AreWavesBehind work before [] before
none_behind work before = record {
  journals = [];
  trails = [];
  went = tt;
  run = refl;
  pairs = sym (append-nil before.run.pairs);
  trail = sym (append-nil before.trail);
  behind = record { line_is = refl; counts = refl; few = omega arith };
  stands = λ is. is;
}

-- what those behind left is behind them and the next
left_behind : (work : WorkView) (before after : Waved) (end : WaveEnd) (ends : List WaveEnd)
    (journals : List (List TurnLine)) (left : TurnLine) (next : IsWaveBehind work before end after)
    → AreBehind after.rest.line ends journals left
    → AreBehind before.rest.line (end ∷ ends) (next.journal ∷ journals) left
left_behind work before after end ends journals left next more =
    let few = next.few in
    let later = more.few in
    record {
      line_is = more.line_is ∙ ap (λ l. line_behind l journals) next.line;
      counts = more.counts
          ∙ ap₂ (λ r s. end_behind (record { rows_r = r; rows_s = s }) ends) next.counted_r next.counted_s;
      few = omega (arith, few, later);
    }

-- the pairs of the next wave, and of those behind it
pairs_behind : (work : WorkView) (before after : Waved) (end : WaveEnd) (ends : List WaveEnd) (all : List Pair)
    → IsWaveBehind work before end after
    → all ≡ after.run.pairs ++ waves_pairs work.input (counted after.rest.line) ends
    → all ≡ before.run.pairs ++ waves_pairs work.input (counted before.rest.line) (end ∷ ends)
pairs_behind work before after end ends all next is =
    let input = work.input in
    let own = filter (is_new (counted before.rest.line)) (nested_loop (upto (upto_of end) input)) in
    is ∙ ap (λ (r : Run). r.pairs ++ waves_pairs input (counted after.rest.line) ends) next.run
    ∙ ap₂ (λ r s. (before.run.pairs ++ own) ++ waves_pairs input (record { rows_r = r; rows_s = s }) ends)
    next.counted_r next.counted_s
    ∙ append_assoc before.run.pairs own (waves_pairs input (upto_of end) ends)

-- the next, and those behind it
all_behind : (work : WorkView) (before after all : Waved) (end : WaveEnd)
    (ends : List WaveEnd) → IsWaveBehind work before end after
    → AreWavesBehind work after ends all
    → AreWavesBehind work before (end ∷ ends) all
all_behind work before after all end ends next more =
    let whole = upto (upto_of end) work.input in
    let over = with_wave before.run (wave_over whole work.setting before.rest.line next.journal) in
    record {
      journals = next.journal ∷ more.journals;
      trails = next.left ∷ more.trails;
      went = (next.went, (rest_of after.rest, next.line, more.went));
      run = more.run ∙ ap (λ r. waves_over work.input work.setting after.rest.line r ends more.journals) next.run
          ∙ ap (λ l. waves_over work.input work.setting l over ends more.journals) next.line;
      pairs = pairs_behind work before after end ends all.run.pairs next more.pairs;
      trail = more.trail ∙ ap (λ t. t ++ flat_map (λ left. left) more.trails) next.trail
          ∙ append_assoc before.trail next.left (flat_map (λ left. left) more.trails);
      behind = left_behind work before after end ends more.journals all.rest.line next more.behind;
      stands = λ is. more.stands next.stands;
    }

-- no wave is left
pub none_left : (work : WorkView) (before : Waved) (ends : List WaveEnd)
    → length ends < 1 → AreWavesBehind work before ends before
none_left work before [] few = none_behind work before
none_left work before (end ∷ ends) few = absurd (omega (arith, few))

-- one is, and then those behind it
pub some_left : (work : WorkView) (before after all : Waved)
    (ends : List WaveEnd) (other : WaveEnd) → 1 ≤ length ends
    → IsWaveBehind work before (get_or ends 0 other) after
    → AreWavesBehind work after (take (length ends - 1) (drop 1 ends)) all
    → AreWavesBehind work before ends all
some_left work before after all [] other some next more = absurd (omega (arith, some))
some_left work before after all (end ∷ ends) other some next more =
    let less : length (end ∷ ends) - 1 ≡ length ends = omega arith in
    let same : take (length (end ∷ ends) - 1) ends ≡ ends = ap (λ n. take n ends) less ∙ take-length ends in
    all_behind work before after all end ends next
    (subst (λ es. AreWavesBehind work after es all) same more)

-- a first rest has counted no rows, and all waves may go on from it
pub may_begin : (work : Work) (rest : Rest) (ends : List WaveEnd) → rest_of rest ≡ first_rest work.setting.now
    → IsRestOf work.input.now work.setting.now rest → rest.line.epoch ≡ 0 → AreFewWaves work.input.now ends
    → MayGoThrough work rest ends
may_begin work rest ends is stands first waves =
    let few = waves.few in
    record {
      ahead = subst (λ l. AreAhead work.input.now (counted l) ends) (sym (ap (λ r. r.line) is)) waves.ahead;
      stands = stands;
      early = omega (arith, first, few);
    }

-- from no rows on they are all waves
abbrev pub from_none : (work : WorkView) (none all : Waved) (ends : List WaveEnd)
    → rest_of none.rest ≡ first_rest work.setting → none.run ≡ no_waves work.setting → none.trail ≡ []
    → AreWavesBehind work none ends all
    → AreAllWaves work ends all.run all.trail
from_none work none all ends rest_is run_is trail_is more =
    let line : none.rest.line ≡ (first_rest work.setting).line = ap (λ r. r.line) rest_is in
    record {
      journals = more.journals;
      trails = more.trails;
      went = subst (λ r. WentThrough work r ends more.journals more.trails) rest_is more.went;
      run_is = more.run ∙ ap (λ r. waves_over work.input work.setting none.rest.line r ends more.journals) run_is
          ∙ ap (λ l. waves_over work.input work.setting l (no_waves work.setting) ends more.journals) line;
      pairs = more.pairs ∙ ap (λ (r : Run). r.pairs ++ waves_pairs work.input (counted none.rest.line) ends) run_is
          ∙ ap (λ l. waves_pairs work.input (counted l) ends) line;
      trail_is = more.trail ∙ ap (λ t. t ++ flat_map (λ left. left) more.trails) trail_is;
    }

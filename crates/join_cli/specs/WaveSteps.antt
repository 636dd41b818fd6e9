-- Some waves of a run, and those behind them.
use Rattle.std.specs.Prelude.{◌≡◌, ◌++◌, ◌+◌, ◌*◌, ◌≤◌, ◌^◌, ℕ, ⊤, flat_map, length, List, [], ◌∷◌, Option}
use Rattle.load_controller.specs.declared.line.TurnLine.{TurnLine}
use Rattle.load_controller.specs.Journal.{last_line}
use Rattle.trace_law.specs.declared.input.Input.{Input}
use Rattle.trace_law.specs.declared.run.Run.{Run}
use Rattle.trace_law.specs.Family.{first_rest}
use Rattle.actor_core.specs.declared.rests.Upto.{Upto}
use Rattle.actor_core.specs.declared.rests.Rest.{Rest as Left}
use Rattle.actor_core.specs.Rests.{IsRestOf, IsUpto, IsWithin, rest_of, task_upto, upto}
use Rattle.actor_core.specs.Tasks.{IsRun}
use Rattle.join_runtime.specs.Endings.{EndsView}
use Rattle.join_plan.specs.declared.waves.WaveEnd.{WaveEnd}
use Rattle.join_cli.specs.declared.work.Work.{Work}
use Rattle.join_cli.specs.declared.waves.Waved.{Waved}
use Rattle.join_cli.specs.Left.{AreBehind, counted}
use Rattle.join_cli.specs.WaveTexts.{run_of_waves, wave_over, waves_over, with_wave}
use Rattle.join_cli.specs.Waves.{WaveWentAs, WentInWave, WentThrough, no_rows, up_to, upto_of, waves_pairs}
use Rattle.join_cli.specs.Works.{WorkView}

-- behind so many rows, the waves end one behind the other, within the input
abbrev pub AreAhead : Input → Upto → List WaveEnd → Type 0
AreAhead input before [] = ⊤
AreAhead input before (end ∷ ends) =
    (before.rows_r ≤ end.rows_r) × (before.rows_s ≤ end.rows_s) × IsWithin (upto_of end) input
    × AreAhead input (upto_of end) ends

-- the waves of a run end one behind the other within the input, and there are at most four
pub record AreFewWaves (input : Input) (ends : List WaveEnd) : Type 0 where
  pub ahead : AreAhead input no_rows ends
  pub few : length ends ≤ 4

-- a wave of the work may go on from this rest, which stands for the input, and end there
pub record MayGoTo (work : Work) (rest : Left) (end : Upto) : Type 0 where
  pub behind : IsUpto rest.line end work.input.now
  pub stands : IsRestOf work.input.now work.setting.now rest
  pub early : rest.line.epoch ≤ 2 ^ 31

-- waves of the work may go on from this rest, one behind the other up to these ends
pub record MayGoThrough (work : Work) (rest : Left) (ends : List WaveEnd) : Type 0 where
  pub ahead : AreAhead work.input.now (counted rest.line) ends
  pub stands : IsRestOf work.input.now work.setting.now rest
  pub early : rest.line.epoch + 304 * length ends ≤ 2 ^ 31

-- a wave of the work went on from this rest and ended there, as a replay where there is a number of one: what it left
-- stands for the input, and has its last line
pub record IsWaveFrom (number : Option ℕ) (work : Work) (rest : Left) (end : Upto) (wave : Waved) : Type 0 where
  pub run : IsRun (task_upto end work.input.now work.setting.now rest) wave.run.journal wave.run
  pub went : WaveWentAs number (task_upto end work.input.now work.setting.now rest) wave.run.journal wave.trail
  pub line : wave.rest.line ≡ last_line rest.line wave.run.journal
  pub stands : IsRestOf work.input.now work.setting.now wave.rest

-- the next wave went on from what these waves left, and with it they are these: its rest stands for the input, has
-- counted all rows up to the wave's end, and is few epochs later
pub record IsWaveBehind (work : WorkView) (before : Waved) (end : WaveEnd)
    (after : Waved) : Type 0 where
  pub journal : List TurnLine
  pub left : List EndsView
  pub went : WentInWave (up_to end work) (rest_of before.rest) journal left
  pub line : after.rest.line ≡ last_line before.rest.line journal
  pub run : after.run
      ≡ with_wave before.run (wave_over (upto (upto_of end) work.input) work.setting before.rest.line journal)
  pub trail : after.trail ≡ before.trail ++ left
  pub stands : IsRestOf work.input work.setting after.rest
  pub counted_r : after.rest.line.rows_r ≡ end.rows_r
  pub counted_s : after.rest.line.rows_s ≡ end.rows_s
  pub few : after.rest.line.epoch ≤ before.rest.line.epoch + 304

-- waves went on from what these left, up to these ends, and with them they are these
pub record AreWavesBehind (work : WorkView) (before : Waved)
    (ends : List WaveEnd) (after : Waved) : Type 0 where
  pub journals : List (List TurnLine)
  pub trails : List (List EndsView)
  pub went : WentThrough work (rest_of before.rest) ends journals trails
  pub run : after.run ≡ waves_over work.input work.setting before.rest.line before.run ends journals
  pub pairs : after.run.pairs ≡ before.run.pairs ++ waves_pairs work.input (counted before.rest.line) ends
  pub trail : after.trail ≡ before.trail ++ flat_map (λ left. left) trails
  pub behind : AreBehind before.rest.line ends journals after.rest.line
  pub stands : IsRestOf work.input work.setting before.rest → IsRestOf work.input work.setting after.rest

-- all waves of a run in one, and what their seats left
pub record AreAllWaves (work : WorkView) (ends : List WaveEnd) (run : Run)
    (trail : List EndsView) : Type 0 where
  pub journals : List (List TurnLine)
  pub trails : List (List EndsView)
  pub went : WentThrough work (first_rest work.setting) ends journals trails
  pub run_is : run ≡ run_of_waves work.input work.setting ends journals
  pub pairs : run.pairs ≡ waves_pairs work.input no_rows ends
  pub trail_is : trail ≡ flat_map (λ left. left) trails

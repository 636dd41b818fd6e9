-- The steps of a run of several waves with a growth.
use Rattle.std.specs.Prelude.{◌≡◌, ◌++◌, ◌+◌, ◌<◌, ◌≤◌, ◌^◌, ℕ, List, None, drop, flat_map, length, take}
use Rattle.load_controller.specs.declared.line.TurnLine.{TurnLine}
use Rattle.trace_law.specs.declared.setting.Setting.{Setting}
use Rattle.trace_law.specs.Family.{IsRestFor, Rest, first_rest}
use Rattle.actor_core.specs.Rests.{IsRestOf}
use Rattle.actor_core.specs.declared.rests.Rest.{Rest as Left}
use Rattle.grid_map.specs.declared.shape.Shape.{Shape}
use Rattle.join_report.specs.Report.{AreWithin}
use Rattle.elastic_grow.specs.Growth.{grown_line, grown_setting}
use Rattle.join_runtime.specs.Endings.{EndsView}
use Rattle.join_plan.specs.declared.waves.WaveEnd.{WaveEnd}
use Rattle.join_cli.specs.declared.growth.Grown.{Grown}
use Rattle.join_cli.specs.declared.waves.Waved.{Waved}
use Rattle.join_cli.specs.Grown.{grown_from, grown_shape, waves_since}
use Rattle.join_cli.specs.Left.{AreBehind}
use Rattle.join_cli.specs.WaveSteps.{AreAllWaves, AreWavesBehind}
use Rattle.join_cli.specs.WaveTexts.{no_waves}
use Rattle.join_cli.specs.Works.{WorkView, grown_work}
use Rattle.join_cli.specs.Waves.{WentThrough, no_rows, waves_pairs}

-- each joiner may split into four: the grid isn't too large for that, and no shift is fixed
pub record MayGrow (setting : Setting) : Type 0 where
  pub small : setting.k ≤ 6
  pub free : setting.fixed ≡ None

-- the first waves of a run, and what they left
pub record AreFirstWaves (work : WorkView) (ends : List WaveEnd) (first : Waved)
    : Type 0 where
  pub all : AreAllWaves work ends first.run first.trail
  pub behind : AreBehind (first_rest work.setting).line ends all.journals first.rest.line
  pub stands : IsRestOf work.input work.setting first.rest

-- what waves with this last line left begins anew with this one, each joiner split into four, and waves went on from
-- there up to these ends
pub record AreWavesGrown (work : WorkView) (trail : List EndsView)
    (last : TurnLine) (ends : List WaveEnd) (line : TurnLine) (since : Waved) : Type 0 where
  pub line_is : line ≡ grown_line work.setting.weights work.setting.k last
  pub rest : Left
  pub from : rest.line ≡ line
  pub stands : IsRestOf work.input (grown_setting work.setting) rest
  pub waves : AreWavesBehind (grown_work work)
      (record { run = no_waves (grown_setting work.setting); trail = trail; rest = rest }) ends since

-- all waves of a run with a growth behind so many of them: those before it in one, and those since
pub record AreGrownWaves (work : WorkView) (wave : ℕ) (ends : List WaveEnd)
    (grown : Grown) : Type 0 where
  pub split : wave ≤ length ends
  pub left : List EndsView
  pub first : AreAllWaves work (take wave ends) grown.before left
  pub line_is : grown.line ≡ grown_from work.setting first.journals
  pub rest : Rest
  pub from : rest.line ≡ grown.line
  pub stands : IsRestFor work.input (grown_setting work.setting) rest
  pub journals : List (List TurnLine)
  pub trails : List (List EndsView)
  pub onward : WentThrough (grown_work work) rest (drop wave ends) journals trails
  pub since_is : grown.since ≡ waves_since work.input work.setting grown.line (drop wave ends) journals
  pub pairs : grown.before.pairs ++ grown.since.pairs ≡ waves_pairs work.input no_rows ends
  pub trail_is : grown.trail ≡ left ++ flat_map (λ left. left) trails

-- ---- what its report asks

-- a grid's shift is one of its own, it has at most 2 ^ 8 joiners, and the line has counted few rows
pub record FitsGrid (shape : Shape) (line : TurnLine) : Type 0 where
  pub shift : shape.shift ≤ shape.k
  pub few : shape.k ≤ 8
  pub few_r : line.rows_r ≤ 2 ^ 32
  pub few_s : line.rows_s ≤ 2 ^ 32

-- the line behind the growth fits the grown grid, no shift is past its grid, and there are few steps
pub record IsGrownReportable (setting : Setting) (grown : Grown) : Type 0 where
  pub fits : FitsGrid (grown_shape setting grown.line) grown.line
  pub early : AreWithin setting.k grown.before.journal
  pub later : AreWithin (setting.k + 2) grown.since.journal
  pub steps : length grown.before.moved + length grown.since.moved < 2 ^ 32

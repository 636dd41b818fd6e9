-- A run of several waves: its pairs, wave after wave, and how it went.
use Rattle.std.specs.Prelude.{◌≡◌, ◌++◌, ℕ, ⊤, Bool, ◌&&◌, not, nat_lt, filter, flat_map, All, List, [], ◌∷◌}
use Rattle.std.specs.Prelude.{Option, None, Some}
use Rattle.epoch_tags.specs.declared.tuple.Pair.{Pair}
use Rattle.load_controller.specs.declared.line.TurnLine.{TurnLine}
use Rattle.load_controller.specs.Journal.{last_epoch, last_line}
use Rattle.trace_law.specs.declared.input.Input.{Input}
use Rattle.trace_law.specs.declared.run.Run.{Run}
use Rattle.trace_law.specs.declared.setting.Setting.{Setting}
use Rattle.trace_law.specs.Family.{IsRestFor, Rest, first_rest}
use Rattle.trace_law.specs.Join.{nested_loop}
use Rattle.trace_law.specs.Runs.{AreNear, StaysAt}
use Rattle.actor_core.specs.declared.rests.Upto.{Upto}
use Rattle.actor_core.specs.Tasks.{Task}
use Rattle.actor_core.specs.Rests.{upto}
use Rattle.link_trace.specs.Order.{IsReplay}
use Rattle.join_runtime.specs.Endings.{EndsView}
use Rattle.join_words.specs.Words.{Asked}
use Rattle.join_plan.specs.declared.waves.WaveEnd.{WaveEnd}
use Rattle.join_plan.specs.declared.fitting.Planned.{Planned}
use Rattle.join_cli.specs.Journals.{IsLawfulFrom, waves_in}
use Rattle.join_cli.specs.Plan.{setting_of}
use Rattle.join_cli.specs.Threads.{IsRunInThreads}
use Rattle.join_cli.specs.Works.{WorkView, task_from, work_asked}

-- ---- the pairs

-- where a wave ends, as its run takes it
abbrev pub upto_of : WaveEnd → Upto
upto_of end = record { rows_r = end.rows_r; rows_s = end.rows_s }

-- before the first wave there are no rows
abbrev pub no_rows : Upto
no_rows = record { rows_r = 0; rows_s = 0 }

-- the pair has a row behind so many of each side
abbrev pub is_new : Upto → Pair → Bool
is_new before pair = not (nat_lt pair.i before.rows_r && nat_lt pair.j before.rows_s)

-- the pairs of waves that go on behind so many rows, wave after wave: of the nested loop over the rows up to a wave's
-- end, in its order, those with a row of the wave
abbrev pub waves_pairs : Input → Upto → List WaveEnd → List Pair
waves_pairs input before [] = []
waves_pairs input before (end ∷ ends) =
    filter (is_new before) (nested_loop (upto (upto_of end) input)) ++ waves_pairs input (upto_of end) ends

-- ---- how a wave went

-- the journal of a wave's lawful controller, which goes on from this line and counts all rows of the wave; each line
-- that isn't moving is near the best grid for its counts and for what rows weigh, and where the shift is fixed no line
-- leaves it and there is no new epoch
pub record IsWaveJournal (input : Input) (setting : Setting) (line : TurnLine) (journal : List TurnLine) : Type 0 where
  pub lawful : IsLawfulFrom input setting line journal
  pub near : setting.fixed ≡ None → AreNear setting.k setting.weights journal
  pub no_epoch : (shift : ℕ) → setting.fixed ≡ Some shift → last_epoch journal ≡ line.epoch
  pub stays : (shift : ℕ) → setting.fixed ≡ Some shift → All (StaysAt line.epoch shift) journal

-- a replay of the wave with this number, whose controller has this journal, leaves nothing
pub record IsWaveReplayed (task : Task) (seed : ℕ) (journal : List TurnLine) (trail : List EndsView) : Type 0 where
  pub run : Run
  pub order : IsReplay task seed run
  pub journal_is : run.journal ≡ journal
  pub nothing : trail ≡ []

-- it was replayed so, or run in threads, as a number of a replay was given or not
abbrev pub WaveWentAs : Option ℕ → Task → List TurnLine → List EndsView → Type 0
WaveWentAs (Some seed) task journal trail = IsWaveReplayed task seed journal trail
WaveWentAs None task journal trail = IsRunInThreads task journal trail

-- one wave, over the input up to its end: what the wave before left stands for the input, the journal is that of a
-- lawful controller which goes on from its line, and what shows how the wave went
pub record WentInWave (work : WorkView) (rest : Rest) (journal : List TurnLine) (trail : List EndsView) : Type 0 where
  pub stands : IsRestFor work.input work.setting rest
  pub lawful : IsWaveJournal work.input work.setting rest.line journal
  pub went : WaveWentAs work.number (task_from work rest) journal trail

-- what runs up to the end of a wave
abbrev pub up_to : WaveEnd → WorkView → WorkView
up_to end work = record work { input = upto (upto_of end) work.input }

-- wave after wave, the first from this rest: each went so, and left a rest with the last line of its journal, from
-- which the next goes on
abbrev pub WentThrough : WorkView → Rest → List WaveEnd → List (List TurnLine) → List (List EndsView) → Type 0
WentThrough work rest [] [] [] = ⊤
WentThrough work rest (end ∷ ends) (journal ∷ journals) (trail ∷ trails) =
    WentInWave (up_to end work) rest journal trail
    × ((next : Rest) × (next.line ≡ last_line rest.line journal) × WentThrough work next ends journals trails)
WentThrough work rest _ _ _ = ⊥

-- what is answered of a run of several waves, as a replay where it has a number: the journals of all waves one after
-- the other, and what shows how each went. The first wave goes on from no rows
pub record AreWavesOf (number : Option ℕ) (asked : Asked) (planned : Planned) (journal : List TurnLine)
    (trail : List EndsView) : Type 0 where
  pub trails : List (List EndsView)
  pub trail_is : trail ≡ flat_map (λ left. left) trails
  pub went : WentThrough (work_asked number asked planned) (first_rest (setting_of asked)) planned.ends
      (waves_in journal) trails

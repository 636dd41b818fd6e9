-- The waves of a run with a growth are those of what was run.
use Rattle.std.proofs.Common.{◌≡◌, ◌∙◌, ◌≤◌, ℕ, List, [], ◌++◌, ap₂, drop, length, arith}
use Rattle.std.proofs.Common.{refl, sym, ap, subst, take}
use Rattle.std.specs.List.{IsSplitAt}
use Rattle.load_controller.specs.declared.line.TurnLine.{TurnLine}
use Rattle.trace_law.specs.Family.{first_rest}
use Rattle.actor_core.specs.Rests.{IsRestOf, rest_of}
use Rattle.elastic_grow.specs.Growth.{grown_line, grown_setting}
use Rattle.actor_core.specs.declared.rests.Rest.{Rest as Left}
use Rattle.join_runtime.specs.Endings.{EndsView}
use Rattle.join_plan.specs.declared.waves.WaveEnd.{WaveEnd}
use Rattle.join_cli.specs.declared.waves.Waved.{Waved}
use Rattle.join_cli.specs.GrownSteps.{AreFirstWaves, AreGrownWaves, AreWavesGrown}
use Rattle.join_cli.specs.Left.{AreBehind, counted, end_behind}
use Rattle.join_cli.specs.WaveSteps.{AreAhead, AreWavesBehind}
use Rattle.join_cli.specs.WaveTexts.{no_waves}
use Rattle.join_cli.specs.Waves.{no_rows, waves_pairs}
use Rattle.join_cli.proofs.GrownFacts.{ahead_early, ahead_later, pairs_of_both}
use Rattle.join_cli.proofs.WaveRuns.{from_none}
use Rattle.join_cli.specs.Works.{WorkView, view_of, grown_work}
use Rattle.join_cli.specs.declared.work.Work.{Work}
use Rattle.join_cli.specs.WaveSteps.{AreFewWaves, MayGoThrough}
use Rattle.join_cli.specs.Grown.{waves_since}

-- from a first rest on they are the first waves
pub first_are : (work : WorkView) (none first : Waved) (ends : List WaveEnd)
    → rest_of none.rest ≡ first_rest work.setting → none.run ≡ no_waves work.setting → none.trail ≡ []
    → IsRestOf work.input work.setting none.rest → AreWavesBehind work none ends first
    → AreFirstWaves work ends first
first_are work none first ends rest_is run_is trail_is stands more =
    record {
      all = from_none work none first ends rest_is run_is trail_is more;
      behind = subst (λ l. AreBehind l ends more.journals first.rest.line) (ap (λ r. r.line) rest_is) more.behind;
      stands = more.stands stands;
    }

-- the grown line has counted what the last before it has
grown_counted : (work : WorkView) (ends : List WaveEnd) (first : Waved) (line : TurnLine)
    → AreFirstWaves work ends first → line ≡ grown_line work.setting.weights work.setting.k first.rest.line
    → counted line ≡ end_behind no_rows ends
grown_counted work ends first line are is = ap counted is ∙ are.behind.counts

-- the waves before and since are those of a run with a growth
grown_are : (work : WorkView) (wave : ℕ) (ends : List WaveEnd) (first : Waved) (line : TurnLine) (since : Waved)
    → wave ≤ length ends → AreFirstWaves work (take wave ends) first
    → AreWavesGrown work first.trail first.rest.line (drop wave ends) line since
    → AreGrownWaves work wave ends
    (record { before = first.run; line = line; since = since.run; trail = since.trail })
grown_are work wave ends first line since split are grown =
    let here = waves_pairs work.input no_rows (take wave ends) in
    let there = waves_pairs work.input (end_behind no_rows (take wave ends)) (drop wave ends) in
    let more = grown.waves in
    let pairs_since : since.run.pairs ≡ there =
    more.pairs ∙ ap (λ l. waves_pairs work.input (counted l) (drop wave ends)) grown.from
    ∙ ap (λ e. waves_pairs work.input e (drop wave ends))
    (grown_counted work (take wave ends) first line are grown.line_is) in
    record {
      split = split;
      left = first.trail;
      first = are.all;
      line_is = grown.line_is ∙ ap (grown_line work.setting.weights work.setting.k) are.behind.line_is;
      rest = rest_of grown.rest;
      from = grown.from;
      stands = grown.stands.stands;
      journals = more.journals;
      trails = more.trails;
      onward = more.went;
      since_is = more.run ∙ ap (λ l. waves_since work.input work.setting l (drop wave ends) more.journals) grown.from;
      pairs = ap₂ (λ p q. p ++ q) are.all.pairs pairs_since ∙ pairs_of_both wave work.input no_rows ends;
      trail_is = more.trail;
    }

module _ (work grown : WorkView) where
  -- waves that went on from the grown rest, by the setting as the code has it
  pub waves_since_growth : (trail : List EndsView) (rest : Left) (last : TurnLine)
      (ends : List WaveEnd) (since : Waved) → rest.line ≡ grown_line work.setting.weights work.setting.k last
      → IsRestOf work.input (grown_setting work.setting) rest → grown ≡ grown_work work
      → AreWavesBehind grown (record { run = no_waves grown.setting; trail = trail; rest = rest }) ends since
      → AreWavesGrown work trail last ends rest.line since
  waves_since_growth trail rest last ends since line stands is waves = record {
    line_is = line;
    rest = rest;
    from = refl;
    stands = stands;
    waves = subst (λ w.
        AreWavesBehind w (record { run = no_waves w.setting; trail = trail; rest = rest }) ends since) is waves;
  }

-- and waves may go on from there
pub may_go_on : (work grown : Work) (rest next : Left) (ends : List WaveEnd)
    → next.line ≡ grown_line work.setting.now.weights work.setting.now.k rest.line
    → IsRestOf work.input.now (grown_setting work.setting.now) next → view_of grown ≡ grown_work (view_of work)
    → MayGoThrough work rest ends → MayGoThrough grown next ends
may_go_on work grown rest next ends line stands is may =
    let early = may.early in
    let same : next.line.epoch ≡ rest.line.epoch = ap (λ (l : TurnLine). l.epoch) line in
    record {
      ahead = subst (λ (w : WorkView). AreAhead w.input (counted next.line) ends) (sym is)
          (subst (λ e. AreAhead work.input.now e ends) (sym (ap counted line)) may.ahead);
      stands = subst (λ (w : WorkView). IsRestOf w.input w.setting next) (sym is) stands;
      early = omega (arith, early, same);
    }

-- ---- the ends, split

module _ (work : Work) (wave : ℕ) (ends early later : List WaveEnd) (split : IsSplitAt ends wave early later) where
  -- the first of them are few, one behind the other
  pub split_early : AreFewWaves work.input.now ends → AreFewWaves work.input.now early
  split_early waves =
      let few = waves.few in
      let low = split.0 in
      let size = split.3 in
      record {
        ahead = subst (AreAhead work.input.now no_rows) (sym split.1)
            (ahead_early wave work.input.now no_rows ends waves.ahead);
        few = omega (arith, few, size, low);
      }

  module _ (first : Waved) (are : AreFirstWaves (view_of work) early first) where
    abbrev of_first : AreFirstWaves (view_of work) (take wave ends) first
    of_first = subst (λ es. AreFirstWaves (view_of work) es first) split.1 are

    -- the others may go on from what the first have left
    pub split_behind : AreFewWaves work.input.now ends → MayGoThrough work first.rest later
    split_behind waves =
        let few = waves.few in
        let epochs = are.behind.few in
        let early_size = split.3 in
        let later_size = split.4 in
        let none : (first_rest work.setting.now).line.epoch ≡ 0 = refl in
        record {
          ahead = subst (λ e. AreAhead work.input.now e later) (sym of_first.behind.counts)
              (subst (AreAhead work.input.now (end_behind no_rows (take wave ends))) (sym split.2)
              (ahead_later wave work.input.now no_rows ends waves.ahead));
          stands = are.stands;
          early = omega (arith, epochs, none, few, early_size, later_size);
        }

    -- and with a growth between them all are the waves of a run
    pub split_grown : (line : TurnLine) (since : Waved)
        → AreWavesGrown (view_of work) first.trail first.rest.line later line since
        → AreGrownWaves (view_of work) wave ends
        (record { before = first.run; line = line; since = since.run; trail = since.trail })
    split_grown line since grown =
        grown_are (view_of work) wave ends first line since split.0 of_first
        (subst (λ es. AreWavesGrown (view_of work) first.trail first.rest.line es line since) split.2 grown)

-- What early output has written, from the lines of the pairs to the report.
use Rattle.std.proofs.Common.{◌≡◌, ◌∙◌, ◌+◌, inl, inr, ℕ, Bool, true, false, List, [], ◌++◌, append_assoc, length}
use Rattle.std.proofs.Common.{length-append, take, arith, Option, None, Some, refl, sym, ap, subst}
use Rattle.std.specs.Prelude.{IsPermutation}
use Rattle.std.specs.Io.KnownBytes.{append_known}
use Rattle.std.proofs.Math.Seq.{take-append-add}
use Rattle.std.proofs.lemmas.List.Sorted.{IsPermutation-refl}
use Rattle.epoch_tags.specs.declared.tuple.Pair.{Pair}
use Rattle.join_rows.specs.Sinks.{AppendsFront}
use Rattle.trace_law.specs.declared.input.Input.{Input}
use Rattle.trace_law.specs.declared.run.Run.{Run}
use Rattle.trace_law.specs.Join.{nested_loop}
use Rattle.trace_law.proofs.First.{all_pairs}
use Rattle.join_report.specs.PairLines.{pair_lines}
use Rattle.load_controller.specs.declared.line.TurnLine.{TurnLine}
use Rattle.join_runtime.specs.Early.{WroteEach, WroteSome}
use Rattle.join_words.specs.Words.{Asked, AskedKind, early, in_chain, in_groups, in_waves, is_early, over_rings}
use Rattle.join_plan.specs.declared.fitting.Planned.{Planned}
use Rattle.join_cli.specs.Early.{CutFound, IsFoundText, IsOutput, PutFound, PutPart, StoppedAt, TakesFound}
use Rattle.join_cli.specs.Early.{WroteCut, WroteLines, WroteOutput}
use Rattle.join_cli.specs.Ends.{ConcludesBy, IsMade, TakesEach}
use Rattle.join_cli.specs.declared.outcome.Outcome.{Outcome}
use Rattle.join_cli.specs.Plan.{input_of, report_asked, setting_of}
use Rattle.join_cli.specs.Works.{IsWorkOf}
use Rattle.join_cli.specs.declared.work.Work.{Work}
use Rattle.join_report.proofs.Pieces.{known-none}
use Rattle.join_runtime.specs.Endings.{EndsView}
use Rattle.join_cli.specs.Courses.{Course, IsCourseOf, WentBy, WentSo, by_run}
use Rattle.join_cli.specs.Threads.{IsRunInThreads}
use Rattle.join_cli.proofs.Inputs.{course_of_run}
use Rattle.join_cli.specs.Works.{IsWholeRun, WorkView}
use Rattle.actor_core.specs.Tasks.{task_of}
use Rattle.join_cli.proofs.Inputs.{view_is}

-- bytes, and more behind them
behind : (known : Option (List ℕ)) (xs ys : List ℕ) → append_known (append_known known xs) ys
    ≡ append_known known (xs ++ ys)
behind None xs ys = refl
behind (Some bytes) xs ys = ap Some (append_assoc bytes xs ys)

front_behind : (old middle new : Option (List ℕ)) (xs ys : List ℕ) → middle ≡ append_known old xs
    → AppendsFront middle new ys → AppendsFront old new (xs ++ ys)
front_behind old middle new xs ys is (n, front) = (
  length xs + n,
  front ∙ ap (λ m. append_known m (take n ys)) is ∙ behind old xs (take n ys)
      ∙ ap (append_known old) (sym (take-append-add xs ys n)),
)

-- the lines of a run's pairs are those of the nested loop's, in another order
reordered : (work : Work) (run : Run) (order : List Pair) → IsWholeRun work run → IsPermutation run.pairs order
    → IsPermutation (nested_loop work.input.now) order
reordered work run order is each = subst (λ pairs. IsPermutation pairs order)
    (is.pairs ∙ all_pairs work.input.now work.setting.now) each

module _ (report : Bool) (work : Work) (run : Run) (is_run : IsWholeRun work run) (old middle new : Option (List ℕ))
    (wrote : WroteEach run.pairs old middle) where
  -- the report behind them
  abbrev lines : List ℕ
  lines = report_asked report work.input.now work.setting.now run.journal

  found_text : IsFoundText report work.input.now work.setting.now run.journal (pair_lines wrote.order ++ lines)
  found_text = record { found = wrote.order; all = reordered work run wrote.order is_run wrote.each; is = refl }

  -- the lines of all pairs, and the report behind them, are the whole
  pub put_whole : new ≡ append_known middle lines
      → PutFound report work.input.now work.setting.now run.journal old new
  put_whole more = record {
    text = pair_lines wrote.order ++ lines;
    is = found_text;
    written = more ∙ ap (λ m. append_known m lines) wrote.written ∙ behind old (pair_lines wrote.order) lines;
  }

  -- and a front of the report behind them is a front of the whole
  pub put_cut : (trail : List EndsView) → IsRunInThreads (task_of work.input.now work.setting.now) run.journal trail
      → AppendsFront middle new lines → CutFound report work.input.now work.setting.now old new
  put_cut trail went front = record {
    run = run;
    trail = trail;
    is_run = is_run;
    went = went;
    text = pair_lines wrote.order ++ lines;
    is = found_text;
    front = front_behind old middle new (pair_lines wrote.order) lines wrote.written front;
  }

-- nothing was written
pub none_written : (input : Input) (old : Option (List ℕ)) → WroteSome input old old
none_written input old = record {
  pairs = [];
  right = record { sums = λ f. omega arith };
  front = (0, sym (known-none old));
}

-- nothing is what was written so far
pub nothing_written : (early : Bool) (asked : Asked) (planned : Planned) (old : Option (List ℕ))
    → WroteLines early asked planned old old
nothing_written false asked planned old = refl
nothing_written true asked planned old = none_written (input_of asked.seed planned) old

-- ---- by what is asked for

-- a run in threads is one of early pairs
by_threads : (kind : AskedKind) (asked : Asked) (planned : Planned) (journal : List TurnLine) (trail : List EndsView)
    → is_early kind ≡ true → IsCourseOf None asked planned journal trail
    → WentBy kind asked planned (by_run journal trail)
by_threads (early grid) asked planned journal trail wanted course = course
by_threads (in_waves grid replay later grow) asked planned journal trail wanted course = absurd (cc wanted)
by_threads (in_groups joiners) asked planned journal trail wanted course = absurd (cc wanted)
by_threads (over_rings grid) asked planned journal trail wanted course = absurd (cc wanted)
by_threads (in_chain grid chain) asked planned journal trail wanted course = absurd (cc wanted)

-- and what was found is its output
by_found : (kind : AskedKind) (asked : Asked) (planned : Planned) (journal : List TurnLine) (trail : List EndsView)
    (text : List ℕ) → is_early kind ≡ true
    → IsFoundText asked.report (input_of asked.seed planned) (setting_of asked) journal text
    → IsOutput kind asked planned (by_run journal trail) text
by_found (early grid) asked planned journal trail text wanted is = is
by_found (in_waves grid replay later grow) asked planned journal trail text wanted is = absurd (cc wanted)
by_found (in_groups joiners) asked planned journal trail text wanted is = absurd (cc wanted)
by_found (over_rings grid) asked planned journal trail text wanted is = absurd (cc wanted)
by_found (in_chain grid chain) asked planned journal trail text wanted is = absurd (cc wanted)

-- a front of the output that is asked for was written where a put failed
pub cut_stopped : (early : Bool) (asked : Asked) (planned : Planned) (old new : Option (List ℕ))
    → WroteCut asked planned old new → StoppedAt early asked planned old new
cut_stopped false asked planned old new cut = cut
cut_stopped true asked planned old new cut = inr cut

module _ (asked : Asked) (planned : Planned) (work : Work) (input_is : work.input.now ≡ input_of asked.seed planned)
    (of : IsWorkOf asked work) (wanted : is_early asked.kind ≡ true) where
  -- a run in threads went so as was asked for
  pub went_early : (run : Run) (trail : List EndsView) → IsWholeRun work run
      → IsRunInThreads (task_of work.input.now work.setting.now) run.journal trail
      → WentSo asked planned (by_run run.journal trail)
  went_early run trail is went =
      by_threads asked.kind asked planned run.journal trail wanted
      (course_of_run asked planned work input_is of None run trail is went)

  -- and what it found is the output that is asked for
  found_output : (journal : List TurnLine) (trail : List EndsView) (text : List ℕ)
      → IsFoundText asked.report work.input.now work.setting.now journal text
      → IsOutput asked.kind asked planned (by_run journal trail) text
  found_output journal trail text is =
      by_found asked.kind asked planned journal trail text wanted
      (subst (λ (w : WorkView). IsFoundText asked.report w.input w.setting journal text)
      (view_is asked planned work input_is of) is)

  -- early output that was put whole is the output that is asked for
  pub early_written : (journal : List TurnLine) (trail : List EndsView) (old new : Option (List ℕ))
      → PutFound asked.report work.input.now work.setting.now journal old new
      → WroteOutput asked planned (by_run journal trail) old new
  early_written journal trail old new put =
      record { text = put.text; output = found_output journal trail put.text put.is; written = put.written }

  -- early output that stopped, of what is asked for
  pub early_stopped : (old new : Option (List ℕ)) → PutPart asked.report work.input.now work.setting.now old new
      → StoppedAt (is_early asked.kind) asked planned old new
  early_stopped old new put =
      subst (λ e. StoppedAt e asked planned old new) (sym wanted) (elim put [
        | inl some ↦ inl (subst (λ i. WroteSome i old new) input_is some)
        | inr cut ↦ inr (record {
          way = by_run cut.run.journal cut.trail;
          course = went_early cut.run cut.trail cut.is_run cut.went;
          text = cut.text;
          output = found_output cut.run.journal cut.trail cut.text cut.is;
          front = cut.front;
        })
      ])

  -- a sink that takes each output that is asked for takes the early one
  pub early_takes : (takes : ℕ → Type 0) → TakesEach takes asked planned
      → TakesFound takes asked.report work.input.now work.setting.now
  early_takes takes each =
      let pairs = nested_loop work.input.now in
      record {
        lines = subst (λ i. takes (length (pair_lines (nested_loop i)) + 0)) (sym input_is)
            (subst takes (plus_none (length (pair_lines (nested_loop (input_of asked.seed planned)))))
            (each.early wanted));
        each = λ run trail is went.
            let lines = report_asked asked.report work.input.now work.setting.now run.journal in
            let text = pair_lines pairs ++ lines in
            let found : IsFoundText asked.report work.input.now work.setting.now run.journal text =
            record { found = pairs; all = IsPermutation-refl pairs; is = refl } in
            subst takes (two_parts (pair_lines pairs) lines)
            (each.each (by_run run.journal trail) text (went_early run trail is went)
            (found_output run.journal trail text found));
      }
    where
      plus_none : (n : ℕ) → n ≡ n + 0
      plus_none n = omega arith

      two_parts : (xs ys : List ℕ) → length (xs ++ ys) ≡ length xs + (length ys + 0)
      two_parts xs ys = omega (arith, length-append xs ys)

-- ---- an output that was made whole

-- what was made was written
pub whole_written : (asked : Asked) (planned : Planned) (text : List ℕ) (old new : Option (List ℕ)) (outcome : Outcome)
    (way : Option Course) → IsMade asked planned text way → new ≡ append_known old text
    → ConcludesBy asked planned old new outcome way
whole_written asked planned text old new outcome None made written = absurd made
whole_written asked planned text old new outcome (Some way) made written =
    (made.0, record { text = text; output = made.1; written = written })

-- an output that was made whole and of which a front was written
pub whole_stopped : (asked : Asked) (planned : Planned) (text : List ℕ) (old new : Option (List ℕ))
    (way : Option Course) → IsMade asked planned text way → AppendsFront old new text
    → StoppedAt (is_early asked.kind) asked planned old new
whole_stopped asked planned text old new None made front = absurd made
whole_stopped asked planned text old new (Some way) made front =
    cut_stopped (is_early asked.kind) asked planned old new
    (record { way = way; course = made.0; text = text; output = made.1; front = front })

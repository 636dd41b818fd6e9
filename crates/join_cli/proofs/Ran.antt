-- What a status says.
use Rattle.std.proofs.Common.{◌≡◌, ◌≢◌, ◌∙◌, ℕ, List, Some, ap, refl, sym, arith}
use Rattle.join_rows.specs.declared.shelf.Shelf.{Ghosts as ShelfGhosts}
use Rattle.join_rows.specs.declared.sink.Sink.{Ghosts as SinkGhosts}
use Rattle.join_cli.specs.declared.outcome.Outcome.{Outcome}
use Rattle.join_cli.specs.declared.outcome.Outcome.TheVariants as outcomes
use Rattle.join_cli.specs.ExitStatus.{status_of}
use Rattle.join_cli.specs.Programs.{WroteBy, WroteOver}
use Rattle.join_cli.specs.Courses.{Course, by_chain, by_groups, by_rings, by_run}
use Rattle.join_cli.specs.Ends.{IsDone, course_of}
use Rattle.join_cli.specs.Promises.{RanAs}

-- a run that ended with status 0 wrote the output
pub ran_by : {H K : Type 0} (h : ShelfGhosts H) (k : SinkGhosts K) (words : List (List ℕ))
    (old new : H) (before after : K) (IsTold : Outcome → Type 0) (status : ℕ)
    → RanAs h k words old new before after IsTold status → status ≡ 0
    → WroteBy words (h.told old) (k.written before) (k.written after)
ran_by h k words old new before after IsTold status ran = λ zero.
    by ran.outcome (sym ran.is ∙ zero) ran.promises.done
  where
    by : (outcome : Outcome) → status_of outcome ≡ 0
        → ((way : Course) → course_of outcome ≡ Some way
        → WroteOver words (h.told old) way (k.written before) (k.written after))
        → WroteBy words (h.told old) (k.written before) (k.written after)
    by (outcomes.Done journal trail) e done =
        record { way = by_run journal trail; over = done (by_run journal trail) refl }
    by (outcomes.DoneGroups journals trail) e done =
        record { way = by_groups journals trail; over = done (by_groups journals trail) refl }
    by (outcomes.DoneChain first second trail) e done =
        record { way = by_chain first second trail; over = done (by_chain first second trail) refl }
    by (outcomes.DoneRings journal ends back) e done =
        record { way = by_rings journal ends back; over = done (by_rings journal ends back) refl }
    by (outcomes.Words fault) e done = absurd (omega (arith, e))
    by (outcomes.Predicate fault) e done = absurd (omega (arith, e))
    by (outcomes.Then fault) e done = absurd (omega (arith, e))
    by (outcomes.Input fault) e done = absurd (omega (arith, e))
    by (outcomes.Limit fault) e done = absurd (omega (arith, e))
    by outcomes.Read e done = absurd (omega (arith, e))
    by outcomes.Write e done = absurd (omega (arith, e))
    by outcomes.Memory e done = absurd (omega (arith, e))

-- an outcome that is done has the status 0
done_status : (outcome : Outcome) → IsDone outcome → status_of outcome ≡ 0
done_status (outcomes.Done journal trail) done = refl
done_status (outcomes.DoneGroups journals trail) done = refl
done_status (outcomes.DoneChain first second trail) done = refl
done_status (outcomes.DoneRings journal ends back) done = refl
done_status (outcomes.Words fault) done = absurd done
done_status (outcomes.Predicate fault) done = absurd done
done_status (outcomes.Then fault) done = absurd done
done_status (outcomes.Input fault) done = absurd done
done_status (outcomes.Limit fault) done = absurd done
done_status outcomes.Read done = absurd done
done_status outcomes.Write done = absurd done
done_status outcomes.Memory done = absurd done

-- a run that ended with a status of a refusal left the sink as it was
pub ran_without : {H K : Type 0} (h : ShelfGhosts H) (k : SinkGhosts K) (words : List (List ℕ))
    (old new : H) (before after : K) (IsTold : Outcome → Type 0) (status : ℕ)
    → RanAs h k words old new before after IsTold status → status ≢ 0 → status ≢ 7 → status ≢ 8 → after ≡ before
ran_without h k words old new before after IsTold status ran = λ some other memory.
    ran.promises.leaves.nothing
    (λ done. some (ran.is ∙ done_status ran.outcome done))
    (λ e. other (ran.is ∙ ap status_of e))
    (λ e. memory (ran.is ∙ ap status_of e))

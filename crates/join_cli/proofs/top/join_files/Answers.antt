use Rattle.std.proofs.Common.{◌∙◌, rules, inl, inr, sym, subst, arith}
use Rattle.join_words.specs.Words.{asked}
use Rattle.join_plan.specs.declared.fault.Refusal.TheVariants as refusals
use Rattle.join_plan.specs.declared.fault.LimitFault.TheVariants.{TooLong}
use Rattle.join_plan.specs.Causes.{Refuses}
use Rattle.join_plan.specs.declared.refusal_of_fault.Which.TheVariants.{On, Then}
use Rattle.join_cli.specs.Chain.{IsFewBetween}
use Rattle.join_cli.specs.Ends.{Concludes, TakesEach}
use Rattle.join_cli.proofs.Ends.{complete_made, complete_refused, concludes_well, ends_concluded, ends_refused, wrote}
use Rattle.join_cli.proofs.Ends.{wrote_front, wrote_so_far}
use Rattle.join_cli.proofs.Seen.{end_concluded, end_refused, other_outcome}
use Rattle.join_cli.proofs.Told.{no_course, no_words, no_write, none_is_some, refused_early, was}
use Rattle.join_report.proofs.Puts.{PutsSome-refl}
use Rattle.join_cli.proofs.top.join_files.Goals as goal

-- a plan that was carried out
pub returns-in-Ok : goal.returns-in-Ok
returns-in-Ok g c = record {
  words = λ fault is.
      subst (Concludes (asked c.args.options.now) c.in-Ok.planned (g.K.Sink.written c.args.sink.now)
      (g.K.Sink.written c.conclude.new.sink))
      is c.conclude.ensures.ends;
  answers = record {
    early = λ fault is. absurd (c.in-Ok.ensures.early fault is).0;
    further_early = λ tree chain fault reads is wrong.
        absurd (c.in-Ok.ensures.further_early tree chain fault reads is wrong).0;
    answer = λ same same_sink.
        ends_concluded (g.H.Shelf.told c.args.shelf.now) (asked c.args.options.now) c.in-Ok.planned
        (g.K.Sink.written c.args.sink.now) (g.K.Sink.written c.conclude.new.sink) c.conclude.result
        c.conclude.ensures.ends
        (λ put. let rose = c.conclude.ensures.fails put in omega (arith, rose, same_sink))
        (λ files told. c.in-Ok.ensures.answer files told same);
    seen = λ read memory.
        end_concluded (g.H.Shelf.told c.args.shelf.now) (g.H.Shelf.picked c.prepare.new.shelf)
        (asked c.args.options.now)
        (g.K.Sink.written c.args.sink.now) (g.K.Sink.written c.conclude.new.sink) c.in-Ok.planned c.conclude.result
        (c.in-Ok.ensures.seen (λ e. cc e) (λ e. cc e)) c.conclude.ensures.ends;
    made = λ count is. (
      c.in-Ok.ensures.made count is,
      λ read. subst (Concludes (asked c.args.options.now) c.in-Ok.planned (g.K.Sink.written c.args.sink.now)
          (g.K.Sink.written c.conclude.new.sink)) read c.conclude.ensures.ends,
    );
    complete = λ enough sound.
        let own = asked c.args.options.now in
        let made = complete_made own enough.files c.in-Ok.planned enough.planned
        (c.in-Ok.ensures.answer enough.files enough.tells (c.in-Ok.ensures.sound sound).1) enough.plan in
        c.conclude.ensures.complete (subst (TakesEach (g.K.Sink.takes c.args.sink.now) own) (sym made) enough.taken)
        (subst (IsFewBetween own) (sym made) enough.few);
  };
  causes = record {
    text = λ fault is.
        absurd (subst (Concludes (asked c.args.options.now) c.in-Ok.planned (g.K.Sink.written c.args.sink.now)
        (g.K.Sink.written c.conclude.new.sink)) is c.conclude.ensures.ends);
    further_text = λ fault is.
        absurd (subst (Concludes (asked c.args.options.now) c.in-Ok.planned (g.K.Sink.written c.args.sink.now)
        (g.K.Sink.written c.conclude.new.sink)) is c.conclude.ensures.ends);
    long = λ side wave is.
        absurd (subst (Concludes (asked c.args.options.now) c.in-Ok.planned (g.K.Sink.written c.args.sink.now)
        (g.K.Sink.written c.conclude.new.sink)) is c.conclude.ensures.ends);
    read = λ is.
        absurd (subst (Concludes (asked c.args.options.now) c.in-Ok.planned (g.K.Sink.written c.args.sink.now)
        (g.K.Sink.written c.conclude.new.sink)) is c.conclude.ensures.ends);
    memory =
        wrote_so_far (g.H.Shelf.told c.args.shelf.now) (asked c.args.options.now) c.in-Ok.planned
        (g.K.Sink.written c.args.sink.now) (g.K.Sink.written c.conclude.new.sink)
        c.conclude.result c.in-Ok.ensures.asked
        c.conclude.ensures.ends;
    spared = search rules;
  };
  leaves = record {
    told = search rules;
    sound = search rules;
    shelf_counts = search rules;
    sink_counts = search rules;
    write = search rules;
    left = search rules;
    nothing = λ done write memory.
        elim (concludes_well (asked c.args.options.now) c.in-Ok.planned (g.K.Sink.written c.args.sink.now)
        (g.K.Sink.written c.conclude.new.sink) c.conclude.result c.conclude.ensures.ends) [
          | inl is_done ↦ absurd (done is_done)
          | inr other ↦ elim other [
            | inl is ↦ absurd (write is)
            | inr stopped ↦ elim stopped [
              | inl is ↦ absurd (memory is)
              | inr many ↦ c.conclude.ensures.between many.0 many.1
            ]
          ]
        ];
  };
  done =
      wrote (g.H.Shelf.told c.args.shelf.now) (asked c.args.options.now) c.in-Ok.planned
      (g.K.Sink.written c.args.sink.now) (g.K.Sink.written c.conclude.new.sink) c.conclude.result c.in-Ok.ensures.asked
      c.conclude.ensures.ends;
  front =
      wrote_front (g.H.Shelf.told c.args.shelf.now) (asked c.args.options.now) c.in-Ok.planned
      (g.K.Sink.written c.args.sink.now) (g.K.Sink.written c.conclude.new.sink) c.conclude.result c.in-Ok.ensures.asked
      c.conclude.ensures.ends;
}

-- a refusal
pub returns-in-Err : goal.returns-in-Err
returns-in-Err g c = record {
  words = λ fault is.
      no_words c.in-Err.refusal fault (sym c.refused.ensures ∙ is);
  answers = record {
    early = λ fault is.
        let told = c.in-Err.ensures.early fault is in
        (rw c.refused.ensures (refused_early On fault c.in-Err.refusal told.0), told.1);
    further_early = λ tree chain fault reads is wrong.
        let told = c.in-Err.ensures.further_early tree chain fault reads is wrong in
        (rw c.refused.ensures (refused_early Then fault c.in-Err.refusal told.0), told.1);
    answer = λ same same_sink.
        rw c.refused.ensures
        (ends_refused (g.H.Shelf.told c.args.shelf.now) (asked c.args.options.now) c.in-Err.refusal
        (λ files told. c.in-Err.ensures.answer files told same));
    seen = λ read memory.
        rw c.refused.ensures
        (end_refused (g.H.Shelf.told c.args.shelf.now) (g.H.Shelf.picked c.prepare.new.shelf) (asked c.args.options.now)
        (g.K.Sink.written c.args.sink.now) c.in-Err.refusal
        (c.in-Err.ensures.seen (other_outcome c.in-Err.refusal refusals.Read (λ e. read (c.refused.ensures ∙ e)))
        (other_outcome c.in-Err.refusal refusals.Memory (λ e. memory (c.refused.ensures ∙ e)))));
    made = λ count is. (
      c.in-Err.ensures.made count is,
      λ read. none_is_some count is
          (subst (Refuses (g.H.Shelf.faults c.args.shelf.now) (g.H.Shelf.faults c.prepare.new.shelf)
          (g.H.Shelf.told c.args.shelf.now) (g.H.Shelf.picked c.prepare.new.shelf) (asked c.args.options.now))
          (was c.in-Err.refusal refusals.Read (sym c.refused.ensures ∙ read)) c.in-Err.ensures.refused).0,
    );
    complete = λ enough sound.
        rw c.refused.ensures
        (complete_refused (asked c.args.options.now) enough.files c.in-Err.refusal enough.planned
        (c.in-Err.ensures.answer enough.files enough.tells (c.in-Err.ensures.sound sound).1) enough.plan);
  };
  causes = record {
    text = λ fault is.
        subst (Refuses (g.H.Shelf.faults c.args.shelf.now) (g.H.Shelf.faults c.prepare.new.shelf)
        (g.H.Shelf.told c.args.shelf.now) (g.H.Shelf.picked c.prepare.new.shelf) (asked c.args.options.now))
        (was c.in-Err.refusal (refusals.Predicate fault) (sym c.refused.ensures ∙ is)) c.in-Err.ensures.refused;
    further_text = λ fault is.
        subst (Refuses (g.H.Shelf.faults c.args.shelf.now) (g.H.Shelf.faults c.prepare.new.shelf)
        (g.H.Shelf.told c.args.shelf.now) (g.H.Shelf.picked c.prepare.new.shelf) (asked c.args.options.now))
        (was c.in-Err.refusal (refusals.Then fault) (sym c.refused.ensures ∙ is)) c.in-Err.ensures.refused;
    long = λ side wave is.
        subst (Refuses (g.H.Shelf.faults c.args.shelf.now) (g.H.Shelf.faults c.prepare.new.shelf)
        (g.H.Shelf.told c.args.shelf.now) (g.H.Shelf.picked c.prepare.new.shelf) (asked c.args.options.now))
        (was c.in-Err.refusal (refusals.Limit (TooLong side wave)) (sym c.refused.ensures ∙ is))
        c.in-Err.ensures.refused;
    read = λ is.
        (subst (Refuses (g.H.Shelf.faults c.args.shelf.now) (g.H.Shelf.faults c.prepare.new.shelf)
        (g.H.Shelf.told c.args.shelf.now) (g.H.Shelf.picked c.prepare.new.shelf) (asked c.args.options.now))
        (was c.in-Err.refusal refusals.Read (sym c.refused.ensures ∙ is)) c.in-Err.ensures.refused).1;
    memory = search rules;
    spared = search rules;
  };
  leaves = record {
    told = search rules;
    sound = search rules;
    shelf_counts = λ read.
        c.in-Err.ensures.counts (other_outcome c.in-Err.refusal refusals.Read (λ e. read (c.refused.ensures ∙ e)));
    sink_counts = search rules;
    write = λ is. absurd (no_write c.in-Err.refusal (sym c.refused.ensures ∙ is));
    left = PutsSome-refl (g.K.Sink.written c.args.sink.now) (g.K.Sink.takes c.args.sink.now);
    nothing = search rules;
  };
  done = λ way.
      rw c.refused.ensures (λ is. absurd (no_course c.in-Err.refusal way is));
  front = λ is.
      absurd (no_write c.in-Err.refusal (sym c.refused.ensures ∙ is));
}

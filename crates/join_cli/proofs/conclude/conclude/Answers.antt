use Rattle.std.proofs.Common.{inl, rules, subst}
use Rattle.join_words.specs.Words.{asked}
use Rattle.join_cli.specs.Ends.{IsMade, course_of}
use Rattle.join_cli.proofs.EarlyOutput.{whole_stopped, whole_written}
use Rattle.join_cli.proofs.Ends.{halted_concludes, halted_few, halted_no_write, made_done, takes_made}
use Rattle.join_report.proofs.Puts.{PutsSome-front, PutsSome-refl}
use Rattle.join_cli.proofs.conclude.conclude.Goals as goal

-- no text was made
pub returns-in-Err : goal.returns-in-Err
returns-in-Err g c = record {
  ends =
      halted_concludes (asked c.args.options.now) c.args.planned (g.K.Sink.written c.args.sink.now)
      c.in-Err.outcome c.in-Err.ensures;
  nothing = search rules;
  counts = search rules;
  fails = λ is.
      absurd (halted_no_write (asked c.args.options.now) c.args.planned c.in-Err.outcome c.in-Err.ensures is);
  between = search rules;
  complete = λ takes few.
      halted_few (asked c.args.options.now) c.args.planned c.in-Err.outcome c.in-Err.ensures few;
  left = PutsSome-refl (g.K.Sink.written c.args.sink.now) (g.K.Sink.takes c.args.sink.now);
}

-- it was made and written
pub returns-in-Ok-put : goal.returns-in-Ok-put
returns-in-Ok-put g c = record {
  ends =
      whole_written (asked c.args.options.now) c.args.planned c.as_slice.result.now (g.K.Sink.written c.args.sink.now)
      (g.K.Sink.written c.put_all-put.new.sink) c.in-Ok.joined.done (course_of c.in-Ok.joined.done)
      (rw c.as_slice.ensures c.in-Ok.ensures) c.in-Ok-put.ensures.written;
  -- what was made is no refusal
  nothing = λ whole is.
      absurd (subst (λ o. IsMade (asked c.args.options.now) c.args.planned c.in-Ok.joined.text (course_of o))
      is c.in-Ok.ensures);
  counts = search rules;
  fails = λ is.
      absurd (subst (λ o. IsMade (asked c.args.options.now) c.args.planned c.in-Ok.joined.text (course_of o))
      is c.in-Ok.ensures);
  between = λ pairs is.
      absurd (subst (λ o. IsMade (asked c.args.options.now) c.args.planned c.in-Ok.joined.text (course_of o))
      is c.in-Ok.ensures);
  complete = λ takes few.
      inl (made_done (asked c.args.options.now) c.args.planned c.in-Ok.joined.text (course_of c.in-Ok.joined.done)
      c.in-Ok.ensures);
  left = search rules;
}

-- a put failed
pub returns-in-Err-put : goal.returns-in-Err-put
returns-in-Err-put g c = record {
  ends =
      whole_stopped (asked c.args.options.now) c.args.planned c.as_slice.result.now (g.K.Sink.written c.args.sink.now)
      (g.K.Sink.written c.put_all-put.new.sink) (course_of c.in-Ok.joined.done)
      (rw c.as_slice.ensures c.in-Ok.ensures) c.in-Err-put.ensures.front;
  nothing = search rules;
  counts = search rules;
  fails = search rules;
  between = search rules;
  complete = λ takes few.
      absurd (cc (c.in-Err-put.ensures.takes 0
      (takes_made (g.K.Sink.takes c.args.sink.now) (asked c.args.options.now) c.args.planned c.as_slice.result.now
      (course_of c.in-Ok.joined.done) (rw c.as_slice.ensures c.in-Ok.ensures) takes)).0);
  left =
      PutsSome-front (g.K.Sink.written c.args.sink.now) (g.K.Sink.written c.put_all-put.new.sink)
      (g.K.Sink.takes c.args.sink.now) (g.K.Sink.takes c.put_all-put.new.sink)
      c.as_slice.result.now c.in-Err-put.ensures.left;
}

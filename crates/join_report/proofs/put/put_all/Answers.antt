use Rattle.std.proofs.Common.{◌≡◌, ◌≤◌, ◌+◌, ◌-◌, ◌∙◌, length, take, drop, arith, refl, rules, subst, sym}
use Rattle.join_report.proofs.Pieces.{piece_put, piece_cut, piece_failed, piece_room}
use Rattle.join_report.proofs.put.put_all.Goals as goal

pub returns-in_err-put-clause-front : goal.returns-in_err-put-clause-front
returns-in_err-put-clause-front g c =
    let front = piece_cut (g.K.Sink.written c.args.sink.now) (g.K.Sink.written c.loop-place.sink)
    (g.K.Sink.written c.put.new.self) c.args.bytes.now c.loop-place.place c.min-end.result
    c.loop-place.invariant.written c.in_err-put.ensures.front in
    search (rules, front)

pub loop-place-preserved : goal.loop-place-preserved
loop-place-preserved g c =
    let before : c.loop-place.place ≤ c.min-end.result = omega arith in
    record {
      within = omega arith;
      written = piece_put (g.K.Sink.written c.args.sink.now) (g.K.Sink.written c.loop-place.sink)
          (g.K.Sink.written c.put.new.self) c.args.bytes.now c.loop-place.place c.min-end.result
          before c.loop-place.invariant.written c.in_ok-put.ensures.puts;
      counts = c.in_ok-put.ensures.counts ∙ c.loop-place.invariant.counts;
      left = λ more h.
          let room = piece_room c.args.bytes.now c.loop-place.place c.min-end.result more before (omega arith) in
          (c.in_ok-put.ensures.takes more
          (c.loop-place.invariant.left (length (take (c.min-end.result - c.loop-place.place)
          (drop c.loop-place.place c.args.bytes.now)) + more)
          (subst (g.K.Sink.takes c.args.sink.now) (sym room) h))).1;
    }

pub returns-in_err-put-clause-takes : goal.returns-in_err-put-clause-takes
returns-in_err-put-clause-takes g c more h =
    let before : c.loop-place.place ≤ c.min-end.result = omega arith in
    let rest = length c.args.bytes.now - c.min-end.result + more in
    let room : c.loop-place.place
    + (length (take (c.min-end.result - c.loop-place.place) (drop c.loop-place.place c.args.bytes.now)) + rest)
    ≡ length c.args.bytes.now + more =
    piece_room c.args.bytes.now c.loop-place.place c.min-end.result rest before (omega arith) ∙ omega arith in
    absurd (cc (c.in_err-put.ensures.takes rest
    (c.loop-place.invariant.left (length (take (c.min-end.result - c.loop-place.place)
    (drop c.loop-place.place c.args.bytes.now)) + rest) (subst (g.K.Sink.takes c.args.sink.now) (sym room) h))).0)

pub returns-in_err-put-clause-left : goal.returns-in_err-put-clause-left
returns-in_err-put-clause-left g c =
    let failed = piece_failed (g.K.Sink.written c.args.sink.now) (g.K.Sink.written c.loop-place.sink)
    (g.K.Sink.written c.put.new.self)
    (g.K.Sink.takes c.args.sink.now) (g.K.Sink.takes c.loop-place.sink) (g.K.Sink.takes c.put.new.self)
    c.args.bytes.now c.loop-place.place c.min-end.result
    (omega arith) (omega arith) c.loop-place.invariant.written c.loop-place.invariant.left c.in_err-put.ensures.left in
    search (rules, failed)

pub returns-clause-takes : goal.returns-clause-takes
returns-clause-takes g c more h =
    let whole : length c.args.bytes.now ≡ c.loop-place.place = omega arith in
    (refl, c.loop-place.invariant.left more (subst (λ n. g.K.Sink.takes c.args.sink.now (n + more)) whole h))

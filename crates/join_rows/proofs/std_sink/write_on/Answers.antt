use Rattle.join_rows.proofs.Written.{partly-next}
use Rattle.join_rows.proofs.std_sink.write_on.Goals as goal

pub loop-rest-preserved : goal.loop-rest-preserved
loop-rest-preserved g c =
    partly-next (g.W.Write.contents c.args.to.now) (g.W.Write.contents c.loop-rest.to)
    (g.W.Write.contents c.write.new.self) c.args.piece.now c.loop-rest.rest.now c.in-Ok.count c.loop-rest.invariant
    c.in-Ok.ensures.bytes

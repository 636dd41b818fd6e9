use Rattle.actor_core.specs.Numbers.{count_of}
use Rattle.std.proofs.lemmas.Result.{on_ok_weaker}
use Rattle.actor_core.proofs.Seated.{number_low}
use Rattle.link_trace.specs.Worlds.{waiting_of}
use Rattle.link_trace.proofs.Squares.{has_room}
use Rattle.link_trace.proofs.WorldAfter.{post_put}
use Rattle.link_trace.proofs.sending.send.Goals as goal

pub put-requires : goal.put-requires
put-requires c =
    has_room (count_of c.args.cast) (waiting_of c.args.places.now.items) c.number_of-receiver.result
    c.number_of-sender.result c.requires.square
    (number_low c.args.cast c.args.post.to c.number_of-receiver.result c.number_of-receiver.ensures)
    (number_low c.args.cast c.args.from c.number_of-sender.result c.number_of-sender.ensures)

pub returns-clause-waiting : goal.returns-clause-waiting
returns-clause-waiting c =
    on_ok_weaker c.put.result
    (post_put c.args.cast c.args.from c.args.post c.number_of-sender.result
    c.number_of-receiver.result c.number_of-sender.ensures c.number_of-receiver.ensures
    (waiting_of c.args.places.now.items) (waiting_of c.put.new.places.items))
    c.put.ensures.waiting

use Rattle.std.proofs.Common.{◌∙◌, sym}
use Rattle.actor_core.specs.Lists.{Took}
use Rattle.actor_core.proofs.OwnNumbers.{none_some}
use Rattle.link_trace.specs.Worlds.{state_among}
use Rattle.link_trace.proofs.SomeTask.{stands_still}
use Rattle.link_trace.proofs.Squares.{receiver_there}
use Rattle.link_trace.proofs.WorldEvents.{delivered, delivered_square, handed_posts_there, handed_square, received}
use Rattle.link_trace.proofs.world.World.deliver_at.Goals as goal

pub hand-requires-clause-place : goal.hand-requires-clause-place
hand-requires-clause-place c =
    receiver_there c.args.receiver c.args.sender c.in-Some.msg c.args.self.now.places.items c.take.new.places.items
    c.in-Some.ensures.waiting c.take.ensures.cores

pub send_all-requires-clause-square : goal.send_all-requires-clause-square
send_all-requires-clause-square c =
    let self = c.args.self.now in
    let places = c.hand.new.places.items in
    handed_square self.cast c.args.from c.args.to c.args.sender c.args.receiver c.requires.sender c.requires.receiver
    c.in-Some.msg self.places.items c.take.new.places.items places places c.hand.new.sends
    (self.square c.requires.going) (self.stands c.requires.going)
    c.take.ensures.cores c.in-Some.ensures.waiting c.hand.ensures.waiting c.in_ok-hand.ensures.occurs

pub send_all-requires-clause-sender : goal.send_all-requires-clause-sender
send_all-requires-clause-sender c none = none_some c.args.receiver (sym none ∙ c.requires.receiver)

pub send_all-requires-clause-receivers : goal.send_all-requires-clause-receivers
send_all-requires-clause-receivers c =
    let self = c.args.self.now in
    let places = c.hand.new.places.items in
    handed_posts_there self.cast c.args.from c.args.to c.args.sender c.args.receiver c.requires.sender
    c.requires.receiver c.in-Some.msg self.places.items c.take.new.places.items places places c.hand.new.sends
    (self.square c.requires.going) (self.stands c.requires.going)
    c.take.ensures.cores c.in-Some.ensures.waiting c.hand.ensures.waiting c.in_ok-hand.ensures.occurs

pub returns-clause-took : goal.returns-clause-took
returns-clause-took c is =
    let self = c.args.self.now in
    delivered self.cast c.args.from c.args.to c.args.sender c.args.receiver c.requires.sender c.requires.receiver
    c.in-Some.msg self.places.items c.take.new.places.items c.hand.new.places.items c.send_all.new.places.items
    c.hand.new.sends (self.square c.requires.going) (self.stands c.requires.going)
    c.take.ensures.cores c.in-Some.ensures.waiting c.hand.ensures.waiting c.in_ok-hand.ensures.occurs
    c.send_all.ensures.cores c.in_ok-send_all.ensures.waiting

pub invariant_of-self-2 : goal.invariant_of-self-2
invariant_of-self-2 c =
    let self = c.args.self.now in
    let square = self.square c.requires.going in
    let stands = self.stands c.requires.going in
    record {
      square = λ going. delivered_square self.cast c.args.from c.args.to c.args.sender c.args.receiver c.requires.sender
          c.requires.receiver c.in-Some.msg self.places.items c.take.new.places.items c.hand.new.places.items
          c.send_all.new.places.items c.hand.new.sends square stands
          c.take.ensures.cores c.in-Some.ensures.waiting c.hand.ensures.waiting c.in_ok-hand.ensures.occurs
          c.send_all.ensures.cores c.in_ok-send_all.ensures.waiting;
      stands = λ going. stands_still c.args.to (Took c.args.from c.in-Some.msg)
          (state_among self.cast self.places.items) (state_among self.cast c.send_all.new.places.items)
          (received self.cast c.args.from c.args.to c.args.sender c.args.receiver c.requires.sender
          c.requires.receiver c.in-Some.msg self.places.items c.take.new.places.items c.hand.new.places.items
          c.send_all.new.places.items c.hand.new.sends square stands
          c.take.ensures.cores c.in-Some.ensures.waiting c.hand.ensures.waiting c.in_ok-hand.ensures.occurs
          c.send_all.ensures.cores c.in_ok-send_all.ensures.waiting) stands;
    }

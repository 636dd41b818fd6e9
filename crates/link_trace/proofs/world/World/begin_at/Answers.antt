use Rattle.std.proofs.Common.{◌<◌, ◌∙◌, sym, subst}
use Rattle.epoch_tags.specs.declared.actor.Actor.TheVariants.{Feeder}
use Rattle.actor_core.specs.Numbers.{count_of}
use Rattle.actor_core.specs.Lists.{Began}
use Rattle.actor_core.proofs.OwnNumbers.{none_some}
use Rattle.actor_core.proofs.Seated.{number_low}
use Rattle.link_trace.specs.Worlds.{IsSquare, state_among}
use Rattle.link_trace.proofs.SomeTask.{stands_still}
use Rattle.link_trace.proofs.Squares.{places_by_waiting}
use Rattle.link_trace.proofs.WorldEvents.{began, begun_posts_there, begun_square, when_begun}
use Rattle.link_trace.proofs.world.World.begin_at.Goals as goal

pub begin-requires-clause-place : goal.begin-requires-clause-place
begin-requires-clause-place c =
    let self = c.args.self.now in
    let square = self.square c.requires.going in
    subst (λ n. c.args.at < n) (sym square.tall ∙ places_by_waiting self.places.items)
    (number_low self.cast (Feeder c.args.p) c.args.at c.requires.at)

pub send_all-requires-clause-square : goal.send_all-requires-clause-square
send_all-requires-clause-square c =
    let self = c.args.self.now in
    subst (IsSquare (count_of self.cast)) (sym c.begin.ensures.waiting) (self.square c.requires.going)

pub send_all-requires-clause-sender : goal.send_all-requires-clause-sender
send_all-requires-clause-sender c none = none_some c.args.at (sym none ∙ c.requires.at)

pub send_all-requires-clause-receivers : goal.send_all-requires-clause-receivers
send_all-requires-clause-receivers c =
    let self = c.args.self.now in
    begun_posts_there self.cast (Feeder c.args.p) c.args.at c.requires.at self.places.items c.begin.new.places.items
    c.begin.new.places.items c.begin.new.sends (self.square c.requires.going) (self.stands c.requires.going)
    c.begin.ensures.waiting (when_begun _ _ c.in_ok-begun.begun (search) c.in_ok-begun.ensures.occurs)

pub returns-clause-took : goal.returns-clause-took
returns-clause-took c is =
    let self = c.args.self.now in
    began self.cast (Feeder c.args.p) c.args.at c.requires.at self.places.items c.begin.new.places.items
    c.send_all.new.places.items c.begin.new.sends (self.square c.requires.going) (self.stands c.requires.going)
    c.begin.ensures.waiting (when_begun _ _ c.in_ok-begun.begun (search) c.in_ok-begun.ensures.occurs)
    c.send_all.ensures.cores c.in_ok-send_all.ensures.waiting

pub invariant_of-self-2 : goal.invariant_of-self-2
invariant_of-self-2 c =
    let self = c.args.self.now in
    let square = self.square c.requires.going in
    let stands = self.stands c.requires.going in
    let occurs = when_begun _ _ c.in_ok-begun.begun (search) c.in_ok-begun.ensures.occurs in
    record {
      square = λ going. begun_square self.cast (Feeder c.args.p) c.args.at c.requires.at self.places.items
          c.begin.new.places.items c.send_all.new.places.items c.begin.new.sends square stands c.begin.ensures.waiting
          occurs c.send_all.ensures.cores c.in_ok-send_all.ensures.waiting;
      stands = λ going. stands_still (Feeder c.args.p) Began (state_among self.cast self.places.items)
          (state_among self.cast c.send_all.new.places.items)
          (began self.cast (Feeder c.args.p) c.args.at c.requires.at self.places.items c.begin.new.places.items
          c.send_all.new.places.items c.begin.new.sends square stands c.begin.ensures.waiting occurs
          c.send_all.ensures.cores c.in_ok-send_all.ensures.waiting) stands;
    }

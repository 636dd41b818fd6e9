use Rattle.std.proofs.Common.{ℕ, sym, subst}
use Rattle.epoch_tags.specs.declared.message.ToJoiner.{ToJoiner}
use Rattle.joiner_core.specs.Taking.{TookOfJoiner, TakesOfJoiner}
use Rattle.joiner_core.specs.State.{HasRow}
use Rattle.joiner_core.proofs.EndsAndParts.{took-moved, took-moved_end, part-step}
use Rattle.joiner_core.proofs.machine.Machine.take_of_joiner.Goals as goal

pub returns-in-Moved-clause-took : goal.returns-in-Moved-clause-took
returns-in-Moved-clause-took c = λ (q : ℕ) can.
    subst (λ (z : ToJoiner). TookOfJoiner q z c.args.self.now.epochs c.take_moved.new.self c.args.found.now
    c.take_moved.new.found c.args.sends.now c.args.sends.now) (sym c.in-Moved.is)
    (took-moved c.args.self.now.epochs c.take_moved.new.self q c.in-Moved.epoch c.in-Moved.tuple c.args.found.now
    c.take_moved.new.found c.args.sends.now c.requires.within
    (subst (λ (z : ToJoiner). HasRow c.args.self.now.epochs.theta z) c.in-Moved.is c.requires.row)
    c.in_ok-take_moved-in-Moved.ensures.state c.in_ok-take_moved-in-Moved.ensures.found
    (subst (λ (z : ToJoiner). TakesOfJoiner c.args.self.now.epochs q z) c.in-Moved.is can))

pub returns-in-MovedEnd-clause-took : goal.returns-in-MovedEnd-clause-took
returns-in-MovedEnd-clause-took c = λ (q : ℕ) can.
    subst (λ (z : ToJoiner). TookOfJoiner q z c.args.self.now.epochs c.settle.new.self c.args.found.now c.args.found.now
    c.args.sends.now c.settle.new.sends) (sym c.in-MovedEnd.is)
    (took-moved_end c.args.self.now.epochs c.take_moved_end.new.self c.settle.new.self q c.in-MovedEnd.epoch
    c.in_ok-settle-in-MovedEnd.field-0 c.args.found.now c.args.sends.now c.settle.new.sends c.requires.within
    c.take_moved_end.ensures
    c.in_ok-settle-in-MovedEnd.ensures.up c.in_ok-settle-in-MovedEnd.ensures.down
    c.in_ok-settle-in-MovedEnd.ensures.state c.in_ok-settle-in-MovedEnd.ensures.posts
    (subst (λ (z : ToJoiner). TakesOfJoiner c.args.self.now.epochs q z) c.in-MovedEnd.is can))

pub settle-requires : goal.settle-requires
settle-requires c = part-step c.args.self.now.epochs c.take_moved_end.new.self c.take_moved_end.ensures
    c.requires.within.step

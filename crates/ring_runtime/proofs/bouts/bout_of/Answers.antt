use Rattle.std.proofs.Common.{◌∙◌, refl, sym, subst}
use Rattle.ring_runtime.specs.Joins.{AreWired}
use Rattle.ring_runtime.proofs.AlikeSeats.{alike_at, are_held, frames_alike}
use Rattle.ring_runtime.proofs.RingBouts.{all_advance, frames_worked}
use Rattle.ring_runtime.proofs.RingLists.{ends_at, ins_many, outs_many}
use Rattle.ring_runtime.proofs.bouts.bout_of.Goals as goal

pub returns-then-any_spent-clause-frames : goal.returns-then-any_spent-clause-frames
returns-then-any_spent-clause-frames g c = frames_worked c.args.seats.now c.work.new.seats c.work.auto.seats
    c.work.ensures

pub hold_all-requires-clause-many : goal.hold_all-requires-clause-many
hold_all-requires-clause-many g c =
    outs_many c.args.cast c.work.new.seats
    (subst (AreWired c.args.cast)
    (sym (frames_worked c.args.seats.now c.work.new.seats c.work.auto.seats c.work.ensures)) c.requires.wired)

pub hold_all-requires-clause-ends : goal.hold_all-requires-clause-ends
hold_all-requires-clause-ends g c =
    ends_at c.args.cast c.work.new.seats
    (subst (AreWired c.args.cast)
    (sym (frames_worked c.args.seats.now c.work.new.seats c.work.auto.seats c.work.ensures)) c.requires.wired)

pub returns-clause-frames : goal.returns-clause-frames
returns-clause-frames g c =
    let worked = frames_worked c.args.seats.now c.work.new.seats c.work.auto.seats c.work.ensures in
    let wired = subst (AreWired c.args.cast) (sym worked) c.requires.wired in
    frames_alike c.work.new.seats c.hold_all.new.seats c.hold_all.ensures
    (outs_many c.args.cast c.work.new.seats wired)
    (ins_many c.args.cast c.work.new.seats wired)
    ∙ worked

pub returns-clause-went : goal.returns-clause-went
returns-clause-went g c = λ ok.
    let worked = frames_worked c.args.seats.now c.work.new.seats c.work.auto.seats c.work.ensures in
    let wired = subst (AreWired c.args.cast) (sym worked) c.requires.wired in
    all_advance c.args.seats.now c.work.new.seats c.hold_all.new.seats c.work.auto.seats c.work.ensures
    (c.if-any_spent.ensures refl)
    (alike_at c.work.new.seats c.hold_all.new.seats c.hold_all.ensures
    (outs_many c.args.cast c.work.new.seats wired)
    (ins_many c.args.cast c.work.new.seats wired))

pub returns-clause-held : goal.returns-clause-held
returns-clause-held g c = λ ok.
    let worked = frames_worked c.args.seats.now c.work.new.seats c.work.auto.seats c.work.ensures in
    let wired = subst (AreWired c.args.cast) (sym worked) c.requires.wired in
    are_held c.work.new.seats c.hold_all.new.seats c.hold_all.ensures
    (outs_many c.args.cast c.work.new.seats wired)
    (ins_many c.args.cast c.work.new.seats wired)

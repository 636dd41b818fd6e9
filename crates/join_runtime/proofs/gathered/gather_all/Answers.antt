use Rattle.std.proofs.Common.{◌≡◌, ◌∙◌, sym, subst, length, arith, slice_index_or}
use Rattle.join_runtime.specs.Joins.{AllLead, ActorsDiffer, slot_of}
use Rattle.join_runtime.proofs.LinkEnds.{alike_more, gathered_more, slots_lead, tells_frames, tells_spent}
use Rattle.join_runtime.proofs.gathered.gather_all.Goals as goal

pub gather_from-requires-clause-joined : goal.gather_from-requires-clause-joined
gather_from-requires-clause-joined g c =
    let same = sym c.loop-sender.invariant.frames in
    λ r d low. slots_lead c.loop-sender.seats (subst AllLead same c.requires.leads)
    (subst ActorsDiffer same c.requires.differ) d c.loop-sender.sender r (omega arith) low

pub loop-sender-preserved : goal.loop-sender-preserved
loop-sender-preserved g c =
    let seats = c.loop-sender.seats in
    let new = c.gather_from.new.seats in
    let same = sym c.loop-sender.invariant.frames in
    let leads = subst AllLead same c.requires.leads in
    let differ = subst ActorsDiffer same c.requires.differ in
    let n = c.loop-sender.sender in
    let told = c.gather_from.ensures.told in
    let long : length new ≡ length seats = c.gather_from.auto.seats in
    record {
      frames = tells_frames seats leads differ n new long told ∙ c.loop-sender.invariant.frames;
      alike = λ r d low. alike_more (slice_index_or c.args.seats.now r d) (slice_index_or seats r d)
          (slice_index_or new r d) (slot_of seats d n r) (c.loop-sender.invariant.alike r d low)
          (told r d (omega arith));
      none_spent = λ r d low. tells_spent (slot_of seats d n r) (slice_index_or seats r d) (slice_index_or new r d)
          (told r d (omega (arith, low, long))) ∙ c.loop-sender.invariant.none_spent r d (omega (arith, low, long));
      gathered = gathered_more seats leads differ n new (omega arith) long told c.loop-sender.invariant.gathered;
    }

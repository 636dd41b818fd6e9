use Rattle.std.proofs.Common.{ap, sym, ◌∙◌, map}
use Rattle.ring_runtime.specs.Seats.{in_address}
use Rattle.ring_runtime.proofs.AddressRows.{addresses-set}
use Rattle.ring_runtime.proofs.inlets.take_between.Goals as goal

pub returns-in-Some-clause-rings : goal.returns-in-Some-clause-rings
returns-in-Some-clause-rings c =
    addresses-set in_address c.loop-place.slots c.loop-place.place c.index-slots-place.result c.take_at.new.slot
    c.index-slots-place.is (c.take_at.ensures.ring ∙ ap in_address (sym c.index-slots-place.is))
    ∙ ap (map in_address) c.loop-place.invariant.same

use Rattle.ring_runtime.specs.Seats.{out_address}
use Rattle.ring_runtime.proofs.AddressRows.{addresses-set}
use Rattle.ring_runtime.proofs.outlets.add_to.Goals as goal

pub returns-then-place-len-clause-rings : goal.returns-then-place-len-clause-rings
returns-then-place-len-clause-rings c = addresses-set out_address c.args.slots.now.items c.args.place
    c.index_mut.result.now c.add_at.new.slot c.index_mut.ensures.value c.add_at.ensures.ring

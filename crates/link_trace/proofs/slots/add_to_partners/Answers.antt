use Rattle.std.proofs.Common.{◌^◌, ◌++◌, ◌∷◌, [], ◌∙◌, ap, arith}
use Rattle.std.specs.Prelude.{bit_xor}
use Rattle.std.proofs.lemmas.Nat.{one_shl}
use Rattle.epoch_tags.specs.declared.actor.Actor.TheVariants.{Joiner}
use Rattle.link_trace.specs.declared.slots.Slot.TheVariants.{Link}
use Rattle.link_trace.proofs.NumberedLists.{one_more}
use Rattle.link_trace.proofs.slots.add_to_partners.Goals as goal

pub loop-bit-preserved : goal.loop-bit-preserved
loop-bit-preserved c =
    let few = c.requires in
    let low = c.loop-bit-test.true in
    let shifted = one_shl c.loop-bit.bit 32 (omega arith) in
    one_more (λ bit. Link (Joiner c.args.i) (Joiner (bit_xor c.args.i (2 ^ bit))))
    c.args.slots.now.items c.loop-bit.slots.items _ c.loop-bit.bit c.loop-bit.invariant
    (c.in_ok-push.ensures.items ∙ ap (λ b. c.loop-bit.slots.items
    ++ Link (Joiner c.args.i) (Joiner (bit_xor c.args.i b)) ∷ []) shifted)

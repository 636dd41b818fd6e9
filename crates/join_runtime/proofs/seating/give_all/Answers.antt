use Rattle.std.proofs.Common.{◌≡◌, ◌<◌, ◌∙◌, [], length, refl, sym, subst, arith}
use Rattle.std.specs.Prelude.{Contains}
use Rattle.std.proofs.lemmas.List.{get_or_default, get_or-set_other, length-set}
use Rattle.join_runtime.specs.Seating.{AreFilled, HasSeat, Places}
use Rattle.join_runtime.proofs.MouthRows.{filled_more, filled_none}
use Rattle.join_runtime.proofs.seating.give_all.Goals as goal

pub loop-receiver-init : goal.loop-receiver-init
loop-receiver-init c = record {
  filled = filled_none c.args.cast c.args.mouths.items c.args.seats.now.items c.requires.none;
  long = refl;
  rest = λ r low. refl;
}

pub place_all-requires-clause-senders : goal.place_all-requires-clause-senders
place_all-requires-clause-senders c mouth has =
    let i = c.loop-receiver.receiver in
    let all = c.args.mouths.items in
    let mouths = c.loop-receiver.mouths.items in
    let there = c.index_mut.result.now in
    let inv = c.loop-receiver.invariant in
    let low : i < length mouths = omega arith in
    let own = c.replace-own.ensures.value ∙ (c.index_mut.ensures.value
    ∙ (get_or_default mouths i there [] low ∙ inv.rest i (omega arith))) in
    subst (λ n. HasSeat c.args.cast n mouth.from) (sym inv.filled.all)
    (c.requires.senders i mouth (omega (arith, low, inv.long)) (subst (λ ms. Contains ms mouth) own has))

pub place_all-requires-clause-places : goal.place_all-requires-clause-places
place_all-requires-clause-places c n d low =
    let inv = c.loop-receiver.invariant in
    let low' : n < length c.args.seats.now.items = omega (arith, low, inv.filled.all) in
    let many = inv.filled.many n d low' in
    let room = c.requires.places c.loop-receiver.receiver (omega (arith, inv.long)) n d low' in
    omega (arith, many, room)

pub loop-receiver-preserved : goal.loop-receiver-preserved
loop-receiver-preserved c =
    let i = c.loop-receiver.receiver in
    let all = c.args.mouths.items in
    let mouths = c.loop-receiver.mouths.items in
    let there = c.index_mut.result.now in
    let inv = c.loop-receiver.invariant in
    let low : i < length mouths = omega arith in
    let own = c.replace-own.ensures.value ∙ (c.index_mut.ensures.value
    ∙ (get_or_default mouths i there [] low ∙ inv.rest i (omega arith))) in
    record {
      filled = filled_more c.args.cast i all c.args.seats.now.items c.loop-receiver.seats.items
          c.place_all.new.seats.items inv.filled
          (subst (λ ms. Places c.args.cast i ms c.loop-receiver.seats.items
          c.place_all.new.seats.items) own c.place_all.ensures);
      long = length-set mouths i c.replace-own.new.dest ∙ inv.long;
      rest = λ r more. get_or-set_other mouths i r c.replace-own.new.dest [] (λ same. absurd (omega arith))
          ∙ inv.rest r (omega arith);
    }

pub returns : goal.returns
returns c =
    let end : c.loop-receiver.receiver ≡ length c.args.mouths.items = omega arith in
    subst (λ n. AreFilled c.args.cast n c.args.mouths.items c.args.seats.now.items
    c.loop-receiver.seats.items) end c.loop-receiver.invariant.filled

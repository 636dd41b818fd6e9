use Rattle.std.proofs.Common.{◌≡◌, ◌<◌, ◌∷◌, ◌++◌, ◌∙◌, [], append_assoc, ap, arith, length, sym, subst, refl}
use Rattle.std.specs.Prelude.{Contains}
use Rattle.std.proofs.lemmas.List.Elements.{Contains-append_right}
use Rattle.join_runtime.specs.Seating.{HasSeat}
use Rattle.join_runtime.proofs.MouthRows.{places_more, places_none}
use Rattle.join_runtime.proofs.seating.place_all.Goals as goal

pub loop-mouth-init : goal.loop-mouth-init
loop-mouth-init c = record {
  left = c.into_iter-mouth-iterator.ensures.into_iter_gives.0 ∙ c.into_vec-mouth-items.ensures;
  placed = places_none c.args.cast c.args.receiver c.args.seats.now.items;
}

pub place-requires-clause-sender : goal.place-requires-clause-sender
place-requires-clause-sender c =
    let is = c.loop-mouth.invariant in
    let mouth = c.in-Some.mouth in
    let rest = c.next.new.self.rest.items in
    let first : c.loop-mouth.mouth-iterator.rest.items ≡ mouth ∷ rest = c.in-Some.ensures.steps.0 in
    let has : Contains c.args.mouths mouth =
    subst (λ ms. Contains ms mouth) (ap (λ ms. c.loop-mouth.yielded ++ ms) (sym first) ∙ is.left)
    (Contains-append_right c.loop-mouth.yielded (mouth ∷ rest) mouth (0, omega arith, refl)) in
    subst (λ n. HasSeat c.args.cast n mouth.from) (sym is.placed.all)
    (c.requires.senders mouth has)

pub place-requires-clause-places : goal.place-requires-clause-places
place-requires-clause-places c n d low =
    let placed = c.loop-mouth.invariant.placed in
    let low' : n < length c.args.seats.now.items = omega (arith, low, placed.all) in
    let many = placed.many n d low' in
    let room = c.requires.places n d low' in
    omega (arith, many, room)

pub loop-mouth-preserved : goal.loop-mouth-preserved
loop-mouth-preserved c =
    let is = c.loop-mouth.invariant in
    let mouth = c.in-Some.mouth in
    let first : c.loop-mouth.mouth-iterator.rest.items ≡ mouth ∷ c.next.new.self.rest.items =
    c.in-Some.ensures.steps.0 in
    record {
      left = append_assoc c.loop-mouth.yielded (mouth ∷ []) c.next.new.self.rest.items
          ∙ (ap (λ ms. c.loop-mouth.yielded ++ ms) (sym first) ∙ is.left);
      placed = places_more c.args.cast c.args.receiver c.loop-mouth.yielded mouth
          c.args.seats.now.items c.loop-mouth.seats.items c.place.new.seats.items is.placed c.place.ensures;
    }

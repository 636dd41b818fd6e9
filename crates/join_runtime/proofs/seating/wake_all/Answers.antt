use Rattle.std.proofs.Common.{◌≡◌, ◌∙◌, ◌<◌, arith, get_or, length, refl, subst, sym}
use Rattle.join_runtime.specs.Serving.{IsServed}
use Rattle.join_runtime.specs.Views.{SeatView}
use Rattle.join_runtime.proofs.Awake.{awake_more}
use Rattle.join_runtime.proofs.seating.wake_all.Goals as goal

pub loop-place-init : goal.loop-place-init
loop-place-init c = record { all = refl; each = λ n d less low. absurd (omega arith); rest = λ n d more. refl }

pub wake-requires : goal.wake-requires
wake-requires c =
    let is = c.loop-place.invariant in
    let place = c.loop-place.place in
    let seat = c.index_mut.result.now in
    let low : place < length c.args.seats.now.items = omega (arith, is.all) in
    let own : seat ≡ get_or c.args.seats.now.items place seat =
    c.index_mut.ensures.value ∙ is.rest place seat (omega arith) in
    subst (λ (s : SeatView). IsServed s.cast s.mouths s.core) (sym own) (c.requires place seat low)

pub loop-place-preserved : goal.loop-place-preserved
loop-place-preserved c = awake_more c.loop-place.place c.args.seats.now.items c.loop-place.seats.items
    c.index_mut.result.now c.wake.new.self c.loop-place.invariant (omega arith) c.index_mut.ensures.value
    c.wake.ensures

pub returns : goal.returns
returns c =
    let is = c.loop-place.invariant in
    record { all = is.all; each = λ n d low. is.each n d (omega (arith, is.all)) low }

use Rattle.std.proofs.Common.{◌<◌, arith, length, refl, sym}
use Rattle.row_cells.proofs.ShortNumbers.{number-short, written-more, written-small}
use Rattle.row_cells.proofs.number.short_number.Goals as goal

pub loop-place-init : goal.loop-place-init
loop-place-init c = record { digits = tt; value = refl }

pub overflow_mul-number : goal.overflow_mul-number
overflow_mul-number c =
    let small = written-small c.args.text.now c.loop-place.place c.loop-place.number c.loop-place.invariant
    c.loop-place-test.true c.if-text-gt18.false in
    omega (arith, small)

pub overflow_add-number : goal.overflow_add-number
overflow_add-number c =
    let small = written-small c.args.text.now c.loop-place.place c.loop-place.number c.loop-place.invariant
    c.loop-place-test.true c.if-text-gt18.false in
    omega (arith, small, c.type_inv.text c.loop-place.place)

pub loop-place-preserved : goal.loop-place-preserved
loop-place-preserved c =
    written-more c.args.text.now c.loop-place.place c.loop-place.number c.loop-place.invariant c.loop-place-test.true
    (sym c.if-not-is_ascii_digit.ensures.value)

pub returns : goal.returns
returns c =
    let some : 0 < length c.args.text.now = grind (arith, c.if-is_empty.ensures) in
    number-short c.args.text.now c.loop-place.place c.loop-place.number c.loop-place.invariant c.loop-place-test.false
    some c.if-text-gt18.false

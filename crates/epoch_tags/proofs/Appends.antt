-- Counts over two lists end to end.
use Rattle.std.proofs.Common.{◌≡◌, ◌+◌, refl, ap, arith, List, [], ◌∷◌, ◌++◌, ◌<◌, ℕ, ◌≤◌, length, Bool, cond, ◌==◌}
use Rattle.std.proofs.Common.{true, false}
use Rattle.epoch_tags.specs.declared.message.ToController.{ToController}
use Rattle.epoch_tags.specs.declared.message.ToController.TheVariants.{Ask, Drained, Settled}
use Rattle.epoch_tags.specs.declared.message.ToFeeder.{ToFeeder}
use Rattle.epoch_tags.specs.declared.message.ToFeeder.TheVariants.{Order, Grant, Stop}
use Rattle.epoch_tags.specs.Messages.{order_epochs, grants, stops, asks, draineds, asked_r, asked_s, settled_epochs}
use Rattle.epoch_tags.specs.Messages.{turns, ends, tups, moved_ends}
use Rattle.epoch_tags.specs.Orders.{StopsLast, DrainsLast, NeverFalls}
use Rattle.epoch_tags.specs.declared.message.ToJoiner.{ToJoiner}
use Rattle.epoch_tags.specs.declared.message.ToJoiner.TheVariants.{Tup, Turn, End, Moved, MovedEnd}

-- two lists to a feeder, end to end, have the `Grant`s of both
pub grants-append : (xs ys : List ToFeeder) → grants (xs ++ ys) ≡ grants xs + grants ys
grants-append [] ys = omega arith
grants-append (Order epoch shift ∷ xs) ys = grants-append xs ys
grants-append (Grant ∷ xs) ys = let rest = grants-append xs ys in omega arith
grants-append (Stop ∷ xs) ys = grants-append xs ys

-- and the `Stop`s of both
pub stops-append : (xs ys : List ToFeeder) → stops (xs ++ ys) ≡ stops xs + stops ys
stops-append [] ys = omega arith
stops-append (Order epoch shift ∷ xs) ys = stops-append xs ys
stops-append (Grant ∷ xs) ys = stops-append xs ys
stops-append (Stop ∷ xs) ys = let rest = stops-append xs ys in omega arith

-- and the epochs of the first one's orders, followed by those of the second one's
pub order_epochs-append : (xs ys : List ToFeeder) → order_epochs (xs ++ ys) ≡ order_epochs xs ++ order_epochs ys
order_epochs-append [] ys = refl
order_epochs-append (Order epoch shift ∷ xs) ys = ap (λ es. epoch ∷ es) (order_epochs-append xs ys)
order_epochs-append (Grant ∷ xs) ys = order_epochs-append xs ys
order_epochs-append (Stop ∷ xs) ys = order_epochs-append xs ys

-- two lists to the controller, end to end, have the `Ask`s of both
pub asks-append : (xs ys : List ToController) → asks (xs ++ ys) ≡ asks xs + asks ys
asks-append [] ys = omega arith
asks-append (Ask dr ds ∷ xs) ys = let rest = asks-append xs ys in omega arith
asks-append (Drained ∷ xs) ys = asks-append xs ys
asks-append (Settled epoch ∷ xs) ys = asks-append xs ys

-- and the `Drained`s of both
pub draineds-append : (xs ys : List ToController) → draineds (xs ++ ys) ≡ draineds xs + draineds ys
draineds-append [] ys = omega arith
draineds-append (Ask dr ds ∷ xs) ys = draineds-append xs ys
draineds-append (Drained ∷ xs) ys = let rest = draineds-append xs ys in omega arith
draineds-append (Settled epoch ∷ xs) ys = draineds-append xs ys

-- they ask for the rows of R of both
pub asked_r-append : (xs ys : List ToController) → asked_r (xs ++ ys) ≡ asked_r xs + asked_r ys
asked_r-append [] ys = omega arith
asked_r-append (Ask dr ds ∷ xs) ys = let rest = asked_r-append xs ys in omega arith
asked_r-append (Drained ∷ xs) ys = asked_r-append xs ys
asked_r-append (Settled epoch ∷ xs) ys = asked_r-append xs ys

-- and for the rows of S of both
pub asked_s-append : (xs ys : List ToController) → asked_s (xs ++ ys) ≡ asked_s xs + asked_s ys
asked_s-append [] ys = omega arith
asked_s-append (Ask dr ds ∷ xs) ys = let rest = asked_s-append xs ys in omega arith
asked_s-append (Drained ∷ xs) ys = asked_s-append xs ys
asked_s-append (Settled epoch ∷ xs) ys = asked_s-append xs ys

-- and the epochs of the first one's `Settled`s are followed by those of the second one's
pub settled_epochs-append : (xs ys : List ToController) → settled_epochs (xs ++ ys) ≡ settled_epochs xs
    ++ settled_epochs ys
settled_epochs-append [] ys = refl
settled_epochs-append (Ask dr ds ∷ xs) ys = settled_epochs-append xs ys
settled_epochs-append (Drained ∷ xs) ys = settled_epochs-append xs ys
settled_epochs-append (Settled epoch ∷ xs) ys = ap (λ es. epoch ∷ es) (settled_epochs-append xs ys)

-- before a further message no `Stop` stands
pub none_stopped : (xs ys : List ToFeeder) (m : ToFeeder) → StopsLast (xs ++ m ∷ ys) → stops xs ≡ 0
none_stopped [] ys m last = refl
none_stopped (Order epoch shift ∷ xs) ys m last = none_stopped xs ys m last
none_stopped (Grant ∷ xs) ys m last = none_stopped xs ys m last
none_stopped (Stop ∷ []) ys m last = absurd (cc)
none_stopped (Stop ∷ (x ∷ xs)) ys m last = absurd (cc)

-- before a further message no `Drained` stands
pub none_drained : (earlier rest : List ToController) (m : ToController) → DrainsLast (earlier ++ m ∷ rest)
    → draineds earlier ≡ 0
none_drained [] rest m last = refl
none_drained (Ask dr ds ∷ earlier) rest m last = none_drained earlier rest m last
none_drained (Drained ∷ []) rest m last = absurd (cc)
none_drained (Drained ∷ (x ∷ earlier)) rest m last = absurd (cc)
none_drained (Settled epoch ∷ earlier) rest m last = absurd last

-- on a feeder's link to the controller no `Settled` stands
pub not_settled : (earlier rest : List ToController) (epoch : ℕ) → DrainsLast (earlier ++ Settled epoch ∷ rest) → ⊥
not_settled [] rest epoch last = last
not_settled (Ask dr ds ∷ earlier) rest epoch last = not_settled earlier rest epoch last
not_settled (Drained ∷ []) rest epoch last = absurd (cc)
not_settled (Drained ∷ (x ∷ earlier)) rest epoch last = absurd (cc)
not_settled (Settled e ∷ earlier) rest epoch last = last

-- after it stopped nothing is left, nor after it drained
pub nothing_left : (xs ys : List ToFeeder) → StopsLast (xs ++ ys) → 0 < stops xs → ys ≡ []
nothing_left xs [] last some = refl
nothing_left xs (m ∷ ys) last some = let none = none_stopped xs ys m last in absurd (omega arith)

-- after a feeder said that it has drained, it says nothing more to the controller
pub nothing_asked : (xs ys : List ToController) → DrainsLast (xs ++ ys) → 0 < draineds xs → ys ≡ []
nothing_asked xs [] last some = refl
nothing_asked xs (m ∷ ys) last some = let none = none_drained xs ys m last in absurd (omega arith)

-- ---- of joiners

-- two lists to a joiner, end to end, have the `Turn`s of both
pub turns-append : (xs ys : List ToJoiner) → turns (xs ++ ys) ≡ turns xs + turns ys
turns-append [] ys = omega arith
turns-append (Tup x ∷ xs) ys = turns-append xs ys
turns-append (Turn epoch shift ∷ xs) ys = let rest = turns-append xs ys in omega arith
turns-append (End ∷ xs) ys = turns-append xs ys
turns-append (Moved epoch x ∷ xs) ys = turns-append xs ys
turns-append (MovedEnd epoch ∷ xs) ys = turns-append xs ys

-- and the `End`s of both
pub ends-append : (xs ys : List ToJoiner) → ends (xs ++ ys) ≡ ends xs + ends ys
ends-append [] ys = omega arith
ends-append (Tup x ∷ xs) ys = ends-append xs ys
ends-append (Turn epoch shift ∷ xs) ys = ends-append xs ys
ends-append (End ∷ xs) ys = let rest = ends-append xs ys in omega arith
ends-append (Moved epoch x ∷ xs) ys = ends-append xs ys
ends-append (MovedEnd epoch ∷ xs) ys = ends-append xs ys

-- and the tuples that feeders sent in the first, followed by those in the second
pub tups-append : (xs ys : List ToJoiner) → tups (xs ++ ys) ≡ tups xs ++ tups ys
tups-append [] ys = refl
tups-append (Tup x ∷ xs) ys = ap (λ ts. x ∷ ts) (tups-append xs ys)
tups-append (Turn epoch shift ∷ xs) ys = tups-append xs ys
tups-append (End ∷ xs) ys = tups-append xs ys
tups-append (Moved epoch x ∷ xs) ys = tups-append xs ys
tups-append (MovedEnd epoch ∷ xs) ys = tups-append xs ys

-- for each epoch they have the `MovedEnd`s of both
pub moved_ends-append : (e : ℕ) (xs ys : List ToJoiner) → moved_ends e (xs ++ ys) ≡ moved_ends e xs + moved_ends e ys
moved_ends-append e [] ys = omega arith
moved_ends-append e (Tup x ∷ xs) ys = moved_ends-append e xs ys
moved_ends-append e (Turn epoch shift ∷ xs) ys = moved_ends-append e xs ys
moved_ends-append e (End ∷ xs) ys = moved_ends-append e xs ys
moved_ends-append e (Moved epoch x ∷ xs) ys = moved_ends-append e xs ys
moved_ends-append e (MovedEnd epoch ∷ xs) ys = by_test (epoch == e) (moved_ends-append e xs ys)
  where
    by_test : (t : Bool) → moved_ends e (xs ++ ys) ≡ moved_ends e xs + moved_ends e ys
        → cond t (moved_ends e (xs ++ ys) + 1) (moved_ends e (xs ++ ys))
        ≡ cond t (moved_ends e xs + 1) (moved_ends e xs) + moved_ends e ys
    by_test true rest = omega arith
    by_test false rest = rest

-- where epochs never fall on a link, they don't in what was sent first
pub front_falls : (f : ℕ) (xs ys : List ToJoiner) → NeverFalls f (xs ++ ys) → NeverFalls f xs
front_falls f [] ys falls = tt
front_falls f (Tup x ∷ xs) ys falls = absurd falls
front_falls f (Turn epoch shift ∷ xs) ys falls = absurd falls
front_falls f (End ∷ xs) ys falls = absurd falls
front_falls f (Moved epoch x ∷ xs) ys (low, falls) = (low, front_falls epoch xs ys falls)
front_falls f (MovedEnd epoch ∷ xs) ys (low, falls) = (low, front_falls (epoch + 1) xs ys falls)

-- ---- how many

-- a feeder is sent orders, grants and stops
pub parts_to_feeder : (ms : List ToFeeder) → length ms ≡ length (order_epochs ms) + grants ms + stops ms
parts_to_feeder [] = refl
parts_to_feeder (Order epoch shift ∷ ms) = let rest = parts_to_feeder ms in omega arith
parts_to_feeder (Grant ∷ ms) = let rest = parts_to_feeder ms in omega arith
parts_to_feeder (Stop ∷ ms) = let rest = parts_to_feeder ms in omega arith

-- a feeder is sent at most one `Stop`, where that stands only at the end
pub one_stop : (ms : List ToFeeder) → StopsLast ms → stops ms ≤ 1
one_stop [] last = omega arith
one_stop (Order epoch shift ∷ ms) last = one_stop ms last
one_stop (Grant ∷ ms) last = one_stop ms last
one_stop (Stop ∷ ms) last = let none : stops ms ≡ 0 = rw last refl in omega arith

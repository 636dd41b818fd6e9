use Rattle.std.proofs.Common.{◌≡◌, ◌+◌, ◌-◌, ◌<◌, Some, ap, arith, false, length, List, set, subst, sym, ◌∙◌}
use Rattle.std.proofs.lemmas.List.{set-get_or}
use Rattle.std.proofs.lemmas.Result.{IfOk-weaker, on_err_weaker}
use Rattle.epoch_tags.specs.declared.actor.Actor.TheVariants.{Collector}
use Rattle.join_runtime.specs.Bouts.{SeatsView}
use Rattle.join_runtime.specs.Kinds.{IsMachineOf}
use Rattle.join_runtime.specs.Views.{SeatView}
use Rattle.join_runtime.proofs.GivenPairs.{all_given, gives_since, joined_still, kin_by, lists_kept, on_ok_by}
use Rattle.join_runtime.proofs.GivenPairs.{settled_kept, stands_kept}
use Rattle.join_runtime.proofs.Ended.{many_seats}
use Rattle.join_runtime.proofs.LastMachines.{own_machine}
use Rattle.join_runtime.proofs.bouts.Seats.fresh.Goals as goal

pub fresh-requires : goal.fresh-requires
fresh-requires c =
    let own = c.self.inside in
    let v : SeatsView = record {
      cast = own.cast;
      seats = own.seats.items;
      spent = own.spent;
    } in
    let size = c.len-count.ensures in
    let some = many_seats v c.self.invariant.0 in
    let place = c.len-count.result - 1 in
    let low : place < length v.seats = omega (arith, size, some) in
    let is : v.cast.feeders + v.cast.joiners + 1 ≡ place = omega (arith, size, some) in
    let at_work : v.spent ≡ false = subst (λ (x : SeatsView). x.spent ≡ false) (sym c.self.view_is) c.requires in
    subst (λ (s : SeatView). IsMachineOf s.core Collector) (sym c.index_mut.ensures.value)
    (own_machine v c.self.invariant.0 (c.self.invariant.1 at_work) place c.index_mut.result.now Collector low
    (ap Some is))

pub invariant_of-self : goal.invariant_of-self
invariant_of-self c =
    let own = c.self.inside in
    let v : SeatsView = record {
      cast = own.cast;
      seats = own.seats.items;
      spent = own.spent;
    } in
    let size = c.len-count.ensures in
    let some = many_seats v c.self.invariant.0 in
    let place = c.len-count.result - 1 in
    let last : place ≡ length v.seats - 1 = omega (arith, size) in
    let low : place < length v.seats = omega (arith, size, some) in
    let kin = kin_by c.fresh.result c.index_mut.result.now c.fresh.new.self c.fresh.ensures.rest c.fresh.ensures.gives
    c.fresh.ensures.fails in (
      joined_still v c.self.invariant.0 place last low c.index_mut.result.now c.fresh.new.self c.index_mut.ensures.value
          kin,
      λ at_work. settled_kept v c.self.invariant.0 place last low c.index_mut.result.now c.fresh.new.self
          c.index_mut.ensures.value kin (c.self.invariant.1 at_work),
    )

pub returns : goal.returns
returns c =
    let own = c.self.inside in
    let v : SeatsView = record {
      cast = own.cast;
      seats = own.seats.items;
      spent = own.spent;
    } in
    let joined = c.self.invariant.0 in
    let size = c.len-count.ensures in
    let some = many_seats v joined in
    let place = c.len-count.result - 1 in
    let last : place ≡ length v.seats - 1 = omega (arith, size) in
    let low : place < length v.seats = omega (arith, size, some) in
    let s = c.index_mut.result.now in
    let t = c.fresh.new.self in
    let is = c.index_mut.ensures.value in
    let said = c.fresh.ensures in
    let kin = kin_by c.fresh.result s t said.rest said.gives said.fails in
    let with_seats : List SeatView → SeatsView = λ xs. record { cast = own.cast; seats = xs; spent = own.spent } in
    rw (← c.self.view_is)
    (record {
      gives = IfOk-weaker c.fresh.result _ _
          (λ pairs gives task earlier st. gives_since v joined place last low s t is kin task st pairs gives earlier)
          said.gives;
      given = on_ok_by c.fresh.result _ _ said.gives
          (λ pairs gives task st. all_given v joined place last low s t is kin task st pairs gives);
      stands = stands_kept v joined place last low s t is kin;
      lists = lists_kept v joined place last low s t is kin;
      fails = on_err_weaker c.fresh.result
          (λ same. ap with_seats (ap (set v.seats place) (same ∙ is) ∙ set-get_or v.seats place s)) said.fails;
    })

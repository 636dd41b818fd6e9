use Rattle.std.proofs.Common.{◌≡◌, ◌+◌, ◌≤◌, ◌^◌, ◌++◌, ◌∷◌, [], List, Some, None, cond, lt-ltb, ap}
use Rattle.std.proofs.Common.{sym, subst}
use Rattle.std.proofs.Common.{◌∙◌, append_assoc, arith}
use Rattle.std.specs.List.{AllByRecursion}
use Rattle.std.proofs.lemmas.List.{length-append}
use Rattle.epoch_tags.specs.declared.actor.Actor.TheVariants.{Joiner}
use Rattle.epoch_tags.specs.declared.tuple.Tuple.{Tuple}
use Rattle.joiner_core.specs.State.{AreRows}
use Rattle.trace_law.specs.Family.{joiner_start}
use Rattle.actor_core.specs.Lists.{no_lists}
use Rattle.actor_core.specs.Standing.{OfJoiner, Stands}
use Rattle.actor_core.specs.Rests.{AreMade, upto, task_upto, with_base}
use Rattle.actor_core.proofs.Bases.{base_rows, base_stamps}
use Rattle.actor_core.proofs.UptoEnd.{valid_upto}
use Rattle.actor_core.proofs.WaveBeginnings.{at_seam, below_all, made_at, one_made}
use Rattle.actor_core.proofs.waves.joiners_in_wave.Goals as goal

pub joiner_in_wave-requires-clause-stamps : goal.joiner_in_wave-requires-clause-stamps
joiner_in_wave-requires-clause-stamps c =
    let rest = c.args.rest in
    let is = c.loop-store.invariant in
    let first : c.loop-store.store-iterator.rest.items ≡ c.in-Some.store ∷ c.next.new.self.rest.items =
    c.in-Some.ensures.steps.0 in
    let low = below_all rest.stores c.loop-store.yielded c.loop-store.store-iterator.rest.items
    c.next.new.self.rest.items
    c.in-Some.store c.loop-store.j (2 ^ c.args.setting.now.k) is.left first is.number c.requires.rest.many in
    let at = at_seam rest.stores c.loop-store.yielded c.loop-store.store-iterator.rest.items c.next.new.self.rest.items
    c.in-Some.store c.loop-store.j is.left first is.number in
    subst (AllByRecursion (λ (x : Tuple). x.stamp ≤ rest.line.epoch)) at
    (base_stamps (task_upto c.args.end c.args.input.now c.args.setting.now rest)
    (valid_upto c.args.end c.args.input.now c.requires.end c.requires.input) c.requires.rest.stands
    c.loop-store.j low)

pub joiner_in_wave-requires-clause-rows : goal.joiner_in_wave-requires-clause-rows
joiner_in_wave-requires-clause-rows c =
    let rest = c.args.rest in
    let is = c.loop-store.invariant in
    let first : c.loop-store.store-iterator.rest.items ≡ c.in-Some.store ∷ c.next.new.self.rest.items =
    c.in-Some.ensures.steps.0 in
    let low = below_all rest.stores c.loop-store.yielded c.loop-store.store-iterator.rest.items
    c.next.new.self.rest.items
    c.in-Some.store c.loop-store.j (2 ^ c.args.setting.now.k) is.left first is.number c.requires.rest.many in
    let at = at_seam rest.stores c.loop-store.yielded c.loop-store.store-iterator.rest.items c.next.new.self.rest.items
    c.in-Some.store c.loop-store.j is.left first is.number in
    subst (AreRows c.args.input.now.theta) at
    (base_rows (task_upto c.args.end c.args.input.now c.args.setting.now rest)
    (valid_upto c.args.end c.args.input.now c.requires.end c.requires.input) c.requires.rest.stands
    c.loop-store.j low)

pub loop-store-preserved : goal.loop-store-preserved
loop-store-preserved c =
    let rest = c.args.rest in
    let setting = c.args.setting.now in
    let input = upto c.args.end c.args.input.now in
    let task = task_upto c.args.end c.args.input.now setting rest in
    let is = c.loop-store.invariant in
    let j = c.loop-store.j in
    let core = c.in_ok-joiner_in_wave.field-0 in
    let first : c.loop-store.store-iterator.rest.items ≡ c.in-Some.store ∷ c.next.new.self.rest.items =
    c.in-Some.ensures.steps.0 in
    let low = below_all rest.stores c.loop-store.yielded c.loop-store.store-iterator.rest.items
    c.next.new.self.rest.items
    c.in-Some.store j (2 ^ setting.k) is.left first is.number c.requires.rest.many in
    let at = at_seam rest.stores c.loop-store.yielded c.loop-store.store-iterator.rest.items c.next.new.self.rest.items
    c.in-Some.store j is.left first is.number in
    let made = c.in_ok-joiner_in_wave.ensures in
    let stands = subst (λ (ts : List Tuple). Stands (OfJoiner (joiner_start input setting (with_base rest.line ts) j))
    no_lists core) (sym at) made.stands in
    let numbered = ap (λ b. cond b (Some (setting.feeders + j)) None) (lt-ltb j (2 ^ setting.k) low) in
    let next : setting.feeders + j + 1 ≡ setting.feeders + (j + 1) = omega arith in
    let all = one_made task (setting.feeders + j) c.loop-store.cores.items core is.made
    (made_at task (Joiner j) (setting.feeders + j) core numbered stands made.live made.given
    made.joins) in
    record {
      left = append_assoc c.loop-store.yielded (c.in-Some.store ∷ []) c.next.new.self.rest.items
          ∙ (ap (λ l. c.loop-store.yielded ++ l) (sym first) ∙ is.left);
      number = ap (λ n. n + 1) is.number ∙ sym (length-append c.loop-store.yielded (c.in-Some.store ∷ []));
      made = subst (AreMade task (setting.feeders + (j + 1))) (sym c.in_ok-push.ensures.items)
          (subst (λ n. AreMade task n (c.loop-store.cores.items ++ core ∷ [])) next all);
    }

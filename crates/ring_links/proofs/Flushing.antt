-- What a flush keeps, put by put.
use Rattle.std.proofs.Common.{◌≡◌, ◌<◌, ◌≤◌, Bool, true, false, ap, sym, ◌∙◌, ◌∷◌, [], ◌++◌, length, append_assoc}
use Rattle.std.proofs.Common.{arith}
use Rattle.std.proofs.lemmas.List.{map-append}
use Rattle.epoch_tags.specs.declared.message.Envelope.{Envelope}
use Rattle.ring_links.specs.Rings.{IsSameOut}
use Rattle.ring_links.specs.Outlets.{OutletView, PutsFirst, Stays, contents, sent_on}

-- a flush so far: what the actor sent is as it was, and something left if anything did
pub record Flushes (moved : Bool) (old new : OutletView) : Type 0 where
  pub same : sent_on new ≡ sent_on old
  pub few : length new.waiting ≤ length old.waiting
  pub less : moved ≡ true → length new.waiting < length old.waiting
  pub still : moved ≡ false → Stays old new
  pub ring : IsSameOut old.out new.out

-- a put of the first that waits leaves what the actor sent as it was
put_same : (old new : OutletView) → PutsFirst old new → sent_on new ≡ sent_on old
put_same old new puts =
    let envelope : Envelope = record { from = old.out.from; msg = puts.msg } in
    ap (λ ms. contents ms ++ new.waiting) puts.sent
    ∙ (ap (λ ms. ms ++ new.waiting) (map-append (λ (e : Envelope). e.msg) old.out.sent (envelope ∷ []))
    ∙ (append_assoc (contents old.out.sent) (puts.msg ∷ []) new.waiting
    ∙ ap (λ ms. contents old.out.sent ++ ms) (sym puts.waited)))

-- where nothing was put, what the actor sent is as it was
stays_same : (old new : OutletView) → Stays old new → sent_on new ≡ sent_on old
stays_same old new stays =
    ap (λ ms. contents ms ++ new.waiting) stays.sent ∙ ap (λ ms. contents old.out.sent ++ ms) stays.waiting

-- it is still that end after one call and another
ring_then : (old middle new : OutletView) → IsSameOut old.out middle.out → IsSameOut middle.out new.out
    → IsSameOut old.out new.out
ring_then old middle new one two = record {
  ring = two.ring ∙ one.ring;
  from = two.from ∙ one.from;
  to = two.to ∙ one.to;
  room = two.room ∙ one.room;
}

-- nothing was put in two calls
stays_then : (old middle new : OutletView) → Stays old middle → Stays middle new → Stays old new
stays_then old middle new one two = record {
  waiting = two.waiting ∙ one.waiting;
  sent = two.sent ∙ one.sent;
  places = two.places ∙ one.places;
}

-- a flush with one put more
pub flush_more : (moved : Bool) (old middle new : OutletView) → Flushes moved old middle → PutsFirst middle new
    → IsSameOut middle.out new.out → Flushes true old new
flush_more moved old middle new before puts ring =
    let is = ap length puts.waited in
    let few = before.few in
    record {
      same = put_same middle new puts ∙ before.same;
      few = omega (arith, is, few);
      less = λ _. omega (arith, is, few);
      still = λ no. search (no);
      ring = ring_then old middle new before.ring ring;
    }

-- a flush whose last put was refused, or with nothing left to put
pub flush_ends : (moved : Bool) (old middle new : OutletView) → Flushes moved old middle → Stays middle new
    → IsSameOut middle.out new.out → Flushes moved old new
flush_ends moved old middle new before stays ring =
    let is = ap length stays.waiting in
    let few = before.few in
    record {
      same = stays_same middle new stays ∙ before.same;
      few = omega (arith, is, few);
      less = λ yes. let low = before.less yes in omega (arith, is, low);
      still = λ no. stays_then old middle new (before.still no) stays;
      ring = ring_then old middle new before.ring ring;
    }

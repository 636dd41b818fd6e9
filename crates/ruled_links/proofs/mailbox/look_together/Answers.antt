use Rattle.std.proofs.Common.{rules, ◌≡◌, ◌≤◌, ◌<◌, ◌^◌, ℕ, ◌-◌, ◌+◌, List, [], ◌∷◌, ◌++◌, true, false, map, length}
use Rattle.std.proofs.Common.{length-append, arith, sym, refl, ap, ◌∙◌, subst}
use Rattle.ruled_links.specs.declared.delivery.InboxHand.{InboxHand}
use Rattle.ruled_links.specs.declared.parts.Part.{Part}
use Rattle.ruled_links.specs.Ends.{Sending}
use Rattle.epoch_tags.specs.declared.message.Envelope.{Envelope}
use Rattle.ruled_links.specs.Delivery.{number_of, of_sender, inbox_hand, known_of}
use Rattle.ruled_links.specs.Inboxes.{InboxView, told, is_sender, senders_of}
use Rattle.ruled_links.specs.Parts.{set_known, has_part, seen, AreCounted}
use Rattle.ruled_links.proofs.DeliveryLemmas.{meets, parts, looks}
use Rattle.ruled_links.proofs.KnownLemmas.{counted_tell}
use Rattle.ruled_links.proofs.PartsLemmas.{looked, parted, found_taken, told_tells, named_seen, senders_told}
use Rattle.ruled_links.proofs.mailbox.look_together.Given.{Over}
use Rattle.ruled_links.proofs.mailbox.look_together.Goals as goal

pub absorb-requires-clause-rule : goal.absorb-requires-clause-rule
absorb-requires-clause-rule g c = meets _ _ _ _ (search rules) (search rules) (search rules)

pub len_as-requires-clause-rule : goal.len_as-requires-clause-rule
len_as-requires-clause-rule g c = looks _ _ (search rules) (search rules)

pub another-requires-clause-rule : goal.another-requires-clause-rule
another-requires-clause-rule g c = parts _ _ (search rules) (search rules)

-- how many are left of what was sent
remain : (s r rest : List Envelope) (count taken : ℕ) → s ≡ r ++ rest → count ≡ length s → taken ≡ length r
    → length rest ≡ count - taken
remain s r rest count taken a b c = omega (arith, ap length a, length-append r rest)

pub taken_of-requires : goal.taken_of-requires
taken_of-requires g c = let v = c.inbox.inside.pass.me.view.client in let u = c.in-Some.sender.me.view.client in
    let n = number_of c.mouth.inside.from in
    let us : u ≡ inbox_hand true false n u.sent [] [] = search rules in
    let l = looked v u c.absorb.new.pass.me.view.client n c.inbox.inside.parts c.len_as.ensures.rule.0 us
    c.absorb.ensures.rule (c.len_as.ensures.rule.2.0, c.len_as.ensures.rule.2.1) c.inbox.invariant.2.all in
    subst (λ (k : ℕ). has_part k c.inbox.inside.parts ≡ true) (sym c.number-from.ensures.is) l.1

-- what the look shows, and what the counts are
record Shown (v u : InboxHand) (ps : List Part) (n put got : ℕ) (items : List Envelope) : Type 0 where
  sent : u.sent ≡ of_sender n v.received ++ of_sender n items
  has : has_part n ps ≡ true
  count : put ≡ length u.sent
  taken : got ≡ length (of_sender n v.received)

shown : (g : Over) (c : goal.After-tell g)
    → Shown c.inbox.inside.pass.me.view.client c.in-Some.sender.me.view.client c.inbox.inside.parts
    (number_of c.mouth.inside.from) c.mouth.inside.count c.taken_of.result c.len_as.ensures.rule.0
shown g c = let v = c.inbox.inside.pass.me.view.client in let u = c.in-Some.sender.me.view.client in
    let n = number_of c.mouth.inside.from in let ps = c.inbox.inside.parts in
    let us : u ≡ inbox_hand true false n u.sent [] [] = search rules in
    let l = looked v u c.absorb.new.pass.me.view.client n ps c.len_as.ensures.rule.0 us c.absorb.ensures.rule
    (c.len_as.ensures.rule.2.0, c.len_as.ensures.rule.2.1) c.inbox.invariant.2.all in
    let found = c.taken_of.ensures in record {
      sent = l.0;
      has = l.1;
      count = search rules;
      taken = found_taken v ps n c.taken_of.result found.0 c.inbox.invariant.2.fits found.1
          (found.2 ∙ c.number-from.ensures.is) found.3;
    }

-- the part that is told, and how many that are
told_once : (g : Over) (c : goal.After-tell g) → c.tell.new.self
    ≡ map (set_known (number_of c.mouth.inside.from) (c.mouth.inside.count - c.taken_of.result)) c.inbox.inside.parts
told_once g c = c.tell.ensures ∙ ap (λ (n : ℕ). map (set_known n (c.mouth.inside.count - c.taken_of.result))
    c.inbox.inside.parts) c.number-from.ensures.is

-- what the receiver's pass knows at the end
knows : (g : Over) (c : goal.After-tell g) → c.another.new.pass.me.view.client
    ≡ inbox_hand false true 0 [] c.inbox.inside.pass.me.view.client.received ((
      number_of c.mouth.inside.from,
      c.in-Some.sender.me.view.client.sent,
    ) ∷ c.inbox.inside.pass.me.view.client.known)
knows g c = let u = c.in-Some.sender.me.view.client in let n = number_of c.mouth.inside.from in
    let us : u ≡ inbox_hand true false n u.sent [] [] = search rules in
    parted c.inbox.inside.pass.me.view.client u c.absorb.new.pass.me.view.client c.len_as.new.pass.me.view.client
    c.another.new.pass.me.view.client n us c.absorb.ensures.rule c.len_as.ensures.queue.2 c.another.ensures.rule.0

-- the senders, as contracts see them at the end
tells : (g : Over) (c : goal.After-tell g) → map seen c.tell.new.self
    ≡ told c.args.mouth.now.from (c.mouth.inside.count - c.taken_of.result) c.args.inbox.now.senders
tells g c = let k : ℕ = c.mouth.inside.count - c.taken_of.result in
    ap (λ (ps : List Part). map seen ps) (told_once g c) ∙ told_tells c.mouth.inside.from k c.inbox.inside.parts
    ∙ (λ i. told (c.mouth.view_is i).from k (c.inbox.view_is i).senders)

pub invariant_of-inbox : goal.invariant_of-inbox
invariant_of-inbox g c = let v = c.inbox.inside.pass.me.view.client in let u = c.in-Some.sender.me.view.client in
    let n = number_of c.mouth.inside.from in let ps = c.inbox.inside.parts in
    let w = c.another.new.pass.me.view.client in let items = c.len_as.ensures.rule.0 in
    let k : ℕ = c.mouth.inside.count - c.taken_of.result in
    let all = shown g c in let is = knows g c in
    let left : length (of_sender n items) ≡ k = remain u.sent (of_sender n v.received) (of_sender n items)
    c.mouth.inside.count c.taken_of.result all.sent all.count all.taken in
    let more : (m : ℕ) → length (known_of v.known m) ≤ length (of_sender m v.received) + length (of_sender m items) =
    λ m. subst (λ (h : InboxHand). length (known_of h.known m) ≤ length (of_sender m h.received)
    + length (of_sender m items)) c.absorb.ensures.rule (c.len_as.ensures.rule.2.2 m) in
    let fits : length items < 2 ^ 64 = subst (λ (m : ℕ). m < 2 ^ 64) (sym c.len_as.ensures.rule.1)
    c.len_as.type_inv in (
      search rules,
      subst (λ (h : InboxHand). h ≡ inbox_hand false true 0 [] h.received h.known) (sym is) refl,
      subst (λ (l : List Part). AreCounted w l) (sym (told_once g c))
          (counted_tell v w n k u.sent items ps is (λ i. all.count i - all.taken i) (omega (arith, left))
          all.has more fits c.inbox.invariant.2),
    )

pub returns-clause-left : goal.returns-clause-left
returns-clause-left g c = let v = c.inbox.inside.pass.me.view.client in let u = c.in-Some.sender.me.view.client in
    let n = number_of c.mouth.inside.from in
    let all = shown g c in let items = c.len_as.ensures.rule.0 in
    let sent : c.args.mouth.now.sent ≡ u.sent = search rules in
    let joins : of_sender n v.received ++ of_sender n items ≡ c.args.mouth.now.sent = sym (sent ∙ all.sent) in record {
      prefix = record {
        rest = of_sender n items;
        joins = subst (λ (y : Sending × InboxView). of_sender (number_of y.0.from) y.1.received ++ of_sender n items
            ≡ c.args.mouth.now.sent) (λ i. (c.mouth.view_is i, c.inbox.view_is i)) joins;
      };
      left = remain u.sent (of_sender n v.received) (of_sender n items)
          c.mouth.inside.count c.taken_of.result all.sent all.count all.taken;
    }

pub returns-clause-known : goal.returns-clause-known
returns-clause-known g c = let received : c.another.new.pass.me.view.client.received
    ≡ c.args.inbox.now.received = ap (λ (h : InboxHand). h.received) (knows g c)
    ∙ ap (λ (s : InboxView). s.received) c.inbox.view_is in
    λ i. record {
      link = (c.inbox.view_is i).link;
      to = (c.inbox.view_is i).to;
      received = received i;
      senders = tells g c i;
    }

pub returns-clause-sender : goal.returns-clause-sender
returns-clause-sender g c = sym (λ i. is_sender (c.mouth.view_is i).from (c.inbox.view_is i).senders)
    ∙ named_seen c.mouth.inside.from c.inbox.inside.parts ∙ (shown g c).has

pub returns-clause-inbox : goal.returns-clause-inbox
returns-clause-inbox g c = record {
  link = ap (λ (s : InboxView). s.link) c.inbox.view_is;
  to = ap (λ (s : InboxView). s.to) c.inbox.view_is;
  senders = ap senders_of (tells g c) ∙ senders_told c.args.mouth.now.from (c.mouth.inside.count - c.taken_of.result)
      c.args.inbox.now.senders;
}

use Rattle.std.proofs.Common.{rules, ◌≡◌, ℕ, List, [], ◌∷◌, ◌++◌, true, false, sym, refl, ap, ◌∙◌, subst}
use Rattle.ruled_links.specs.declared.delivery.InboxHand.{InboxHand}
use Rattle.ruled_links.specs.declared.parts.Part.{Part}
use Rattle.ruled_links.specs.Delivery.{number_of, inbox_hand, has_sender}
use Rattle.ruled_links.specs.Inboxes.{InboxView, is_sender}
use Rattle.ruled_links.specs.Parts.{AreCounted}
use Rattle.ruled_links.proofs.KnownLemmas.{counted_open}
use Rattle.ruled_links.proofs.PartsLemmas.{named_seen}
use Rattle.ruled_links.proofs.mailbox.Inbox.open.Goals as goal

pub push-requires : goal.push-requires
push-requires c = sym (named_seen c.args.from c.self.inside.parts)
    ∙ ap (λ (s : InboxView). is_sender c.args.from s.senders) c.self.view_is ∙ c.requires.new

pub new_pass-pass-requires-clause-new : goal.new_pass-pass-requires-clause-new
new_pass-pass-requires-clause-new c = subst (λ (n : ℕ). has_sender c.self.inside.pass.me.view.client.known n ≡ false)
    (sym c.number.ensures.is)
    (c.self.invariant.2.all (number_of c.args.from) (sym (named_seen c.args.from c.self.inside.parts)
    ∙ ap (λ (s : InboxView). is_sender c.args.from s.senders) c.self.view_is ∙ c.requires.new))

pub invariant_of-self-2 : goal.invariant_of-self-2
invariant_of-self-2 c = let v = c.self.inside.pass.me.view.client in let ps = c.self.inside.parts in
    let p : Part = record { from = c.args.from; taken = 0; known = 0 } in
    let w = c.new_pass-pass.new.pass.me.view.client in
    let none : v.received ≡ [] = ap (λ (s : InboxView). s.received) c.self.view_is ∙ c.requires.fresh in
    let is : w ≡ inbox_hand false true 0 [] v.received ((number_of c.args.from, []) ∷ v.known) =
    c.new_pass-pass.ensures.receiver ∙ ap (λ (n : ℕ). inbox_hand false true 0 [] v.received ((n, []) ∷ v.known))
    c.number.ensures.is in
    let made : c.push.new.self ≡ ps ++ p ∷ [] = (c.in_ok-push.ensures {u = tt}).ok in (
      search rules,
      subst (λ (h : InboxHand). h ≡ inbox_hand false true 0 [] h.received h.known) (sym is) refl,
      subst (λ (l : List Part). AreCounted w l) (sym made)
          (counted_open v w p ps is none refl refl (sym (named_seen c.args.from ps)
          ∙ ap (λ (s : InboxView). is_sender c.args.from s.senders) c.self.view_is ∙ c.requires.new)
          c.self.invariant.2),
    )

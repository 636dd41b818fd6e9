use Rattle.std.proofs.Common.{rules, ◌≡◌, ℕ, ◌^◌, ◌<◌, List, [], ◌∷◌, ◌++◌, true, false, map, All, sym, refl, ap, ◌∙◌}
use Rattle.std.proofs.Common.{subst}
use Rattle.ruled_links.specs.declared.delivery.InboxHand.{InboxHand}
use Rattle.ruled_links.specs.declared.parts.Part.{Part}
use Rattle.epoch_tags.specs.declared.message.Envelope.{Envelope}
use Rattle.ruled_links.specs.Delivery.{number_of, inbox_hand}
use Rattle.ruled_links.specs.Inboxes.{OfSender, InboxView, is_sender, messages_of, senders_of, lowered}
use Rattle.ruled_links.specs.Parts.{noted, seen, AreCounted}
use Rattle.ruled_links.proofs.DeliveryLemmas.{of_more, of_other, takes, leaves}
use Rattle.ruled_links.proofs.KnownLemmas.{counted_note, sum_none}
use Rattle.ruled_links.proofs.PartsLemmas.{few_taken, lowered_notes, name_once, named_if, named_seen, none_left}
use Rattle.ruled_links.proofs.PartsLemmas.{senders_lowered}
use Rattle.ruled_links.proofs.mailbox.Inbox.take.Given.{Over}
use Rattle.ruled_links.proofs.mailbox.Inbox.take.Goals as goal

-- what the pass knows after it took m
took : (v w : InboxHand) (m : Envelope) → v ≡ inbox_hand false true 0 [] v.received v.known
    → w ≡ inbox_hand v.puts v.takes v.sender v.sent (v.received ++ m ∷ []) v.known
    → w ≡ inbox_hand false true 0 [] (v.received ++ m ∷ []) v.known
took v w m vs ws = ws ∙ ap (λ (h : InboxHand). inbox_hand h.puts h.takes h.sender h.sent (v.received ++ m ∷ []) v.known)
    vs

pub pop_as-requires-clause-rule : goal.pop_as-requires-clause-rule
pop_as-requires-clause-rule g c = (takes _ _ (search rules), leaves _ _ (search rules))

pub note-requires : goal.note-requires
note-requires g c = subst (λ (n : ℕ). All (λ (p : Part). number_of p.from ≡ n → p.taken < 2 ^ 62) c.self.inside.parts)
    (sym c.number.ensures.is)
    (few_taken c.self.inside.pass.me.view.client c.in-Some.m c.self.inside.parts c.in-Some.ensures.rule.0.2
    c.self.invariant.2.fits)

pub invariant_of-self : goal.invariant_of-self
invariant_of-self g c = let v = c.self.inside.pass.me.view.client in let ps = c.self.inside.parts in
    let m = c.in-Some.m in
    let e = took v c.pop_as.new.pass.me.view.client m c.self.invariant.1 c.in-Some.ensures.rule.0.0 in
    let noted_once : c.note.new.self ≡ map (noted (number_of m.from)) ps =
    c.note.ensures ∙ ap (λ (n : ℕ). map (noted n) ps) c.number.ensures.is in (
      search rules,
      subst (λ (h : InboxHand). h ≡ inbox_hand false true 0 [] h.received h.known) (sym e) refl,
      subst (λ (l : List Part). AreCounted c.pop_as.new.pass.me.view.client l) (sym noted_once)
          (counted_note v c.pop_as.new.pass.me.view.client m ps e c.self.invariant.2),
    )

-- what was received then
more : (g : Over) (c : goal.After-note g) → c.pop_as.new.pass.me.view.client.received ≡ c.args.self.now.received
    ++ c.in-Some.m ∷ []
more g c = ap (λ (h : InboxHand). h.received) c.in-Some.ensures.rule.0.0
    ∙ ap (λ (s : InboxView). s.received ++ c.in-Some.m ∷ []) c.self.view_is

pub returns-in-Some-clause-own : goal.returns-in-Some-clause-own
returns-in-Some-clause-own g c = let m = c.in-Some.m in
    ap (λ (l : List Envelope). messages_of m.from l) (more g c)
    ∙ of_more (number_of m.from) c.args.self.now.received m refl

pub returns-in-Some-clause-others : goal.returns-in-Some-clause-others
returns-in-Some-clause-others g c from apart = let m = c.in-Some.m in
    ap (λ (l : List Envelope). messages_of from l) (more g c)
    ∙ of_other (number_of from) c.args.self.now.received m (λ e. apart (sym (name_once m.from from e)))

pub returns-in-Some-clause-sender : goal.returns-in-Some-clause-sender
returns-in-Some-clause-sender g c = let v = c.self.inside.pass.me.view.client in let ps = c.self.inside.parts in
    let m = c.in-Some.m in
    ap (λ (s : InboxView). is_sender m.from s.senders) (sym c.self.view_is) ∙ named_seen m.from ps
    ∙ named_if _ _ (c.self.invariant.2.all (number_of m.from)) c.in-Some.ensures.rule.0.1

pub returns-in-Some-clause-known : goal.returns-in-Some-clause-known
returns-in-Some-clause-known g c = let ps = c.self.inside.parts in let m = c.in-Some.m in
    ap (λ (l : List Part). map seen l) (c.note.ensures ∙ ap (λ (n : ℕ). map (noted n) ps) c.number.ensures.is)
    ∙ lowered_notes m.from ps ∙ ap (λ (s : InboxView). lowered m.from s.senders) c.self.view_is

pub returns-in-Some-clause-inbox : goal.returns-in-Some-clause-inbox
returns-in-Some-clause-inbox g c = let ps = c.self.inside.parts in let m = c.in-Some.m in
    let lower : map seen c.note.new.self ≡ lowered m.from c.args.self.now.senders =
    ap (λ (l : List Part). map seen l) (c.note.ensures ∙ ap (λ (n : ℕ). map (noted n) ps) c.number.ensures.is)
    ∙ lowered_notes m.from ps ∙ ap (λ (s : InboxView). lowered m.from s.senders) c.self.view_is in record {
      link = ap (λ (s : InboxView). s.link) c.self.view_is;
      to = ap (λ (s : InboxView). s.to) c.self.view_is;
      senders = ap senders_of lower ∙ senders_lowered m.from c.args.self.now.senders;
    }

pub returns-in-None-clause-none : goal.returns-in-None-clause-none
returns-in-None-clause-none g c = sum_none _ (subst (λ (s : InboxView). All (λ (p : OfSender). p.known ≡ 0) s.senders)
    c.self.view_is (none_left c.self.inside.pass.me.view.client c.self.inside.parts c.in-None.ensures.rule.1
    c.self.invariant.2.fits))

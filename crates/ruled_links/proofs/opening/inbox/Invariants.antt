use Rattle.std.proofs.Common.{◌≡◌, [], map, take}
use Rattle.ruled_links.specs.Inboxes.{fresh, opened}
use Rattle.ruled_links.proofs.opening.inbox.Given as goal

abbrev pub invariant-loop-from : goal.invariant-loop-from
invariant-loop-from l = let read = take l.from-index l.senders in
    record {
      to : l.inbox.to ≡ l.fn.to;
      received : l.inbox.received ≡ [];
      senders : l.inbox.senders ≡ map fresh read;
      mouths : l.mouths ≡ map (opened l.inbox.link l.fn.to) read;
    }

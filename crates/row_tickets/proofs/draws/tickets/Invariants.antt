use Rattle.std.proofs.Common.{◌≡◌, map}
use Rattle.std.specs.List.{range_with_len}
use Rattle.row_tickets.specs.Tickets.{before_word, ticket_of}
use Rattle.row_tickets.proofs.draws.tickets.Given as goal

abbrev pub invariant-loop-i : goal.invariant-loop-i
invariant-loop-i l = record {
  place : l.from ≡ before_word l.seed l.fn.side l._i;
  drawn : l.drawn ≡ map (ticket_of l.seed l.fn.side) (range_with_len 0 l._i);
}

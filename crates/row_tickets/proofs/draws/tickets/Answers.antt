use Rattle.std.proofs.Common.{◌≡◌, ◌++◌, ◌∷◌, ◌∙◌, [], map, sym, ap, arith}
use Rattle.std.proofs.lemmas.List.FromFn.{map-range_with_len_more}
use Rattle.std.specs.List.{range_with_len}
use Rattle.rand_pcg.specs.Pcg.{multiplier_64, pcg32}
use Rattle.rand_pcg.specs.Lcg.{next, started, increment_of}
use Rattle.row_tickets.specs.Tickets.{stream_of, ticket_of, top_byte}
use Rattle.row_tickets.proofs.Words.{next-advance}
use Rattle.row_tickets.proofs.draws.tickets.Goals as goal

pub loop-i-preserved : goal.loop-i-preserved
loop-i-preserved c =
    let i = c.loop-i._i in
    let start = started 64 multiplier_64 c.args.seed (increment_of 64 (stream_of c.args.side)) in
    let ticket : c.draw.result ≡ ticket_of c.args.seed c.args.side i =
    c.draw.ensures.value ∙ ap (λ g. top_byte (pcg32 g).0) c.loop-i.invariant.place in
    record {
      place = c.draw.ensures.moves_on ∙ ap (λ g. next 64 multiplier_64 g) c.loop-i.invariant.place
          ∙ next-advance 64 multiplier_64 i start;
      drawn = c.in_ok-push.ensures.ok ∙ ap (λ xs. xs ++ c.draw.result ∷ []) c.loop-i.invariant.drawn
          ∙ ap (λ x. map (ticket_of c.args.seed c.args.side) (range_with_len 0 i) ++ x ∷ []) ticket
          ∙ sym (map-range_with_len_more (ticket_of c.args.seed c.args.side) 0 i i (omega arith));
    }

use Rattle.std.proofs.Common.{◌≡◌, ◌∙◌, Some, ap, sym}
use Rattle.std.specs.Prelude.{option_map}
use Rattle.join_words.specs.Words.{asked, asked_chain, chain_of}
use Rattle.join_plan.proofs.Seen.{third_among}
use Rattle.join_plan.proofs.reading.third_table.Goals as goal

pub returns-in-Err-clause-refused : goal.returns-in-Err-clause-refused
returns-in-Err-clause-refused g c =
    let own = asked c.args.options.now in
    let there : chain_of own.kind ≡ Some (asked_chain c.in-Some.chain) =
    sym c.chain.ensures ∙ ap (option_map asked_chain) c.in-Some.is in
    c.in-Err.ensures.refused own (record {
      files = (rw there at c.args.options.now.together.chained).0;
      among = third_among own (asked_chain c.in-Some.chain) there;
    })

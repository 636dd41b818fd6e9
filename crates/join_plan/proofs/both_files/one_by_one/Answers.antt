use Rattle.std.proofs.Common.{Err, Ok, arith, refl, rules}
use Rattle.join_words.specs.Words.{asked}
use Rattle.join_plan.proofs.Refusals.{later_refuses}
use Rattle.join_plan.proofs.Seen.{other_refusal, seen_both, seen_one}
use Rattle.join_plan.specs.declared.fault.Refusal.TheVariants as refusals
use Rattle.join_plan.proofs.both_files.one_by_one.Goals as goal

-- ---- R's file is no table

pub returns-in-Err : goal.returns-in-Err
returns-in-Err g c = record {
  told = search rules;
  rises = search rules;
  answer = search rules;
  found = search rules;
  seen = λ read memory.
      seen_one (g.H.Shelf.told c.args.shelf.now) (g.H.Shelf.picked c.table.new.shelf)
      c.args.options.now.name_r.now c.args.options.now.name_s.now c.in-Err.refusal
      (c.in-Err.ensures.seen (other_refusal c.in-Err.refusal refusals.Read read)
      (other_refusal c.in-Err.refusal refusals.Memory memory));
  sound = search rules;
  counts = search rules;
  refused =
      c.in-Err.ensures.refused (asked c.args.options.now) (record {
        files = c.requires.files;
        among = (0, omega arith, refl);
      });
  whole_r = search rules;
  whole_s = search rules;
}

-- ---- S's file is none

pub returns-in-Err-table : goal.returns-in-Err-table
returns-in-Err-table g c = record {
  told = search rules;
  rises = search rules;
  answer = search rules;
  found = search rules;
  seen = λ read memory.
      let seen = rw c.in-Ok.ensures.told at
      (c.in-Err-table.ensures.seen (other_refusal c.in-Err-table.refusal refusals.Read read)
      (other_refusal c.in-Err-table.refusal refusals.Memory memory)) in
      seen_both (g.H.Shelf.told c.args.shelf.now) (g.H.Shelf.picked c.table.new.shelf)
      (g.H.Shelf.picked c.table-in-Ok.new.shelf)
      c.args.options.now.name_r.now c.args.options.now.name_s.now
      c.in-Ok.of_r (Err c.in-Err-table.refusal) (c.in-Ok.ensures.seen (λ e. cc e) (λ e. cc e)) seen;
  sound = search rules;
  counts = search rules;
  refused =
      later_refuses (g.H.Shelf.faults c.args.shelf.now) (g.H.Shelf.faults c.table.new.shelf)
      (g.H.Shelf.faults c.table-in-Ok.new.shelf)
      (g.H.Shelf.told c.args.shelf.now) (g.H.Shelf.told c.table.new.shelf) (g.H.Shelf.picked c.table-in-Ok.new.shelf)
      (asked c.args.options.now) c.in-Err-table.refusal c.in-Ok.ensures.rises c.in-Ok.ensures.told
      (c.in-Err-table.ensures.refused (asked c.args.options.now) (record {
        files = c.requires.files;
        among = (1, omega arith, refl);
      }));
  whole_r = search rules;
  whole_s = search rules;
}

-- ---- both are tables

pub returns-in-Ok-table : goal.returns-in-Ok-table
returns-in-Ok-table g c = record {
  told = search rules;
  rises = search rules;
  answer = search rules;
  found = search rules;
  seen = λ read memory.
      let seen = rw c.in-Ok.ensures.told at (c.in-Ok-table.ensures.seen (λ e. cc e) (λ e. cc e)) in
      seen_both (g.H.Shelf.told c.args.shelf.now) (g.H.Shelf.picked c.table.new.shelf)
      (g.H.Shelf.picked c.table-in-Ok.new.shelf)
      c.args.options.now.name_r.now c.args.options.now.name_s.now
      c.in-Ok.of_r (Ok c.in-Ok-table.of_s) (c.in-Ok.ensures.seen (λ e. cc e) (λ e. cc e)) seen;
  sound = search rules;
  counts = search rules;
  refused = search rules;
  whole_r = search rules;
  whole_s = search rules;
}

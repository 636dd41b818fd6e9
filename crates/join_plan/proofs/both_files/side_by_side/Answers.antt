use Rattle.std.proofs.Common.{Err, ap, arith, refl, rules, subst, sym}
use Rattle.join_rows.specs.Records.{table_of}
use Rattle.row_cells.specs.declared.table.Side.TheVariants.{R, S}
use Rattle.join_words.specs.Words.{asked}
use Rattle.join_plan.specs.Causes.{Refuses}
use Rattle.join_plan.specs.Files.{or_refused}
use Rattle.join_plan.specs.Seen.{TablesSeen}
use Rattle.join_plan.proofs.BothFiles.{both-behind, both-other, both-refused, seen_behind}
use Rattle.join_plan.proofs.Refusals.{later_refuses, later_refuses_if}
use Rattle.join_plan.proofs.Seen.{other_refusal, seen_one}
use Rattle.join_plan.specs.declared.fault.Refusal.TheVariants as refusals
use Rattle.join_plan.proofs.both_files.side_by_side.Goals as goal

-- ---- R's file is no table

pub returns-in-Err : goal.returns-in-Err
returns-in-Err g c = record {
  told = search rules;
  rises = search rules;
  answer = search rules;
  found = search rules;
  seen = λ read memory.
      seen_one (g.H.Shelf.told c.args.shelf.now) (g.H.Shelf.picked c.table_bytes.new.shelf)
      c.args.options.now.name_r.now c.args.options.now.name_s.now c.in-Err.refusal
      (c.in-Err.ensures.seen (other_refusal c.in-Err.refusal refusals.Read read)
      (other_refusal c.in-Err.refusal refusals.Memory memory));
  sound = search rules;
  counts = search rules;
  refused =
      c.in-Err.ensures.refused (asked c.args.options.now) (record {
        files = c.requires.files;
        among = (0, omega arith, refl);
      });
  whole_r = search rules;
  whole_s = search rules;
}

-- ---- S's file isn't read

pub returns-in-Err-bytes_of : goal.returns-in-Err-bytes_of
returns-in-Err-bytes_of g c = record {
  told = search rules;
  rises = search rules;
  answer = search rules;
  found = search rules;
  seen = λ read memory.
      let (table, good) = c.in-Ok.ensures.good in
      let seen = rw c.in-Ok.ensures.told at
      (c.in-Err-bytes_of.ensures.seen (other_refusal c.in-Err-bytes_of.refusal refusals.Read read)
      (other_refusal c.in-Err-bytes_of.refusal refusals.Memory memory)) in
      seen_behind (g.H.Shelf.told c.args.shelf.now) (g.H.Shelf.picked c.table_bytes.new.shelf)
      (g.H.Shelf.picked c.bytes_of.new.shelf) c.args.options.now.name_r.now c.args.options.now.name_s.now
      (or_refused R 1 (table_of c.in-Ok.bytes)) (Err c.in-Err-bytes_of.refusal) table (ap (or_refused R 1) good)
      c.in-Ok.ensures.seen seen;
  sound = search rules;
  counts = search rules;
  refused =
      later_refuses (g.H.Shelf.faults c.args.shelf.now) (g.H.Shelf.faults c.table_bytes.new.shelf)
      (g.H.Shelf.faults c.bytes_of.new.shelf)
      (g.H.Shelf.told c.args.shelf.now) (g.H.Shelf.told c.table_bytes.new.shelf) (g.H.Shelf.picked c.bytes_of.new.shelf)
      (asked c.args.options.now) c.in-Err-bytes_of.refusal c.in-Ok.ensures.rises c.in-Ok.ensures.told
      (c.in-Err-bytes_of.ensures.refused (asked c.args.options.now) (record {
        files = c.requires.files;
        among = (1, omega arith, refl);
      }));
  whole_r = search rules;
  whole_s = search rules;
}

-- ---- both are read

pub returns : goal.returns
returns g c = record {
  told = search rules;
  rises = search rules;
  answer = search rules;
  found = search rules;
  seen = λ read memory.
      let (table, good) = c.in-Ok.ensures.good in
      let x = or_refused R 1 (table_of c.in-Ok.bytes) in
      let y = or_refused S 1 (table_of c.in-Ok-bytes_of.bytes) in
      let is = rw (c.as_slice.ensures, c.as_slice-2.ensures) at c.tables_from.ensures.answer in
      let found = ap (or_refused R 1) good in
      let seen = rw c.in-Ok.ensures.told at
      (c.in-Ok-bytes_of.ensures.seen (both-other x y table found c.tables_from.result is refusals.Read memory read)
      (both-other x y table found c.tables_from.result is refusals.Memory memory memory)) in
      subst (TablesSeen (g.H.Shelf.told c.args.shelf.now) (g.H.Shelf.picked c.bytes_of.new.shelf)
      c.args.options.now.name_r.now c.args.options.now.name_s.now)
      (sym (both-behind x y table found c.tables_from.result is memory))
      (seen_behind (g.H.Shelf.told c.args.shelf.now) (g.H.Shelf.picked c.table_bytes.new.shelf)
      (g.H.Shelf.picked c.bytes_of.new.shelf) c.args.options.now.name_r.now c.args.options.now.name_s.now
      x y table found c.in-Ok.ensures.seen seen);
  sound = search rules;
  counts = search rules;
  refused =
      let (table, good) = c.in-Ok.ensures.good in
      let is = rw (c.as_slice.ensures, c.as_slice-2.ensures) at c.tables_from.ensures.answer in
      both-refused (or_refused R 1 (table_of c.in-Ok.bytes)) (or_refused S 1 (table_of c.in-Ok-bytes_of.bytes)) table
      (ap (or_refused R 1) good) c.tables_from.result is
      (Refuses (g.H.Shelf.faults c.args.shelf.now) (g.H.Shelf.faults c.bytes_of.new.shelf)
      (g.H.Shelf.told c.args.shelf.now) (g.H.Shelf.picked c.bytes_of.new.shelf) (asked c.args.options.now)) tt
      (later_refuses_if (g.H.Shelf.faults c.args.shelf.now) (g.H.Shelf.faults c.table_bytes.new.shelf)
      (g.H.Shelf.faults c.bytes_of.new.shelf) (g.H.Shelf.told c.args.shelf.now)
      (g.H.Shelf.told c.table_bytes.new.shelf) (g.H.Shelf.picked c.bytes_of.new.shelf) (asked c.args.options.now)
      (or_refused S 1 (table_of c.in-Ok-bytes_of.bytes)) c.in-Ok.ensures.rises c.in-Ok.ensures.told
      (c.in-Ok-bytes_of.ensures.refused (asked c.args.options.now) (record {
        files = c.requires.files;
        among = (1, omega arith, refl);
      })));
  whole_r = search rules;
  whole_s = search rules;
}

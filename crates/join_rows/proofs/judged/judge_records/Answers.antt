use Rattle.std.proofs.Common.{◌≡◌, ◌∙◌, ◌∷◌, [], ℕ, List, Bor, Some, ap, arith, inl, inr, refl, sym}
use Rattle.csv.specs.Reading.{strip_bom}
use Rattle.csv.specs.Records.{fields_of}
use Rattle.join_rows.specs.Records.{after_marks, records_of}
use Rattle.join_rows.proofs.JudgedRows.{judged-end, judged-long, judged-more, judged-narrow}
use Rattle.join_rows.proofs.Marks.{marks-gone}
use Rattle.join_rows.proofs.Tables.{answers-none}
use Rattle.join_rows.proofs.Taken.{first_read, last_read, more_read, no_read}
use Rattle.join_rows.proofs.judged.judge_records.Goals as goal

rest : (text cut : List ℕ) → cut ≡ after_marks text → strip_bom cut ≡ after_marks text
rest text cut e = rw e (marks-gone text)

pub returns-in-Ok-false-clause-bad : goal.returns-in-Ok-false-clause-bad
returns-in-Ok-false-clause-bad c =
    let rd = c.reader_over-reader.ensures in
    let from = rd.source ∙ ap Some (rest c.args.text.now _ c.without_marks.ensures) in
    let read = rw c.in-Ok-false.field-0-test at (c.in-Ok-false.ensures.reads rd.trim rd.ready) in
    inr (sym (answers-none (records_of c.args.text.now) (no_read (λ (s : Bor (List ℕ)). Some s.now)
    c.reader_over-reader.result c.read_byte_record.new.self (fields_of c.read_byte_record.new.row)
    (after_marks c.args.text.now) rd.config from rd.state read)))

pub rows-init : goal.rows-init
rows-init c =
    let rd = c.reader_over-reader.ensures in
    let from = rd.source ∙ ap Some (rest c.args.text.now _ c.without_marks.ensures) in
    let read = rw c.in-Ok-true.field-0-test at (c.in-Ok-true.ensures.reads rd.trim rd.ready) in
    let (left, at_left, reached) = first_read (λ (s : Bor (List ℕ)). Some s.now)
    c.reader_over-reader.result c.read_byte_record.new.self (fields_of c.read_byte_record.new.row)
    (after_marks c.args.text.now) rd.config from rd.state read in (
      read.3 ∙ rd.trim,
      inl (c.in-Ok-true.ensures.ready rd.trim),
      read.2 ∙ rd.config,
      left,
      at_left,
      record {
        names = fields_of c.read_byte_record.new.row;
        done = [];
        named = c.len-width.ensures;
        reached = reached;
        wide = tt;
        counted = refl;
        few = omega arith;
      },
    )

pub returns-in-Ok-false-read_byte_record-clause-good : goal.returns-in-Ok-false-read_byte_record-clause-good
returns-in-Ok-false-read_byte_record-clause-good c =
    let (t, ready, config, left, source, are) = c.rows.invariant in
    let read = rw c.in-Ok-false-read_byte_record.field-0-test at
    (c.in-Ok-false-read_byte_record.ensures.reads t ready) in
    judged-end (after_marks c.args.text.now) c.len-width.result c.rows.count c.rows.reader.state left are
    (last_read (λ (s : Bor (List ℕ)). Some s.now) c.rows.reader c.read_byte_record-in-rows.new.self
    (fields_of c.read_byte_record-in-rows.new.row) (after_marks c.args.text.now) left (are.names ∷ are.done)
    config source are.reached read)

pub returns-then-count-eq-MOST_ROWS-clause-bad : goal.returns-then-count-eq-MOST_ROWS-clause-bad
returns-then-count-eq-MOST_ROWS-clause-bad c =
    let (t, ready, config, left, source, are) = c.rows.invariant in
    let read = rw c.in-Ok-true-read_byte_record.field-0-test at (c.in-Ok-true-read_byte_record.ensures.reads t ready) in
    let (z, at_z, more) = more_read (λ (s : Bor (List ℕ)). Some s.now) c.rows.reader c.read_byte_record-in-rows.new.self
    (fields_of c.read_byte_record-in-rows.new.row) (after_marks c.args.text.now) left (are.names ∷ are.done)
    config source are.reached read in
    inr (judged-long (after_marks c.args.text.now) c.len-width.result c.rows.count c.rows.reader.state
    c.read_byte_record-in-rows.new.self.state left z (fields_of c.read_byte_record-in-rows.new.row) are more
    c.if-count-eq-MOST_ROWS.true)

pub returns-then-len-width-clause-bad : goal.returns-then-len-width-clause-bad
returns-then-len-width-clause-bad c =
    let (t, ready, config, left, source, are) = c.rows.invariant in
    let read = rw c.in-Ok-true-read_byte_record.field-0-test at (c.in-Ok-true-read_byte_record.ensures.reads t ready) in
    let (z, at_z, more) = more_read (λ (s : Bor (List ℕ)). Some s.now) c.rows.reader c.read_byte_record-in-rows.new.self
    (fields_of c.read_byte_record-in-rows.new.row) (after_marks c.args.text.now) left (are.names ∷ are.done)
    config source are.reached read in
    inr (rw c.len-then-len-width.ensures (judged-narrow (after_marks c.args.text.now) c.len-width.result c.rows.count
    c.rows.reader.state c.read_byte_record-in-rows.new.self.state left z
    (fields_of c.read_byte_record-in-rows.new.row) are more c.if-count-eq-MOST_ROWS.false
    (λ e. c.if-len-width.true (c.len.ensures ∙ e))))

pub rows-preserved : goal.rows-preserved
rows-preserved c =
    let (t, ready, config, left, source, are) = c.rows.invariant in
    let read = rw c.in-Ok-true-read_byte_record.field-0-test at (c.in-Ok-true-read_byte_record.ensures.reads t ready) in
    let (z, at_z, more) = more_read (λ (s : Bor (List ℕ)). Some s.now) c.rows.reader c.read_byte_record-in-rows.new.self
    (fields_of c.read_byte_record-in-rows.new.row) (after_marks c.args.text.now) left (are.names ∷ are.done)
    config source are.reached read in (
      read.3 ∙ t,
      inl (c.in-Ok-true-read_byte_record.ensures.ready t),
      read.2 ∙ config,
      z,
      at_z,
      judged-more (after_marks c.args.text.now) c.len-width.result c.rows.count c.rows.reader.state
          c.read_byte_record-in-rows.new.self.state left z (fields_of c.read_byte_record-in-rows.new.row) are more
          c.if-count-eq-MOST_ROWS.false (sym c.len.ensures ∙ c.if-len-width.false),
    )

use Rattle.std.proofs.Common.{◌≡◌, ◌∙◌, ◌++◌, ◌∷◌, length-append, [], ℕ, List, Bor, Some, ap, length, inl, inr}
use Rattle.std.proofs.Common.{◌*◌, ◌<◌, arith, refl, sym}
use Rattle.csv.specs.Reading.{strip_bom}
use Rattle.csv.specs.Records.{fields_of}
use Rattle.join_rows.specs.Records.{after_marks, records_of}
use Rattle.join_rows.proofs.Counted.{records-begin}
use Rattle.join_rows.proofs.Marks.{marks-gone}
use Rattle.join_rows.proofs.Taken.{first_read, last_read, more_read, no_read}
use Rattle.row_cells.proofs.SharedRows.{cells-counted, texts-are_rows, texts-more}
use Rattle.join_rows.proofs.Tables.{answers-good, answers-long, answers-narrow, answers-none, wide-more}
use Rattle.join_rows.proofs.records.table_from.Goals as goal

rest : (text cut : List ℕ) → cut ≡ after_marks text → strip_bom cut ≡ after_marks text
rest text cut e = rw e (marks-gone text)

pub returns-in-Ok-false : goal.returns-in-Ok-false
returns-in-Ok-false c =
    let rd = c.reader_over-reader.ensures in
    let from = rd.source ∙ ap Some (rest c.args.text.now _ c.without_marks.ensures) in
    let read = rw c.in-Ok-false.field-0-test at (c.in-Ok-false.ensures.reads rd.trim rd.ready) in
    inr (answers-none (records_of c.args.text.now) (no_read (λ (s : Bor (List ℕ)). Some s.now)
    c.reader_over-reader.result c.read_byte_record.new.self (fields_of c.read_byte_record.new.row)
    (after_marks c.args.text.now) rd.config from rd.state read))

pub rows-init : goal.rows-init
rows-init c =
    let rd = c.reader_over-reader.ensures in
    let from = rd.source ∙ ap Some (rest c.args.text.now _ c.without_marks.ensures) in
    let read = rw c.in-Ok-true.field-0-test at (c.in-Ok-true.ensures.reads rd.trim rd.ready) in
    let (z, at_z, reached) = first_read (λ (s : Bor (List ℕ)). Some s.now)
    c.reader_over-reader.result c.read_byte_record.new.self (fields_of c.read_byte_record.new.row)
    (after_marks c.args.text.now) rd.config from rd.state read in (
      read.3 ∙ rd.trim,
      inl (c.in-Ok-true.ensures.ready rd.trim),
      read.2 ∙ rd.config,
      c.len-width.ensures ∙ ap length (sym c.in_ok-names.ensures),
      z,
      at_z,
      [],
      rw c.in_ok-names.ensures reached,
      c.new-texts.ensures,
      tt,
      refl,
      omega arith,
    )

pub rows_over-requires : goal.rows_over-requires
rows_over-requires c =
    let (t, ready, config, width, y, source, done, reached, held, wide, size, few) = c.rows.invariant in
    let are = texts-are_rows (length c.rows.names) done c.rows.texts wide held in
    record {
      whole = cells-counted done (length c.rows.names) (length done) c.rows.texts are
          ∙ ap (λ n. n * length c.rows.names) (sym size) ∙ ap (λ n. c.rows.count * n) (sym width);
    }

pub returns-in-Ok-false-read_byte_record : goal.returns-in-Ok-false-read_byte_record
returns-in-Ok-false-read_byte_record c =
    let (t, ready, config, width, y, source, done, reached, held, wide, size, few) = c.rows.invariant in
    let read = rw c.in-Ok-false-read_byte_record.field-0-test at
    (c.in-Ok-false-read_byte_record.ensures.reads t ready) in
    let all = last_read (λ (s : Bor (List ℕ)). Some s.now) c.rows.reader c.read_byte_record-in-rows.new.self
    (fields_of c.read_byte_record-in-rows.new.row) (after_marks c.args.text.now) y (c.rows.names ∷ done)
    config source reached read in
    let are = texts-are_rows (length c.rows.names) done c.rows.texts wide held in
    let same = c.in_ok-rows-in-Ok-false-read_byte_record.ensures done
    (rw (width, size) are) in
    inr (answers-good (records_of c.args.text.now) c.rows.names done
    c.in_ok-rows-in-Ok-false-read_byte_record.rows all same wide few)

pub returns-then-len-width : goal.returns-then-len-width
returns-then-len-width c =
    let (t, ready, config, width, y, source, done, reached, held, wide, size, few) = c.rows.invariant in
    let read = rw c.in-Ok-true-read_byte_record.field-0-test at (c.in-Ok-true-read_byte_record.ensures.reads t ready) in
    let (z, at_z, more) = more_read (λ (s : Bor (List ℕ)). Some s.now) c.rows.reader c.read_byte_record-in-rows.new.self
    (fields_of c.read_byte_record-in-rows.new.row) (after_marks c.args.text.now) y (c.rows.names ∷ done)
    config source reached read in
    let (n, front) = records-begin (after_marks c.args.text.now) z c.read_byte_record-in-rows.new.self.state
    (c.rows.names ∷ (done ++ (fields_of c.read_byte_record-in-rows.new.row ∷ []))) more in
    let fits : length done < 262144 = omega (arith, few, size, c.if-count-eq-MOST_ROWS.false) in
    inr (rw (size, c.len-then-len-width.ensures)
    (answers-narrow (records_of c.args.text.now) c.rows.names (fields_of c.read_byte_record-in-rows.new.row)
    done _ front wide fits (λ e. c.if-len-width.true (c.len.ensures ∙ e ∙ sym width))))

pub returns-then-count-eq-MOST_ROWS : goal.returns-then-count-eq-MOST_ROWS
returns-then-count-eq-MOST_ROWS c =
    let (t, ready, config, width, y, source, done, reached, held, wide, size, few) = c.rows.invariant in
    let read = rw c.in-Ok-true-read_byte_record.field-0-test at (c.in-Ok-true-read_byte_record.ensures.reads t ready) in
    let (z, at_z, more) = more_read (λ (s : Bor (List ℕ)). Some s.now) c.rows.reader c.read_byte_record-in-rows.new.self
    (fields_of c.read_byte_record-in-rows.new.row) (after_marks c.args.text.now) y (c.rows.names ∷ done)
    config source reached read in
    let (n, front) = records-begin (after_marks c.args.text.now) z c.read_byte_record-in-rows.new.self.state
    (c.rows.names ∷ (done ++ (fields_of c.read_byte_record-in-rows.new.row ∷ []))) more in
    let many : length done ≡ 262144 = omega (arith, size, c.if-count-eq-MOST_ROWS.true) in
    inr (answers-long (records_of c.args.text.now) c.rows.names (fields_of c.read_byte_record-in-rows.new.row)
    done _ front wide many)

pub rows-preserved : goal.rows-preserved
rows-preserved c =
    let (t, ready, config, width, y, source, done, reached, held, wide, size, few) = c.rows.invariant in
    let read = rw c.in-Ok-true-read_byte_record.field-0-test at (c.in-Ok-true-read_byte_record.ensures.reads t ready) in
    let (z, at_z, more) = more_read (λ (s : Bor (List ℕ)). Some s.now) c.rows.reader c.read_byte_record-in-rows.new.self
    (fields_of c.read_byte_record-in-rows.new.row) (after_marks c.args.text.now) y (c.rows.names ∷ done)
    config source reached read in (
      read.3 ∙ t,
      inl (c.in-Ok-true-read_byte_record.ensures.ready t),
      read.2 ∙ config,
      width,
      z,
      at_z,
      done ++ (fields_of c.read_byte_record-in-rows.new.row ∷ []),
      more,
      c.in_ok-add_fields.ensures
          ∙ ap (λ texts. texts ++ fields_of c.read_byte_record-in-rows.new.row) held
          ∙ sym (texts-more done (fields_of c.read_byte_record-in-rows.new.row)),
      wide-more (length c.rows.names) done (fields_of c.read_byte_record-in-rows.new.row) wide
          (sym c.len.ensures ∙ c.if-len-width.false ∙ width),
      omega (arith, length-append done (fields_of c.read_byte_record-in-rows.new.row ∷ []), size),
      omega (
        arith,
        length-append done (fields_of c.read_byte_record-in-rows.new.row ∷ []),
        few,
        size,
        c.if-count-eq-MOST_ROWS.false,
      ),
    )

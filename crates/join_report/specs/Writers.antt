-- A writer of csv that writes into a vector.
use Rattle.std.specs.Prelude.{◌≡◌, ℕ, false, List, Some}
use Rattle.std.specs.declared.vec.Vec.{Vec}
use Rattle.csv.specs.Writing.{default_writer, fields_written, has_written, text_written, writer_setup}
use Rattle.csv.specs.declared.writer.Writer.{Writer}

-- the writer writes by default, stands between two records, and has written this text
pub record HasWritten {A : Type 0} (writer : Writer (Vec ℕ A)) (text : List ℕ) : Type 0 where
  pub setup : writer_setup writer ≡ default_writer
  pub no_field : fields_written writer ≡ 0
  pub between : has_written writer ≡ false
  pub text_is : text_written (λ v. Some v.items) writer ≡ Some text

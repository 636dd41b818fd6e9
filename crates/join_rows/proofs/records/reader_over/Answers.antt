use Rattle.std.proofs.Common.{◌∙◌, inr}
use Rattle.join_rows.proofs.records.reader_over.Goals as goal

pub returns-clause-trim : goal.returns-clause-trim
returns-clause-trim c = rw (c.flexible.ensures, c.has_headers.ensures) at c.from_reader.ensures.trim
    ∙ c.new.ensures.trim

pub returns-clause-ready : goal.returns-clause-ready
returns-clause-ready c = inr (inr (
  rw (c.flexible.ensures, c.has_headers.ensures) at c.from_reader.ensures.has_headers,
  c.from_reader.ensures.headers,
))

pub returns-clause-config : goal.returns-clause-config
returns-clause-config c = rw (c.flexible.ensures, c.has_headers.ensures) at c.from_reader.ensures.config
    ∙ c.new.ensures.config

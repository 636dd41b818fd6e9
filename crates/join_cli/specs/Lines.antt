-- The line on standard error.
use Rattle.std.specs.Prelude.{◌≡◌, ◌⊎◌, ◌<◌, ◌++◌, ℕ, List, [], Option, None, Some, codes}
use Rattle.std.specs.Io.KnownBytes.{append_known}
use Rattle.join_rows.specs.Shelves.{last_fault}
use Rattle.join_rows.specs.Sinks.{AppendsFront}
use Rattle.join_rows.specs.declared.sink.Sink.{Ghosts as SinkGhosts}
use Rattle.join_plan.specs.Lines.{input_line, limit_line, text_line}
use Rattle.join_cli.specs.declared.outcome.Outcome.{Outcome}
use Rattle.join_cli.specs.declared.outcome.Outcome.TheVariants.{Done, DoneGroups, DoneChain, DoneRings, Words}
use Rattle.join_cli.specs.declared.outcome.Outcome.TheVariants.{Predicate, Then, Input, Limit, Read, Write, Memory}
use Rattle.join_cli.specs.Courses.{Course}
use Rattle.join_cli.specs.Ends.{course_of}

-- what is said of an outcome; nothing of one whose output was written whole
abbrev pub said_of : Outcome → List ℕ
said_of (Done journal trail) = []
said_of (DoneGroups journals trail) = []
said_of (DoneChain first second trail) = []
said_of (DoneRings journal ends back) = []
said_of (Words fault) = codes "usage: jm --on TEXT [options] R.csv S.csv"
said_of (Predicate fault) = codes "predicate: " ++ text_line fault
said_of (Then fault) = codes "then: " ++ text_line fault
said_of (Input fault) = codes "input: " ++ input_line fault
said_of (Limit fault) = codes "limit: " ++ limit_line fault
said_of Read = codes "read: failed"
said_of Write = codes "write: failed"
said_of Memory = codes "memory: none left"

-- a line where there is no course, and else none
abbrev pub line_unless : Option Course → List ℕ → List ℕ
line_unless None said = said ++ codes "\n"
line_unless (Some course) said = []

-- the line of an outcome, with its end; one whose output was written whole has none
abbrev pub line_of : Outcome → List ℕ
line_of outcome = line_unless (course_of outcome) (said_of outcome)

-- a line was put
pub record PutsLine {E : Type 0} (e : SinkGhosts E) (old new : E) (line : List ℕ) : Type 0 where
  -- nothing else was, and where a put failed perhaps a front of it alone
  pub front : AppendsFront (e.written old) (e.written new) line
  -- where none failed it was put whole, or for want of memory nothing was
  pub whole : e.faults old < last_fault → e.faults new ≡ e.faults old
      → (new ≡ old) ⊎ (e.written new ≡ append_known (e.written old) line)

-- the line of this outcome was put
abbrev pub TellsLine : {E : Type 0} → SinkGhosts E → E → E → Outcome → Type 0
TellsLine e old new outcome = PutsLine e old new (line_of outcome)

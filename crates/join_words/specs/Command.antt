-- The command line of `jm`, as clap reads it.
use Rattle.std.specs.Prelude.{◌≡◌, ◌++◌, ℕ, false, true, List, [], ◌∷◌, Some, All, codes, map}
use Rattle.clap.specs.Lexer.{usize_max}
use Rattle.clap.specs.Walk.{Rule, Text, rule_of}
use Rattle.clap.specs.Simple.{App, new_app, new_rule, with_rule}
use Rattle.clap.specs.declared.builder.arg.Arg.{Arg}
use Rattle.clap.specs.declared.builder.action.ArgAction.TheVariants.{SetTrue}
use Rattle.clap.specs.declared.builder.value_parser.ValueParser.TheVariants as vp

-- `--id TEXT`, which must be there
abbrev pub text_rule : Text → Rule
text_rule id = record (new_rule id) { long = Some id; required = true }

-- the same, which needn't be there
abbrev pub option_rule : Text → Rule
option_rule id = record (new_rule id) { long = Some id }

-- `--id N`, from least to most
abbrev pub number_rule : Text → ℕ → ℕ → Rule
number_rule id least most = record (new_rule id) { long = Some id; parser = Some (vp.Unsigned least most) }

-- the same, or else this value
abbrev pub default_rule : Text → ℕ → ℕ → Text → Rule
default_rule id least most value = record (number_rule id least most) { defaults = value ∷ [] }

-- `--id TEXT`, or else this value
abbrev pub text_or_rule : Text → Text → Rule
text_or_rule id value = record (new_rule id) { long = Some id; defaults = value ∷ [] }

-- `--id`, without a value
abbrev pub flag_rule : Text → Rule
flag_rule id = record (new_rule id) { long = Some id; action = Some SetTrue }

-- any number of words that no option takes
abbrev pub files_rule : Text → Rule
files_rule id = record (new_rule id) { range = Some (record { start_inclusive = 0; end_inclusive = usize_max }) }

-- the predicate, and how many actors there are
abbrev pub actor_rules : List Rule
actor_rules = text_rule (codes "on")
    ∷ default_rule (codes "joiners") 1 64 (codes "4")
    ∷ default_rule (codes "feeders") 1 8 (codes "2")
    ∷ default_rule (codes "workers") 1 16 (codes "4")
    ∷ default_rule (codes "batch") 1 4096 (codes "64") ∷ []

-- the order of the rows, the tickets, the grid and the weights
abbrev pub setting_rules : List Rule
setting_rules = text_or_rule (codes "feed") (codes "alternate")
    ∷ default_rule (codes "seed") 0 18446744073709551615 (codes "1")
    ∷ number_rule (codes "fixed") 0 6
    ∷ default_rule (codes "weight-r") 1 1024 (codes "1")
    ∷ default_rule (codes "weight-s") 1 1024 (codes "1") ∷ []

-- where rows come from, and what is written
abbrev pub output_rules : List Rule
output_rules = number_rule (codes "replay") 0 18446744073709551615
    ∷ number_rule (codes "make") 1 65536
    ∷ flag_rule (codes "early")
    ∷ flag_rule (codes "report")
    ∷ flag_rule (codes "rows") ∷ []

-- the other kinds of run, and the files
abbrev pub kind_rules : List Rule
kind_rules = flag_rule (codes "groups")
    ∷ option_rule (codes "then")
    ∷ flag_rule (codes "rings")
    ∷ number_rule (codes "grow") 1 3
    ∷ files_rule (codes "files") ∷ []

-- the arguments of `jm`
abbrev pub rules : List Rule
rules = actor_rules ++ setting_rules ++ output_rules ++ kind_rules

-- a command with these arguments too
abbrev pub with_rules : App → List Rule → App
with_rules app [] = app
with_rules app (rule ∷ rest) = with_rules (with_rule app rule) rest

-- arguments with these rules, each for the command alone
pub record HaveRules (rules : List Rule) (args : List Arg) : Type 0 where
  pub are : map rule_of args ≡ rules
  pub local : All (λ arg. arg.global ≡ false) args

-- the command of `jm`
unfoldable pub jm_command : App
jm_command = with_rules (new_app (codes "jm")) rules

-- the command is that of `jm`
pub record IsCommand (app : App) : Type 0 where
  pub is : app ≡ jm_command

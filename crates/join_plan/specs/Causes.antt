-- Why nothing is joined.
use Rattle.std.specs.Prelude.{◌≡◌, ◌⊎◌, ◌≤◌, ◌<◌, ◌+◌, ◌^◌, ℕ, ⊤, List, IsSomeAnd, is_some, true, Option, None, Some}
use Rattle.std.specs.List.{Contains}
use Rattle.row_cells.specs.declared.table.Side.{Side}
use Rattle.join_rows.specs.Shelves.{Told, Lacks, Spot}
use Rattle.join_words.specs.Words.{Asked, AskedChain, chain_of}
use Rattle.join_plan.specs.declared.fault.Refusal.{Refusal}
use Rattle.join_plan.specs.declared.fault.Refusal.TheVariants.{Input, Limit, Memory, Predicate, Read, Then}
use Rattle.join_plan.specs.declared.fault.LimitFault.TheVariants.{Between, TooLong, TooMany, Total}
use Rattle.join_plan.specs.declared.fault.TextFault.{TextFault}
use Rattle.join_plan.specs.declared.refusal_of_fault.Which.{Which}
use Rattle.join_plan.specs.declared.refusal_of_fault.Which.TheVariants.{On, Then as Further}
use Rattle.join_plan.specs.Files.{Source, sources}
use Rattle.join_plan.specs.Texts.{IsTrueOf}

-- one of these files isn't there
pub record LacksOne (told : Told) (files : List Source) : Type 0 where
  pub source : Source
  pub among : Contains files source
  pub lacks : Lacks told source.name

-- a file of this side and wave is picked, and the place in it is past the greatest length, by no more than one
pub record StandsPast (spot : Spot) (side : Side) (wave : ℕ) (files : List Source) : Type 0 where
  pub source : Source
  pub among : Contains files source
  pub of_side : source.side ≡ side
  pub of_wave : source.wave ≡ wave
  pub place : ℕ
  pub stands : spot ≡ Some (source.name, place)
  pub past : 2 ^ 24 < place
  pub near : place ≤ 2 ^ 24 + 1

-- a fault that the second text has for itself is its
abbrev pub IsTrueFurther : Option AskedChain → TextFault → Type 0
IsTrueFurther None fault = ⊥
IsTrueFurther (Some chain) fault = IsTrueOf chain.on fault

-- this is the text of that predicate
abbrev pub IsTextOf : Which → List ℕ → Asked → Type 0
IsTextOf On text asked = asked.on ≡ text
IsTextOf Further text asked = IsSomeAnd (chain_of asked.kind) (λ chain. chain.on ≡ text)

-- no tables are made, and the file is one of those that are asked for
pub record IsSourceOf (asked : Asked) (source : Source) : Type 0 where
  pub files : asked.make ≡ None
  pub among : Contains (sources asked) source

-- each of these is such a file
abbrev pub AreAsked : Asked → List Source → Type 0
AreAsked asked files = (source : Source) → Contains files source → IsSourceOf asked source

-- this predicate is asked for
abbrev pub HasText : Which → Asked → Type 0
HasText On asked = ⊤
HasText Further asked = is_some (chain_of asked.kind) ≡ true

-- what is told where nothing was carried out is so: of the texts; of the shelf, whose count rose from the one to the
-- other or
-- which lacks one of the files, where files are asked for; and of the place in the file that is picked
abbrev pub Refuses : ℕ → ℕ → Told → Spot → Asked → Refusal → Type 0
Refuses old new told spot asked (Predicate fault) = IsTrueOf asked.on fault
Refuses old new told spot asked (Then fault) = IsTrueFurther (chain_of asked.kind) fault
Refuses old new told spot asked (Input fault) = ⊤
Refuses old new told spot asked (Limit (TooLong side wave)) = StandsPast spot side wave (sources asked)
Refuses old new told spot asked (Limit (TooMany side wave)) = ⊤
Refuses old new told spot asked (Limit (Total side wave rows)) = ⊤
Refuses old new told spot asked (Limit (Between pairs)) = ⊥
Refuses old new told spot asked Read = (asked.make ≡ None) × ((old < new) ⊎ LacksOne told (sources asked))
Refuses old new told spot asked Memory = ⊤

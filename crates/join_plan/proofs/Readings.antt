-- Texts that are asked for read in one way, so there is one plan of them.
use Rattle.std.proofs.Common.{◌≡◌, ◌∙◌, ℕ, List, Option, None, Some, Result, refl, sym, ap, ap₂}
use Rattle.theta_tree.specs.Grammar.{Tree}
use Rattle.theta_tree.specs.Texts.{limits}
use Rattle.theta_tree.specs.declared.fault.PredFault.{PredFault}
use Rattle.text_readings.proofs.Readings.{every_text, one_reading}
use Rattle.join_words.specs.Words.{Asked, AskedChain, chain_of}
use Rattle.join_plan.specs.declared.fault.Refusal.{Refusal}
use Rattle.join_plan.specs.declared.fitting.Planned.{Planned}
use Rattle.join_plan.specs.Plan.{IsPlanOf, plan_of}
use Rattle.join_plan.specs.Texts.{AreRead, IsReadFurther, Readings}

-- the texts that are asked for read in some way
pub every_request : (asked : Asked) → (readings : Readings) × AreRead asked readings
every_request asked =
    let on = every_text limits asked.on in
    let further = by (chain_of asked.kind) in
    (record { on = on.reading; further = further.0 }, record { on = on.is; further = further.1 })
  where
    by : (chain : Option AskedChain) → (further : Option (Result Tree PredFault)) × IsReadFurther chain further
    by None = (None, tt)
    by (Some chain) = let further = every_text limits chain.on in (Some further.reading, further.is)

-- and in no two ways
one_further : (chain : Option AskedChain) (one other : Option (Result Tree PredFault))
    → IsReadFurther chain one → IsReadFurther chain other → one ≡ other
one_further None None None read read' = refl
one_further (Some chain) (Some one) (Some other) read read' =
    ap (λ r. Some r) (one_reading limits chain.on one other read read')
one_further None (Some one) other read read' = absurd read
one_further None None (Some other) read read' = absurd read'
one_further (Some chain) None other read read' = absurd read
one_further (Some chain) (Some one) None read read' = absurd read'

-- so both texts together read in one way alone
pub one_request : (asked : Asked) (one other : Readings) → AreRead asked one → AreRead asked other → one ≡ other
one_request asked one other read read' =
    ap₂ {A = Result Tree PredFault} {B = Option (Result Tree PredFault)}
    (λ on further. record { on = on; further = further })
    (one_reading limits asked.on one.on other.on read.on read'.on)
    (one_further (chain_of asked.kind) one.further other.further read.further read'.further)

-- so a plan is the one of each reading
pub plan_read : (asked : Asked) (files : List ℕ → Option (List ℕ)) (plan : Result Planned Refusal) (readings : Readings)
    → IsPlanOf asked files plan → AreRead asked readings → plan ≡ plan_of asked readings files
plan_read asked files plan readings of read =
    of.is ∙ ap (λ r. plan_of asked r files) (one_request asked of.readings readings of.read read)

-- and there is only one
pub one_plan : (asked : Asked) (files : List ℕ → Option (List ℕ)) (one other : Result Planned Refusal)
    → IsPlanOf asked files one → IsPlanOf asked files other → one ≡ other
one_plan asked files one other of of' = plan_read asked files one of'.readings of of'.read ∙ sym of'.is

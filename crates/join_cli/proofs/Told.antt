-- An outcome that tells a refusal tells that one.
use Rattle.std.proofs.Common.{◌≡◌, ◌⊎◌, ◌∙◌, inl, inr, ℕ, Option, None, Some, refl, sym, ap}
use Rattle.theta_tree.specs.declared.fault.PredFault.{PredFault}
use Rattle.join_words.specs.declared.options.WordsFault.{WordsFault}
use Rattle.join_plan.specs.declared.fault.Refusal.{Refusal}
use Rattle.join_plan.specs.declared.fault.Refusal.TheVariants as refusals
use Rattle.join_plan.specs.declared.refusal_of_fault.Which.{Which}
use Rattle.join_plan.specs.Refusals.{text_refusal}
use Rattle.join_cli.specs.declared.outcome.Outcome.{Outcome}
use Rattle.join_cli.specs.declared.outcome.Outcome.TheVariants as outcomes
use Rattle.join_cli.specs.Courses.{Course}
use Rattle.join_cli.specs.Ends.{EndsEarly, course_of}
use Rattle.join_cli.specs.Outcomes.{outcome_of}

-- the refusal that an outcome tells, if it tells one
abbrev refusal_in : Outcome → Option Refusal
refusal_in (outcomes.Done journal trail) = None
refusal_in (outcomes.DoneGroups journals trail) = None
refusal_in (outcomes.DoneChain first second trail) = None
refusal_in (outcomes.DoneRings journal ends back) = None
refusal_in (outcomes.Words fault) = None
refusal_in (outcomes.Predicate fault) = Some (refusals.Predicate fault)
refusal_in (outcomes.Then fault) = Some (refusals.Then fault)
refusal_in (outcomes.Input fault) = Some (refusals.Input fault)
refusal_in (outcomes.Limit fault) = Some (refusals.Limit fault)
refusal_in outcomes.Read = Some refusals.Read
refusal_in outcomes.Write = None
refusal_in outcomes.Memory = Some refusals.Memory

-- it is the one of which it is the outcome
told_back : (refusal : Refusal) → refusal_in (outcome_of refusal) ≡ Some refusal
told_back (refusals.Predicate fault) = refl
told_back (refusals.Then fault) = refl
told_back (refusals.Input fault) = refl
told_back (refusals.Limit fault) = refl
told_back refusals.Read = refl
told_back refusals.Memory = refl

-- so two refusals with one outcome are one
pub was : (refusal other : Refusal) → outcome_of refusal ≡ outcome_of other → refusal ≡ other
was refusal other is = cc (sym (told_back refusal) ∙ ap refusal_in is ∙ told_back other)

-- a refusal is no outcome of another kind
pub no_refusal : (refusal : Refusal) (outcome : Outcome) → refusal_in outcome ≡ None → outcome_of refusal ≡ outcome → ⊥
no_refusal refusal outcome none is = cc (sym (told_back refusal) ∙ ap refusal_in is ∙ none)

-- none of the words
pub no_words : (refusal : Refusal) (fault : WordsFault) → outcome_of refusal ≡ outcomes.Words fault → ⊥
no_words refusal fault is = no_refusal refusal (outcomes.Words fault) refl is

-- none of writing
pub no_write : (refusal : Refusal) → outcome_of refusal ≡ outcomes.Write → ⊥
no_write refusal is = no_refusal refusal outcomes.Write refl is

-- and has no course
pub no_course : (refusal : Refusal) (way : Course) → course_of (outcome_of refusal) ≡ Some way → ⊥
no_course (refusals.Predicate fault) way is = cc is
no_course (refusals.Then fault) way is = cc is
no_course (refusals.Input fault) way is = cc is
no_course (refusals.Limit fault) way is = cc is
no_course refusals.Read way is = cc is
no_course refusals.Memory way is = cc is

-- a text that is refused by its fault ends by it
pub refused_early : (which : Which) (fault : PredFault) (refusal : Refusal)
    → (refusal ≡ refusals.Memory) ⊎ (refusal ≡ text_refusal which fault) → EndsEarly which fault (outcome_of refusal)
refused_early which fault refusal (inl memory) = inl (ap outcome_of memory)
refused_early which fault refusal (inr is) = inr (ap outcome_of is)

-- what isn't asked for has no number
pub none_is_some : {make : Option ℕ} (count : ℕ) → make ≡ Some count → make ≡ None → ⊥
none_is_some count is none = cc (sym is ∙ none)

-- `step_fault` meets its contract: contradicted comes before uncaused, and where nothing contradicts, what is not marked is uncaused.
-- Assumes nothing.
use mathlib.Core.Path.{◌∙◌}
use Rattle.basics.proofs.Results.{at_place, no_place}
use Rattle.law_effects.specs.Applying.{read}
use Rattle.causal_steps.proofs.Trying.{unmarked-uncaused}
use Rattle.causal_reading.proofs.step_fault.Goals as goal

pub returns-in-Some-first_uncaused : goal.returns-in-Some-first_uncaused
returns-in-Some-first_uncaused c =
    let step = c.args.step in
    let tried = c.try_laws-tried in
    let agree = no_place tried.ensures.contradicting c.in_default.is in
    let uncaused = unmarked-uncaused step.fluents (read step.old.now) (read step.done.now) (read step.new.now) c.args.laws.now
    tried.result.marks.marked agree tried.ensures.marks in
    rw (agree, at_place (c.first_uncaused.ensures ∙ uncaused) c.in-Some-first_uncaused.is)

pub returns-in-None : goal.returns-in-None
returns-in-None c =
    let step = c.args.step in
    let tried = c.try_laws-tried in
    let agree = no_place tried.ensures.contradicting c.in_default.is in
    let uncaused = unmarked-uncaused step.fluents (read step.old.now) (read step.done.now) (read step.new.now) c.args.laws.now
    tried.result.marks.marked agree tried.ensures.marks in
    rw (agree, no_place (c.first_uncaused.ensures ∙ uncaused) c.in-None.is)

-- `answer_sets::faults::judge` meets its contract.
-- Assumes nothing.
use Rattle.basics.proofs.Results.{at_place, no_place}
use Rattle.literal_sets.specs.Marks.{marked}
use Rattle.answer_sets.proofs.Judging.{says-clash, says-broken, says-unfounded, says-passes, broken-at, not-broken}
use Rattle.answer_sets.proofs.faults.judge.Goals as goal

pub returns-in-Some : goal.returns-in-Some
returns-in-Some c = says-clash _ _ _ (at_place c.first_clash.ensures c.in-Some.is)

pub returns-in-Err : goal.returns-in-Err
returns-in-Err c =
    says-broken _ _ _ (no_place c.first_clash.ensures c.in_default.is) (marked c.marks_of-x.result) c.marks_of-x.ensures
    (broken-at c.derive.ensures.lowest_broken c.in-Err.is)

pub returns-in-Some-first_unfounded : goal.returns-in-Some-first_unfounded
returns-in-Some-first_unfounded c =
    let unbroken = not-broken c.derive.ensures.lowest_broken c.in-Ok.is in
    says-unfounded _ _ _ (no_place c.first_clash.ensures c.in_default.is) (marked c.marks_of-x.result) c.marks_of-x.ensures
    unbroken (marked c.in-Ok.least) (c.in-Ok.ensures.derived.last-round unbroken)
    (at_place c.first_unfounded.ensures c.in-Some-first_unfounded.is)

pub returns : goal.returns
returns c =
    let unbroken = not-broken c.derive.ensures.lowest_broken c.in-Ok.is in
    says-passes _ _ _ (no_place c.first_clash.ensures c.in_default.is) (marked c.marks_of-x.result) c.marks_of-x.ensures
    unbroken (marked c.in-Ok.least) (c.in-Ok.ensures.derived.last-round unbroken)
    (no_place c.first_unfounded.ensures c.in_default-first_unfounded.is)

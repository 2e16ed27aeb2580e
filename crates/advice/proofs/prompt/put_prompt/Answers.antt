use Rattle.advice.proofs.prompt.put_prompt.Goals as goal

pub returns-in-Plan : goal.returns-in-Plan
returns-in-Plan g c = rw c.in-Plan.is c.put_asking.ensures

pub returns-in-PlanWhole : goal.returns-in-PlanWhole
returns-in-PlanWhole g c = rw c.in-PlanWhole.is c.put_asking-in-PlanWhole.ensures

pub returns-in-PlanStay : goal.returns-in-PlanStay
returns-in-PlanStay g c = rw c.in-PlanStay.is c.put_asking-in-PlanStay.ensures

pub returns-in-Check : goal.returns-in-Check
returns-in-Check g c = rw c.in-Check.is c.put_asking-in-Check.ensures

pub returns-in-Replay : goal.returns-in-Replay
returns-in-Replay g c = rw c.in-Replay.is c.put_asking-in-Replay.ensures

pub returns-in-Run : goal.returns-in-Run
returns-in-Run g c = rw c.in-Run.is c.put_asking-in-Run.ensures

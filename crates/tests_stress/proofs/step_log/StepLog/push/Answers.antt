use Rattle.std.proofs.Common.{◌≡◌, List, Some, inl, inr, subst}
use Rattle.std.specs.Prelude.{slice_get}
use Rattle.tab_core.proofs.Lists.{push_split}
use Rattle.script_doc.specs.declared.step.Step.{Step}
use Rattle.step_machine.specs.Answers.{NamesCore}
use Rattle.tests_stress.proofs.step_log.StepLog.push.Goals as goal

pub invariant_of-self : goal.invariant_of-self
invariant_of-self c = λ k step course same h. elim
    (push_split c.self.inside.steps.items k c.args.step step
    (subst (λ (steps : List Step). slice_get steps k ≡ Some step) c.in_ok-push.ensures.items h)) [
      | inl old ↦ c.self.invariant k step course same old
      | inr new ↦ subst (λ (s : Step). NamesCore course s) new.1
          (c.names_below.ensures course same c.if-names_below.true)
    ]

use Rattle.std.proofs.Common.{◌≡◌, ℕ, length, Some}
use Rattle.std.specs.Prelude.{slice_get, vec_capacity}
use Rattle.table_form.specs.Running.State.{State}
use Rattle.burst_bound.specs.Answers.{IsBurstAnswer}
use Rattle.burst_bound.specs.Inside.Runs.{AreRuns}
use Rattle.burst_bound.specs.KeptRuns.{IsKeptRun}
use Rattle.burst_bound.specs.ScriptBursts.{ScriptBurst, bursts_of}
use Rattle.burst_bound.specs.declared.answer.BurstAnswer.{BurstAnswer}
use Rattle.burst_bound.proofs.ScriptBurstLemmas.{BurstsSoFar}
use Rattle.burst_bound.proofs.report.answer_all.Given as goal

-- the bursts so far have their answers
abbrev pub invariant-loop-i : goal.invariant-loop-i
invariant-loop-i l = record {
  so_far : BurstsSoFar l.events l.i (length l.answers.items);
  each : (s : State) → IsKeptRun l.fn.course l.fn.rounds l.fn.crew s
      → AreRuns l.fn.rounds s l.fn.known.runs.now.pieces.items l.fn.known.runs.now.before.items
      → (k : ℕ) (b : ScriptBurst) (a : BurstAnswer) → slice_get (bursts_of l.events) k ≡ Some b
      → slice_get l.answers.items k ≡ Some a → IsBurstAnswer l.fn.course l.fn.rounds s b.event b.vcpu b.work a;
  room : vec_capacity l.answers ≡ vec_capacity l.fn.answers;
}

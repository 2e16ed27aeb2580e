use Rattle.std.proofs.Common.{◌-◌, refl, arith}
use Rattle.edf_table.specs.Inside.Progress.{job_at}
use Rattle.edf_table.proofs.PendingJobs.{pending_done, pending_run}
use Rattle.edf_table.proofs.pending.give.Goals as goal

pub returns-then-ticks-job-clause-pending : goal.returns-then-ticks-job-clause-pending
returns-then-ticks-job-clause-pending c ps gs ns i apart i-in pending job =
    pending_done ps gs ns c.args.jobs.now c.args.count.now i c.args.ticks apart i-in pending c.requires.some
    job
    c.if-ticks-job.true

pub returns-else-ticks-job-clause-pending : goal.returns-else-ticks-job-clause-pending
returns-else-ticks-job-clause-pending c ps gs ns i apart i-in pending job =
    let last = job_at c.args.jobs.now (c.args.count.now - 1) in
    pending_run ps gs ns c.args.jobs.now c.args.count.now i c.args.ticks
    (record { key = last.key; left = last.left - c.args.ticks }) i-in pending c.requires.some job
    (omega (arith, c.if-ticks-job.false, c.requires.lacks)) refl refl

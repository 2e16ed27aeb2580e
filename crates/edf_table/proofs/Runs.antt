-- A turn of the most urgent job, and one without a job.
use Rattle.std.proofs.Common.{◌≡◌, ℕ, ◌+◌, ◌-◌, ◌/◌, ◌%◌, ◌<◌, ◌≤◌, min, List, None, Some, length, get_or, set, ap, subst, sym, ◌∙◌, arith}
use Rattle.std.proofs.Math.Nat.{div-mul-le_self}
use Rattle.std.proofs.lemmas.Nat.{div-mul-add, mod-mul-add}
use Rattle.tab_core.specs.declared.TheConstants.{MAX_VCPUS, ROUND}
use Rattle.tab_core.specs.declared.piece.Piece.{Piece}
use Rattle.table_form.specs.Planning.Jobs.{jobs_of}
use Rattle.table_form.specs.Planning.Windows.{DistinctVcpus}
use Rattle.edf_table.specs.declared.pending.Pending.{Pending}
use Rattle.edf_table.specs.Inside.Progress.{AreJobsCounted, ArePending, AreTimely, GoesTo, IsJobOf, IsUnderWay, MetBefore, due_of, job_at, urgency_key}
use Rattle.edf_table.proofs.Calm.{idle_along, idle_goes, run_along, run_goes}
use Rattle.edf_table.proofs.Kept.{all_kept_later, before_idle, before_run, lacks_all, some_piece}
use Rattle.edf_table.proofs.PendingJobs.{last_timely, none_by_key, urgent_by_key}

-- a turn without a job lasts up to the next begin
pub idles_on : (ps : List Piece) (ns : List ℕ) (jobs : List Pending) (count tick event : ℕ) → DistinctVcpus ps
    → IsUnderWay ps ns jobs count tick (tick + 1) (tick + 1) event → tick < event → event ≤ ROUND → count ≡ 0
    → IsUnderWay ps ns jobs count event event event event × GoesTo (jobs_of ps) tick event None
idles_on ps ns jobs count tick event apart here before in_round none =
    let gs = here.given in
    let unready = none_by_key ps gs ns jobs count tick event here.kept before here.pending none in
    let idle = before_idle ps ns gs tick event apart here.counted here.met in_round here.kept unready in
    let along = idle_along ps gs tick event (event - tick) idle unready (omega arith) in
    let at : tick + (event - tick) ≡ event = omega arith in (
      record {
        given = gs;
        kept = all_kept_later ps ns (length ps) (tick + 1) event event event here.kept (omega arith)
            (omega arith);
        pending = here.pending;
        timely = λ j lt. absurd (omega arith);
        counted = subst (AreJobsCounted ps gs) at along.0;
        met = subst (MetBefore (jobs_of ps)) at along.1;
      },
      idle_goes ps gs tick event idle unready,
    )

-- when the piece's job is due, by its key
due_by_key : (p : Piece) (next key : ℕ) → key ≡ urgency_key p next → key / MAX_VCPUS ≡ due_of p next
due_by_key p next key is = ap (λ n. n / MAX_VCPUS) is
    ∙ div-mul-add (due_of p next) MAX_VCPUS p.vcpu p.vcpu_small

-- of which vCPU the piece's job is, by its key
vcpu_by_key : (p : Piece) (next key : ℕ) → key ≡ urgency_key p next → key % MAX_VCPUS ≡ p.vcpu
vcpu_by_key p next key is = ap (λ n. n % MAX_VCPUS) is
    ∙ mod-mul-add (due_of p next) MAX_VCPUS p.vcpu p.vcpu_small

-- a turn of the last job lasts until it has its ticks, it is due or a window begins
pub runs_on : (ps : List Piece) (ns : List ℕ) (jobs new : List Pending) (count left tick event end ticks : ℕ)
    → DistinctVcpus ps → (here : IsUnderWay ps ns jobs count tick (tick + 1) (tick + 1) event) → tick < event
    → event ≤ ROUND → 0 < count → end ≡ min event ((job_at jobs (count - 1)).key / MAX_VCPUS)
    → ticks ≡ min (job_at jobs (count - 1)).left (end - tick)
    → ((i : ℕ) → i < length here.given → IsJobOf ps here.given ns (job_at jobs (count - 1)) i
    → ArePending ps (set here.given i (get_or here.given i 0 + ticks)) ns new left)
    → ((t : ℕ) → AreTimely jobs count t → AreTimely new left t)
    → (tick < tick + ticks)
    × IsUnderWay ps ns new left (tick + ticks) (tick + ticks) (tick + ticks) event
    × GoesTo (jobs_of ps) tick (tick + ticks) (Some ((job_at jobs (count - 1)).key % MAX_VCPUS))
runs_on ps ns jobs new count left tick event end ticks apart here before in_round some end_is ticks_is
    pending timely =
    let gs = here.given in
    let place = here.pending.each (count - 1) (omega arith) in
    let i = place.0 in
    let job = place.1 in
    let key = (job_at jobs (count - 1)).key in
    let d = some_piece ps i job.in_range in
    let urgent = urgent_by_key ps gs ns jobs count tick event i here.kept before here.pending some job in
    let due : (e : Piece) → end ≡ min event (due_of (get_or ps i e) (get_or ns i 0)) =
    λ e. end_is ∙ ap (min event) (due_by_key (get_or ps i e) (get_or ns i 0) key (job.key_is e)) in
    let run = before_run ps ns gs tick event end i d apart here.counted here.met in_round here.kept before
    urgent due in
    let within : tick + ticks ≤ end = omega (arith, run.1) in
    let lacks = lacks_all ps ns gs tick event i ticks here.kept before urgent
    (λ e. omega (arith, job.left_is e)) in
    let along = run_along ps gs tick end i ticks run.0 urgent within lacks in
    let later : tick < tick + ticks = omega (arith, run.1, job.some) in
    let in_gs : i < length gs = omega (arith, here.counted.enough, job.in_range) in (
      later,
      record {
        given = set gs i (get_or gs i 0 + ticks);
        kept = all_kept_later ps ns (length ps) (tick + 1) (tick + ticks) event event here.kept (omega arith)
            (omega arith);
        pending = pending i in_gs job;
        timely = timely (tick + ticks) (last_timely ps gs ns jobs count (tick + ticks) here.pending
            (λ s. omega (arith, div-mul-le_self key MAX_VCPUS)));
        counted = along.0;
        met = along.1;
      },
      subst (λ v. GoesTo (jobs_of ps) tick (tick + ticks) (Some v))
          (sym (vcpu_by_key (get_or ps i d) (get_or ns i 0) key (job.key_is d)))
          (run_goes ps gs tick end i ticks d run.0 urgent within lacks),
    )

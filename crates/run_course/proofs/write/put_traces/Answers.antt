use Rattle.std.proofs.Common.{◌≡◌, ◌≤◌, ◌<◌, ℕ, All, List, Some, length, sym, ap, subst, ◌∙◌, rules}
use Rattle.std.proofs.lemmas.Result.{err_from_is_err_and}
use Rattle.tab_core.specs.declared.stint.Stint.{Stint}
use Rattle.tab_io.specs.Sinks.{Writes}
use Rattle.tab_words.proofs.NumberedTextLemmas.{all_written, next_broken, next_written, none_written}
use Rattle.vcpu_names.specs.Names.{names_of}
use Rattle.table_form.specs.Running.Courses.{CourseView}
use Rattle.trace_report.specs.TraceText.{trace_text}
use Rattle.core_workers.specs.Views.{actor_of}
use Rattle.run_course.specs.Runs.{RanView, kept_in, kept_stints}
use Rattle.run_course.proofs.write.put_traces.Goals as goal

pub loop-core-init : goal.loop-core-init
loop-core-init g c = none_written _ _ (tt {0})

pub write_trace-requires-clause-used : goal.write_trace-requires-clause-used
write_trace-requires-clause-used g c =
    let ran = c.args.ran.now in
    let lt : c.loop-core.core < ran.crew.course.cores = search rules in
    let same : kept_stints ran c.loop-core.core ≡ c.stints-stints.result.now =
    ap kept_in (subst (λ (x : RanView). actor_of x.crew c.loop-core.core ≡ Some c.actor.result.now) c.ran.view_is c.actor.ensures)
    ∙ sym c.stints-stints.ensures in
    subst (λ (k : CourseView). All (λ (s : Stint). s.used ≤ length k.ticks) c.stints-stints.result.now)
    (sym (c.course-course.ensures ∙ ap (λ (x : RanView). x.crew.course) c.ran.view_is))
    (subst (All (λ (s : Stint). s.used ≤ length ran.crew.course.ticks)) same (c.requires c.loop-core.core lt))

pub returns-in_err-write_trace : goal.returns-in_err-write_trace
returns-in_err-write_trace g c =
    let p = err_from_is_err_and c.from_residual.result c.from_residual.ensures.1 in
    let ran = c.args.ran.now in
    let names = names_of c.args.host.now.vcpus in
    let same : c.stints-stints.result.now ≡ kept_stints ran c.loop-core.core =
    c.stints-stints.ensures ∙ sym (ap kept_in (subst (λ (x : RanView). actor_of x.crew c.loop-core.core ≡ Some c.actor.result.now) c.ran.view_is c.actor.ensures)) in
    let lt : c.loop-core.core < ran.crew.course.cores = search rules in
    rw p.1 (next_broken _ _ _ (λ (k : ℕ). trace_text names ran.crew.course k (kept_stints ran k)) c.loop-core.core _
    (tt {0}) _ c.in_err-write_trace.field-0.0 lt c.loop-core.invariant
    (subst (λ (text : List ℕ). Writes {U = Unit {0}} (g.K.Sink.state c.loop-core.sink) (g.K.Sink.state c.write_trace.new.sink) text c.write_trace.result)
    (ap (λ (k : CourseView). trace_text names k c.loop-core.core c.stints-stints.result.now) (c.course-course.ensures ∙ ap (λ (x : RanView). x.crew.course) c.ran.view_is)
    ∙ ap (trace_text names ran.crew.course c.loop-core.core) same) c.write_trace.ensures)
    c.in_err-write_trace.was)

pub loop-core-preserved : goal.loop-core-preserved
loop-core-preserved g c =
    let ran = c.args.ran.now in
    let names = names_of c.args.host.now.vcpus in
    let same : c.stints-stints.result.now ≡ kept_stints ran c.loop-core.core =
    c.stints-stints.ensures ∙ sym (ap kept_in (subst (λ (x : RanView). actor_of x.crew c.loop-core.core ≡ Some c.actor.result.now) c.ran.view_is c.actor.ensures)) in
    next_written _ _ _ (λ (k : ℕ). trace_text names ran.crew.course k (kept_stints ran k)) c.loop-core.core
    (tt {0}) c.in_ok-write_trace.field-0 _ c.loop-core.invariant
    (subst (λ (text : List ℕ). Writes {U = Unit {0}} (g.K.Sink.state c.loop-core.sink) (g.K.Sink.state c.write_trace.new.sink) text c.write_trace.result)
    (ap (λ (k : CourseView). trace_text names k c.loop-core.core c.stints-stints.result.now) (c.course-course.ensures ∙ ap (λ (x : RanView). x.crew.course) c.ran.view_is)
    ∙ ap (trace_text names ran.crew.course c.loop-core.core) same) c.write_trace.ensures)
    c.in_ok-write_trace.was

pub returns : goal.returns
returns g c =
    let ran = c.args.ran.now in
    let names = names_of c.args.host.now.vcpus in
    let most : c.loop-core.core ≤ ran.crew.course.cores = search rules in
    let least : ran.crew.course.cores ≤ c.loop-core.core = search rules in
    all_written _ _ (λ (k : ℕ). trace_text names ran.crew.course k (kept_stints ran k)) c.loop-core.core _
    (tt {0}) most least c.loop-core.invariant

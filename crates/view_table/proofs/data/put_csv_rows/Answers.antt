use Rattle.std.proofs.lemmas.Result.{err_from_is_err_and}
use Rattle.tab_words.proofs.NumberedTextLemmas.{all_written, next_broken, next_written, none_written}
use Rattle.std.proofs.Common.{◌≡◌, length, option_copied, rules}
use Rattle.view_table.specs.Given.{is_refused}
use Rattle.view_table.specs.Data.{csv_row}
use Rattle.view_table.proofs.data.put_csv_rows.Goals as goal

pub loop-vcpu-init : goal.loop-vcpu-init
loop-vcpu-init g c = none_written _ _ (tt {0})

pub returns-in_err-put_csv_row : goal.returns-in_err-put_csv_row
returns-in_err-put_csv_row g c =
    let p = err_from_is_err_and c.from_residual.result c.from_residual.ensures.1 in
    let count : c.len-vcpu-end.result ≡ length c.args.view.now.tasks.items = search rules in
    rw (p.1, ← count) (next_broken _ _ _ (csv_row (option_copied c.args.host) (is_refused c.args.figures.now.refusal.items) c.args.tick_ns c.args.view.now) c.loop-vcpu.vcpu _ (tt {0}) _ c.in_err-put_csv_row.field-0.0
    c.loop-vcpu-test.true c.loop-vcpu.invariant c.put_csv_row.ensures c.in_err-put_csv_row.was)

pub loop-vcpu-preserved : goal.loop-vcpu-preserved
loop-vcpu-preserved g c =
    next_written _ _ _ (csv_row (option_copied c.args.host) (is_refused c.args.figures.now.refusal.items) c.args.tick_ns c.args.view.now) c.loop-vcpu.vcpu (tt {0}) c.in_ok-put_csv_row.field-0 _
    c.loop-vcpu.invariant c.put_csv_row.ensures c.in_ok-put_csv_row.was

pub returns : goal.returns
returns g c =
    let count : c.len-vcpu-end.result ≡ length c.args.view.now.tasks.items = search rules in
    rw (← count) (all_written _ _ (csv_row (option_copied c.args.host) (is_refused c.args.figures.now.refusal.items) c.args.tick_ns c.args.view.now) c.loop-vcpu.vcpu _ (tt {0}) c.loop-vcpu.auto.vcpu-end
    c.loop-vcpu-test.false c.loop-vcpu.invariant)

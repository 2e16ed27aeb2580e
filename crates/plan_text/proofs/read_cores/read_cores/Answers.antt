use Rattle.std.proofs.Common.{◌≡◌, [], ◌∷◌, ◌++◌, Err, ap, refl, arith}
use Rattle.std.proofs.lemmas.Grind.{common_steps}
use Rattle.std.specs.List.{All}
use Rattle.std.proofs.lemmas.Result.{err_from_is_err_and}
use Rattle.plan_text.specs.Meaning.{IsFineSegment}
use Rattle.plan_text.specs.declared.read_fault.ReadPlan.TheVariants.{BadLine}
use Rattle.plan_text.proofs.ReadingLemmas.{all_snoc, core_lines_more}
use Rattle.plan_text.proofs.read_cores.read_cores.Goals as goal

pub returns-in_err-row-clause-bad_line : goal.returns-in_err-row-clause-bad_line
returns-in_err-row-clause-bad_line c = λ bad is.
    let p = err_from_is_err_and c.from_residual.result c.from_residual.ensures.1 in
    let same : c.in_err-row.field-0.0 ≡ BadLine bad = cc in
    c.loop-core.invariant.behind bad
    (c.in_err-row.ensures.bad_line bad (ap Err same) c.args.cores c.loop-core-test.true)

pub loop-core-preserved : goal.loop-core-preserved
loop-core-preserved c =
    let row = c.in_ok-row.row.items in
    let pushed : c.push.new.self.items ≡ c.loop-core.rows.items ++ row ∷ [] =
    grind (arith, common_steps) in
    rw pushed (record {
      many = grind (arith, common_steps);
      lines = core_lines_more _ c.loop-core.core c.loop-core.rows.items row _ _ _ _
          c.loop-core.invariant.many c.loop-core.invariant.lines c.in_ok-row.ensures.lines refl;
      fine = all_snoc (λ row. All (IsFineSegment c.args.tasks.now) row) c.loop-core.rows.items row
          c.loop-core.invariant.fine c.in_ok-row.ensures.fine;
      behind = λ bad is. c.loop-core.invariant.behind bad
          (c.in_ok-row.ensures.behind c.args.cores bad c.loop-core-test.true is);
    })

pub returns-in_err-read_end-clause-bad_line : goal.returns-in_err-read_end-clause-bad_line
returns-in_err-read_end-clause-bad_line c = λ bad is.
    let p = err_from_is_err_and c.from_residual-in_err-read_end.result
    c.from_residual-in_err-read_end.ensures.1 in
    let same : c.in_err-read_end.field-0.0 ≡ BadLine bad = cc in
    c.loop-core.invariant.behind bad
    (c.in_err-read_end.ensures.bad_line bad (ap Err same) c.args.names.now c.args.tasks.now c.loop-core.core
    c.args.cores c.loop-core-test.false)

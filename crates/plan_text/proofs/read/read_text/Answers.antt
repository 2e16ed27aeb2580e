use Rattle.std.proofs.Common.{◌≡◌, [], Err, ap, arith}
use Rattle.std.proofs.lemmas.Result.{err_from_is_err_and}
use Rattle.plan_text.specs.FirstBad.{IsFirstBadFor}
use Rattle.plan_text.specs.Inside.Reading.{AreFromCore, IsReadTo}
use Rattle.plan_text.specs.declared.read_fault.ReadPlan.TheVariants.{BadLine}
use Rattle.plan_text.proofs.HomeLemmas.{same_count}
use Rattle.plan_text.proofs.RowReaderLemmas.{bad_behind_front, text_behind_front}
use Rattle.plan_text.proofs.read.read_text.Goals as goal

pub returns-in_err-front-clause-bad_line : goal.returns-in_err-front-clause-bad_line
returns-in_err-front-clause-bad_line c = λ bad is.
    let p = err_from_is_err_and c.from_residual.result c.from_residual.ensures.1 in
    let same : c.in_err-front.field-0.0 ≡ BadLine bad = cc in
    rw c.requires.own (c.in_err-front.ensures.bad_line bad (ap Err same))

pub of-requires : goal.of-requires
of-requires c =
    omega (
      arith,
      same_count c.args.host.now.cores c.args.tasks.now c.in_ok-front.front.homes.items
          c.in_ok-front.ensures.ok.housed,
      c.items.ensures.few,
    )

pub returns-in_err-rows-clause-bad_line : goal.returns-in_err-rows-clause-bad_line
returns-in_err-rows-clause-bad_line c = λ bad is.
    let p = err_from_is_err_and c.from_residual-in_err-rows.result c.from_residual-in_err-rows.ensures.1 in
    let same : c.in_err-rows.field-0.0 ≡ BadLine bad = cc in
    let left = c.in_ok-front.front.left in
    let read : IsReadTo c.args.names.now c.args.host.now.cores c.args.tasks.now c.args.bytes.now
    c.in_ok-front.front.homes.items [] left = rw c.requires.own c.in_ok-front.ensures.ok in
    let here : IsFirstBadFor (AreFromCore c.args.names.now c.args.tasks.now 0 c.args.host.now.cores) left.number
    left.lines bad = rw (← c.items.ensures.same) (c.in_err-rows.ensures.bad_line bad (ap Err same)) in
    bad_behind_front _ _ _ _ _ left bad read here

pub returns-clause-ok : goal.returns-clause-ok
returns-clause-ok c =
    let read : IsReadTo c.args.names.now c.args.host.now.cores c.args.tasks.now c.args.bytes.now
    c.in_ok-front.front.homes.items [] c.in_ok-front.front.left = rw c.requires.own c.in_ok-front.ensures.ok in
    rw (c.of.ensures, c.of-2.ensures)
    (text_behind_front _ _ _ _ _ _ _ read c.in_ok-rows.ensures.lines c.in_ok-rows.ensures.rows
    (rw (← c.items.ensures.same) c.in_ok-rows.ensures.fine))

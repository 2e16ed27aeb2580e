use Rattle.std.proofs.Common.{sym, subst, arith}
use Rattle.std.proofs.lemmas.Result.{on_ok_weaker}
use Rattle.plan_text.specs.RowReading.{HasRead}
use Rattle.plan_text.proofs.RowReaderLemmas.{bad_in_rows, rows_are_whole}
use Rattle.plan_text.proofs.row_reader.RowReader.read_end.Goals as goal

pub returns-clause-ok : goal.returns-clause-ok
returns-clause-ok c =
    on_ok_weaker c.read_end.result
    (λ end names cores tasks bytes rows many has.
    rows_are_whole names cores tasks bytes rows _ many
    (subst (HasRead names cores tasks bytes rows) (sym c.self.view_is) has) end)
    c.read_end.ensures.ok

pub returns-clause-bad_line : goal.returns-clause-bad_line
returns-clause-bad_line c = λ bad is names cores tasks bytes rows many has.
    bad_in_rows names cores tasks bytes rows cores _ bad many
    (subst (HasRead names cores tasks bytes rows) (sym c.self.view_is) has)
    (c.read_end.ensures.bad_line bad is _ _ cores cores (omega arith))

use Rattle.std.proofs.Common.{sym, arith, ap}
use Rattle.edf_table.specs.Inside.Progress.{demand_from}
use Rattle.edf_table.proofs.Starts.{demand_from_nothing, demand_from_more}
use Rattle.tab_core.specs.declared.piece.Piece.{Piece}
use Rattle.tab_core.specs.declared.TheConstants.{ROUND}
use Rattle.table_form.specs.Planning.Jobs.{first_jobs, subtask_of}
use Rattle.std.proofs.Common.{◌/◌, ℕ}
use Rattle.edf_table.proofs.overload.demand_of_starts.Goals as goal

pub loop-piece-init : goal.loop-piece-init
loop-piece-init c = record { value = sym (demand_from_nothing c.args.start c.args.end); small = omega arith }

pub loop-piece-preserved : goal.loop-piece-preserved
loop-piece-preserved c =
    let more = demand_from_more c.args.pieces.now c.loop-piece.piece-index c.piece-item.result
    c.args.start c.args.end c.loop-piece-test.true in
    let P : Piece → ℕ = λ p. demand_from (first_jobs (subtask_of p) (ROUND / p.period)) c.args.start
    c.args.end in
    let here = ap P c.piece-item.is in
    record { value = omega (arith, more, here, c.cost_from.ensures); small = omega arith }

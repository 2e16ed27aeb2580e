use Rattle.std.proofs.Common.{◌++◌, ap, sym, take, ◌∙◌, arith}
use Rattle.plan_make.specs.Planned.{all_pieces}
use Rattle.plan_make.proofs.AllPieces.{all_pieces_more}
use Rattle.plan_make.proofs.draft.pieces_of.Goals as goal

pub loop-core-preserved : goal.loop-core-preserved
loop-core-preserved c =
    let cores = c.args.cores.now in
    let core = c.loop-core.core in
    c.in_ok-extend_from_slice.ensures.items
    ∙ ap (λ ps. ps ++ c.of_core.result.now) c.loop-core.invariant
    ∙ ap (λ ps. all_pieces (take core cores) ++ ps) c.of_core.ensures.same
    ∙ sym (all_pieces_more cores core (omega (arith, c.loop-core-test.true, c.cores-core-end.ensures.count)))

use Rattle.std.proofs.Common.{List, subst}
use Rattle.slice_table.specs.declared.full_span.FullSpan.{FullSpan}
use Rattle.slice_table.specs.Inside.Spans.{IsSliced}
use Rattle.slice_table.specs.Slices.{ends_of}
use Rattle.slice_table.proofs.EndsLemmas.{meets_two, sliced_by}
use Rattle.slice_table.proofs.slice_table.SliceTable.slices.Goals as goal

pub returns-clause-two : goal.returns-clause-two
returns-clause-two c = λ ticks tick shortest in_round.
    let table = c.self.inside in
    let ends = ends_of c.args.self.now in
    let kept : IsSliced table.size table.slices ends =
    subst (λ (spans : List FullSpan). IsSliced table.size table.slices (ends_of spans)) c.self.view_is c.self.invariant in
    meets_two ticks table.slices ends tick (sliced_by table.size ticks table.slices ends kept shortest) in_round

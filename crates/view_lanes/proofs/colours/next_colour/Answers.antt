use Rattle.std.proofs.Common.{arith, ◌+◌, ◌%◌}
use Rattle.view_lanes.proofs.ColourLemmas.{free_more}
use Rattle.view_lanes.specs.Colours.{is_colour_taken}
use Rattle.view_lanes.proofs.colours.next_colour.Goals as goal

pub returns-then-not-is_taken : goal.returns-then-not-is_taken
returns-then-not-is_taken c on are =
    let so_far = c.loop-k.invariant on are in
    let more = free_more (is_colour_taken on c.args.colours.now c.args.v) (24 + c.args.v % 24) c.loop-k.k (omega arith) in
    let answer = c.is_taken.ensures on (c.met_by-met.ensures on are) in
    grind (arith, so_far, more, answer)

pub loop-k-preserved : goal.loop-k-preserved
loop-k-preserved c on are =
    let so_far = c.loop-k.invariant on are in
    let more = free_more (is_colour_taken on c.args.colours.now c.args.v) (24 + c.args.v % 24) c.loop-k.k (omega arith) in
    let answer = c.is_taken.ensures on (c.met_by-met.ensures on are) in
    grind (arith, so_far, more, answer)

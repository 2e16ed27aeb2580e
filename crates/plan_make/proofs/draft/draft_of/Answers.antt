use Rattle.std.proofs.Common.{◌∙◌}
use Rattle.plan_make.proofs.DraftOfLayout.{made_draft}
use Rattle.plan_make.proofs.draft.draft_of.Goals as goal

pub invariant_of-result : goal.invariant_of-result
invariant_of-result c =
    let draft = made_draft c.args.tasks c.args.layout.cores c.args.layout.homes.items
    c.of-homes.result c.of-pieces.result c.in_ok-rows.rows
    c.requires c.in_ok-rows.ensures.of (c.of-pieces.ensures ∙ c.in_ok-pieces_of.ensures) c.of-homes.ensures in
    record {
      serves = draft.serves;
      inside = draft.inside;
      periods = draft.periods;
      costs = draft.costs;
      own_cores = draft.own_cores;
      own_windows = draft.own_windows;
      on_rows = draft.on_rows;
      housed = draft.housed;
      at_home = draft.at_home;
    }

use Rattle.std.proofs.Common.{◌≡◌, length, rules}
use Rattle.view_table.proofs.totals.put_total.Goals as goal

pub returns-in-None : goal.returns-in-None
returns-in-None g c =
    let count : c.len.result ≡ length c.args.view.now.tasks.items = search rules in
    rw (
      c.in-None.is,
      ← c.given_below-given.ensures,
      ← c.busy_below.ensures.value,
      ← c.full_of-full.ensures,
      ← c.split_below-split.ensures,
      ← count,
    )
    c.put_plain_total.ensures

pub returns-in-Some : goal.returns-in-Some
returns-in-Some g c = rw (c.in-Some.is, ← c.given_below-given.ensures, ← c.busy_below.ensures.value, ← c.full_of-full.ensures) c.put_asked_total.ensures

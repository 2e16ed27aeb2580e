use Rattle.std.proofs.Common.{◌≡◌, arith, min, rules}
use Rattle.kernel_tables.proofs.StretchLemmas.{none_more}
use Rattle.kernel_tables.proofs.stretch.look.Goals as goal

pub loop-number-preserved : goal.loop-number-preserved
loop-number-preserved c =
    let was = c.loop-number.invariant in
    let least : c.min-end.result ≡ min c.loop-number.end c.part_in-part.result.end = search rules in
    record {
      after = omega (arith, was.after, c.part_in-part.ensures.after, least);
      within = omega (arith, was.within, least);
      none = λ d x low le less. none_more c.items-rows.result.now c.loop-number.number c.args.vcpu c.args.place
          c.loop-number.end c.part_in-part.result.end c.index-rows-number.result c.loop-number-test.true (search rules)
          was.none (c.part_in-part.ensures.other (search rules)) d x low le (omega (arith, less, least));
    }

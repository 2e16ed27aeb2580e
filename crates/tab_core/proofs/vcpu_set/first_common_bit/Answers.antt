use Rattle.std.proofs.Common.{◌+◌, ◌<◌, w64, arith, rules}
use Rattle.std.specs.Int.{trailing_zeros}
use Rattle.tab_core.proofs.Bits.{lowest_common, member_low, none_common}
use Rattle.tab_core.proofs.vcpu_set.first_common_bit.Goals as goal

pub invariant_of-result : goal.invariant_of-result
invariant_of-result c =
    let least = lowest_common c.args.a.now c.args.b.now c.args.from c.words.at c.common_from-both.result
    c.words.invariant.high (omega arith) (search rules) c.common_from-both.ensures
    c.words.invariant.none in
    member_low c.args.a.now (c.words.at + trailing_zeros w64 c.common_from-both.result) least.holds.one

pub returns-then-both-ne0-clause-some : goal.returns-then-both-ne0-clause-some
returns-then-both-ne0-clause-some c =
    lowest_common c.args.a.now c.args.b.now c.args.from c.words.at c.common_from-both.result
    c.words.invariant.high (omega arith) (search rules) c.common_from-both.ensures
    c.words.invariant.none

pub words-preserved : goal.words-preserved
words-preserved c = record {
  high = omega (arith, c.words.invariant.high);
  within = omega arith;
  none = λ v q low lt. none_common c.args.a.now c.args.b.now c.args.from c.words.at
      c.common_from-both.result v (omega arith) c.common_from-both.ensures c.words.invariant.none q low lt;
}

pub returns-clause-none : goal.returns-clause-none
returns-clause-none c = λ v q low.
    (let lt : v < 256 = member_low c.args.a.now v q.one in
    c.words.invariant.none v q low (omega (arith, lt)))

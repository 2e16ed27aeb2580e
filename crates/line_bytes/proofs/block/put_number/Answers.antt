use Rattle.std.proofs.Common.{◌/◌, ◌%◌, ◌++◌, decimal, take, ap, ◌∙◌, arith}
use Rattle.itoa.proofs.Decimal.{pair}
use Rattle.line_bytes.proofs.BlockLemmas.{both_behind, last_six}
use Rattle.line_bytes.proofs.block.put_number.Goals as goal

pub returns-clause-bytes : goal.returns-clause-bytes
returns-clause-bytes c =
    let n = c.args.n in
    let before = take c.args.at c.args.block.now in
    let high = decimal (n / 1000000) in
    let first = pair (n % 1000000 / 10000) in
    let middle = pair (n % 1000000 % 10000 / 100) in
    let last = pair (n % 1000000 % 10000 % 100) in
    both_behind before _ _ ((high ++ first) ++ middle) last
    (both_behind before _ _ (high ++ first) middle
    (both_behind before _ _ high first c.put_six-high.ensures.bytes c.put_pair-first.ensures.bytes)
    c.put_pair-middle.ensures.bytes)
    c.put_pair.ensures.bytes
    ∙ ap (λ ds. before ++ ds) (last_six n (omega (arith, c.if-n-lt1000000.false)) (omega arith))

use Rattle.std.proofs.Common.{◌/◌, ◌%◌, ◌++◌, decimal, take, ap, sym, ◌∙◌, arith, append_assoc}
use Rattle.itoa.proofs.Decimal.{decimal_four, decimal_pair, pair}
use Rattle.line_bytes.proofs.BlockLemmas.{both_behind}
use Rattle.line_bytes.proofs.block.put_six.Goals as goal

pub returns-then-n-lt10000-clause-bytes : goal.returns-then-n-lt10000-clause-bytes
returns-then-n-lt10000-clause-bytes c =
    let n = c.args.n in
    both_behind (take c.args.at c.args.block.now) _ _ (decimal (n / 100)) (pair (n % 100))
    c.put_first-high.ensures.bytes c.put_pair.ensures.bytes
    ∙ ap (λ ds. take c.args.at c.args.block.now ++ ds)
    (sym (decimal_pair n (omega (arith, c.if-n-lt100.false)) (omega arith)))

pub returns-clause-bytes : goal.returns-clause-bytes
returns-clause-bytes c =
    let n = c.args.n in
    let before = take c.args.at c.args.block.now in
    let first = decimal (n / 10000) in
    let middle = pair (n % 10000 / 100) in
    let last = pair (n % 10000 % 100) in
    both_behind before _ _ (first ++ middle) last
    (both_behind before _ _ first middle c.put_first-top.ensures.bytes c.put_pair-middle.ensures.bytes)
    c.put_pair-2.ensures.bytes
    ∙ ap (λ ds. before ++ ds)
    (append_assoc first middle last ∙ sym (decimal_four n (omega (arith, c.if-n-lt10000.false)) (omega arith)))

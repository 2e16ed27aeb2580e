use Rattle.std.proofs.Common.{◌++◌, take, ap, sym, ◌∙◌}
use Rattle.std.proofs.lemmas.Fmt.{decimal_digit}
use Rattle.itoa.proofs.Decimal.{decimal_two}
use Rattle.line_bytes.proofs.block.put_first.Goals as goal

pub returns-then-n-lt10-clause-bytes : goal.returns-then-n-lt10-clause-bytes
returns-then-n-lt10-clause-bytes c =
    c.put_byte.ensures.bytes ∙ ap (λ ds. take c.args.at c.args.block.now ++ ds)
    (sym (decimal_digit c.args.n c.if-n-lt10.true))

pub returns-clause-bytes : goal.returns-clause-bytes
returns-clause-bytes c =
    c.put_pair.ensures.bytes ∙ ap (λ ds. take c.args.at c.args.block.now ++ ds)
    (sym (decimal_two c.args.n c.if-n-lt10.false c.requires.small))

use Rattle.std.proofs.Common.{◌+◌, ◌-◌, ap, ◌∙◌}
use Rattle.std.specs.Prelude.{bit_and, count_ones}
use Rattle.std.proofs.lemmas.Nat.{and_mask, one_shl}
use Rattle.slice_table.proofs.slice_list.Block.number.Goals as goal

pub returns : goal.returns
returns c =
    let block = c.args.self.now in
    ap (λ n. block.first + count_ones (bit_and block.rises (n - 1))) (one_shl c.args.place 32 c.requires.place)
    ∙ ap (λ n. block.first + count_ones n) (and_mask block.rises c.args.place)

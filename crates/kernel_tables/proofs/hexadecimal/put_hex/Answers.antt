use Rattle.std.proofs.Common.{ℕ, [], ◌∷◌, ◌++◌, ap, ◌∙◌}
use Rattle.kernel_tables.specs.Lines.{hex_at}
use Rattle.kernel_tables.proofs.TextLemmas.{none_yet, one_more}
use Rattle.kernel_tables.proofs.hexadecimal.put_hex.Goals as goal

pub loop-i-init : goal.loop-i-init
loop-i-init c = none_yet c.args.text.now.items (hex_at c.args.n)

pub loop-i-preserved : goal.loop-i-preserved
loop-i-preserved c = one_more c.args.text.now.items _ _ (hex_at c.args.n) c.loop-i.i c.loop-i.invariant
    (c.in_ok-push.ensures.items ∙ ap (λ (d : ℕ). c.loop-i.text.items ++ d ∷ []) c.hex_digit.ensures)

use Rattle.std.proofs.Common.{ℕ, [], ◌∷◌, ◌++◌, ap, ◌∙◌}
use Rattle.kernel_tables.specs.Lines.{set_at}
use Rattle.kernel_tables.proofs.TextLemmas.{none_yet, one_more}
use Rattle.kernel_tables.proofs.hexadecimal.put_digits.Goals as goal

pub loop-i-init : goal.loop-i-init
loop-i-init c = none_yet c.args.text.now.items (set_at c.args.set.now c.args.word)

pub loop-i-preserved : goal.loop-i-preserved
loop-i-preserved c = one_more c.args.text.now.items _ _ (set_at c.args.set.now c.args.word) c.loop-i.i c.loop-i.invariant
    (c.in_ok-push.ensures.items ∙ ap (λ (d : ℕ). c.loop-i.text.items ++ d ∷ []) c.set_digit.ensures)

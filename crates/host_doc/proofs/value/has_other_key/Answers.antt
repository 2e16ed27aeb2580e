use Rattle.std.proofs.Common.{List, String, Global, ap, ◌∙◌}
use Rattle.std.specs.List.{list_any}
use Rattle.host_doc.proofs.OtherKeysLemmas.{is_other, any-is_other}
use Rattle.host_doc.proofs.value.has_other_key.Goals as goal

pub loop-word-init : goal.loop-word-init
loop-word-init c =
    ap (λ (words : List (String Global)). list_any (is_other c.args.keys.now) words)
    (c.into_iter-word-iterator.ensures.into_iter_gives ∙ c.keys-word-items.ensures.rest)
    ∙ any-is_other c.args.keys.now c.args.table.now.entries

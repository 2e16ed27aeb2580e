use Rattle.std.proofs.Common.{List, String, Global, ap, ◌∙◌}
use Rattle.advice.proofs.KeysLemmas.{first_word, first_word-keys}
use Rattle.advice.proofs.host_keys.first_other.Goals as goal

pub loop-word-init : goal.loop-word-init
loop-word-init c =
    ap (λ (words : List (String Global)). first_word c.args.keys.now words)
    (c.into_iter-word-iterator.ensures.into_iter_gives ∙ c.keys-word-items.ensures.rest)
    ∙ first_word-keys c.args.keys.now c.args.table.now.entries

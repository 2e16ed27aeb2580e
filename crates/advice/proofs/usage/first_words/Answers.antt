use Rattle.std.proofs.Common.{ap, map, sym, ◌∙◌, string_bytes}
use Rattle.std.proofs.lemmas.List.{take-map}
use Rattle.advice.proofs.usage.first_words.Goals as goal

pub returns : goal.returns
returns c = ap (map string_bytes) c.split_at.ensures.front ∙ sym (take-map string_bytes c.args.place c.args.words.now)

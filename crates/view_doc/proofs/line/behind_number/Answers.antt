use Rattle.std.proofs.Common.{◌≡◌, ◌∷◌, codes, decimal, arith, rules}
use Rattle.std.proofs.lemmas.Grind.{common_steps}
use Rattle.view_doc.proofs.LineLemmas.{NoEntry, NoStint, no_entry, no_stint, nothing_said}
use Rattle.view_doc.proofs.line.behind_number.Goals as goal

pub returns-then-eq : goal.returns-then-eq
returns-then-eq c =
    let word : c.in-Some.word.now ≡ codes "round" = search rules in
    let is : c.args.words.now ≡ c.in-Some.word.now ∷ c.next.new.self = grind (arith, common_steps) in
    rw (is, word)
    (nothing_said (NoEntry c.next.new.self)
    (codes "core" ∷ decimal c.args.core ∷ codes "round" ∷ c.next.new.self) c.entry_of.result
    (no_entry c.args.core c.next.new.self) c.entry_of.ensures)

pub returns-in_ok-from : goal.returns-in_ok-from
returns-in_ok-from c =
    let is : c.args.words.now ≡ c.in-Some.word.now ∷ c.next.new.self = grind (arith, common_steps) in
    rw (is, c.in_ok-from.ensures.1)
    (nothing_said (NoStint c.next.new.self)
    (codes "core" ∷ decimal c.args.core ∷ decimal c.in_ok-from.from ∷ c.next.new.self) c.stint_of.result
    (no_stint c.args.core c.in_ok-from.from c.next.new.self c.in_ok-from.ensures.0) c.stint_of.ensures)

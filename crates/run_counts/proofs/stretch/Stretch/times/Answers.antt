use Rattle.std.proofs.Common.{◌≡◌, ◌+◌, max, rules, ap, sym, ◌∙◌, arith}
use Rattle.run_counts.specs.declared.stretch.Stretch.{Stretch}
use Rattle.run_counts.specs.Inside.Repeats.{repeated}
use Rattle.run_counts.proofs.RepeatLemmas.{repeated_once, repeated_part, repeated_whole}
use Rattle.run_counts.proofs.stretch.Stretch.times.Goals as goal

pub returns-then-self : goal.returns-then-self
returns-then-self c = repeated_whole c.args.self c.args.rounds c.requires.sound c.if-self.true

pub returns-then-rounds-eq1 : goal.returns-then-rounds-eq1
returns-then-rounds-eq1 c = repeated_once c.args.self c.requires.sound c.if-self.false
    ∙ ap (repeated c.args.self) (sym c.if-rounds-eq1.true)

pub returns-else-rounds-eq1 : goal.returns-else-rounds-eq1
returns-else-rounds-eq1 c =
    let s : Stretch = c.args.self in
    let most : c.max.result ≡ max s.most (s.tail + s.lead) = search rules in
    rw most (repeated_part s c.args.rounds c.requires.sound c.if-self.false
    (omega (arith, c.requires.some, c.if-rounds-eq1.false)))

-- the rest has the sections from this one on
use Rattle.std.proofs.Common.{◌≡◌, drop}
use Rattle.tab_words.specs.Sections.{sections_of}
use Rattle.tab_words.proofs.section.Sections.part.Given as goal

abbrev pub invariant-loop : goal.invariant-loop
invariant-loop l = sections_of l.rest ≡ drop l.counter l.self

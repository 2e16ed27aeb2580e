use Rattle.std.proofs.Common.{◌≡◌, map}
use Rattle.host_judge.specs.Inside.Judged.{terms_of}
use Rattle.host_judge.proofs.ReadingLemmas.{GoesOn}
use Rattle.host_judge.proofs.reading.Reading.take_lines.Given as goal

abbrev pub invariant-loop-line : goal.invariant-loop-line
invariant-loop-line l = record {
  names : l.self.names ≡ l.fn.self.names;
  terms : map terms_of l.self.judge.trackers.items ≡ map terms_of l.fn.self.judge.trackers.items;
  on : GoesOn l.text l.fn.self l.self l.line-iterator;
}

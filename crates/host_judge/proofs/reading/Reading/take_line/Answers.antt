use Rattle.std.proofs.Common.{refl, rules}
use Rattle.host_judge.proofs.ReadingLemmas.{bad_line, bad_told, read_kept, read_passed}
use Rattle.host_judge.proofs.reading.Reading.take_line.Goals as goal

pub returns-then-is_passed_over-clause-read : goal.returns-then-is_passed_over-clause-read
returns-then-is_passed_over-clause-read c = λ lines read.
    read_passed lines c.args.line.now c.args.self.now _ read (search rules) refl refl c.in-Some.ensures.1

pub returns-in_default-mark_of-clause-fault : goal.returns-in_default-mark_of-clause-fault
returns-in_default-mark_of-clause-fault c = λ lines read.
    bad_told c.args.self.now.names _ c.args.line.now c.in-Some.number c.bad_line.result c.bad_line.ensures
    (bad_line lines c.args.line.now c.in-Some.number c.args.self.now read (search rules) c.in-Some.ensures.1
    c.in_default-mark_of.ensures)

pub returns-clause-read : goal.returns-clause-read
returns-clause-read c = λ lines read.
    read_kept lines c.args.line.now c.in-Some.number c.in-Some-mark_of.mark c.args.self.now _ read (search rules)
    c.in-Some.ensures.1 c.in-Some-mark_of.ensures.0 c.in-Some-mark_of.ensures.1 refl refl
    (λ marks has. c.in_ok-take.ensures.judged marks has)

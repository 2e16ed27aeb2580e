use Rattle.std.proofs.Common.{◌≡◌, ◌<◌, ◌==◌, Some, ap, arith, get_or, inl, inr, length, length-take-le, refl, sym, take, ◌∙◌}
use Rattle.std.specs.Prelude.{slice_get}
use Rattle.std.proofs.lemmas.Option.{slice_get_within}
use Rattle.view_schedulers.proofs.CpuListLemmas.{distinct_more, twice_there}
use Rattle.view_schedulers.proofs.cpu_list.first_twice.Goals as goal

pub returns-then-contains-clause-some : goal.returns-then-contains-clause-some
returns-then-contains-clause-some c = λ distinct.
    let found = c.if-contains.ensures.cases in
    twice_there c.args.cpus.now c.loop-at.at found.0 _ c.loop-at-test.true refl found.1 (found.2 0) distinct

pub loop-at-preserved : goal.loop-at-preserved
loop-at-preserved c = distinct_more c.args.cpus.now c.loop-at.at _ c.loop-at-test.true refl c.if-contains.ensures.cases
    c.loop-at.invariant

pub returns-clause-none : goal.returns-clause-none
returns-clause-none c = λ j k cpu here there.
    let test = c.loop-at-test.false in
    let one = slice_get_within c.args.cpus.now j cpu here in
    let two = slice_get_within c.args.cpus.now k cpu there in
    c.loop-at.invariant j k cpu (omega (arith, test, one)) (omega (arith, test, two)) here there

use Rattle.std.proofs.Common.{◌≡◌, ◌+◌, ◌*◌, ◌/◌, ◌<◌, get_or, length, bit_and, arith}
use Rattle.std.proofs.lemmas.List.{get_or_read}
use Rattle.std.proofs.lemmas.Bool.Decides.{nat_tests}
use Rattle.table_check.proofs.MarkedWords.{no_run, run_more}
use Rattle.table_check.proofs.marks.mark_run.Goals as goal

pub words-init : goal.words-init
words-init c = no_run c.args.marks.now.items c.args.vcpu c.args.from

pub words-preserved : goal.words-preserved
words-preserved c =
    let marks = c.words.marks.items in
    let ticks = c.ones_between-ticks.result in
    let place = c.index.result * 1604 + c.words.tick / 64 in
    let there : place < length marks = omega (arith, c.words.invariant.size) in
    let word : c.index_mut.result.now ≡ get_or marks place 0 =
    get_or_read marks place _ there c.index_mut.ensures.value 0 in
    let read : c.index-in-words.result.now ≡ get_or marks place 0 =
    get_or_read marks place _ there c.index-in-words.ensures 0 in
    let free : bit_and (get_or marks place 0) ticks ≡ 0 = rw (← read) (grind (arith, nat_tests)) in
    rw word (run_more c.args.marks.now.items marks c.args.vcpu c.args.from c.words.tick c.min-end.result place
    ticks (omega arith) there (omega arith) (omega arith) c.ones_between-ticks.ensures.inside
    c.ones_between-ticks.ensures.above free c.words.invariant)

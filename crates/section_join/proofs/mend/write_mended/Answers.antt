use Rattle.std.proofs.Common.{◌≡◌, ap, flat_map, rules}
use Rattle.tab_words.specs.Lines.{lines_of}
use Rattle.tab_io.proofs.SinkLemmas.{all_left, left_behind, left_broken, none_left}
use Rattle.section_join.specs.Mended.{mended, mended_line}
use Rattle.section_join.proofs.mend.write_mended.Goals as goal

pub loop-line-init : goal.loop-line-init
unfolding mended
loop-line-init g c =
    let lines : c.into_iter-line-iterator.result ≡ lines_of c.args.bytes.now = search rules in
    rw lines (all_left _ _)

pub returns-in-Err : goal.returns-in-Err
returns-in-Err g c = left_broken _ _ _ _ _ _ _ _ _ c.loop-line.invariant
    (ap (flat_map mended_line) c.in-Some.ensures.steps) c.put_line.ensures c.in-Err.is

pub loop-line-preserved : goal.loop-line-preserved
loop-line-preserved g c = left_behind _ _ _ _ _ _ _ _ _ c.loop-line.invariant
    (ap (flat_map mended_line) c.in-Some.ensures.steps) c.put_line.ensures c.in_default.is

pub returns : goal.returns
returns g c = none_left _ _ _ _ c.loop-line.invariant (ap (flat_map mended_line) c.in-None.ensures.steps.0)

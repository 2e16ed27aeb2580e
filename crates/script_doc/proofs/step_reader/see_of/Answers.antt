use Rattle.std.proofs.Common.{arith}
use Rattle.script_doc.proofs.PlainStepLemmas.{see_words}
use Rattle.script_doc.proofs.step_reader.see_of.Goals as goal

pub returns : goal.returns
returns c =
    let found = c.in_ok-core.ensures in
    let small = found.0 in
    record {
      written = see_words c.args.word.now c.in_ok-core.core (omega (arith, small, c.requires)) found.1;
      within = small;
    }

use Rattle.std.proofs.Common.{◌≡◌, ◌-◌, [], slice_index_or, arith}
use Rattle.tab_words.specs.Sections.{sections_of}
use Rattle.tab_words.proofs.SectionSizeLemmas.{section_size}
use Rattle.tool_input.proofs.run.last_part.Goals as goal

pub returns-in_default : goal.returns-in_default
returns-in_default c =
    let bytes = c.args.bytes.now in
    let last = c.count.result - 1 in
    let same : c.part.result.now ≡ slice_index_or (sections_of bytes) last [] =
    cc (c.part.ensures, c.cut_sections-sections.ensures) in
    rw same (section_size bytes last)

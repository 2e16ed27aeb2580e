use Rattle.std.proofs.Common.{◌≡◌, [], slice_index_or, arith}
use Rattle.tab_words.specs.Sections.{sections_of}
use Rattle.tab_words.proofs.SectionSizeLemmas.{section_size}
use Rattle.tool_input.proofs.planned.refusal_in.Goals as goal

pub refusal_of-requires : goal.refusal_of-requires
refusal_of-requires c =
    let bytes = c.args.input.now.bytes.items in
    let same : c.part.result.now ≡ slice_index_or (sections_of bytes) 1 [] =
    cc (c.part.ensures, c.cut_sections-sections.ensures, c.deref.ensures.value) in
    let small = section_size bytes 1 in
    rw same (omega (arith, small, c.args.input.now.few))

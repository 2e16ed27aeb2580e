use Rattle.std.proofs.Common.{◌≡◌, [], slice_index_or, arith}
use Rattle.tab_words.specs.Sections.{sections_of}
use Rattle.tab_words.proofs.SectionSizeLemmas.{section_size}
use Rattle.tool_kernel.proofs.tables.export_tables.Goals as goal

pub plan_for-requires : goal.plan_for-requires
plan_for-requires c =
    let bytes = c.in_ok-place.field-0.bytes.items in
    let same : c.part-2.result.now ≡ slice_index_or (sections_of bytes) 1 [] =
    cc (c.part-2.ensures, c.cut_sections-sections.ensures, c.deref.ensures.value) in
    let small = section_size bytes 1 in
    rw same (omega (arith, small, c.in_ok-place.field-0.few))

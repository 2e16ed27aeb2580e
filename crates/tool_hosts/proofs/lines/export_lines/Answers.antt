use Rattle.std.proofs.Common.{◌≡◌, [], slice_index_or, arith}
use Rattle.tab_words.specs.Sections.{sections_of}
use Rattle.tab_words.proofs.SectionSizeLemmas.{section_size}
use Rattle.tool_hosts.proofs.lines.export_lines.Goals as goal

pub plan_of-requires : goal.plan_of-requires
plan_of-requires c =
    let bytes = c.in_ok-place.field-0.bytes.items in
    let same : c.part-2.result.now ≡ slice_index_or (sections_of bytes) 1 [] =
    cc (c.part-2.ensures, c.cut_sections-sections.ensures, c.deref.ensures.value) in
    let small = section_size bytes 1 in
    rw same (omega (arith, small, c.in_ok-place.field-0.few))

pub checked-requires : goal.checked-requires
checked-requires c =
    let bytes = c.in_ok-place.field-0.bytes.items in
    let same : c.part-3.result.now ≡ slice_index_or (sections_of bytes) 1 [] =
    cc (c.part-3.ensures, c.cut_sections-sections.ensures, c.deref.ensures.value) in
    let small = section_size bytes 1 in
    rw same (omega (arith, small, c.in_ok-place.field-0.few))

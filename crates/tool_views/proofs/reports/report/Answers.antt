use Rattle.std.proofs.Common.{◌≡◌, [], slice_index_or, arith}
use Rattle.tab_words.specs.Sections.{sections_of}
use Rattle.tab_words.proofs.SectionSizeLemmas.{section_size}
use Rattle.tool_views.proofs.reports.report.Goals as goal

pub plan_of-requires : goal.plan_of-requires
plan_of-requires c =
    let bytes = c.in_ok-place.field-0.bytes.items in
    let same : c.part-in-2.result.now ≡ slice_index_or (sections_of bytes) 1 [] =
    cc (c.part-in-2.ensures, c.cut_sections-sections.ensures, c.deref.ensures.value) in
    let small = section_size bytes 1 in
    rw same (omega (arith, small, c.in_ok-place.field-0.few))

pub refusal_of-requires : goal.refusal_of-requires
refusal_of-requires c =
    let bytes = c.in_ok-place.field-0.bytes.items in
    let same : c.part-in-2-2.result.now ≡ slice_index_or (sections_of bytes) 1 [] =
    cc (c.part-in-2-2.ensures, c.cut_sections-sections.ensures, c.deref.ensures.value) in
    let small = section_size bytes 1 in
    rw same (omega (arith, small, c.in_ok-place.field-0.few))

pub view_in-requires : goal.view_in-requires
view_in-requires c =
    let bytes = c.in_ok-place.field-0.bytes.items in
    let same : c.part-in-3-2.result.now ≡ slice_index_or (sections_of bytes) 2 [] =
    cc (c.part-in-3-2.ensures, c.cut_sections-sections.ensures, c.deref.ensures.value) in
    let small = section_size bytes 2 in
    rw same (omega (arith, small, c.in_ok-place.field-0.few))

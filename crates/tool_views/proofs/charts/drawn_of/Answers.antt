use Rattle.std.proofs.Common.{◌≡◌, [], slice_index_or, arith}
use Rattle.tab_words.specs.Sections.{sections_of}
use Rattle.tab_words.proofs.SectionSizeLemmas.{section_size}
use Rattle.tool_views.proofs.charts.drawn_of.Goals as goal

pub drawn_plan_of-requires : goal.drawn_plan_of-requires
drawn_plan_of-requires c =
    let bytes = c.in_ok-input.input.bytes.items in
    let same : c.part-then-not-starts_with-2.result.now ≡ slice_index_or (sections_of bytes) 1 [] =
    cc (c.part-then-not-starts_with-2.ensures, c.cut_sections-sections.ensures, c.deref.ensures.value) in
    let small = section_size bytes 1 in
    rw same (omega (arith, small, c.in_ok-input.input.few))

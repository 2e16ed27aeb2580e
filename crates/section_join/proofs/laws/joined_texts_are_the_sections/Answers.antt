use Rattle.section_join.proofs.SectionLemmas.{sections_of-joined}
use Rattle.section_join.proofs.laws.joined_texts_are_the_sections.Goals as goal

pub returns : goal.returns
returns c = sections_of-joined

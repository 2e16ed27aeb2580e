use Rattle.view_table.proofs.LongestLemmas.{is_longest}
use Rattle.view_table.proofs.laws.a_shown_wait_is_the_longest.Goals as goal

pub returns : goal.returns
returns c = is_longest

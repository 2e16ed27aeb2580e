use Rattle.view_laws.proofs.ReplayReadBack.{replay_told_by, replay_shown, replay_has_no_bad_line}
use Rattle.view_laws.proofs.laws.a_replay_text_is_read_back.Goals as goal

pub returns-clause-told : goal.returns-clause-told
returns-clause-told c = replay_told_by

pub returns-clause-shown : goal.returns-clause-shown
returns-clause-shown c = replay_shown

pub returns-clause-no_bad_line : goal.returns-clause-no_bad_line
returns-clause-no_bad_line c = replay_has_no_bad_line

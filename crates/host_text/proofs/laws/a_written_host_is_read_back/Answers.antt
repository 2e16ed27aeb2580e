use Rattle.host_text.proofs.ReadBack.{one_section, read_back, short}
use Rattle.host_text.proofs.laws.a_written_host_is_read_back.Goals as goal

pub returns-clause-host : goal.returns-clause-host
returns-clause-host c = read_back

pub returns-clause-section : goal.returns-clause-section
returns-clause-section c = one_section

pub returns-clause-short : goal.returns-clause-short
returns-clause-short c = short

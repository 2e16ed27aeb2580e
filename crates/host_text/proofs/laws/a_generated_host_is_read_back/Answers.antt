use Rattle.host_text.proofs.ReadBack.{generated_one_section, generated_read_back, generated_short}
use Rattle.host_text.proofs.laws.a_generated_host_is_read_back.Goals as goal

pub returns-clause-host : goal.returns-clause-host
returns-clause-host c = generated_read_back

pub returns-clause-section : goal.returns-clause-section
returns-clause-section c = generated_one_section

pub returns-clause-short : goal.returns-clause-short
returns-clause-short c = generated_short

use Rattle.std.proofs.Common.{Err, ap, ◌∙◌}
use Rattle.tableau_sim.proofs.ReplyLemmas.{input_read, read_failed, read_lacking, read_too_much}
use Rattle.tableau_sim.proofs.input.read_input.Goals as goal

pub returns-in-Ok : goal.returns-in-Ok
returns-in-Ok g c = record { ok = input_read _ _ _ _ c.read_all.ensures c.in-Ok.is; stop = tt {0} }

pub returns-in-Err-ReadFault : goal.returns-in-Err-ReadFault
returns-in-Err-ReadFault g c = rw c.stopped.ensures (record {
  ok = tt {0};
  stop = read_failed _ _ _ c.read_all.ensures (c.in-Err-ReadFault.is ∙ ap Err c.in-Err-ReadFault.field-0-is);
})

pub returns-in-Err-TooLong : goal.returns-in-Err-TooLong
returns-in-Err-TooLong g c = rw c.stopped-in-Err-TooLong.ensures (record {
  ok = tt {0};
  stop = read_too_much _ _ _ _ c.read_all.ensures
      (c.in-Err-TooLong.is ∙ ap Err c.in-Err-TooLong.field-0-is);
})

pub returns-in-Err-NoMemory : goal.returns-in-Err-NoMemory
returns-in-Err-NoMemory g c = record { ok = tt {0}; stop = read_lacking _ _ _ c.read_all.ensures }

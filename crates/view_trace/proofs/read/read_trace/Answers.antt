use Rattle.view_trace.proofs.TraceLemmas.{line_fault, shows_drawn, shows_fault}
use Rattle.view_trace.proofs.read.read_trace.Goals as goal

pub drawn-requires : goal.drawn-requires
drawn-requires c = record {
  read = record {
    rising = c.in-Ok.ensures.read.drawable.rising;
    placed = c.in-Ok.ensures.read.drawable.placed;
    ends = c.in-Ok.ensures.read.time;
  };
}

pub returns-in-Ok-clause-drawn : goal.returns-in-Ok-clause-drawn
returns-in-Ok-clause-drawn c =
    shows_drawn c.args.bytes.now c.in-Ok.reading c.drawn.result c.in-Ok.ensures.read c.drawn.ensures.shows

pub returns-in-Ok-clause-fault : goal.returns-in-Ok-clause-fault
returns-in-Ok-clause-fault c =
    shows_fault c.args.bytes.now c.in-Ok.reading c.drawn.result c.in-Ok.ensures.read c.drawn.ensures.fault

pub returns-in-Err-clause-fault : goal.returns-in-Err-clause-fault
returns-in-Err-clause-fault c = line_fault c.args.bytes.now c.in-Err.fault c.in-Err.ensures.fault

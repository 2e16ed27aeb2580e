use Rattle.std.proofs.Common.{[]}
use Rattle.view_doc.proofs.reader.Reader.put.Goals as goal

pub put_task-requires : goal.put_task-requires
put_task-requires c = rw c.in-Task.is at (c.requires [])

pub put_segment-requires : goal.put_segment-requires
put_segment-requires c = rw c.in-Segment.is at (c.requires [])

pub put_stint-requires : goal.put_stint-requires
put_stint-requires c = rw c.in-Stint.is at (c.requires [])

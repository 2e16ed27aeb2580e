use Rattle.std.proofs.Common.{take, flat_map, Ok}
use Rattle.tab_io.specs.Sinks.{Writes}
use Rattle.view_report.specs.RunCsv.{vcpu_ran_csv}
use Rattle.view_report.proofs.csv.put_vcpus.Given as goal

-- the rows so far came
abbrev pub invariant-loop-ran : goal.invariant-loop-ran
invariant-loop-ran g l = Writes {U = Unit {0}} (g.K.Sink.state l.fn.sink) (g.K.Sink.state l.sink)
    (flat_map (vcpu_ran_csv l.tick_ns) (take l.ran-index l.vcpus)) (Ok (tt {0}))

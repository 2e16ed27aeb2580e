use Rattle.std.proofs.Common.{◌≡◌, ℕ, ◌++◌, length, take, true}
use Rattle.table_form.specs.Tables.Homes.{are_housed}
use Rattle.plan_text.specs.FirstBad.{IsFirstBadFor}
use Rattle.plan_text.specs.PlanLines.{vcpu_lines}
use Rattle.vcpu_names.specs.Names.{names_of}
use Rattle.plan_text.specs.Inside.Reading.{AreFromVcpu}
use Rattle.plan_text.proofs.read_vcpus.read_vcpus.Given as goal

abbrev pub invariant-loop-v : goal.invariant-loop-v
invariant-loop-v l = record {
  many : length l.homes.items ≡ l.v;
  lines : l.fn.left.lines ≡ vcpu_lines (names_of l.vcpus) l.tasks l.homes.items ++ l.left.lines;
  housed : are_housed l.cores (take l.v l.tasks) l.homes.items ≡ true;
  behind : (bad : ℕ) → IsFirstBadFor (AreFromVcpu (names_of l.vcpus) l.tasks l.cores l.v) l.left.number
      l.left.lines bad
      → IsFirstBadFor (AreFromVcpu (names_of l.vcpus) l.tasks l.cores 0) l.fn.left.number l.fn.left.lines bad;
}

-- What is kept of who runs where.
use Rattle.std.specs.Prelude.{◌≡◌, ℕ, [], List, Some, None, get_or}
use Rattle.host_trace.specs.declared.mark.Mark.{Mark}
use Rattle.host_judge.specs.Clashes.{IsCountOf, cpu_by, is_doubled, lines_where, shares_cpu}
use Rattle.host_judge.specs.declared.clashes.Clashes.{Clashes}

-- the marks have been taken
pub record HasClashes (marks : List Mark) (clashes : Clashes) : Type 0 where
  pub cpus : (vcpu : ℕ) → cpu_by marks (Some vcpu) ≡ get_or clashes.cpus.items vcpu None
  pub shared : IsCountOf (lines_where shares_cpu [] marks) clashes.shared
  pub doubled : IsCountOf (lines_where is_doubled [] marks) clashes.doubled

-- The vCPUs that want a tick of an interval.
use Rattle.std.specs.Prelude.{ℕ, ◌<◌, List, slice_index_or}
use Rattle.flow_net.specs.declared.fill.Wanting.{Wanting}

-- an entry of the list
abbrev pub listed_at : List Wanting → ℕ → Wanting
listed_at wanting n = slice_index_or wanting n (record { class = 0; vcpu = 0 })

-- the first ones are vCPUs
abbrev pub AreVcpus : ℕ → List Wanting → ℕ → Type 0
AreVcpus width wanting tail = (n : ℕ) → n < tail → (listed_at wanting n).vcpu < width

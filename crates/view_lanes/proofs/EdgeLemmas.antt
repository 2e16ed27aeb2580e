-- How large the edges of columns are.
use Rattle.std.proofs.Common.{arith, ℕ, ◌+◌, ◌-◌, ◌*◌, ◌/◌, ◌<◌, ◌≤◌}
use Rattle.std.proofs.Math.Nat.{div-le_self}
use Rattle.std.proofs.lemmas.Nat.{mul-le}

-- an edge is small
pub edge_small : (j span columns : ℕ) → j ≤ 65536 → span < 4294967296 → columns ≤ 65536
    → (j * span + (columns - 1)) / columns < 562949953421312
edge_small j span columns few small less =
    let wide : j * span ≤ 65536 * 4294967296 = mul-le j span 65536 4294967296 few (omega arith) in
    let part : (j * span + (columns - 1)) / columns ≤ j * span + (columns - 1) =
    div-le_self (j * span + (columns - 1)) columns in
    omega (arith, wide, part, less)

-- How large the numbers of a picture are.
use Rattle.std.proofs.Common.{ℕ, ◌*◌, ◌≤◌}
use Rattle.std.proofs.lemmas.Nat.{mul-le}

-- the lanes above one take so much
pub lane_offset : (i pitch : ℕ) → i ≤ 256 → pitch ≤ 4800 → i * pitch ≤ 1228800
lane_offset i pitch few small = mul-le i pitch 256 4800 few small

-- What a core's state keeps inside.
use Rattle.std.specs.Prelude.{◌≡◌, ℕ, ◌<◌, ◌≤◌, [], None, slice_index, vec_capacity}
use Rattle.tab_core.specs.declared.TheConstants.{MAX_CORES, MAX_ROUNDS, MAX_VCPUS}
use Rattle.dispatch_core.specs.declared.log.CoreLog.{CoreLog}
use Rattle.dispatch_core.specs.States.{StateView}

abbrev pub log_view : CoreLog → StateView
log_view log = record {
  core = log.core;
  rounds = log.rounds;
  keep = log.keep;
  clock = log.clock;
  last = log.last;
  account = log.account;
  used = log.used.items;
  stints = log.stints.items;
  known = log.known;
}

-- the numbers are small, and there is room for a used count for each round and for the stints to keep
pub record IsLog (log : CoreLog) : Type 0 where
  pub small : log.core < MAX_CORES
  pub few : log.rounds ≤ MAX_ROUNDS
  pub used_room : log.rounds ≤ vec_capacity log.used
  pub stints_room : log.keep ≤ vec_capacity log.stints

-- nothing has happened
pub record IsNewLog (log : CoreLog) : Type 0 where
  pub clock : log.clock ≡ 0
  pub last : log.last ≡ None
  pub slots : (v : ℕ) → v < MAX_VCPUS → slice_index log.account.slots v ≡ 0
  pub shared : (v : ℕ) → v < MAX_VCPUS → slice_index log.account.shared v ≡ 0
  pub idle : log.account.idle ≡ 0
  pub used : log.used.items ≡ []
  pub stints : log.stints.items ≡ []
  pub known : (d : ℕ) → slice_index log.known d ≡ 0

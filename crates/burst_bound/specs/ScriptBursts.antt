-- The bursts of a script.
-- Source: the rules of this project.
use Rattle.std.specs.Prelude.{ℕ, ◌+◌, List, [], ◌∷◌, ◌++◌}
use Rattle.script_doc.specs.declared.event.Act.{Act}
use Rattle.script_doc.specs.declared.event.Act.TheVariants.{Burst}
use Rattle.script_doc.specs.declared.event.Event.{Event}

-- the event of this number and tick brings so many ticks of work for the vCPU
pub record ScriptBurst : Type 0 where
  pub event : ℕ
  pub tick : ℕ
  pub vcpu : ℕ
  pub work : ℕ

-- the burst that an event of this act is, if it is one
abbrev pub bursts_at : ℕ → ℕ → Act → List ScriptBurst
bursts_at event tick (Burst vcpu work) = (record { event = event; tick = tick; vcpu = vcpu; work = work }) ∷ []
bursts_at event tick act = []

-- the bursts among events, of which the first has this number
abbrev pub bursts_from : ℕ → List Event → List ScriptBurst
bursts_from number [] = []
bursts_from number (event ∷ events) = bursts_at number event.tick event.act ++ bursts_from (number + 1) events

-- the bursts of a script, in their order
abbrev pub bursts_of : List Event → List ScriptBurst
bursts_of events = bursts_from 0 events

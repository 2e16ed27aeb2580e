-- The events that lines state for a host, whose vCPUs the lines name.
use Rattle.std.specs.Prelude.{◌≡◌, ℕ, ◌<◌, ◌≤◌, ◌^◌, Bool, true, false, List, [], ◌∷◌, codes, decimal, flat_map, length}
use Rattle.std.specs.List.{All}
use Rattle.tab_core.specs.Edits.{AreEditsOf, vcpu_of}
use Rattle.tab_core.specs.Name.{IsName}
use Rattle.tab_core.specs.declared.edit.Edit.{Edit}
use Rattle.tab_core.specs.declared.edit.Edit.TheVariants.{Set, Leave}
use Rattle.vcpu_names.specs.Names.{name_at}
use Rattle.script_doc.specs.declared.event.Act.{Act}
use Rattle.script_doc.specs.declared.event.Act.TheVariants.{Wake, Block, Change, Burst}
use Rattle.script_doc.specs.declared.event.Event.{Event}

-- the words of an edit: `set NAME SHARE LATENCY` or `leave NAME`. That a share is from 1 to 1000000 and a latency at
-- most 1000000000000 is a fact of the type `Reservation`
abbrev pub edit_words : List (List ℕ) → Edit → List (List ℕ)
edit_words names (Set vcpu reservation) = codes "set" ∷ name_at names vcpu
    ∷ decimal reservation.share_ppm ∷ decimal reservation.latency_ns ∷ []
edit_words names (Leave vcpu) = codes "leave" ∷ name_at names vcpu ∷ []

-- the words of what happens: `wake NAME`, `block NAME`, `change` and one or more edits, or `burst NAME WORK`
abbrev pub act_words : List (List ℕ) → Act → List (List ℕ)
act_words names (Wake vcpu) = codes "wake" ∷ name_at names vcpu ∷ []
act_words names (Block vcpu) = codes "block" ∷ name_at names vcpu ∷ []
act_words names (Change edits) = codes "change" ∷ flat_map (edit_words names) edits
act_words names (Burst vcpu work) = codes "burst" ∷ name_at names vcpu ∷ decimal work ∷ []

-- the vCPU has one of the names, of the form of names
abbrev pub IsNamed : List (List ℕ) → ℕ → Type 0
IsNamed names vcpu = (vcpu < length names) × IsName (name_at names vcpu)

-- what happens is of vCPUs with names; a change has one edit at least, and a burst a tick of work at least and no
-- more than the longest run has ticks
abbrev pub IsGoodAct : List (List ℕ) → Act → Type 0
IsGoodAct names (Wake vcpu) = IsNamed names vcpu
IsGoodAct names (Block vcpu) = IsNamed names vcpu
IsGoodAct names (Change edits) = (0 < length edits) × All (λ edit. IsNamed names (vcpu_of edit)) edits
IsGoodAct names (Burst vcpu work) = IsNamed names vcpu × (1 ≤ work) × (work ≤ 1026000000)

-- the words are those of this event of a host whose vCPUs have these names
pub record IsEvent (names : List (List ℕ)) (words : List (List ℕ)) (event : Event) : Type 0 where
  pub written : words ≡ decimal event.tick ∷ act_words names event.act
  pub short : event.tick < 2 ^ 32
  pub good : IsGoodAct names event.act

-- whatever names vCPUs have, the words are those of no event
abbrev pub IsNoLine : List (List ℕ) → Type 0
IsNoLine words = (names : List (List ℕ)) (event : Event) → IsEvent names words event → ⊥

-- if vCPUs had some other names the words would be those of an event, and with these names they are not
pub record IsUnknownLine (names : List (List ℕ)) (words : List (List ℕ)) : Type 0 where
  pub others : List (List ℕ)
  pub event : Event
  pub line : IsEvent others words event
  pub unknown : (own : Event) → IsEvent names words own → ⊥

-- what happens is of vCPUs below this count
abbrev pub IsActWithin : ℕ → Act → Type 0
IsActWithin count (Wake vcpu) = vcpu < count
IsActWithin count (Block vcpu) = vcpu < count
IsActWithin count (Change edits) = AreEditsOf count edits
IsActWithin count (Burst vcpu work) = vcpu < count

-- the act is a change of reservations
abbrev pub is_change : Act → Bool
is_change (Wake vcpu) = false
is_change (Block vcpu) = false
is_change (Change edits) = true
is_change (Burst vcpu work) = false

-- The grammar of an event's line as it is read: what its words say before names are looked up, and which names are
-- no vCPU's.
use Rattle.std.specs.Prelude.{◌≡◌, ◌⊎◌, ℕ, ◌<◌, ◌≤◌, ◌^◌, List, [], ◌∷◌, codes, decimal, flat_map, length, map}
use Rattle.std.specs.List.{All}
use Rattle.tab_core.specs.Name.{IsName}
use Rattle.tab_core.specs.declared.edit.Edit.{Edit}
use Rattle.tab_core.specs.declared.edit.Edit.TheVariants.{Set, Leave}
use Rattle.vcpu_names.specs.Names.{IsUnknown, name_at}
use Rattle.script_doc.specs.Events.{IsActWithin}
use Rattle.script_doc.specs.declared.event.Act.{Act}
use Rattle.script_doc.specs.declared.event.Act.TheVariants.{Wake, Block, Change, Burst}
use Rattle.script_doc.specs.declared.event.Event.{Event}

-- an edit as a line has it: `set NAME SHARE LATENCY` or `leave NAME`
pub data NamedEdit : Type 0 where
  sets : List ℕ → ℕ → ℕ → NamedEdit
  leaves : List ℕ → NamedEdit

-- what happens as a line has it: `wake NAME`, `block NAME`, `change` and edits, or `burst NAME WORK`
pub data NamedAct : Type 0 where
  wakes : List ℕ → NamedAct
  blocks : List ℕ → NamedAct
  changes : List NamedEdit → NamedAct
  bursts : List ℕ → ℕ → NamedAct

-- the words of an edit
abbrev pub named_edit_words : NamedEdit → List (List ℕ)
named_edit_words (sets name share latency) = codes "set" ∷ name ∷ decimal share ∷ decimal latency ∷ []
named_edit_words (leaves name) = codes "leave" ∷ name ∷ []

-- the words of what happens
abbrev pub named_act_words : NamedAct → List (List ℕ)
named_act_words (wakes name) = codes "wake" ∷ name ∷ []
named_act_words (blocks name) = codes "block" ∷ name ∷ []
named_act_words (changes edits) = codes "change" ∷ flat_map named_edit_words edits
named_act_words (bursts name work) = codes "burst" ∷ name ∷ decimal work ∷ []

-- the name and the numbers of an edit are in their ranges
abbrev pub IsGoodNamedEdit : NamedEdit → Type 0
IsGoodNamedEdit (sets name share latency) = IsName name × (1 ≤ share) × (share ≤ 1000000)
    × (latency ≤ 1000000000000)
IsGoodNamedEdit (leaves name) = IsName name

-- what happens is in its ranges: a change has one edit at least, and a burst a tick of work at least and no
-- more than the longest run has ticks
abbrev pub IsGoodNamedAct : NamedAct → Type 0
IsGoodNamedAct (wakes name) = IsName name
IsGoodNamedAct (blocks name) = IsName name
IsGoodNamedAct (changes edits) = (0 < length edits) × All IsGoodNamedEdit edits
IsGoodNamedAct (bursts name work) = IsName name × (1 ≤ work) × (work ≤ 1026000000)

-- the words are those of an event
pub record IsNamedLine (words : List (List ℕ)) (tick : ℕ) (act : NamedAct) : Type 0 where
  pub written : words ≡ decimal tick ∷ named_act_words act
  pub short : tick < 2 ^ 32
  pub good : IsGoodNamedAct act

-- the words are those of no event
abbrev pub IsNoNamedLine : List (List ℕ) → Type 0
IsNoNamedLine words = (tick : ℕ) (act : NamedAct) → IsNamedLine words tick act → ⊥

-- the name of an edit
abbrev pub edit_name : NamedEdit → List ℕ
edit_name (sets name share latency) = name
edit_name (leaves name) = name

-- an edit's name is no vCPU's
abbrev pub HasUnknownEdit : List (List ℕ) → List NamedEdit → Type 0
HasUnknownEdit names [] = ⊥
HasUnknownEdit names (edit ∷ edits) = IsUnknown names (edit_name edit) ⊎ HasUnknownEdit names edits

-- a name of what happens is no vCPU's
abbrev pub HasUnknown : List (List ℕ) → NamedAct → Type 0
HasUnknown names (wakes name) = IsUnknown names name
HasUnknown names (blocks name) = IsUnknown names name
HasUnknown names (changes edits) = HasUnknownEdit names edits
HasUnknown names (bursts name work) = IsUnknown names name

-- the words are those of an event that names no vCPU of the host
pub record IsUnknownNamedLine (names : List (List ℕ)) (words : List (List ℕ)) : Type 0 where
  pub tick : ℕ
  pub act : NamedAct
  pub line : IsNamedLine words tick act
  pub unknown : HasUnknown names act

-- an edit as it is written, by the vCPU's name
abbrev pub named_edit : List (List ℕ) → Edit → NamedEdit
named_edit names (Set vcpu reservation) =
    sets (name_at names vcpu) reservation.share_ppm reservation.latency_ns
named_edit names (Leave vcpu) = leaves (name_at names vcpu)

-- what happens as it is written
abbrev pub named_act : List (List ℕ) → Act → NamedAct
named_act names (Wake vcpu) = wakes (name_at names vcpu)
named_act names (Block vcpu) = blocks (name_at names vcpu)
named_act names (Change edits) = changes (map (named_edit names) edits)
named_act names (Burst vcpu work) = bursts (name_at names vcpu) work

-- the words are those of this event of a host whose vCPUs have these names
pub record IsNamedEvent (names : List (List ℕ)) (words : List (List ℕ)) (event : Event) : Type 0 where
  pub line : IsNamedLine words event.tick (named_act names event.act)
  pub within : IsActWithin (length names) event.act

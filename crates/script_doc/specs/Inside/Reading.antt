-- What the readers of a part of an event's line find in its words.
use Rattle.std.specs.Prelude.{◌≡◌, ℕ, ◌<◌, List, [], ◌∷◌, ◌++◌, map, length, flat_map, Option, MatchOption}
use Rattle.std.specs.List.{All}
use Rattle.tab_core.specs.Edits.{AreEditsOf, vcpu_of}
use Rattle.tab_core.specs.Name.{IsName}
use Rattle.tab_core.specs.declared.edit.Edit.{Edit}
use Rattle.script_doc.specs.Events.{IsActWithin}
use Rattle.script_doc.specs.Inside.NamedLines.{edit_name, HasUnknown, HasUnknownEdit, IsGoodNamedAct, IsGoodNamedEdit, named_act, named_act_words, named_edit, named_edit_words, NamedAct, NamedEdit}
use Rattle.vcpu_names.specs.Names.{IsUnknown, name_at}
use Rattle.script_doc.specs.declared.event.Act.{Act}
use Rattle.script_doc.specs.declared.event_reader.LineFault.{LineFault}
use Rattle.script_doc.specs.declared.event_reader.LineFault.TheVariants.{BadLine as BadForm, UnknownName as NoSuchName, NoMemory as OutOfMemory}
use Rattle.script_doc.specs.declared.script_fault.ScriptFault.{ScriptFault}
use Rattle.script_doc.specs.declared.script_fault.ScriptFault.TheVariants.{BadLine, UnknownName, NoMemory}

-- the words are the name of this vCPU and nothing else
pub record IsOnly (names : List (List ℕ)) (words : List (List ℕ)) (vcpu : ℕ) : Type 0 where
  pub written : words ≡ name_at names vcpu ∷ []
  pub good : IsName (name_at names vcpu)
  pub within : vcpu < length names

-- the words are not a name and nothing else
abbrev pub IsNoName : List (List ℕ) → Type 0
IsNoName words = (name : List ℕ) → IsName name → words ≡ name ∷ [] → ⊥

-- the words are a name that no vCPU has, and nothing else
pub record IsUnknownName (names : List (List ℕ)) (words : List (List ℕ)) : Type 0 where
  pub name : List ℕ
  pub written : words ≡ name ∷ []
  pub good : IsName name
  pub unknown : IsUnknown names name

-- the words begin with an edit, before the rest; it is found where a vCPU has its name
pub record IsEdit (names : List (List ℕ)) (words rest : List (List ℕ)) (found : Option Edit) : Type 0 where
  pub named : NamedEdit
  pub written : words ≡ named_edit_words named ++ rest
  pub good : IsGoodNamedEdit named
  pub meaning : MatchOption found (IsUnknown names (edit_name named))
      (λ edit. (named ≡ named_edit names edit) × (vcpu_of edit < length names))

-- the words do not begin with an edit
abbrev pub IsNoEdit : List (List ℕ) → Type 0
IsNoEdit words = (edit : NamedEdit) (rest : List (List ℕ)) → IsGoodNamedEdit edit
    → words ≡ named_edit_words edit ++ rest → ⊥

-- the words are these edits
pub record AreEdits (names : List (List ℕ)) (words : List (List ℕ)) (edits : List Edit) : Type 0 where
  pub written : words ≡ flat_map named_edit_words (map (named_edit names) edits)
  pub some : 0 < length (map (named_edit names) edits)
  pub good : All IsGoodNamedEdit (map (named_edit names) edits)
  pub within : AreEditsOf (length names) edits

-- the words are no edits, of which there is one at least
abbrev pub AreNoEdits : List (List ℕ) → Type 0
AreNoEdits words = (edits : List NamedEdit) → 0 < length edits → All IsGoodNamedEdit edits
    → words ≡ flat_map named_edit_words edits → ⊥

-- the words are edits, and the name of one is no vCPU's
pub record AreUnknownEdits (names : List (List ℕ)) (words : List (List ℕ)) : Type 0 where
  pub edits : List NamedEdit
  pub written : words ≡ flat_map named_edit_words edits
  pub some : 0 < length edits
  pub good : All IsGoodNamedEdit edits
  pub unknown : HasUnknownEdit names edits

-- the words say that this happens
pub record IsAct (names : List (List ℕ)) (words : List (List ℕ)) (act : Act) : Type 0 where
  pub written : words ≡ named_act_words (named_act names act)
  pub good : IsGoodNamedAct (named_act names act)
  pub within : IsActWithin (length names) act

-- the words say nothing that happens
abbrev pub IsNoAct : List (List ℕ) → Type 0
IsNoAct words = (act : NamedAct) → IsGoodNamedAct act → words ≡ named_act_words act → ⊥

-- the words say what happens, and a name of it is no vCPU's
pub record IsUnknownAct (names : List (List ℕ)) (words : List (List ℕ)) : Type 0 where
  pub act : NamedAct
  pub written : words ≡ named_act_words act
  pub good : IsGoodNamedAct act
  pub unknown : HasUnknown names act

-- the fault of a line that isn't read as an event, at the line of this number
abbrev pub fault_at : ℕ → LineFault → ScriptFault
fault_at line BadForm = BadLine line
fault_at line NoSuchName = UnknownName line
fault_at line OutOfMemory = NoMemory

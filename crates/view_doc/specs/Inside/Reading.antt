-- The parts that the reader has read.
use Rattle.std.specs.Prelude.{◌≡◌, ℕ, ◌⊎◌, List, [], ◌∷◌, ◌++◌, map, Option, Some, None}
use Rattle.tab_core.specs.Name.{IsName}
use Rattle.view_doc.specs.Grammar.{Front, ends_behind, front_behind, names_behind, with_name}
use Rattle.tab_words.specs.Words.{words_of}
use Rattle.tab_words.specs.Texts.{Line}
use Rattle.view_doc.specs.Lines.{IsGoodHolder, IsGoodOwner, Says, SaysNothing, Told, nobody, in_slot, in_unused, word_of_holder, segment, stint, task}
use Rattle.view_doc.specs.Lines.{Holder as Held}
use Rattle.view_doc.specs.Texts.{IsMisplaced}
use Rattle.view_doc.specs.Views.{cores_behind, entries_in, holder_named, is_run, slots_in, stretch_told, tasks_in, told_stints}
use Rattle.view_doc.specs.declared.view.View.{View}
use Rattle.view_doc.specs.declared.view.Entry.{Entry}
use Rattle.view_doc.specs.declared.view.Stretch.{Stretch}
use Rattle.view_doc.specs.declared.view.Task.{Task}
use Rattle.view_doc.specs.declared.view.Use.{Use}

-- what was read so far
pub record Reading : Type 0 where
  pub front : Front
  pub cores : ℕ
  pub tasks : List Task
  pub slots : List Stretch
  pub entries : List Entry
  pub stints : List Stretch

-- after the stretches that were read there are those that are said
pub record AreAppended (names : List (List ℕ)) (old new : List Stretch) (tolds : List Told) : Type 0 where
  pub more : List Stretch
  pub appended : new ≡ old ++ more
  pub told : map (stretch_told names) more ≡ tolds

-- what is said was put to the rest, at the same place
pub record IsPut (told : Told) (old new : Reading) : Type 0 where
  pub place : new.front.place ≡ old.front.place
  pub names : names_behind old.front.names told ≡ Some new.front.names
  pub ends : ends_behind old.front.ends told ≡ Some new.front.ends
  pub cores : new.cores ≡ cores_behind old.cores told
  pub tasks : new.tasks ≡ old.tasks ++ tasks_in told
  pub slots : AreAppended new.front.names old.slots new.slots (slots_in old.front.place told)
  pub entries : new.entries ≡ old.entries ++ entries_in told
  pub stints : AreAppended new.front.names old.stints new.stints (told_stints told)

-- what is said can't be put there
abbrev pub CantBePut : Told → Reading → Type 0
CantBePut told old = (names_behind old.front.names told ≡ None) ⊎ (ends_behind old.front.ends told ≡ None)

-- what is said was read
pub record IsStatementTaken (told : Told) (old new : Reading) : Type 0 where
  pub front : front_behind old.front told ≡ Some new.front
  pub cores : new.cores ≡ cores_behind old.cores told
  pub tasks : new.tasks ≡ old.tasks ++ tasks_in told
  pub slots : AreAppended new.front.names old.slots new.slots (slots_in old.front.place told)
  pub entries : new.entries ≡ old.entries ++ entries_in told
  pub stints : AreAppended new.front.names old.stints new.stints (told_stints told)

-- the line was read, and says something
pub record IsLineTaken (words : Line) (old new : Reading) : Type 0 where
  pub told : Told
  pub says : Says words told
  pub taken : IsStatementTaken told old new

-- the line says nothing, or what may not are there
abbrev pub IsWrongLine : Front → Line → Type 0
IsWrongLine front words = SaysNothing words ⊎ IsMisplaced front words

-- the word is that of a known vCPU, or of nobody
pub record IsPlainOwner (names : List (List ℕ)) (word : List ℕ) (by : Use) : Type 0 where
  pub alone : words_of word ≡ word_of_holder (holder_named names by) ∷ []
  pub good : IsGoodOwner (holder_named names by)
  pub known : (end : ℕ) → names_behind names (segment end (holder_named names by)) ≡ Some names

-- the names in what is said have the form of names
abbrev pub HasNames : Told → Type 0
HasNames (task name period cost home) = IsName name
HasNames (stint c from to used seen holder) = IsGoodHolder holder
HasNames (segment to holder) = IsGoodOwner holder
HasNames _ = Unit {0}

-- the names with a holder's, where there is room for it
abbrev pub names_with : List (List ℕ) → Held → Option (List (List ℕ))
names_with names nobody = Some names
names_with names (in_slot name) = with_name names name
names_with names (in_unused name) = with_name names name

-- the view has what was read
pub record IsReadView (read : Reading) (view : View) : Type 0 where
  pub cores : view.cores ≡ read.cores
  pub run : view.is_run ≡ is_run read.front.place
  pub names : view.names.items ≡ read.front.names
  pub tasks : view.tasks.items ≡ read.tasks
  pub slots : view.slots.items ≡ read.slots
  pub entries : view.entries.items ≡ read.entries
  pub stints : view.stints.items ≡ read.stints

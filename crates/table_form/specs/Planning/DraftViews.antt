-- What contracts know of a draft.
use Rattle.table_form.specs.Planning.Drafts.{IsDraft}
use Rattle.table_form.specs.declared.draft.Draft.{Draft}

-- what the type of drafts keeps
abbrev pub draft_facts : (draft : Draft)
    → IsDraft draft.tasks draft.pieces draft.tables.homes draft.tables.rows
draft_facts draft = record {
  serves = draft.serves;
  inside = draft.inside;
  periods = draft.periods;
  costs = draft.costs;
  own_cores = draft.own_cores;
  own_windows = draft.own_windows;
  on_rows = draft.on_rows;
  housed = draft.housed;
  at_home = draft.at_home;
}

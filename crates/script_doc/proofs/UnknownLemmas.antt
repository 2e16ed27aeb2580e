-- A line names a vCPU that isn't the host's: by the grammar as it is read exactly where some other names make it an
-- event and the host's don't.
use Rattle.std.proofs.Common.{◌≡◌, ◌⊎◌, inl, inr, ℕ, zero, suc, ◌<◌, List, [], ◌∷◌, ◌++◌, append_assoc, length, length-append, subst, Bool, true, false, codes, decimal, flat_map, map, refl, sym, ap, ◌∙◌, arith}
use Rattle.std.proofs.lemmas.List.Elements.{All-cons, All-head, All-tail}
use Rattle.std.proofs.lemmas.Slice.Eq.{bytes_eq-Decides}
use Rattle.std.specs.List.{All}
use Rattle.std.specs.Str.{bytes_eq}
use Rattle.tab_core.specs.Edits.{AreEditsOf, vcpu_of}
use Rattle.tab_core.specs.Name.{IsName}
use Rattle.tab_core.specs.declared.edit.Edit.{Edit}
use Rattle.tab_core.specs.declared.edit.Edit.TheVariants.{Set, Leave}
use Rattle.vcpu_names.specs.Names.{IsUnknown, name_at}
use Rattle.script_doc.specs.Events.{IsActWithin, IsEvent, IsGoodAct, IsNamed, IsUnknownLine, act_words, edit_words}
use Rattle.script_doc.specs.Inside.NamedLines.{blocks, bursts, changes, edit_name, HasUnknown, HasUnknownEdit, IsGoodNamedAct, IsGoodNamedEdit, IsNamedLine, IsUnknownNamedLine, leaves, named_act, named_act_words, named_edit, named_edit_words, NamedAct, NamedEdit, sets, wakes}
use Rattle.script_doc.specs.declared.event.Act.{Act}
use Rattle.script_doc.specs.declared.event.Act.TheVariants.{Wake, Block, Change, Burst}
use Rattle.script_doc.specs.declared.event.Event.{Event}
use Rattle.script_doc.proofs.EventsLemmas.{as_named, known_line, of_named}

-- ---- an unknown name is one for other names

-- the names of edits
abbrev names_in : List NamedEdit → List (List ℕ)
names_in edits = map edit_name edits

-- the edit of the vCPU of this number
abbrev numbered_edit : (k : ℕ) (edit : NamedEdit) → IsGoodNamedEdit edit → Edit
numbered_edit k (sets name share latency) good = Set k (record {
  share_ppm = share;
  latency_ns = latency;
  shares = good.1;
  whole = good.2;
  bounded = good.3;
})
numbered_edit k (leaves name) good = Leave k

-- the edits of the vCPUs of these numbers and up
abbrev numbered : (k : ℕ) (edits : List NamedEdit) → All IsGoodNamedEdit edits → List Edit
numbered k [] good = []
numbered k (edit ∷ edits) good =
    numbered_edit k edit (All-head IsGoodNamedEdit edit edits good)
    ∷ numbered (suc k) edits (All-tail IsGoodNamedEdit edit edits good)

-- a name in the middle of names is that of its number
name_between : (front : List (List ℕ)) (name : List ℕ) (back : List (List ℕ))
    → name_at (front ++ name ∷ back) (length front) ≡ name
name_between [] name back = refl
name_between (first ∷ front) name back = name_between front name back

-- an edit of the number of its name is written as it is
numbered_words : (front back : List (List ℕ)) (edit : NamedEdit) (good : IsGoodNamedEdit edit)
    → edit_words (front ++ edit_name edit ∷ back) (numbered_edit (length front) edit good) ≡ named_edit_words edit
numbered_words front back (sets name share latency) good =
    ap (λ n. codes "set" ∷ n ∷ decimal share ∷ decimal latency ∷ []) (name_between front name back)
numbered_words front back (leaves name) good =
    ap (λ n. codes "leave" ∷ n ∷ []) (name_between front name back)

-- the name of a good edit has the form of names
name_of_good : (edit : NamedEdit) → IsGoodNamedEdit edit → IsName (edit_name edit)
name_of_good (sets name share latency) good = good.0
name_of_good (leaves name) good = good

-- the vCPU of an edit with a number
numbered_vcpu : (k : ℕ) (edit : NamedEdit) (good : IsGoodNamedEdit edit) → vcpu_of (numbered_edit k edit good) ≡ k
numbered_vcpu k (sets name share latency) good = refl
numbered_vcpu k (leaves name) good = refl

-- what edits say if their names are those of vCPUs, by number
record AreNumbered (names : List (List ℕ)) (k : ℕ) (edits : List NamedEdit) (good : All IsGoodNamedEdit edits)
    : Type 0 where
  words : flat_map (edit_words names) (numbered k edits good) ≡ flat_map named_edit_words edits
  named : All (λ edit. IsNamed names (vcpu_of edit)) (numbered k edits good)
  size : length (numbered k edits good) ≡ length edits

-- edits say so with their own names
are_numbered : (front : List (List ℕ)) (edits : List NamedEdit) (good : All IsGoodNamedEdit edits)
    → AreNumbered (front ++ names_in edits) (length front) edits good
are_numbered front [] good = record { words = refl; named = λ k d low. absurd (omega arith); size = refl }
are_numbered front (edit ∷ edits) good =
    let names = front ++ edit_name edit ∷ names_in edits in
    let first = All-head IsGoodNamedEdit edit edits good in
    let others = All-tail IsGoodNamedEdit edit edits good in
    let here = numbered_edit (length front) edit first in
    let size = length-append front (edit_name edit ∷ []) in
    let rest : AreNumbered names (suc (length front)) edits others =
    subst (λ n. AreNumbered names n edits others) (omega (arith, size))
    (subst (λ ns. AreNumbered ns (length (front ++ edit_name edit ∷ [])) edits others)
    (append_assoc front (edit_name edit ∷ []) (names_in edits))
    (are_numbered (front ++ edit_name edit ∷ []) edits others)) in
    record {
      words = ap (λ ws. ws ++ flat_map (edit_words names) (numbered (suc (length front)) edits others))
          (numbered_words front (names_in edits) edit first)
          ∙ ap (λ ws. named_edit_words edit ++ ws) rest.words;
      named = All-cons (λ e. IsNamed names (vcpu_of e)) here (numbered (suc (length front)) edits others)
          (rw (numbered_vcpu (length front) edit first) (
            (let all = length-append front (edit_name edit ∷ names_in edits) in omega (arith, all)),
            subst IsName (sym (name_between front (edit_name edit) (names_in edits))) (name_of_good edit first),
          )) rest.named;
      size = ap suc rest.size;
    }

-- the names and the act of vCPUs of these names, as a line says it
record IsNumbered (named : NamedAct) : Type 0 where
  names : List (List ℕ)
  act : Act
  words : act_words names act ≡ named_act_words named
  good : IsGoodAct names act

-- each line that can be read is that of an event for its own names
is_numbered : (named : NamedAct) → IsGoodNamedAct named → IsNumbered named
is_numbered (wakes name) good = record {
  names = name ∷ [];
  act = Wake 0;
  words = refl;
  good = (omega arith, good);
}
is_numbered (blocks name) good = record {
  names = name ∷ [];
  act = Block 0;
  words = refl;
  good = (omega arith, good);
}
is_numbered (bursts name work) good = record {
  names = name ∷ [];
  act = Burst 0 work;
  words = refl;
  good = ((omega arith, good.0), good.1, good.2);
}
is_numbered (changes edits) good =
    let are = are_numbered [] edits good.1 in
    let some = good.0 in
    record {
      names = names_in edits;
      act = Change (numbered 0 edits good.1);
      words = ap (λ ws. codes "change" ∷ ws) are.words;
      good = (omega (arith, are.size, some), are.named);
    }

-- a line that is read with an unknown name is one for other names
pub unknown_line : (names words : List (List ℕ)) → IsUnknownNamedLine names words → IsUnknownLine names words
unknown_line names words is =
    let own = is_numbered is.act is.line.good in
    record {
      others = own.names;
      event = record { tick = is.tick; act = own.act };
      line = record {
        written = is.line.written ∙ ap (λ ws. decimal is.tick ∷ ws) (sym own.words);
        short = is.line.short;
        good = own.good;
      };
      unknown = λ event of. known_line names words event is (as_named names words event of);
    }

-- ---- a line that is one for other names alone has an unknown name

-- what a look-up of a name finds
data Found (names : List (List ℕ)) (name : List ℕ) : Type 0 where
  Known : (vcpu : ℕ) → vcpu < length names → name_at names vcpu ≡ name → Found names name
  Unknown : IsUnknown names name → Found names name

-- a name that neither the first nor the others are is unknown
unknown_behind : (first : List ℕ) (names : List (List ℕ)) (name : List ℕ) → (first ≡ name → ⊥)
    → IsUnknown names name → IsUnknown (first ∷ names) name
unknown_behind first names name other none zero low same = other same
unknown_behind first names name other none (suc vcpu) low same = none vcpu (omega arith) same

-- a look-up among one name more
found_behind : (first : List ℕ) (names : List (List ℕ)) (name : List ℕ) (same : Bool)
    → bytes_eq first name ≡ same → Found names name → Found (first ∷ names) name
found_behind first names name true is found = Known 0 (omega arith) ((bytes_eq-Decides first name).0 is)
found_behind first names name false is (Known vcpu low at) = Known (suc vcpu) (omega arith) at
found_behind first names name false is (Unknown none) =
    Unknown (unknown_behind first names name (λ same. cc (is, (bytes_eq-Decides first name).1 same)) none)

-- each name is a vCPU's or unknown
look_up : (names : List (List ℕ)) (name : List ℕ) → Found names name
look_up [] name = Unknown (λ vcpu low. absurd (omega arith))
look_up (first ∷ names) name = found_behind first names name (bytes_eq first name) refl (look_up names name)

-- edits as a line has them, of vCPUs of the host
record AreOwn (names : List (List ℕ)) (named : List NamedEdit) : Type 0 where
  edits : List Edit
  same : map (named_edit names) edits ≡ named
  within : AreEditsOf (length names) edits

-- an edit of the vCPU of its name is written as it is
own_edit : (names : List (List ℕ)) (edit : NamedEdit) (good : IsGoodNamedEdit edit) (vcpu : ℕ)
    → name_at names vcpu ≡ edit_name edit → named_edit names (numbered_edit vcpu edit good) ≡ edit
own_edit names (sets name share latency) good vcpu at = ap (λ n. sets n share latency) at
own_edit names (leaves name) good vcpu at = ap leaves at

-- one edit more is of a vCPU too, or its name is unknown
own_more : (names : List (List ℕ)) (edit : NamedEdit) (named : List NamedEdit) → IsGoodNamedEdit edit
    → Found names (edit_name edit) → AreOwn names named ⊎ HasUnknownEdit names named
    → AreOwn names (edit ∷ named) ⊎ HasUnknownEdit names (edit ∷ named)
own_more names edit named good (Unknown none) rest = inr (inl none)
own_more names edit named good (Known vcpu low at) (inr unknown) = inr (inr unknown)
own_more names edit named good (Known vcpu low at) (inl rest) = inl (record {
  edits = numbered_edit vcpu edit good ∷ rest.edits;
  same = ap (λ e. e ∷ map (named_edit names) rest.edits) (own_edit names edit good vcpu at)
      ∙ ap (λ es. edit ∷ es) rest.same;
  within = All-cons (λ e. vcpu_of e < length names) (numbered_edit vcpu edit good) rest.edits
      (rw (numbered_vcpu vcpu edit good) low) rest.within;
})

-- edits are of vCPUs of the host, or one has an unknown name
own_edits : (names : List (List ℕ)) (named : List NamedEdit) → All IsGoodNamedEdit named
    → AreOwn names named ⊎ HasUnknownEdit names named
own_edits names [] good = inl (record { edits = []; same = refl; within = λ k d low. absurd (omega arith) })
own_edits names (edit ∷ named) good =
    own_more names edit named (All-head IsGoodNamedEdit edit named good) (look_up names (edit_name edit))
    (own_edits names named (All-tail IsGoodNamedEdit edit named good))

-- what happens as a line has it, of vCPUs of the host
record IsOwn (names : List (List ℕ)) (named : NamedAct) : Type 0 where
  act : Act
  same : named_act names act ≡ named
  within : IsActWithin (length names) act

-- what happens to the vCPU of a name, which may be unknown
own_one : (names : List (List ℕ)) (name : List ℕ) (says : List ℕ → NamedAct) (act_of : ℕ → Act)
    → ((vcpu : ℕ) → named_act names (act_of vcpu) ≡ says (name_at names vcpu))
    → ((vcpu : ℕ) → vcpu < length names → IsActWithin (length names) (act_of vcpu))
    → Found names name → IsOwn names (says name) ⊎ IsUnknown names name
own_one names name says act_of written within (Unknown none) = inr none
own_one names name says act_of written within (Known vcpu low at) =
    inl (record { act = act_of vcpu; same = written vcpu ∙ ap says at; within = within vcpu low })

-- edits of vCPUs are a change of them
own_change : (names : List (List ℕ)) (named : List NamedEdit)
    → AreOwn names named ⊎ HasUnknownEdit names named
    → IsOwn names (changes named) ⊎ HasUnknownEdit names named
own_change names named (inr unknown) = inr unknown
own_change names named (inl own) =
    inl (record { act = Change own.edits; same = ap changes own.same; within = own.within })

-- what happens is of vCPUs of the host, or a name of it is unknown
own_act : (names : List (List ℕ)) (named : NamedAct) → IsGoodNamedAct named
    → IsOwn names named ⊎ HasUnknown names named
own_act names (wakes name) good =
    own_one names name wakes Wake (λ vcpu. refl) (λ vcpu low. low) (look_up names name)
own_act names (blocks name) good =
    own_one names name blocks Block (λ vcpu. refl) (λ vcpu low. low) (look_up names name)
own_act names (bursts name work) good =
    own_one names name (λ n. bursts n work) (λ vcpu. Burst vcpu work) (λ vcpu. refl) (λ vcpu low. low)
    (look_up names name)
own_act names (changes named) good = own_change names named (own_edits names named good.1)

-- a line that is no event of the host has an unknown name
unknown_in : (names words : List (List ℕ)) (tick : ℕ) (act : NamedAct) → IsNamedLine words tick act
    → ((own : Event) → IsEvent names words own → ⊥) → IsOwn names act ⊎ HasUnknown names act
    → IsUnknownNamedLine names words
unknown_in names words tick act line none (inr unknown) =
    record { tick = tick; act = act; line = line; unknown = unknown }
unknown_in names words tick act line none (inl own) =
    absurd (none (record { tick = tick; act = own.act }) (of_named names words _ (record {
      line = subst (λ a. IsNamedLine words tick a) (sym own.same) line;
      within = own.within;
    })))

-- a line that is one for other names alone is read with an unknown name
pub unknown_named_line : (names words : List (List ℕ)) → IsUnknownLine names words
    → IsUnknownNamedLine names words
unknown_named_line names words is =
    let read = as_named is.others words is.event is.line in
    unknown_in names words is.event.tick (named_act is.others is.event.act) read.line is.unknown
    (own_act names (named_act is.others is.event.act) read.line.good)

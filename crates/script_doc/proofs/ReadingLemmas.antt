-- The edits of a line, read one after the other, and what a line of an unknown name says.
use Rattle.std.proofs.Common.{◌≡◌, ℕ, suc, ◌<◌, Bool, true, false, List, [], ◌∷◌, ◌++◌, length, map, flat_map, codes, decimal, ◌≤◌, Some, None, Result, Ok, Err, inl, inr, refl, sym, ap, ◌∙◌, append_assoc, arith}
use Rattle.std.proofs.lemmas.Grind.{flat_map-append}
use Rattle.std.proofs.lemmas.List.{append-nil, length-map, map-append}
use Rattle.std.proofs.lemmas.List.Elements.{All-append}
use Rattle.std.specs.List.{All}
use Rattle.tab_core.specs.declared.edit.Edit.{Edit}
use Rattle.std.specs.Result.{IsErrAnd, IsErrOf}
use Rattle.tab_core.specs.Name.{IsName}
use Rattle.tab_core.specs.declared.TheConstants.{MAX_LATENCY_NS, WHOLE_PPM}
use Rattle.script_doc.specs.declared.event.TheConstants.{MAX_WORK}
use Rattle.script_doc.specs.declared.event_reader.LineFault.{LineFault}
use Rattle.tab_core.specs.Edits.{AreEditsOf, vcpu_of}
use Rattle.tab_core.proofs.Lists.{only_one}
use Rattle.tab_words.proofs.CommandLemmas.{other_word}
use Rattle.script_doc.specs.Inside.NamedLines.{blocks, bursts, changes, edit_name, HasUnknownEdit, IsGoodNamedEdit, leaves, named_edit, named_edit_words, NamedEdit, sets, wakes}
use Rattle.vcpu_names.specs.Names.{IsUnknown}
use Rattle.script_doc.specs.Inside.Reading.{AreEdits, AreNoEdits, AreUnknownEdits, IsEdit, IsNoEdit, IsUnknownAct, IsUnknownName}

-- the words are no list of edits
abbrev NoEdits : List (List ℕ) → Type 0
NoEdits words = (edits : List NamedEdit) → All IsGoodNamedEdit edits → words ≡ flat_map named_edit_words edits → ⊥

-- where no edits follow an edit, the words from it on are none either
after_edit : (edit : NamedEdit) (words rest : List (List ℕ)) → words ≡ named_edit_words edit ++ rest
    → NoEdits rest → NoEdits words
after_edit (sets n s l) words rest is none [] good same = absurd (cc)
after_edit (leaves n) words rest is none [] good same = absurd (cc)
after_edit (sets n s l) words rest is none (sets m t k ∷ edits) good same =
    none edits (λ i d low. good (suc i) d (omega arith)) (cc)
after_edit (leaves n) words rest is none (leaves m ∷ edits) good same =
    none edits (λ i d low. good (suc i) d (omega arith)) (cc)
after_edit (sets n s l) words rest is none (leaves m ∷ edits) good same =
    other_word _ _ refl (sym is ∙ same)
after_edit (leaves n) words rest is none (sets m t k ∷ edits) good same =
    other_word _ _ refl (sym is ∙ same)

-- the words before the rest are edits, all of known names or not
pub record EditsSoFar (names : List (List ℕ)) (words rest : List (List ℕ)) (edits : List Edit)
    (all_known : Bool) : Type 0 where
  pub named : List NamedEdit
  pub written : words ≡ flat_map named_edit_words named ++ rest
  pub good : All IsGoodNamedEdit named
  pub within : AreEditsOf (length names) edits
  pub known : all_known ≡ true → named ≡ map (named_edit names) edits
  pub unknown : all_known ≡ false → HasUnknownEdit names named
  pub back : NoEdits rest → NoEdits words

-- before the first edit
pub no_edits_yet : (names words : List (List ℕ)) → EditsSoFar names words words [] true
no_edits_yet names words = record {
  named = [];
  written = refl;
  good = λ k d low. absurd (omega arith);
  within = λ k d low. absurd (omega arith);
  known = λ _. refl;
  unknown = λ other. absurd (cc);
  back = λ none. none;
}

-- an unknown name stays one when more edits follow
still_unknown : (names : List (List ℕ)) (edits more : List NamedEdit) → HasUnknownEdit names edits
    → HasUnknownEdit names (edits ++ more)
still_unknown names [] more has = absurd has
still_unknown names (edit ∷ edits) more has =
    elim has [ inl first ↦ inl first | inr later ↦ inr (still_unknown names edits more later) ]

-- the last edit's name is unknown, so the list has an unknown one
last_unknown : (names : List (List ℕ)) (edits : List NamedEdit) (edit : NamedEdit)
    → IsUnknown names (edit_name edit)
    → HasUnknownEdit names (edits ++ edit ∷ [])
last_unknown names [] edit is = inl is
last_unknown names (first ∷ edits) edit is = inr (last_unknown names edits edit is)

-- the words up to after one more edit
written_more : (words rest after : List (List ℕ)) (named : List NamedEdit) (edit : NamedEdit)
    → words ≡ flat_map named_edit_words named ++ rest → rest ≡ named_edit_words edit ++ after
    → words ≡ flat_map named_edit_words (named ++ edit ∷ []) ++ after
written_more words rest after named edit written is =
    written
    ∙ (ap (λ ws. flat_map named_edit_words named ++ ws) is
    ∙ (sym (append_assoc (flat_map named_edit_words named) (named_edit_words edit) after)
    ∙ ap (λ ws. ws ++ after) (ap (λ ws. flat_map named_edit_words named ++ ws)
    (sym (append-nil (named_edit_words edit))) ∙ sym (flat_map-append named_edit_words named (edit ∷ [])))))

-- one more edit
pub edit_more : (names words rest after : List (List ℕ)) (edits : List Edit) (edit : Edit) (all_known : Bool)
    → EditsSoFar names words rest edits all_known → IsEdit names rest after (Some edit)
    → EditsSoFar names words after (edits ++ edit ∷ []) all_known
edit_more names words rest after edits edit all_known so_far is = record {
  named = so_far.named ++ is.named ∷ [];
  written = written_more words rest after so_far.named is.named so_far.written is.written;
  good = All-append IsGoodNamedEdit so_far.named (is.named ∷ []) so_far.good (only_one IsGoodNamedEdit is.named is.good);
  within =
      All-append (λ (edit : Edit). vcpu_of edit < length names) edits (edit ∷ []) so_far.within
      (only_one (λ (edit : Edit). vcpu_of edit < length names) edit is.meaning.1);
  known = λ known.
      ap (λ ns. ns ++ is.named ∷ []) (so_far.known known)
      ∙ (ap (λ (n : NamedEdit). map (named_edit names) edits ++ n ∷ []) is.meaning.0
      ∙ sym (map-append (named_edit names) edits (edit ∷ [])));
  unknown = λ other. still_unknown names so_far.named (is.named ∷ []) (so_far.unknown other);
  back = λ none. so_far.back (after_edit is.named rest after is.written none);
}

-- one more edit, of an unknown name
pub edit_unknown : (names words rest after : List (List ℕ)) (edits : List Edit) (all_known : Bool)
    → EditsSoFar names words rest edits all_known → IsEdit names rest after None
    → EditsSoFar names words after edits false
edit_unknown names words rest after edits all_known so_far is = record {
  named = so_far.named ++ is.named ∷ [];
  written = written_more words rest after so_far.named is.named so_far.written is.written;
  good = All-append IsGoodNamedEdit so_far.named (is.named ∷ []) so_far.good (only_one IsGoodNamedEdit is.named is.good);
  within = so_far.within;
  known = λ known. absurd (cc);
  unknown = λ _. last_unknown names so_far.named is.named is.meaning;
  back = λ none. so_far.back (after_edit is.named rest after is.written none);
}

-- where no edit begins, there are no edits
not_empty : (kind : List ℕ) (words : List (List ℕ)) → IsNoEdit (kind ∷ words) → NoEdits (kind ∷ words)
not_empty kind words none [] good same = cc
not_empty kind words none (edit ∷ edits) good same =
    none edit (flat_map named_edit_words edits) (good 0 edit (omega arith)) same

-- what follows is no edit
pub no_edit : (names words : List (List ℕ)) (kind : List ℕ) (rest : List (List ℕ))
    (edits : List Edit) (all_known : Bool)
    → EditsSoFar names words (kind ∷ rest) edits all_known → IsNoEdit (kind ∷ rest) → AreNoEdits words
no_edit names words kind rest edits all_known so_far none =
    λ es some good same. so_far.back (not_empty kind rest none) es good same

-- no words are no change, which has one edit at least
none_of_none : (words : List (List ℕ)) → words ≡ [] → AreNoEdits words
none_of_none words is [] some good same = omega arith
none_of_none words is (sets n s l ∷ edits) some good same = cc
none_of_none words is (leaves n ∷ edits) some good same = cc

-- at the end nothing is left after the edits
whole : (words : List (List ℕ)) (named : List NamedEdit) → words ≡ flat_map named_edit_words named ++ []
    → words ≡ flat_map named_edit_words named
whole words named written = written ∙ append-nil (flat_map named_edit_words named)

-- at the end without an edit the words are no change
pub no_edit_at_all : (names words : List (List ℕ)) (edits : List Edit) (all_known : Bool)
    → EditsSoFar names words [] edits all_known → all_known ≡ true → length edits ≡ 0 → AreNoEdits words
no_edit_at_all names words [] all_known so_far known none =
    none_of_none words (whole words so_far.named so_far.written
    ∙ ap (λ ns. flat_map named_edit_words ns) (so_far.known known))
no_edit_at_all names words (edit ∷ edits) all_known so_far known none = absurd (omega arith)

-- at the end all names known, the words are the edits
pub all_edits : (names words : List (List ℕ)) (edits : List Edit) (all_known : Bool)
    → EditsSoFar names words [] edits all_known → all_known ≡ true → 0 < length edits
    → AreEdits names words edits
all_edits names words edits all_known so_far known some =
    let same = so_far.known known in
    record {
      written = whole words so_far.named so_far.written ∙ ap (λ ns. flat_map named_edit_words ns) same;
      some = rw length-map some;
      good = rw (← same) so_far.good;
      within = so_far.within;
    }

-- a list with an unknown name has an edit
unknown_some : (names : List (List ℕ)) (edits : List NamedEdit) → HasUnknownEdit names edits
    → 0 < length edits
unknown_some names [] has = absurd has
unknown_some names (edit ∷ edits) has = omega arith

-- at the end with an unknown name, the words are edits of which one is unknown
pub unknown_edits : (names words : List (List ℕ)) (edits : List Edit) (all_known : Bool)
    → EditsSoFar names words [] edits all_known → all_known ≡ false → AreUnknownEdits names words
unknown_edits names words edits all_known so_far unknown = record {
  edits = so_far.named;
  written = whole words so_far.named so_far.written;
  some = unknown_some names so_far.named (so_far.unknown unknown);
  good = so_far.good;
  unknown = so_far.unknown unknown;
}

-- `leave` with an unknown name
pub unknown_leave : (names : List (List ℕ)) (kind name : List ℕ) (words rest : List (List ℕ))
    → kind ≡ codes "leave"
    → words ≡ name ∷ rest → IsName name → IsUnknown names name → IsEdit names (kind ∷ words) rest None
unknown_leave names kind name words rest is next good unknown = record {
  named = leaves name;
  written = cc;
  good = good;
  meaning = unknown;
}

-- `set` with an unknown name
pub unknown_set : (names : List (List ℕ)) (kind name share latency : List ℕ)
    (words after last rest : List (List ℕ)) (ppm ns : ℕ)
    → kind ≡ codes "set" → words ≡ name ∷ after → after ≡ share ∷ last → last ≡ latency ∷ rest
    → share ≡ decimal ppm → latency ≡ decimal ns → 1 ≤ ppm → ppm ≤ WHOLE_PPM → ns ≤ MAX_LATENCY_NS
    → IsName name → IsUnknown names name → IsEdit names (kind ∷ words) rest None
unknown_set names kind name share latency words after last rest ppm ns is next second third
    spelled_share spelled_latency some whole bounded good unknown = record {
      named = sets name ppm ns;
      written = cc;
      good = (good, some, whole, bounded);
      meaning = unknown;
    }

-- `wake` with an unknown name
pub unknown_wake : (names : List (List ℕ)) (kind : List ℕ) (words rest : List (List ℕ)) → kind ≡ codes "wake"
    → words ≡ kind ∷ rest → IsUnknownName names rest → IsUnknownAct names words
unknown_wake names kind words rest is next has =
    let name_is = has.written in
    record { act = wakes has.name; written = cc; good = has.good; unknown = has.unknown }

-- `block` with an unknown name
pub unknown_block : (names : List (List ℕ)) (kind : List ℕ) (words rest : List (List ℕ))
    → kind ≡ codes "block"
    → words ≡ kind ∷ rest → IsUnknownName names rest → IsUnknownAct names words
unknown_block names kind words rest is next has =
    let name_is = has.written in
    record { act = blocks has.name; written = cc; good = has.good; unknown = has.unknown }

-- `change` with an unknown name
pub unknown_change : (names : List (List ℕ)) (kind : List ℕ) (words rest : List (List ℕ))
    → kind ≡ codes "change"
    → words ≡ kind ∷ rest → AreUnknownEdits names rest → IsUnknownAct names words
unknown_change names kind words rest is next has =
    let edits_are = has.written in
    record { act = changes has.edits; written = cc; good = (has.some, has.good); unknown = has.unknown }

-- `burst` with an unknown name
pub unknown_burst : (names : List (List ℕ)) (name spelled : List ℕ) (words after rest : List (List ℕ)) (work : ℕ)
    → words ≡ name ∷ after → after ≡ spelled ∷ rest → rest ≡ [] → spelled ≡ decimal work → 1 ≤ work
    → work ≤ MAX_WORK → IsName name → IsUnknown names name → IsUnknownAct names (codes "burst" ∷ words)
unknown_burst names name spelled words after rest work next second last is some bounded good unknown =
    record { act = bursts name work; written = cc; good = (good, some, bounded); unknown = unknown }

-- the fault that a `?` hands on
pub handed_on : {T U : Type 0} (result : Result T LineFault) (fault other : LineFault)
    → IsErrAnd result (λ given. given ≡ fault)
    → result ≡ Err other → IsErrOf {T = U} (Err fault) other
handed_on (Ok value) fault other gives is = absurd (cc)
handed_on (Err given) fault other gives is = let same : given ≡ fault = gives in cc

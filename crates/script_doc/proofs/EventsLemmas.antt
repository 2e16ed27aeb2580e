-- A line states one event at most, and none where a name of it is no vCPU's. The grammar of lines as they are read
-- states the same events.
use Rattle.std.proofs.Common.{◌≡◌, inl, inr, ℕ, zero, suc, ◌<◌, ◌≤◌, List, [], ◌∷◌, ◌++◌, length, codes, decimal, flat_map, map, Some, slice_get, refl, sym, ap, ◌∙◌, arith}
use Rattle.std.proofs.lemmas.Fmt.{decimal_injective}
use Rattle.std.proofs.lemmas.List.{length-map}
use Rattle.std.proofs.lemmas.List.Elements.{All-cons, All-head, All-tail}
use Rattle.std.specs.List.{All}
use Rattle.tab_core.specs.Name.{IsName}
use Rattle.tab_core.proofs.Alike.{same_reservation}
use Rattle.tab_core.specs.Edits.{AreEditsOf, vcpu_of}
use Rattle.tab_core.specs.Vcpus.{HaveDistinctNames}
use Rattle.tab_core.specs.declared.edit.Edit.{Edit}
use Rattle.tab_core.specs.declared.edit.Edit.TheVariants.{Set, Leave}
use Rattle.tab_core.specs.declared.vcpu.Vcpu.{Vcpu}
use Rattle.tab_words.proofs.CommandLemmas.{other_word}
use Rattle.vcpu_names.specs.Names.{IsUnknown, name_at, names_of}
use Rattle.script_doc.specs.declared.event.TheConstants.{MAX_WORK}
use Rattle.script_doc.specs.Events.{IsActWithin, IsEvent, IsGoodAct, IsNamed, IsNoLine, act_words, edit_words}
use Rattle.script_doc.specs.Inside.NamedLines.{blocks, bursts, changes, HasUnknown, HasUnknownEdit, IsGoodNamedAct, IsGoodNamedEdit, IsNamedEvent, IsNoNamedLine, IsUnknownNamedLine, leaves, named_act, named_act_words, named_edit, named_edit_words, NamedAct, NamedEdit, sets, wakes}
use Rattle.script_doc.specs.declared.event.Act.{Act}
use Rattle.script_doc.specs.declared.event.Act.TheVariants.{Wake, Block, Change, Burst}
use Rattle.script_doc.specs.declared.event.Event.{Event}

-- ---- names

-- names by which vCPUs are distinguished
pub record AreDistinct (names : List (List ℕ)) : Type 0 where
  pub one : (v w : ℕ) → v < length names → w < length names → name_at names v ≡ name_at names w → v ≡ w

-- a vCPU's name is at its number among the host's names
name_here : (vcpus : List Vcpu) (v : ℕ) (vcpu : Vcpu) → slice_get vcpus v ≡ Some vcpu
    → name_at (names_of vcpus) v ≡ vcpu.name
name_here [] v vcpu at = absurd cc
name_here (first ∷ vcpus) zero vcpu at =
    let same : first ≡ vcpu = cc in ap (λ (v : Vcpu). v.name) same
name_here (first ∷ vcpus) (suc v) vcpu at = name_here vcpus v vcpu at

-- each number below the count is a vCPU's
some_at : (vcpus : List Vcpu) (v : ℕ) → v < length vcpus → (vcpu : Vcpu) × (slice_get vcpus v ≡ Some vcpu)
some_at [] v low = absurd (omega arith)
some_at (vcpu ∷ vcpus) zero low = (vcpu, refl)
some_at (vcpu ∷ vcpus) (suc v) low = some_at vcpus v (omega arith)

-- the names of a host are such, since no two of its vCPUs have one name
pub distinct_names : (vcpus : List Vcpu) → HaveDistinctNames vcpus → AreDistinct (names_of vcpus)
distinct_names vcpus distinct = record {
  one = λ v w low_v low_w same.
      let size = length-map vcpus (λ (vcpu : Vcpu). vcpu.name) in
      let a = some_at vcpus v (omega arith) in
      let b = some_at vcpus w (omega arith) in
      distinct v w a.0 b.0 a.1 b.1 (sym (name_here vcpus v a.0 a.1) ∙ same ∙ name_here vcpus w b.0 b.1);
}

-- ---- no unknown name

-- a vCPU's name is not unknown
known_name : (names : List (List ℕ)) (name : List ℕ) (vcpu : ℕ) → IsUnknown names name
    → vcpu < length names → name ≡ name_at names vcpu → ⊥
known_name names name vcpu unknown within same = unknown vcpu within (sym same)

-- edits of vCPUs are not written as edits with an unknown name
known_edits : (names : List (List ℕ)) (named : List NamedEdit) (edits : List Edit)
    → HasUnknownEdit names named → AreEditsOf (length names) edits
    → flat_map named_edit_words named ≡ flat_map named_edit_words (map (named_edit names) edits) → ⊥
known_edits names [] edits unknown within same = unknown
known_edits names (sets n s l ∷ named) [] unknown within same = absurd (cc)
known_edits names (leaves n ∷ named) [] unknown within same = absurd (cc)
known_edits names (sets n s l ∷ named) (Leave v ∷ edits) unknown within same = other_word _ _ refl same
known_edits names (leaves n ∷ named) (Set v r ∷ edits) unknown within same = other_word _ _ refl same
known_edits names (sets n s l ∷ named) (Set v r ∷ edits) (inl unknown) within same =
    let name : n ≡ name_at names v = cc in
    known_name names n v unknown (All-head (λ (e : Edit). vcpu_of e < length names)
    (Set v r) edits within) name
known_edits names (sets n s l ∷ named) (Set v r ∷ edits) (inr unknown) within same =
    let rest : flat_map named_edit_words named ≡ flat_map named_edit_words (map (named_edit names) edits) = cc in
    known_edits names named edits unknown
    (All-tail (λ (e : Edit). vcpu_of e < length names) (Set v r) edits within) rest
known_edits names (leaves n ∷ named) (Leave v ∷ edits) (inl unknown) within same =
    let name : n ≡ name_at names v = cc in
    known_name names n v unknown (All-head (λ (e : Edit). vcpu_of e < length names)
    (Leave v) edits within) name
known_edits names (leaves n ∷ named) (Leave v ∷ edits) (inr unknown) within same =
    let rest : flat_map named_edit_words named ≡ flat_map named_edit_words (map (named_edit names) edits) = cc in
    known_edits names named edits unknown
    (All-tail (λ (e : Edit). vcpu_of e < length names) (Leave v) edits within) rest

-- an act of known vCPUs isn't written with an unknown name
known_act : (names : List (List ℕ)) (named : NamedAct) (act : Act) → HasUnknown names named
    → IsActWithin (length names) act → named_act_words named ≡ named_act_words (named_act names act) → ⊥
known_act names (wakes n) (Wake v) unknown within same =
    (let name : n ≡ name_at names v = cc in known_name names n v unknown within name)
known_act names (wakes n) (Block v) unknown within same = other_word _ _ refl same
known_act names (wakes n) (Change edits) unknown within same = other_word _ _ refl same
known_act names (wakes n) (Burst v w) unknown within same = other_word _ _ refl same
known_act names (blocks n) (Wake v) unknown within same = other_word _ _ refl same
known_act names (blocks n) (Block v) unknown within same =
    (let name : n ≡ name_at names v = cc in known_name names n v unknown within name)
known_act names (blocks n) (Change edits) unknown within same = other_word _ _ refl same
known_act names (blocks n) (Burst v w) unknown within same = other_word _ _ refl same
known_act names (changes named) (Wake v) unknown within same = other_word _ _ refl same
known_act names (changes named) (Block v) unknown within same = other_word _ _ refl same
known_act names (changes named) (Burst v w) unknown within same = other_word _ _ refl same
known_act names (changes named) (Change edits) unknown within same =
    let rest : flat_map named_edit_words named ≡ flat_map named_edit_words (map (named_edit names) edits) = cc in
    known_edits names named edits unknown within rest
known_act names (bursts n u) (Wake v) unknown within same = other_word _ _ refl same
known_act names (bursts n u) (Block v) unknown within same = other_word _ _ refl same
known_act names (bursts n u) (Change edits) unknown within same = other_word _ _ refl same
known_act names (bursts n u) (Burst v w) unknown within same =
    (let name : n ≡ name_at names v = cc in known_name names n v unknown within name)

-- a line of an unknown name states no event
pub known_line : (names words : List (List ℕ)) (event : Event) → IsUnknownNamedLine names words
    → IsNamedEvent names words event → ⊥
known_line names words event unknown is =
    let written = unknown.line.written in
    let other = is.line.written in
    let same : named_act_words unknown.act ≡ named_act_words (named_act names event.act) = cc in
    known_act names unknown.act event.act unknown.unknown is.within same

-- ---- the two forms of an event

-- edits are written alike in both forms
both_edits : (names : List (List ℕ)) (edits : List Edit)
    → flat_map (edit_words names) edits ≡ flat_map named_edit_words (map (named_edit names) edits)
both_edits names [] = refl
both_edits names (Set v r ∷ edits) = ap (λ ws. edit_words names (Set v r) ++ ws) (both_edits names edits)
both_edits names (Leave v ∷ edits) = ap (λ ws. edit_words names (Leave v) ++ ws) (both_edits names edits)

-- what happens is written alike in both forms
both_acts : (names : List (List ℕ)) (act : Act) → act_words names act ≡ named_act_words (named_act names act)
both_acts names (Wake v) = refl
both_acts names (Block v) = refl
both_acts names (Change edits) = ap (λ ws. codes "change" ∷ ws) (both_edits names edits)
both_acts names (Burst v work) = refl

-- an edit of a vCPU with a name is good
good_edit : (names : List (List ℕ)) (edit : Edit) → IsNamed names (vcpu_of edit)
    → IsGoodNamedEdit (named_edit names edit)
good_edit names (Set v r) named = (named.1, r.shares, r.whole, r.bounded)
good_edit names (Leave v) named = named.1

-- edits of vCPUs with names are good
good_edits : (names : List (List ℕ)) (edits : List Edit) → All (λ edit. IsNamed names (vcpu_of edit)) edits
    → All IsGoodNamedEdit (map (named_edit names) edits)
good_edits names [] named = λ k d low. absurd (omega arith)
good_edits names (edit ∷ edits) named =
    let P : Edit → Type 0 = λ e. IsNamed names (vcpu_of e) in
    All-cons IsGoodNamedEdit (named_edit names edit) (map (named_edit names) edits)
    (good_edit names edit (All-head P edit edits named)) (good_edits names edits (All-tail P edit edits named))

-- the name of a good edit has the form of names
good_name : (names : List (List ℕ)) (edit : Edit) → IsGoodNamedEdit (named_edit names edit)
    → IsName (name_at names (vcpu_of edit))
good_name names (Set v r) good = good.0
good_name names (Leave v) good = good

-- good edits of vCPUs are of vCPUs with names
named_edits : (names : List (List ℕ)) (edits : List Edit) → All IsGoodNamedEdit (map (named_edit names) edits)
    → AreEditsOf (length names) edits → All (λ edit. IsNamed names (vcpu_of edit)) edits
named_edits names [] good within = λ k d low. absurd (omega arith)
named_edits names (edit ∷ edits) good within =
    let P : Edit → Type 0 = λ e. vcpu_of e < length names in
    let more = map (named_edit names) edits in
    All-cons (λ e. IsNamed names (vcpu_of e)) edit edits (
      All-head P edit edits within,
      good_name names edit (All-head IsGoodNamedEdit (named_edit names edit) more good),
    )
    (named_edits names edits (All-tail IsGoodNamedEdit (named_edit names edit) more good)
    (All-tail P edit edits within))

-- good acts are good in the form that is read
good_act : (names : List (List ℕ)) (act : Act) → IsGoodAct names act
    → IsGoodNamedAct (named_act names act) × IsActWithin (length names) act
good_act names (Wake v) good = (good.1, good.0)
good_act names (Block v) good = (good.1, good.0)
good_act names (Change edits) good = (
  (
    (let some = good.0 in let size = length-map edits (named_edit names) in omega (arith, some, size)),
    good_edits names edits good.1,
  ),
  λ k d low. (good.1 k d low).0,
)
good_act names (Burst v work) good = ((good.0.1, good.1, good.2), good.0.0)

-- acts that are good in the form that is read are good
named_good : (names : List (List ℕ)) (act : Act) → IsGoodNamedAct (named_act names act)
    → IsActWithin (length names) act → IsGoodAct names act
named_good names (Wake v) good within = (within, good)
named_good names (Block v) good within = (within, good)
named_good names (Change edits) good within = (
  (let some = good.0 in let size = length-map edits (named_edit names) in omega (arith, some, size)),
  named_edits names edits good.1 within,
)
named_good names (Burst v work) good within = ((within, good.0), good.1, good.2)

-- an event is one as it is read
pub as_named : (names words : List (List ℕ)) (event : Event) → IsEvent names words event
    → IsNamedEvent names words event
as_named names words event is =
    let good = good_act names event.act is.good in
    record {
      line = record {
        written = is.written ∙ ap (λ ws. decimal event.tick ∷ ws) (both_acts names event.act);
        short = is.short;
        good = good.0;
      };
      within = good.1;
    }

-- what is read as an event is one
pub of_named : (names words : List (List ℕ)) (event : Event) → IsNamedEvent names words event
    → IsEvent names words event
of_named names words event is = record {
  written = is.line.written ∙ ap (λ ws. decimal event.tick ∷ ws) (sym (both_acts names event.act));
  short = is.line.short;
  good = named_good names event.act is.line.good is.within;
}

-- ---- one event

-- lists of edits that are written alike are one
one_edits : (names : List (List ℕ)) (us ws : List Edit) → AreDistinct names
    → AreEditsOf (length names) us → AreEditsOf (length names) ws
    → flat_map named_edit_words (map (named_edit names) us) ≡ flat_map named_edit_words (map (named_edit names) ws)
    → us ≡ ws
one_edits names [] [] distinct within also same = refl
one_edits names [] (Set w s ∷ ws) distinct within also same = absurd (cc)
one_edits names [] (Leave w ∷ ws) distinct within also same = absurd (cc)
one_edits names (Set v r ∷ us) [] distinct within also same = absurd (cc)
one_edits names (Leave v ∷ us) [] distinct within also same = absurd (cc)
one_edits names (Set v r ∷ us) (Leave w ∷ ws) distinct within also same = absurd (other_word _ _ refl same)
one_edits names (Leave v ∷ us) (Set w s ∷ ws) distinct within also same = absurd (other_word _ _ refl same)
one_edits names (Set v r ∷ us) (Set w s ∷ ws) distinct within also same =
    let P : Edit → Type 0 = λ (e : Edit). vcpu_of e < length names in
    let name : name_at names v ≡ name_at names w = cc in
    let shares : decimal r.share_ppm ≡ decimal s.share_ppm = cc in
    let latencies : decimal r.latency_ns ≡ decimal s.latency_ns = cc in
    let rest : flat_map named_edit_words (map (named_edit names) us)
    ≡ flat_map named_edit_words (map (named_edit names) ws) = cc in
    let vcpu : v ≡ w = distinct.one v w (All-head P (Set v r) us within) (All-head P (Set w s) ws also) name in
    let share : r.share_ppm ≡ s.share_ppm =
    decimal_injective r.share_ppm s.share_ppm (omega arith) (omega arith) shares in
    let latency : r.latency_ns ≡ s.latency_ns =
    decimal_injective r.latency_ns s.latency_ns (omega arith) (omega arith) latencies in
    let reservation : r ≡ s = same_reservation r s share latency in
    let more : us ≡ ws =
    one_edits names us ws distinct (All-tail P (Set v r) us within) (All-tail P (Set w s) ws also) rest in
    cc
one_edits names (Leave v ∷ us) (Leave w ∷ ws) distinct within also same =
    let P : Edit → Type 0 = λ (e : Edit). vcpu_of e < length names in
    let name : name_at names v ≡ name_at names w = cc in
    let rest : flat_map named_edit_words (map (named_edit names) us)
    ≡ flat_map named_edit_words (map (named_edit names) ws) = cc in
    let vcpu : v ≡ w = distinct.one v w (All-head P (Leave v) us within) (All-head P (Leave w) ws also) name in
    let more : us ≡ ws =
    one_edits names us ws distinct (All-tail P (Leave v) us within) (All-tail P (Leave w) ws also) rest in
    cc

-- what is written alike is one
one_act : (names : List (List ℕ)) (a b : Act) → AreDistinct names → IsActWithin (length names) a
    → IsActWithin (length names) b → IsGoodNamedAct (named_act names a) → IsGoodNamedAct (named_act names b)
    → named_act_words (named_act names a) ≡ named_act_words (named_act names b) → a ≡ b
one_act names (Wake v) (Wake w) distinct within also good fine same =
    (let name : name_at names v ≡ name_at names w = cc in ap Wake (distinct.one v w within also name))
one_act names (Block v) (Block w) distinct within also good fine same =
    (let name : name_at names v ≡ name_at names w = cc in ap Block (distinct.one v w within also name))
one_act names (Change us) (Change ws) distinct within also good fine same =
    let rest : flat_map named_edit_words (map (named_edit names) us)
    ≡ flat_map named_edit_words (map (named_edit names) ws) = cc in
    ap Change (one_edits names us ws distinct within also rest)
one_act names (Burst v a) (Burst w b) distinct within also good fine same =
    let name : name_at names v ≡ name_at names w = cc in
    let works : decimal a ≡ decimal b = cc in
    let vcpu : v ≡ w = distinct.one v w within also name in
    let low : a ≤ MAX_WORK = good.2 in
    let bounded : b ≤ MAX_WORK = fine.2 in
    let work : a ≡ b = decimal_injective a b (omega arith) (omega arith) works in
    cc
one_act names (Wake v) (Block w) distinct within also good fine same = absurd (other_word _ _ refl same)
one_act names (Wake v) (Change ws) distinct within also good fine same = absurd (other_word _ _ refl same)
one_act names (Wake v) (Burst w b) distinct within also good fine same = absurd (other_word _ _ refl same)
one_act names (Block v) (Wake w) distinct within also good fine same = absurd (other_word _ _ refl same)
one_act names (Block v) (Change ws) distinct within also good fine same = absurd (other_word _ _ refl same)
one_act names (Block v) (Burst w b) distinct within also good fine same = absurd (other_word _ _ refl same)
one_act names (Change us) (Wake w) distinct within also good fine same = absurd (other_word _ _ refl same)
one_act names (Change us) (Block w) distinct within also good fine same = absurd (other_word _ _ refl same)
one_act names (Change us) (Burst w b) distinct within also good fine same = absurd (other_word _ _ refl same)
one_act names (Burst v a) (Wake w) distinct within also good fine same = absurd (other_word _ _ refl same)
one_act names (Burst v a) (Block w) distinct within also good fine same = absurd (other_word _ _ refl same)
one_act names (Burst v a) (Change ws) distinct within also good fine same = absurd (other_word _ _ refl same)

-- an event is its tick and what happens
same_event : (a b : Event) → a.tick ≡ b.tick → a.act ≡ b.act → a ≡ b
same_event a b tick act =
    let event_of : ℕ → Act → Event = λ t x. record { tick = t; act = x } in
    ap (λ t. event_of t a.act) tick ∙ ap (λ x. event_of b.tick x) act

-- a line states one event at most
pub one_event : (names words : List (List ℕ)) (a b : Event) → AreDistinct names → IsEvent names words a
    → IsEvent names words b → a ≡ b
one_event names words a b distinct is also =
    let of_a = as_named names words a is in
    let of_b = as_named names words b also in
    let written = of_a.line.written in
    let other = of_b.line.written in
    let first : decimal a.tick ≡ decimal b.tick = cc in
    let rest : named_act_words (named_act names a.act) ≡ named_act_words (named_act names b.act) = cc in
    same_event a b
    (decimal_injective a.tick b.tick (let short = of_a.line.short in omega arith)
    (let short = of_b.line.short in omega arith) first)
    (one_act names a.act b.act distinct of_a.within of_b.within of_a.line.good of_b.line.good rest)

-- ---- lines as they are read

-- a line that is read as no event states none
pub no_line : (words : List (List ℕ)) → IsNoNamedLine words → IsNoLine words
no_line words none names event is = none event.tick (named_act names event.act) (as_named names words event is).line

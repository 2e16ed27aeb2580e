-- What was read, one line more.
use Rattle.std.proofs.Common.{◌≡◌, ℕ, ◌+◌, ◌<◌, Bool, true, false, if◌then◌else◌, nat_lt, List, [], ◌∷◌, ◌++◌, flat_map, length, length-append, map, ◌⊎◌, Option, Some, None, zero, suc, refl, sym, ap, ◌∙◌, subst, append_assoc, append-nil, arith}
use Rattle.std.proofs.lemmas.Grind.{common_steps, flat_map-append}
use Rattle.std.proofs.lemmas.List.{map-append}
use Rattle.std.proofs.lemmas.List.Elements.{All-append, All-tail}
use Rattle.std.specs.List.{All}
use Rattle.tab_core.specs.Name.{IsName}
use Rattle.tab_core.specs.declared.TheConstants.{MAX_VCPUS}
use Rattle.tab_words.specs.Lines.{lines_of}
use Rattle.tab_words.specs.Words.{words_of}
use Rattle.tab_words.specs.Texts.{Line, worded}
use Rattle.vcpu_names.specs.Names.{name_at}
use Rattle.view_doc.specs.Grammar.{Front, IsLed, ends_behind, front_behind, front_of, is_known, may_end, names_behind, place_after_line, start}
use Rattle.view_doc.specs.Inside.Reading.{AreAppended, IsReadView, IsStatementTaken, Reading}
use Rattle.view_doc.specs.Lines.{Holder, nobody, in_slot, in_unused, IsGood, IsGoodHolder, IsGoodOwner, Says, SaysNothing, Told, head, task, core, segment, end, cut, entry, stint, posted, report, item, done, told_words}
use Rattle.view_doc.specs.Texts.{IsFirstBad, IsMisplaced, LinesSay}
use Rattle.view_doc.specs.Views.{IsViewOf, cores_after, cores_behind, entries_in, holder_named, slots_from, slots_in, stretch_told, tasks_in, told_stints}
use Rattle.view_doc.specs.declared.place.Place.{Place}
use Rattle.view_doc.specs.declared.place.Place.TheVariants.{Start, Tasks, Row, Planned, Running, Reporting, Closed}
use Rattle.view_doc.specs.declared.view.Stretch.{Stretch}
use Rattle.view_doc.specs.declared.view.Use.{Use}
use Rattle.view_doc.specs.declared.view.Use.TheVariants.{Idle, Slot, Shared}
use Rattle.view_doc.specs.declared.view.View.{View}

-- ---- stretches that are appended

-- where nothing is said nothing is appended
pub none_appended : (names : List (List ℕ)) (old : List Stretch) (tolds : List Told) → tolds ≡ []
    → AreAppended names old old tolds
none_appended names old tolds none = record { more = []; appended = sym (append-nil old); told = sym none }

-- one is
pub one_appended : (names : List (List ℕ)) (old new : List Stretch) (s : Stretch) (tolds : List Told)
    → new ≡ old ++ s ∷ [] → tolds ≡ stretch_told names s ∷ [] → AreAppended names old new tolds
one_appended names old new s tolds is told = record { more = s ∷ []; appended = is; told = sym told }

-- ---- prefixes

-- the parts of a prefix that was reached
record AreParts (place : Option Place) (names : Option (List (List ℕ))) (ends : Option (List ℕ))
    (front : Front) : Type 0 where
  on_place : place ≡ Some front.place
  on_names : names ≡ Some front.names
  on_ends : ends ≡ Some front.ends

parts_of : (place : Option Place) (names : Option (List (List ℕ))) (ends : Option (List ℕ)) (front : Front)
    → front_of place names ends ≡ Some front → AreParts place names ends front
parts_of (Some p) (Some n) (Some e) front is = record { on_place = cc; on_names = cc; on_ends = cc }
parts_of (Some p) (Some n) None front is = absurd (cc)
parts_of (Some p) None (Some e) front is = absurd (cc)
parts_of (Some p) None None front is = absurd (cc)
parts_of None (Some n) (Some e) front is = absurd (cc)
parts_of None (Some n) None front is = absurd (cc)
parts_of None None (Some e) front is = absurd (cc)
parts_of None None None front is = absurd (cc)

parts : (front : Front) (told : Told) (next : Front) → front_behind front told ≡ Some next
    → AreParts (place_after_line front.place told) (names_behind front.names told) (ends_behind front.ends told) next
parts front told next is = parts_of (place_after_line front.place told) (names_behind front.names told)
    (ends_behind front.ends told) next is

-- one line more may be after the others
pub led_more : (front : Front) (tolds : List Told) (last : Front) (told : Told) (next : Front)
    → IsLed front tolds last → front_behind last told ≡ Some next → IsLed front (tolds ++ told ∷ []) next
led_more front [] last told next led is =
    (next, subst (λ (f : Front). front_behind f told ≡ Some next) (sym led) is, refl)
led_more front (first ∷ tolds) last told next led is =
    (led.0, led.1, led_more led.0 tolds last told next led.2 is)

-- ---- what the lines say, one line more

cores_more : (cores : ℕ) (tolds : List Told) (told : Told)
    → cores_after cores (tolds ++ told ∷ []) ≡ cores_behind (cores_after cores tolds) told
cores_more cores [] told = refl
cores_more cores (first ∷ tolds) told = cores_more (cores_behind cores first) tolds told

no_slots : (place : Option Place) → slots_from place [] ≡ []
no_slots None = refl
no_slots (Some place) = refl

slots_more : (front : Front) (tolds : List Told) (last : Front) (told : Told) → IsLed front tolds last
    → slots_from (Some front.place) (tolds ++ told ∷ [])
    ≡ slots_from (Some front.place) tolds ++ slots_in last.place told
slots_more front [] last told led =
    ap (λ ts. slots_in front.place told ++ ts) (no_slots (place_after_line front.place told))
    ∙ (append-nil (slots_in front.place told) ∙ ap (λ (f : Front). slots_in f.place told) led)
slots_more front (first ∷ tolds) last told led =
    let place = (parts front first led.0 led.1).on_place in
    ap (λ (p : Option Place). slots_in front.place first ++ slots_from p (tolds ++ told ∷ [])) place
    ∙ (ap (λ ts. slots_in front.place first ++ ts) (slots_more led.0 tolds last told led.2)
    ∙ (sym (append_assoc (slots_in front.place first) (slots_from (Some led.0.place) tolds)
    (slots_in last.place told))
    ∙ ap (λ (p : Option Place). (slots_in front.place first ++ slots_from p tolds) ++ slots_in last.place told)
    (sym place)))

-- ---- names that become more

-- a name's number is below the count of the names
within : (names : List (List ℕ)) (vcpu : ℕ) → IsName (name_at names vcpu) → vcpu < length names
within [] vcpu good = absurd (cc)
within (name ∷ names) zero good = omega arith
within (name ∷ names) (suc vcpu) good = let low = within names vcpu good in omega arith

-- a number stays that name's where more names come
name_stays : (names more : List (List ℕ)) (vcpu : ℕ) → vcpu < length names
    → name_at (names ++ more) vcpu ≡ name_at names vcpu
name_stays names more vcpu low = grind (arith, common_steps)

holder_stays : (names more : List (List ℕ)) (by : Use) → IsGoodHolder (holder_named names by)
    → holder_named (names ++ more) by ≡ holder_named names by
holder_stays names more Idle good = refl
holder_stays names more (Slot vcpu) good = ap in_slot (name_stays names more vcpu (within names vcpu good))
holder_stays names more (Shared vcpu) good = ap in_unused (name_stays names more vcpu (within names vcpu good))

-- the holder of a line of a stint has the form of a name
abbrev HasHolder : Told → Type 0
HasHolder (stint c from to used seen holder) = IsGoodHolder holder
HasHolder _ = Unit {0}

abbrev HaveHolders : List Told → Type 0
HaveHolders [] = Unit {0}
HaveHolders (told ∷ tolds) = HasHolder told × HaveHolders tolds

stretches_stay : (names more : List (List ℕ)) (ss : List Stretch) (tolds : List Told)
    → map (stretch_told names) ss ≡ tolds → HaveHolders tolds → map (stretch_told (names ++ more)) ss ≡ tolds
stretches_stay names more [] [] is have = refl
stretches_stay names more [] (told ∷ tolds) is have = absurd (cc)
stretches_stay names more (s ∷ ss) [] is have = absurd (cc)
stretches_stay names more (s ∷ ss) (told ∷ tolds) is have =
    let first : stretch_told names s ≡ told = cc in
    let rest : map (stretch_told names) ss ≡ tolds = cc in
    let good : IsGoodHolder (holder_named names s.by) = subst HasHolder (sym first) have.0 in
    ap (λ (holder : Holder). stint s.core s.from s.end s.used s.seen holder ∷ map (stretch_told (names ++ more)) ss)
    (holder_stays names more s.by good)
    ∙ (ap (λ t. t ∷ map (stretch_told (names ++ more)) ss) first
    ∙ ap (λ ts. told ∷ ts) (stretches_stay names more ss tolds rest have.1))

-- names only come after the others
record AreMore (names next : List (List ℕ)) : Type 0 where
  more : List (List ℕ)
  is : next ≡ names ++ more

as_before : (names next : List (List ℕ)) → Some names ≡ Some next → AreMore names next
as_before names next is = record { more = []; is = sym (append-nil names ∙ cc) }

added : (names next : List (List ℕ)) (name : List ℕ) (known room : Bool)
    → (if known then Some names else (if room then Some (names ++ name ∷ []) else None)) ≡ Some next
    → AreMore names next
added names next name true room is = as_before names next is
added names next name false true is = record { more = name ∷ []; is = cc }
added names next name false false is = absurd (cc)

fresh : (names next : List (List ℕ)) (name : List ℕ) (known room : Bool)
    → (if known then None
    else (if known then Some names else (if room then Some (names ++ name ∷ []) else None))) ≡ Some next
    → AreMore names next
fresh names next name true room is = absurd (cc)
fresh names next name false room is = added names next name false room is

old_name : (names next : List (List ℕ)) (known : Bool) → (if known then Some names else None) ≡ Some next
    → AreMore names next
old_name names next true is = as_before names next is
old_name names next false is = absurd (cc)

names_more : (names : List (List ℕ)) (told : Told) (next : List (List ℕ))
    → names_behind names told ≡ Some next → AreMore names next
names_more names (task name t n h) next is =
    fresh names next name (is_known names name) (nat_lt (length names) MAX_VCPUS) is
names_more names (segment to nobody) next is = as_before names next is
names_more names (segment to (in_slot name)) next is = old_name names next (is_known names name) is
names_more names (segment to (in_unused name)) next is = as_before names next is
names_more names (stint c f t u v nobody) next is = as_before names next is
names_more names (stint c f t u v (in_slot name)) next is =
    added names next name (is_known names name) (nat_lt (length names) MAX_VCPUS) is
names_more names (stint c f t u v (in_unused name)) next is =
    added names next name (is_known names name) (nat_lt (length names) MAX_VCPUS) is
names_more names (head m k) next is = as_before names next is
names_more names (core c) next is = as_before names next is
names_more names end next is = as_before names next is
names_more names cut next is = as_before names next is
names_more names (entry c r n) next is = as_before names next is
names_more names (posted n) next is = as_before names next is
names_more names (report words) next is = as_before names next is
names_more names (item words) next is = as_before names next is
names_more names done next is = as_before names next is

-- ---- holders of good lines

holder_in : (told : Told) → IsGood told → HaveHolders (told_stints told)
holder_in (stint c f t u v held) good = (good.5, tt)
holder_in (task name t n h) good = tt
holder_in (segment to held) good = tt
holder_in (head m k) good = tt
holder_in (core c) good = tt
holder_in end good = tt
holder_in cut good = tt
holder_in (entry c r n) good = tt
holder_in (posted n) good = tt
holder_in (report words) good = tt
holder_in (item words) good = tt
holder_in done good = tt

owner_good : (held : Holder) → IsGoodOwner held → IsGoodHolder held
owner_good nobody good = tt
owner_good (in_slot name) good = good
owner_good (in_unused name) good = absurd good

slot_held : (place : Place) (told : Told) → IsGood told → HaveHolders (slots_in place told)
slot_held (Row m c from) (segment to held) good = (owner_good held good.1, tt)
slot_held (Row m c from) (stint d f t u v held) good = tt
slot_held (Row m c from) (task name t n h) good = tt
slot_held (Row m c from) (head n k) good = tt
slot_held (Row m c from) (core d) good = tt
slot_held (Row m c from) end good = tt
slot_held (Row m c from) cut good = tt
slot_held (Row m c from) (entry d r n) good = tt
slot_held (Row m c from) (posted n) good = tt
slot_held (Row m c from) (report words) good = tt
slot_held (Row m c from) (item words) good = tt
slot_held (Row m c from) done good = tt
slot_held Start told good = tt
slot_held (Tasks m k) told good = tt
slot_held Planned told good = tt
slot_held Running told good = tt
slot_held Reporting told good = tt
slot_held Closed told good = tt

both_held : (some more : List Told) → HaveHolders some → HaveHolders more → HaveHolders (some ++ more)
both_held [] more have rest = rest
both_held (told ∷ some) more have rest = (have.0, both_held some more have.1 rest)

stints_held : (tolds : List Told) → All IsGood tolds → HaveHolders (flat_map told_stints tolds)
stints_held [] good = tt
stints_held (told ∷ tolds) good = both_held (told_stints told) (flat_map told_stints tolds)
    (holder_in told (good 0 told (omega arith))) (stints_held tolds (All-tail IsGood told tolds good))

slots_held : (place : Option Place) (tolds : List Told) → All IsGood tolds → HaveHolders (slots_from place tolds)
slots_held None tolds good = tt
slots_held (Some place) [] good = tt
slots_held (Some place) (told ∷ tolds) good = both_held (slots_in place told) (slots_from (place_after_line place told) tolds)
    (slot_held place told (good 0 told (omega arith)))
    (slots_held (place_after_line place told) tolds (All-tail IsGood told tolds good))

-- ---- the lines so far

-- what was read is what these lines say
pub record SaysRead (tolds : List Told) (read : Reading) : Type 0 where
  pub cores : read.cores ≡ cores_after 0 tolds
  pub tasks : read.tasks ≡ flat_map tasks_in tolds
  pub slots : map (stretch_told read.front.names) read.slots ≡ slots_from (Some Start) tolds
  pub entries : read.entries ≡ flat_map entries_in tolds
  pub stints : map (stretch_told read.front.names) read.stints ≡ flat_map told_stints tolds

-- so many lines were read, and these are left
pub record AreRead (bytes : List ℕ) (number : ℕ) (read : Reading) (left : List (List ℕ)) : Type 0 where
  pub tolds : List Told
  pub before : List Line
  pub whole : worded bytes ≡ before ++ map words_of left
  pub told : LinesSay before tolds
  pub led : IsLed start tolds read.front
  pub says : SaysRead tolds read
  pub many : length tolds ≡ number
  pub count : number + length left ≡ length (lines_of bytes)

-- one stretch more or none, where the names may have become more
stretches_more : (old next : List (List ℕ)) (ss new : List Stretch) (tolds some all : List Told)
    → AreMore old next → map (stretch_told old) ss ≡ tolds → HaveHolders tolds
    → AreAppended next ss new some → all ≡ tolds ++ some → map (stretch_told next) new ≡ all
stretches_more old next ss new tolds some all more is have appended whole =
    ap (map (stretch_told next)) appended.appended
    ∙ (map-append (stretch_told next) ss appended.more
    ∙ (ap (λ (names : List (List ℕ)). map (stretch_told names) ss ++ map (stretch_told next) appended.more) more.is
    ∙ (ap (λ ts. ts ++ map (stretch_told next) appended.more) (stretches_stay old more.more ss tolds is have)
    ∙ (ap (λ ts. tolds ++ ts) appended.told ∙ sym whole))))

parts_more : (tolds : List Told) (told : Told) (old new : Reading) → All IsGood tolds
    → IsLed start tolds old.front → SaysRead tolds old → IsStatementTaken told old new
    → SaysRead (tolds ++ told ∷ []) new
parts_more tolds told old new good led are taken =
    let more = names_more old.front.names told new.front.names (parts old.front told new.front taken.front).on_names in
    record {
      cores = taken.cores ∙ (ap (λ (n : ℕ). cores_behind n told) are.cores ∙ sym (cores_more 0 tolds told));
      tasks = taken.tasks ∙ (ap (λ ts. ts ++ tasks_in told) are.tasks
          ∙ (ap (λ ts. flat_map tasks_in tolds ++ ts) (sym (append-nil (tasks_in told)))
          ∙ sym (flat_map-append tasks_in tolds (told ∷ []))));
      slots = stretches_more old.front.names new.front.names old.slots new.slots _ _ _ more are.slots
          (slots_held (Some Start) tolds good) taken.slots (slots_more start tolds old.front told led);
      entries = taken.entries ∙ (ap (λ es. es ++ entries_in told) are.entries
          ∙ (ap (λ es. flat_map entries_in tolds ++ es) (sym (append-nil (entries_in told)))
          ∙ sym (flat_map-append entries_in tolds (told ∷ []))));
      stints = stretches_more old.front.names new.front.names old.stints new.stints _ _ _ more are.stints
          (stints_held tolds good) taken.stints
          (flat_map-append told_stints tolds (told ∷ [])
          ∙ ap (λ ts. flat_map told_stints tolds ++ ts) (append-nil (told_stints told)));
    }

-- before the first line
pub none_read : (bytes : List ℕ) (number : ℕ) (read : Reading) → number ≡ 0
    → read ≡ (record { front = start; cores = 0; tasks = []; slots = []; entries = []; stints = [] })
    → AreRead bytes number read (lines_of bytes)
none_read bytes number read first is = rw (first, is) (record {
  tolds = [];
  before = [];
  whole = refl;
  told = record { written = refl; good = λ k d low. absurd (omega arith) };
  led = refl;
  says = record { cores = refl; tasks = refl; slots = refl; entries = refl; stints = refl };
  many = refl;
  count = omega arith;
})

told_more : (before : List Line) (tolds : List Told) (line : Line) (told : Told) → LinesSay before tolds
    → Says line told → LinesSay (before ++ line ∷ []) (tolds ++ told ∷ [])
told_more before tolds line told are says = record {
  written = ap (λ ls. ls ++ line ∷ []) are.written
      ∙ (ap (λ (l : Line). map told_words tolds ++ l ∷ []) says.written
      ∙ sym (map-append told_words tolds (told ∷ [])));
  good = All-append IsGood tolds (told ∷ []) are.good
      (λ k d low. let first : k ≡ 0 = omega arith in rw first says.good);
}

-- after a line that was read
pub more_read : (bytes : List ℕ) (number : ℕ) (old new : Reading) (line : List ℕ) (left : List (List ℕ))
    (told : Told) → AreRead bytes number old (line ∷ left) → Says (words_of line) told → IsStatementTaken told old new
    → AreRead bytes (number + 1) new left
more_read bytes number old new line left told read says taken = record {
  tolds = read.tolds ++ told ∷ [];
  before = read.before ++ words_of line ∷ [];
  whole = read.whole ∙ sym (append_assoc read.before (words_of line ∷ []) (map words_of left));
  told = told_more read.before read.tolds (words_of line) told read.told says;
  led = led_more start read.tolds old.front told new.front read.led taken.front;
  says = parts_more read.tolds told old new read.told.good read.led read.says taken;
  many = let many = read.many in omega (arith, length-append read.tolds (told ∷ []));
  count = let count = read.count in omega arith;
}

-- a line that says nothing, or what may not are there, is the first bad one
pub bad_line : (bytes : List ℕ) (number : ℕ) (read : Reading) (line : List ℕ) (left : List (List ℕ))
    → AreRead bytes number read (line ∷ left)
    → (SaysNothing (words_of line) ⊎ IsMisplaced read.front (words_of line)) → IsFirstBad bytes (number + 1)
bad_line bytes number read line left are wrong = record {
  tolds = are.tolds;
  front = read.front;
  before = are.before;
  back = words_of line ∷ map words_of left;
  whole = are.whole;
  told = are.told;
  led = are.led;
  wrong = wrong;
  number = let many = are.many in omega arith;
}

-- the place after the last line is, where the text may not end
pub bad_end : (bytes : List ℕ) (number : ℕ) (read : Reading) → AreRead bytes number read []
    → may_end read.front.place ≡ false → IsFirstBad bytes (number + 1)
bad_end bytes number read are wrong = record {
  tolds = are.tolds;
  front = read.front;
  before = are.before;
  back = [];
  whole = are.whole;
  told = are.told;
  led = are.led;
  wrong = wrong;
  number = let many = are.many in omega arith;
}

-- all lines were read
pub all_read : (bytes : List ℕ) (number : ℕ) (read : Reading) (view : View) → AreRead bytes number read []
    → may_end read.front.place ≡ true → IsReadView read view → IsViewOf bytes view
all_read bytes number read view are whole has = record {
  tolds = are.tolds;
  front = read.front;
  text = record {
    told = subst (λ ls. LinesSay ls are.tolds) (sym (are.whole ∙ append-nil are.before)) are.told;
    led = are.led;
    whole = whole;
  };
  shows = record {
    cores = has.cores ∙ are.says.cores;
    run = has.run;
    names = has.names;
    tasks = has.tasks ∙ are.says.tasks;
    slots = ap (map (stretch_told read.front.names)) has.slots ∙ are.says.slots;
    entries = has.entries ∙ are.says.entries;
    stints = ap (map (stretch_told read.front.names)) has.stints ∙ are.says.stints;
  };
}

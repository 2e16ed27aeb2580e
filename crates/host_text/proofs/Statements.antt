-- What the text of a host states of each vCPU, and the members of the document.
use Rattle.std.proofs.Common.{◌≡◌, ℕ, pos, Bool, false, true, List, [], ◌∷◌, ◌++◌, codes, decimal, map, Option, Some, None, refl, sym, ap, ◌∙◌, arith}
use Rattle.std.specs.Prelude.{IsSome}
use Rattle.std.proofs.lemmas.List.Elements.{All-tail}
use Rattle.std.specs.List.{AllByRecursion}
use Rattle.tab_core.proofs.Alike.{same_vcpu}
use Rattle.tab_core.specs.Name.{IsName}
use Rattle.tab_core.specs.declared.host.Host.{Host}
use Rattle.tab_core.specs.declared.reservation.Reservation.{Reservation}
use Rattle.tab_core.specs.declared.vcpu.Vcpu.{Vcpu}
use Rattle.toml.specs.Data.{Data, string, integer, boolean, array, table, Items, no_items, item, Members, no_members, member}
use Rattle.toml.specs.Tables.{Expression, key_value, array_table}
use Rattle.tab_words.specs.Texts.{Line}
use Rattle.host_gen.specs.HostText.{AreAdmitted, capped_lines, key_words, in_quotes, truth_word, named_tick}

-- what is stated of an admitted vCPU
pub record Statement : Type 0 where
  pub name : List ℕ
  pub reservation : Reservation
  pub runnable : Bool
  pub capped : Bool

-- the vCPU of which this is stated
abbrev pub vcpu_of : Statement → Vcpu
vcpu_of s = record {
  name = s.name;
  reservation = Some s.reservation;
  runnable = s.runnable;
  capped = s.capped;
}

-- what holds where the vCPU is capped, and where it isn't, holds of each statement
pub either_way : (P : Statement → Type 0) → ((s : Statement) → P (record s { capped = true }))
    → ((s : Statement) → P (record s { capped = false })) → (s : Statement) → P s
either_way P if_capped if_not s = by_flag s.capped
  where
    by_flag : (b : Bool) → P (record s { capped = b })
    by_flag true = if_capped s
    by_flag false = if_not s

-- what is stated of all of these
pub record Stated (vcpus : List Vcpu) : Type 0 where
  pub statements : List Statement
  pub are : map vcpu_of statements ≡ vcpus

-- the statements are there
pub stated : (vcpus : List Vcpu) → AreAdmitted vcpus → Stated vcpus
stated [] all = record { statements = []; are = refl }
stated (vcpu ∷ vcpus) all =
    here vcpu.reservation refl (all 0 vcpu (omega arith))
    (stated vcpus (All-tail (λ (v : Vcpu). IsSome v.reservation) vcpu vcpus all))
  where
    here : (o : Option Reservation) → vcpu.reservation ≡ o → IsSome vcpu.reservation → Stated vcpus
        → Stated (vcpu ∷ vcpus)
    here None is some more = let none : false ≡ true = rw is at some in absurd cc
    here (Some r) is some more =
        let first : Statement = record {
          name = vcpu.name;
          reservation = r;
          runnable = vcpu.runnable;
          capped = vcpu.capped;
        } in
        let same : vcpu_of first ≡ vcpu = same_vcpu (vcpu_of first) vcpu refl (sym is) refl refl in
        record {
          statements = first ∷ more.statements;
          are = ap (λ v. v ∷ map vcpu_of more.statements) same ∙ ap (λ vs. vcpu ∷ vs) more.are;
        }

-- each has a name of the form of names
abbrev pub AreNamed : List Statement → Type 0
AreNamed ss = AllByRecursion (λ s. IsName s.name) ss

-- ---- the members

-- the member of a capped vCPU, before others
abbrev pub capped_member : Bool → Members → Members
capped_member true rest = member (codes "capped") (boolean true) rest
capped_member false rest = rest

-- the members of an admitted vCPU, by their keys
abbrev pub vcpu_members : Statement → Members
vcpu_members s =
    capped_member s.capped
    (member (codes "latency_ns") (integer (pos s.reservation.latency_ns))
    (member (codes "name") (string s.name)
    (member (codes "runnable") (boolean s.runnable)
    (member (codes "share_ppm") (integer (pos s.reservation.share_ppm)) no_members))))

-- the array of them
abbrev pub vcpu_items : List Statement → Items
vcpu_items [] = no_items
vcpu_items (s ∷ ss) = item (table (vcpu_members s)) (vcpu_items ss)

-- which a host without vCPUs doesn't have
abbrev pub vcpu_member : List Statement → Members
vcpu_member [] = no_members
vcpu_member (s ∷ ss) = member (codes "vcpu") (array (vcpu_items (s ∷ ss))) no_members

-- the format of a text that names this tick, if it names one
abbrev pub format_of : Option ℕ → ℕ
format_of None = 1
format_of (Some tick) = 2

-- the member of a named tick, before others
abbrev pub tick_member : Option ℕ → Members → Members
tick_member None rest = rest
tick_member (Some tick) rest = member (codes "tick_ns") (integer (pos tick)) rest

-- the members of the host's own numbers, by their keys, before others
abbrev pub head_members : Option ℕ → Host → Members → Members
head_members named host rest =
    member (codes "cores") (integer (pos host.cores))
    (member (codes "format") (integer (pos (format_of named)))
    (member (codes "lag") (integer (pos host.lag))
    (member (codes "quantum") (integer (pos host.quantum))
    (member (codes "sliver") (integer (pos host.sliver)) (tick_member named rest)))))

-- the members of a document that names this tick, if it names one
abbrev pub members_with : Option ℕ → Host → List Statement → Members
members_with named host ss = head_members named host (vcpu_member ss)

-- the members of the document
abbrev pub host_members : Host → List Statement → Members
host_members host = members_with (named_tick host.tick_ns) host

-- ---- the expressions

-- a key and its value
abbrev pub pair : List ℕ → Data → Expression
pair key d = (([], key), key_value d)

-- those of the format and of a named tick, as they are written
abbrev pub format_expressions : Option ℕ → List Expression
format_expressions None = pair (codes "format") (integer (pos 1)) ∷ []
format_expressions (Some tick) =
    pair (codes "format") (integer (pos 2)) ∷ pair (codes "tick_ns") (integer (pos tick)) ∷ []

-- those of the host's other numbers
abbrev pub number_expressions : Host → List Expression
number_expressions host =
    pair (codes "cores") (integer (pos host.cores))
    ∷ pair (codes "lag") (integer (pos host.lag))
    ∷ pair (codes "sliver") (integer (pos host.sliver))
    ∷ pair (codes "quantum") (integer (pos host.quantum))
    ∷ []

-- that of a capped vCPU
abbrev pub capped_expressions : Bool → List Expression
capped_expressions true = pair (codes "capped") (boolean true) ∷ []
capped_expressions false = []

-- those of the host's own numbers, with this tick named, if one is
abbrev pub expressions_with : Option ℕ → Host → List Expression
expressions_with named host = format_expressions named ++ number_expressions host

-- all before the vCPUs'
abbrev pub head_expressions : Host → List Expression
head_expressions host = expressions_with (named_tick host.tick_ns) host

-- those of an admitted vCPU, after its header
abbrev pub settings_expressions : Statement → List Expression
settings_expressions s =
    pair (codes "name") (string s.name)
    ∷ pair (codes "share_ppm") (integer (pos s.reservation.share_ppm))
    ∷ pair (codes "latency_ns") (integer (pos s.reservation.latency_ns))
    ∷ pair (codes "runnable") (boolean s.runnable)
    ∷ capped_expressions s.capped

-- the expressions of an admitted vCPU with its header
abbrev pub vcpu_expressions : Statement → List Expression
vcpu_expressions s = (([], codes "vcpu"), array_table) ∷ settings_expressions s

-- those of all vCPUs
abbrev pub vcpus_expressions : List Statement → List Expression
vcpus_expressions [] = []
vcpus_expressions (s ∷ ss) = vcpu_expressions s ++ vcpus_expressions ss

-- ---- the lines

-- the lines of an admitted vCPU after its header
abbrev pub settings_lines : Statement → List Line
settings_lines s =
    key_words (codes "name") (in_quotes s.name)
    ∷ key_words (codes "share_ppm") (decimal s.reservation.share_ppm)
    ∷ key_words (codes "latency_ns") (decimal s.reservation.latency_ns)
    ∷ key_words (codes "runnable") (truth_word s.runnable)
    ∷ capped_lines s.capped

-- The text of a host, as lines of words. It is a host document in a form of this project's own.
-- Source of what a document is: TOML v1.1.
use Rattle.std.specs.Prelude.{ℕ, ◌==◌, if◌then◌else◌, Bool, true, false, List, [], ◌∷◌, ◌++◌, All, IsSome, codes, decimal, flat_map, Option, Some, None}
use Rattle.tab_core.specs.declared.TheConstants.{TICK_NS}
use Rattle.tab_core.specs.declared.host.Host.{Host}
use Rattle.tab_core.specs.declared.reservation.Reservation.{Reservation}
use Rattle.tab_core.specs.declared.vcpu.Vcpu.{Vcpu}
use Rattle.tab_words.specs.Texts.{Line, text_of}

-- the line of a key and its value
abbrev pub key_words : List ℕ → List ℕ → Line
key_words key value = key ∷ codes "=" ∷ value ∷ []

-- a text between quotation marks
abbrev pub in_quotes : List ℕ → List ℕ
in_quotes text = 34 ∷ (text ++ 34 ∷ [])

-- a truth value as the word that TOML has for it
abbrev pub truth_word : Bool → List ℕ
truth_word true = codes "true"
truth_word false = codes "false"

-- the tick that the text names, in nanoseconds: the default isn't named
abbrev pub named_tick : ℕ → Option ℕ
named_tick tick_ns = if tick_ns == TICK_NS then None else Some tick_ns

-- the lines of the format, which is 2 where a tick is named
abbrev pub format_lines : Option ℕ → List Line
format_lines None = key_words (codes "format") (codes "1") ∷ []
format_lines (Some tick_ns) =
    key_words (codes "format") (codes "2") ∷ key_words (codes "tick_ns") (decimal tick_ns) ∷ []

-- the lines of the host's cores, and of its lag, sliver and quantum in ticks
abbrev pub number_lines : Host → List Line
number_lines host =
    key_words (codes "cores") (decimal host.cores)
    ∷ key_words (codes "lag") (decimal host.lag)
    ∷ key_words (codes "sliver") (decimal host.sliver)
    ∷ key_words (codes "quantum") (decimal host.quantum)
    ∷ []

-- all lines before the vCPUs'
abbrev pub head_lines : Host → List Line
head_lines host = format_lines (named_tick host.tick_ns) ++ number_lines host

-- the line of a capped vCPU; one that isn't has none
abbrev pub capped_lines : Bool → List Line
capped_lines true = key_words (codes "capped") (truth_word true) ∷ []
capped_lines false = []

-- the lines of an admitted vCPU, after an empty one
abbrev pub admitted_lines : List ℕ → Reservation → Bool → Bool → List Line
admitted_lines name r runnable capped =
    []
    ∷ (codes "[[vcpu]]" ∷ [])
    ∷ key_words (codes "name") (in_quotes name)
    ∷ key_words (codes "share_ppm") (decimal r.share_ppm)
    ∷ key_words (codes "latency_ns") (decimal r.latency_ns)
    ∷ key_words (codes "runnable") (truth_word runnable)
    ∷ capped_lines capped

-- a vCPU that isn't admitted has no lines
abbrev pub host_vcpu_lines : List ℕ → Option Reservation → Bool → Bool → List Line
host_vcpu_lines name None runnable capped = []
host_vcpu_lines name (Some r) runnable capped = admitted_lines name r runnable capped

-- a vCPU's lines as they are written
unfoldable pub vcpu_text : Vcpu → List ℕ
vcpu_text vcpu = text_of (host_vcpu_lines vcpu.name vcpu.reservation vcpu.runnable vcpu.capped)

-- the text of a host whose vCPUs are all admitted
unfoldable pub host_text : Host → List ℕ
host_text host = text_of (head_lines host) ++ flat_map vcpu_text host.vcpus

-- each vCPU has a reservation
abbrev pub AreAdmitted : List Vcpu → Type 0
AreAdmitted vcpus = All (λ vcpu. IsSome vcpu.reservation) vcpus

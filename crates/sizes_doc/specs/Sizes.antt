-- Sizes of VMs: what the words of one say, and its first bad part.
-- Source: the grammar is this project's own. The units of time are those of systemd.time(7).
use Rattle.std.specs.Prelude.{◌≡◌, ◌≢◌, ℕ, ◌+◌, ◌*◌, ◌^◌, ◌<◌, ◌≤◌, ◌⊎◌, Bool, true, false, List, [], ◌∷◌, ◌++◌, codes, decimal, length}
use Rattle.std.specs.Str.Parse.{AllDigits, digits_value}
use Rattle.tab_core.specs.declared.TheConstants.{MAX_LATENCY_NS, MAX_VCPUS, WHOLE_PPM}
use Rattle.sizes_doc.specs.declared.fault.Part.{Part}
use Rattle.sizes_doc.specs.declared.fault.Part.TheVariants as part
use Rattle.sizes_doc.specs.declared.size.Size.{Size}

-- ---- the form

-- the parts of a size, as they are written
pub record SizeParts : Type 0 where
  -- it is one VM, of this very name
  pub alone : Bool
  pub name : List ℕ
  pub machines : List ℕ
  pub vcpus : List ℕ
  pub share : List ℕ
  pub latency : List ℕ
  pub capped : Bool

-- the word that caps its vCPUs, or none
abbrev pub last_words : Bool → List (List ℕ)
last_words true = codes "capped" ∷ []
last_words false = []

-- `vm NAME VCPUS ..` for one VM, and else `NAME VMS x VCPUS ..`
abbrev pub form_words : Bool → List ℕ → List ℕ → List ℕ → List (List ℕ) → List (List ℕ)
form_words true name machines vcpus rest = codes "vm" ∷ name ∷ vcpus ∷ rest
form_words false name machines vcpus rest = name ∷ machines ∷ codes "x" ∷ vcpus ∷ rest

-- the words of these parts
abbrev pub part_words : SizeParts → List (List ℕ)
part_words parts = form_words parts.alone parts.name parts.machines parts.vcpus
    (parts.share ∷ parts.latency ∷ last_words parts.capped)

-- the words have these parts. Words whose third is `x` are of the form with a count: `vm 3 x 2 20% 20ms`
-- is of the VMs vm-0, vm-1 and vm-2. Where no VMs are counted, there is 1.
pub record HasSizeParts (words : List (List ℕ)) (parts : SizeParts) : Type 0 where
  pub written : words ≡ part_words parts
  pub alone : parts.alone ≡ true → (parts.machines ≡ codes "1") × (parts.vcpus ≢ codes "x")

-- ---- the numbers

-- the word is this count
pub record IsCount (word : List ℕ) (count : ℕ) : Type 0 where
  pub some : 1 ≤ count
  pub few : count ≤ MAX_VCPUS
  pub plain : word ≡ decimal count

-- the word is a number below 2^64 with this unit after it, of which each stands for so much
pub record IsMeasure (unit : List ℕ) (factor : ℕ) (word : List ℕ) (value : ℕ) : Type 0 where
  pub number : ℕ
  pub fits : number < 2 ^ 64
  pub digits : word ≡ decimal number ++ unit
  pub counted : value ≡ number * factor

-- the bytes are decimals, of which there are at most so many, and of a unit they make this whole count of its parts
pub record AreDecimals (most factor : ℕ) (bytes : List ℕ) (count : ℕ) : Type 0 where
  pub some : 1 ≤ length bytes
  pub few : length bytes ≤ most
  pub digits : AllDigits 10 bytes
  pub counted : count * 10 ^ length bytes ≡ digits_value 10 bytes * factor

-- the bytes are a number with a point of units that have so many parts each, and these are its parts: whole digits as a
-- number has them, a point, and decimals
pub record HasPoint (most factor : ℕ) (bytes : List ℕ) (value : ℕ) : Type 0 where
  pub number : ℕ
  pub decimals : List ℕ
  pub count : ℕ
  pub fits : number < 2 ^ 64
  pub after : AreDecimals most factor decimals count
  pub written : bytes ≡ decimal number ++ codes "." ++ decimals
  pub counted : value ≡ number * factor + count

-- the bytes are a percentage, without its sign, of so many parts per million: a percent has 10000, so it has at most
-- four decimals
abbrev pub IsPercentage : List ℕ → ℕ → Type 0
IsPercentage bytes ppm = IsMeasure [] 10000 bytes ppm ⊎ HasPoint 4 10000 bytes ppm

-- the word is a percentage with its sign
pub record IsPercent (word : List ℕ) (ppm : ℕ) : Type 0 where
  pub bytes : List ℕ
  pub written : word ≡ bytes ++ codes "%"
  pub is : IsPercentage bytes ppm

-- the word is so many parts per million, in percent or by themselves
abbrev pub IsShareWord : List ℕ → ℕ → Type 0
IsShareWord word ppm = IsPercent word ppm ⊎ IsMeasure (codes "ppm") 1 word ppm

-- the word is this share in parts per million
pub record IsShare (word : List ℕ) (ppm : ℕ) : Type 0 where
  pub some : 1 ≤ ppm
  pub whole : ppm ≤ WHOLE_PPM
  pub measured : IsShareWord word ppm

-- the word is a number with a point and at most nine decimals, with this unit after it, of which each has so many
-- nanoseconds, and these are its whole nanoseconds
pub record IsPointed (unit : List ℕ) (factor : ℕ) (word : List ℕ) (ns : ℕ) : Type 0 where
  pub bytes : List ℕ
  pub written : word ≡ bytes ++ unit
  pub is : HasPoint 9 factor bytes ns

-- the word is a time in this unit
abbrev pub IsTimeIn : List ℕ → ℕ → List ℕ → ℕ → Type 0
IsTimeIn unit factor word ns = IsMeasure unit factor word ns ⊎ IsPointed unit factor word ns

-- the word is a time of so many nanoseconds
abbrev pub IsTime : List ℕ → ℕ → Type 0
IsTime word ns = IsTimeIn (codes "ms") 1000000 word ns
    ⊎ (IsTimeIn (codes "us") 1000 word ns
    ⊎ (IsTimeIn (codes "ns") 1 word ns ⊎ IsTimeIn (codes "s") 1000000000 word ns))

-- the word is a time of so many nanoseconds, in a unit, or without one in units of so many
abbrev pub IsTimeOr : ℕ → List ℕ → ℕ → Type 0
IsTimeOr factor word ns = IsMeasure [] factor word ns ⊎ IsTime word ns

-- the word is this latency in nanoseconds
pub record IsLatency (word : List ℕ) (ns : ℕ) : Type 0 where
  pub bounded : ns ≤ MAX_LATENCY_NS
  pub measured : IsTime word ns

-- ---- sizes

-- the parts are those of this size
pub record IsSizeOf (parts : SizeParts) (size : Size) : Type 0 where
  pub alone : size.alone ≡ parts.alone
  pub name : size.name.now ≡ parts.name
  pub machines : IsCount parts.machines size.machines
  pub vcpus : IsCount parts.vcpus size.vcpus
  pub share : IsShare parts.share size.reservation.share_ppm
  pub latency : IsLatency parts.latency size.reservation.latency_ns
  pub capped : size.capped ≡ parts.capped

-- the words are those of this size
pub record IsSize (words : List (List ℕ)) (size : Size) : Type 0 where
  pub parts : SizeParts
  pub written : HasSizeParts words parts
  pub are : IsSizeOf parts size

-- ---- bad parts

-- why the word is no share: a number or a percentage without a sign, nothing, above the whole, or no number
-- with a unit
pub data IsBadShare (word : List ℕ) : Part → Type 0 where
  NoShareUnit : (ppm : ℕ) → IsPercentage word ppm → IsBadShare word part.ShareUnit
  IsNoShare : IsShareWord word 0 → IsBadShare word part.ShareZero
  IsShareAbove : (ppm : ℕ) → IsShareWord word ppm → WHOLE_PPM < ppm → IsBadShare word part.ShareAbove
  NoShare : ((ppm : ℕ) → IsShareWord word ppm → ⊥) → ((ppm : ℕ) → IsPercentage word ppm → ⊥)
      → IsBadShare word part.Share

-- why the word is no latency: a number without a unit, above the bound, or no whole nanoseconds with a unit
pub data IsBadLatency (word : List ℕ) : Part → Type 0 where
  NoTimeUnit : (n : ℕ) → IsMeasure [] 1 word n → IsBadLatency word part.LatencyUnit
  IsTimeAbove : (ns : ℕ) → IsTime word ns → MAX_LATENCY_NS < ns → IsBadLatency word part.LatencyAbove
  NoTime : ((ns : ℕ) → IsTime word ns → ⊥) → ((n : ℕ) → IsMeasure [] 1 word n → ⊥)
      → IsBadLatency word part.Latency

-- the first of the parts that isn't as a size has it
pub data IsBadPart (parts : SizeParts) : Part → Type 0 where
  NoMachines : ((n : ℕ) → IsCount parts.machines n → ⊥) → IsBadPart parts part.Machines
  NoVcpus : (machines : ℕ) → IsCount parts.machines machines
      → ((n : ℕ) → IsCount parts.vcpus n → ⊥) → IsBadPart parts part.Vcpus
  BadShare : (machines vcpus : ℕ) (part : Part) → IsCount parts.machines machines
      → IsCount parts.vcpus vcpus → IsBadShare parts.share part → IsBadPart parts part
  BadLatency : (machines vcpus share : ℕ) (part : Part) → IsCount parts.machines machines
      → IsCount parts.vcpus vcpus → IsShare parts.share share → IsBadLatency parts.latency part
      → IsBadPart parts part

-- the words don't have the form of a size, or this is their first bad part
pub data HasBadPart (words : List (List ℕ)) : Part → Type 0 where
  NoForm : ((parts : SizeParts) → HasSizeParts words parts → ⊥) → HasBadPart words part.Form
  InPart : (parts : SizeParts) (part : Part) → HasSizeParts words parts → IsBadPart parts part
      → HasBadPart words part

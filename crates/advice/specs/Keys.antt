-- The advice on a key of a host document: whose it is, its line, which key is unknown, and what the key has to be.
use Rattle.std.specs.Prelude.{ℕ, ℤ, pos, Bool, false, true, ◌==◌, if◌then◌else◌, List, [], ◌∷◌, ◌++◌, codes, decimal, Option, Some, None, option_and_then}
use Rattle.std.specs.Option.{option_or}
use Rattle.toml.specs.Data.{as_array, as_integer, as_str, as_table, get_item, get_member, Members, no_members, member}
use Rattle.host_doc.specs.KeyTable.{first_keys, vcpu_keys}
use Rattle.host_doc.specs.OtherKeys.{is_among}
use Rattle.host_doc.specs.Path.{word_of}
use Rattle.host_doc.specs.declared.fault.Key.{Key}
use Rattle.host_doc.specs.declared.fault.Key.TheVariants.{Format, TickNs, Cores, Lag, Sliver, Quantum, Vcpu, Name, Admitted, Runnable, Share, Latency, Capped, Unknown}
use Rattle.advice.specs.KeyLines.{any_line, host_line, line_part, vcpu_line}
use Rattle.advice.specs.Parts.{quote_of}

-- what a key of a host has to be; any other is none
abbrev pub host_rule : Key → List ℕ
host_rule Format = codes "format is 1 or 2, and 1 where it is left out"
host_rule TickNs = codes "tick_ns is a whole number from 500 to 2002, in nanoseconds, and 1001 where it is left out"
host_rule Cores = codes "cores is a whole number from 1 to 32, and has to be there"
host_rule Lag = codes "lag is a whole number from 1 to 102600, in ticks, and 1000 where it is left out"
host_rule Sliver = codes "sliver is a whole number from 0 to 1000, in ticks, and 30 where it is left out"
host_rule Quantum = codes "quantum is a whole number from 1 to 102600, in ticks, and 1000 where it is left out"
host_rule Vcpu = codes "vcpu is an array of tables; a line [[vcpu]] begins each"
host_rule key = codes " is no key of a host of this format; those are format, cores, lag, sliver, quantum and vcpu,\ntableau: and tick_ns beside format = 2"

-- what a key of a vCPU has to be; any other is none
abbrev pub vcpu_rule : Key → List ℕ
vcpu_rule Vcpu = codes "it has to be a table, as { name = \"web\", share_ppm = 250000, latency_ns = 20000000 }"
vcpu_rule Name = codes "name is 1 to 32 characters of a-z A-Z 0-9 _ - . in quotes, and has to be there"
vcpu_rule Admitted = codes "admitted is true or false, and true where it is left out"
vcpu_rule Runnable = codes "runnable is true or false, and true where it is left out"
vcpu_rule Capped = codes "capped is true or false, and false where it is left out"
vcpu_rule Share = codes "share_ppm is a whole number from 1 to 1000000, and has to be there; 20 % is 200000"
vcpu_rule Latency = codes "latency_ns is a whole number from 0 to 1000000000000, and has to be there; 20 ms is 20000000"
vcpu_rule key = codes " is no key of a vCPU; those are name, admitted, runnable, share_ppm, latency_ns and capped"

-- the member of `vcpu` of a number, where it is a table
abbrev pub member_at : ℕ → Members → Option Members
member_at number members = option_and_then as_table (option_and_then (get_item number)
    (option_and_then as_array (get_member (codes "vcpu") members)))

-- the name of the vCPU of a number in a host document, where it is a text
abbrev pub member_name : ℕ → Members → Option (List ℕ)
member_name number members = option_and_then as_str
    (option_and_then (get_member (codes "name")) (member_at number members))

-- the first key of a table that is none of these
abbrev pub first_other : List Key → Members → Option (List ℕ)
first_other keys no_members = None
first_other keys (member word found members) =
    if is_among keys word then first_other keys members else Some word

-- the value is the number of the format that has a key for the tick
abbrev pub is_two : Option ℤ → Bool
is_two None = false
is_two (Some (pos n)) = n == 2
is_two (Some other) = false

-- a host document of these members says that it is of format 2
abbrev pub has_second_format : Members → Bool
has_second_format members = is_two (option_and_then as_integer (get_member (codes "format") members))

-- the keys of a host of the document's format
abbrev pub host_keys : Members → List Key
host_keys members = if has_second_format members then TickNs ∷ first_keys else first_keys

-- what a known key of a host has to be; one whose line is only in the table of a vCPU is misplaced
abbrev pub rule_words : Option (ℕ × List ℕ) → Option (ℕ × List ℕ) → Key → List ℕ
rule_words None (Some line) key =
    codes "after a line [[vcpu]] a key is that vCPU's;\ntableau: put the keys of the host above the first [[vcpu]]"
rule_words None None key = host_rule key
rule_words (Some own) any key = host_rule key

-- the advice on a known key of a host, whose line in the host's table and first line in any table may be these
abbrev pub rule_text_of : Option (ℕ × List ℕ) → Option (ℕ × List ℕ) → Key → List ℕ
rule_text_of own any key = codes "tableau: host"
    ++ (line_part (option_or own any) ++ (codes ": " ++ (rule_words own any key ++ codes "\n")))

-- the advice on a known key of a host
abbrev pub rule_text : List ℕ → Key → List ℕ
rule_text section key = rule_text_of (host_line (word_of key) section) (any_line (word_of key) section) key

-- the line that gives this key of the host a value, if there is a key
abbrev pub other_line : Option (List ℕ) → List ℕ → Option (ℕ × List ℕ)
other_line None section = None
other_line (Some word) section = host_line word section

-- the advice on a host with an unknown key, which may be this one: its line, and which keys there are
abbrev pub other_text_of : Option (List ℕ) → List ℕ → List ℕ
other_text_of word section = codes "tableau: host"
    ++ (line_part (other_line word section) ++ (codes ": " ++ (quote_of word ++ (host_rule Unknown ++ codes "\n"))))

-- the advice on a host with an unknown key: the first of them, and which keys there are
abbrev pub other_text : List ℕ → Members → List ℕ
other_text section members = other_text_of (first_other (host_keys members) members) section

-- there is nothing
abbrev pub is_missing : {A : Type 0} → Option A → Bool
is_missing None = true
is_missing (Some found) = false

-- the vCPU's first unknown key, if the fault is one, or if the key at fault isn't there
abbrev pub other_in_vcpu : Key → Option Members → Option (List ℕ)
other_in_vcpu key None = None
other_in_vcpu Unknown (Some members) = first_other vcpu_keys members
other_in_vcpu key (Some members) =
    if is_missing (get_member (word_of key) members) then first_other vcpu_keys members else None

-- the word by which the line of a fault is found: that of the unknown key, if there is one
abbrev pub line_word : Key → Option (List ℕ) → List ℕ
line_word key None = word_of key
line_word key (Some other) = other

-- what an unknown key of a vCPU is: a key of the host that is misplaced, or a mistake
abbrev pub stray_text : Key → Option (List ℕ) → List ℕ
stray_text key None = []
stray_text Unknown (Some other) = if is_among (TickNs ∷ first_keys) other
    then codes " is a key of the host: put it above the first [[vcpu]]; it" else []
stray_text key (Some other) = codes " is no key of a vCPU; "

-- the space before a name, where there is one
abbrev pub space_of : Option (List ℕ) → List ℕ
space_of None = []
space_of (Some name) = codes " "

-- the advice on a key of the vCPU of a number, whose name and unknown key may be these
abbrev pub vcpu_text_of : ℕ → Key → Option (List ℕ) → Option (List ℕ) → List ℕ → List ℕ
vcpu_text_of number key name other section = codes "tableau: vcpu "
    ++ (decimal number ++ (space_of name ++ (quote_of name
    ++ (line_part (vcpu_line number (line_word key other) section) ++ (codes ": " ++ (quote_of other
    ++ (stray_text key other ++ (vcpu_rule key ++ codes "\n"))))))))

-- the advice on a key of the vCPU of a number
abbrev pub vcpu_key_text : List ℕ → ℕ → Key → Members → List ℕ
vcpu_key_text section number key members = vcpu_text_of number key (member_name number members)
    (other_in_vcpu key (member_at number members)) section

-- the advice on a vCPU that has the name of an earlier one
abbrev pub same_text : List ℕ → Members → ℕ → List ℕ
same_text section members number = codes "tableau: vcpu "
    ++ (decimal number ++ (codes " " ++ (quote_of (member_name number members)
    ++ (line_part (vcpu_line number (codes "name") section)
    ++ codes ": an earlier one has this name; rename one of them\n"))))

-- What the frame asks of a command: whether it reads its input, and whether it takes memory.
use Rattle.std.specs.Prelude.{Bool, true, false}
use Rattle.tab_words.specs.declared.command.Command.{Command}
use Rattle.tab_words.specs.declared.command.Command.TheVariants as command

-- the command reads its input
abbrev pub reads : Command → Bool
reads command.Help = false
reads command.Version = false
reads (command.Gen seed cores vcpus) = false
reads (command.Selftest seed) = false
reads command = true

-- the command takes memory, which may run out
abbrev pub takes_memory : Command → Bool
takes_memory command.Help = false
takes_memory command.Version = false
takes_memory command = true

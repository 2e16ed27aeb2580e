-- Whose mark a line is, and what it says.
use Rattle.std.proofs.Common.{◌≡◌, refl, ℕ, ◌<◌, List, length, IfNone, IfSome, Option, Some, None}
use Rattle.tab_core.specs.Name.{IsName}
use Rattle.vcpu_names.specs.Names.{IsUnknown, name_at}
use Rattle.host_trace.specs.TraceLines.{IsNameOf, LineTells, SaysMark}
use Rattle.host_trace.specs.declared.mark.Mark.{Mark}
use Rattle.host_trace.specs.declared.mark.State.{State}

-- what a look-up of a name says
pub found : (names : List (List ℕ)) (name : List ℕ) (vcpu : Option ℕ)
    → IfSome vcpu (λ v. (v < length names) × (name_at names v ≡ name) × IsName name)
    → IfNone vcpu (IsUnknown names name) → IsNameOf names name vcpu
found names name None known unknown = unknown
found names name (Some vcpu) known unknown = (known.0, known.1)

-- what a line tells of a name, it says of the vCPU of the name
pub said : (names : List (List ℕ)) (line name : List ℕ) (mark : Mark)
    → LineTells line name mark.time_ns mark.state mark.cpu → IsNameOf names name mark.vcpu → SaysMark names line mark
said names line name mark tells vcpu = record {
  fields = tells.fields;
  written = tells.written;
  some_name = rw tells.named tells.some_name;
  time = tells.spelled;
  vcpu = rw tells.named vcpu;
  state = tells.says;
  cpu = tells.on;
}

-- what it says of the vCPUs of names, it tells
pub told : (names : List (List ℕ)) (line : List ℕ) (mark : Mark) (says : SaysMark names line mark)
    → LineTells line says.fields.name mark.time_ns mark.state mark.cpu
told names line mark says = record {
  fields = says.fields;
  written = says.written;
  named = refl;
  some_name = says.some_name;
  spelled = says.time;
  says = says.state;
  on = says.cpu;
}

-- where it tells nothing, it says nothing
pub nothing_said : (names : List (List ℕ)) (line : List ℕ)
    → ((name : List ℕ) (time : ℕ) (state : State) (cpu : Option ℕ) → LineTells line name time state cpu → ⊥)
    → (mark : Mark) → SaysMark names line mark → ⊥
nothing_said names line nothing mark says =
    nothing says.fields.name mark.time_ns mark.state mark.cpu (told names line mark says)

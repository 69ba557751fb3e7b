use Rattle.std.proofs.Common.{◌≡◌, ◌↔◌, [], map, ap, IsTrue}
use Rattle.cpu_ops.specs.Machine.{waiting_at}
use Rattle.core_steps.specs.CoreState.{of_cpu}
use Rattle.core_steps.proofs.Queued.{cpu_none}
use Rattle.core_steps.proofs.machine.Core.idle.Goals as goal

pub returns-in-Cpu-clause-empty : goal.returns-in-Cpu-clause-empty
returns-in-Cpu-clause-empty c =
    let told = c.is_idle.ensures.empty in
    let all : IsTrue c.is_idle.result ↔ (map of_cpu (waiting_at c.args.self.now.machine c.in-Cpu.cpu).ops ≡ []) =
    (λ yes. ap (map of_cpu) (told.0 yes), λ none. told.1 (cpu_none (waiting_at c.args.self.now.machine c.in-Cpu.cpu).ops none)) in
    rw (c.in-Cpu.is) all

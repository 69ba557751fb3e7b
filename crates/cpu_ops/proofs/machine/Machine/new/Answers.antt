use Rattle.std.proofs.Common.{rules, ◌≡◌, None, refl, replicate}
use Rattle.cpu_ops.specs.Machine.{no_places}
use Rattle.cpu_ops.proofs.Flags.{reserved_fresh}
use Rattle.cpu_ops.proofs.machine.Machine.new.Goals as goal

pub invariant_of-result : goal.invariant_of-result
invariant_of-result c = reserved_fresh c.in_ok-new.field-0 c.in_ok-vec-2.field-0.items c.in_ok-no_ops.field-0.items c.args.cpus c.in_ok-new.ensures (c.in_ok-vec-2.ensures.items_if_clones_equal (λ y e. e)) c.in_ok-no_ops.ensures

pub returns : goal.returns
unfolding no_places
returns c =
    let hands : c.in_ok-vec.field-0.items ≡ replicate c.args.cpus None = c.in_ok-vec.ensures.items_if_clones_equal (search (rules)) in
    rw (hands, c.in_ok-vec-2.ensures.items_if_clones_equal (λ y e. e), c.in_ok-no_ops.ensures) refl

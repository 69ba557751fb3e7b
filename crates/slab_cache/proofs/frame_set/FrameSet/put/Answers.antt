use Rattle.std.proofs.Common.{ℕ, List, Bool, length, ap, ◌==◌, arith}
use Rattle.buddy.specs.Bits.{bit_of}
use Rattle.slab_cache.proofs.Marks.{length_marks}
use Rattle.slab_cache.proofs.FrameSets.{put_all}
use Rattle.slab_cache.proofs.frame_set.FrameSet.put.Goals as goal

pub put_bit-requires : goal.put_bit-requires
put_bit-requires c =
    let enough = c.self.invariant.enough in
    omega (arith, c.requires, ap (λ (marks : List Bool). length marks) c.self.view_is, length_marks (λ i. bit_of c.self.inside.words.items i == 1) c.self.inside.frames, ap (λ (ws : List ℕ). length ws) c.deref_mut.ensures.value)

pub invariant_of-self : goal.invariant_of-self
invariant_of-self c =
    (put_all c.self.inside.words.len c.self.inside.frames c.args.frame c.self.inside.words.items c.deref_mut.result.now c.put_bit.new.words c.args.inside c.args.self.now c.self.inside.words.ok.0 c.deref_mut.ensures.value c.self.view_is c.requires
    c.self.invariant c.put_bit.ensures).0

pub returns : goal.returns
returns c =
    (put_all c.self.inside.words.len c.self.inside.frames c.args.frame c.self.inside.words.items c.deref_mut.result.now c.put_bit.new.words c.args.inside c.args.self.now c.self.inside.words.ok.0 c.deref_mut.ensures.value c.self.view_is c.requires
    c.self.invariant c.put_bit.ensures).1

use Rattle.std.proofs.Common.{◌≡◌, ℕ, suc, ◌+◌, ◌-◌, ◌<◌, List, ◌∷◌, Bool, false, refl, sym, ap, ◌∙◌, arith, find}
use Rattle.std.specs.List.{range_with_len}
use Rattle.cpu_ops.specs.Machine.{is_used}
use Rattle.cpu_ops.proofs.machine.Machine.used_key.Goals as goal

range_more : (a b : ℕ) → a < b → range_with_len a (b - a) ≡ a ∷ range_with_len (a + 1) (b - (a + 1))
range_more a b h = let e : b - a ≡ suc (b - (a + 1)) = omega arith in rw e refl

skips : (test : ℕ → Bool) (key : ℕ) (keys : List ℕ) → test key ≡ false → find test (key ∷ keys) ≡ find test keys
skips test key keys h = rw h refl

pub loop-key-preserved : goal.loop-key-preserved
loop-key-preserved c =
    let end = c.args.first + (c.args.parts - 1) in
    let test = is_used c.args.self.now.places c.args.self.now.waiting in
    c.loop-key.invariant ∙ ap (find test) (range_more c.loop-key.key end c.loop-key-test.true)
    ∙ skips test c.loop-key.key (range_with_len (c.loop-key.key + 1) (end - (c.loop-key.key + 1))) (sym c.is_used.ensures ∙ c.if-is_used.false)

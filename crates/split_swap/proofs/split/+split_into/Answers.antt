use Rattle.std.proofs.Common.{rules, arith, ℕ, ◌≡◌, ◌-◌, ◌<◌, ◌++◌, [], ◌∷◌, append_assoc, sym, ap, ◌∙◌}
use Rattle.tag_model.specs.RefMoves.{part_of, split_moves}
use Rattle.tag_rule.specs.Shown.{CpuShown}
use Rattle.tag_ref.specs.Refs.{moved_by}
use Rattle.page_ext.specs.Shown.{BlockShown}
use Rattle.split_swap.specs.Parts.{parts_in, part_shown, parts_shown}
use Rattle.split_swap.proofs.Halving.{twice, some_parts, halves_are_parts, half_held, in_two, split_again, two_parts}
use Rattle.split_swap.proofs.split.+split_into.Goals as goal

-- a half's parts are half as many
half_parts : (order place : ℕ) (block half : BlockShown) → half ≡ part_shown (block.order - 1) place block → parts_in order half.order ≡ parts_in order (block.order - 1)
half_parts order place block half is = ap (λ b. parts_in order b.order) is

-- what a half's split adds
half_moves : (order place : ℕ) (block half : BlockShown) (cpu after : CpuShown) → order < block.order → half ≡ part_shown (block.order - 1) place block
    → after ≡ moved_by (split_moves cpu.part.number (parts_in order half.order) half.cell.held) cpu
    → after ≡ moved_by (split_moves cpu.part.number (parts_in order (block.order - 1)) (part_of 2 block.cell.held)) cpu
half_moves order place block half cpu after below is moves =
    moves ∙ ap (λ n. moved_by (split_moves cpu.part.number n half.cell.held) cpu) (half_parts order place block half is)
    ∙ ap (λ h. moved_by (split_moves cpu.part.number (parts_in order (block.order - 1)) h) cpu) (half_held place block half (omega arith) is)

pub split_into-requires : goal.split_into-requires
split_into-requires t c =
    let first = ap (λ b. b.order) c.split_half-first.ensures.first in (
      search rules,
      (
        search rules,
        (
          search rules,
          (
            omega (arith, first, c.order.ensures, c.if-order.false),
            (
              c.split_half-first.ensures.fit.0,
              (
                c.split_half-first.ensures.whole.0,
                omega (arith, half_parts c.args.order 0 c.args.block c.split_half-first.result.0 c.split_half-first.ensures.first, twice c.args.order c.args.block.order c.requires.order, c.requires.room),
              ),
            ),
          ),
        ),
      ),
    )

pub split_into-requires-else-order : goal.split_into-requires-else-order
split_into-requires-else-order t c =
    let second = ap (λ b. b.order) c.split_half-first.ensures.second in
    let first = ap (λ b. b.order) c.split_half-first.ensures.first in (
      search rules,
      (
        search rules,
        (
          search rules,
          (
            omega (arith, first, second, c.order.ensures, c.if-order.false),
            (
              c.split_half-first.ensures.fit.1,
              (
                c.split_half-first.ensures.whole.1,
                omega (
                  arith,
                  half_parts c.args.order 0 c.args.block c.split_half-first.result.0 c.split_half-first.ensures.first,
                  half_parts c.args.order 1 c.args.block c.split_half-first.result.1 c.split_half-first.ensures.second,
                  twice c.args.order c.args.block.order c.requires.order,
                  c.requires.room,
                  c.split_into.ensures.len,
                  c.split_into.ensures.room,
                ),
              ),
            ),
          ),
        ),
      ),
    )

pub returns-else-order-clause-parts : goal.returns-else-order-clause-parts
returns-else-order-clause-parts t c =
    c.split_into-else-order.ensures.parts
    ∙ ap (λ items. items ++ parts_shown c.args.order c.split_half-first.result.1) c.split_into.ensures.parts
    ∙ append_assoc c.args.out.now.items (parts_shown c.args.order c.split_half-first.result.0) (parts_shown c.args.order c.split_half-first.result.1)
    ∙ ap (λ parts. c.args.out.now.items ++ parts)
    (halves_are_parts c.args.order c.args.block c.split_half-first.result.0 c.split_half-first.result.1 c.requires.order c.split_half-first.ensures.first c.split_half-first.ensures.second)

pub returns-else-order-clause-len : goal.returns-else-order-clause-len
returns-else-order-clause-len t c =
    omega (
      arith,
      half_parts c.args.order 0 c.args.block c.split_half-first.result.0 c.split_half-first.ensures.first,
      half_parts c.args.order 1 c.args.block c.split_half-first.result.1 c.split_half-first.ensures.second,
      twice c.args.order c.args.block.order c.requires.order,
      c.split_into.ensures.len,
      c.split_into-else-order.ensures.len,
    )

pub returns-else-order-clause-cpu : goal.returns-else-order-clause-cpu
returns-else-order-clause-cpu t c =
    split_again c.args.cpu.now c.split_half-first.new.cpu c.split_into.new.cpu c.split_into-else-order.new.cpu c.args.block.cell.held (parts_in c.args.order (c.args.block.order - 1)) (some_parts c.args.order (c.args.block.order - 1))
    c.split_half-first.ensures.cpu
    (half_moves c.args.order 0 c.args.block c.split_half-first.result.0 c.split_half-first.new.cpu c.split_into.new.cpu c.requires.order c.split_half-first.ensures.first c.split_into.ensures.cpu)
    (half_moves c.args.order 1 c.args.block c.split_half-first.result.1 c.split_into.new.cpu c.split_into-else-order.new.cpu c.requires.order c.split_half-first.ensures.second c.split_into-else-order.ensures.cpu)
    ∙ ap (λ n. moved_by (split_moves c.args.cpu.now.part.number n c.args.block.cell.held) c.args.cpu.now) (sym (twice c.args.order c.args.block.order c.requires.order))

pub returns-then-order-clause-parts : goal.returns-then-order-clause-parts
returns-then-order-clause-parts t c =
    let last = sym (ap (λ b. b.order) c.split_half-first.ensures.first) ∙ sym c.order.ensures ∙ c.if-order.true in
    c.put-then-order.ensures.items ∙ ap (λ items. items ++ c.split_half-first.result.1 ∷ []) c.put.ensures.items
    ∙ append_assoc c.args.out.now.items (c.split_half-first.result.0 ∷ []) (c.split_half-first.result.1 ∷ [])
    ∙ ap (λ parts. c.args.out.now.items ++ parts)
    (two_parts c.args.order c.args.block c.split_half-first.result.0 c.split_half-first.result.1 c.requires.order last c.split_half-first.ensures.first c.split_half-first.ensures.second)

pub returns-then-order-clause-cpu : goal.returns-then-order-clause-cpu
returns-then-order-clause-cpu t c =
    let last = sym (ap (λ b. b.order) c.split_half-first.ensures.first) ∙ sym c.order.ensures ∙ c.if-order.true in
    c.split_half-first.ensures.cpu ∙ ap (λ n. moved_by (split_moves c.args.cpu.now.part.number n c.args.block.cell.held) c.args.cpu.now) (sym (in_two c.args.order c.args.block.order c.requires.order last))

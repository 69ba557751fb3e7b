use Rattle.std.proofs.Common.{◌≡◌, ℕ, ◌+◌, ◌<◌, ◌≤◌, min, List, [], ◌++◌, length, take, drop, sym, ap, ◌∙◌, arith}
use Rattle.std.proofs.lemmas.List.{take-append-drop, drop-drop, take_rest}
use Rattle.std.proofs.Math.ListN.{drop_of_length-le}
use Rattle.outside.proofs.memory.MemSourceSource.read.Goals as goal

-- what is left is what the buffer was given and then the rest, and nothing was given only where nothing is left
given_first : (bytes left buffer : List ℕ) (read n piece room : ℕ) → drop read bytes ≡ left → take n buffer ≡ take n left → n ≡ min piece (min room (length left)) → 1 ≤ piece → 0 < room
    → (left ≡ take n buffer ++ drop (read + n) bytes) × (n ≡ 0 → 0 < length buffer → drop (read + n) bytes ≡ [])
given_first bytes left buffer read n piece room held front count some open_room =
    let rest : drop (read + n) bytes ≡ drop n left = sym (drop-drop n read bytes) ∙ ap (drop n) held in (
      sym (take-append-drop n left) ∙ ap (λ l. l ++ drop n left) (sym front) ∙ ap (λ l. take n buffer ++ l) (sym rest),
      λ none _. rest ∙ drop_of_length-le left (omega arith),
    )

pub returns-clause-bytes : goal.returns-clause-bytes
returns-clause-bytes c =
    let bytes = c.self.inside.bytes.items in
    let read = c.self.inside.read in
    let held : drop read bytes ≡ c.args.self.now.left = ap (λ (r : _). r.left) c.self.view_is in
    let whole = take_rest c.deref-2.result.now read ∙ ap (drop read) c.deref-2.ensures.value ∙ held in
    given_first bytes c.args.self.now.left c.copy_piece-n.new.to read c.copy_piece-n.result c.self.inside.piece (length c.args.buffer.now) held (rw whole at c.copy_piece-n.ensures.front) (rw whole at c.copy_piece-n.ensures.count) c.self.invariant.1 c.requires

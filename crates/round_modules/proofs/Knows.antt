-- What is known beside the book.
use Rattle.std.proofs.Common.{◌+◌, ◌≡◌, ℕ, suc, ◌<◌, ◌≤◌, ◌⊎◌, inr, Bool, true, false, cond, List, [], ◌∷◌, ◌++◌, length, get_or, map, take, drop, IsSomeAnd, Any, Contains, refl, sym, ap, ◌∙◌, subst, arith, ⊎_elim}
use Rattle.std.specs.Prelude.{fold}
use Rattle.std.proofs.lemmas.List.Sums.{fold-append}
use Rattle.trace.specs.declared.traces.OnOp.{OnOp}
use Rattle.std.proofs.lemmas.List.{get_or-map, length-map, map-append, take-append-drop, take_more}
use Rattle.std.proofs.lemmas.List.Elements.{All-weaker, Contains-append_left}
use Rattle.tag_model.specs.declared.state.Note.{Note}
use Rattle.tag_model.specs.declared.state.Record.{Record}
use Rattle.tag_model.specs.declared.state.Run.{Run}
use Rattle.tag_model.specs.Laws.{note_of}
use Rattle.tag_rule.specs.Meeting.{first_notes, with_notes}
use Rattle.tag_rule.specs.Runs.{with_runs}
use Rattle.tag_rule.specs.Shown.{CpuShown}
use Rattle.module_area.specs.declared.entry.Entry.{Entry}
use Rattle.module_area.specs.declared.entry.State.TheVariants.{Dead, Loaded}
use Rattle.module_area.specs.Entries.{is_loaded_as, kept}
use Rattle.core_list.specs.ListState.{record_of, run_of}
use Rattle.trace.specs.declared.traces.TraceOp.{TraceOp}
use Rattle.trace.specs.declared.traces.TraceOp.TheVariants as op
use Rattle.round_modules.specs.Inside.{AreNoted, IsNoteOf, come_in, notes_in}
use Rattle.round_modules.specs.Known.{AreLoadedIn, IsKnown, IsLoadedIn, unload_in, unloaded_by}
use Rattle.round_modules.proofs.Members.{Member, Rises, all_members, any_member, entry_is, here, later, map_from, map_has, member_any, member_cases, nobody}

-- ---- unloads

marked_known : (section : ℕ) (book known : List Entry) → IsKnown book known → IsKnown book (map (λ entry. cond (is_loaded_as section entry) (kept entry) entry) known)
marked_known section [] [] h = h
marked_known section [] (e ∷ known) h = absurd h
marked_known section (b ∷ book) [] h = absurd h
marked_known section (b ∷ book) (e ∷ known) h = (h.0, go (is_loaded_as section e), marked_known section book known h.2)
  where
    go : (t : Bool) → (cond t (kept e) e ≡ b) ⊎ (cond t (kept e) e ≡ kept b)
    go true = inr (⊎_elim (λ same. ap kept same) (λ same. ap kept same) h.1)
    go false = h.1

pub unload_keeps : (book known : List Entry) (o : TraceOp) → IsKnown book known → IsKnown book (unload_in known o)
unload_keeps book known (op.Page key order) h = h
unload_keeps book known (op.Kmalloc key size) h = h
unload_keeps book known (op.Free key) h = h
unload_keeps book known (op.Split key order first) h = h
unload_keeps book known (op.Swap one two) h = h
unload_keeps book known (op.Trim key pages) h = h
unload_keeps book known (op.Hook section index) h = h
unload_keeps book known op.Unhook h = h
unload_keeps book known (op.Enter section) h = h
unload_keeps book known (op.Leave section) h = h
unload_keeps book known (op.Unload section) h = marked_known section book known h

-- one more
pub unloaded_more : (ops : List OnOp) (entries : List Entry) (i : ℕ) (d : OnOp) → i < length ops → unloaded_by (take (i + 1) ops) entries ≡ unload_in (unloaded_by (take i ops) entries) (get_or ops i d).op
unloaded_more ops entries i d low =
    ap (λ xs. unloaded_by xs entries) (take_more ops i d low)
    ∙ ap (fold unload_in entries) (map-append (λ (on : OnOp). on.op) (take i ops) (get_or ops i d ∷ []))
    ∙ fold-append unload_in entries (map (λ (on : OnOp). on.op) (take i ops)) ((get_or ops i d).op ∷ [])

-- ---- entry by entry

pub known_long : (book known : List Entry) → IsKnown book known → length known ≡ length book
known_long [] [] h = refl
known_long [] (e ∷ known) h = absurd h
known_long (b ∷ book) [] h = absurd h
known_long (b ∷ book) (e ∷ known) h = ap suc (known_long book known h.2)

known_ids : (book known : List Entry) → IsKnown book known → map (λ (e : Entry). e.id) known ≡ map (λ (e : Entry). e.id) book
known_ids [] [] h = refl
known_ids [] (e ∷ known) h = absurd h
known_ids (b ∷ book) [] h = absurd h
known_ids (b ∷ book) (e ∷ known) h = λ i. ⊎_elim {B = e ≡ kept b} (λ same. ap (λ (z : Entry). z.id) same) (λ same. ap (λ (z : Entry). z.id) same) h.1 i ∷ known_ids book known h.2 i

pub rises_by_ids : (book known : List Entry) → map (λ (e : Entry). e.id) known ≡ map (λ (e : Entry). e.id) book → Rises book → Rises known
rises_by_ids book known same rises = λ i j d less inside.
    let long : length known ≡ length book = sym (length-map known (λ (e : Entry). e.id)) ∙ (ap length same ∙ length-map book (λ (e : Entry). e.id)) in
    let one = at i d (omega (arith, less, inside)) (omega (arith, less, inside, long)) in
    let two = at j d inside (omega (arith, inside, long)) in
    omega (arith, one, two, rises i j d less (omega (arith, inside, long)))
  where
    at : (k : ℕ) (d : Entry) → k < length known → k < length book → (get_or known k d).id ≡ (get_or book k d).id
    at k d one two = sym (get_or-map (λ (e : Entry). e.id) known k d 0 one) ∙ (ap (λ ns. get_or ns k 0) same ∙ get_or-map (λ (e : Entry). e.id) book k d 0 two)

pub known_rises : (book known : List Entry) → IsKnown book known → Rises book → Rises known
known_rises book known h rises = rises_by_ids book known (known_ids book known h) rises

-- each known entry is one of the book, or that dead
pub like : (book known : List Entry) (e : Entry) → IsKnown book known → Contains known e → Member Entry book (λ b. (e ≡ b) ⊎ (e ≡ kept b))
like [] [] e h there = absurd (nobody e there)
like [] (x ∷ known) e h there = absurd h
like (b ∷ book) [] e h there = absurd h
like (b ∷ book) (x ∷ known) e h there =
    ⊎_elim (λ same. record { item = b; there = here b book; holds = subst (λ (z : Entry). (z ≡ b) ⊎ (z ≡ kept b)) same h.1 }) (λ rest. more (like book known e h.2 rest)) (member_cases x e known there)
  where
    more : Member Entry book (λ z. (e ≡ z) ⊎ (e ≡ kept z)) → Member Entry (b ∷ book) (λ z. (e ≡ z) ⊎ (e ≡ kept z))
    more m = record { item = m.item; there = later b m.item book m.there; holds = m.holds }

dead_loaded : Dead ≡ Loaded → ⊥
dead_loaded e = cc

pub known_loaded : (book known : List Entry) → IsKnown book known → Rises book → AreLoadedIn book known
known_loaded book known h rises =
    all_members (λ e. e.state ≡ Loaded → IsLoadedIn book e) known
    (λ e there loaded. let m = like book known e h there in
    let same : e ≡ m.item = ⊎_elim (λ is. is) (λ is. absurd (dead_loaded (sym (ap (λ (z : Entry). z.state) is) ∙ loaded))) m.holds in
    subst (λ o. IsSomeAnd o (λ x. (x.state ≡ Loaded) × (run_of x ≡ run_of e))) (sym (entry_is book m.item e.id rises m.there (sym (ap (λ (z : Entry). z.id) same))))
    (ap (λ (z : Entry). z.state) (sym same) ∙ loaded, ap run_of (sym same)))

-- ---- notes

note_is : (e b : Entry) → (e ≡ b) ⊎ (e ≡ kept b) → IsNoteOf e (note_of (record_of b))
note_is e b h =
    ⊎_elim (λ is. (ap (λ (z : Entry). z.id) (sym is), ap (λ (z : Entry). z.section) (sym is), ap (λ (z : Entry). z.start) (sym is), ap (λ (z : Entry). z.length) (sym is)))
    (λ is. (ap (λ (z : Entry). z.id) (sym is), ap (λ (z : Entry). z.section) (sym is), ap (λ (z : Entry). z.start) (sym is), ap (λ (z : Entry). z.length) (sym is))) h

pub known_noted : (book known : List Entry) (cpus : List CpuShown) → 1 ≤ length cpus → IsKnown book known → AreNoted known (first_notes (map record_of book) cpus)
known_noted book known [] some h = absurd (omega (arith, some))
known_noted book known (c ∷ cs) some h =
    all_members (λ e. Any (λ x. Any (IsNoteOf e) x.part.notes) (first_notes (map record_of book) (c ∷ cs))) known
    (λ e there. let m = like book known e h there in
    let n = note_of (record_of m.item) in
    let given : Contains (map note_of (map record_of book) ++ c.part.notes) n = Contains-append_left (map note_of (map record_of book)) c.part.notes n (map_has note_of (map record_of book) (record_of m.item) (map_has record_of book m.item m.there)) in
    member_any (λ (x : CpuShown). Any (IsNoteOf e) x.part.notes) (with_notes (map record_of book) c ∷ cs) (with_notes (map record_of book) c) (here (with_notes (map record_of book) c) cs)
    (member_any (IsNoteOf e) (map note_of (map record_of book) ++ c.part.notes) n given (note_is e m.item m.holds)))

-- CPUs with the same notes have noted the same
pub noted_along : (known : List Entry) (xs ys : List CpuShown) → map notes_in ys ≡ map notes_in xs → AreNoted known xs → AreNoted known ys
noted_along known xs ys same all =
    All-weaker (λ e. Any (λ c. Any (IsNoteOf e) c.part.notes) xs) (λ e. Any (λ c. Any (IsNoteOf e) c.part.notes) ys)
    (λ e h. let m = any_member (λ (c : CpuShown). Any (IsNoteOf e) c.part.notes) xs h in
    let f = map_from notes_in ys (notes_in m.item) (subst (λ ns. Contains ns (notes_in m.item)) (sym same) (map_has notes_in xs m.item m.there)) in
    member_any (λ (c : CpuShown). Any (IsNoteOf e) c.part.notes) ys f.item f.there (subst (λ ns. Any (IsNoteOf e) ns) (sym f.holds) m.holds)) known all

notes_with : (runs : List Run) (cpus : List CpuShown) → map notes_in (map (with_runs runs) cpus) ≡ map notes_in cpus
notes_with runs [] = refl
notes_with runs (c ∷ cs) = ap (λ ns. c.part.notes ∷ ns) (notes_with runs cs)

pub notes_come_in : (n : ℕ) (runs : List Run) (cpus : List CpuShown) → map notes_in (come_in n runs cpus) ≡ map notes_in cpus
notes_come_in n runs cpus =
    map-append notes_in (map (with_runs runs) (take n cpus)) (drop n cpus)
    ∙ (ap (λ ns. ns ++ map notes_in (drop n cpus)) (notes_with runs (take n cpus))
    ∙ (sym (map-append notes_in (take n cpus) (drop n cpus)) ∙ ap (map notes_in) (take-append-drop n cpus)))

-- notes stay where more are taken
pub noted_more : (known : List Entry) (records : List Record) (cpus : List CpuShown) → AreNoted known cpus → AreNoted known (first_notes records cpus)
noted_more known records [] all = all
noted_more known records (c ∷ cs) all =
    All-weaker (λ e. Any (λ x. Any (IsNoteOf e) x.part.notes) (c ∷ cs)) (λ e. Any (λ x. Any (IsNoteOf e) x.part.notes) (with_notes records c ∷ cs))
    (λ e h. more e (any_member (λ (x : CpuShown). Any (IsNoteOf e) x.part.notes) (c ∷ cs) h)) known all
  where
    front : (e : Entry) → Any (IsNoteOf e) c.part.notes → Any (IsNoteOf e) (map note_of records ++ c.part.notes)
    front e h = let m = any_member (IsNoteOf e) c.part.notes h in member_any (IsNoteOf e) (map note_of records ++ c.part.notes) m.item (behind (map note_of records) c.part.notes m.item m.there) m.holds
      where
        behind : (a b : List Note) (n : Note) → Contains b n → Contains (a ++ b) n
        behind [] b n h = h
        behind (x ∷ a) b n h = later x n (a ++ b) (behind a b n h)

    more : (e : Entry) → Member CpuShown (c ∷ cs) (λ x. Any (IsNoteOf e) x.part.notes) → Any (λ x. Any (IsNoteOf e) x.part.notes) (with_notes records c ∷ cs)
    more e m =
        ⊎_elim (λ same. member_any (λ (x : CpuShown). Any (IsNoteOf e) x.part.notes) (with_notes records c ∷ cs) (with_notes records c) (here (with_notes records c) cs) (front e (subst (λ (x : CpuShown). Any (IsNoteOf e) x.part.notes) (sym same) m.holds)))
        (λ rest. member_any (λ (x : CpuShown). Any (IsNoteOf e) x.part.notes) (with_notes records c ∷ cs) m.item (later (with_notes records c) m.item cs rest) m.holds)
        (member_cases c m.item cs m.there)

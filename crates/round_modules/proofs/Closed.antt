-- The whole end of a round: the book is what is known.
use Rattle.std.proofs.Common.{◌≡◌, ℕ, ◌≤◌, ◌==◌, ◌&&◌, not, Bool, true, List, [], ◌∷◌, map, filter, sum_by, All, IsSome, ◌⊎◌, inl, inr, refl, sym, ap, ◌∙◌, arith}
use Rattle.std.specs.List.{list_all, range_with_len}
use Rattle.std.proofs.lemmas.List.Elements.{All-weaker, filter_agree}
use Rattle.std.proofs.lemmas.List.Sums.{sum_by-cons}
use Rattle.tag_model.specs.declared.state.Kind.{Kind}
use Rattle.tag_model.specs.declared.state.Kind.TheVariants.{Bytes, Calls}
use Rattle.tag_model.specs.Wrap.{wrap}
use Rattle.percpu_words.specs.CpuWords.{word_in}
use Rattle.tag_rule.specs.Shown.{Board, CpuShown}
use Rattle.module_area.specs.declared.entry.Entry.{Entry}
use Rattle.module_area.specs.declared.entry.State.TheVariants.{Dead, Loaded}
use Rattle.module_area.specs.Area.{Area, IsBook, LiesIn}
use Rattle.module_area.specs.Entries.{Covers, entry_of, is_dead}
use Rattle.reclaim.specs.Quiet.{is_quiet_tag, is_unquiet, total}
use Rattle.reclaim.specs.State.{IsLocked, LockedShown}
use Rattle.reclaim.specs.Sweeps.{with_entries}
use Rattle.round_modules.specs.Inside.{outside}
use Rattle.round_modules.specs.Known.{AreCounted, AreHeld, SameModules, dead_unless, known_area}
use Rattle.round_modules.proofs.Alike.{found_alike}
use Rattle.round_modules.proofs.Closing.{Known, closes}
use Rattle.round_modules.proofs.Gone.{AreGone}
use Rattle.round_modules.proofs.Members.{any_member, member_any}

-- ---- CPUs with the same words

word_sum : (kind : Kind) (t : ℕ) (cs : List CpuShown) → sum_by (word_in kind t) (map outside cs) ≡ sum_by (word_in kind t) cs
word_sum kind t [] = refl
word_sum kind t (c ∷ cs) = omega (arith, sum_by-cons (word_in kind t) (outside c) (map outside cs), sum_by-cons (word_in kind t) c cs, word_sum kind t cs)

pub same_total : (kind : Kind) (t : ℕ) (xs ys : List CpuShown) → map outside ys ≡ map outside xs → total kind t ys ≡ total kind t xs
same_total kind t xs ys same = ap wrap (sym (word_sum kind t ys) ∙ (ap (sum_by (word_in kind t)) same ∙ word_sum kind t xs))

pub same_quiet_tag : (xs ys : List CpuShown) → map outside ys ≡ map outside xs → (t : ℕ) → is_quiet_tag ys t ≡ is_quiet_tag xs t
same_quiet_tag xs ys same t = λ i. (same_total Bytes t xs ys same i == 0) && (same_total Calls t xs ys same i == 0)

all_agree : (p q : ℕ → Bool) → ((n : ℕ) → p n ≡ q n) → (ns : List ℕ) → list_all p ns ≡ list_all q ns
all_agree p q same [] = refl
all_agree p q same (n ∷ ns) = λ i. same n i && all_agree p q same ns i

pub same_unquiet : (xs ys : List CpuShown) → map outside ys ≡ map outside xs → (e : Entry) → is_unquiet ys e ≡ is_unquiet xs e
same_unquiet xs ys same e = ap (λ b. not (is_dead e.state && b)) (all_agree (is_quiet_tag ys) (is_quiet_tag xs) (same_quiet_tag xs ys same) (range_with_len e.start e.length))

-- ---- what the words tell, once the CPUs are out

pub held_on : (xs ys : List CpuShown) (old new known : List Entry) → map outside ys ≡ map outside xs → ((id : ℕ) → IsSome (entry_of old id) → IsSome (entry_of new id)) → AreHeld xs old known → AreHeld ys new known
held_on xs ys old new known same found held =
    All-weaker (λ (e : Entry). e.state ≡ Dead → is_unquiet xs e ≡ true → IsSome (entry_of old e.id)) (λ (e : Entry). e.state ≡ Dead → is_unquiet ys e ≡ true → IsSome (entry_of new e.id))
    (λ e h dead unquiet. found e.id (h dead (sym (same_unquiet xs ys same e) ∙ unquiet))) known held

pub counted_on : (xs ys : List CpuShown) (first : ℕ) (old new known : List Entry) → map outside ys ≡ map outside xs → ((id : ℕ) → IsSome (entry_of old id) → IsSome (entry_of new id)) → AreCounted xs first old known → AreCounted ys first new known
counted_on xs ys first old new known same found counted t low off =
    let m = any_member (λ (e : Entry). Covers e t × ((e.state ≡ Loaded) ⊎ IsSome (entry_of old e.id))) known (counted t low (sym (same_quiet_tag xs ys same t) ∙ off)) in
    member_any (λ (e : Entry). Covers e t × ((e.state ≡ Loaded) ⊎ IsSome (entry_of new e.id))) known m.item m.there (m.holds.0, either m.item m.holds.1)
  where
    either : (e : Entry) → (e.state ≡ Loaded) ⊎ IsSome (entry_of old e.id) → (e.state ≡ Loaded) ⊎ IsSome (entry_of new e.id)
    either e (inl loaded) = inl loaded
    either e (inr some) = inr (found e.id some)

-- ---- all together

-- the list before the end, once the CPUs are out, marked and cleaned
pub entries_known : (l out marked clean : LockedShown) (xs ys : List CpuShown) (tags : ℕ) (known : List Entry) → IsLocked out → AreGone l out xs ys known
    → IsBook (known_area l.board.shape tags known) → All (λ (e : Entry). e.users ≡ 0) known
    → AreHeld xs l.area.entries known → AreCounted xs l.board.shape.kernel_tags l.area.entries known
    → ◌≡◌ {A = Area} marked.area (with_entries (map (dead_unless known) out.area.entries) out) → ◌≡◌ {A = Area} clean.area (with_entries (filter (is_unquiet ys) marked.area.entries) marked)
    → clean.area.entries ≡ filter (is_unquiet xs) known
entries_known l out marked clean xs ys tags known ok gone book unused held counted marked_is clean_is =
    let first : out.area.first ≡ l.board.shape.kernel_tags = ok.first ∙ ap (λ (b : Board). b.shape.kernel_tags) gone.same.board in
    let found : (id : ℕ) → IsSome (entry_of l.area.entries id) → IsSome (entry_of out.area.entries id) = λ id some. found_alike l.area.entries out.area.entries id gone.same.entries some in
    let k : Known ys l.board.shape.kernel_tags out.area.entries known = record {
      rises = ok.book.rising;
      apart = ok.book.apart;
      above = All-weaker (λ (e : Entry). LiesIn out.area e.start e.length) (λ (e : Entry). l.board.shape.kernel_tags ≤ e.start) (λ e lies. omega (arith, lies.0, first)) out.area.entries ok.book.in_area;
      unused_book = gone.users;
      rises_known = book.rising;
      unused_known = unused;
      loaded = gone.loaded;
      as_known = gone.as_known;
      held = held_on xs ys l.area.entries out.area.entries known gone.alike found held;
      counted = counted_on xs ys l.board.shape.kernel_tags l.area.entries out.area.entries known gone.alike found counted;
    } in
    ap (λ (a : Area). a.entries) clean_is
    ∙ (ap (λ (a : Area). filter (is_unquiet ys) a.entries) marked_is
    ∙ (closes ys l.board.shape.kernel_tags out.area.entries known k ∙ filter_agree (is_unquiet ys) (is_unquiet xs) (same_unquiet xs ys gone.alike) known))

pub first_known : (l out marked clean : LockedShown) (ys : List CpuShown) (known : List Entry) → IsLocked out → SameModules l out
    → ◌≡◌ {A = Area} marked.area (with_entries (map (dead_unless known) out.area.entries) out) → ◌≡◌ {A = Area} clean.area (with_entries (filter (is_unquiet ys) marked.area.entries) marked) → clean.area.first ≡ l.board.shape.kernel_tags
first_known l out marked clean ys known ok same marked_is clean_is = ap (λ (a : Area). a.first) clean_is ∙ (ap (λ (a : Area). a.first) marked_is ∙ (ok.first ∙ ap (λ (b : Board). b.shape.kernel_tags) same.board))

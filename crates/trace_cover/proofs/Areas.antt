-- Books whose entries change their state alone, lose some, or gain one, and the tags that they cover.
use Rattle.std.proofs.Common.{◌≡◌, ℕ, ◌+◌, ◌<◌, ◌≤◌, Bool, true, false, cond, ◌||◌, eqb, leb, ltb, List, [], ◌∷◌, length, map, AllPairs, refl, sym, ap, ◌∙◌, subst, subst₂, arith}
use Rattle.std.specs.Prelude.{◌==◌, nat_lt, ◌&&◌, if◌then◌else◌}
use Rattle.std.specs.List.{list_any}
use Rattle.std.proofs.lemmas.List.{length-map, get_or-map}
use Rattle.std.proofs.lemmas.List.Elements.{All-map, All-weaker}
use Rattle.tag_model.specs.declared.state.Tag.{Tag}
use Rattle.module_area.specs.declared.entry.Entry.{Entry}
use Rattle.module_area.specs.Area.{Area, IsBook, DifferIfLoaded, LiesIn}
use Rattle.module_area.specs.Entries.{AreApart, covers, is_loaded_as, kept}
use Rattle.module_area.proofs.BookLemmas.{KeepsRange}
use Rattle.trace_cover.specs.Cover.{has_tag, is_covered}

-- ---- pairs

pairs_map : (R : Entry → Entry → Type 0) (f : Entry → Entry) → ((a b : Entry) → R a b → R (f a) (f b)) → (xs : List Entry) → AllPairs R xs → AllPairs R (map f xs)
pairs_map R f keeps xs pairs i j d less inside =
    let within : j < length xs = omega (arith, length-map xs f) in
    subst₂ R (sym (get_or-map f xs i d d (omega arith))) (sym (get_or-map f xs j d d within)) (keeps _ _ (pairs i j d less within))

-- ---- books

pub book_map : (f : Entry → Entry) → ((e : Entry) → KeepsRange e (f e)) → (area : Area) → IsBook area → IsBook (record area { entries = map f area.entries })
book_map f keeps area book = record {
  few = omega (arith, length-map area.entries f, book.few);
  above_zero = All-map (λ e. 0 < e.id) f area.entries (All-weaker (λ e. 0 < e.id) (λ e. 0 < (f e).id) (λ e h. subst (λ n. 0 < n) (sym (keeps e).same_id) h) area.entries book.above_zero);
  rising = pairs_map (λ one other. one.id < other.id) f (λ a b h. subst₂ (λ m n. m < n) (sym (keeps a).same_id) (sym (keeps b).same_id) h) area.entries book.rising;
  some_tags = All-map (λ e. 1 ≤ e.length) f area.entries (All-weaker (λ e. 1 ≤ e.length) (λ e. 1 ≤ (f e).length) (λ e h. subst (λ n. 1 ≤ n) (sym (keeps e).same_length) h) area.entries book.some_tags);
  in_area = All-map (λ e. LiesIn area e.start e.length) f area.entries (All-weaker (λ e. LiesIn area e.start e.length) (λ e. LiesIn area (f e).start (f e).length) (λ e h. subst₂ (LiesIn area) (sym (keeps e).same_start) (sym (keeps e).same_length) h) area.entries book.in_area);
  apart = pairs_map AreApart f (λ a b h tag one two. h tag (back a tag one) (back b tag two)) area.entries book.apart;
  loaded_once = pairs_map DifferIfLoaded f (λ a b h one two same. h ((keeps a).was_loaded one) ((keeps b).was_loaded two) (sym (keeps a).same_section ∙ same ∙ (keeps b).same_section)) area.entries book.loaded_once;
  small = book.small;
}
  where
    back : (e : Entry) (tag : ℕ) → ((f e).start ≤ tag) × (tag < (f e).start + (f e).length) → (e.start ≤ tag) × (tag < e.start + e.length)
    back e tag h = let s = (keeps e).same_start in let l = (keeps e).same_length in let a = h.0 in let b = h.1 in (omega arith, omega arith)

-- an unload of a section
abbrev pub unloads : ℕ → Entry → Entry
unloads section entry = if is_loaded_as section entry then kept entry else entry

pub unloads_keeps : (section : ℕ) (e : Entry) → KeepsRange e (unloads section e)
unloads_keeps section e = by (is_loaded_as section e)
  where
    by : (b : Bool) → KeepsRange e (cond b (kept e) e)
    by true = record { same_id = refl; same_section = refl; same_start = refl; same_length = refl; was_loaded = λ h. let no : ⊥ = cc in absurd no }
    by false = record { same_id = refl; same_section = refl; same_start = refl; same_length = refl; was_loaded = λ h. h }

pub unloads_users : (section : ℕ) (e : Entry) → (unloads section e).users ≡ e.users
unloads_users section e = by (is_loaded_as section e)
  where
    by : (b : Bool) → (cond b (kept e) e).users ≡ e.users
    by true = refl
    by false = refl

-- ---- covered tags

pub covered_map : (kernel : ℕ) (f : Entry → Entry) → ((e : Entry) → KeepsRange e (f e)) → (entries : List Entry) (tag : Tag) → is_covered kernel (map f entries) tag ≡ is_covered kernel entries tag
covered_map kernel f keeps entries tag = ap (λ b. ((tag.module == 0) && nat_lt tag.number kernel) || b) (any_map entries)
  where
    one : (e : Entry) → has_tag tag (f e) ≡ has_tag tag e
    one e =
        let k = keeps e in
        ap (λ n. eqb n tag.module && covers (f e) tag.number) k.same_id
        ∙ ap (λ n. eqb e.id tag.module && (leb n tag.number && ltb tag.number (n + (f e).length))) k.same_start
        ∙ ap (λ n. eqb e.id tag.module && (leb e.start tag.number && ltb tag.number (e.start + n))) k.same_length

    any_map : (es : List Entry) → list_any (has_tag tag) (map f es) ≡ list_any (has_tag tag) es
    any_map [] = refl
    any_map (e ∷ es) = ap (λ b. b || list_any (has_tag tag) (map f es)) (one e) ∙ ap (λ b. has_tag tag e || b) (any_map es)

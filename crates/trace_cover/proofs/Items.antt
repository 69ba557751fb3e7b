-- What holds of modules and references after any first items of a checked trace, and in its rounds.
use Rattle.std.proofs.Common.{◌≡◌, ◌≢◌, ℕ, ◌+◌, ◌<◌, ◌≤◌, Bool, true, false, not, ◌||◌, List, [], ◌∷◌, ◌++◌, length, Option, Some, None, Ok, IfOk, All, is_some, refl, sym, ap, ◌∙◌, subst, arith, lt-ltb, eq-eqb}
use Rattle.std.specs.Prelude.{nat_lt, ◌&&◌, ◌==◌, if◌then◌else◌}
use Rattle.std.specs.List.{Any, list_any}
use Rattle.std.specs.Option.{unwrap_or}
use Rattle.std.proofs.lemmas.Result.{IfOk-at_ok}
use Rattle.std.proofs.lemmas.Bool.{eqb-false}
use Rattle.std.proofs.lemmas.List.Folds.{list_all-append, list_any-append, list_any-from_Any}
use Rattle.std.proofs.lemmas.List.Elements.{All-head, All-tail, All-weaker, All-push}
use Rattle.input_form.specs.declared.code.Code.{Code}
use Rattle.input_form.specs.declared.code.Code.TheVariants as code
use Rattle.input_form.proofs.Judged.{at_ok, bind_ok, checked}
use Rattle.module_area.specs.declared.entry.Entry.{Entry}
use Rattle.module_area.specs.declared.entry.State.TheVariants.{Loaded}
use Rattle.module_area.specs.Area.{LiesIn, least_start}
use Rattle.module_area.specs.Entries.{Covers, IsFree, IsLoadedAs, is_dead, is_loaded_as, is_loaded_at, meets}
use Rattle.module_area.proofs.BookLemmas.{IsBook-push}
use Rattle.module_area.proofs.EntryLemmas.{find_none}
use Rattle.core_list.proofs.Room.{least_is_free}
use Rattle.trace.specs.declared.traces.Item.{Item}
use Rattle.trace.specs.declared.traces.Item.TheVariants as item
use Rattle.trace.specs.declared.traces.OnOp.{OnOp}
use Rattle.trace.specs.declared.traces.Trace.{Trace}
use Rattle.trace.specs.Formed.{IsFormedOn, IsFormedItem, IsFormedTrace}
use Rattle.round_check.specs.declared.walk.Walk.{Walk}
use Rattle.round_check.specs.Formed.{FitsItem}
use Rattle.round_check.specs.Rounds.{IsRound}
use Rattle.round_check.specs.Walk.{begun, load_module, module_at, rounds_of, start, walk_item, walk_items, walk_ops}
use Rattle.round_check.proofs.Pairs.{all_behind, all_front, fits_item, round_of}
use Rattle.trace_play.specs.Machine.{Machine, machine_of}
use Rattle.trace_play.specs.Barrier.{all_home, cpus_done, is_named, modules_done, round_done}
use Rattle.trace_play.specs.Play.{Outcome, Played, item_played, load_refusal, loaded, nothing_played, play, played_so_far, refusal_of, section_len, unless_room}
use Rattle.trace_play.specs.Fits.{RoundFits}
use Rattle.trace_play.specs.Ready.{IsReady}
use Rattle.trace_play.specs.Sound.{IsSound}
use Rattle.trace_play.proofs.Told.{not_true}
use Rattle.trace_play.proofs.TraceFits.{Between, begins_between, fits_of_round, item_between}
use Rattle.trace_play.proofs.MachineSound.{first_sound, item_sound}
use Rattle.trace_play.proofs.ModulesHold.{is_loaded, loaded_one}
use Rattle.trace_play.proofs.ReadyHolds.{Modules, first_modules, item_modules, ready_round}
use Rattle.trace_cover.specs.Cover.{AreNamed, IsOfSection, has_tag, is_covered}
use Rattle.trace_cover.proofs.Holds.{Covered, before_cleaning, cleaned_covered, cleaned_named, may_more}

-- all that is carried from item to item
pub record Holds (trace : Trace) (walk : Walk) (m : Machine) : Type 0 where
  pub sound : IsSound m
  pub modules_are : Modules trace walk m
  pub covered : Covered trace m
  pub named : AreNamed m

-- ---- `load`

record HasGap (line size : ℕ) (m : Machine) : Type 0 where
  few : length m.area.entries ≢ 64
  start : ℕ
  is : least_start m.area size ≡ Some start

has_gap : (line size : ℕ) (m : Machine) → load_refusal line size m ≡ None → HasGap line size m
has_gap line size m none = by_count (length m.area.entries == 64) refl none
  where
    by_start : length m.area.entries ≢ 64 → (o : Option ℕ) → least_start m.area size ≡ o → unless_room line o ≡ None → HasGap line size m
    by_start few None is none = let no : ⊥ = cc in absurd no
    by_start few (Some start) is none = record { few = few; start = start; is = is }

    by_count : (b : Bool) → (length m.area.entries == 64) ≡ b → (if b then Some (line, code.Full) else unless_room line (least_start m.area size)) ≡ None → HasGap line size m
    by_count true e none = let no : ⊥ = cc in absurd no
    by_count false e none = by_start (eqb-false _ _ e) (least_start m.area size) refl none

unmet_free : (entries : List Entry) (start size : ℕ) → list_any (λ e. meets e start size) entries ≡ false → IsFree entries start size
unmet_free entries start size none tag low high covered = by entries none covered
  where
    meets_at : (e : Entry) → Covers e tag → meets e start size ≡ true
    meets_at e at = both _ _ (lt-ltb e.start (start + size) (omega (arith, at.0, high))) (lt-ltb start (e.start + e.length) (omega (arith, at.1, low)))
      where
        both : (p q : Bool) → p ≡ true → q ≡ true → (p && q) ≡ true
        both true q p r = r
        both false q p r = p

    by : (es : List Entry) → list_any (λ e. meets e start size) es ≡ false → Any (λ e. Covers e tag) es → ⊥
    by es none any = let is = list_any-from_Any (λ e. meets e start size) es (any.0, any.1, any.2, any.3, meets_at any.1 any.4) in let no : ⊥ = cc (none, is) in no

load_covered : (trace : Trace) (line section : ℕ) (m : Machine) → 0 < section_len trace section → section < length trace.sections → loaded_one section m.area.entries ≡ None → HasGap line (section_len trace section) m → Covered trace m → Covered trace (loaded section (section_len trace section) m)
load_covered trace line section m some inside none g c =
    let size = section_len trace section in
    let free = least_is_free m.area size g.start g.is in
    let start_is : g.start ≡ unwrap_or (least_start m.area size) 0 = ap (λ o. unwrap_or o 0) (sym g.is) in
    let new : Entry = record { id = m.last_id + 1; section = section; start = unwrap_or (least_start m.area size) 0; length = size; state = Loaded; users = 0 } in
    record {
      book = IsBook-push m.area.entries m.area.first m.area.tags c.book new (omega (arith, c.book.few, g.few)) (omega arith)
          (All-weaker (λ (e : Entry). e.id ≤ m.last_id) (λ e. e.id < m.last_id + 1) (λ e h. omega (arith, h)) m.area.entries c.given)
          (All-weaker (λ (e : Entry). is_loaded_as section e ≡ false) (λ e. ¬ IsLoadedAs section e) (λ e h is. unloaded e h is) m.area.entries (find_none (is_loaded_as section) m.area.entries none))
          some
          (subst (λ s. LiesIn m.area s size) start_is (free.low, free.high))
          (subst (λ s. IsFree m.area.entries s size) start_is (unmet_free m.area.entries g.start size free.unmet));
      first = c.first;
      tags = c.tags;
      named = All-push (IsOfSection trace) m.area.entries new c.named (inside, refl);
      given = All-push (λ (e : Entry). e.id ≤ m.last_id + 1) m.area.entries new (All-weaker (λ (e : Entry). e.id ≤ m.last_id) (λ e. e.id ≤ m.last_id + 1) (λ e h. omega (arith, h)) m.area.entries c.given) (omega arith);
      unused = All-push (λ (e : Entry). e.users ≡ 0) m.area.entries new c.unused refl;
      refs = may_more (is_covered (section_len trace 0) m.area.entries) (is_covered (section_len trace 0) (m.area.entries ++ new ∷ []))
          (λ tag h.
          let kernel_has = (tag.module == 0) && nat_lt tag.number (section_len trace 0) in
          ap (λ b. kernel_has || b) (list_any-append (has_tag tag) m.area.entries (new ∷ [])) ∙ more kernel_has (list_any (has_tag tag) m.area.entries) (list_any (has_tag tag) (new ∷ [])) h)
          m.live c.refs;
    }
  where
    unloaded : (e : Entry) → is_loaded_as section e ≡ false → IsLoadedAs section e → ⊥
    unloaded e h is = let t : is_loaded_at e.state e.section section ≡ (e.section == section) = ap (λ s. is_loaded_at s e.section section) is.0 in let u : (e.section == section) ≡ true = eq-eqb _ _ is.1 in let no : ⊥ = cc (h, t, u) in no

    more : (a b d : Bool) → (a || b) ≡ true → (a || (b || d)) ≡ true
    more true b d e = refl
    more false true d e = refl
    more false false d e = let no : ⊥ = cc in absurd no

-- ---- an item

pub loaded_told : (walk : Walk) (section : ℕ) → IfOk (load_module walk section) (λ next. is_loaded walk section ≡ false)
unfolding load_module
loaded_told walk section = checked (λ (next : Walk). is_loaded walk section ≡ false) (not (module_at walk section).loaded) (code.AlreadyLoaded section) _ (λ none. not_true _ none)

pub none_of : (o : Option Entry) → is_some o ≡ false → o ≡ None
none_of None e = refl
none_of (Some x) e = let no : ⊥ = cc in absurd no

module _ (trace : Trace) (formed : IsFormedTrace trace) where
  round_holds : (top : Option ℕ) (ops : List OnOp) (walk next : Walk) (p : Played) → FitsItem (item.Round ops) → IsFormedItem trace.cpus trace.sections (item.Round ops) → walk_item (item.Round ops) walk ≡ Ok next → Between trace walk p.machine → Holds trace walk p.machine → Covered trace (round_done ops p.machine)
  unfolding walk_item
  round_holds top ops walk next p are form e b h =
      let f = fits_of_round trace ops walk next p.machine are form b e in
      cleaned_covered trace (all_home (modules_done ops (cpus_done ops p.machine))) (before_cleaning trace ops (begun walk) p.machine b.rise f (ready_round trace ops walk p.machine formed.cpus.1 are form b h.modules_are h.sound f) h.covered)

  load_holds : (top : Option ℕ) (line section : ℕ) (walk next : Walk) (p : Played) → IsFormedItem trace.cpus trace.sections (item.Load line section) → walk_item (item.Load line section) walk ≡ Ok next → refusal_of trace (item.Load line section) p ≡ None → Modules trace walk p.machine → Covered trace p.machine → Covered trace (loaded section (section_len trace section) p.machine)
  unfolding walk_item
  load_holds top line section walk next p form e none h c =
      let told : is_loaded walk section ≡ false = IfOk-at_ok (λ (x : Walk). is_loaded walk section ≡ false) (at_ok line (load_module walk section) next e) (loaded_told walk section) in
      load_covered trace line section p.machine (formed.tags section form.1) form.1 (none_of (loaded_one section p.machine.area.entries) (sym (h.agree section) ∙ told)) (has_gap line (section_len trace section) p.machine none) c

  item_holds : (top : Option ℕ) (what : Item) (walk next : Walk) (p : Played) → FitsItem what → IsFormedItem trace.cpus trace.sections what → walk_item what walk ≡ Ok next → refusal_of trace what p ≡ None → Between trace walk p.machine → Holds trace walk p.machine → Holds trace next (item_played trace top what p).machine
  item_holds top what walk next p are form e none b h = record {
    sound = item_sound trace top what walk next p are form e b h.sound;
    modules_are = item_modules trace formed.cpus.1 top what walk next p are form e b h.modules_are;
    covered = by_cover what are form e none;
    named = by_name what;
  }
    where
      by_cover : (what : Item) → FitsItem what → IsFormedItem trace.cpus trace.sections what → walk_item what walk ≡ Ok next → refusal_of trace what p ≡ None → Covered trace (item_played trace top what p).machine
      by_cover (item.Round ops) are form e none = round_holds top ops walk next p are form e b h
      by_cover (item.Load line section) are form e none = load_holds top line section walk next p form e none h.modules_are h.covered
      by_cover item.Print are form e none = h.covered
      by_cover item.Areas are form e none = h.covered

      by_name : (what : Item) → AreNamed (item_played trace top what p).machine
      by_name (item.Round ops) = cleaned_named (all_home (modules_done ops (cpus_done ops p.machine)))
      by_name (item.Load line section) =
          list_all-append (λ (e : Entry). not (is_dead e.state) || is_named e.id p.machine) p.machine.area.entries _
          ∙ ap (λ b. b && true) h.named
      by_name item.Print = h.named
      by_name item.Areas = h.named

  -- ---- the items

  -- items of which none is refused
  pub items_hold : (top : Option ℕ) (items : List Item) (walk next : Walk) (p : Played) → All FitsItem items → All (IsFormedItem trace.cpus trace.sections) items → walk_items items walk ≡ Ok next → Between trace walk p.machine → Holds trace walk p.machine → (play trace top items p).refused ≡ None
      → Between trace next (play trace top items p).played.machine × Holds trace next (play trace top items p).played.machine
  items_hold top [] walk next p are form e b h none = let same : walk ≡ next = cc in subst (λ (x : Walk). Between trace x p.machine × Holds trace x p.machine) same (b, h)
  items_hold top (what ∷ items) walk next p are form e b h none =
      let first = bind_ok (walk_item what walk) (λ x. walk_items items x) next e in
      let fits = All-head FitsItem what items are in
      let one = All-head (IsFormedItem trace.cpus trace.sections) what items form in
      let mid = item_between trace top what walk first.0 p fits one first.1 b in
      elim (refusal_of trace what p) as (λ (why : Option (ℕ × Code)). refusal_of trace what p ≡ why → (elim why as (λ _. Outcome) [ None ↦ play trace top items (item_played trace top what p) | Some w ↦ record { played = p; refused = Some w } ]).refused ≡ None
      → Between trace next (elim why as (λ _. Outcome) [ None ↦ play trace top items (item_played trace top what p) | Some w ↦ record { played = p; refused = Some w } ]).played.machine
      × Holds trace next (elim why as (λ _. Outcome) [ None ↦ play trace top items (item_played trace top what p) | Some w ↦ record { played = p; refused = Some w } ]).played.machine) [
        | None ↦ λ same g. items_hold top items first.0 next (item_played trace top what p) (All-tail FitsItem what items are) (All-tail (IsFormedItem trace.cpus trace.sections) what items form) first.2 mid (item_holds top what walk first.0 p fits one first.1 same b h) g
        | Some w ↦ λ same g. let no : ⊥ = cc in absurd no
      ] refl none

  -- any first items
  pub front_holds : (top : Option ℕ) (items back : List Item) (walk end : Walk) (p : Played) → All FitsItem (items ++ back) → All (IsFormedItem trace.cpus trace.sections) (items ++ back) → walk_items (items ++ back) walk ≡ Ok end → Between trace walk p.machine → Holds trace walk p.machine
      → (mid : Walk) × Holds trace mid (play trace top items p).played.machine
  front_holds top [] back walk end p are form e b h = (walk, h)
  front_holds top (what ∷ items) back walk end p are form e b h =
      let first = bind_ok (walk_item what walk) (λ x. walk_items (items ++ back) x) end e in
      let fits = All-head FitsItem what (items ++ back) are in
      let one = All-head (IsFormedItem trace.cpus trace.sections) what (items ++ back) form in
      let mid = item_between trace top what walk first.0 p fits one first.1 b in
      elim (refusal_of trace what p) as (λ (why : Option (ℕ × Code)). refusal_of trace what p ≡ why → (x : Walk) × Holds trace x (elim why as (λ _. Outcome) [ None ↦ play trace top items (item_played trace top what p) | Some w ↦ record { played = p; refused = Some w } ]).played.machine) [
        | None ↦ λ same. front_holds top items back first.0 end (item_played trace top what p) (All-tail FitsItem what (items ++ back) are) (All-tail (IsFormedItem trace.cpus trace.sections) what (items ++ back) form) first.2 mid (item_holds top what walk first.0 p fits one first.1 same b h)
        | Some w ↦ λ same. (walk, h)
      ] refl

  -- ---- the first machine

  first_covered : Covered trace (machine_of trace)
  first_covered = record {
    book = record {
      few = omega arith;
      above_zero = λ n d low. absurd (omega arith);
      rising = λ i j d less low. absurd (omega arith);
      some_tags = λ n d low. absurd (omega arith);
      in_area = λ n d low. absurd (omega arith);
      apart = λ i j d less low. absurd (omega arith);
      loaded_once = λ i j d less low. absurd (omega arith);
      small = omega (arith, formed.area);
    };
    first = refl;
    tags = refl;
    named = λ n d low. absurd (omega arith);
    given = λ n d low. absurd (omega arith);
    unused = λ n d low. absurd (omega arith);
    refs = tt;
  }

  first_holds : Holds trace start (machine_of trace)
  first_holds = record { sound = first_sound trace; modules_are = first_modules trace formed.cpus.1; covered = first_covered; named = refl }

  all_fit : All FitsItem trace.body
  all_fit = All-weaker (IsFormedItem trace.cpus trace.sections) FitsItem (λ i is. fits_item trace.cpus trace.sections i formed.cpus.1 formed.sections.few is) trace.body formed.items

  pub after_front : (top : Option ℕ) → rounds_of trace ≡ Ok tt → (front back : List Item) → trace.body ≡ front ++ back → (mid : Walk) × Holds trace mid (played_so_far trace top front).played.machine
  unfolding rounds_of
  after_front top passes front back stands =
      let end = bind_ok (walk_items trace.body start) (λ walk. Ok tt) tt passes in
      front_holds top front back start end.0 (nothing_played trace) (subst (All FitsItem) stands all_fit) (subst (All (IsFormedItem trace.cpus trace.sections)) stands formed.items) (subst (λ xs. walk_items xs start ≡ Ok end.0) stands end.1)
      (begins_between trace) first_holds

  -- what is known as a round begins
  pub record AtRound (ops : List OnOp) (before after : Walk) (m : Machine) : Type 0 where
    pub walk : Walk
    pub begins : before ≡ begun walk
    pub between : Between trace walk m
    pub holds_now : Holds trace walk m
    pub fits : RoundFits ops before m
    pub same : fits.after ≡ after
    pub ready : IsReady trace ops before after m
    pub formed_ops : All (IsFormedOn trace.cpus trace.sections) ops
    pub fit_ops : FitsItem (item.Round ops)

  pub at_round : (top : Option ℕ) (ops : List OnOp) (before after : Walk) → rounds_of trace ≡ Ok tt → (round : IsRound trace ops before) → (played_so_far trace top round.front).refused ≡ None → walk_ops ops before ≡ Ok after
      → AtRound ops before after (played_so_far trace top round.front).played.machine
  at_round top ops before after passes round none walked =
      let forms = subst (All (IsFormedItem trace.cpus trace.sections)) round.stands formed.items in
      let here = items_hold top round.front start round.left (nothing_played trace)
      (all_front FitsItem round.front (item.Round ops ∷ round.back) (subst (All FitsItem) round.stands all_fit))
      (all_front (IsFormedItem trace.cpus trace.sections) round.front (item.Round ops ∷ round.back) forms)
      round.walked (begins_between trace) first_holds none in
      let m = (played_so_far trace top round.front).played.machine in
      let r = round_of trace ops before formed passes round in
      let form = (all_behind (IsFormedItem trace.cpus trace.sections) round.front (item.Round ops) round.back forms).0 in
      let f = fits_of_round trace ops round.left after m r.are form here.0 (subst (λ (x : Walk). walk_ops ops x ≡ Ok after) round.begins walked) in
      let same : f.after ≡ after = cc (f.walked, walked, round.begins) in
      let ready = ready_round trace ops round.left m formed.cpus.1 r.are form here.0 here.1.modules_are here.1.sound f in
      subst (λ (x : Walk). AtRound ops x after m) (sym round.begins)
      (record {
        walk = round.left;
        begins = refl;
        between = here.0;
        holds_now = here.1;
        fits = f;
        same = same;
        ready = subst (λ (y : Walk). IsReady trace ops (begun round.left) y m) same ready;
        formed_ops = form;
        fit_ops = r.are;
      })

-- A node stays sound when it gives storage and when storage comes home.
use Rattle.std.proofs.Common.{◌≡◌, ◌≢◌, ℕ, zero, suc, ◌+◌, ◌-◌, ◌^◌, ◌<◌, ◌≤◌, ◌⊎◌, Bool, true, false, cond, not, eqb, leb, ltb, List, [], ◌∷◌, length, set, get_or, replicate, Option, Some, None, unwrap_or, inl, inr, refl, sym, ap, ◌∙◌, subst, subst₂, arith, eqb-true, eq-eqb, ne_eqb, leb-true, leb-false, ltb-true, ltb-false, le-leb, lt-ltb, set-set, add-zero}
use Rattle.std.specs.Prelude.{◌&&◌, position}
use Rattle.std.specs.Bool.{⊤}
use Rattle.std.specs.List.{find, list_any, list_all, position_or_len}
use Rattle.std.proofs.lemmas.List.Quantifiers.{position-Some}
use Rattle.std.specs.Option.{option_map}
use Rattle.std.proofs.lemmas.Bool.{cond-true, cond-false, eqb-false, and_parts}
use Rattle.std.proofs.lemmas.Grind.{get_or-set_at}
use Rattle.std.proofs.lemmas.List.{length-set, get_or-set_other, length-replicate}
use Rattle.std.proofs.lemmas.Nat.{pow_pos}
use Rattle.tag_model.specs.declared.state.Tag.{Tag}
use Rattle.tag_model.specs.declared.state.Held.{Held}
use Rattle.tag_model.specs.declared.state.Held.TheVariants as held
use Rattle.tag_model.specs.RefMoves.{reference_to, close_moves}
use Rattle.buddy.specs.Frames.{marked}
use Rattle.buddy.proofs.FrameLemmas.{all_within, all_at, least_told, length-marked, marked_inside, marked_outside}
use Rattle.slab_cache.specs.Classes.{classes, class_of, slab_order, objects_in, order_of}
use Rattle.slab_cache.specs.Slabs.{Slab, NodeState, slab_at, with_slab, with_pages, with_vector, lowest_vector, open_frame, free_place, with_place, is_used, is_open, new_slab, slab_held}
use Rattle.slab_cache.specs.Storage.{Storage, Pages, Object, Uncounted, home_of, object_at}
use Rattle.slab_cache.specs.Giving.{Given, block_from, given_block, object_from, with_new_slab, object_from_new, slab_or_new, object_or_block, given_object, start_in}
use Rattle.slab_cache.specs.Homing.{Taken, come_home, place_home, without_slab}
use Rattle.trace_play.specs.Owned.{one_if, is_in, has_frame, same_vector, is_object_at, has_cell_of, is_taken, slab_has_frame, slab_has_vector, is_taken_at, slab_has_cell, places_of, slabs_sum, NodeSound}
use Rattle.round_check.proofs.Named.{by_bool}
use Rattle.slab_cache.proofs.GivenLemmas.{slabs_of_vector}

-- ---- tests

pub same_number : (n : ℕ) → eqb n n ≡ true
same_number n = eq-eqb n n refl

in_range : (frame start order : ℕ) → is_in frame start order ≡ true → (start ≤ frame) × (frame < start + 2 ^ order)
in_range frame start order e = let b = and_parts (leb start frame) (ltb frame (start + 2 ^ order)) e in (leb-true start frame b.0, ltb-true frame (start + 2 ^ order) b.1)

out_of_range : (frame start order : ℕ) → is_in frame start order ≡ false → (frame < start) ⊎ (start + 2 ^ order ≤ frame)
out_of_range frame start order e =
    by_bool (leb start frame)
    (λ low. by_bool {P = (frame < start) ⊎ (start + 2 ^ order ≤ frame)} (ltb frame (start + 2 ^ order)) (λ high. let no : ⊥ = cc (e, low, high, ap (λ b. b && ltb frame (start + 2 ^ order)) low) in absurd no) (λ high. inr (ltb-false frame (start + 2 ^ order) high)))
    (λ low. inl (leb-false start frame low))

pub is_in_it : (frame start order : ℕ) → start ≤ frame → frame < start + 2 ^ order → is_in frame start order ≡ true
is_in_it frame start order low high = ap (λ b. b && ltb frame (start + 2 ^ order)) (le-leb start frame low) ∙ lt-ltb frame (start + 2 ^ order) high

pub starts_in : (start order : ℕ) → is_in start start order ≡ true
starts_in start order = let some = pow_pos order in is_in_it start start order (omega arith) (omega arith)

-- ---- marks

marked_at_frame : (b : Bool) (start order : ℕ) (frames : List Bool) (frame : ℕ) → start + 2 ^ order ≤ length frames → get_or (marked b start order frames) frame false ≡ cond (is_in frame start order) b (get_or frames frame false)
marked_at_frame b start order frames frame within =
    by_bool (is_in frame start order)
    (λ e. let r = in_range frame start order e in marked_inside b false start order frames frame within r.0 r.1 ∙ sym (cond-true (is_in frame start order) b (get_or frames frame false) e))
    (λ e. marked_outside b false start order frames frame within (out_of_range frame start order e) ∙ sym (cond-false (is_in frame start order) b (get_or frames frame false) e))

-- one more has it
one_more : (h s : ℕ) (t b : Bool) → h + s ≡ one_if t → (b ≡ true → t ≡ false) → (h + one_if b) + s ≡ one_if (cond b true t)
one_more h s true true e free = let no : ⊥ = cc (free refl) in absurd no
one_more h s false true e free = omega arith
one_more h s t false e free = omega arith

-- one less has it
one_less : (h less s : ℕ) (t b : Bool) → h ≡ one_if b + less → h + s ≡ one_if t → less + s ≡ one_if (cond b false t)
one_less h less s true true is e = omega arith
one_less h less s false true is e = absurd (omega arith)
one_less h less s t false is e = omega arith

was_so : (h less s : ℕ) (t b : Bool) → h ≡ one_if b + less → h + s ≡ one_if t → b ≡ true → t ≡ true
was_so h less s true b is e so = refl
was_so h less s false true is e so = absurd (omega arith)
was_so h less s false false is e so = let no : ⊥ = cc in absurd no

-- ---- sums over slabs

sum_set : (weight : ℕ → Option Slab → ℕ) (from : ℕ) (slabs : List (Option Slab)) (i : ℕ) (x : Option Slab) → i < length slabs
    → slabs_sum weight from (set slabs i x) + weight (from + i) (get_or slabs i None) ≡ slabs_sum weight from slabs + weight (from + i) x
sum_set weight from [] i x below = absurd (omega arith)
sum_set weight from (y ∷ ys) zero x below = let e : from + 0 ≡ from = omega arith in
    subst (λ n. weight from x + slabs_sum weight (from + 1) ys + weight n y ≡ weight from y + slabs_sum weight (from + 1) ys + weight n x) (sym e) (omega arith)
sum_set weight from (y ∷ ys) (suc i) x below =
    let later = sum_set weight (from + 1) ys i x (omega arith) in
    let e : from + 1 + i ≡ from + suc i = omega arith in
    let again : slabs_sum weight (from + 1) (set ys i x) + weight (from + suc i) (get_or ys i None) ≡ slabs_sum weight (from + 1) ys + weight (from + suc i) x =
    subst (λ n. slabs_sum weight (from + 1) (set ys i x) + weight n (get_or ys i None) ≡ slabs_sum weight (from + 1) ys + weight n x) e later in
    omega arith

-- where the new slab weighs as the old one the sum stays
pub sum_stays : (weight : ℕ → Option Slab → ℕ) (slabs : List (Option Slab)) (i : ℕ) (x : Option Slab) → i < length slabs → weight i x ≡ weight i (get_or slabs i None) → slabs_sum weight 0 (set slabs i x) ≡ slabs_sum weight 0 slabs
sum_stays weight slabs i x below e = let s = sum_set weight 0 slabs i x below in let z : 0 + i ≡ i = omega arith in
    let t : slabs_sum weight 0 (set slabs i x) + weight i (get_or slabs i None) ≡ slabs_sum weight 0 slabs + weight i x = subst (λ n. slabs_sum weight 0 (set slabs i x) + weight n (get_or slabs i None) ≡ slabs_sum weight 0 slabs + weight n x) z s in
    omega (arith, e)

pub sum_at : (weight : ℕ → Option Slab → ℕ) (slabs : List (Option Slab)) (i : ℕ) (x : Option Slab) → i < length slabs → slabs_sum weight 0 (set slabs i x) + weight i (get_or slabs i None) ≡ slabs_sum weight 0 slabs + weight i x
sum_at weight slabs i x below = let s = sum_set weight 0 slabs i x below in let z : 0 + i ≡ i = omega arith in
    subst (λ n. slabs_sum weight 0 (set slabs i x) + weight n (get_or slabs i None) ≡ slabs_sum weight 0 slabs + weight n x) z s

-- a slab is one of them
pub sum_has : (weight : ℕ → Option Slab → ℕ) (slabs : List (Option Slab)) (i : ℕ) → i < length slabs → weight i None ≡ 0 → weight i (get_or slabs i None) ≤ slabs_sum weight 0 slabs
sum_has weight slabs i below none = let s = sum_at weight slabs i None below in omega (arith, none)

-- who has a slab is in the list
pub has_slab_within : (slabs : List (Option Slab)) (i : ℕ) (slab : Slab) → get_or slabs i None ≡ Some slab → i < length slabs
has_slab_within [] i slab e = let no : ⊥ = cc in absurd no
has_slab_within (x ∷ xs) zero slab e = omega arith
has_slab_within (x ∷ xs) (suc i) slab e = let below = has_slab_within xs i slab e in omega arith

pub taken_within : (frames : List Bool) (i : ℕ) → get_or frames i false ≡ true → i < length frames
taken_within [] i e = let no : ⊥ = cc in absurd no
taken_within (x ∷ xs) zero e = omega arith
taken_within (x ∷ xs) (suc i) e = let below = taken_within xs i e in omega arith

slab_set_at : (slabs : List (Option Slab)) (i j : ℕ) (x : Option Slab) → i < length slabs → get_or (set slabs i x) j None ≡ cond (eqb j i) x (get_or slabs j None)
slab_set_at slabs i j x below =
    by_bool (eqb j i)
    (λ e. get_or-set_at slabs i j x None (eqb-true j i e) below ∙ sym (cond-true (eqb j i) x (get_or slabs j None) e))
    (λ e. get_or-set_other slabs i j x None (eqb-false j i e) ∙ sym (cond-false (eqb j i) x (get_or slabs j None) e))

bool_set_at : (bits : List Bool) (i j : ℕ) (x : Bool) → i < length bits → get_or (set bits i x) j false ≡ cond (eqb j i) x (get_or bits j false)
bool_set_at bits i j x below =
    by_bool (eqb j i)
    (λ e. get_or-set_at bits i j x false (eqb-true j i e) below ∙ sym (cond-true (eqb j i) x (get_or bits j false) e))
    (λ e. get_or-set_other bits i j x false (eqb-false j i e) ∙ sym (cond-false (eqb j i) x (get_or bits j false) e))

-- ---- a block is given

pub own_home : (c : ℕ) (b : Bool) → one_if (eqb c c && b) ≡ one_if b
own_home c b = ap (λ t. one_if (t && b)) (same_number c)

module _ (node : NodeState) (all all' : (Storage → ℕ) → ℕ) (sound : NodeSound node all) where
  pub block_given : (tag : Option Tag) (order start : ℕ) → start_in order node ≡ Some start → ((weight : Storage → ℕ) → all' weight ≡ all weight + weight (block_from tag order node start).storage) → NodeSound (block_from tag order node start).node all'
  block_given tag order start found more =
      let frames = node.node.frames in
      let c = node.node.cpu in
      let is = (least_told frames order start found).is in
      let within : start + 2 ^ order ≤ length frames = all_within false frames start order is.free in
      record {
        long = sound.long ∙ sym (length-marked true start order frames within);
        frames = λ frame.
            let b = is_in frame start order in
            let h : all' (has_frame c frame) ≡ all (has_frame c frame) + one_if b = more (has_frame c frame) ∙ ap (λ n. all (has_frame c frame) + n) (own_home c b) in
            ap (λ n. n + slabs_sum (slab_has_frame frame) 0 node.slabs) h
            ∙ one_more (all (has_frame c frame)) (slabs_sum (slab_has_frame frame) 0 node.slabs) (get_or frames frame false) b (sound.frames frame)
            (λ e. let r = in_range frame start order e in all_at false false frames start order frame is.free r.0 r.1)
            ∙ sym (ap one_if (marked_at_frame true start order frames frame within));
        objects = λ frame place vector. more (is_object_at c frame place vector) ∙ (let z : all (is_object_at c frame place vector) + 0 ≡ all (is_object_at c frame place vector) = omega arith in z) ∙ sound.objects frame place vector;
        vectors = sound.vectors;
        cells = λ vector place. more (has_cell_of c vector place) ∙ (let z : all (has_cell_of c vector place) + 0 ≡ all (has_cell_of c vector place) = omega arith in z) ∙ sound.cells vector place;
        few = sound.few;
      }

-- ---- a place of a slab is taken

same_slab_frame : (frame start : ℕ) (a b : Slab) → a.class ≡ b.class → slab_has_frame frame start (Some a) ≡ slab_has_frame frame start (Some b)
same_slab_frame frame start a b e = ap (λ class. one_if (is_in frame start (slab_order class))) e

any_place : (places : List Bool) → list_any not places ≡ true → position_or_len not places < length places
any_place [] e = let no : ⊥ = cc in absurd no
any_place (true ∷ places) e = let rest = any_place places e in omega arith
any_place (false ∷ places) e = omega arith

was_false : (b : Bool) → not b ≡ true → b ≡ false
was_false true e = let no : ⊥ = cc in absurd no
was_false false e = refl

first_free : (places : List Bool) → list_any not places ≡ true → (get_or places (unwrap_or (position not places) 0) false ≡ false) × (unwrap_or (position not places) 0 < length places)
first_free places e =
    let i = position_or_len not places in
    let below : i < length places = any_place places e in
    let found : position not places ≡ Some i = cond-true (ltb i (length places)) (Some i) None (lt-ltb i (length places) below) in
    let same : unwrap_or (position not places) 0 ≡ i = ap (λ o. unwrap_or o 0) found in
    let told = position-Some not places i false found in
    (ap (λ n. get_or places n false) same ∙ was_false (get_or places i false) told.1, subst (λ n. n < length places) (sym same) below)

-- ---- a place taken, and a place free again

place_taken : (places : List Bool) (place p : ℕ) (own : Bool) → get_or places place false ≡ false → place < length places
    → one_if (get_or (set places place true) p false && own) ≡ one_if (get_or places p false && own) + one_if (eqb place p && own)
place_taken places place p own free below =
    by_bool (eqb p place)
    (λ e.
    let same : p ≡ place = eqb-true p place e in
    subst (λ n. one_if (get_or (set places place true) n false && own) ≡ one_if (get_or places n false && own) + one_if (eqb place n && own)) (sym same)
    (ap (λ b. one_if (b && own)) (get_or-set_at places place place true false refl below)
    ∙ (let z : one_if own ≡ 0 + one_if own = omega arith in z)
    ∙ (λ i. one_if (sym free i && own) + one_if (sym (same_number place) i && own))))
    (λ e.
    let other : eqb place p ≡ false = ne_eqb place p (λ h. eqb-false p place e (sym h)) in
    ap (λ b. one_if (b && own)) (get_or-set_other places place p true false (eqb-false p place e))
    ∙ sym (ap (λ b. one_if (get_or places p false && own) + one_if (b && own)) other ∙ add-zero _))

place_free : (places : List Bool) (place p : ℕ) (own : Bool) → get_or places place false ≡ true
    → one_if (get_or places p false && own) ≡ one_if (eqb place p && own) + one_if (get_or (set places place false) p false && own)
place_free places place p own taken =
    let below : place < length places = taken_within places place taken in
    by_bool (eqb p place)
    (λ e.
    let same : p ≡ place = eqb-true p place e in
    subst (λ n. one_if (get_or places n false && own) ≡ one_if (eqb place n && own) + one_if (get_or (set places place false) n false && own)) (sym same)
    (ap (λ b. one_if (b && own)) taken
    ∙ sym ((λ i. one_if (same_number place i && own) + one_if (get_or-set_at places place place false false refl below i && own)) ∙ add-zero _)))
    (λ e.
    let other : eqb place p ≡ false = ne_eqb place p (λ h. eqb-false p place e (sym h)) in
    let z : one_if (get_or places p false && own) ≡ 0 + one_if (get_or places p false && own) = omega arith in
    z
    ∙ sym (λ i. one_if (other i && own) + one_if (get_or-set_other places place p false false (eqb-false p place e) i && own)))

no_frame : (c f home frame place : ℕ) (vector : Option ℕ) (holds : Held) → has_frame c f (object_at home frame place vector holds) ≡ 0
no_frame c f home frame place None holds = refl
no_frame c f home frame place (Some v) holds = refl

object_weight : (c f p : ℕ) (v : Option ℕ) (frame place : ℕ) (own : Option ℕ) (holds : Held) → is_object_at c f p v (object_at c frame place own holds) ≡ one_if (eqb frame f && (eqb place p && same_vector v own))
object_weight c f p v frame place None holds = own_home c (eqb frame f && (eqb place p && same_vector v None))
object_weight c f p v frame place (Some u) holds = own_home c (eqb frame f && (eqb place p && same_vector v (Some u)))

never_both : (b : Bool) → one_if (b && false) ≡ 0
never_both true = refl
never_both false = refl

cell_weight : (c v p frame place : ℕ) (own : Option ℕ) (holds : Held) → has_cell_of c v p (object_at c frame place own holds) ≡ one_if (eqb place p && same_vector (Some v) own)
cell_weight c v p frame place None holds = sym (never_both (eqb place p))
cell_weight c v p frame place (Some u) holds = own_home c (eqb place p && eqb v u)

-- what holds of each slab, where one is changed
each_slab : (P : ℕ → Option Slab → Type 0) (slabs : List (Option Slab)) (frame : ℕ) (now : Option Slab) → frame < length slabs → P frame now → ((f : ℕ) → f ≢ frame → P f (get_or slabs f None)) → (f : ℕ) → P f (get_or (set slabs frame now) f None)
each_slab P slabs frame now below here others f =
    by_bool (eqb f frame)
    (λ e. subst₂ P (sym (eqb-true f frame e)) (sym (get_or-set_at slabs frame f now None (eqb-true f frame e) below)) here)
    (λ e. subst (P f) (sym (get_or-set_other slabs frame f now None (eqb-false f frame e))) (others f (eqb-false f frame e)))

-- the object at a place of a slab comes in, or goes
module _ (node : NodeState) (frame : ℕ) (slab : Slab) (there : slab_at frame node ≡ Some slab) (place : ℕ) (holds : Held) where
  abbrev cpu : ℕ
  cpu = node.node.cpu

  abbrev what : Storage
  what = object_at cpu frame place slab.vector holds

  abbrev after : Bool → NodeState
  after b = with_slab frame (Some (with_place b place slab)) node

  place_changes : (b : Bool) (all all' : (Storage → ℕ) → ℕ) → NodeSound node all → ((f : ℕ) → all' (has_frame cpu f) ≡ all (has_frame cpu f))
      → ((f p : ℕ) (v : Option ℕ) → f ≢ frame → all' (is_object_at cpu f p v) ≡ all (is_object_at cpu f p v))
      → ((p : ℕ) (v : Option ℕ) → all' (is_object_at cpu frame p v) ≡ one_if (get_or (set slab.places place b) p false && same_vector v slab.vector))
      → ((v p : ℕ) → all' (has_cell_of cpu v p) + one_if (is_taken p slab && same_vector (Some v) slab.vector) ≡ all (has_cell_of cpu v p) + one_if (get_or (set slab.places place b) p false && same_vector (Some v) slab.vector))
      → NodeSound (after b) all'
  place_changes b all all' sound same_frames same_objects here cells =
      let now = Some (with_place b place slab) in
      let below : frame < length node.slabs = has_slab_within node.slabs frame slab there in
      record {
        long = length-set node.slabs frame now ∙ sound.long;
        frames = λ f.
            ap (λ n. n + slabs_sum (slab_has_frame f) 0 (set node.slabs frame now)) (same_frames f)
            ∙ ap (λ n. all (has_frame cpu f) + n) (sum_stays (slab_has_frame f) node.slabs frame now below (ap (slab_has_frame f frame) (sym there)))
            ∙ sound.frames f;
        objects = λ f p v.
            each_slab (λ g x. all' (is_object_at cpu g p v) ≡ is_taken_at v p x) node.slabs frame now below (here p v) (λ g differ. same_objects g p v differ ∙ sound.objects g p v) f;
        vectors = λ v. sum_stays (slab_has_vector v) node.slabs frame now below (ap (slab_has_vector v frame) (sym there)) ∙ sound.vectors v;
        cells = λ v p.
            let sums = sum_at (slab_has_cell v p) node.slabs frame now below in
            let old : slab_has_cell v p frame (get_or node.slabs frame None) ≡ one_if (is_taken p slab && same_vector (Some v) slab.vector) = ap (slab_has_cell v p frame) there in
            let was = sound.cells v p in
            let is = cells v p in
            omega arith;
        few = λ f. each_slab (λ g x. places_of x ≤ 64) node.slabs frame now below (let few = sound.few frame in let n : places_of (slab_at frame node) ≡ length slab.places = ap places_of there in let m = length-set slab.places place b in omega arith) (λ g differ. sound.few g) f;
      }

  pub object_in : (all all' : (Storage → ℕ) → ℕ) → NodeSound node all → get_or slab.places place false ≡ false → place < length slab.places → ((weight : Storage → ℕ) → all' weight ≡ all weight + weight what) → NodeSound (after true) all'
  object_in all all' sound free below more =
      place_changes true all all' sound
      (λ f. more (has_frame cpu f) ∙ ap (λ n. all (has_frame cpu f) + n) (no_frame cpu f cpu frame place slab.vector holds) ∙ add-zero _)
      (λ f p v differ. more (is_object_at cpu f p v) ∙ ap (λ n. all (is_object_at cpu f p v) + n) (object_weight cpu f p v frame place slab.vector holds ∙ ap (λ t. one_if (t && (eqb place p && same_vector v slab.vector))) (ne_eqb frame f (λ e. differ (sym e)))) ∙ add-zero _)
      (λ p v.
      more (is_object_at cpu frame p v)
      ∙ (λ i. (sound.objects frame p v ∙ ap (is_taken_at v p) there) i + (object_weight cpu frame p v frame place slab.vector holds ∙ ap (λ t. one_if (t && (eqb place p && same_vector v slab.vector))) (same_number frame)) i)
      ∙ sym (place_taken slab.places place p (same_vector v slab.vector) free below))
      (λ v p.
      let m = more (has_cell_of cpu v p) in
      let w = cell_weight cpu v p frame place slab.vector holds in
      let t = place_taken slab.places place p (same_vector (Some v) slab.vector) free below in
      omega arith)

  pub object_out : (all all' : (Storage → ℕ) → ℕ) → NodeSound node all → get_or slab.places place false ≡ true → ((weight : Storage → ℕ) → all weight ≡ weight what + all' weight) → NodeSound (after false) all'
  object_out all all' sound taken less =
      place_changes false all all' sound
      (λ f. let m = less (has_frame cpu f) in let w = no_frame cpu f cpu frame place slab.vector holds in omega arith)
      (λ f p v differ.
      let m = less (is_object_at cpu f p v) in
      let w : is_object_at cpu f p v what ≡ 0 = object_weight cpu f p v frame place slab.vector holds ∙ ap (λ t. one_if (t && (eqb place p && same_vector v slab.vector))) (ne_eqb frame f (λ e. differ (sym e))) in
      omega arith)
      (λ p v.
      let m = less (is_object_at cpu frame p v) in
      let w : is_object_at cpu frame p v what ≡ one_if (eqb place p && same_vector v slab.vector) = object_weight cpu frame p v frame place slab.vector holds ∙ ap (λ t. one_if (t && (eqb place p && same_vector v slab.vector))) (same_number frame) in
      let s : all (is_object_at cpu frame p v) ≡ one_if (is_taken p slab && same_vector v slab.vector) = sound.objects frame p v ∙ ap (is_taken_at v p) there in
      let t = place_free slab.places place p (same_vector v slab.vector) taken in
      omega arith)
      (λ v p.
      let m = less (has_cell_of cpu v p) in
      let w = cell_weight cpu v p frame place slab.vector holds in
      let t = place_free slab.places place p (same_vector (Some v) slab.vector) taken in
      omega arith)

-- ---- slabs come and go

none_in_new : (n p : ℕ) → get_or (replicate n false) p false ≡ false
none_in_new zero p = refl
none_in_new (suc n) zero = refl
none_in_new (suc n) (suc p) = none_in_new n p

none_used : (places : List Bool) → list_any (λ taken. taken) places ≡ false → (p : ℕ) → get_or places p false ≡ false
none_used [] e p = refl
none_used (true ∷ places) e p = let no : ⊥ = cc in absurd no
none_used (false ∷ places) e zero = refl
none_used (false ∷ places) e (suc p) = none_used places e p

-- all but the vectors
record ButVectors (node : NodeState) (all : (Storage → ℕ) → ℕ) : Type 0 where
  pub long : length node.slabs ≡ length node.node.frames
  pub frames : (frame : ℕ) → all (has_frame node.node.cpu frame) + slabs_sum (slab_has_frame frame) 0 node.slabs ≡ one_if (get_or node.node.frames frame false)
  pub objects : (frame place : ℕ) (vector : Option ℕ) → all (is_object_at node.node.cpu frame place vector) ≡ is_taken_at vector place (slab_at frame node)
  pub cells : (vector place : ℕ) → all (has_cell_of node.node.cpu vector place) ≡ slabs_sum (slab_has_cell vector place) 0 node.slabs
  pub few : (frame : ℕ) → places_of (slab_at frame node) ≤ 64

vectors_set : (out : Bool) (vector : Option ℕ) (node : NodeState) (all : (Storage → ℕ) → ℕ) → ButVectors node all
    → ((v : ℕ) → slabs_sum (slab_has_vector v) 0 node.slabs ≡ one_if (cond (same_vector (Some v) vector) out (get_or node.vectors v false))) → ((u : ℕ) → vector ≡ Some u → u < length node.vectors) → NodeSound (with_vector out vector node) all
vectors_set out None node all but sums within = record { long = but.long; frames = but.frames; objects = but.objects; vectors = sums; cells = but.cells; few = but.few }
vectors_set out (Some u) node all but sums within = record {
  long = but.long;
  frames = but.frames;
  objects = but.objects;
  vectors = λ v. sums v ∙ sym (ap one_if (bool_set_at node.vectors u v out (within u refl)));
  cells = but.cells;
  few = but.few;
}

slab_then_vector : (out : Bool) (frame : ℕ) (slab : Option Slab) (vector : Option ℕ) (node : NodeState) → with_slab frame slab (with_vector out vector node) ≡ with_vector out vector (with_slab frame slab node)
slab_then_vector out frame slab None node = refl
slab_then_vector out frame slab (Some u) node = refl

-- the lowest vector that is in is in
lowest_is : (vectors : List Bool) → ((u : ℕ) → position not vectors ≡ Some u → u < length vectors) × ((v : ℕ) → same_vector (Some v) (position not vectors) ≡ true → get_or vectors v false ≡ false)
lowest_is vectors = (λ u e. (position-Some not vectors u false e).0, λ v. by (position not vectors) (λ u e. was_false (get_or vectors u false) (position-Some not vectors u false e).1) v)
  where
    by : (o : Option ℕ) → ((u : ℕ) → o ≡ Some u → get_or vectors u false ≡ false) → (v : ℕ) → same_vector (Some v) o ≡ true → get_or vectors v false ≡ false
    by None h v e = let no : ⊥ = cc in absurd no
    by (Some u) h v e = ap (λ n. get_or vectors n false) (eqb-true v u e) ∙ h u refl

pub must_be : (n : ℕ) (b : Bool) → n ≡ one_if b → 0 < n → b ≡ true
must_be n true e h = refl
must_be n false e h = absurd (omega arith)

module _ (node : NodeState) (all : (Storage → ℕ) → ℕ) (sound : NodeSound node all) where
  -- no slab begins at a free frame
  pub no_slab_at : (start : ℕ) → start < length node.slabs → get_or node.node.frames start false ≡ false → get_or node.slabs start None ≡ None
  no_slab_at start below free =
      let has = sum_has (slab_has_frame start) node.slabs start below refl in
      let sum = sound.frames start ∙ ap one_if free in
      by (get_or node.slabs start None) (omega arith)
    where
      by : (o : Option Slab) → slab_has_frame start start o ≤ 0 → o ≡ None
      by None h = refl
      by (Some slab) h = let one : slab_has_frame start start (Some slab) ≡ 1 = ap one_if (starts_in start (slab_order slab.class)) in absurd (omega arith)

  pub slab_in : (class start : ℕ) → start_in (slab_order class) node ≡ Some start → NodeSound (with_new_slab class start node) all
  slab_in class start found =
      let frames = node.node.frames in
      let c = node.node.cpu in
      let order = slab_order class in
      let vector = lowest_vector node in
      let now = Some (new_slab class vector) in
      let is = (least_told frames order start found).is in
      let within : start + 2 ^ order ≤ length frames = all_within false frames start order is.free in
      let some = pow_pos order in
      let below : start < length node.slabs = omega (arith, sound.long) in
      let none : get_or node.slabs start None ≡ None = no_slab_at start below (all_at false false frames start order start is.free (omega arith) (omega arith)) in
      let bare = with_slab start now (with_pages true start order node) in
      let low = lowest_is node.vectors in
      subst (λ (x : NodeState). NodeSound x all) (sym (slab_then_vector true start now vector (with_pages true start order node)))
      (vectors_set true vector bare all
      (record {
        long = length-set node.slabs start now ∙ sound.long ∙ sym (length-marked true start order frames within);
        frames = λ f.
            let b = is_in f start order in
            let sums = sum_at (slab_has_frame f) node.slabs start now below in
            let old : slab_has_frame f start (get_or node.slabs start None) ≡ 0 = ap (slab_has_frame f start) none in
            let more = one_more (all (has_frame c f)) (slabs_sum (slab_has_frame f) 0 node.slabs) (get_or frames f false) b (sound.frames f) (λ e. let r = in_range f start order e in all_at false false frames start order f is.free r.0 r.1) in
            let marks = ap one_if (marked_at_frame true start order frames f within) in
            omega arith;
        objects = λ f p v.
            each_slab (λ g x. all (is_object_at c g p v) ≡ is_taken_at v p x) node.slabs start now below
            (sound.objects start p v ∙ ap (is_taken_at v p) none ∙ sym (ap (λ b. one_if (b && same_vector v vector)) (none_in_new (objects_in class) p)))
            (λ g differ. sound.objects g p v) f;
        cells = λ v p.
            let sums = sum_at (slab_has_cell v p) node.slabs start now below in
            let old : slab_has_cell v p start (get_or node.slabs start None) ≡ 0 = ap (slab_has_cell v p start) none in
            let new : slab_has_cell v p start now ≡ 0 = ap (λ b. one_if (b && same_vector (Some v) vector)) (none_in_new (objects_in class) p) in
            let was = sound.cells v p in
            omega arith;
        few = λ f. each_slab (λ g x. places_of x ≤ 64) node.slabs start now below (let n = length-replicate (objects_in class) false in let m : objects_in class ≤ 64 = omega arith in omega arith) (λ g differ. sound.few g) f;
      })
      (λ v.
      let sums = sum_at (slab_has_vector v) node.slabs start now below in
      let old : slab_has_vector v start (get_or node.slabs start None) ≡ 0 = ap (slab_has_vector v start) none in
      let more = one_more 0 (slabs_sum (slab_has_vector v) 0 node.slabs) (get_or node.vectors v false) (same_vector (Some v) vector) (let was = sound.vectors v in omega arith) (low.1 v) in
      omega arith)
      low.0)

  -- a slab that no object is in goes
  pub slab_out : (frame : ℕ) (slab : Slab) → slab_at frame node ≡ Some slab → ((p : ℕ) → is_taken p slab ≡ false) → NodeSound (without_slab frame slab node) all
  slab_out frame slab there unused =
      let frames = node.node.frames in
      let c = node.node.cpu in
      let order = slab_order slab.class in
      let below : frame < length node.slabs = has_slab_within node.slabs frame slab there in
      let some = pow_pos order in
      let weighs = λ (f : ℕ). let has = sum_has (slab_has_frame f) node.slabs frame below refl in let w : slab_has_frame f frame (get_or node.slabs frame None) ≡ one_if (is_in f frame order) = ap (slab_has_frame f frame) there in let r : one_if (is_in f frame order) ≤ slabs_sum (slab_has_frame f) 0 node.slabs = omega arith in r in
      let last : frame + 2 ^ order - 1 < length frames =
      taken_within frames (frame + 2 ^ order - 1)
      (must_be (all (has_frame c (frame + 2 ^ order - 1)) + slabs_sum (slab_has_frame (frame + 2 ^ order - 1)) 0 node.slabs) (get_or frames (frame + 2 ^ order - 1) false) (sound.frames (frame + 2 ^ order - 1))
      (let w = weighs (frame + 2 ^ order - 1) in let one : one_if (is_in (frame + 2 ^ order - 1) frame order) ≡ 1 = ap one_if (is_in_it (frame + 2 ^ order - 1) frame order (omega arith) (omega arith)) in omega arith)) in
      let within : frame + 2 ^ order ≤ length frames = omega arith in
      let bare = with_pages false frame order (with_slab frame None node) in
      vectors_set false slab.vector bare all
      (record {
        long = length-set node.slabs frame None ∙ sound.long ∙ sym (length-marked false frame order frames within);
        frames = λ f.
            let b = is_in f frame order in
            let sums = sum_at (slab_has_frame f) node.slabs frame None below in
            let old : slab_has_frame f frame (get_or node.slabs frame None) ≡ one_if b = ap (slab_has_frame f frame) there in
            let less = one_less (slabs_sum (slab_has_frame f) 0 node.slabs) (slabs_sum (slab_has_frame f) 0 (set node.slabs frame None)) (all (has_frame c f)) (get_or frames f false) b (omega arith) (let was = sound.frames f in omega arith) in
            let marks = ap one_if (marked_at_frame false frame order frames f within) in
            omega arith;
        objects = λ f p v.
            each_slab (λ g x. all (is_object_at c g p v) ≡ is_taken_at v p x) node.slabs frame None below
            (sound.objects frame p v ∙ ap (is_taken_at v p) there ∙ ap (λ b. one_if (b && same_vector v slab.vector)) (unused p))
            (λ g differ. sound.objects g p v) f;
        cells = λ v p.
            let sums = sum_at (slab_has_cell v p) node.slabs frame None below in
            let old : slab_has_cell v p frame (get_or node.slabs frame None) ≡ 0 = ap (slab_has_cell v p frame) there ∙ ap (λ b. one_if (b && same_vector (Some v) slab.vector)) (unused p) in
            let was = sound.cells v p in
            omega arith;
        few = λ f. each_slab (λ g x. places_of x ≤ 64) node.slabs frame None below (omega arith) (λ g differ. sound.few g) f;
      })
      (λ v.
      let sums = sum_at (slab_has_vector v) node.slabs frame None below in
      let old : slab_has_vector v frame (get_or node.slabs frame None) ≡ one_if (same_vector (Some v) slab.vector) = ap (slab_has_vector v frame) there in
      let less = one_less (slabs_sum (slab_has_vector v) 0 node.slabs) (slabs_sum (slab_has_vector v) 0 (set node.slabs frame None)) 0 (get_or node.vectors v false) (same_vector (Some v) slab.vector) (omega arith) (let was = sound.vectors v in omega arith) in
      omega arith)
      (λ u is.
      taken_within node.vectors u
      (must_be (slabs_sum (slab_has_vector u) 0 node.slabs) (get_or node.vectors u false) (sound.vectors u)
      (let has = sum_has (slab_has_vector u) node.slabs frame below refl in
      let one : slab_has_vector u frame (get_or node.slabs frame None) ≡ 1 = ap (slab_has_vector u frame) there ∙ ap (λ o. one_if (same_vector (Some u) o)) is ∙ ap one_if (same_number u) in
      omega arith)))

  -- a block comes home
  block_out : (all' : (Storage → ℕ) → ℕ) (home frame order : ℕ) (holds : Held) → home ≡ node.node.cpu → ((weight : Storage → ℕ) → all weight ≡ weight (Pages (record { home = home; frame = frame; order = order; holds = holds })) + all' weight)
      → NodeSound (with_pages false frame order node) all'
  block_out all' home frame order holds own less =
      let frames = node.node.frames in
      let c = node.node.cpu in
      let some = pow_pos order in
      let weighs : (f : ℕ) → all (has_frame c f) ≡ one_if (is_in f frame order) + all' (has_frame c f) =
      λ f. less (has_frame c f) ∙ ap (λ n. n + all' (has_frame c f)) (ap (λ h. one_if (eqb h c && is_in f frame order)) own ∙ own_home c (is_in f frame order)) in
      let last : frame + 2 ^ order - 1 < length frames =
      taken_within frames (frame + 2 ^ order - 1)
      (must_be (all (has_frame c (frame + 2 ^ order - 1)) + slabs_sum (slab_has_frame (frame + 2 ^ order - 1)) 0 node.slabs) (get_or frames (frame + 2 ^ order - 1) false) (sound.frames (frame + 2 ^ order - 1))
      (let w = weighs (frame + 2 ^ order - 1) in let one : one_if (is_in (frame + 2 ^ order - 1) frame order) ≡ 1 = ap one_if (is_in_it (frame + 2 ^ order - 1) frame order (omega arith) (omega arith)) in omega arith)) in
      let within : frame + 2 ^ order ≤ length frames = omega arith in
      record {
        long = sound.long ∙ sym (length-marked false frame order frames within);
        frames = λ f.
            one_less (all (has_frame c f)) (all' (has_frame c f)) (slabs_sum (slab_has_frame f) 0 node.slabs) (get_or frames f false) (is_in f frame order) (weighs f) (sound.frames f)
            ∙ sym (ap one_if (marked_at_frame false frame order frames f within));
        objects = λ f p v. let l = less (is_object_at c f p v) in let was = sound.objects f p v in omega arith;
        vectors = sound.vectors;
        cells = λ v p. let l = less (has_cell_of c v p) in let was = sound.cells v p in omega arith;
        few = sound.few;
      }

-- ---- what a node gives

unfoldable pub IsGiven : NodeState → ((Storage → ℕ) → ℕ) → Given → Type 0
IsGiven node all given =
    ((all' : (Storage → ℕ) → ℕ) → ((weight : Storage → ℕ) → all' weight ≡ all weight + weight given.storage) → NodeSound given.node all') × (home_of given.storage ≡ node.node.cpu) × (given.node.node.cpu ≡ node.node.cpu)

abbrev pub MaybeGiven : NodeState → ((Storage → ℕ) → ℕ) → Option Given → Type 0
MaybeGiven node all None = ⊤
MaybeGiven node all (Some given) = IsGiven node all given

object_home : (home frame place : ℕ) (vector : Option ℕ) (holds : Held) → home_of (object_at home frame place vector holds) ≡ home
object_home home frame place None holds = refl
object_home home frame place (Some v) holds = refl

pub cpu_of_vector : (out : Bool) (vector : Option ℕ) (node : NodeState) → (with_vector out vector node).node.cpu ≡ node.node.cpu
cpu_of_vector out None node = refl
cpu_of_vector out (Some v) node = refl

-- each class has objects
class_has : (size class : ℕ) → class_of size ≡ Some class → 0 < objects_in class
class_has size class e = ltb-true 0 (objects_in class) (passes (leb size) classes class refl e)
  where
    passes : (p : ℕ → Bool) (xs : List ℕ) (x : ℕ) → list_all (λ c. ltb 0 (objects_in c)) xs ≡ true → find p xs ≡ Some x → ltb 0 (objects_in x) ≡ true
    passes p [] x all e = let no : ⊥ = cc in absurd no
    passes p (y ∷ ys) x all e =
        let here = and_parts (ltb 0 (objects_in y)) (list_all (λ c. ltb 0 (objects_in c)) ys) all in
        by_bool (p y)
        (λ yes_so. let f : Some y ≡ Some x = sym (cond-true (p y) (Some y) (find p ys) yes_so) ∙ e in let same : y ≡ x = cc in subst (λ n. ltb 0 (objects_in n) ≡ true) same here.0)
        (λ no_so. passes p ys x here.1 (sym (cond-false (p y) (Some y) (find p ys) no_so) ∙ e))

new_has_room : (n : ℕ) → 0 < n → list_any not (replicate n false) ≡ true
new_has_room zero h = absurd (omega arith)
new_has_room (suc n) h = refl

module _ (node : NodeState) (all : (Storage → ℕ) → ℕ) (sound : NodeSound node all) where
  pub gives_block : (tag : Option Tag) (order : ℕ) → MaybeGiven node all (given_block tag order node)
  unfolding IsGiven
  gives_block tag order = by (start_in order node) refl
    where
      by : (start : Option ℕ) → start_in order node ≡ start → MaybeGiven node all (option_map (block_from tag order node) start)
      by None e = tt
      by (Some start) e = (λ all' more. block_given node all all' sound tag order start e more, refl, refl)

  gives_object : (tag : Option Tag) (class frame : ℕ) (slab : Slab) → slab_at frame node ≡ Some slab → list_any not slab.places ≡ true → IsGiven node all (object_from tag class frame node slab)
  unfolding IsGiven
  gives_object tag class frame slab there room =
      let free = first_free slab.places room in (
        λ all' more. object_in node frame slab there (free_place slab) (reference_to tag class) all all' sound free.0 free.1 more,
        object_home node.node.cpu frame (free_place slab) slab.vector (reference_to tag class),
        refl,
      )

gives_new : (node : NodeState) (all : (Storage → ℕ) → ℕ) → NodeSound node all → (tag : Option Tag) (class start : ℕ) → 0 < objects_in class → start_in (slab_order class) node ≡ Some start → IsGiven node all (object_from_new tag class node start)
unfolding IsGiven
gives_new node all sound tag class start has found =
    let with_it = with_new_slab class start node in
    let slab = new_slab class (lowest_vector node) in
    let within = (all_within false node.node.frames start (slab_order class) (least_told node.node.frames (slab_order class) start found).is.free) in
    let some = pow_pos (slab_order class) in
    let below : start < length (with_vector true (lowest_vector node) (with_pages true start (slab_order class) node)).slabs = subst (λ (xs : List (Option Slab)). start < length xs) (sym (slabs_of_vector true (lowest_vector node) (with_pages true start (slab_order class) node))) (omega (arith, sound.long)) in
    let there : slab_at start with_it ≡ Some slab = get_or-set_at _ start start (Some slab) None refl below in
    let given = gives_object with_it all (slab_in node all sound class start found) tag class start slab there (new_has_room (objects_in class) has) in
    let cpu_is : with_it.node.cpu ≡ node.node.cpu = cpu_of_vector true (lowest_vector node) (with_pages true start (slab_order class) node) in
    (given.0, given.1 ∙ cpu_is, given.2 ∙ cpu_is)

pub gives : (node : NodeState) (all : (Storage → ℕ) → ℕ) → NodeSound node all → (tag : Option Tag) (size : ℕ) → MaybeGiven node all (given_object tag size node)
gives node all sound tag size = by (class_of size) refl
  where
    is_some_slab : (class : ℕ) (o : Option Slab) → is_open class o ≡ true → (slab : Slab) × (o ≡ Some slab) × (list_any not slab.places ≡ true)
    is_some_slab class None e = let no : ⊥ = cc in absurd no
    is_some_slab class (Some slab) e = (slab, refl, (and_parts (eqb slab.class class) (list_any not slab.places) e).1)

    by_start : (class : ℕ) → 0 < objects_in class → (start : Option ℕ) → start_in (slab_order class) node ≡ start → MaybeGiven node all (option_map (object_from_new tag class node) start)
    by_start class has None e = tt
    by_start class has (Some start) e = gives_new node all sound tag class start has e

    by_frame : (class : ℕ) → 0 < objects_in class → (frame : Option ℕ) → open_frame class node ≡ frame → MaybeGiven node all (slab_or_new tag class node frame)
    by_frame class has None e = by_start class has (start_in (slab_order class) node) refl
    by_frame class has (Some frame) e =
        let told = position-Some (is_open class) node.slabs frame None e in
        let found = is_some_slab class (slab_at frame node) told.1 in
        subst (λ (o : Option Slab). MaybeGiven node all (option_map (object_from tag class frame node) o)) (sym found.1)
        (gives_object node all sound tag class frame found.0 found.1 found.2)

    by : (class : Option ℕ) → class_of size ≡ class → MaybeGiven node all (object_or_block tag size node class)
    by None e = gives_block node all sound tag (order_of size)
    by (Some class) e = by_frame class (class_has size class e) (open_frame class node) refl

-- ---- what comes home

unfoldable pub IsHome : NodeState → ((Storage → ℕ) → ℕ) → Taken → Type 0
IsHome node all' taken = NodeSound taken.node all' × (taken.node.node.cpu ≡ node.node.cpu)

module _ (node : NodeState) (all all' : (Storage → ℕ) → ℕ) (sound : NodeSound node all) where
  object_home_sound : (frame place : ℕ) (vector : Option ℕ) (holds : Held) → ((weight : Storage → ℕ) → all weight ≡ weight (object_at node.node.cpu frame place vector holds) + all' weight) → IsHome node all' (place_home frame place node (slab_at frame node))
  unfolding IsHome
  object_home_sound frame place vector holds less =
      let c = node.node.cpu in
      let here : all (is_object_at c frame place vector) ≡ is_taken_at vector place (slab_at frame node) = sound.objects frame place vector in
      let l = less (is_object_at c frame place vector) in
      let w : is_object_at c frame place vector (object_at c frame place vector holds) ≡ 1 = object_weight c frame place vector frame place vector holds ∙ (λ i. one_if (same_number frame i && (same_number place i && same_itself vector i))) in
      let is = found (slab_at frame node) (omega arith) in
      let slab = is.0 in
      let out : NodeSound (with_slab frame (Some (with_place false place slab)) node) all' =
      object_out node frame slab is.1 place holds all all' sound is.2 (λ weight. less weight ∙ ap (λ v. weight (object_at c frame place v holds) + all' weight) is.3) in
      subst (λ (o : Option Slab). NodeSound (place_home frame place node o).node all' × ((place_home frame place node o).node.node.cpu ≡ c)) (sym is.1)
      (by (with_place false place slab) (is_used (with_place false place slab)) refl (has_slab_within node.slabs frame slab is.1) out)
    where
      same_itself : (v : Option ℕ) → same_vector v v ≡ true
      same_itself None = refl
      same_itself (Some u) = same_number u

      vectors_are : (a b : Option ℕ) → same_vector a b ≡ true → a ≡ b
      vectors_are None None e = refl
      vectors_are None (Some b) e = let no : ⊥ = cc in absurd no
      vectors_are (Some a) None e = let no : ⊥ = cc in absurd no
      vectors_are (Some a) (Some b) e = ap Some (eqb-true a b e)

      one_of : (b : Bool) → 1 ≤ one_if b → b ≡ true
      one_of true h = refl
      one_of false h = absurd (omega arith)

      found : (o : Option Slab) → 1 ≤ is_taken_at vector place o → (slab : Slab) × (o ≡ Some slab) × (is_taken place slab ≡ true) × (vector ≡ slab.vector)
      found None h = absurd (omega arith)
      found (Some slab) h = let b = and_parts (is_taken place slab) (same_vector vector slab.vector) (one_of _ h) in (slab, refl, b.0, vectors_are vector slab.vector b.1)

      by : (slab : Slab) (b : Bool) → is_used slab ≡ b → frame < length node.slabs → NodeSound (with_slab frame (Some slab) node) all'
          → NodeSound (cond {A = Taken} b (record { node = with_slab frame (Some slab) node; moves = [] }) (record { node = without_slab frame slab node; moves = close_moves node.node.cpu (slab_held slab.class) })).node all'
          × ((cond {A = Taken} b (record { node = with_slab frame (Some slab) node; moves = [] }) (record { node = without_slab frame slab node; moves = close_moves node.node.cpu (slab_held slab.class) })).node.node.cpu ≡ node.node.cpu)
      by slab true e below out = (out, refl)
      by slab false e below out =
          let gone = slab_out (with_slab frame (Some slab) node) all' out frame slab (get_or-set_at node.slabs frame frame (Some slab) None refl below) (none_used slab.places e) in
          let same : without_slab frame slab (with_slab frame (Some slab) node) ≡ without_slab frame slab node =
          ap (λ xs. with_vector false slab.vector (with_pages false frame (slab_order slab.class) (record node { slabs = xs }))) (set-set node.slabs frame (Some slab) None) in (
            subst (λ (x : NodeState). NodeSound x all') same gone,
            cpu_of_vector false slab.vector (with_pages false frame (slab_order slab.class) (with_slab frame None node)),
          )

  -- storage of the node
  pub homes : (given : Storage) → home_of given ≡ node.node.cpu → ((weight : Storage → ℕ) → all weight ≡ weight given + all' weight) → IsHome node all' (come_home given node)
  unfolding IsHome
  homes (Pages block) own less = (block_out node all sound all' block.home block.frame block.order block.holds own less, refl)
  homes (Object home frame place vector holds) own less = object_home_sound frame place (Some vector) holds (λ weight. less weight ∙ ap (λ h. weight (Object h frame place vector holds) + all' weight) own)
  homes (Uncounted home frame place) own less = object_home_sound frame place None held.None (λ weight. less weight ∙ ap (λ h. weight (Uncounted h frame place) + all' weight) own)

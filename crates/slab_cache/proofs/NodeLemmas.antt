-- A node with slabs, as it is shown and as the meaning has it, while a slab or a vector changes.
use Rattle.std.proofs.Common.{ℕ, zero, suc, ◌≡◌, ◌<◌, ◌≤◌, ◌↔◌, Bool, true, not, is_none, is_some, IsNone, IfSome, ◌⊎◌, List, [], ◌∷◌, length, map, get_or, slice_get, slice_set, replicate, position, Option, Some, None, option_map, refl, sym, ap, ◌∙◌, subst, inl, inr}
use Rattle.std.proofs.lemmas.List.{length-set, length-replicate, map-set}
use Rattle.std.proofs.lemmas.Option.{get_or_from_slice_get, none-some, same_Some, slice_get-map, slice_get_cases}
use Rattle.tag_rule.specs.Shown.{Board, PoolShown}
use Rattle.page_ext.specs.Shown.{NodeShown}
use Rattle.slab_ext.specs.Vectors.{IsWhole, Takes, VectorShown, VectorsShown, lowest}
use Rattle.slab_ext.proofs.Slots.{slice_get-set}
use Rattle.slab_cache.specs.Shown.{SlabNodeShown, SlabShown, Stands, state_of}
use Rattle.slab_cache.specs.Slabs.{NodeState, Slab, lowest_vector, slab_at, with_slab, with_vector}
use Rattle.slab_cache.specs.Tables.{AreSlabs, IsSlabAt, slab_in}
use Rattle.slab_cache.proofs.TableLemmas.{position_of_map}

abbrev pub shown : NodeShown → VectorsShown → List (Option SlabShown) → SlabNodeShown
shown node vectors slabs = record { node = node; vectors = vectors; slabs = slabs }

abbrev pub number_in : Option VectorShown → Option ℕ
number_in = option_map (λ (v : VectorShown). v.number)

-- ---- a new node

no_slab : (n k : ℕ) (s : SlabShown) → slice_get (replicate n None) k ≡ Some (Some s) → ⊥
no_slab zero k s is = none-some (Some s) is
no_slab (suc n) zero s is = none-some s (same_Some None (Some s) is)
no_slab (suc n) (suc k) s is = no_slab n k s is

pub fresh_stands : (node : NodeShown) (vectors : VectorsShown) (slabs : List (Option SlabShown)) → slabs ≡ replicate (length node.node.frames) None → node.node.cpu ≡ vectors.cpu
    → ((number : ℕ) (pool : PoolShown) → slice_get vectors.pools number ≡ Some (Some pool) → pool.board ≡ node.board) → Stands (shown node vectors slabs)
fresh_stands node vectors slabs none own table = subst (λ ss. Stands (shown node vectors ss)) (sym none) (record {
  own = own;
  frames = sym (length-replicate {A = Option SlabShown} (length node.node.frames) None);
  slab_cells = λ frame slab here. absurd (no_slab (length node.node.frames) frame slab here);
  vector_cells = table;
})

-- ---- the slab at a frame

pub record Found (slabs : List (Option SlabShown)) (frame : ℕ) (slab : Slab) : Type 0 where
  pub whole : SlabShown
  pub here : slice_get slabs frame ≡ Some (Some whole)
  pub is : whole.slab ≡ slab

pub find_slab : (node : SlabNodeShown) (frame : ℕ) (slab : Slab) → slab_at frame (state_of node) ≡ Some slab → Found node.slabs frame slab
find_slab node frame slab is = by_cases (slice_get_cases node.slabs frame).1
  where
    by_entry : (x : Option SlabShown) → slice_get node.slabs frame ≡ Some x → slab_in x ≡ Some slab → Found node.slabs frame slab
    by_entry None here e = absurd (none-some slab e)
    by_entry (Some s) here e = record { whole = s; here = here; is = same_Some s.slab slab e }

    by_cases : ((x : Option SlabShown) × (frame < length node.slabs) × (slice_get node.slabs frame ≡ Some x) × (get_or node.slabs frame x ≡ x)) ⊎ ((length node.slabs ≤ frame) × (slice_get node.slabs frame ≡ None)) → Found node.slabs frame slab
    by_cases (inl (x, within, here, value)) =
        by_entry x here (sym (get_or_from_slice_get (map slab_in node.slabs) frame (slab_in x) None (slice_get-map slab_in node.slabs frame ∙ ap (option_map slab_in) here)) ∙ is)
    by_cases (inr (past, none)) = absurd (none-some slab (sym (past_end (map slab_in node.slabs) frame (slice_get-map slab_in node.slabs frame ∙ ap (option_map slab_in) none)) ∙ is))
      where
        past_end : (xs : List (Option Slab)) (i : ℕ) → slice_get xs i ≡ None → get_or xs i None ≡ None
        past_end [] i e = refl
        past_end (x ∷ xs) zero e = absurd (none-some x (sym e))
        past_end (x ∷ xs) (suc i) e = past_end xs i e

pub slab_state : (node : SlabNodeShown) (frame : ℕ) (s : SlabShown) → slice_get node.slabs frame ≡ Some (Some s) → slab_at frame (state_of node) ≡ Some s.slab
slab_state node frame s here = get_or_from_slice_get (map slab_in node.slabs) frame (Some s.slab) None (slice_get-map slab_in node.slabs frame ∙ ap (option_map slab_in) here)

-- a slab of the node, by the node
pub slab_whole : (node : SlabNodeShown) (frame : ℕ) (s : SlabShown) → Stands node → AreSlabs node.vectors node.slabs → slice_get node.slabs frame ≡ Some (Some s)
    → s ≡ record { board = node.node.board; home = node.vectors.cpu; frame = frame; slab = s.slab }
slab_whole node frame s stands are here =
    let at = are frame s here in
    let with_parts : Board → ℕ → ℕ → SlabShown = λ b h f. record { board = b; home = h; frame = f; slab = s.slab } in
    ap (λ b. with_parts b s.home s.frame) (stands.slab_cells frame s here) ∙ ap (λ h. with_parts node.node.board h s.frame) at.home ∙ ap (with_parts node.node.board node.vectors.cpu) at.begins

-- ---- what holds of slabs and vectors stays

pub are_set : (vectors after : VectorsShown) (slabs : List (Option SlabShown)) (frame : ℕ) (x : Option SlabShown) → after.cpu ≡ vectors.cpu → length after.pools ≡ length vectors.pools → AreSlabs vectors slabs
    → ((s : SlabShown) → x ≡ Some s → IsSlabAt vectors.cpu (length slabs) (length vectors.pools) frame s) → AreSlabs after (slice_set slabs frame x)
are_set vectors after slabs frame x cpu many are new = λ k s here.
    subst (λ c. IsSlabAt c (length (slice_set slabs frame x)) (length after.pools) k s) (sym cpu)
    (subst (λ n. IsSlabAt vectors.cpu n (length after.pools) k s) (sym (length-set slabs frame x))
    (subst (λ n. IsSlabAt vectors.cpu (length slabs) n k s) (sym many)
    (elim (slice_get-set slabs frame k x (Some s) here) [
      | inl at ↦ subst (λ f. IsSlabAt vectors.cpu (length slabs) (length vectors.pools) f s) (sym at.0) (new s at.1)
      | inr was ↦ are k s was
    ])))

pub stands_set : (node : SlabNodeShown) (after : VectorsShown) (frame : ℕ) (x : Option SlabShown) → Stands node → after.cpu ≡ node.vectors.cpu
    → ((number : ℕ) (pool : PoolShown) → slice_get after.pools number ≡ Some (Some pool) → pool.board ≡ node.node.board) → ((s : SlabShown) → x ≡ Some s → s.board ≡ node.node.board)
    → Stands (shown node.node after (slice_set node.slabs frame x))
stands_set node after frame x stands cpu pools board = record {
  own = stands.own ∙ sym cpu;
  frames = stands.frames ∙ sym (length-set node.slabs frame x);
  slab_cells = λ k s here. elim (slice_get-set node.slabs frame k x (Some s) here) [ inl at ↦ board s at.1 | inr was ↦ stands.slab_cells k s was ];
  vector_cells = pools;
}

-- the vectors with one of them out, if one was taken
abbrev pub with_out : Option ℕ → List (Option PoolShown) → List (Option PoolShown)
with_out None pools = pools
with_out (Some n) pools = slice_set pools n None

pub state_out : (node : SlabNodeShown) (frame : ℕ) (n : Option ℕ) (x : Option SlabShown)
    → state_of (shown node.node (record { cpu = node.vectors.cpu; pools = with_out n node.vectors.pools }) (slice_set node.slabs frame x)) ≡ with_slab frame (slab_in x) (with_vector true n (state_of node))
state_out node frame None x =
    let with_slabs : List (Option Slab) → NodeState = λ ss. record { node = node.node.node; slabs = ss; vectors = map is_none node.vectors.pools } in
    ap with_slabs (map-set slab_in node.slabs frame x)
state_out node frame (Some n) x =
    let with_both : List (Option Slab) → List Bool → NodeState = λ ss vs. record { node = node.node.node; slabs = ss; vectors = vs } in
    ap (λ ss. with_both ss (map is_none (slice_set node.vectors.pools n None))) (map-set slab_in node.slabs frame x) ∙ ap (with_both (slice_set (map slab_in node.slabs) frame (slab_in x))) (map-set is_none node.vectors.pools n None)

-- the lowest vector that is in is the same by either list
pub same_lowest : (node : SlabNodeShown) → lowest_vector (state_of node) ≡ lowest node.vectors
same_lowest node = position_of_map not is_none node.vectors.pools ∙ (λ i. position (λ o. both o i) node.vectors.pools)
  where
    both : {X : Type 0} (o : Option X) → not (is_none o) ≡ is_some o
    both None = refl
    both (Some x) = refl

pub record VectorTaken (vectors after : VectorsShown) (vector : Option VectorShown) : Type 0 where
  pub number : number_in vector ≡ lowest vectors
  pub now : after ≡ record { cpu = vectors.cpu; pools = with_out (number_in vector) vectors.pools }
  pub whole : IfSome vector (λ v. IsWhole vectors.cpu v.number v.pool)
  pub own : IfSome vector (λ v. slice_get vectors.pools v.number ≡ Some (Some v.pool))

pub vector_taken : (vectors after : VectorsShown) (vector : Option VectorShown) → IsNone vector ↔ (lowest vectors ≡ None) → IfSome vector (Takes vectors after) → (IsNone vector → after ≡ vectors) → VectorTaken vectors after vector
vector_taken vectors after None none takes same = record { number = sym (none.0 refl); now = same refl; whole = tt; own = tt }
vector_taken vectors after (Some v) none takes same = record { number = sym takes.is_lowest; now = takes.out; whole = takes.whole; own = takes.own }

-- a pool that is in after one went out was in before
pub still_in : (n : Option ℕ) (pools : List (Option PoolShown)) (k : ℕ) (pool : PoolShown) → slice_get (with_out n pools) k ≡ Some (Some pool) → slice_get pools k ≡ Some (Some pool)
still_in None pools k pool here = here
still_in (Some n) pools k pool here = elim (slice_get-set pools n k None (Some pool) here) [ inl at ↦ absurd (none-some pool at.1) | inr was ↦ was ]

pub length-with_out : (n : Option ℕ) (pools : List (Option PoolShown)) → length (with_out n pools) ≡ length pools
length-with_out None pools = refl
length-with_out (Some n) pools = length-set pools n None

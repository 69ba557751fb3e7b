-- Storage goes home by the seats: what is on its way elsewhere plays no part.
use Rattle.std.proofs.Common.{◌≡◌, ℕ, zero, suc, ◌<◌, ◌≤◌, List, [], ◌∷◌, ◌++◌, length, map, set, get_or, take, refl, sym, ap, ◌∙◌, subst, append_assoc, append-nil, arith}
use Rattle.std.specs.Prelude.{fold}
use Rattle.std.specs.List.{flat_map}
use Rattle.std.proofs.lemmas.List.{length-map, map-set, take_all}
use Rattle.std.proofs.lemmas.List.Sums.{fold-append}
use Rattle.tag_model.specs.Moves.{Move}
use Rattle.slab_cache.specs.Calls.{IsOf}
use Rattle.slab_cache.specs.Homing.{come_home}
use Rattle.slab_cache.specs.Storage.{Storage, home_of}
use Rattle.trace_play.specs.Worker.{Seat}
use Rattle.trace_play.specs.Machine.{Machine, fresh_seat}
use Rattle.trace_play.specs.Barrier.{none_returning, none_on_its_way, on_its_way, storage_home, all_home}
use Rattle.homing.specs.Seats.{seat_in, taken_in, one_in, all_in, moves_in, Finds, AllFind, sent, settled, seats_home, home_moves, FindsHome, with_home}

-- ---- lists

get_mapped : {A B : Type 0} (f : A → B) (xs : List A) (i : ℕ) (d : A) (e : B) → f d ≡ e → get_or (map f xs) i e ≡ f (get_or xs i d)
get_mapped f [] i d e h = sym h
get_mapped f (x ∷ xs) zero d e h = refl
get_mapped f (x ∷ xs) (suc i) d e h = get_mapped f xs i d e h

-- ---- what is still on its way elsewhere plays no part

seat_settled : (seats : List Seat) (cpu : ℕ) → seat_in cpu (settled seats) ≡ none_returning (seat_in cpu seats)
seat_settled seats cpu = get_mapped none_returning seats cpu (fresh_seat 0 0 cpu) (fresh_seat 0 0 cpu) refl

one_settled : (seats : List Seat) (given : Storage) → one_in (settled seats) given ≡ settled (one_in seats given)
one_settled seats given =
    let cpu = home_of given in
    ap (λ (s : Seat). set (settled seats) cpu (record s { node = (come_home given s.node).node })) (seat_settled seats cpu)
    ∙ sym (map-set none_returning seats cpu (record (seat_in cpu seats) { node = (taken_in seats given).node }))

all_settled : (seats : List Seat) (storage : List Storage) → all_in (settled seats) storage ≡ settled (all_in seats storage)
all_settled seats [] = refl
all_settled seats (given ∷ storage) = ap (λ (s : List Seat). all_in s storage) (one_settled seats given) ∙ all_settled (one_in seats given) storage

moves_settled : (seats : List Seat) (storage : List Storage) → moves_in (settled seats) storage ≡ moves_in seats storage
moves_settled seats [] = refl
moves_settled seats (given ∷ storage) =
    let cpu = home_of given in
    ap (λ (s : Seat). (come_home given s.node).moves ++ moves_in (one_in (settled seats) given) storage) (seat_settled seats cpu)
    ∙ ap (λ (s : List Seat). (taken_in seats given).moves ++ moves_in s storage) (one_settled seats given)
    ∙ ap (λ (moves : List Move). (taken_in seats given).moves ++ moves) (moves_settled (one_in seats given) storage)

one_finds : (seats : List Seat) (given : Storage) → Finds (settled seats) given → Finds seats given
one_finds seats given f =
    let cpu = home_of given in
    record {
      low = subst (λ (n : ℕ). cpu < n) (length-map seats none_returning) f.low;
      own = subst (λ (s : Seat). s.node.node.cpu ≡ cpu) (seat_settled seats cpu) f.own;
      there = subst (λ (s : Seat). IsOf s.node given) (seat_settled seats cpu) f.there;
    }

pub finds_settled : (seats : List Seat) (storage : List Storage) → AllFind (settled seats) storage → AllFind seats storage
finds_settled seats [] f = tt
finds_settled seats (given ∷ storage) f =
    (one_finds seats given f.0, finds_settled (one_in seats given) storage (subst (λ (s : List Seat). AllFind s storage) (one_settled seats given) f.1))

-- ---- some storage, and then more

moves_both : (seats : List Seat) (one two : List Storage) → moves_in seats (one ++ two) ≡ moves_in seats one ++ moves_in (all_in seats one) two
moves_both seats [] two = refl
moves_both seats (given ∷ one) two =
    let first = (taken_in seats given).moves in
    ap (λ (moves : List Move). first ++ moves) (moves_both (one_in seats given) one two)
    ∙ sym (append_assoc first (moves_in (one_in seats given) one) (moves_in (all_in (one_in seats given) one) two))

finds_both : (seats : List Seat) (one two : List Storage) → AllFind seats (one ++ two) → AllFind seats one × AllFind (all_in seats one) two
finds_both seats [] two f = (tt, f)
finds_both seats (given ∷ one) two f = let later = finds_both (one_in seats given) one two f.1 in ((f.0, later.0), later.1)

-- ---- what each seat sends

abbrev pub returns : List Seat → List (List Storage)
returns seats = map (λ (seat : Seat). seat.returning) seats

abbrev pub joined : List (List Storage) → List Storage
joined lists = flat_map (λ (list : List Storage). list) lists

sent_joined : (seats : List Seat) → sent seats ≡ joined (returns seats)
sent_joined [] = refl
sent_joined (seat ∷ seats) = ap (λ (rest : List Storage). seat.returning ++ rest) (sent_joined seats)

same_set : {A B : Type 0} (f : A → B) (xs : List A) (i : ℕ) (x d : A) → f x ≡ f (get_or xs i d) → map f (set xs i x) ≡ map f xs
same_set f [] i x d h = refl
same_set f (y ∷ ys) zero x d h = ap (λ b. b ∷ map f ys) h
same_set f (y ∷ ys) (suc i) x d h = ap (λ (bs : List _). f y ∷ bs) (same_set f ys i x d h)

all_return : (seats : List Seat) (storage : List Storage) → returns (all_in seats storage) ≡ returns seats
all_return seats [] = refl
all_return seats (given ∷ storage) =
    all_return (one_in seats given) storage
    ∙ same_set (λ (seat : Seat). seat.returning) seats (home_of given) (record (seat_in (home_of given) seats) { node = (taken_in seats given).node }) (fresh_seat 0 0 (home_of given)) refl

-- two parts of nothing
both_empty : {A : Type 0} (xs ys : List A) → xs ++ ys ≡ [] → (xs ≡ []) × (ys ≡ [])
both_empty [] ys h = (refl, h)
both_empty (x ∷ xs) ys h = let no : ⊥ = cc in absurd no

-- the first lists are empty, and the next one goes
joined_next : (lists : List (List Storage)) (i : ℕ) → i < length lists → joined (take i lists) ≡ [] → joined lists ≡ get_or lists i [] ++ joined (set lists i [])
joined_next [] i low none = absurd (omega arith)
joined_next (list ∷ lists) zero low none = refl
joined_next (list ∷ lists) (suc i) low none =
    let parts = both_empty list (joined (take i lists)) none in
    ap (λ (front : List Storage). front ++ joined lists) parts.0
    ∙ joined_next lists i (omega arith) parts.1
    ∙ ap (λ (front : List Storage). get_or lists i [] ++ (front ++ joined (set lists i []))) (sym parts.0)

joined_more : (lists : List (List Storage)) (i : ℕ) → i < length lists → joined (take i lists) ≡ [] → joined (take (suc i) (set lists i [])) ≡ []
joined_more [] i low none = absurd (omega arith)
joined_more (list ∷ lists) zero low none = refl
joined_more (list ∷ lists) (suc i) low none =
    let parts = both_empty list (joined (take i lists)) none in
    ap (λ (front : List Storage). front ++ joined (take (suc i) (set lists i []))) parts.0 ∙ joined_more lists i (omega arith) parts.1

none_sent : (seats : List Seat) → joined (returns seats) ≡ [] → settled seats ≡ seats
none_sent [] none = refl
none_sent (seat ∷ seats) none =
    let parts = both_empty seat.returning (joined (returns seats)) none in
    ap (λ (front : List Storage). record seat { returning = front } ∷ settled seats) (sym parts.0) ∙ ap (λ (rest : List Seat). seat ∷ rest) (none_sent seats parts.1)

-- ---- a worker's turn: what it freed of other nodes goes home

-- the seats with nothing on its way from this CPU
abbrev pub none_from : ℕ → List Seat → List Seat
none_from cpu seats = set seats cpu (none_returning (seat_in cpu seats))

-- nothing is on its way from the CPUs below
abbrev pub NoneBelow : ℕ → List Seat → Type 0
NoneBelow cpu seats = joined (take cpu (returns seats)) ≡ []

-- behind the turn of a CPU what goes home from the seats that are left is the rest of what goes home from the start
pub record Turn (cpu : ℕ) (seats after : List Seat) : Type 0 where
  pub finds : FindsHome after
  pub home : seats_home after ≡ seats_home seats
  pub moves : home_moves seats ≡ moves_in (none_from cpu seats) (seat_in cpu seats).returning ++ home_moves after
  pub below : NoneBelow (suc cpu) after

module _ (seats : List Seat) (cpu : ℕ) (low : cpu < length seats) (none : NoneBelow cpu seats) where
  abbrev now : List Storage
  now = (seat_in cpu seats).returning

  abbrev next : List Seat
  next = none_from cpu seats

  abbrev later : List Seat
  later = all_in next now

  next_settled : settled next ≡ settled seats
  next_settled = same_set none_returning seats cpu (none_returning (seat_in cpu seats)) (fresh_seat 0 0 cpu) refl

  next_returns : returns next ≡ set (returns seats) cpu []
  next_returns = map-set (λ (seat : Seat). seat.returning) seats cpu (none_returning (seat_in cpu seats))

  low_list : cpu < length (returns seats)
  low_list = subst (λ (n : ℕ). cpu < n) (sym (length-map seats (λ (seat : Seat). seat.returning))) low

  parts : sent seats ≡ now ++ sent next
  parts =
      sent_joined seats
      ∙ joined_next (returns seats) cpu low_list none
      ∙ ap (λ (list : List Storage). list ++ joined (set (returns seats) cpu [])) (get_mapped (λ (seat : Seat). seat.returning) seats cpu (fresh_seat 0 0 cpu) [] refl)
      ∙ ap (λ (lists : List (List Storage)). now ++ joined lists) (sym next_returns)
      ∙ ap (λ (rest : List Storage). now ++ rest) (sym (sent_joined next))

  later_settled : settled later ≡ all_in (settled seats) now
  later_settled = sym (all_settled next now) ∙ ap (λ (s : List Seat). all_in s now) next_settled

  later_sent : sent later ≡ sent next
  later_sent = sent_joined later ∙ ap joined (all_return next now) ∙ sym (sent_joined next)

  pub can_go : FindsHome seats → AllFind next now
  can_go f =
      finds_settled next now
      (subst (λ (s : List Seat). AllFind s now) (sym next_settled) (finds_both (settled seats) now (sent next) (subst (AllFind (settled seats)) parts f)).0)

  pub turn : FindsHome seats → Turn cpu seats later
  turn f =
      let rest = (finds_both (settled seats) now (sent next) (subst (AllFind (settled seats)) parts f)).1 in
      record {
        finds = subst (λ (s : List Seat). AllFind s (sent later)) (sym later_settled) (subst (AllFind (all_in (settled seats) now)) (sym later_sent) rest);
        home = ap (λ (s : List Seat). all_in s (sent later)) later_settled
            ∙ ap (all_in (all_in (settled seats) now)) later_sent
            ∙ sym (fold-append one_in (settled seats) now (sent next))
            ∙ ap (all_in (settled seats)) (sym parts);
        moves = ap (moves_in (settled seats)) parts
            ∙ moves_both (settled seats) now (sent next)
            ∙ ap (λ (moves : List Move). moves ++ moves_in (all_in (settled seats) now) (sent next)) (ap (λ (s : List Seat). moves_in s now) (sym next_settled) ∙ moves_settled next now)
            ∙ ap (λ (moves : List Move). moves_in next now ++ moves) (ap (λ (s : List Seat). moves_in s (sent next)) (sym later_settled) ∙ ap (moves_in (settled later)) (sym later_sent));
        below = ap (λ (lists : List (List Storage)). joined (take (suc cpu) lists)) (all_return next now ∙ next_returns) ∙ joined_more (returns seats) cpu low_list none;
      }

-- behind all turns nothing is on its way
pub record Over (seats : List Seat) : Type 0 where
  pub home : seats_home seats ≡ seats
  pub moves : home_moves seats ≡ []

pub over : (seats : List Seat) (count : ℕ) → length seats ≤ count → NoneBelow count seats → Over seats
over seats count all none =
    let whole : joined (returns seats) ≡ [] = ap joined (sym (take_all count (returns seats) (subst (λ (n : ℕ). n ≤ count) (sym (length-map seats (λ (seat : Seat). seat.returning))) all))) ∙ none in
    let gone : sent seats ≡ [] = sent_joined seats ∙ whole in
    record {
      home = ap (all_in (settled seats)) gone ∙ none_sent seats whole;
      moves = ap (moves_in (settled seats)) gone;
    }

-- ---- a machine

home_of_machine : (m : Machine) (storage : List Storage) → fold storage_home m storage ≡ with_home (all_in m.seats storage) (moves_in m.seats storage) m
home_of_machine m [] = ap (λ (moves : List Move). record m { tally = record m.tally { moves = moves } }) (sym (append-nil m.tally.moves))
home_of_machine m (given ∷ storage) =
    let seats = one_in m.seats given in
    home_of_machine (storage_home m given) storage
    ∙ ap (λ (moves : List Move). record m { seats = all_in seats storage; tally = record m.tally { moves = moves } }) (append_assoc m.tally.moves (taken_in m.seats given).moves (moves_in seats storage))

pub all_home_told : (m : Machine) → all_home m ≡ with_home (seats_home m.seats) (home_moves m.seats) m
all_home_told m = home_of_machine (none_on_its_way m) (on_its_way m)

-- Room for more nodes at the locations of sets.
use Rattle.std.specs.Prelude.{min}
use Rattle.std.proofs.Common.{◌≡◌, ℕ, zero, suc, ◌+◌, ◌-◌, ◌^◌, ◌<◌, ◌≤◌, ◌==◌, Bool, true, false, cond, refl, eqb-true, bit_and, List, [], ◌∷◌, ◌++◌, length, map, take, get_or, arith, ◌∙◌, add-one, Result, Ok, Err, OnOk}
use Rattle.std.proofs.Math.Nat.{min-le_right}
use Rattle.std.proofs.lemmas.Nat.{and_mask}
use Rattle.kdg_graph.proofs.Common.{AllByRecursion, Accesses, ids_left, HasMoreFor, HasRoomFor, HasTakenFor, HaveSameLanes, Location, times_named, reserved_of, room_at, rooms_of}

-- ---- each of several

pub all_mapped : {X : Type 0} (P Q : X → Type 0) (xs : List X) → ((x : X) → P x → Q x) → AllByRecursion P xs → AllByRecursion Q xs
all_mapped P Q [] each all = tt
all_mapped P Q (x ∷ xs) each all = (each x all.0, all_mapped P Q xs each all.1)

-- ---- room that is made for one set after another

pub on_ok : {T E : Type 0} (P Q : Type 0) (r : Result T E) → (P → Q) → OnOk r P → OnOk r Q
on_ok P Q (Ok x) step holds = step holds
on_ok P Q (Err e) step holds = holds

-- of several, one more names its locations
named_more : {X : Type 0} (set_of : X → Accesses) (xs : List X) (i : ℕ) (d : X) (loc : ℕ) → i < length xs → times_named (map set_of (take (suc i) xs)) loc ≡ times_named (map set_of (take i xs)) loc + times_named (set_of (get_or xs i d) ∷ []) loc
named_more set_of [] i d loc inside = absurd (omega (arith, inside))
named_more set_of (x ∷ xs) zero d loc inside = omega arith
named_more set_of (x ∷ xs) (suc i) d loc inside = omega (arith, named_more set_of xs i d loc (omega (arith, inside)))

pub more_named : {X : Type 0} (set_of : X → Accesses) (xs : List X) (i : ℕ) (d : X) (first before after : List ℕ) → i < length xs → HasMoreFor (map set_of (take i xs)) first before → HasMoreFor (set_of (get_or xs i d) ∷ []) before after → HasMoreFor (map set_of (take (i + 1) xs)) first after
more_named set_of xs i d first before after inside so_far one = rw add-one (λ loc. omega (arith, named_more set_of xs i d loc inside, so_far loc, one loc))

pub named-append : (sets others : List Accesses) (loc : ℕ) → times_named (sets ++ others) loc ≡ times_named sets loc + times_named others loc
named-append [] others loc = omega arith
named-append (set ∷ sets) others loc = omega (arith, named-append sets others loc)

-- what a reservation made room for has room
pub reserved_fits : (number : ℕ) (locations : List Location) (loc : ℕ) → room_at (reserved_of number locations) loc ≤ room_at (rooms_of locations) loc
reserved_fits number [] loc = omega arith
reserved_fits number (location ∷ locations) zero = fits _
  where
    fits : (test : Bool) → cond test (min location.reserved location.room) 0 ≤ location.room
    fits true = min-le_right location.reserved location.room
    fits false = omega arith
reserved_fits number (location ∷ locations) (suc loc) = reserved_fits number locations loc

-- room that was made for sets is there for them
pub room_for_all : (sets others : List Accesses) (number : ℕ) (first before : List ℕ) (locations : List Location) → HasMoreFor sets first before → HasMoreFor others before (reserved_of number locations) → HasRoomFor (sets ++ others) (rooms_of locations)
room_for_all sets others number first before locations made more loc = omega (arith, named-append sets others loc, made loc, more loc, reserved_fits number locations loc)

pub room_for : (sets : List Accesses) (number : ℕ) (first : List ℕ) (locations : List Location) → HasMoreFor sets first (reserved_of number locations) → HasRoomFor sets (rooms_of locations)
room_for sets number first locations made loc = omega (arith, made loc, reserved_fits number locations loc)

-- ---- room that is taken for one set after another

pub first_room : (set : Accesses) (sets : List Accesses) (rooms : List ℕ) → HasRoomFor (set ∷ sets) rooms → HasRoomFor (set ∷ []) rooms
first_room set sets rooms room loc = omega (arith, room loc)

-- where one of them had its place, the others have room left
pub room_left : (set : Accesses) (sets : List Accesses) (before after : List ℕ) → HasRoomFor (set ∷ sets) before → HasTakenFor (set ∷ []) before after → HasRoomFor sets after
room_left set sets before after room taken loc = omega (arith, room loc, taken loc)

-- what all take is what those that are left take
pub taken_left : (all : List Accesses) (set : Accesses) (sets : List Accesses) (first before after : List ℕ) → ((loc : ℕ) → room_at first loc + times_named (set ∷ sets) loc ≤ room_at before loc + times_named all loc) → HasTakenFor (set ∷ []) before after → (loc : ℕ) → room_at first loc + times_named sets loc ≤ room_at after loc + times_named all loc
taken_left all set sets first before after so_far taken loc = omega (arith, so_far loc, taken loc)

-- ---- the lanes

pub same_lanes_twice : (a b c : List Location) → HaveSameLanes a b → HaveSameLanes b c → HaveSameLanes a c
same_lanes_twice a b c first second loc access = second loc access ∙ first loc access

-- ---- ids that are left

-- where an id is left each key is one
pub key_is_id : (keys used key : ℕ) → 0 < ids_left keys used → key < keys → bit_and key (2 ^ 32 - 1) ≡ key
key_is_id keys used key left inside = and_mask key 32 ∙ omega (arith, inside, few (keys - 2 ^ 32 == 0) refl left)
  where
    few : (fits : Bool) → (keys - 2 ^ 32 == 0) ≡ fits → 0 < cond fits (keys - used) 0 → key < 2 ^ 32
    few true is some = omega (arith, eqb-true (keys - 2 ^ 32) 0 is, inside)
    few false is some = absurd (omega (arith, some))

-- The seats of a team, from the first split to the last join.
use Rattle.std.proofs.Common.{get_or, ◌≡◌, ◌==◌, not, ℕ, suc, ◌<◌, List, [], ◌∷◌, ◌++◌, map, length, refl, sym, ap, subst, ◌∙◌, arith}
use Rattle.std.specs.Prelude.{Contains, filter}
use Rattle.std.specs.List.{AllByRecursion, AllZip}
use Rattle.plain_laws.specs.Lists.{All-push, All-pushed}
use Rattle.plain_laws.specs.Ranges.{down_from, down_from-without_first}
use Rattle.graph_update.specs.Engine.{EngineState}
use Rattle.worker_gate.specs.Steps.{both_views, first_half, second_half}
use Rattle.worker_gate.specs.Turns.{HallState, SeatState}
use Rattle.free_pool.specs.Team.{HasWorked, IsReady, IsTeam, MayWork, up_to}
use Rattle.free_pool.specs.Turns.{IsSeated}
use Rattle.free_pool.proofs.Numbers.{last_number, no_number}

map_snoc : {X Y : Type 0} (f : X → Y) (xs : List X) (x : X) → map f (xs ++ x ∷ []) ≡ map f xs ++ f x ∷ []
map_snoc f [] x = refl
map_snoc f (y ∷ xs) x = ap (λ (rest : List _). f y ∷ rest) (map_snoc f xs x)

abbrev pub number_of : {S V : Type 0} → SeatState S V → ℕ
number_of seat = seat.view.number

module _ {A V : Type 0} where
  -- ---- joining

  module _ (hall : HallState (EngineState A V)) where
    -- of the others the last one has the greatest number
    pub last_of_others : (n : ℕ) (seats rest : List (SeatState (EngineState A V) V)) (last : SeatState (EngineState A V) V) → seats ≡ rest ++ last ∷ [] → map number_of seats ≡ up_to n → AllByRecursion (IsSeated hall) seats
        → (m : ℕ) × (n ≡ suc m) × (map number_of rest ≡ up_to m) × (last.view.number ≡ suc m) × AllByRecursion (IsSeated hall) rest × IsSeated hall last
    last_of_others n seats rest last is numbers members =
        let at = last_number n (map number_of rest) (number_of last) (sym (map_snoc number_of rest last) ∙ ap (map number_of) (sym is) ∙ numbers) in
        let all = All-pushed (IsSeated hall) rest last (subst (AllByRecursion (IsSeated hall)) is members) in
        (at.0, at.1, at.2, at.3, all.0, all.1)

    pub none_left : (n : ℕ) (seats : List (SeatState (EngineState A V) V)) → seats ≡ [] → map number_of seats ≡ up_to n → n ≡ 0
    none_left n seats none numbers = no_number n (sym (ap (map number_of) none) ∙ numbers)

    pub may_join : (n m : ℕ) (seat other : SeatState (EngineState A V) V) → n ≡ suc m → seat.view.unjoined ≡ down_from n → other.view.number ≡ suc m → Contains seat.view.unjoined other.view.number
    may_join n m seat other is unjoined number =
        subst (λ (xs : List ℕ). Contains xs other.view.number) (sym (unjoined ∙ ap down_from is))
        (subst (Contains (suc m ∷ down_from m)) (sym number) (0, omega arith, refl))

    module _ (seat other next : SeatState (EngineState A V) V) (is : next ≡ record seat { view = both_views seat.view other.view }) where
      pub joined_seated : IsSeated hall seat → IsSeated hall next
      joined_seated seated = record {
        here = ap (λ (s : SeatState (EngineState A V) V). s.hall) is ∙ seated.here;
        origin_is = ap (λ (s : SeatState (EngineState A V) V). s.view.origin) is ∙ seated.origin_is;
      }

      pub joined_number : next.view.number ≡ seat.view.number
      joined_number = ap number_of is

      pub joined_drained : next.view.drained ≡ seat.view.drained
      joined_drained = ap (λ (s : SeatState (EngineState A V) V). s.view.drained) is

      pub joined_unjoined : (n m : ℕ) → n ≡ suc m → seat.view.unjoined ≡ down_from n → other.view.number ≡ suc m → next.view.unjoined ≡ down_from m
      joined_unjoined n m same unjoined number =
          ap (λ (s : SeatState (EngineState A V) V). s.view.unjoined) is
          ∙ ap (λ (xs : List ℕ). filter (λ k. not (k == other.view.number)) xs) (unjoined ∙ ap down_from same)
          ∙ ap (λ (gone : ℕ). filter (λ k. not (k == gone)) (down_from (suc m))) number
          ∙ down_from-without_first m

    -- ---- splitting

    module _ (seat next : SeatState (EngineState A V) V) (is : next ≡ record seat { view = first_half seat.view }) where
      pub split_seated : IsSeated hall seat → IsSeated hall next
      split_seated seated = record {
        here = ap (λ (s : SeatState (EngineState A V) V). s.hall) is ∙ seated.here;
        origin_is = ap (λ (s : SeatState (EngineState A V) V). s.view.origin) is ∙ seated.origin_is;
      }

      pub split_unjoined : (n : ℕ) → seat.view.splits ≡ n → seat.view.unjoined ≡ down_from n → next.view.unjoined ≡ down_from (suc n)
      split_unjoined n splits unjoined =
          ap (λ (s : SeatState (EngineState A V) V). s.view.unjoined) is ∙ ap (λ (k : ℕ). suc k ∷ seat.view.unjoined) splits ∙ ap (λ (xs : List ℕ). suc n ∷ xs) unjoined

    -- a seat that was split off is ready for a worker
    pub split_ready : (others : ℕ) (at : HallState (EngineState A V)) (app : A) (seat other : SeatState (EngineState A V) V) → at ≡ hall → app ≡ hall.origin.app → IsSeated hall seat
        → other ≡ record { hall = at.id; view = second_half seat.view } → IsReady hall others at app other
    split_ready others at app seat other same own seated is = record {
      at_is = same;
      may = record {
        seated = subst (λ (h : HallState (EngineState A V)). IsSeated h other) (sym same) (record {
          here = ap (λ (s : SeatState (EngineState A V) V). s.hall) is ∙ ap (λ (h : HallState (EngineState A V)). h.id) same;
          origin_is = ap (λ (s : SeatState (EngineState A V) V). s.view.origin) is ∙ seated.origin_is;
        });
        app_is = own ∙ ap (λ (h : HallState (EngineState A V)). h.origin.app) (sym same);
        idle = ap (λ (s : SeatState (EngineState A V) V). s.view.jobs) is;
      };
      unjoined = λ first. absurd (not_first first);
    }
      where
        not_first : other.view.number ≡ 0 → ⊥
        not_first first = let number : other.view.number ≡ suc seat.view.splits = ap number_of is in absurd (omega (arith, number, first))

    pub own_ready : (others : ℕ) (at : HallState (EngineState A V)) (app : A) (seat : SeatState (EngineState A V) V) → at ≡ hall → app ≡ hall.origin.app → IsSeated hall seat → seat.view.jobs ≡ []
        → seat.view.unjoined ≡ down_from others → IsReady hall others at app seat
    own_ready others at app seat same own seated idle unjoined = record {
      at_is = same;
      may = record {
        seated = subst (λ (h : HallState (EngineState A V)). IsSeated h seat) (sym same) seated;
        app_is = own ∙ ap (λ (h : HallState (EngineState A V)). h.origin.app) (sym same);
        idle = idle;
      };
      unjoined = λ first. unjoined;
    }

    -- ---- working

    module _ {P Q : Type 0} (others : ℕ) (at : P → HallState (EngineState A V)) (app : P → A) (seat : P → SeatState (EngineState A V) V) (back : Q → SeatState (EngineState A V) V) where
      pub members_after : (posts : List P) (backs : List Q) → AllByRecursion (λ (post : P). IsReady hall others (at post) (app post) (seat post)) posts
          → AllZip (λ (post : P) (now : Q). HasWorked (at post) (seat post) (back now)) posts backs → AllByRecursion (IsSeated hall) (map back backs)
      members_after [] [] ready worked = tt
      members_after [] (now ∷ backs) ready worked = absurd worked
      members_after (post ∷ posts) [] ready worked = absurd worked
      members_after (post ∷ posts) (now ∷ backs) ready worked =
          (subst (λ (h : HallState (EngineState A V)). IsSeated h (back now)) ready.0.at_is worked.0.seated, members_after posts backs ready.1 worked.1)

      numbers_after : (posts : List P) (backs : List Q) → AllZip (λ (post : P) (now : Q). HasWorked (at post) (seat post) (back now)) posts backs
          → map number_of (map back backs) ≡ map (λ (post : P). number_of (seat post)) posts
      numbers_after [] [] worked = refl
      numbers_after [] (now ∷ backs) worked = absurd worked
      numbers_after (post ∷ posts) [] worked = absurd worked
      numbers_after (post ∷ posts) (now ∷ backs) worked =
          ap (λ (n : ℕ). n ∷ map number_of (map back backs)) worked.0.number ∙ ap (λ (ns : List ℕ). number_of (seat post) ∷ ns) (numbers_after posts backs worked.1)

      -- after their work the workers' seats are a team's, with that of the one that was ready to be the first
      pub team_after : (own : P) (now : SeatState (EngineState A V) V) (posts : List P) (backs : List Q) → IsReady hall others (at own) (app own) (seat own) → number_of (seat own) ≡ 0
          → HasWorked (at own) (seat own) now → map (λ (post : P). number_of (seat post)) posts ≡ up_to others
          → AllByRecursion (λ (post : P). IsReady hall others (at post) (app post) (seat post)) posts
          → AllZip (λ (post : P) (one : Q). HasWorked (at post) (seat post) (back one)) posts backs → IsTeam hall others now (map back backs)
      team_after own now posts backs own_ready first led numbers ready worked = record {
        seated = subst (λ (h : HallState (EngineState A V)). IsSeated h now) own_ready.at_is led.seated;
        first = led.number ∙ first;
        unjoined = led.unjoined ∙ own_ready.unjoined first;
        numbers = numbers_after posts backs worked ∙ numbers;
        members = members_after posts backs ready worked;
      }

      pub may_work : (posts : List P) → AllByRecursion (λ (post : P). IsReady hall others (at post) (app post) (seat post)) posts
          → AllByRecursion (λ (post : P). MayWork (at post) (app post) (seat post)) posts
      may_work [] ready = tt
      may_work (post ∷ posts) ready = (ready.0.may, may_work posts ready.1)

-- while seats are split off for the others: so many are, and each of their posts is ready
pub record IsPosted {A V P : Type 0} (hall : HallState (EngineState A V)) (others n : ℕ) (at : P → HallState (EngineState A V)) (app : P → A) (seat : P → SeatState (EngineState A V) V)
    (old own : SeatState (EngineState A V) V) (posts : List P) : Type 0 where
  pub seated : IsSeated hall own
  pub drained : own.view.drained ≡ old.view.drained
  pub idle : own.view.jobs ≡ []
  pub first : own.view.number ≡ 0
  pub splits : own.view.splits ≡ n
  pub unjoined : own.view.unjoined ≡ down_from n
  pub numbers : map (λ post. number_of (seat post)) posts ≡ up_to n
  pub ready : AllByRecursion (λ post. IsReady hall others (at post) (app post) (seat post)) posts

module _ {A V P : Type 0} (hall : HallState (EngineState A V)) (others n : ℕ) (at : P → HallState (EngineState A V)) (app : P → A) (seat : P → SeatState (EngineState A V) V)
    (old own : SeatState (EngineState A V) V) (posts : List P) (posted : IsPosted hall others n at app seat old own posts) where
  pub one_posted : (next : SeatState (EngineState A V) V) → next ≡ record own { view = first_half own.view } → (post : P) → at post ≡ hall → app post ≡ hall.origin.app
      → seat post ≡ record { hall = (at post).id; view = second_half own.view } → (now : List P) → now ≡ posts ++ post ∷ [] → IsPosted hall others (suc n) at app seat old next now
  one_posted next is post same app_is other now more = record {
    seated = split_seated hall own next is posted.seated;
    drained = ap (λ (s : SeatState (EngineState A V) V). s.view.drained) is ∙ posted.drained;
    idle = ap (λ (s : SeatState (EngineState A V) V). s.view.jobs) is ∙ posted.idle;
    first = ap number_of is ∙ posted.first;
    splits = ap (λ (s : SeatState (EngineState A V) V). s.view.splits) is ∙ ap (λ (k : ℕ). suc k) posted.splits;
    unjoined = split_unjoined hall own next is n posted.splits posted.unjoined;
    numbers =
        ap (map (λ (p : P). number_of (seat p))) more ∙ map_snoc (λ (p : P). number_of (seat p)) posts post
        ∙ ap (λ (ns : List ℕ). ns ++ number_of (seat post) ∷ []) posted.numbers
        ∙ ap (λ (k : ℕ). up_to n ++ k ∷ []) (ap number_of other ∙ ap (λ (k : ℕ). suc k) posted.splits);
    ready = subst (AllByRecursion (λ (p : P). IsReady hall others (at p) (app p) (seat p))) (sym more)
        (All-push (λ (p : P). IsReady hall others (at p) (app p) (seat p)) posts post posted.ready (split_ready hall others (at post) (app post) own (seat post) same app_is posted.seated other));
  }

  -- the caller's own post comes apart
  pub own_posted : n ≡ others → (post : P) → at post ≡ hall → app post ≡ hall.origin.app → seat post ≡ own → IsReady hall others (at post) (app post) (seat post)
  own_posted all post same app_is own_is =
      own_ready hall others (at post) (app post) (seat post) same app_is
      (subst (IsSeated hall) (sym own_is) posted.seated)
      (ap (λ (s : SeatState (EngineState A V) V). s.view.jobs) own_is ∙ posted.idle)
      (ap (λ (s : SeatState (EngineState A V) V). s.view.unjoined) own_is ∙ posted.unjoined ∙ ap down_from all)

-- while seats are joined to the first one: these are left, and it has drained what it had
pub record IsJoining {A V : Type 0} (hall : HallState (EngineState A V)) (old seat : SeatState (EngineState A V) V) (left : List (SeatState (EngineState A V) V)) : Type 0 where
  pub n : ℕ
  pub team : IsTeam hall n seat left
  pub drained : seat.view.drained ≡ old.view.drained

pub joining_begins : {A V : Type 0} (hall : HallState (EngineState A V)) (seat : SeatState (EngineState A V) V) (left : List (SeatState (EngineState A V) V))
    → (n : ℕ) × IsTeam hall n seat left → IsJoining hall seat seat left
joining_begins hall seat left team = record { n = team.0; team = team.1; drained = refl }

module _ {A V Q : Type 0} (hall : HallState (EngineState A V)) (back : Q → SeatState (EngineState A V) V) (n : ℕ) (seat : SeatState (EngineState A V) V) (posts rest : List Q) (last : Q)
    (is : posts ≡ rest ++ last ∷ []) (team : IsTeam hall n seat (map back posts)) where
  abbrev at : (m : ℕ) × (n ≡ suc m) × (map number_of (map back rest) ≡ up_to m) × ((back last).view.number ≡ suc m)
      × AllByRecursion (IsSeated hall) (map back rest) × IsSeated hall (back last)
  at = last_of_others hall n (map back posts) (map back rest) (back last) (ap (map back) is ∙ map_snoc back rest last) team.numbers team.members

  pub last_here : (back last).hall ≡ hall.id
  last_here = at.5.here

  pub last_unjoined : Contains seat.view.unjoined (back last).view.number
  last_unjoined = may_join hall n at.0 seat (back last) at.1 team.unjoined at.3

  team_goes_on : (next : SeatState (EngineState A V) V) → next ≡ record seat { view = both_views seat.view (back last).view } → IsTeam hall at.0 next (map back rest)
  team_goes_on next same = record {
    seated = joined_seated hall seat (back last) next same team.seated;
    first = joined_number hall seat (back last) next same ∙ team.first;
    unjoined = joined_unjoined hall seat (back last) next same n at.0 at.1 team.unjoined at.3;
    numbers = at.2;
    members = at.4;
  }

module _ {A V Q : Type 0} (hall : HallState (EngineState A V)) (back : Q → SeatState (EngineState A V) V) (old seat : SeatState (EngineState A V) V) where
  pub joining_goes_on : (posts rest : List Q) (last : Q) → posts ≡ rest ++ last ∷ [] → IsJoining hall old seat (map back posts)
      → (next : SeatState (EngineState A V) V) → next ≡ record seat { view = both_views seat.view (back last).view } → IsJoining hall old next (map back rest)
  joining_goes_on posts rest last is joining next same = record {
    n = _;
    team = team_goes_on hall back joining.n seat posts rest last is joining.team next same;
    drained = joined_drained hall seat (back last) next same ∙ joining.drained;
  }

  pub joining_ends : (posts : List Q) → posts ≡ [] → IsJoining hall old seat (map back posts) → seat.view.unjoined ≡ []
  joining_ends posts none joining =
      joining.team.unjoined ∙ ap down_from (none_left hall joining.n (map back posts) (ap (map back) none) joining.team.numbers)

-- what holds at each place
pub zipped : {X Y : Type 0} (R : X → Y → Type 0) (xs : List X) (ys : List Y) → length ys ≡ length xs → ((k : ℕ) (x : X) (d : Y) → k < length xs → R (get_or xs k x) (get_or ys k d)) → AllZip R xs ys
zipped R [] [] long each = tt
zipped R [] (y ∷ ys) long each = absurd (omega (arith, long))
zipped R (x ∷ xs) [] long each = absurd (omega (arith, long))
zipped R (x ∷ xs) (y ∷ ys) long each = (each 0 x y (omega arith), zipped R xs ys (omega (arith, long)) (λ k a d inside. each (suc k) a d (omega (arith, inside))))
